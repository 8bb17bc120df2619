use Rattle.std.proofs.Common.{◌≡◌, drop}
use Rattle.route_filter.specs.Words.{number_up_to}
use Rattle.route_filter.proofs.Digits.{number_after}
use Rattle.route_filter.proofs.text.number.Given as goal

-- the digits that are left say the number, behind those before
abbrev pub invariant-loop-octet : goal.invariant-loop-octet
invariant-loop-octet l = number_after l.most l.value (drop l.octet-index l.word) ≡ number_up_to l.most l.word
