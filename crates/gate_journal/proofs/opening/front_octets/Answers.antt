use Rattle.std.proofs.Common.{List, ℕ, [], ◌∷◌, ◌++◌, ◌∙◌, ap, drop, arith}
use Rattle.std.proofs.lemmas.List.{take_all, length-drop}
use Rattle.gate_journal.proofs.opening.front_octets.Goals as goal

pub returns : goal.returns
returns c = ap (λ (l : List ℕ). l ++ 0 ∷ []) (c.copy_from_slice.ensures.after ∙ take_all 31 (drop 1 c.args.header.now) (omega (arith, length-drop 1 c.args.header.now, c.told-header)))
