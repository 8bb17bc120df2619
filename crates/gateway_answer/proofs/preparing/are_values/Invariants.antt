use Rattle.std.proofs.Common.{◌≡◌, length}
use Rattle.std.specs.List.{list_all}
use Rattle.ber_frame.specs.Checked.{is_one_value}
use Rattle.gateway_answer.proofs.preparing.are_values.Given as goal

-- all records are values just where those that are left are
abbrev pub invariant-loop-octets : goal.invariant-loop-octets
invariant-loop-octets l = list_all is_one_value l.records ≡ list_all is_one_value l.fn.records

abbrev pub decreases-loop-octets : goal.decreases-loop-octets
decreases-loop-octets l = length l.records
