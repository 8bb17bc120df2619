use Rattle.std.proofs.Common.{refl}
use Rattle.gtpp_elements.specs.Reading.{elements_left}
use Rattle.ber_frame.specs.Checked.{checked, inner_values_at, value_at}
use Rattle.ber_frame.specs.Reading.{groups_at, head_at, identifier_at, length_at, long_length, octets_number}
use Rattle.file_rotate.specs.Division.{ends_after, ends_before, run_limit_reached}
use Rattle.file_writer.specs.Calls.{calls_below}
use Rattle.replay_trials.proofs.worked.a_failure_of_a_shelf_as_worked.Goals as goal

pub returns-clause-fails : goal.returns-clause-fails
unfolding elements_left checked inner_values_at value_at groups_at head_at identifier_at length_at long_length octets_number ends_after ends_before run_limit_reached calls_below
returns-clause-fails c = refl

pub returns-clause-told : goal.returns-clause-told
unfolding elements_left checked inner_values_at value_at groups_at head_at identifier_at length_at long_length octets_number ends_after ends_before run_limit_reached calls_below
returns-clause-told c = refl

pub returns-clause-again : goal.returns-clause-again
unfolding elements_left checked inner_values_at value_at groups_at head_at identifier_at length_at long_length octets_number ends_after ends_before run_limit_reached calls_below
returns-clause-again c = refl

pub returns-clause-beyond : goal.returns-clause-beyond
unfolding elements_left checked inner_values_at value_at groups_at head_at identifier_at length_at long_length octets_number ends_after ends_before run_limit_reached calls_below
returns-clause-beyond c = refl
