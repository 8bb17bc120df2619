use Rattle.std.proofs.Common.{refl}
use Rattle.gtpp_elements.specs.Reading.{elements_left}
use Rattle.ber_frame.specs.Checked.{checked, inner_values_at, value_at}
use Rattle.ber_frame.specs.Reading.{groups_at, head_at, identifier_at, length_at, long_length, octets_number}
use Rattle.replay_trials.proofs.worked.a_failure_at_the_fourth_call_is_found_whole.Goals as goal

pub returns-clause-early : goal.returns-clause-early
unfolding elements_left checked inner_values_at value_at groups_at head_at identifier_at length_at long_length octets_number
returns-clause-early c = refl

pub returns-clause-late : goal.returns-clause-late
unfolding elements_left checked inner_values_at value_at groups_at head_at identifier_at length_at long_length octets_number
returns-clause-late c = refl
