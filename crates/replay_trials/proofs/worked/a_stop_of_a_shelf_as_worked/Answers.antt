use Rattle.std.proofs.Common.{refl}
use Rattle.gtpp_elements.specs.Reading.{elements_left}
use Rattle.ber_frame.specs.Checked.{checked, inner_values_at, value_at}
use Rattle.ber_frame.specs.Reading.{groups_at, head_at, identifier_at, length_at, long_length, octets_number}
use Rattle.file_rotate.specs.Division.{ends_after, ends_before, run_limit_reached}
use Rattle.file_writer.specs.Calls.{calls_below}
use Rattle.replay_trials.proofs.worked.a_stop_of_a_shelf_as_worked.Goals as goal

pub returns-clause-early : goal.returns-clause-early
unfolding elements_left checked inner_values_at value_at groups_at head_at identifier_at length_at long_length octets_number ends_after ends_before run_limit_reached calls_below
returns-clause-early c = refl

pub returns-clause-old : goal.returns-clause-old
unfolding elements_left checked inner_values_at value_at groups_at head_at identifier_at length_at long_length octets_number ends_after ends_before run_limit_reached calls_below
returns-clause-old c = refl

pub returns-clause-rot : goal.returns-clause-rot
unfolding elements_left checked inner_values_at value_at groups_at head_at identifier_at length_at long_length octets_number ends_after ends_before run_limit_reached calls_below
returns-clause-rot c = refl

pub returns-clause-new : goal.returns-clause-new
unfolding elements_left checked inner_values_at value_at groups_at head_at identifier_at length_at long_length octets_number ends_after ends_before run_limit_reached calls_below
returns-clause-new c = refl

pub returns-clause-told : goal.returns-clause-told
unfolding elements_left checked inner_values_at value_at groups_at head_at identifier_at length_at long_length octets_number ends_after ends_before run_limit_reached calls_below
returns-clause-told c = refl

pub returns-clause-again : goal.returns-clause-again
unfolding elements_left checked inner_values_at value_at groups_at head_at identifier_at length_at long_length octets_number ends_after ends_before run_limit_reached calls_below
returns-clause-again c = refl

pub returns-clause-once : goal.returns-clause-once
unfolding elements_left checked inner_values_at value_at groups_at head_at identifier_at length_at long_length octets_number ends_after ends_before run_limit_reached calls_below
returns-clause-once c = refl
