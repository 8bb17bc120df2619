use Rattle.std.proofs.Common.{refl}
use Rattle.gtpp_elements.specs.Reading.{elements_left}
use Rattle.ber_frame.specs.Checked.{checked, inner_values_at, value_at}
use Rattle.ber_frame.specs.Reading.{groups_at, head_at, identifier_at, length_at, long_length, octets_number}
use Rattle.replay_trials.proofs.worked.a_stop_at_the_third_call_keeps_what_was_written.Goals as goal

pub returns-clause-early : goal.returns-clause-early
unfolding elements_left checked inner_values_at value_at groups_at head_at identifier_at length_at long_length octets_number
returns-clause-early c = refl

pub returns-clause-old : goal.returns-clause-old
unfolding elements_left checked inner_values_at value_at groups_at head_at identifier_at length_at long_length octets_number
returns-clause-old c = refl

pub returns-clause-new : goal.returns-clause-new
unfolding elements_left checked inner_values_at value_at groups_at head_at identifier_at length_at long_length octets_number
returns-clause-new c = refl

pub returns-clause-last : goal.returns-clause-last
unfolding elements_left checked inner_values_at value_at groups_at head_at identifier_at length_at long_length octets_number
returns-clause-last c = refl

pub returns-clause-told : goal.returns-clause-told
unfolding elements_left checked inner_values_at value_at groups_at head_at identifier_at length_at long_length octets_number
returns-clause-told c = refl
