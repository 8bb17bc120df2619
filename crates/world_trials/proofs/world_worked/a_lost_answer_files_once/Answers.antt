use Rattle.std.proofs.Common.{refl}
use Rattle.gtpp_elements.specs.Reading.{elements_left}
use Rattle.ber_frame.specs.Checked.{checked, inner_values_at, value_at}
use Rattle.ber_frame.specs.Reading.{groups_at, head_at, identifier_at, length_at, long_length, octets_number}
use Rattle.world_trials.proofs.world_worked.a_lost_answer_files_once.Goals as goal

pub returns-clause-entries : goal.returns-clause-entries
unfolding elements_left checked inner_values_at value_at groups_at head_at identifier_at length_at long_length octets_number
returns-clause-entries c = refl

pub returns-clause-packets : goal.returns-clause-packets
unfolding elements_left checked inner_values_at value_at groups_at head_at identifier_at length_at long_length octets_number
returns-clause-packets c = refl

pub returns-clause-messages : goal.returns-clause-messages
unfolding elements_left checked inner_values_at value_at groups_at head_at identifier_at length_at long_length octets_number
returns-clause-messages c = refl
