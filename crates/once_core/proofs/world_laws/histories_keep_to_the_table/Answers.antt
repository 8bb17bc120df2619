use Rattle.std.proofs.Common.{◌≡◌, true, List, subst, sym}
use Rattle.once_core.proofs.Names.{AllAdmitted, and_parts, default_size, firm_in, HistoryEntry, moves_on, observed, room_for, ruled_turns, state_of}
use Rattle.gateway_index.specs.Limits.{within_limits}
use Rattle.once_core.proofs.ForwardLemmas.{states_move}
use Rattle.once_core.proofs.GrowingLemmas.{turns_grow}
use Rattle.once_core.proofs.TableLemmas.{all_lawful, all_limited, firm_holds, firm_marks_due, lawful_plain, limited_plain, reached_keeps, turns_keep}
use Rattle.once_core.proofs.world_laws.histories_keep_to_the_table.Goals as goal

pub returns-clause-entries : goal.returns-clause-entries
returns-clause-entries c = λ w place reached.
    firm_holds lawful_plain w (reached_keeps lawful_plain w reached (all_lawful c.what_is_prepared_is_whole.ensures reached.all)) place

pub returns-clause-limits : goal.returns-clause-limits
returns-clause-limits c = λ w place reached limits.
    firm_holds limited_plain w (reached_keeps limited_plain w reached (all_limited c.what_is_prepared_is_whole.ensures reached.all limits)) place

pub returns-clause-by_default : goal.returns-clause-by_default
returns-clause-by_default c = λ h node act may. (and_parts (within_limits (observed h node) act) (room_for h default_size act) may).0

pub returns-clause-marks : goal.returns-clause-marks
returns-clause-marks c = λ w place reached.
    firm_marks_due lawful_plain w (reached_keeps lawful_plain w reached (all_lawful c.what_is_prepared_is_whole.ensures reached.all)) place

pub returns-clause-states : goal.returns-clause-states
returns-clause-states c = λ w later place key reached.
    let whole = c.what_is_prepared_is_whole.ensures in
    let goes = turns_grow w later place in
    let kept = turns_keep lawful_plain w later (all_lawful whole later) (reached_keeps lawful_plain w reached (all_lawful whole reached.all)) in
    let admitted = subst AllAdmitted goes.is (firm_holds lawful_plain (ruled_turns w later) kept place) in
    subst (λ (h : List HistoryEntry). moves_on (state_of key (firm_in w place)) (state_of key h) ≡ true) (sym goes.is)
    (states_move key (firm_in w place) goes.more admitted)
