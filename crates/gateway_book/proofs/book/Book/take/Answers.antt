use Rattle.std.proofs.Common.{◌≡◌, Bool, false, if◌then◌else◌, List, sym, ap, subst, ◌∙◌}
use Rattle.gateway_book.proofs.Names.{act_decided, all_entries, answer_to, BookValue, case_value, decided, failure_answer, false≢true, fit_is_within, fortune_of, Given, given_at, HasStorage, history_of, HistoryEntry, is_closed, is_err, IsAnswered, IsFailure, Left, left_by, Outcome, prepared_of, PreparedValue, readied, recorded_if, reopening_of, size_of, taken, torn_stands, value_of}
use Rattle.entry_codec.specs.Room.{IsWithin}
use Rattle.gateway_book.proofs.CallerLemmas.{has_storage, running_is_sound}
use Rattle.gateway_book.proofs.Causing.{cause_then}
use Rattle.gateway_book.proofs.TakingLemmas.{history_is}
use Rattle.gateway_book.proofs.book.Book.take.Goals as goal

pub returns-in-Ok-clause-taken : goal.returns-in-Ok-clause-taken
returns-in-Ok-clause-taken g c = λ told.
    let old = c.args.self.now in
    let ready = c.ready.new.self in
    let new = c.respond.new.self in
    let from = c.args.from in
    let datagram = prepared_of c.args.request.now in
    let opened = c.respond.ensures.adds.stays.opened in
    let goes : is_closed ready.trail ≡ false = c.ready.ensures.closed ∙ ap is_err c.in-Ok.is in
    let same : value_of ready ≡ readied (fortune_of old new) (value_of old) =
    c.ready.ensures.moved told ∙ sym (ap (λ (b : Bool). readied (record { fails = b; reopening = reopening_of b (torn_stands old.trail) }) (value_of old)) opened) in
    let given : answer_to (history_of (value_of ready)) from (case_value c.case-case.result.now) (size_of ready) ≡ given_at (value_of ready) from datagram (size_of old) =
    (λ i. answer_to (history_of (value_of ready)) from (c.case-case.ensures.value i) (c.ready.ensures.stays.size i))
    ∙ sym (ap (λ (b : Bool). if b then failure_answer datagram else answer_to (history_of (value_of ready)) from datagram (size_of old)) goes) in
    let left : left_by (value_of ready) c.args.now c.args.who (decided (answer_to (history_of (value_of ready)) from (case_value c.case-case.result.now) (size_of ready)))
    ≡ taken (fortune_of old new) from datagram (size_of old) c.args.now c.args.who (value_of old) =
    ap (λ (d : Given). left_by (value_of ready) c.args.now c.args.who (decided d)) given
    ∙ ap (λ (v : BookValue). left_by v c.args.now c.args.who (decided (given_at v from datagram (size_of old)))) same in
    let was = c.respond.ensures.left told in
    record { value = was.value ∙ ap (λ (l : Left Outcome). l.value) left; answer = was.answer ∙ ap (λ (l : Left Outcome). l.answer) left }

pub returns-in-Ok-clause-everywhere : goal.returns-in-Ok-clause-everywhere
returns-in-Ok-clause-everywhere g c =
    let answered = subst (λ (d : PreparedValue). IsAnswered c.args.from d c.respond.result) c.case-case.ensures.value c.respond.ensures.everywhere.0 in
    let goes : is_closed c.respond.new.self.trail ≡ false =
    c.respond.ensures.adds.stays.opened ∙ c.ready.ensures.closed ∙ ap is_err c.in-Ok.is in
    record {
      answered = λ runs. answered;
      failed = λ broken. absurd (false≢true (sym goes ∙ broken));
      fault = λ tells. absurd (running_is_sound c.args.from c.args.request.now c.respond.result answered tells);
      counts = c.respond.ensures.everywhere.1;
    }

pub returns-in-Err-clause-everywhere : goal.returns-in-Err-clause-everywhere
returns-in-Err-clause-everywhere g c =
    let broken = c.ready.ensures.closed ∙ ap is_err c.in-Err.is in
    record {
      answered = λ runs. absurd (false≢true (sym runs ∙ broken));
      failed = λ closed. subst (λ (d : PreparedValue). IsFailure d c.fail.result) c.case-case.ensures.value c.fail.ensures.failed;
      fault = λ tells. broken;
      counts = c.fail.ensures.counted;
    }

pub returns-in-Ok-clause-storage : goal.returns-in-Ok-clause-storage
returns-in-Ok-clause-storage g c = λ told runs.
    let old = c.args.self.now in
    let ready = c.ready.new.self in
    let v = value_of ready in
    let size = size_of ready in
    let opened = c.respond.ensures.adds.stays.opened in
    let held : history_of v ≡ all_entries ready.trail = history_is ready.trail ready.cuts (c.ready.ensures.closed ∙ ap is_err c.in-Ok.is) in
    let within : IsWithin (history_of v) size =
    subst (λ (h : List HistoryEntry). IsWithin h size) (sym held) (fit_is_within size (all_entries ready.trail) (ready.followed.fit told)) in
    let answered = subst (λ (d : PreparedValue). IsAnswered c.args.from d c.respond.result) c.case-case.ensures.value c.respond.ensures.everywhere.0 in
    let laws = c.what_is_held_can_be_released.ensures in
    let stored : HasStorage (history_of v) c.args.from (case_value c.case-case.result.now) size c.respond.result =
    has_storage laws.release laws.cancel (history_of v) size c.args.from (case_value c.case-case.result.now)
    (recorded_if v c.args.now c.args.who (act_decided (decided (answer_to (history_of v) c.args.from (case_value c.case-case.result.now) size))))
    c.respond.result within (c.respond.ensures.left told).answer (running_is_sound c.args.from c.args.request.now c.respond.result answered) in
    subst (λ (h : List HistoryEntry). HasStorage h c.args.from (prepared_of c.args.request.now) (size_of old) c.respond.result)
    (ap history_of (c.ready.ensures.moved told)
    ∙ sym (ap (λ (b : Bool). history_of (readied (record { fails = b; reopening = reopening_of b (torn_stands old.trail) }) (value_of old))) opened))
    (rw (← c.ready.ensures.stays.size, ← c.case-case.ensures.value) stored)

pub returns-in-Err-clause-storage : goal.returns-in-Err-clause-storage
returns-in-Err-clause-storage g c = λ told runs. absurd (false≢true (sym runs ∙ (c.ready.ensures.closed ∙ ap is_err c.in-Err.is)))

pub returns-in-Ok-clause-cause : goal.returns-in-Ok-clause-cause
returns-in-Ok-clause-cause g c = cause_then c.ready.ensures.cause c.respond.ensures.adds
