use Rattle.std.proofs.Common.{◌≡◌, Bool, false, sym, ap, ◌∙◌}
use Rattle.gateway_book.proofs.Names.{fortune_of, is_closed, is_err, Left, Marked, open_time_of, readied, reopening_of, size_of, torn_stands, value_of}
use Rattle.gateway_book.proofs.Causing.{cause_then}
use Rattle.gateway_book.proofs.TakingLemmas.{tick_of_ready}
use Rattle.gateway_book.proofs.book.Book.tick.Goals as goal

pub returns-in-Ok-clause-cause : goal.returns-in-Ok-clause-cause
returns-in-Ok-clause-cause g c = cause_then c.ready.ensures.cause c.tick_if_due.ensures.adds

pub returns-in-Ok-clause-ticked : goal.returns-in-Ok-clause-ticked
returns-in-Ok-clause-ticked g c = λ told.
    let old = c.args.self.now in
    let ready = c.ready.new.self in
    let new = c.tick_if_due.new.self in
    let goes : is_closed ready.trail ≡ false = c.ready.ensures.closed ∙ ap is_err c.in-Ok.is in
    let opened = c.tick_if_due.ensures.adds.stays.opened in
    let moved : value_of ready ≡ readied (fortune_of old new) (value_of old) =
    c.ready.ensures.moved told
    ∙ sym (ap (λ (b : Bool). readied (record { fails = b; reopening = reopening_of b (torn_stands old.trail) }) (value_of old)) opened) in
    let same = tick_of_ready (fortune_of old new) (value_of old) (value_of ready) (open_time_of old) (size_of old) (open_time_of ready) (size_of ready) c.args.now c.args.who
    moved goes c.ready.ensures.stays.open_time c.ready.ensures.stays.size in
    let left = c.tick_if_due.ensures.left told in
    record {
      value = left.value ∙ ap (λ (l : Left Marked). l.value) same;
      answer = left.answer ∙ ap (λ (l : Left Marked). l.answer) same;
    }
