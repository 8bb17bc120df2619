use Rattle.std.proofs.Common.{◌≡◌, ℕ, true, false, length, sym, ap, ◌∙◌, Bool}
use Rattle.gateway_book.proofs.Names.{act_view, all_entries, BookValue, entry_of, history_of, made_if, Mark, marked_at, recorded, room_for, size_of, value_of}
use Rattle.gateway_book.specs.declared.outcome.Marked.TheVariants as marked
use Rattle.gateway_book.proofs.TakingLemmas.{mark_may_come, put_is_recorded, room_of_mark, room_of_open, history_is}
use Rattle.gateway_book.proofs.book.Book.mark.Goals as goal

pub returns-then-not-room-clause-left : goal.returns-then-not-room-clause-left
returns-then-not-room-clause-left g c = λ told.
    let book = c.args.self.now in
    let act = act_view c.args.act in
    let moment = c.moment_after-moment.result in
    let all = all_entries book.trail in
    let room : room_for all (size_of book) act ≡ false =
    sym (room_of_open book.trail (entry_of moment c.args.who act) c.requires.ready ∙ room_of_mark (size_of book) all c.args.now moment c.args.who act (c.moment_after-moment.ensures.after told))
    ∙ sym (c.room.ensures.room told) ∙ c.if-not-room.true in
    let made = sym (ap (λ (b : Bool). made_if b act) room) in
    record {
      value = ap (λ (m : Mark). (marked_at (value_of book) c.args.now c.args.who m).value) made;
      answer = ap (λ (m : Mark). (marked_at (value_of book) c.args.now c.args.who m).answer) made;
    }

pub returns-clause-left : goal.returns-clause-left
returns-clause-left g c = λ told.
    let book = c.args.self.now in
    let new = c.put.new.self in
    let act = act_view c.args.act in
    let moment = c.moment_after-moment.result in
    let at = c.moment_after-moment.ensures.after told in
    let all = all_entries book.trail in
    let room : room_for all (size_of book) act ≡ true =
    sym (room_of_open book.trail (entry_of moment c.args.who act) c.requires.ready ∙ room_of_mark (size_of book) all c.args.now moment c.args.who act at)
    ∙ sym (c.room.ensures.room told) ∙ c.if-not-room.false in
    let made = sym (ap (λ (b : Bool). made_if b act) room) in
    let value : value_of new ≡ recorded (value_of book) c.args.now c.args.who act =
    c.put.ensures.added ∙ put_is_recorded (value_of book) all c.args.now moment c.args.who act (history_is book.trail book.cuts c.requires.ready) at in
    record {
      value = value ∙ ap (λ (m : Mark). (marked_at (value_of book) c.args.now c.args.who m).value) made;
      answer =
          ap (λ (n : ℕ). marked.Made n new.cuts) (c.length.ensures.length told)
          ∙ ap (λ (v : BookValue). marked.Made (length (history_of v)) v.cuts) value
          ∙ ap (λ (m : Mark). (marked_at (value_of book) c.args.now c.args.who m).answer) made;
    }

pub put-requires-clause-may_come : goal.put-requires-clause-may_come
put-requires-clause-may_come g c = mark_may_come c.args.self.now.index (act_view c.args.act) c.requires.closes
