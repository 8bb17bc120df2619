use Rattle.std.proofs.Common.{false, if◌then◌else◌, refl, sym, ap, ◌∙◌, arith}
use Rattle.gateway_book.proofs.Names.{all_entries, area_of, firm_entries, has_room, HistoryEntry, Start, Totals, value_of}
use Rattle.gateway_book.proofs.Openings.{start_added, start_is_fit, start_left_out}
use Rattle.gateway_book.proofs.StandingLemmas.{counting_firm, stands_firm}
use Rattle.gateway_book.proofs.TakingLemmas.{followed_added}
use Rattle.gateway_book.proofs.book.Book.start.Goals as goal

pub invariant_of-self : goal.invariant_of-self
invariant_of-self g c =
    let old = c.args.self.now in
    let size = g.A.Area.size (area_of old.trail) in
    let e : HistoryEntry = record { moment = c.totals.result.moment; caller = record { session = 0; serial = 0 }; act = Start } in
    record {
      followed = followed_added old.followed c.record.ensures
          (λ told. start_is_fit size (all_entries old.trail) e (old.followed.fit told)
          (ap (λ (t : Totals). t.moment) (c.totals.ensures ∙ c.an_index_tells_its_history.ensures.totals false old.index (all_entries old.trail) (old.followed.live told)))
          refl (ap (λ b. has_room (if b then firm_entries old.trail else all_entries old.trail) e size) (sym c.requires.ready)
          ∙ sym (c.room.ensures.room told) ∙ c.if-not-room.false));
      stands = stands_firm old.stands c.record.ensures.stays;
      counts = counting_firm old.counts c.record.ensures.stays;
    }

pub record-requires-clause-may_come : goal.record-requires-clause-may_come
record-requires-clause-may_come g c = refl

pub record-requires-clause-free : goal.record-requires-clause-free
record-requires-clause-free g c = omega (arith, c.requires.emptied)

pub returns : goal.returns
returns g c =
    let old = c.args.self.now in
    let added = c.record.ensures in
    let size = g.A.Area.size (area_of old.trail) in
    let e : HistoryEntry = record { moment = c.totals.result.moment; caller = record { session = 0; serial = 0 }; act = Start } in
    record {
      value = λ told.
          (λ i. record { firm = added.stays.listed i; rest = added.pushed.waits i; cuts = old.cuts; is_broken = added.stays.opened i })
          ∙ start_added (value_of old) size e c.requires.ready
          (ap (λ (t : Totals). t.moment) (c.totals.ensures ∙ c.an_index_tells_its_history.ensures.totals false old.index (all_entries old.trail) (old.followed.live told)))
          refl refl (ap (λ b. has_room (if b then firm_entries old.trail else all_entries old.trail) e size) (sym c.requires.ready)
          ∙ sym (c.room.ensures.room told) ∙ c.if-not-room.false);
      whole = added.stays.opened ∙ c.requires.ready;
      uncut = refl;
      area = added.stays.area;
      named = added.stays.header;
      set = refl;
    }

pub returns-then-not-room : goal.returns-then-not-room
returns-then-not-room g c =
    let old = c.args.self.now in
    let size = g.A.Area.size (area_of old.trail) in
    let e : HistoryEntry = record { moment = c.totals.result.moment; caller = record { session = 0; serial = 0 }; act = Start } in
    record {
      value = λ told. start_left_out (value_of old) size e c.requires.ready
          (ap (λ (t : Totals). t.moment) (c.totals.ensures ∙ c.an_index_tells_its_history.ensures.totals false old.index (all_entries old.trail) (old.followed.live told)))
          refl refl (ap (λ b. has_room (if b then firm_entries old.trail else all_entries old.trail) e size) (sym c.requires.ready)
          ∙ sym (c.room.ensures.room told) ∙ c.if-not-room.true);
      whole = c.requires.ready;
      uncut = refl;
      area = refl;
      named = refl;
      set = refl;
    }
