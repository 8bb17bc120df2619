use Rattle.std.proofs.Common.{◌≡◌, ℕ, ◌+◌, ◌*◌, ◌-◌, ◌<◌, ◌≤◌, true, false, List, [], ◌∷◌, ◌++◌, length, refl, sym, ◌∙◌, ap, append_assoc, arith, length-append, slice_get}
use Rattle.cgf_journal.proofs.Names.{area_of, capacity_of, cheapest_hold, cost_of, entries_of, entry_length, entry_view, Err, firm_entries, Ghosts, has_room_of, HistoryEntry, is_closed, length_of_spelling, longest_batch, Ok, OnOk, Place, Result, slice_get_within, spelling, Tallies, Trail, waiting}
use Rattle.gw_base.specs.Buffer.{Buffered}
use Rattle.gate_journal.specs.Journal as journal
use Rattle.gw_base.specs.declared.fault.Full.{Full}
use Rattle.cgf_journal.proofs.Placing.{get_left}
use Rattle.cgf_journal.proofs.Tallies.{still_enough}
use Rattle.cgf_journal.proofs.Sounds.{dear_places, pending-push, pushed}
use Rattle.cgf_journal.proofs.Trails.{room_costs}
use Rattle.cgf_journal.proofs.trail.Trail.push.Goals as goal

ok_only : {P : Type 0} (r : Result (Unit {0}) Full) → ((free : ℕ) → r ≡ Err (record { free = free }) → ⊥) → OnOk r P → P
ok_only (Ok x) none is = is
ok_only (Err fault) none is = absurd (none fault.free refl)

-- where there is room the cost is left, and so a place and a key
module _ {A : Type 0} {tells : Ghosts A} (t : Trail A tells) (e : HistoryEntry) (opened : is_closed t ≡ false) (room : has_room_of t e ≡ true) where
  costs_left : t.tally.live.costs + cost_of e ≤ capacity_of (tells.size (area_of t))
  unfolding has_room_of
  costs_left = room_costs t.tally.live e (tells.size (area_of t)) (rw opened at room)

  place_left : length t.places.items < t.places.reserved
  place_left = omega (arith, costs_left, t.enough.places_last, t.sound.sized, dear_places t)

  key_left : t.tally.live.costs + cost_of e < cheapest_hold * (t.tally.reserved + 1)
  key_left = omega (arith, costs_left, t.enough.keys_last, t.sound.sized)

pub invariant_of-self : goal.invariant_of-self
invariant_of-self g c =
    let t = c.args.self.now in
    let e = entry_view c.args.entry.now in
    let place : Place = record { at = c.end.result + 5 + length c.octets.result.now; length = c.cost-length.result - 5 } in
    let at_is : place.at ≡ journal.end t.journal + 5 + length t.waiting.octets = omega (arith, ap length c.octets.ensures, c.end.ensures.place) in
    let length_is : place.length ≡ entry_length e = omega (arith, c.cost-length.ensures) in
    let short : length t.waiting.octets + entry_length e ≤ longest_batch = omega (arith, c.if-free-length.false, c.free-free.ensures, c.cost-length.ensures, t.sound.room) in
    let none : (free : ℕ) → c.write.result ≡ Err (record { free = free }) → ⊥ =
    λ free failed. let full = (c.write.ensures.full free).0 failed in omega (arith, full.0, full.1, short, t.sound.room) in
    record {
      enough = still_enough t.size t.places.reserved c.note.new.places.reserved t.tally.reserved c.note.new.tally.reserved c.note.ensures.reserved (ap (λ (v : Tallies). v.reserved) c.note.ensures.tally) t.enough;
      sound = rw (ok_only c.write.result none c.write.ensures.written, c.note.ensures.place, c.note.ensures.tally)
          (pushed t c.entries_are_read_back.ensures e c.write.ensures.fits place at_is length_is c.requires.ready short (costs_left t e c.requires.ready c.requires.room));
    }

pub note-requires-clause-place : goal.note-requires-clause-place
note-requires-clause-place g c = place_left c.args.self.now (entry_view c.args.entry.now) c.requires.ready c.requires.room

pub note-requires-clause-key : goal.note-requires-clause-key
note-requires-clause-key g c = key_left c.args.self.now (entry_view c.args.entry.now) c.requires.ready c.requires.room

pub returns-clause-ok : goal.returns-clause-ok
unfolding firm_entries waiting
returns-clause-ok g c =
    let t = c.args.self.now in
    let e = entry_view c.args.entry.now in
    let octets : length c.write.new.into.octets ≡ length (t.waiting.octets ++ spelling e) = ap (λ (b : Buffered). length b.octets) c.in-Ok.ensures.written in
    let waits = ap (λ (b : Buffered). entries_of b.octets) c.in-Ok.ensures.written ∙ pending-push t c.entries_are_read_back.ensures e c.write.ensures.fits in
    let more : length c.note.new.places.items ≡ length t.places.items + 1 = ap (λ (ps : List Place). length ps) c.note.ensures.place ∙ length-append t.places.items _ in
    record {
      listed = rw c.requires.ready
          (ap (λ (h : List HistoryEntry). firm_entries t ++ h) waits ∙ sym (append_assoc (firm_entries t) (waiting t) (e ∷ [])));
      waits = waits;
      octets = omega (arith, octets, length-append t.waiting.octets (spelling e), length_of_spelling e);
      count = rw c.requires.ready more;
    }

pub returns-clause-stays : goal.returns-clause-stays
unfolding firm_entries
returns-clause-stays g c =
    let t = c.args.self.now in
    record {
      listed = refl;
      count = refl;
      places = λ k place is. ap (λ (ps : List Place). slice_get ps k) c.note.ensures.place ∙ get_left t.places.items _ k (slice_get_within t.places.items k place is) ∙ is;
      opened = refl;
      area = refl;
      header = refl;
    }
