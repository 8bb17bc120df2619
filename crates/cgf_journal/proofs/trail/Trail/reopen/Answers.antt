use Rattle.std.proofs.Common.{◌≡◌, ◌⊎◌, ◌+◌, true, false, List, [], ◌∷◌, ◌++◌, length, refl, sym, ◌∙◌, ap, arith, slice_get, rules}
use Rattle.cgf_journal.proofs.Names.{entries_in, entries_of-nil, false_from_ne_true, firm_entries, Ghosts, is_closed, is_founded, Journal, length-take-le, Place, Tallies, torn_stands, Trail, true_from_ne_false, waiting}
use Rattle.gate_journal.specs.Journal as journal
use Rattle.cgf_journal.proofs.Coming.{reopen_failed, reopen_planned}
use Rattle.cgf_journal.proofs.Tallies.{entries_in-push, still_enough}
use Rattle.cgf_journal.proofs.Sounds.{dropped, settled as settled_sound}
use Rattle.cgf_journal.proofs.Trails.{founded_is, get_firm, kept, leaves_either, on_err, places_count, same_free, same_room, settled}
use Rattle.cgf_journal.proofs.trail.Trail.reopen.Goals as goal

-- what the end tells of the torn batch
module _ {A : Type 0} {tells : Ghosts A} (t : Trail A tells) (new : Journal A tells) where
  stays : journal.end new ≡ journal.reopened_end t.journal → journal.end new ≡ journal.end t.journal → torn_stands t ≡ false
  stays is same = false_from_ne_true (torn_stands t) (λ stands. omega (arith, rw stands at is, same))

  goes : journal.end new ≡ journal.reopened_end t.journal → (journal.end new ≡ journal.end t.journal → ⊥) → torn_stands t ≡ true
  goes is other = true_from_ne_false (torn_stands t) (λ stands. other (rw stands at is))

  module _ (closed : is_closed t ≡ true) where
    list_goes : journal.batches new ≡ journal.reopened t.journal → torn_stands t ≡ true → journal.batches new ≡ journal.batches t.journal ++ t.waiting.octets ∷ []
    list_goes is stands = rw (stands, t.sound.torn_waits closed) at is

    end_goes : (journal.end new ≡ journal.end t.journal) ⊎ (journal.end new ≡ journal.end t.journal + 5 + length (journal.torn t.journal)) → (journal.end new ≡ journal.end t.journal → ⊥)
        → journal.end new ≡ journal.end t.journal + 5 + length t.waiting.octets
    end_goes one two = search rules

pub returns-in_err-reopen-clause-err : goal.returns-in_err-reopen-clause-err
returns-in_err-reopen-clause-err g c =
    on_err c.from_residual.result (kept _ _ c.reopen.ensures.stays.size c.reopen.ensures.stays.header c.in_err-reopen.ensures.err.closed (λ told. c.in_err-reopen.ensures.err.batches told) refl refl refl refl)

pub returns-in_err-reopen-clause-any_moment : goal.returns-in_err-reopen-clause-any_moment
returns-in_err-reopen-clause-any_moment g c = λ told.
    let t = c.args.self.now in
    leaves_either t _ _ told (t.sound.torn_waits c.requires.closed) (t.sound.some_torn c.requires.closed) c.area_laws.ensures c.reopen.ensures.stays.size (c.reopen.ensures.any_moment.any told)

pub invariant_of-self-then-end : goal.invariant_of-self-then-end
invariant_of-self-then-end g c =
    let t = c.args.self.now in
    let j = c.reopen.new.self in
    let ok = c.in_ok-reopen.ensures.ok in
    let same_end : journal.end j ≡ journal.end t.journal = sym c.end.ensures.place ∙ c.if-end.true ∙ c.end-end.ensures.place in
    record {
      enough = still_enough t.size t.places.reserved c.truncate.new.self.reserved t.tally.reserved c.revert.new.self.reserved c.truncate.ensures.reserved (ap (λ (v : Tallies). v.reserved) c.revert.ensures) t.enough;
      sound = rw (c.clear.ensures, t.sound.room, c.revert.ensures, c.truncate.ensures.items)
          (dropped t j (ap is_founded (c.reopen.ensures.stays.founded (founded_is _ t.sound.founded))) ok.ready c.reopen.ensures.stays.size same_end
          (λ told. rw (stays t j (ok.place told) same_end) at (ok.batches told)));
    }

pub returns-then-end-clause-ok : goal.returns-then-end-clause-ok
unfolding waiting
returns-then-end-clause-ok g c = search (rules, stays, entries_of-nil, length-take-le, settled)

pub returns-then-end-clause-dropped : goal.returns-then-end-clause-dropped
unfolding firm_entries
returns-then-end-clause-dropped g c = λ is. search (rules, stays, same_room, same_free)

pub returns-then-end-clause-any_moment : goal.returns-then-end-clause-any_moment
returns-then-end-clause-any_moment g c = λ told.
    let t = c.args.self.now in
    leaves_either t _ _ told (t.sound.torn_waits c.requires.closed) (t.sound.some_torn c.requires.closed) c.area_laws.ensures c.reopen.ensures.stays.size (c.reopen.ensures.any_moment.any told)

pub returns-then-end-clause-stays : goal.returns-then-end-clause-stays
returns-then-end-clause-stays g c = record {
  size = c.reopen.ensures.stays.size;
  header = c.reopen.ensures.stays.header;
  places = λ k place is. (is.0, ap (λ (ps : List Place). slice_get ps k) c.truncate.ensures.items ∙ get_firm c.args.self.now k place is);
}

pub invariant_of-self-2 : goal.invariant_of-self-2
invariant_of-self-2 g c =
    let t = c.args.self.now in
    let j = c.reopen.new.self in
    let ok = c.in_ok-reopen.ensures.ok in
    let other : journal.end j ≡ journal.end t.journal → ⊥ = λ e. c.if-end.false (c.end.ensures.place ∙ e ∙ sym c.end-end.ensures.place) in
    let counted : c.len-self.result ≡ length t.places.items = search rules in
    record {
      enough = still_enough t.size t.places.reserved t.places.reserved t.tally.reserved c.settle.new.self.reserved refl (ap (λ (v : Tallies). v.reserved) c.settle.ensures) t.enough;
      sound = rw (c.clear-2.ensures, t.sound.room, c.settle.ensures, counted)
          (settled_sound t j (ap is_founded (c.reopen.ensures.stays.founded (founded_is _ t.sound.founded))) ok.ready c.reopen.ensures.stays.size (end_goes t j c.requires.closed ok.end other) ok.settled.place
          (λ told. list_goes t j c.requires.closed (ok.batches told) (goes t j (ok.place told) other)) (t.sound.some_torn c.requires.closed));
    }

pub returns-clause-ok : goal.returns-clause-ok
unfolding waiting
returns-clause-ok g c = search (rules, goes, entries_of-nil, settled)

pub returns-clause-taken_in : goal.returns-clause-taken_in
unfolding firm_entries waiting
returns-clause-taken_in g c = λ is.
    let t = c.args.self.now in
    let j = c.reopen.new.self in
    let ok = c.in_ok-reopen.ensures.ok in
    let other : journal.end j ≡ journal.end t.journal → ⊥ = λ e. c.if-end.false (c.end.ensures.place ∙ e ∙ sym c.end-end.ensures.place) in
    let counted : c.len-self.result ≡ length t.places.items = search rules in
    record {
      listed = λ told. ap entries_in (list_goes t j c.requires.closed (ok.batches told) (goes t j (ok.place told) other)) ∙ entries_in-push (journal.batches t.journal) t.waiting.octets;
      count = counted ∙ places_count t;
      places = λ k place is. is;
    }

pub returns-clause-stays : goal.returns-clause-stays
returns-clause-stays g c = search rules

pub returns-clause-any_moment : goal.returns-clause-any_moment
returns-clause-any_moment g c = λ told.
    let t = c.args.self.now in
    leaves_either t _ _ told (t.sound.torn_waits c.requires.closed) (t.sound.some_torn c.requires.closed) c.area_laws.ensures c.reopen.ensures.stays.size (c.reopen.ensures.any_moment.any told)

pub returns-in_err-reopen-clause-planned : goal.returns-in_err-reopen-clause-planned
returns-in_err-reopen-clause-planned g c = search (rules, reopen_failed)

pub returns-then-end-clause-planned : goal.returns-then-end-clause-planned
returns-then-end-clause-planned g c = reopen_planned _ _ _ c.in_ok-reopen.ensures.planned

pub returns-clause-planned : goal.returns-clause-planned
returns-clause-planned g c = reopen_planned _ _ _ c.in_ok-reopen.ensures.planned
