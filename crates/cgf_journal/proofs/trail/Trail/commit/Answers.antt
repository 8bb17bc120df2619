use Rattle.std.proofs.Common.{◌≡◌, ◌≢◌, inl, ℕ, ◌+◌, ◌==◌, Bool, true, false, List, [], length, refl, sym, ◌∙◌, ap, arith, rules}
use Rattle.cgf_journal.proofs.Names.{begin, entries_in, entries_of-nil, eqb-false, eqb-true, Err, firm_entries, is_founded, nil_from_length, Tallies, waiting}
use Rattle.gate_journal.specs.Journal as journal
use Rattle.cgf_journal.proofs.Coming.{commit_planned}
use Rattle.cgf_journal.proofs.Tallies.{entries_in-push, still_enough}
use Rattle.cgf_journal.proofs.Sounds.{fits, settled as settled_sound}
use Rattle.cgf_journal.proofs.Trails.{entries_firm, entries_open, leaves_either, length_firm, same_free, same_room, settled, waiting-none, waiting_octets-none}
use Rattle.cgf_journal.proofs.trail.Trail.commit.Goals as goal

none_wait : {octets read : List ℕ} {b : Bool} → read ≡ octets → b ≡ (length read == 0) → b ≡ true → length octets ≡ 0
none_wait {octets} {read} same is empty = ap length (sym same) ∙ eqb-true (length read) 0 (sym is ∙ empty)

some_wait : {octets read : List ℕ} {b : Bool} → read ≡ octets → b ≡ (length read == 0) → b ≡ false → octets ≢ []
some_wait {octets} {read} same is filled none = eqb-false (length read) 0 (sym is ∙ filled) (ap length (same ∙ none))

pub returns-then-is_empty-clause-ok : goal.returns-then-is_empty-clause-ok
unfolding firm_entries waiting
returns-then-is_empty-clause-ok g c =
    let t = c.args.self.now in
    let none = none_wait c.octets.ensures c.is_empty.ensures c.if-is_empty.true in
    record {
      listed = λ told. sym (entries_firm t none);
      none_waits = waiting-none t none;
      emptied = none;
      count = sym (length_firm t none);
      firm_count = refl;
      length = length_firm t none;
      room = same_room _ _ refl refl;
      free = same_free _ _ refl refl;
      settled = settled _ c.area_laws.ensures (c.is_closed-is_closed.ensures.settled c.if-prove.false);
    }

pub returns-then-is_empty-clause-any_moment : goal.returns-then-is_empty-clause-any_moment
returns-then-is_empty-clause-any_moment g c = λ told.
    let t = c.args.self.now in
    begin g.A.Area c.area_laws.ensures.only_now _ _ (λ d left. inl ((settled t c.area_laws.ensures (c.is_closed-is_closed.ensures.settled c.if-prove.false)).crash told d left))

pub invariant_of-self-in-Ok : goal.invariant_of-self-in-Ok
invariant_of-self-in-Ok g c =
    let t = c.args.self.now in
    let some = some_wait c.octets.ensures c.is_empty.ensures c.if-is_empty.false in
    let counted : c.len-self.result ≡ length t.places.items = search rules in
    let ok = c.in-Ok.ensures.ok in
    record {
      enough = still_enough t.size t.places.reserved t.places.reserved t.tally.reserved c.settle.new.self.reserved refl (ap (λ (v : Tallies). v.reserved) c.settle.ensures) t.enough;
      sound = rw (c.clear.ensures, t.sound.room, c.settle.ensures, counted)
          (settled_sound t c.append.new.self (ap is_founded c.append.ensures.stays.front ∙ t.sound.founded) ok.ready c.append.ensures.stays.size
          (ok.end ∙ ap (λ (l : List ℕ). journal.end t.journal + 5 + length l) c.octets-2.ensures) ok.settled.place (λ told. rw c.octets-2.ensures at (ok.batches told)) some);
    }

pub unreachable-requires : goal.unreachable-requires
unreachable-requires g c =
    let t = c.args.self.now in
    let some = some_wait c.octets.ensures c.is_empty.ensures c.if-is_empty.false in
    let full = (c.in-Err-Full.ensures.full c.in-Err-Full.field-0-0).0 (ap (λ fault. Err fault) c.in-Err-Full.field-0-is) in
    omega (arith, full.0, full.1, ap length c.octets-2.ensures, fits t some)

pub returns-in-Ok-clause-ok : goal.returns-in-Ok-clause-ok
unfolding firm_entries waiting
returns-in-Ok-clause-ok g c =
    search (rules, entries_in-push, entries_open, entries_of-nil, same_room, same_free, settled)

pub returns-in-Ok-clause-any_moment : goal.returns-in-Ok-clause-any_moment
returns-in-Ok-clause-any_moment g c = λ told.
    let some = some_wait c.octets.ensures c.is_empty.ensures c.if-is_empty.false in
    rw c.requires.ready (leaves_either c.args.self.now _ _ told c.octets-2.ensures some c.area_laws.ensures c.append.ensures.stays.size (c.append.ensures.any_moment told))

pub returns-in-Err-Device-clause-err : goal.returns-in-Err-Device-clause-err
unfolding firm_entries waiting
returns-in-Err-Device-clause-err g c = record { listed = λ told. ap entries_in ((c.in-Err-Device.ensures.torn (ap (λ fault. Err fault) c.in-Err-Device.field-0-is)).batches told); torn = refl; octets = refl; count = refl }

pub returns-in-Err-Device-clause-any_moment : goal.returns-in-Err-Device-clause-any_moment
returns-in-Err-Device-clause-any_moment g c = λ told.
    let some = some_wait c.octets.ensures c.is_empty.ensures c.if-is_empty.false in
    rw c.requires.ready (leaves_either c.args.self.now _ _ told c.octets-2.ensures some c.area_laws.ensures c.append.ensures.stays.size (c.append.ensures.any_moment told))

pub returns-then-is_empty-clause-planned : goal.returns-then-is_empty-clause-planned
returns-then-is_empty-clause-planned g c = search (rules, commit_planned, none_wait)

pub returns-in-Ok-clause-planned : goal.returns-in-Ok-clause-planned
returns-in-Ok-clause-planned g c =
    let some = some_wait c.octets.ensures c.is_empty.ensures c.if-is_empty.false in
    commit_planned _ _ _ (λ fate told waits. c.in-Ok.ensures.planned fate told (omega (arith, ap length c.octets-2.ensures, fits c.args.self.now some)))

pub returns-in-Err-Device-clause-planned : goal.returns-in-Err-Device-clause-planned
returns-in-Err-Device-clause-planned g c =
    let some = some_wait c.octets.ensures c.is_empty.ensures c.if-is_empty.false in
    commit_planned _ _ _ (λ fate told waits. c.in-Err-Device.ensures.planned fate told (omega (arith, ap length c.octets-2.ensures, fits c.args.self.now some)))

pub returns-in-Ok-clause-unmade : goal.returns-in-Ok-clause-unmade
returns-in-Ok-clause-unmade g c = search (rules, some_wait, waiting_octets-none, nil_from_length)

pub returns-in-Err-Device-clause-unmade : goal.returns-in-Err-Device-clause-unmade
returns-in-Err-Device-clause-unmade g c = search (rules, some_wait, waiting_octets-none, nil_from_length)
