use Rattle.std.proofs.Common.{◌≡◌, length, refl, ap, arith, rules}
use Rattle.cgf_journal.proofs.Names.{entries_of-nil, firm_entries, Tallies, waiting}
use Rattle.cgf_journal.proofs.Sounds.{all_batches, all_judged, made}
use Rattle.cgf_journal.proofs.Tallies.{still_enough}
use Rattle.cgf_journal.proofs.Trails.{entries_firm, settled}
use Rattle.cgf_journal.proofs.trail.Trail.made.Goals as goal

pub invariant_of-result : goal.invariant_of-result
invariant_of-result g c =
    let counted : c.len.result ≡ length c.args.listing.places.items = omega (arith, c.len.ensures) in
    record {
      enough = still_enough c.args.size c.args.listing.places.reserved c.args.listing.places.reserved c.args.listing.tally.reserved c.settle.new.self.reserved refl (ap (λ (t : Tallies). t.reserved) c.settle.ensures) c.requires.taken.taken_in.enough;
      sound = rw (c.requires.waiting, c.settle.ensures, counted)
          (made c.args.journal c.args.size c.args.listing.places c.args.listing.tally c.requires.size c.requires.settled.place c.requires.taken c.requires.founded c.requires.ready);
    }

pub returns-clause-fresh : goal.returns-clause-fresh
unfolding waiting
returns-clause-fresh g c = search (rules, entries_firm, entries_of-nil, settled)

pub returns-clause-taken : goal.returns-clause-taken
unfolding firm_entries
returns-clause-taken g c = λ told.
    let taken = c.requires.taken in
    let place = c.requires.settled.place in
    let judged = all_judged c.args.journal c.args.size c.args.listing.places c.args.listing.tally c.requires.size place taken told in
    record {
      are_fit = record {
        are_batches = all_batches c.args.journal c.args.size c.args.listing.places c.args.listing.tally c.requires.size place taken told;
        fit = judged.fit;
      };
      entries = refl;
      asked = judged.follows;
    }
