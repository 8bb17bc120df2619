use Rattle.std.proofs.Common.{◌≡◌, ℕ, ◌+◌, ◌-◌, List, length, refl, ◌∙◌, ap, arith, ◌++◌, ◌∷◌}
use Rattle.cgf_journal.proofs.Names.{AreListed, batches, end, end_of, true≢false}
use Rattle.area_disk.specs.CourseLaws.{read_runs, runs_on}
use Rattle.cgf_journal.proofs.Listings.{breaks_next, costs_within, read_next, taken_next, whole_read}
use Rattle.cgf_journal.proofs.listing.take_next.Goals as goal

pub batch-requires-clause-gate : goal.batch-requires-clause-gate
batch-requires-clause-gate g c = record {
  low = omega (arith, c.requires.taken.taken_in.gate_is);
  high = omega arith;
  behind = λ told.
      let begins = c.requires.taken.begins _ (record { told = told; same = refl }) in
      (c.requires.taken.some, begins.0, begins.1, c.requires.taken.taken_in.gate_is);
}

-- what was read is the next batch of each list
next : (g : _) (c : goal.After-content-3-1 g) (all : List (List ℕ)) → AreListed g.A.Area (batches c.args.journal.now) all →
    (rest : List (List ℕ)) × (all ≡ c.requires.taken.some ++ c.read.new.into ∷ rest)
next g c all listed =
    let j = c.args.journal.now in
    let some = c.requires.taken.some in
    let at = c.requires.taken.taken_in.gate_is in
    let room = c.in-Ok-room_for.ensures.content in
    let begins = c.requires.taken.begins all listed in
    read_next all some begins.0 c.args.gate (end j) begins.1 at (c.requires.ends listed.told ∙ ap end_of listed.same) c.requires.inside c.in-Ok.found c.in-Some.place c.in-Some.length c.read.new.into c.in-Some.is
    (λ batch rest is. c.in-Ok.ensures.found listed.told some batch rest (listed.same ∙ is) at)
    (λ batch rest is place size.
    whole_read batch c.read.new.into (length c.in-Ok-room_for.content.now) (c.in-Some.place - (end_of some + 5)) (room ∙ size) (omega (arith, place, at))
    (c.in-Ok-read.ensures.content listed.told some batch rest
    (c.batch.ensures.kept.same.batches ∙ listed.same ∙ is) (omega (arith, place, at))
    (omega (arith, place, at, room, size))))

pub returns-clause-taken : goal.returns-clause-taken
returns-clause-taken g c =
    let taken = c.requires.taken in
    taken_next taken c.read.new.into (next g c) c.take_fit.new.judge c.take_fit.result c.take_fit.new.self.places c.take_fit.new.self.tally
    c.take_fit.ensures.next (c.take_fit.ensures.taken taken.some taken.taken_in taken.judged)

pub returns-clause-breaks : goal.returns-clause-breaks
returns-clause-breaks g c = λ told at stops.
    let taken = c.requires.taken in
    breaks_next taken c.read.new.into (next g c) at (c.take_fit.ensures.unfit taken.some taken.taken_in taken.judged at stops) _ (record { told = told; same = refl })

pub take_fit-requires-clause-costs : goal.take_fit-requires-clause-costs
take_fit-requires-clause-costs g c = costs_within c.requires.taken

pub returns-in_default-read-clause-runs : goal.returns-in_default-read-clause-runs
returns-in_default-read-clause-runs g c = λ tells run e.
    true≢false (read_runs _ _ _ (c.in_default-read.ensures.planned tells) (runs_on _ _ (c.batch.ensures.kept.area.planned tells) run))
