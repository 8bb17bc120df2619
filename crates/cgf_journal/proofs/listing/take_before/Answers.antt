use Rattle.std.proofs.Common.{◌≡◌, ℕ, ◌+◌, List, ◌∷◌, ◌++◌, length, ◌∙◌, ap}
use Rattle.cgf_journal.proofs.Names.{AreListedBefore, place_of}
use Rattle.cgf_journal.proofs.Listings.{breaks_next, costs_within, goes_on, read_next, taken_next}
use Rattle.cgf_journal.proofs.listing.take_before.Goals as goal

-- what was read is the next batch of each list
next : (g : _) (c : goal.After-content-3-1 g) (all : List (List ℕ)) →
    AreListedBefore g.A.Area.tells_octets (g.A.Area.octets c.args.area.now) c.args.end all
    → (rest : List (List ℕ)) × (all ≡ c.requires.taken.some ++ c.read_before.new.into ∷ rest)
next g c all listed =
    let o = g.A.Area.octets c.args.area.now in
    let some = c.requires.taken.some in
    let at = c.requires.taken.taken_in.gate_is in
    let room = c.in-Ok-room_for.ensures.content in
    let begins = c.requires.taken.begins all listed in
    read_next all some begins.0 c.args.gate c.args.end begins.1 at (place_of listed.header listed.long o c.args.end all listed.before) c.requires.inside c.in-Ok.found c.in-Some.place c.in-Some.length c.read_before.new.into c.in-Some.is
    (λ batch rest is. c.in-Ok.ensures.found listed.told listed.header some batch rest listed.long (rw is at listed.before) at)
    (λ batch rest is place size.
    c.in-Ok-read_before.ensures.content listed.told listed.header c.args.end some batch rest listed.long
    (rw c.batch_before.ensures.kept.octets (rw is at listed.before))
    (place ∙ ap (λ n. n + 5) at) (room ∙ size))

pub returns-clause-taken : goal.returns-clause-taken
returns-clause-taken g c =
    let taken = c.requires.taken in
    taken_next taken c.read_before.new.into (next g c) c.take_fit.new.judge c.take_fit.result c.take_fit.new.self.places c.take_fit.new.self.tally
    c.take_fit.ensures.next (c.take_fit.ensures.taken taken.some taken.taken_in taken.judged)

pub returns-clause-breaks : goal.returns-clause-breaks
returns-clause-breaks g c = λ all listed at stops.
    let taken = c.requires.taken in
    breaks_next taken c.read_before.new.into (next g c) at (c.take_fit.ensures.unfit taken.some taken.taken_in taken.judged at stops) all listed

pub returns-in_default-found-clause-breaks : goal.returns-in_default-found-clause-breaks
returns-in_default-found-clause-breaks g c = λ all listed stop stops.
    let taken = c.requires.taken in
    let begins = taken.begins all listed in
    let next = goes_on taken.some begins.0 all c.args.gate c.args.end begins.1 taken.taken_in.gate_is (place_of listed.header listed.long (g.A.Area.octets c.args.area.now) c.args.end all listed.before) c.requires.inside in
    let found = c.in-Ok.ensures.found listed.told listed.header taken.some next.0 next.1 listed.long (rw next.2 at listed.before) taken.taken_in.gate_is in
    absurd (c.in_default-found.not-Some (c.args.gate + 5, length next.0) found)

pub take_fit-requires-clause-costs : goal.take_fit-requires-clause-costs
take_fit-requires-clause-costs g c = costs_within c.requires.taken
