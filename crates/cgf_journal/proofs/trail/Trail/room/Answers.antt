use Rattle.std.proofs.Common.{◌≡◌, ◌∙◌, ap, rules}
use Rattle.cgf_journal.proofs.Names.{area_of, entries, entry_view, has_room_behind, has_room_of, tally, TallyValue}
use Rattle.cgf_journal.proofs.Tallies.{room_is}
use Rattle.cgf_journal.proofs.Trails.{tally_is}
use Rattle.cgf_journal.proofs.trail.Trail.room.Goals as goal

pub returns-clause-counted : goal.returns-clause-counted
unfolding has_room_of
returns-clause-counted g c = search rules

pub returns-clause-room : goal.returns-clause-room
returns-clause-room g c = λ told.
    let t = c.args.self.now in
    let e = entry_view c.args.entry.now in
    let size = g.A.Area.size (area_of t) in
    let counted : c.has_room.result ≡ has_room_behind (tally t) e size = search rules in
    counted ∙ ap (λ (v : TallyValue). has_room_behind v e size) (tally_is t told) ∙ room_is (entries t) e size
