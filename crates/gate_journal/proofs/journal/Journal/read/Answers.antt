use Rattle.std.proofs.Common.{ℕ, List, ◌++◌, length, drop, refl, ◌∙◌, ap, arith}
use Rattle.gate_journal.proofs.Names.{batches, batches_below, header, kept_read, length-header, part_is, read_on, small_among, spelled}
use Rattle.gate_journal.proofs.Kept.{kept_journal}
use Rattle.gate_journal.proofs.journal.Journal.read.Goals as goal

pub returns-in-Ok-clause-content : goal.returns-in-Ok-clause-content
unfolding batches
returns-in-Ok-clause-content g c = λ told some batch more is low fits.
    let j = c.args.self.now in
    let listed = (j.sound.content told (g.A.Area.octets j.area) (c.area_laws.ensures.holds j.area)).listed in
    let small = small_among (batches_below j.gate (g.A.Area.octets j.area)) some batch more is (j.sound.small told) in
    c.in-Ok.ensures.read told.0
    ∙ part_is (header (g.A.Area.size j.area) j.address j.generation) (length-header (g.A.Area.size j.area) j.address j.generation) j.gate (g.A.Area.octets j.area) some batch more (omega (arith, c.area_laws.ensures.whole j.area told.0, j.sound.high))
    (listed ∙ ap (λ (bs : List (List ℕ)). drop 1 (header (g.A.Area.size j.area) j.address j.generation) ++ spelled bs) is) small c.args.at (length c.args.into.now) low fits

pub returns-in-Ok-clause-kept : goal.returns-in-Ok-clause-kept
returns-in-Ok-clause-kept g c =
    let read = c.read_at.ensures in
    kept_journal _ _ (record { buffer = refl; gate = refl; torn_length = refl; is_torn = refl; front = refl; address = refl; generation = refl })
    (kept_read g.A.Area c.area_laws.ensures.only_now c.args.self.now.area c.read_at.new.self read.size read.octets read.crash read.time read.calls (λ told. read_on _ _ _ (read.planned told)))

pub returns-in-Err-clause-kept : goal.returns-in-Err-clause-kept
returns-in-Err-clause-kept g c =
    let read = c.read_at.ensures in
    kept_journal _ _ (record { buffer = refl; gate = refl; torn_length = refl; is_torn = refl; front = refl; address = refl; generation = refl })
    (kept_read g.A.Area c.area_laws.ensures.only_now c.args.self.now.area c.read_at.new.self read.size read.octets read.crash read.time read.calls (λ told. read_on _ _ _ (read.planned told)))
