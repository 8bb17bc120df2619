use Rattle.std.proofs.Common.{refl}
use Rattle.gate_journal.proofs.Kept.{as_before}
use Rattle.area_disk.specs.MomentLaws.{begin, step}
use Rattle.gate_journal.proofs.journal.Journal.arm.Goals as goal

pub returns-clause-same : goal.returns-clause-same
returns-clause-same g c =
    let drill = g.met.A.DrillArea in
    let j = c.args.self.now in
    let new = c.arm.new.self in
    let kept = c.arm.ensures.kept in
    let size = drill.kept_size j.area new kept in
    let octets = drill.kept_octets j.area new kept in
    record {
      crash = step g.A.Area j.area j.area new (g.A.Area.may_leave j.area) (begin g.A.Area c.area_laws.ensures.only_now j.area (g.A.Area.may_leave j.area) (λ d left. left)) (drill.kept_time j.area new kept) (drill.kept_crash j.area new kept);
      faults = drill.kept_faults j.area new kept;
      size = size;
      same = as_before _ _ (record { buffer = refl; gate = refl; torn_length = refl; is_torn = refl; front = refl; address = refl; generation = refl }) size octets (λ told outcome. drill.kept_leaves j.area new outcome kept);
    }
