use Rattle.std.proofs.Common.{◌≡◌, ◌∙◌, ◌-◌, length, ap, subst, arith}
use Rattle.std.proofs.lemmas.List.{length_push}
use Rattle.area_disk.specs.Plan.{write_fate, is_failure, after_call, spare_after_write, LeavesAfterWrite, most_unsynced}
use Rattle.area_disk.specs.Memory.{prospect_of, leaves_of, disk_follows_write, disk_follows_stop, disk_leaves_written, goes_written, goes_stopped_write}
use Rattle.area_disk.specs.declared.plan.Fate.{Fate}
use Rattle.area_disk.specs.declared.plan.Fate.TheVariants.{Runs}
use Rattle.area_disk.proofs.memory.MemoryAreaArea.write_at.Goals as goal

pub returns-in-Runs-clause-crash : goal.returns-in-Runs-clause-crash
returns-in-Runs-clause-crash c = disk_follows_write c.args.self.now.disk c.write.new.self c.args.at c.args.from.now c.requires c.write.ensures.present c.write.ensures.unsynced

pub returns-in-Runs-clause-time : goal.returns-in-Runs-clause-time
returns-in-Runs-clause-time c = goes_written c.args.self.now.disk c.write.new.self c.args.at c.args.from.now c.write.ensures.past c.write.ensures.unsynced

pub returns-in-Runs-clause-planned : goal.returns-in-Runs-clause-planned
returns-in-Runs-clause-planned c = λ told.
    let old = prospect_of c.args.self.now in
    let disk = c.args.self.now.disk in
    let fate_is : Runs ≡ write_fate old = c.in-Runs.ensures in
    let spare_is : most_unsynced - length c.write.new.self.unsynced.items ≡ spare_after_write Runs old.spare = omega (arith, ap length c.write.ensures.unsynced, length_push disk.unsynced.items (record { at = c.args.at; count = length c.args.from.now })) in
    record {
      fails = ap is_failure fate_is;
      schedule = c.count.ensures ∙ ap (λ (f : Fate). after_call f old.schedule) c.write_fate-fate.ensures;
      spare = spare_is ∙ ap (λ (f : Fate). spare_after_write f old.spare) fate_is;
      leaves = subst (λ (f : Fate). LeavesAfterWrite f old.leaves c.args.at c.args.from.now (leaves_of c.write.new.self)) fate_is
          (disk_leaves_written disk c.write.new.self c.args.at c.args.from.now c.requires c.write.ensures.present c.write.ensures.firm c.write.ensures.unsynced);
    }

pub returns-in-Stops-clause-crash : goal.returns-in-Stops-clause-crash
returns-in-Stops-clause-crash c = disk_follows_stop c.args.self.now.disk c.stop.new.self c.in-Stops.outcome c.args.at c.args.from.now c.requires c.stop.ensures.present c.stop.ensures.unsynced

pub returns-in-Stops-clause-time : goal.returns-in-Stops-clause-time
returns-in-Stops-clause-time c = goes_stopped_write c.args.self.now.disk c.stop.new.self c.args.at c.args.from.now c.fail-in-Stops.result c.stop.ensures.past c.stop.ensures.unsynced (omega arith) c.fail-in-Stops.ensures.fails
