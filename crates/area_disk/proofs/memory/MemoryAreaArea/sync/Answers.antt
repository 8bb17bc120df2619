use Rattle.area_disk.specs.Memory.{disk_within_stop, goes_settled, goes_stopped_sync}
use Rattle.area_disk.proofs.memory.MemoryAreaArea.sync.Goals as goal

pub returns-in-Runs-clause-time : goal.returns-in-Runs-clause-time
returns-in-Runs-clause-time c = goes_settled c.args.self.now.disk c.settle.new.self c.settle.ensures.past c.settle.ensures.unsynced

pub returns-in-Stops-clause-crash : goal.returns-in-Stops-clause-crash
returns-in-Stops-clause-crash c = disk_within_stop c.args.self.now.disk c.stop_between.new.self c.in-Stops.outcome c.stop_between.ensures.present c.stop_between.ensures.unsynced

pub returns-in-Stops-clause-time : goal.returns-in-Stops-clause-time
returns-in-Stops-clause-time c = goes_stopped_sync c.args.self.now.disk c.stop_between.new.self c.fail-in-Stops.result c.stop_between.ensures.past c.stop_between.ensures.unsynced c.fail-in-Stops.ensures.fails
