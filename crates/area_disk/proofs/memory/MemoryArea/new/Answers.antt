use Rattle.std.proofs.Common.{◌∙◌}
use Rattle.area_disk.specs.Memory.{disk_only}
use Rattle.area_disk.proofs.memory.MemoryArea.new.Goals as goal

pub returns-clause-durable : goal.returns-clause-durable
returns-clause-durable c = λ octets left. disk_only c.in_ok-disk.disk c.in_ok-disk.ensures.unsynced octets left ∙ c.in_ok-disk.ensures.present
