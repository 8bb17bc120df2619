use Rattle.std.proofs.Common.{ap, arith}
use Rattle.area_disk.specs.Past.{Past}
use Rattle.area_disk.proofs.Changes.{room_few, room_many}
use Rattle.area_disk.proofs.past.History.has_room.Goals as goal

pub returns-then-len-lt-MOST_CALLS : goal.returns-then-len-lt-MOST_CALLS
returns-then-len-lt-MOST_CALLS c =
    room_few c.self.inside.calls.items c.self.inside.octets.items c.args.self.now.changes c.len-then-len-lt-MOST_CALLS.result c.args.count (ap (λ (p : Past). p.changes) c.self.view_is) c.self.invariant.total (omega arith) (omega arith)

pub returns-else-len-lt-MOST_CALLS : goal.returns-else-len-lt-MOST_CALLS
returns-else-len-lt-MOST_CALLS c =
    room_many c.self.inside.calls.items c.self.inside.octets.items c.args.self.now.changes c.len.result c.args.count (ap (λ (p : Past). p.changes) c.self.view_is) (omega arith) (omega arith)
