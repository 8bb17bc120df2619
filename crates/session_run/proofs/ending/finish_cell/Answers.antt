use Rattle.session_run.proofs.EndLemmas.{five_pushed}
use Rattle.session_run.proofs.ending.finish_cell.Goals as goal

pub finish-requires : goal.finish-requires
finish-requires g c =
    let s = c.args.sessions in
    record {
      own =
          rw (five_pushed c.args.list.items c.push_reserved.new.self.items c.push_reserved-2.new.self.items
          c.push_reserved-3.new.self.items
          c.push_reserved-4.new.self.items c.push_reserved-5.new.self.items s.0 s.1 s.2 s.3 c.args.actor c.requires.room.items
          c.push_reserved.ensures.items c.push_reserved-2.ensures.items c.push_reserved-3.ensures.items
          c.push_reserved-4.ensures.items c.push_reserved-5.ensures.items)
          c.requires.own;
    }
