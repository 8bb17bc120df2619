use Rattle.std.proofs.Common.{◌≡◌, suc, ◌+◌, arith}
use Rattle.std.proofs.lemmas.Result.{on_ok_weaker}
use Rattle.replay_world.proofs.notices.print_shelf_fault.Goals as goal

pub returns : goal.returns
returns c =
    let next : c.args.gateway + 1 ≡ suc c.args.gateway = omega arith in
    on_ok_weaker c.append.result (λ is. cc (c.as_bytes.ensures.value, c.in_ok-line.ensures.ok, c.from.ensures))
    c.append.ensures.ok
