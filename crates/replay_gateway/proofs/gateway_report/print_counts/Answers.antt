use Rattle.std.proofs.Common.{◌≡◌, ◌+◌, suc, append_assoc, arith}
use Rattle.replay_gateway.proofs.gateway_report.print_counts.Goals as goal

pub returns : goal.returns
returns c =
    let next : c.args.place + 1 ≡ suc c.args.place = omega arith in
    rw (c.in_ok-append.ensures.ok, c.as_bytes.ensures.value, c.in_ok-line.ensures.ok)
    (simp (append_assoc, next))
