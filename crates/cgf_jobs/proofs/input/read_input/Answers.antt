use Rattle.std.proofs.Common.{◌-◌, arith}
use Rattle.cgf_jobs.proofs.Streams.{takes_more}
use Rattle.cgf_jobs.proofs.input.read_input.Goals as goal

pub returns-in_err-read_piece-clause-taken : goal.returns-in_err-read_piece-clause-taken
returns-in_err-read_piece-clause-taken g c =
    takes_more (g.S.Source.left c.args.source.now) (g.S.Source.left c.loop-piece.source) (g.S.Source.left c.read_piece.new.source) c.loop-piece.octets.items
    (c.args.most - c.len-in-loop-piece.result) c.args.most
    (omega (arith, c.loop-piece.octets.ok.0, c.loop-piece.invariant.bounded, c.len-in-loop-piece.ensures)) c.loop-piece.invariant.consumed
    c.read_piece.ensures.within
