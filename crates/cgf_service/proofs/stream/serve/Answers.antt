use Rattle.std.proofs.Common.{◌++◌, ◌∙◌, ℕ, List, [], length-append, refl, sym, subst, arith}
use Rattle.cgf_service.proofs.Names.{Consumes, err_from_is_err_and}
use Rattle.cgf_jobs.specs.declared.status.Status.TheVariants as status
use Rattle.cgf_service.proofs.ConnectionLemmas.{came_is}
use Rattle.cgf_service.proofs.PieceLemmas.{ok_not_err}
use Rattle.cgf_service.proofs.StreamLemmas.{begins, consumed_end, served_end, served_full, served_read, served_stop}
use Rattle.cgf_service.proofs.InputLemmas.{appends_none, appends_two, consumes_more, consumes_none}
use Rattle.cgf_service.proofs.stream.serve.Goals as goal

pub pieces-init : goal.pieces-init
pieces-init g c = record {
  goes = (
    [],
    [],
    begins g.A.Area c.args.connection.now c.nothing_was_given.ensures c.requires,
    consumes_none (g.S.Source.left c.args.source.now),
    appends_none (g.K.Sink.written c.args.sink.now) [],
  );
  node = refl;
  source = refl;
  sink = refl;
  clock = refl;
  piece = omega arith;
}

pub returns-in_err-count-clause-served : goal.returns-in_err-count-clause-served
returns-in_err-count-clause-served g c =
    let goes = c.pieces.invariant.goes in
    let failed = c.in_err-count.ensures.failed in
    let exit = err_from_is_err_and c.from_residual.result c.from_residual.ensures.1 in
    rw (exit.1, exit.2, failed.0) (served_read g.A.Area c.args.connection.now.book goes.0 goes.1 c.pieces.connection (g.S.Source.left c.args.source.now)
    (g.S.Source.left c.pieces.source) (g.K.Sink.written c.args.sink.now) (g.K.Sink.written c.pieces.sink) goes.2 goes.3 goes.4
    (g.S.Source.left c.take_piece.new.source) failed.2)

pub returns-then-count-eq0-clause-served : goal.returns-then-count-eq0-clause-served
returns-then-count-eq0-clause-served g c =
    let goes = c.pieces.invariant.goes in
    let taken = c.in_ok-count.ensures.taken in
    served_end g.A.Area c.args.connection.now.book goes.0 goes.1 c.pieces.connection (g.S.Source.left c.args.source.now)
    (g.S.Source.left c.take_piece.new.source) (g.K.Sink.written c.args.sink.now) (g.K.Sink.written c.pieces.sink) goes.2
    (consumed_end (g.S.Source.left c.args.source.now) (g.S.Source.left c.pieces.source) (g.S.Source.left c.take_piece.new.source) goes.0
    c.take_piece.new.piece c.in_ok-count.count c.if-count-eq0.true goes.3 taken.0)
    goes.4 c.end.result (taken.1 c.if-count-eq0.true)
    (c.end.ensures.ended c.args.connection.now.book goes.0 goes.1 goes.2
    (omega (arith, c.pieces-test.true, came_is g.A.Area c.args.connection.now.book goes.0 goes.1 c.pieces.connection goes.2)))
    c.end.ensures.rest

pub returns-in_err-take_in-clause-served : goal.returns-in_err-take_in-clause-served
returns-in_err-take_in-clause-served g c =
    let goes = c.pieces.invariant.goes in
    let taken = c.in_ok-count.ensures.taken in
    let within = c.in_ok-count.ensures.within in
    let stops = c.in_err-take_in.ensures.err c.args.connection.now.book goes.0 goes.1 goes.2 in
    let exit = err_from_is_err_and c.from_residual-in_err-take_in.result c.from_residual-in_err-take_in.ensures.1 in
    rw (exit.1, exit.2) (served_stop g.A.Area c.args.connection.now.book (goes.0 ++ c.split_at.result.0.now) (goes.1 ++ stops.0) c.take_in.new.self
    (g.S.Source.left c.args.source.now) (g.S.Source.left c.take_piece.new.source) (g.K.Sink.written c.args.sink.now) stops.1
    (g.K.Sink.written c.take_in.new.sink) c.in_err-take_in.field-0.0
    (consumes_more (g.S.Source.left c.args.source.now) (g.S.Source.left c.pieces.source) (g.S.Source.left c.take_piece.new.source) goes.0
    c.split_at.result.0.now goes.3
    (subst (λ (l : List ℕ). Consumes (g.S.Source.left c.pieces.source) (g.S.Source.left c.take_piece.new.source) l) (sym c.split_at.ensures.front) taken.0))
    (omega (
      arith,
      length-append goes.0 c.split_at.result.0.now,
      came_is g.A.Area c.args.connection.now.book goes.0 goes.1 c.pieces.connection goes.2,
      c.split_at.ensures.front_len,
      within.1,
      c.pieces-test.true,
    ))
    (appends_two (g.K.Sink.written c.args.sink.now) (g.K.Sink.written c.pieces.sink) stops.1 goes.1 stops.0 goes.4 stops.2)
    stops.3)

pub pieces-preserved : goal.pieces-preserved
pieces-preserved g c =
    let goes = c.pieces.invariant.goes in
    let taken = c.in_ok-count.ensures.taken in
    let ok = c.in_ok-take_in.ensures.ok c.args.connection.now.book goes.0 goes.1 goes.2 refl in record {
      goes = (
        goes.0 ++ c.split_at.result.0.now,
        goes.1 ++ ok.0,
        ok.1,
        consumes_more (g.S.Source.left c.args.source.now) (g.S.Source.left c.pieces.source) (g.S.Source.left c.take_piece.new.source) goes.0
            c.split_at.result.0.now goes.3
            (subst (λ (l : List ℕ). Consumes (g.S.Source.left c.pieces.source) (g.S.Source.left c.take_piece.new.source) l) (sym c.split_at.ensures.front) taken.0),
        appends_two (g.K.Sink.written c.args.sink.now) (g.K.Sink.written c.pieces.sink) (g.K.Sink.written c.take_in.new.sink) goes.1 ok.0 goes.4 ok.2,
      );
      node = c.take_in.ensures.node ∙ c.pieces.invariant.node;
      source = c.in_ok-count.ensures.unfailed ∙ c.pieces.invariant.source;
      sink = c.in_ok-take_in.ensures.cause.sink_stood (ok_not_err tt status.Write) ∙ c.pieces.invariant.sink;
      clock = c.in_ok-take_in.ensures.cause.clock_stood (ok_not_err tt status.Link) ∙ c.pieces.invariant.clock;
      piece = omega (arith, c.pieces.invariant.piece, c.take_piece.ensures.length);
    }

pub returns-clause-served : goal.returns-clause-served
returns-clause-served g c =
    let goes = c.pieces.invariant.goes in
    served_full g.A.Area c.args.connection.now.book goes.0 goes.1 c.pieces.connection (g.S.Source.left c.args.source.now) (g.S.Source.left c.pieces.source)
    (g.K.Sink.written c.args.sink.now) (g.K.Sink.written c.pieces.sink) goes.2 goes.3 goes.4 (omega (arith, c.pieces-test.false))
