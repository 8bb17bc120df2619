use Rattle.std.proofs.Common.{◌++◌, ◌∙◌, ℕ, List, take, refl, subst, arith}
use Rattle.cgf_service.proofs.Names.{err_from_is_err_and, StopsIn}
use Rattle.cgf_jobs.specs.declared.status.Status.TheVariants as status
use Rattle.cgf_service.proofs.PieceLemmas.{begins_going, goes_all, goes_on, joined, ok_not_err}
use Rattle.cgf_service.proofs.connection.Connection.take_in.Goals as goal

pub loop-at-init : goal.loop-at-init
loop-at-init g c = record {
  within = omega arith;
  came = omega arith;
  steady = c.requires.steady;
  node = refl;
  goes = begins_going g.A.Area c.args.octets.now c.args.self.now (g.K.Sink.written c.args.sink.now);
  sink = refl;
  clock = refl;
}

pub loop-at-preserved : goal.loop-at-preserved
loop-at-preserved g c =
    let count = c.in_ok-at.ensures.count in
    let back = c.split_at.ensures.back in record {
      within = omega (arith, count.1, c.loop-at.invariant.within, c.split_at.ensures.back_len);
      came = omega (arith, count.2, c.loop-at.invariant.came);
      steady = count.3;
      node = c.take_next.ensures.node ∙ c.loop-at.invariant.node;
      goes = λ opened given sent goes.
          let one = c.loop-at.invariant.goes opened given sent goes in
          goes_on g.A.Area opened given sent c.args.octets.now c.split_at.result.1.now c.loop-at.at c.in_ok-at.field-0 c.take_next.new.self
          (g.K.Sink.written c.args.sink.now) (g.K.Sink.written c.loop-at.sink) (g.K.Sink.written c.take_next.new.sink) back one.0 one.2
          (c.in_ok-at.ensures.ok opened (given ++ take c.loop-at.at c.args.octets.now) (sent ++ one.0) one.1);
      sink = c.in_ok-at.ensures.cause.sink_stood (ok_not_err c.in_ok-at.field-0 status.Write) ∙ c.loop-at.invariant.sink;
      clock = c.in_ok-at.ensures.cause.clock_stood (ok_not_err c.in_ok-at.field-0 status.Link) ∙
          c.loop-at.invariant.clock;
    }

pub returns-in_err-at-clause-err : goal.returns-in_err-at-clause-err
returns-in_err-at-clause-err g c opened given sent goes =
    let one = c.loop-at.invariant.goes opened given sent goes in
    let stops = c.in_err-at.ensures.err opened (given ++ take c.loop-at.at c.args.octets.now) (sent ++ one.0) one.1 in
    let exit = err_from_is_err_and c.from_residual.result c.from_residual.ensures.1 in
    rw (exit.1, exit.2) (
      one.0,
      g.K.Sink.written c.loop-at.sink,
      one.2,
      subst (λ (l : List ℕ). StopsIn g.A.Area opened l (sent ++ one.0) c.take_next.new.self (g.K.Sink.written c.loop-at.sink)
          (g.K.Sink.written c.take_next.new.sink) c.in_err-at.field-0.0)
          (joined given c.args.octets.now c.split_at.result.1.now c.loop-at.at c.split_at.ensures.back) stops,
    )

pub returns-clause-ok : goal.returns-clause-ok
returns-clause-ok g c opened given sent goes done =
    goes_all g.A.Area opened given sent c.args.octets.now c.loop-at.at c.loop-at.self (g.K.Sink.written c.args.sink.now) (g.K.Sink.written c.loop-at.sink)
    c.loop-at.invariant.within c.loop-at-test.false (c.loop-at.invariant.goes opened given sent goes)
