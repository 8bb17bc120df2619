use Rattle.std.proofs.Common.{◌++◌, ◌∙◌, ℕ, List, [], take, refl, sym, subst, append-nil, arith}
use Rattle.cgf_service.proofs.Names.{err_from_is_err_and, fault_before, InputKind, IsGoingOn, StopsIn}
use Rattle.cgf_jobs.specs.declared.status.Status.TheVariants as status
use Rattle.cgf_service.proofs.PieceLemmas.{all_used, bad_is, goes_more, goes_whole, more_is, pushed, some_used, steady_more, steady_whole, stops_bad, stops_whole, whole_is}
use Rattle.cgf_service.proofs.InputLemmas.{appends_none}
use Rattle.cgf_service.proofs.connection.Connection.take_next.Goals as goal

pub returns-in-More-clause-count : goal.returns-in-More-clause-count
returns-in-More-clause-count g c =
    let p = more_is (fault_before c.args.self.now.deframer c.args.octets.now) c.push-used.new.self (sym c.push-used.ensures.answer ∙ c.in-More.is) in
    let t = c.push-used.ensures.takes p.0 in
    let used = all_used g.A.Area c.args.self.now c.requires.steady c.args.octets.now c.push-used.result.0 c.push-used.new.self t.0 t.1 c.push-used.ensures.counts
    c.push-used.ensures.stands c.requires.within p.1 in (
      omega (arith, used, c.requires.some),
      t.0.inside,
      refl,
      steady_more g.A.Area c.args.self.now c.requires.steady c.args.octets.now c.push-used.result.0
          c.push-used.new.self t.0 t.1 c.push-used.ensures.counts c.push-used.ensures.stands c.requires.within p.1,
    )

pub returns-in-More-clause-ok : goal.returns-in-More-clause-ok
returns-in-More-clause-ok g c opened given sent goes =
    let p = more_is (fault_before c.args.self.now.deframer c.args.octets.now) c.push-used.new.self (sym c.push-used.ensures.answer ∙ c.in-More.is) in
    let t = c.push-used.ensures.takes p.0 in (
      [],
      subst (λ (l : List ℕ). IsGoingOn g.A.Area opened (given ++ take c.push-used.result.0 c.args.octets.now) l
          (pushed g.A.Area c.args.self.now c.push-used.new.self c.push-used.result.0)) (sym (append-nil sent))
          (goes_more g.A.Area opened given sent c.args.self.now goes c.args.octets.now c.push-used.result.0 c.push-used.new.self c.push-used.ensures.follows
          c.requires.within c.a_stream_may_be_cut.ensures.frames c.a_stream_may_be_cut.ensures.rest c.a_bad_octet_ends_the_messages.ensures
          t.0 t.1 c.push-used.ensures.counts c.push-used.ensures.stands p.1),
      appends_none (g.K.Sink.written c.args.sink.now) [],
    )

pub returns-in_ok-answer_message-in-Whole-clause-count : goal.returns-in_ok-answer_message-in-Whole-clause-count
returns-in_ok-answer_message-in-Whole-clause-count g c =
    let p = whole_is (fault_before c.args.self.now.deframer c.args.octets.now) c.push-used.new.self (sym c.push-used.ensures.answer ∙ c.in-Whole.is) in
    let t = c.push-used.ensures.takes p.0 in
    let one = c.in_ok-answer_message-in-Whole.ensures.ok refl in (
      some_used g.A.Area c.args.self.now c.requires.steady c.args.octets.now c.push-used.result.0 c.push-used.new.self t.0 t.1 c.push-used.ensures.counts
          c.push-used.ensures.stands c.requires.within p.1,
      t.0.inside,
      one.1.came_is,
      steady_whole g.A.Area c.args.self.now c.requires.steady c.args.octets.now
          c.push-used.result.0 c.push-used.new.self t.0 t.1 c.push-used.ensures.counts c.push-used.ensures.stands c.requires.within p.1 c.answer_message.new.self one.0 one.1,
    )

pub returns-in_ok-answer_message-in-Whole-clause-ok : goal.returns-in_ok-answer_message-in-Whole-clause-ok
returns-in_ok-answer_message-in-Whole-clause-ok g c opened given sent goes =
    let p = whole_is (fault_before c.args.self.now.deframer c.args.octets.now) c.push-used.new.self (sym c.push-used.ensures.answer ∙ c.in-Whole.is) in
    let t = c.push-used.ensures.takes p.0 in
    let one = c.in_ok-answer_message-in-Whole.ensures.ok refl in (
      one.0,
      goes_whole g.A.Area opened given sent c.args.self.now goes c.args.octets.now c.push-used.result.0 c.push-used.new.self c.push-used.ensures.follows
          c.requires.within c.a_stream_may_be_cut.ensures.frames c.a_stream_may_be_cut.ensures.rest c.a_bad_octet_ends_the_messages.ensures
          t.0 t.1 c.push-used.ensures.counts c.push-used.ensures.stands p.1 c.answer_message.new.self c.answer_message.ensures.stays.0 c.answer_message.ensures.stays.1
          c.answer_message.ensures.stays.2 one.0 one.1,
      one.2,
    )

pub returns-in_err-answer_message-in-Whole-clause-err : goal.returns-in_err-answer_message-in-Whole-clause-err
returns-in_err-answer_message-in-Whole-clause-err g c opened given sent goes =
    let p = whole_is (fault_before c.args.self.now.deframer c.args.octets.now) c.push-used.new.self (sym c.push-used.ensures.answer ∙ c.in-Whole.is) in
    let t = c.push-used.ensures.takes p.0 in
    let stops = stops_whole g.A.Area opened given sent c.args.self.now goes c.args.octets.now c.push-used.result.0 c.push-used.new.self c.push-used.ensures.follows
    c.requires.within c.a_stream_may_be_cut.ensures.frames c.a_stream_may_be_cut.ensures.rest c.a_bad_octet_ends_the_messages.ensures
    t.0 t.1 c.push-used.ensures.counts c.push-used.ensures.stands p.1 c.answer_message.new.self c.answer_message.ensures.stays.0 c.answer_message.ensures.stays.1
    c.answer_message.ensures.stays.2 (g.K.Sink.written c.args.sink.now) (g.K.Sink.written c.answer_message.new.sink) c.in_err-answer_message-in-Whole.field-0.0
    c.in_err-answer_message-in-Whole.ensures.err in
    let exit = err_from_is_err_and c.from_residual.result c.from_residual.ensures.1 in
    rw (exit.1, exit.2) stops

pub returns-in-Bad-clause-err : goal.returns-in-Bad-clause-err
returns-in-Bad-clause-err g c opened given sent goes =
    let p = bad_is (fault_before c.args.self.now.deframer c.args.octets.now) c.push-used.new.self c.in-Bad.at c.in-Bad.kind
    (sym c.push-used.ensures.answer ∙ c.in-Bad.is) in
    subst (λ (k : InputKind). StopsIn g.A.Area opened (given ++ c.args.octets.now) sent
    (pushed g.A.Area c.args.self.now c.push-used.new.self c.push-used.result.0) (g.K.Sink.written c.args.sink.now) (g.K.Sink.written c.args.sink.now)
    (status.Input c.in-Bad.at k)) (sym c.from.ensures)
    (stops_bad g.A.Area opened given sent c.args.self.now goes c.args.octets.now c.push-used.result.0 c.push-used.new.self c.push-used.ensures.follows
    c.requires.within c.a_stream_may_be_cut.ensures.frames c.a_stream_may_be_cut.ensures.rest c.a_bad_octet_ends_the_messages.ensures
    c.in-Bad.at c.in-Bad.kind p.0 p.1 (c.push-used.ensures.bad c.in-Bad.kind p.0).1 (g.K.Sink.written c.args.sink.now))
