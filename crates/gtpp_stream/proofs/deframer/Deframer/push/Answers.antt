use Rattle.std.proofs.Common.{◌≡◌, ◌+◌, ◌++◌, ◌∙◌, None, ap, arith, is_ok, take}
use Rattle.gtpp_header.specs.Reading.{header_reading}
use Rattle.gtpp_stream.specs.Frames.{first_fault}
use Rattle.gtpp_stream.specs.Kept.{IsKept}
use Rattle.gtpp_stream.specs.Stream.{Stream, fault_before}
use Rattle.gtpp_stream.proofs.DeframerLemmas.{follows_on, kept_after, no_fault_now}
use Rattle.gtpp_stream.proofs.deframer.Deframer.push.Goals as goal
use Rattle.gtpp_stream.proofs.deframer.Deframer.push.Goals.{After-is_ok-self-inside}

-- what is kept once a piece was taken in
kept : (c : After-is_ok-self-inside) → IsKept (c.self.inside.used + c.take_in-count.result) c.take_in-count.new.octets.items c.is_ok-self-inside.result
kept c =
    let old = c.self.inside.octets.items in
    let new = c.take_in-count.new.octets.items in
    let none : fault_before c.args.self.now c.args.piece.now ≡ None = cc (c.in_default.ensures) in
    let good : first_fault (old ++ c.args.piece.now) ≡ None = no_fault_now c.self.inside.bad (first_fault (old ++ c.args.piece.now)) (rw (← c.self.view_is) at none) in
    let read : c.is_ok-self-inside.result ≡ is_ok (header_reading new) =
    c.is_ok-self-inside.ensures.value ∙ (λ i. is_ok (c.read.ensures.reading i)) ∙ (λ i. is_ok (header_reading (c.deref.ensures.value i))) in
    rw read (kept_after c.self.inside.used c.take_in-count.result old new c.args.piece.now c.take_in-count.ensures.takes good c.take_in-count.ensures.small c.self.invariant.0.among)

pub invariant_of-self-then-self : goal.invariant_of-self-then-self
invariant_of-self-then-self c =
    (kept (goal.at.invariant_of-self-then-self c).After-is_ok-self-inside, omega (arith, c.take_in-count.ensures.room, c.self.invariant.1))

pub invariant_of-self-2 : goal.invariant_of-self-2
invariant_of-self-2 c =
    (kept (goal.at.invariant_of-self-2 c).After-is_ok-self-inside, omega (arith, c.take_in-count.ensures.room, c.self.invariant.1))

pub returns-then-self-clause-stands : goal.returns-then-self-clause-stands
returns-then-self-clause-stands c = (kept (goal.at.returns-then-self-clause-stands c).After-is_ok-self-inside).part

pub returns-clause-stands : goal.returns-clause-stands
returns-clause-stands c = (kept (goal.at.returns-clause-stands c).After-is_ok-self-inside).part

pub returns-then-self-clause-follows : goal.returns-then-self-clause-follows
returns-then-self-clause-follows c given messages f =
    follows_on c.a_stream_may_be_cut.ensures.frames c.a_stream_may_be_cut.ensures.rest given messages c.args.piece.now c.take_in-count.result c.args.self.now _ c.requires.none_stands f
    c.take_in-count.ensures.takes.inside (c.take_in-count.ensures.takes.octets ∙ ap (λ (s : Stream). s.octets ++ take c.take_in-count.result c.args.piece.now) c.self.view_is)
    (ap (λ (s : Stream). s.used + c.take_in-count.result) c.self.view_is) (kept (goal.at.returns-then-self-clause-follows c).After-is_ok-self-inside).part

pub returns-clause-follows : goal.returns-clause-follows
returns-clause-follows c given messages f =
    follows_on c.a_stream_may_be_cut.ensures.frames c.a_stream_may_be_cut.ensures.rest given messages c.args.piece.now c.take_in-count.result c.args.self.now _ c.requires.none_stands f
    c.take_in-count.ensures.takes.inside (c.take_in-count.ensures.takes.octets ∙ ap (λ (s : Stream). s.octets ++ take c.take_in-count.result c.args.piece.now) c.self.view_is)
    (ap (λ (s : Stream). s.used + c.take_in-count.result) c.self.view_is) (kept (goal.at.returns-clause-follows c).After-is_ok-self-inside).part
