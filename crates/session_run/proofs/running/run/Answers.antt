use Rattle.std.proofs.Common.{ap, arith, ◌∙◌}
use Rattle.session_run.proofs.Names.{Dispatcher, hands_of, HasEnded, IsNewAt, link_of, TakesAtMost, tells_lists}
use Rattle.gateway_book.specs.Turning.{facts_of}
use Rattle.session_run.proofs.BegunLemmas.{all_begun, counted, five_of, is_ready, numbered, receiver_new, team_of}
use Rattle.session_run.proofs.EndLemmas.{are_five, goes_nowhere_until, has_cause, have_served, never_served, new_five, none_have_replied, turns_taken}
use Rattle.session_run.proofs.RunLemmas.{run_goes_on, run_replies, run_stays, run_writer}
use Rattle.session_run.proofs.TeamLemmas.{if_turns}
use Rattle.session_run.proofs.running.run.Goals as goal

pub returns-in_default-clause-history : goal.returns-in_default-clause-history
returns-in_default-clause-history g c = λ told.
    rw c.unserved.ensures.gateway (goes_nowhere_until c.args.gateway.book c.unserved.ensures.last)

pub returns-in_default-clause-links : goal.returns-in_default-clause-links
returns-in_default-clause-links g c = rw c.unserved.ensures.gateway
    (new_five g.L.Link _ c.args.gateway.links.items c.requires.links)

pub returns-in_default-clause-replies : goal.returns-in_default-clause-replies
returns-in_default-clause-replies g c = λ told. rw c.unserved.ensures.gateway
    (none_have_replied g.L.Link c.args.gateway.address c.args.gateway.links.items c.requires.links.new)

pub returns-in-Err-clause-history : goal.returns-in-Err-clause-history
returns-in-Err-clause-history g c = λ told. rw (c.unserved-in-Err.ensures.gateway, c.in-Err.ensures.err)
    (goes_nowhere_until c.args.gateway.book c.unserved-in-Err.ensures.last)

pub returns-in-Err-clause-replies : goal.returns-in-Err-clause-replies
returns-in-Err-clause-replies g c = λ told. rw c.unserved-in-Err.ensures.gateway
    (none_have_replied g.L.Link c.args.gateway.address c.args.gateway.links.items c.requires.links.new)

pub returns-in_default-clause-turns : goal.returns-in_default-clause-turns
returns-in_default-clause-turns g c = rw c.unserved.ensures.gateway (if_turns c.args.until
    (TakesAtMost g.L.Link c.args.gateway.links.items c.unserved.result.stop)
    (never_served c.requires.links c.unserved.ensures.stop))

pub returns-in-Err-clause-turns : goal.returns-in-Err-clause-turns
returns-in-Err-clause-turns g c = rw c.unserved-in-Err.ensures.gateway (if_turns c.args.until
    (TakesAtMost g.L.Link c.args.gateway.links.items c.unserved-in-Err.result.stop)
    (never_served c.requires.links c.unserved-in-Err.ensures.stop))

pub returns-in-Err-clause-links : goal.returns-in-Err-clause-links
returns-in-Err-clause-links g c =
    rw c.unserved-in-Err.ensures.gateway (new_five g.L.Link _ c.args.gateway.links.items c.requires.links)

pub seat-seats-requires-clause-passes : goal.seat-seats-requires-clause-passes
seat-seats-requires-clause-passes g c =
    let start = facts_of c.args.gateway.book in
    let passes = c.in-Ok-new.passes in
    let five = five_of start passes.items c.in-Ok-new.ensures.passes.1 in (
      record {
        count = omega (arith, five, passes.ok.0);
        items = five;
        room = omega (arith, five, passes.ok.0, passes.ok.1);
      },
      numbered start passes.items c.in-Ok-new.ensures.passes.1,
    )

pub serve-served-requires-clause-own : goal.serve-served-requires-clause-own
serve-served-requires-clause-own g c κs within =
    let made = c.in-Ok-new in
    let hall = c.in-Ok.hall in (
      rw c.seat-seats.ensures.reception.0 c.in-Ok.ensures.pushes,
      team_of made.cell hall.inboxes made.passes.items c.seat-seats.ensures.seated made.ensures.passes.0
          c.in-Ok.ensures.pops,
    )

pub serve-served-requires-clause-writer : goal.serve-served-requires-clause-writer
serve-served-requires-clause-writer g c κs within =
    let w = c.args.gateway in
    let seats = c.seat-seats.ensures in
    is_ready g.L.Link (tells_lists g.A.Area) w.address (facts_of w.book) seats.seated c.in-Ok-new.ensures.passes.1
    c.in-Ok.ensures.none_popped c.requires.links.new
    (rw seats.reception.0 c.in-Ok.ensures.none_pushed) seats.reception.3 c.requires.writer

pub returns-in-Ok-new : goal.returns-in-Ok-new
returns-in-Ok-new g c =
    let w = c.args.gateway in
    let start = facts_of w.book in
    let told = tells_lists g.A.Area in
    let made = c.in-Ok-new.ensures in
    let seats = c.seat-seats.ensures in
    let none_pushed = ap (λ (d : Dispatcher). hands_of d) seats.reception.0 ∙ c.in-Ok.ensures.none_pushed in
    let begun = all_begun g.L.Link told w.address start seats.seated made.passes.1 c.in-Ok.ensures.none_popped
    c.requires.links.new none_pushed seats.reception.3 c.requires.writer in
    let now = facts_of c.end.result.gateway.book in
    let r = c.serve-served.result.0 in
    let s = have_served begun c.serve-served.ensures.worked c.serve-served.ensures.dispatched in
    let ended : HasEnded told start now c.serve-served.result.1 = rw made.cell.1 at c.end.ensures.ended in
    let new : IsNewAt w.address (link_of g.L.Link c.seat-seats.result.reception) = receiver_new g.L.Link seats.seated
    c.requires.links.new in
    record {
      history = rw c.end.ensures.links (run_goes_on s ended c.end.ensures.settled c.end.result.last c.end.ensures.last);
      replies = rw c.end.ensures.links (run_replies s ended c.end.ensures.settled);
      book = run_stays s ended c.end.ensures.settled;
      links = rw c.end.ensures.links (are_five s);
      turns = rw c.end.ensures.links (turns_taken s c.args.until
          (counted g.L.Link c.seat-seats.result.reception r c.args.until c.requires.few
          (rw seats.reception.1 c.turns_in-turns.ensures) seats.reception.2 new c.serve-served.ensures.turns)
          c.end.result.stop c.end.ensures.stop c.serve-served.ensures.over);
      writer = rw c.end.ensures.writer.0 (run_writer s ended c.end.ensures.settled c.filed_records_stay.ensures.items);
      clock = c.serve-served.ensures.clock;
      cause = rw c.end.ensures.links (has_cause s c.serve-served.ensures.cause
          (λ none. c.serve-served.ensures.calm none ∙ new.faults) c.end.result.stop c.end.ensures.stop);
    }
