use Rattle.std.proofs.Common.{◌∙◌, sym, ap, [], ◌∷◌, ◌++◌, List, if◌then◌else◌, not, nat_le, rules, map-id}
use Rattle.once_core.proofs.Names.{Message, Waiting, YieldsList-end, YieldsList-from_vec}
use Rattle.once_core.proofs.PartingLemmas.{due_more, later_more}
use Rattle.once_core.proofs.due.parted.Goals as goal

pub loop-w-preserved : goal.loop-w-preserved
loop-w-preserved c = record {
  due = c.in_ok-part.ensures.due
      ∙ ap (λ (ms : List Message). ms ++ (if nat_le c.in-Some.w.front c.args.firm then c.in-Some.w.message ∷ [] else []))
      c.loop-w.invariant.due
      ∙ sym (due_more c.args.firm c.loop-w.yielded c.in-Some.w);
  later = c.in_ok-part.ensures.later
      ∙ ap (λ (ws : List Waiting). ws ++ (if not (nat_le c.in-Some.w.front c.args.firm) then c.in-Some.w ∷ [] else []))
      c.loop-w.invariant.later
      ∙ sym (later_more c.args.firm c.loop-w.yielded c.in-Some.w);
}

pub returns-clause-due : goal.returns-clause-due
returns-clause-due c =
    let end = YieldsList-end (YieldsList-from_vec {s = c.into_iter-w-iterator.result} c.args.waiting.items (search rules)
    (search rules)) c.loop-w.yielded c.loop-w.w-iterator c.loop-w.yielded_by c.next.result c.next.new.self c.in-None.is
    c.next.ensures.steps in
    rw (← end.0, map-id) c.loop-w.invariant.due

pub returns-clause-later : goal.returns-clause-later
returns-clause-later c =
    let end = YieldsList-end (YieldsList-from_vec {s = c.into_iter-w-iterator.result} c.args.waiting.items (search rules)
    (search rules)) c.loop-w.yielded c.loop-w.w-iterator c.loop-w.yielded_by c.next.result c.next.new.self c.in-None.is
    c.next.ensures.steps in
    rw (← end.0, map-id) c.loop-w.invariant.later
