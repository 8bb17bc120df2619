use Rattle.std.proofs.Common.{rules, ap, ◌∙◌}
use Rattle.session_run.proofs.LinksLemmas.{new_pushed, new_split}
use Rattle.session_run.proofs.links.split_all.Goals as goal

pub splits-preserved : goal.splits-preserved
splits-preserved g c = record {
  new = λ at is. new_pushed g.K.Link at c.splits.last c.replace.result c.splits.made.items _ (ap (λ (l : _). g.K.Link.state l) c.replace.ensures.value ∙ c.in-Ok.ensures.ok)
      (c.splits.invariant.ends at is) (c.splits.invariant.new at is) c.push_reserved.ensures.items;
  ends = λ at is. rw c.replace.ensures.after
      (new_split g.K.Link at c.splits.last c.in-Ok.link (c.splits.invariant.ends at is) c.in-Ok.ensures.new);
  few = search rules;
  room = c.push_reserved.ensures.capacity ∙ c.splits.invariant.room;
}
