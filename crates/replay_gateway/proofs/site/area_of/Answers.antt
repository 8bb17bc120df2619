use Rattle.std.proofs.Common.{refl, ap, subst, ◌∙◌, ◌&&◌, Some}
use Rattle.replay_gateway.proofs.Names.{BookValue, header_at, is_closed, left_by_stop, New, StandsFitFor, stop_stands}
use Rattle.replay_gateway.proofs.OpeningLemmas.{left_kept}
use Rattle.replay_gateway.proofs.site.area_of.Goals as goal

pub returns-in-Some-Up : goal.returns-in-Some-Up
returns-in-Some-Up c = λ setup place g m stands.
    let up = rw (c.in-Some-Up.is ∙ ap Some c.in-Some-Up.field-0-is) at stands in
    let history = left_by_stop New c.in-Some-Up.book in
    record {
      size = cc (c.into_area.ensures.area, up.size);
      history = history;
      holds = record {
        stands = rw c.into_area.ensures.area (rw up.up.named at (c.into_area.ensures.leaves.reads refl (refl, refl)));
      };
      kept = rw up.runs
          (left_kept (is_closed c.in-Some-Up.book.trail && stop_stands New c.in-Some-Up.book.trail) up.up.value);
      crash = λ runs sound octets may.
          let left = rw c.into_area.ensures.area at may in
          let opened = ap (λ (v : BookValue). v.is_broken) up.up.value ∙ sound in
          subst (λ (v : BookValue). StandsFitFor (header_at setup place) octets v.firm) up.up.value
          (rw up.up.named at (c.into_area.ensures.leaves.whole (refl, refl) opened octets left));
    }
