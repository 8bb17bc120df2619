use Rattle.std.proofs.Common.{◌≡◌, ◌+◌, nat_le, Bool, List, [], ◌∷◌, ◌++◌, ap, sym, ◌∙◌}
use Rattle.gateway_answer.proofs.Names.{capacity_of, entry_by, held_keys, HeldKey, no_caller, promised_by, promised_octets}
use Rattle.gw_base.specs.Entry.{act_view}
use Rattle.gateway_answer.proofs.PlainLemmas.{promised_after}
use Rattle.gateway_answer.proofs.listed.ListedObserve.has_room.Goals as goal

pub returns : goal.returns
returns c =
    let promised : c.promised_by-promised.result ≡ promised_octets (c.args.self.now.history.now ++ entry_by c.args.self.now.history.now 0 no_caller (act_view c.args.act.now) ∷ []) =
    c.promised_by-promised.ensures.value
    ∙ ap (λ (keys : List HeldKey). promised_by keys c.is_close_due-due.result (act_view c.args.act.now)) (c.deref.ensures.value ∙ c.args.self.now.holds)
    ∙ ap (λ (due : Bool). promised_by (held_keys c.args.self.now.history.now) due (act_view c.args.act.now)) c.is_close_due-due.ensures
    ∙ sym (promised_after c.args.self.now.history.now (entry_by c.args.self.now.history.now 0 no_caller (act_view c.args.act.now))) in
    c.has_room.ensures
    ∙ (λ i. nat_le (c.costs_of.ensures i + c.cost_of.ensures.value c.args.self.now.history.now i + promised i) (capacity_of c.args.self.now.size))
