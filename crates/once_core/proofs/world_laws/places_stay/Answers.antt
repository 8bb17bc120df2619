use Rattle.std.proofs.Common.{◌≡◌, List, Some, subst, sym}
use Rattle.once_core.proofs.Names.{firm_in, items_of, place_in, ruled_turns}
use Rattle.gw_base.specs.declared.item.Item.{Item}
use Rattle.once_core.proofs.GrowingLemmas.{items_grow, turns_grow}
use Rattle.once_core.proofs.world_laws.places_stay.Goals as goal

pub returns : goal.returns
returns c w later place k settings at found =
    let goes = items_grow (firm_in w place) (firm_in (ruled_turns w later) place) (turns_grow w later place) in
    subst (λ (items : List Item). place_in settings items k ≡ Some at) (sym goes.is)
    (c.a_place_stays.ensures settings (items_of (firm_in w place)) goes.more k at found)
