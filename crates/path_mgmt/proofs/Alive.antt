-- Which gateways are alive: those that told so, among the messages that were heard.
use Rattle.std.proofs.Common.{◌≡◌, ℕ, suc, ◌<◌, Bool, true, false, ◌==◌, ◌||◌, inl, inr, List, [], ◌∷◌, ◌++◌, length, get_or, set, refl, ap, sym, ◌∙◌, arith}
use Rattle.std.proofs.lemmas.Bool.{false≢true, eq-eqb}
use Rattle.std.proofs.lemmas.Bool.Decides.{eqb_tells}
use Rattle.std.proofs.lemmas.Grind.{get_or-set_at}
use Rattle.std.proofs.lemmas.List.{get_or-set_other, length-set}
use Rattle.std.proofs.lemmas.List.Folds.{list_any-append}
use Rattle.std.specs.Prelude.{replicate}
use Rattle.std.specs.List.{list_any}
use Rattle.path_mgmt.specs.NodePath.{PathsOfNode, is_alive, node_after, node_after_all, node_anew, tells_alive}
use Rattle.path_mgmt.specs.declared.event.PathEvent.{PathEvent}
use Rattle.path_mgmt.specs.declared.event.PathEvent.TheVariants.{AliveTold}

-- where each of some flags is false, the one at any place is
pub none_set : (count place : ℕ) → get_or (replicate count false) place false ≡ false
none_set (suc count) (suc place) = none_set count place
none_set _ _ = refl

-- after a write of true at a place, a flag is true where it stands there or was true before
after_set : (flags : List Bool) (place other : ℕ) → other < length flags →
    get_or (set flags place true) other false ≡ ((other == place) || get_or flags other false)
after_set flags place other below =
    elim (eqb_tells other place) [
      | inl is ↦
          get_or-set_at flags place other true false is.1 (omega (arith, is.1, below))
          ∙ sym (ap (λ b. b || get_or flags other false) is.0)
      | inr isnt ↦
          get_or-set_other flags place other true false isnt.1
          ∙ sym (ap (λ b. b || get_or flags other false) isnt.0)
    ]

-- the first of three tests may stand second
second_first : (a b c : Bool) → ((b || a) || c) ≡ (a || (b || c))
second_first true true c = refl
second_first true false c = refl
second_first false true c = refl
second_first false false c = refl

-- one test that passes is enough
one_passes : (a b c : Bool) → b ≡ true → (a || (b || c)) ≡ true
one_passes false false c passes = absurd (false≢true passes)
one_passes _ _ c passes = refl

-- a test with none beside it
alone : (a : Bool) → a ≡ (a || false)
alone true = refl
alone false = refl

-- a gateway is alive where it was so before, or where it told so
alive_after : (node : PathsOfNode) (gateway : ℕ) (heard : List (ℕ × PathEvent)) → gateway < length node.alive →
    is_alive (node_after_all node heard) gateway ≡ (is_alive node gateway || list_any (tells_alive gateway) heard)
alive_after node gateway [] below = alone (is_alive node gateway)
alive_after node gateway ((from, AliveTold number) ∷ heard) below =
    alive_after (node_after node from (AliveTold number)) gateway heard (omega (arith, length-set node.alive from true, below))
    ∙ ap (λ b. b || list_any (tells_alive gateway) heard) (after_set node.alive from gateway below)
    ∙ second_first (is_alive node gateway) (gateway == from) (list_any (tells_alive gateway) heard)
alive_after node gateway (_ ∷ heard) below = alive_after node gateway heard below

-- to a node that began with none, a gateway is alive exactly where it told so
pub alive_exactly : (counter gateway : ℕ) (heard : List (ℕ × PathEvent)) → gateway < 256 →
    is_alive (node_after_all (node_anew counter) heard) gateway ≡ list_any (tells_alive gateway) heard
alive_exactly counter gateway heard below =
    alive_after (node_anew counter) gateway heard below
    ∙ ap (λ b. b || list_any (tells_alive gateway) heard) (none_set 256 gateway)

-- from its Node Alive Response on a gateway stays alive
pub stays_alive : (counter gateway number : ℕ) (before after : List (ℕ × PathEvent)) → gateway < 256 →
    is_alive (node_after_all (node_anew counter) (before ++ (gateway, AliveTold number) ∷ after)) gateway ≡ true
stays_alive counter gateway number before after below =
    alive_exactly counter gateway (before ++ (gateway, AliveTold number) ∷ after) below
    ∙ list_any-append (tells_alive gateway) before ((gateway, AliveTold number) ∷ after)
    ∙ one_passes (list_any (tells_alive gateway) before) (gateway == gateway) (list_any (tells_alive gateway) after) (eq-eqb gateway gateway refl)
