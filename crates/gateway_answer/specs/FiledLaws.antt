-- Filed records and items stay as they are when entries follow, and what is held is told entry by entry.
use Rattle.std.proofs.Common.{◌≡◌, ℕ, Bool, true, false, if◌then◌else◌, List, [], ◌∷◌, ◌++◌, Some, None, option_and_then, refl, ap, sym, ◌∙◌, append_assoc}
use Rattle.std.proofs.lemmas.List.{append-nil}
use Rattle.gw_base.specs.EntryLaws.{last_naming-append}
use Rattle.gw_base.specs.History.{begins_epoch, last_naming, names, present_entries}
use Rattle.gw_base.specs.ListLaws.{after_last-push}
use Rattle.gw_base.specs.declared.history.HistoryEntry.{HistoryEntry}
use Rattle.gateway_answer.specs.Filed.{along, held_packet, packet_of_hold}
use Rattle.gateway_answer.specs.Steps.{packet_after}

-- what entries give that follow others comes after what those give
pub along-append : {A : Type 0} (f : List HistoryEntry → HistoryEntry → List A) (before h g : List HistoryEntry)
    → along f before (h ++ g) ≡ along f before h ++ along f (before ++ h) g
along-append f before [] g = ap (λ b. along f b g) (sym (append-nil before))
along-append f before (e ∷ h) g =
    ap (λ more. f before e ++ more)
    (along-append f (before ++ e ∷ []) h g ∙ ap (λ b. along f (before ++ e ∷ []) h ++ along f b g) (append_assoc before (e ∷ []) h))
    ∙ sym (append_assoc (f before e) (along f (before ++ e ∷ []) h) (along f (before ++ e ∷ h) g))

-- the packet that is held after one more entry
pub held_packet-push : (node number : ℕ) (h : List HistoryEntry) (e : HistoryEntry)
    → held_packet node number (h ++ e ∷ []) ≡ packet_after node number (held_packet node number h) e.act
held_packet-push node number h e =
    ap (λ es. option_and_then (λ (x : HistoryEntry). packet_of_hold x.act) (last_naming node number es)) (after_last-push (λ (x : HistoryEntry). begins_epoch node x.act) h e)
    ∙ by_epoch (begins_epoch node e.act)
  where
    by_name : (b : Bool) → option_and_then (λ (x : HistoryEntry). packet_of_hold x.act) (if b then Some e else last_naming node number (present_entries node h))
        ≡ (if b then packet_of_hold e.act else held_packet node number h)
    by_name true = refl
    by_name false = refl

    by_epoch : (b : Bool) → option_and_then (λ (x : HistoryEntry). packet_of_hold x.act) (last_naming node number (if b then [] else present_entries node h ++ e ∷ []))
        ≡ (if b then None else (if names node number e.act then packet_of_hold e.act else held_packet node number h))
    by_epoch true = refl
    by_epoch false =
        ap (λ last. option_and_then (λ (x : HistoryEntry). packet_of_hold x.act) last) (last_naming-append node number (present_entries node h) e)
        ∙ by_name (names node number e.act)
