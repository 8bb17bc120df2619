-- The scans of the code, entry by entry from the first: each ends in what is meant of the whole history.
use Rattle.std.proofs.Common.{◌≡◌, ℕ, Bool, false, List, [], ◌∷◌, ◌++◌, Option, None, fold, refl, ap, sym, ◌∙◌, zero, suc, slice_get, unwrap_or}
use Rattle.gw_base.specs.declared.address.NodeId.{NodeId}
use Rattle.gw_base.specs.declared.history.HistoryEntry.{HistoryEntry}
use Rattle.gw_base.specs.declared.history.PacketKey.{PacketKey}
use Rattle.gw_base.specs.declared.key_state.KeyState.{KeyState}
use Rattle.gw_base.specs.declared.key_state.KeyState.TheVariants.{Fresh}
use Rattle.gw_base.specs.declared.scan.KeyScan.{KeyScan}
use Rattle.gw_base.specs.declared.history.Opening.{Opening}
use Rattle.gw_base.specs.EntryLaws.{epoch_of-append, is_close_due-append, known_nodes-append, last_tick-append, opening_of-append, state_of-append, top_of-append}
use Rattle.gw_base.specs.History.{due_after, epoch_of, is_close_due, last_naming, state_by, state_of, top_after, top_of}
use Rattle.gw_base.specs.Known.{known_nodes, named_node, with_node}
use Rattle.gw_base.specs.ListLaws.{fold_is}
use Rattle.gw_base.specs.Starts.{opening_after, opening_of}
use Rattle.gw_base.specs.Steps.{scan_after}
use Rattle.gw_base.specs.TickDue.{last_tick, tick_after}

abbrev pub top_from : ℕ → Option ℕ → List HistoryEntry → Option ℕ
top_from node top h = fold (λ t e. top_after node t e.act) top h

pub top_is : (node : ℕ) (h : List HistoryEntry) → top_from node None h ≡ top_of node h
top_is node h = fold_is (λ (t : Option ℕ) (e : HistoryEntry). top_after node t e.act) (top_of node) (top_of-append node) h

abbrev pub opening_from : ℕ → Option Opening → List HistoryEntry → Option Opening
opening_from node opening h = fold (λ o e. opening_after node o e.act) opening h

pub opening_is : (node : ℕ) (h : List HistoryEntry) → opening_from node None h ≡ opening_of node h
opening_is node h = fold_is (λ (o : Option Opening) (e : HistoryEntry). opening_after node o e.act) (opening_of node) (opening_of-append node) h

abbrev pub due_from : Bool → List HistoryEntry → Bool
due_from due h = fold (λ d e. due_after d e.act) due h

pub due_is : (h : List HistoryEntry) → due_from false h ≡ is_close_due h
due_is h = fold_is (λ (d : Bool) (e : HistoryEntry). due_after d e.act) is_close_due is_close_due-append h

abbrev pub tick_from : Option ℕ → List HistoryEntry → Option ℕ
tick_from last h = fold (λ l e. tick_after l e.act e.moment) last h

pub tick_is : (h : List HistoryEntry) → tick_from None h ≡ last_tick h
tick_is h = fold_is (λ (l : Option ℕ) (e : HistoryEntry). tick_after l e.act e.moment) last_tick last_tick-append h

abbrev pub known_from : List NodeId → List HistoryEntry → List NodeId
known_from known h = fold (λ k e. with_node k (named_node e.act)) known h

pub known_is : (h : List HistoryEntry) → known_from [] h ≡ known_nodes h
known_is h = fold_is (λ (k : List NodeId) (e : HistoryEntry). with_node k (named_node e.act)) known_nodes known_nodes-append h

abbrev pub scan_from : PacketKey → KeyScan → List HistoryEntry → KeyScan
scan_from key s h = fold (λ t e. scan_after key t e.act) s h

abbrev scan_of : PacketKey → List HistoryEntry → KeyScan
scan_of key h = record { epoch = epoch_of key.node.0 h; state = state_of key h }

scan_of-append : (key : PacketKey) (h : List HistoryEntry) (e : HistoryEntry) → scan_of key (h ++ e ∷ []) ≡ scan_after key (scan_of key h) e.act
scan_of-append key h e = λ i. record { epoch = epoch_of-append key.node.0 h e i; state = state_of-append key h e i }

state_of_none : (key : PacketKey) → state_of key [] ≡ Fresh
state_of_none key = by_epoch key.epoch
  where
    by_epoch : (epoch : ℕ) → state_by (last_naming key.node.0 key.number (unwrap_or (slice_get ([] ∷ []) epoch) [])) ≡ Fresh
    by_epoch zero = refl
    by_epoch (suc epoch) = refl

pub scan_is : (key : PacketKey) (h : List HistoryEntry) → (scan_from key (record { epoch = 0; state = Fresh }) h).state ≡ state_of key h
scan_is key h = ap (λ (s : KeyScan). s.state)
    (ap (λ (state : KeyState). scan_from key (record { epoch = 0; state = state }) h) (sym (state_of_none key))
    ∙ fold_is (λ (s : KeyScan) (e : HistoryEntry). scan_after key s e.act) (scan_of key) (scan_of-append key) h)
