-- What the window of a node knows after a gateway's history, and how one more entry changes it.
use Rattle.std.specs.Prelude.{◌≡◌, ℕ, ◌<◌, ◌==◌, true, if◌then◌else◌, List, ◌∷◌, ◌++◌, IfSome}
use Rattle.gw_base.specs.declared.history.HistoryAct.{HistoryAct}
use Rattle.gw_base.specs.declared.history.HistoryAct.TheVariants.{Path, File, Hold, Seal, Release, Cancel}
use Rattle.gw_base.specs.declared.history.HistoryEntry.{HistoryEntry}
use Rattle.gw_base.specs.declared.key_state.KeyState.TheVariants.{Fresh, Filed, Sealed, Held, Released, Cancelled}
use Rattle.gw_base.specs.History.{names, present_state, top_of}
use Rattle.seq_window.specs.Seen.{Seen, nothing_seen, with_state, with_states, within}

-- what the window of a node knows: the states of the present epoch
abbrev pub window_of : ℕ → ℕ → List HistoryEntry → Seen
window_of half node h = within half (top_of node h) (λ n. present_state node n h)

-- what it knows after one more entry
abbrev pub seen_after : ℕ → ℕ → HistoryAct → Seen → Seen
seen_after half node (Path n port counter) seen = if n.0 == node then nothing_seen else seen
seen_after half node (File n x packet) seen = if n.0 == node then with_state half x Filed seen else seen
seen_after half node (Hold n x packet) seen = if n.0 == node then with_state half x Held seen else seen
seen_after half node (Seal n x) seen = if n.0 == node then with_state half x Sealed seen else seen
seen_after half node (Release n xs) seen = if n.0 == node then with_states half xs Released seen else seen
seen_after half node (Cancel n xs) seen = if n.0 == node then with_states half xs Cancelled seen else seen
seen_after half node _ seen = seen

-- no number of the present epoch above the greatest one has a state
abbrev pub IsFreshAbove : ℕ → List HistoryEntry → Type 0
IsFreshAbove node h = (n : ℕ) → IfSome (top_of node h) (λ top. top < n) → present_state node n h ≡ Fresh

-- a Release or a Cancel of the node names held numbers alone
abbrev pub NamesHeld : ℕ → List HistoryEntry → HistoryAct → Type 0
NamesHeld node h (Release m xs) = (n : ℕ) → names node n (Release m xs) ≡ true → present_state node n h ≡ Held
NamesHeld node h (Cancel m xs) = (n : ℕ) → names node n (Cancel m xs) ≡ true → present_state node n h ≡ Held
NamesHeld node h _ = Unit {0}

-- each of a history does so, by the entries before it
abbrev pub EachNamesHeld : ℕ → List HistoryEntry → Type 0
EachNamesHeld node h = (before after : List HistoryEntry) (e : HistoryEntry) → h ≡ before ++ e ∷ after → NamesHeld node before e.act
