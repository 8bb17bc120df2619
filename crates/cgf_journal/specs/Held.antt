-- How many held keys there are, of each kind that a test can tell.
use Rattle.std.specs.Prelude.{ℕ, ◌+◌, ◌≤◌, ◌&&◌, Bool, if◌then◌else◌, List, [], ◌∷◌}
use Rattle.gw_base.specs.declared.held.HeldKey.{HeldKey}
use Rattle.gw_base.specs.declared.history.HistoryAct.{HistoryAct}
use Rattle.gw_base.specs.HeldKeys.{held_by}
use Rattle.gw_base.specs.View.{stays_held}
use Rattle.cgf_journal.specs.Keys.{is_named}

-- how many keys pass a test
abbrev pub passing : (HeldKey → Bool) → List HeldKey → ℕ
passing p [] = 0
passing p (key ∷ keys) = (if p key then 1 else 0) + passing p keys

-- how many held keys pass a test after one more entry, where it is known of each test before
abbrev pub held_behind : HistoryAct → ((HeldKey → Bool) → ℕ) → (HeldKey → Bool) → ℕ
held_behind act held p = held (λ key. stays_held act key && p key) + passing p (held_by act [])

-- each key is held once, where it is known how many held keys pass each test
abbrev pub IsOnceEach : ((HeldKey → Bool) → ℕ) → Type 0
IsOnceEach held = (node number : ℕ) → held (λ key. is_named node number key) ≤ 1
