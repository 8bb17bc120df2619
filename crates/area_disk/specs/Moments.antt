-- What a crash leaves at any moment of a run of calls on an area.
use Rattle.std.specs.Prelude.{◌≡◌, ◌⊎◌, ℕ, ◌≤◌, List, IsTrue, Result, OnOk, OnErr}
use Rattle.area_disk.specs.Course.{ReadOn}
use Rattle.area_disk.specs.Disk.{counted}
use Rattle.area_disk.specs.Record.{Moments}
use Rattle.area_disk.specs.declared.area.Area.{Ghosts}

-- the area tells what a read gives and what a crash may leave
abbrev pub Told : {A : Type 0} → Ghosts A → Type 0
Told area = IsTrue area.tells_octets × IsTrue area.tells_crash

-- A crash at any moment since old leaves octets that have P, where the moments since old are told.
pub record LeavesOnly (old new : Moments) (P : List ℕ → Type 0) : Type 0 where
  pub later : old.now ≤ new.now
  pub told_later : old.told_from ≤ new.told_from
  pub each : (c : List ℕ) → new.told_from ≤ old.now → new.left_since old.now c → P c
  -- for a run that began earlier
  pub before : (t : ℕ) (c : List ℕ) → new.told_from ≤ t → t ≤ old.now → new.left_since t c → old.left_since t c ⊎ P c

-- What a crash leaves has P: at each moment since the call's start that is told, and now.
pub record Leaves {A : Type 0} (area : Ghosts A) (old new : A) (P : List ℕ → Type 0) : Type 0 where
  pub moments : LeavesOnly (area.moments old) (area.moments new) P
  pub now : (c : List ℕ) → area.may_leave new c → P c

-- a count of calls after at least one more and at most n
abbrev pub RoseUpTo : ℕ → ℕ → ℕ → Type 0
RoseUpTo n before now = (k : ℕ) × (1 ≤ k) × (k ≤ n) × (now ≡ counted k before)

-- a call made n counted calls, or those up to the one that failed
pub record Calls {T E : Type 0} (n before now : ℕ) (result : Result T E) : Type 0 where
  pub ok : OnOk result (now ≡ counted n before)
  pub failed : OnErr result (RoseUpTo n before now)

-- A call changed nothing that a read gives or that a crash may leave, and made no counted call: at most it read.
pub record Kept {A : Type 0} (area : Ghosts A) (old new : A) : Type 0 where
  pub size : area.size new ≡ area.size old
  pub octets : area.octets new ≡ area.octets old
  pub leaves : Leaves area old new (area.may_leave old)
  pub calls : IsTrue area.tells_calls → area.calls new ≡ area.calls old
  pub planned : IsTrue area.tells_fate → ReadOn (area.fate old) (area.fate new)
