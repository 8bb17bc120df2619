-- That a spelling fits is one fact: there are no two proofs of it.
use Rattle.std.specs.Prelude.{ℕ, ◌^◌, List, [], ◌∷◌}
use Rattle.std.specs.Coded.{×_prop, Unit-prop, le_prop}
use Rattle.gw_base.specs.declared.history.HistoryAct.{HistoryAct}
use Rattle.gw_base.specs.declared.history.HistoryAct.TheVariants.{Start, Path, File, Hold, Seal, Release, Cancel, Tick, Close}
use Rattle.entry_codec.specs.Spelling.{AreBelow, IsAct}

pub AreBelow-prop : (bound : ℕ) (xs : List ℕ) → IsProp (AreBelow bound xs)
AreBelow-prop bound [] = Unit-prop
AreBelow-prop bound (x ∷ xs) = ×_prop le_prop (AreBelow-prop bound xs)

pub IsAct-prop : (act : HistoryAct) → IsProp (IsAct act)
IsAct-prop Start = Unit-prop
IsAct-prop (Path n port counter) = λ x y i. (le_prop x.0 y.0 i, le_prop x.1 y.1 i, le_prop x.2 y.2 i)
IsAct-prop (File n x packet) = λ p q i. (le_prop p.0 q.0 i, le_prop p.1 q.1 i, AreBelow-prop 256 packet p.2 q.2 i)
IsAct-prop (Hold n x packet) = λ p q i. (le_prop p.0 q.0 i, le_prop p.1 q.1 i, AreBelow-prop 256 packet p.2 q.2 i)
IsAct-prop (Seal n x) = ×_prop le_prop le_prop
IsAct-prop (Release n xs) = ×_prop le_prop (AreBelow-prop (2 ^ 64) xs)
IsAct-prop (Cancel n xs) = ×_prop le_prop (AreBelow-prop (2 ^ 64) xs)
IsAct-prop Tick = Unit-prop
IsAct-prop Close = Unit-prop
