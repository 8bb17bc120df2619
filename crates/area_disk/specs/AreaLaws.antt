-- What the members of an area have in common, as one record.
use Rattle.std.specs.Prelude.{◌≡◌, ℕ, ◌≤◌, List, IsTrue, length}
use Rattle.area_disk.specs.declared.area.Area.{Ghosts}
use Rattle.area_disk.specs.declared.plan.Outcome3.{Outcome3}
use Rattle.area_disk.specs.declared.plan.Outcome3.TheVariants.{New}

pub record AreaLaws {A : Type 0} (area : Ghosts A) : Type 0 where
  pub holds : (a : A) → area.may_leave a (area.octets a)
  pub whole : (a : A) → IsTrue area.tells_octets → length (area.octets a) ≡ area.size a
  pub same_size : (a : A) (c : List ℕ) → IsTrue area.tells_crash → area.may_leave a c → length c ≡ area.size a
  pub same_size_since : (a : A) (t : ℕ) (c : List ℕ) → IsTrue area.tells_crash →
      (area.moments a).told_from ≤ t → t ≤ (area.moments a).now → (area.moments a).left_since t c →
      length c ≡ area.size a
  pub counts_now : (a : A) (t : ℕ) (c : List ℕ) → (area.moments a).told_from ≤ t → t ≤ (area.moments a).now →
      area.may_leave a c → (area.moments a).left_since t c
  pub only_now : (a : A) (c : List ℕ) → (area.moments a).told_from ≤ (area.moments a).now →
      (area.moments a).left_since (area.moments a).now c → area.may_leave a c
  pub may_stop : (a : A) (o : Outcome3) → IsTrue area.tells_fate → area.may_leave a ((area.fate a).leaves o)
  pub stops_new : (a : A) → IsTrue area.tells_fate → (area.fate a).leaves New ≡ area.octets a
  pub counts_calls : (a : A) → IsTrue area.tells_fate → (area.fate a).schedule.calls ≡ area.calls a
