-- How what a crash leaves goes on over the calls of an area.
use Rattle.std.proofs.Common.{inl, inr, ⊎_elim, ◌≡◌, ℕ, ◌≤◌, List, refl, subst, ◌∙◌, arith}
use Rattle.std.specs.Prelude.{IsTrue}
use Rattle.area_disk.specs.Course.{ReadOn}
use Rattle.area_disk.specs.CourseLaws.{read_on_trans}
use Rattle.area_disk.specs.Disk.{Only, Torn, Follows, Within}
use Rattle.area_disk.specs.Moments.{Leaves, Kept}
use Rattle.area_disk.specs.Record.{Step, GoesOn}
use Rattle.area_disk.specs.declared.area.Area.{Ghosts}

module _ {A : Type 0} (area : Ghosts A) where
  -- since this moment there is no other
  abbrev pub OnlyNow : Type 0
  OnlyNow = (a : A) (c : List ℕ) → (area.moments a).told_from ≤ (area.moments a).now → (area.moments a).left_since (area.moments a).now c → area.may_leave a c

  -- one call more
  abbrev pub Goes : Step → A → A → Type 0
  Goes made old new = GoesOn area.most_room made (area.moments old) (area.moments new) (area.may_leave new)

  -- before the first call
  pub begin : OnlyNow → (old : A) (P : List ℕ → Type 0) → ((c : List ℕ) → area.may_leave old c → P c) → Leaves area old old P
  begin only_now old P here = record {
    moments = record {
      later = omega arith;
      told_later = omega arith;
      each = λ c told left. here c (only_now old c told left);
      before = λ t c told le left. inl left;
    };
    now = here;
  }

  -- one call more, after which a crash leaves what has P
  pub step : {made : Step} (old mid new : A) (P : List ℕ → Type 0) → Leaves area old mid P → Goes made mid new → ((c : List ℕ) → area.may_leave new c → P c) → Leaves area old new P
  step old mid new P so_far call here = let time = call.time in record {
    moments = record {
      later = omega (arith, so_far.moments.later, time.later);
      told_later = omega (arith, so_far.moments.told_later, time.told_later);
      each = λ c told left.
          ⊎_elim (so_far.moments.each c (omega (arith, told, time.told_later))) (here c) (time.nothing_else ((area.moments old).now) c told so_far.moments.later left);
      before = λ t c told le left.
          ⊎_elim (so_far.moments.before t c (omega (arith, told, time.told_later)) le) (λ now. inr (here c now)) (time.nothing_else t c told (omega (arith, le, so_far.moments.later)) left);
    };
    now = here;
  }

  -- a weaker P
  pub widen : (old new : A) (P Q : List ℕ → Type 0) → ((c : List ℕ) → P c → Q c) → Leaves area old new P → Leaves area old new Q
  widen old new P Q wide leaves = record {
    moments = record {
      later = leaves.moments.later;
      told_later = leaves.moments.told_later;
      each = λ c told left. wide c (leaves.moments.each c told left);
      before = λ t c told le left. ⊎_elim inl (λ has. inr (wide c has)) (leaves.moments.before t c told le left);
    };
    now = λ c left. wide c (leaves.now c left);
  }

  -- two facts at once
  pub both : (old new : A) (P Q : List ℕ → Type 0) → Leaves area old new P → Leaves area old new Q → Leaves area old new (λ c. P c × Q c)
  both old new P Q one two = record {
    moments = record {
      later = one.moments.later;
      told_later = one.moments.told_later;
      each = λ c told left. (one.moments.each c told left, two.moments.each c told left);
      before = λ t c told le left.
          ⊎_elim inl (λ has. ⊎_elim inl (λ has_too. inr (has, has_too)) (two.moments.before t c told le left)) (one.moments.before t c told le left);
    };
    now = λ c left. (one.now c left, two.now c left);
  }

  -- two runs, one after the other
  pub join : (old mid new : A) (P : List ℕ → Type 0) → Leaves area old mid P → Leaves area mid new P → Leaves area old new P
  join old mid new P one two = record {
    moments = record {
      later = omega (arith, one.moments.later, two.moments.later);
      told_later = omega (arith, one.moments.told_later, two.moments.told_later);
      each = λ c told left. ⊎_elim (one.moments.each c (omega (arith, told, two.moments.told_later))) (λ has. has)
          (two.moments.before ((area.moments old).now) c told one.moments.later left);
      before = λ t c told le left. ⊎_elim (one.moments.before t c (omega (arith, told, two.moments.told_later)) le) inr
          (two.moments.before t c told (omega (arith, le, one.moments.later)) left);
    };
    now = two.now;
  }

  -- a write may leave any octets in its range, where a crash before it left these alone
  pub torn_write : (old new : A) (at n : ℕ) → Only (area.octets old) (area.may_leave old) → Follows (Torn at n) (area.may_leave old) (area.may_leave new)
      → (c : List ℕ) → area.may_leave new c → Torn at n (area.octets old) c
  torn_write old new at n only follows c left =
      let from = follows c left in
      subst (λ (d : List ℕ). Torn at n d c) (only from.0 from.1) from.2

  -- calls that change nothing, one after the other
  pub follow : (old mid new : A) (P : List ℕ → Type 0) → Leaves area old mid P → Leaves area mid new (area.may_leave mid) → Leaves area old new P
  follow old mid new P one two = join old mid new P one (widen mid new (area.may_leave mid) P one.now two)

  pub kept_refl : OnlyNow → (a : A) → Kept area a a
  kept_refl only_now a = record {
    size = refl;
    octets = refl;
    leaves = begin only_now a (area.may_leave a) (λ c left. left);
    calls = λ told. refl;
    planned = λ told. record { schedule = refl; spare = refl; leaves = λ outcome. refl };
  }

  pub kept_trans : (a b c : A) → Kept area a b → Kept area b c → Kept area a c
  kept_trans a b c one two = record {
    size = two.size ∙ one.size;
    octets = two.octets ∙ one.octets;
    leaves = follow a b c (area.may_leave a) one.leaves two.leaves;
    calls = λ told. two.calls told ∙ one.calls told;
    planned = λ told. read_on_trans (area.fate a) (area.fate b) (area.fate c) (one.planned told) (two.planned told);
  }

  -- a call that leaves no more than before
  pub kept_leaves : {made : Step} → OnlyNow → (old new : A) → Within (area.may_leave old) (area.may_leave new)
      → Goes made old new → Leaves area old new (area.may_leave old)
  kept_leaves only_now old new within time = step old old new (area.may_leave old) (begin only_now old (area.may_leave old) (λ c left. left)) time within

  -- a read changes nothing
  pub kept_read : {made : Step} → OnlyNow → (old new : A) → area.size new ≡ area.size old → area.octets new ≡ area.octets old → Within (area.may_leave old) (area.may_leave new)
      → Goes made old new → (IsTrue area.tells_calls → area.calls new ≡ area.calls old) → (IsTrue area.tells_fate → ReadOn (area.fate old) (area.fate new)) → Kept area old new
  kept_read only_now old new size octets within time calls planned = record {
    size = size;
    octets = octets;
    leaves = kept_leaves only_now old new within time;
    calls = calls;
    planned = planned;
  }
