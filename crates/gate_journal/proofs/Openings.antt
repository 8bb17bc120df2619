-- Batches below a place, one after the other.
use Rattle.std.proofs.Common.{◌≡◌, ◌≢◌, inl, inr, ⊎_elim, ◌⊎◌, ℕ, ◌+◌, ◌<◌, ◌≤◌, Bool, false, List, length, get_or, take, Result, Ok, Err, sym, ◌∙◌, ap, subst, arith, [], ◌++◌, drop, take-append-drop, suc, ◌∷◌, rules}
use Rattle.gate_journal.proofs.Names.{All, All-nil, All-push, append-nil, area_of, AreBelow, batches, batches_below, batches_in-spelled, Begins, big_bytes, counted, Differs, Draft, drop-append-le, drop-drop, drop_all, drop_more, first-header, follow, Founded, gate_at, get_or-take, Ghosts, header, header_for, IfErr, IfOk, is_device, IsBroken, IsDrafted, IsForeign, IsLaid, IsListed, IsOpened, IsSmall, IsTrue, IsVerdict, IsWhole, Journal, Kept, Leaves, length-drop, length-header, length-spelled, length-take, length-take-le, longest_batch, OnArea, one_difference, open_gate, OpenFault, OpenLeaves, ReadsRun, RoseByDevice, RoseUpTo, Same, same_not_differs, same_not_starts, spelled, spelled-append, spelled-nil, spelled-one, Starts, SyncPlanned, take-add, take-take, Told, Verdict}
use Rattle.gate_journal.specs.Beginnings.{foreign_not_starts, stands_not_starts}
use Rattle.gate_journal.specs.Making.{IsAnew, IsReadyWith}
use Rattle.gate_journal.specs.declared.faults.OpenFault.TheVariants.{Device, NoMemory}
use Rattle.gate_journal.proofs.Apart.{Stop, stop_of_broken, one_place, one_list, broken_front}
use Rattle.gate_journal.proofs.Plans.{sync_on}

-- what is spelled below a place are the batches below it
pub below_is : (at : ℕ) (octets : List ℕ) (batches : List (List ℕ)) → drop 32 (take at octets) ≡ spelled batches → All IsSmall batches → batches_below at octets ≡ batches
unfolding batches_below
below_is at octets batches spelling small = grind (arith, batches_in-spelled, length-spelled)

pub are_below : (at : ℕ) (octets : List ℕ) (batches : List (List ℕ)) → drop 32 (take at octets) ≡ spelled batches → All IsSmall batches → AreBelow at octets
are_below at octets batches spelling small = search (rules, below_is)

-- at first there are none
pub none_below : (octets : List ℕ) → AreBelow 32 octets
none_below octets = are_below 32 octets [] (drop_all 32 (take 32 octets) (omega (arith, length-take 32 octets)) ∙ sym spelled-nil) (All-nil IsSmall)

-- an open gate adds the batch behind it
module _ (at number : ℕ) (octets : List ℕ) (low : 32 ≤ at) (inside : at + 5 + number < length octets) (opened : gate_at octets at ≡ open_gate) (field : take 4 (drop (at + 1) octets) ≡ big_bytes 4 number) where
  length-content : length (take number (drop (at + 5) octets)) ≡ number
  length-content = length-take-le number (drop (at + 5) octets) (omega (arith, length-drop (at + 5) octets))

  behind_is : take (4 + number) (drop (at + 1) octets) ≡ big_bytes 4 number ++ take number (drop (at + 5) octets)
  behind_is =
      let place : at + 1 + 4 ≡ at + 5 = omega arith in
      take-add 4 number (drop (at + 1) octets)
      ∙ ap (λ (l : List ℕ). l ++ take number (drop 4 (drop (at + 1) octets))) field
      ∙ ap (λ (l : List ℕ). big_bytes 4 number ++ take number l) (drop-drop 4 (at + 1) octets ∙ ap (λ n. drop n octets) place)

  from_gate : take (5 + number) (drop at octets) ≡ spelled (take number (drop (at + 5) octets) ∷ [])
  from_gate =
      ap (λ (l : List ℕ). take (5 + number) l) (drop_more octets at open_gate (omega arith))
      ∙ ap (λ n. take n (get_or octets at open_gate ∷ drop (at + 1) octets)) five
      ∙ ap (λ x. x ∷ take (4 + number) (drop (at + 1) octets)) opened
      ∙ ap (λ (l : List ℕ). open_gate ∷ l) behind_is
      ∙ ap (λ n. open_gate ∷ (big_bytes 4 n ++ take number (drop (at + 5) octets))) (sym length-content)
      ∙ sym (spelled-one (take number (drop (at + 5) octets)))
    where
      five : 5 + number ≡ suc (4 + number)
      five = omega arith

  pub one_more : number ≤ longest_batch → AreBelow at octets → AreBelow (at + (5 + number)) octets
  one_more short below =
      let batches = batches_below at octets in
      let batch = take number (drop (at + 5) octets) in
      let spelling : drop 32 (take (at + (5 + number)) octets) ≡ spelled (batches ++ batch ∷ []) =
      ap (λ (l : List ℕ). drop 32 l) (take-add at (5 + number) octets)
      ∙ drop-append-le 32 (take at octets) (take (5 + number) (drop at octets)) (omega (arith, length-take-le at octets (omega arith)))
      ∙ ap (λ (l : List ℕ). l ++ take (5 + number) (drop at octets)) below.spelling
      ∙ ap (λ (l : List ℕ). spelled batches ++ l) from_gate
      ∙ sym (spelled-append batches (batch ∷ [])) in
      are_below (at + (5 + number)) octets (batches ++ batch ∷ []) spelling (All-push IsSmall batches batch below.small (omega (arith, length-content)))

-- ---- octets that are a header and batches behind it

pub below_first : (octets : List ℕ) → batches_below 32 octets ≡ []
below_first octets = below_is 32 octets [] (drop_all 32 (take 32 octets) (omega (arith, length-take 32 octets)) ∙ sym spelled-nil) (All-nil IsSmall)

-- an area that was laid is a draft without a batch
pub laid_listed : (header octets : List ℕ) → IsLaid header octets → IsListed header Draft 32 octets
laid_listed header octets laid =
    let none = below_first octets in
    record {
      listed = laid.rest ∙ sym (append-nil (drop 1 header)) ∙ ap (λ (l : List ℕ). drop 1 header ++ l) (sym (ap spelled none ∙ spelled-nil));
      small = subst (λ (bs : List (List ℕ)). All IsSmall bs) (sym none) (All-nil IsSmall);
      founded = λ e. absurd (let f : ⊥ = cc in f);
      drafted = λ e. laid.first;
      shut = laid.shut;
    }

module _ (header : List ℕ) (long : length header ≡ 32) (gate : ℕ) (octets : List ℕ) (same : take 32 octets ≡ header) (low : 32 ≤ gate) (below : AreBelow gate octets) where
  pub front_is : take gate octets ≡ header ++ spelled (batches_below gate octets)
  front_is =
      sym (take-append-drop 32 (take gate octets))
      ∙ ap (λ (l : List ℕ). l ++ drop 32 (take gate octets)) (take-take 32 gate octets low ∙ same)
      ∙ ap (λ (l : List ℕ). header ++ l) below.spelling

  pub scanned_listed : gate_at octets gate ≢ open_gate → IsListed header Founded gate octets
  scanned_listed shut = search (rules, front_is, drop-append-le, get_or-take)

  pub scanned_broken : gate < length octets → gate_at octets gate ≡ open_gate → (IsWhole octets gate → ⊥) → IsBroken header octets gate
  scanned_broken inside opened unwhole = record { batches = batches_below gate octets; front = front_is; small = below.small; inside = inside; opened = opened; unwhole = unwhole }

-- ---- what the steps of an opening make of its answer

-- batches behind which a closed gate stands are followed by no broken one
pub shut_or_broken : (header : List ℕ) (long : length header ≡ 32) (gate : ℕ) (octets : List ℕ) (same : take 32 octets ≡ header) (low : 32 ≤ gate) (below : AreBelow gate octets) → gate < length octets → gate_at octets gate ≢ open_gate
    → (at : ℕ) → IsBroken header octets at → ⊥
shut_or_broken header long gate octets same low below inside shut at broken =
    let stop : Stop header octets gate (batches_below gate octets) = record { before = record { front = front_is header long gate octets same low below; small = below.small; inside = inside }; stops = λ opened. absurd (shut opened) } in
    shut (subst (λ n. gate_at octets n ≡ open_gate) (sym (one_place header long octets gate at (batches_below gate octets) broken.batches stop (stop_of_broken header long octets at broken))) broken.opened)

-- an area, and the header that a journal of it has
module _ {A : Type 0} (g : Ghosts A) (area : A) (address generation : ℕ) where
  abbrev ours : List ℕ
  ours = header_for g area address generation

  ours_long : length ours ≡ 32
  ours_long = length-header (g.size area) address generation

  ours_first : get_or ours 0 0 ≡ 67
  ours_first = first-header (g.size area) address generation

  starts_by : (blank : Bool) → IsVerdict ours (g.octets area) (Begins blank) → Starts ours (g.octets area)
  starts_by blank is = search rules

  -- what the look at it found
  module _ {size : ℕ} {head : List ℕ} {verdict found : Verdict} (sized : size ≡ g.size area)
      (named : head ≡ header size address generation) (is : verdict ≡ found)
      (looked : IsTrue g.tells_octets → IsVerdict head (g.octets area) verdict) where
    pub found_told : {v : Verdict} → found ≡ v → Told g → IsVerdict ours (g.octets area) v
    found_told one two = search rules

    pub starts_told : {blank : Bool} → found ≡ Begins blank → Told g → Starts ours (g.octets area)
    starts_told {blank = blank} same told = starts_by blank (found_told same told)

    pub none_told : found ≡ Same → Told g → Starts ours (g.octets area) → ⊥
    none_told same told = same_not_starts ours ours_long (g.octets area) (found_told same told) ours_first

  -- what is foreign in it
  pub foreign_none : (at : ℕ) → IsForeign ours (g.octets area) at → Starts ours (g.octets area) → ⊥
  foreign_none at foreign starts =
      foreign_not_starts ours ours_long ours_first (g.octets area) at foreign starts

  pub foreign_broken : take 32 (g.octets area) ≡ ours → (at : ℕ) → IsForeign ours (g.octets area) at
      → IsBroken ours (g.octets area) at
  foreign_broken same at is = search (rules, same_not_differs, ours_long)

  pub foreign_differs : (far at : ℕ) → Differs ours (g.octets area) far → IsForeign ours (g.octets area) at → far ≡ at
  foreign_differs far at differs (inl d) = one_difference ours ours_long (g.octets area) far at differs d
  foreign_differs far at differs (inr b) =
      absurd (same_not_differs ours ours_long (g.octets area)
      (broken_front ours ours_long (g.octets area) at b) far differs)

  -- what was made of it, as the look left it
  module _ (mid : A) (size : g.size mid ≡ g.size area) where
    abbrev made : List ℕ
    made = header_for g mid address generation

    named : made ≡ ours
    named = ap (λ n. header n address generation) size

    -- a journal that was made anew
    pub opened_anew : (result : Result (Journal A g) (OpenFault × A)) → IfOk result (λ journal. IsAnew Founded made journal)
        → (Told g → Starts ours (g.octets area)) → IfOk result (λ journal. IsOpened g area ours journal)
    opened_anew result anew starts = grind (arith, named, stands_not_starts, ours_long, ours_first)

    -- one whose batches were read
    pub opened_same : (result : Result (Journal A g) (OpenFault × A))
        → IfOk result (λ journal. IsReadyWith Founded made journal) → OnArea result (λ now. Kept g mid now)
        → (Told g → g.octets mid ≡ g.octets area) → (Told g → Starts ours (g.octets area) → ⊥)
        → IfOk result (λ journal. IsOpened g area ours journal)
    opened_same result is kept same none = search (rules, named, one_list, ours_long)

    -- a draft
    pub drafted : (result : Result (Journal A g) (OpenFault × A)) → IfOk result (λ journal. IsAnew Draft made journal)
        → (Told g → Starts ours (g.octets area)) → IfOk result (λ journal. IsDrafted g area ours journal)
    drafted result anew starts = search (rules, named)

module _ {A : Type 0} {g : Ghosts A} where
  -- the faults of a call and of one that had none before it
  pub rose_on : (result : Result (Journal A g) (OpenFault × A)) (area mid : A) → g.faults mid ≡ g.faults area → RoseByDevice g mid result → RoseByDevice g area result
  rose_on result area mid same rose = search rules

  -- the calls of a sync and of n behind it
  pub calls_behind : (n : ℕ) (result : Result (Journal A g) (OpenFault × A)) (start : ℕ) (area : A) → g.calls area ≡ counted 1 start → IfOk result (λ journal. g.calls (area_of journal) ≡ counted n (g.calls area))
      → IfOk result (λ journal. g.calls (area_of journal) ≡ counted (n + 1) start)
  calls_behind n result start area one ok = grind arith

  pub calls_one : (result : Result (Journal A g) (OpenFault × A)) (start : ℕ) (area : A) → IsTrue g.tells_calls → g.calls area ≡ counted 1 start → OnArea result (λ now. Kept g area now) → OnArea result (λ now. g.calls now ≡ counted 1 start)
  calls_one result start area told one kept = grind arith

  pub calls_few : (result : Result (Journal A g) (OpenFault × A)) (start : ℕ) (area : A) → IsTrue g.tells_calls → g.calls area ≡ counted 1 start → OnArea result (λ now. Kept g area now) → OnArea result (λ now. RoseUpTo 5 start (g.calls now))
  calls_few result start area told one kept = search rules

  -- what a crash leaves of an area that was read
  pub leaves_unmade : (result : Result (Journal A g) (OpenFault × A)) (area mid : A) (head : List ℕ) → Leaves g area mid (g.may_leave area) → OnArea result (λ now. Kept g mid now) → (Told g → Starts head (g.octets area) → ⊥)
      → OnArea result (λ now. OpenLeaves g area head now)
  leaves_unmade result area mid head leaves kept none = search (rules, follow)

  -- the plan of an area that was read
  pub planned_unmade : (result : Result (Journal A g) (OpenFault × A)) (area mid : A) → IsTrue g.tells_fate → SyncPlanned (g.fate area) false (g.fate mid) → OnArea result (λ now. Kept g mid now) → (ReadsRun (g.fate mid).schedule → is_device result ≡ false)
      → OnArea result (λ now. SyncPlanned (g.fate area) (is_device result) (g.fate now))
  planned_unmade (Ok journal) area mid told look kept runs = sync_on _ _ _ _ look (kept.planned told) runs
  planned_unmade (Err fault) area mid told look kept runs = sync_on _ _ _ _ look (kept.planned told) runs

  -- the calls of a making, behind one sync
  pub calls_made : (n : ℕ) (result : Result (Journal A g) (OpenFault × A)) (start : ℕ) (area : A) → 1 ≤ n → g.calls area ≡ counted 1 start → IfOk result (λ journal. g.calls (area_of journal) ≡ counted n (g.calls area))
      → IfErr result (λ fault. (fault.0 ≡ Device) ⊎ ((fault.0 ≡ NoMemory) × (fault.1 ≡ area))) → IfErr result (λ fault. fault.0 ≡ Device → RoseUpTo n (g.calls area) (g.calls fault.1))
      → OnArea result (λ now. RoseUpTo (n + 1) start (g.calls now))
  calls_made n (Ok journal) start area low one ok why failed = (n + 1, omega arith, omega arith, omega (arith, ok, one))
  calls_made n (Err fault) start area low one ok why failed = ⊎_elim (λ device.
      let rose = failed device in
      (rose.0 + 1, omega arith, omega (arith, rose.2), omega (arith, rose.3, one))) (λ none. (1, omega arith, omega arith, ap (λ a. g.calls a) none.1 ∙ one)) why
