-- What gateways hand out, and what they filed is read once each is at rest.
use Rattle.std.proofs.Common.{◌≡◌, refl, ℕ, zero, suc, ◌+◌, ◌<◌, ◌≤◌, List, [], ◌∷◌, ◌++◌, length, take, Option, Some, None, MatchOption, slice_get, arith, length-take, ◌∙◌, ap, subst, Contains}
use Rattle.area_disk.specs.declared.memory.MemoryArea.{MemoryArea}
use Rattle.cdr_shelf.specs.declared.memory.MemoryShelf.{MemoryShelf}
use Rattle.replay_world.proofs.Names.{AreRead, EachAtRest, EachHandedOut, files_in, firm_in, Gateway, HasPlayedOut, HistoryEntry, IsAllWritten, IsAtRest, IsRead, Line, line_after, lines_after, Machine, option_map_or, ReplayValue, Setup}
use Rattle.replay_gateway.specs.HandedOut.{IsHandedOut}
use Rattle.once_core.specs.FilePlaces.{placed}
use Rattle.replay_world.specs.declared.replay.Played.{Played}
use Rattle.replay_world.proofs.LineLemmas.{line_setup}

-- The areas and the shelves that gateways hand out.

module _ (setup : Setup) where
  -- as many as there are gateways
  pub handed_lengths : (place : ℕ) (gs : List Gateway) (ms : List Machine) (areas : List MemoryArea)
      (shelves : List MemoryShelf) → EachHandedOut setup place gs ms areas shelves →
      (length areas ≡ length gs) × (length shelves ≡ length gs)
  handed_lengths place [] [] [] [] each = (refl, refl)
  handed_lengths place (g ∷ gs) (m ∷ ms) (a ∷ areas) (s ∷ shelves) each =
      let later = handed_lengths (suc place) gs ms areas shelves each.1 in
      (cc later.0, cc later.1)
  handed_lengths place _ _ _ _ each = absurd each

  -- one more
  pub handed_more : (place : ℕ) (gs : List Gateway) (ms : List Machine) (k : ℕ) (g : Gateway) (m : Machine)
      (areas : List MemoryArea) (shelves : List MemoryShelf) (a : MemoryArea) (s : MemoryShelf) →
      EachHandedOut setup place (take k gs) (take k ms) areas shelves → slice_get gs k ≡ Some g → slice_get ms k ≡ Some m →
      IsHandedOut setup (place + k) g m a s →
      EachHandedOut setup place (take (suc k) gs) (take (suc k) ms) (areas ++ a ∷ []) (shelves ++ s ∷ [])
  handed_more place [] ms k g m areas shelves a s each has_gateway has_machine is = cc
  handed_more place (f ∷ gs) [] k g m areas shelves a s each has_gateway has_machine is = cc
  handed_more place (f ∷ gs) (n ∷ ms) zero g m [] [] a s each has_gateway has_machine is =
      let gateway : g ≡ f = cc in
      let machine : m ≡ n = cc in
      let here : place + 0 ≡ place = omega arith in
      (rw here at (rw gateway at (rw machine at is)), tt)
  handed_more place (f ∷ gs) (n ∷ ms) (suc k) g m (b ∷ areas) (t ∷ shelves) a s each has_gateway has_machine is =
      let here : place + suc k ≡ suc place + k = omega arith in (
        each.0,
        handed_more (suc place) gs ms k g m areas shelves a s each.1 has_gateway has_machine (rw here at is),
      )
  handed_more place _ _ _ g m _ _ a s each has_gateway has_machine is = absurd each

  -- the same of lists that are so
  pub handed_next : (gs : List Gateway) (ms : List Machine) (n k : ℕ) {g m : _} (areas : List MemoryArea)
      {more_areas : _} (shelves : List MemoryShelf) {more_shelves a s : _} → suc n ≡ k → more_areas ≡ areas ++ a ∷ [] →
      more_shelves ≡ shelves ++ s ∷ [] → EachHandedOut setup 0 (take n gs) (take n ms) areas shelves →
      slice_get gs n ≡ Some g → slice_get ms n ≡ Some m → IsHandedOut setup (0 + n) g m a s →
      EachHandedOut setup 0 (take k gs) (take k ms) more_areas more_shelves
  handed_next gs ms n k {g} {m} areas shelves {a} {s} next areas_are shelves_are each has_gateway has_machine is =
      rw next at
      (rw (← areas_are) at (rw (← shelves_are) at (handed_more 0 gs ms n g m _ _ a s each has_gateway has_machine is)))

  -- the area that a gateway has
  pub area_there : (place : ℕ) (g : Gateway) (m : Machine) (o : Option MemoryArea) (s : MemoryShelf) →
      MatchOption o ⊥ (λ a. IsHandedOut setup place g m a s) → (a : MemoryArea) × (o ≡ Some a) × IsHandedOut setup place g m a s
  area_there place g m None s is = absurd is
  area_there place g m (Some a) s is = (a, refl, is)

-- What is handed out of a gateway that wrote all is at rest.

abbrev pub Rests : Type 0
Rests = (setup : Setup) (place : ℕ) (g : Gateway) (m : Machine) (area : MemoryArea) (shelf : MemoryShelf) →
    IsAllWritten (files_in setup place) g m → IsHandedOut setup place g m area shelf → IsAtRest setup place g area shelf

first : (place : ℕ) → place + 0 ≡ place
first place = omega arith

next : (place k : ℕ) → place + suc k ≡ suc place + k
next place k = omega arith

gateways_at_rest : Rests → (setup : Setup) (place : ℕ) (gs : List Gateway) (ms : List Machine) (areas : List MemoryArea)
    (shelves : List MemoryShelf) → EachHandedOut setup place gs ms areas shelves →
    ((k : ℕ) (g : Gateway) (m : Machine) → slice_get gs k ≡ Some g → slice_get ms k ≡ Some m →
    IsAllWritten (files_in setup (place + k)) g m) → EachAtRest setup place gs areas shelves
gateways_at_rest rests setup place [] [] [] [] each settled = tt
gateways_at_rest rests setup place (g ∷ gs) (m ∷ ms) (a ∷ areas) (shelf ∷ shelves) each settled = (
  rests setup place g m a shelf (rw (first place) at (settled 0 g m refl refl)) each.0,
  gateways_at_rest rests setup (suc place) gs ms areas shelves each.1
      (λ k f n has is. rw (next place k) at (settled (suc k) f n has is)),
)
gateways_at_rest rests setup place _ _ _ _ each settled = absurd each

-- the same of all gateways
from_none : (k : ℕ) → k ≡ 0 + k
from_none k = omega arith

pub all_at_rest : Rests → (setup : Setup) (gs : List Gateway) (ms : List Machine) (areas : List MemoryArea)
    (shelves : List MemoryShelf) → EachHandedOut setup 0 gs ms areas shelves →
    ((k : ℕ) (g : Gateway) (m : Machine) → slice_get gs k ≡ Some g → slice_get ms k ≡ Some m →
    IsAllWritten (files_in setup k) g m) → EachAtRest setup 0 gs areas shelves
all_at_rest rests setup gs ms areas shelves each settled =
    gateways_at_rest rests _ 0 gs ms _ _ each (λ k g m has is. rw (from_none k) at (settled k g m has is))

-- there is room for one more
pub room_left : {A B : Type 0} (n most capacity : ℕ) (gs : List A) (kept : List B) → length kept ≡ length (take n gs) →
    n < most → most ≤ capacity → length kept < capacity
room_left n most capacity gs kept count less room = omega (arith, length-take n gs)

-- What the gateways of a replay filed is read, once each is at rest.

pub lines_setup : (v : ReplayValue) (lines : List Line) → (lines_after v lines).setup ≡ v.setup
lines_setup v [] = refl
lines_setup v (said ∷ later) = lines_setup (line_after v said) later ∙ line_setup v said

-- The gateway at rest whose shelf this is.

record RestsThere (setup : Setup) (gs : List Gateway) (place k : ℕ) (shelf : MemoryShelf) : Type 0 where
  gateway : Gateway
  area : MemoryArea
  has : slice_get gs k ≡ Some gateway
  rests : IsAtRest setup place gateway area shelf

rests_there : (setup : Setup) (place : ℕ) (gs : List Gateway) (areas : List MemoryArea) (shelves : List MemoryShelf)
    (k : ℕ) (shelf : MemoryShelf) → EachAtRest setup place gs areas shelves → slice_get shelves k ≡ Some shelf →
    RestsThere setup gs (place + k) k shelf
rests_there setup place [] [] [] k shelf each has = absurd (cc)
rests_there setup place (g ∷ gs) (a ∷ areas) (s ∷ shelves) zero shelf each has =
    let same : s ≡ shelf = cc in
    let here : place ≡ place + 0 = omega arith in
    record { gateway = g; area = a; has = refl; rests = rw here at (rw same at each.0) }
rests_there setup place (g ∷ gs) (a ∷ areas) (s ∷ shelves) (suc k) shelf each has =
    let later = rests_there setup (suc place) gs areas shelves k shelf each.1 has in
    let here : suc place + k ≡ place + suc k = omega arith in
    record { gateway = later.gateway; area = later.area; has = later.has; rests = rw here at later.rests }
rests_there setup place _ _ _ _ shelf each has = absurd each

-- What such a gateway filed is read.
abbrev pub RestIsRead : Setup → Type 0
RestIsRead setup = (place : ℕ) (g : Gateway) (area : MemoryArea) (shelf : MemoryShelf) →
    IsAtRest setup place g area shelf → IsRead (files_in setup place) g.book.firm shelf

pub all_read : (setup : Setup) → RestIsRead setup → (v : ReplayValue) (played : Played) → v.setup ≡ setup →
    HasPlayedOut v played → AreRead (files_in setup) v.world played.shelves.items
all_read setup read v played same out gateway shelf has place filing is =
    let there = rests_there v.setup 0 v.world.gateways played.areas.items played.shelves.items gateway shelf out.gateways has in
    let firm : firm_in v.world gateway ≡ there.gateway.book.firm =
    ap (λ (o : Option Gateway). option_map_or (λ (g : Gateway). g.book.firm) o []) there.has in
    let here : 0 + gateway ≡ gateway = omega arith in
    read gateway there.gateway there.area shelf
    (subst (λ (s : Setup). IsAtRest s gateway there.gateway there.area shelf) same
    (subst (λ (p : ℕ). IsAtRest v.setup p there.gateway there.area shelf) here there.rests)) place filing
    (subst (λ (h : List HistoryEntry). Contains (placed (files_in setup gateway) h) (place, filing)) firm is)
