-- What each step on the words of a cell tells.
use Rattle.std.specs.Prelude.{◌≡◌, ◌≢◌, ℕ, Bool, List, [], ◌∷◌, ◌++◌, All, Option, Some}
use Rattle.atomic_table.specs.Table.{Me, Step, rest}
use Rattle.gw_base.specs.Facts.{AreSound, Facts, WhereTold}
use Rattle.gw_base.specs.declared.history.HistoryEntry.{HistoryEntry}
use Rattle.turn_cell.specs.Knowing.{IsLegal, Saw, after_turn, first_of, standing}
use Rattle.gw_base.specs.Owes.{Adds}
use Rattle.turn_cell.specs.Placed.{IsPlaced}
use Rattle.turn_cell.specs.Rule.{found_at, seat, ticket_at}
use Rattle.turn_cell.specs.declared.knowing.Knowledge.{Knowledge}
use Rattle.turn_cell.specs.declared.knowing.SeatView.{SeatView}
use Rattle.turn_cell.specs.declared.knowing.Stage.TheVariants.{Resting, Waiting, Holding}

-- a seat: what it knows, and the slots that it has taken
abbrev pub Seated : Type 0 → Type 0
Seated V = Me (Option V) SeatView

module _ {V : Type 0} where
  -- a ticket was drawn, or nothing was done
  abbrev pub drew : Step (Option V) → Seated V → ℕ → Seated V → Type 0
  drew s m found m' = (found ≡ s.first → m' ≡ (seat (Waiting found) m.0.passes, m.1)) × (found ≢ s.first → m' ≡ m)

  -- the value was put back
  abbrev pub left : Step (Option V) → Seated V → ℕ → Seated V → Type 0
  left s m found m' = m' ≡ (seat Resting m.0.passes, rest m.1)

  module _ (facts : V → Facts) (told : Bool) where
    module _ (made : ℕ) (start : Facts) where
      -- the value was taken, which is so, and may come to a turn of the pass; what the pass added of it stands in its
      -- place
      abbrev pub Takes : ℕ → Seated V → Seated V → Type 0
      Takes ticket m m' =
          (v : V) × (m' ≡ (seat (Holding ticket (standing (facts v))) m.0.passes, (0, Some v) ∷ m.1))
          × All (λ k. IsLegal told k (facts v)) m.0.passes × AreSound told (facts v)
          × WhereTold told (IsPlaced made start (facts v) (first_of m.0.passes))

      -- it was this ticket's turn, and the value was taken; or nothing was done
      abbrev pub called : Step (Option V) → Seated V → ℕ → Seated V → Type 0
      called s m found m' =
          (found ≡ ticket_at m.0.stage → Takes (ticket_at m.0.stage) m m') × (found ≢ ticket_at m.0.stage → m' ≡ m)

    -- the length was seen
    abbrev pub looked : Step (Option V) → Seated V → ℕ → Seated V → Type 0
    looked s m found m' =
        (k : Knowledge) × (m' ≡ (seat Resting (k ∷ []), m.1)) × Saw told found (first_of m.0.passes) k

    module _ {T A : Type 0} (session : T → Option ℕ) (does : T → V → V → A → Bool → List HistoryEntry → Type 0)
        (turn : Option T) (value : Option V) (answer : Option A) where
      -- The turn that was named found the value that was named, answered so, and left this.
      pub record Did (found : Facts) (left : V) : Type 0 where
        pub turn_is : T
        pub value_is : V
        pub answer_is : A
        pub turn_named : turn ≡ Some turn_is
        pub value_named : value ≡ Some value_is
        pub answer_named : answer ≡ Some answer_is
        pub drops : Bool
        pub added : List HistoryEntry
        pub adds : WhereTold told (Adds (session turn_is) found (facts left) drops added)
        pub did : does turn_is value_is left answer_is drops added

      -- the length was raised, and the pass keeps the turn; it has the value still, as the turn left it
      abbrev pub settled : Step (Option V) → Seated V → ℕ → Seated V → Type 0
      settled s m found m' =
          (v : V) × (d : Did (found_at m.0.stage) v) × (m.1 ≡ (0, Some v) ∷ [])
          × (m' ≡ (
            seat (Holding (ticket_at m.0.stage) (standing (facts v)))
                (after_turn (first_of m.0.passes) (found_at m.0.stage) (facts v) d.drops d.added ∷ []),
            m.1,
          ))

-- a list but for its first element
abbrev pub behind_first : List Knowledge → List Knowledge
behind_first [] = []
behind_first (k ∷ ks) = ks

-- a seat gives its first pass to a new seat
abbrev pub without_first : SeatView → SeatView
without_first d = seat d.stage (behind_first d.passes)

abbrev pub first_alone : SeatView → SeatView
first_alone d = seat Resting (first_of d.passes ∷ [])

-- two seats, joined
abbrev pub both : SeatView → SeatView → SeatView
both d e = seat d.stage (e.passes ++ d.passes)
