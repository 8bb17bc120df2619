-- What a list of `set` calls says of each number, as a whole: its last one, and Fresh where there is none.
use Rattle.std.specs.Prelude.{◌≡◌, ℕ, ◌==◌, List, [], ◌∷◌, None, filter, map, refl}
use Rattle.std.specs.List.{last_or}
use Rattle.std.specs.Option.{option_map_or}
use Rattle.gw_base.specs.Lists.{greatest}
use Rattle.gw_base.specs.declared.key_state.KeyState.{KeyState}
use Rattle.gw_base.specs.declared.key_state.KeyState.TheVariants.{Filed, Fresh, Sealed}
use Rattle.seq_window.specs.Seen.{Seen, within}

-- a call of `set`
pub record Setting : Type 0 where
  pub number : ℕ
  pub state : KeyState

-- the state that the last of these calls with a number gives
abbrev pub last_state : ℕ → List Setting → KeyState
last_state number sets = option_map_or (λ s. s.state) (last_or None (filter (λ s. s.number == number) sets)) Fresh

-- what a window knows after these calls and no others since it was cleared
abbrev pub seen_by : ℕ → List Setting → Seen
seen_by half sets = within half (greatest (map (λ s. s.number) sets)) (λ n. last_state n sets)

-- Of a window of three numbers: 7 was sealed, 5 and 9 filed, and 9 is the greatest. It holds 7, and 5 no more.
abbrev worked : List Setting
worked =
    (record { number = 7; state = Sealed }) ∷ (record { number = 5; state = Filed }) ∷ (record { number = 9; state = Filed })
    ∷ []

worked-held : (seen_by 2 worked).state 7 ≡ Sealed
worked-held = refl

worked-below : (seen_by 2 worked).state 5 ≡ Fresh
worked-below = refl
