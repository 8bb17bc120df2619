-- What is enough to answer by, and to tell which acts are fit: the states of the numbers that lie no more than 32,768
-- below the greatest one, and of all others whether they are held.
use Rattle.std.specs.Prelude.{◌≡◌, ℕ, if◌then◌else◌}
use Rattle.gw_base.specs.Nearest.{nearest}
use Rattle.gw_base.specs.Observed.{Observed}
use Rattle.gw_base.specs.declared.key_state.KeyState.{KeyState}
use Rattle.gw_base.specs.declared.key_state.KeyState.TheVariants.{Fresh, Held}
use Rattle.transfer_cmd.specs.Lists.{is_held}
use Rattle.gateway_index.specs.FitActs.{is_in_window}

-- the state as one tells it who knows only what is held
abbrev pub if_held : KeyState → KeyState
if_held state = if is_held state then Held else Fresh

-- what is observed, where of a number below the window one knows only whether it is held
abbrev pub narrowed : Observed → Observed
narrowed o = record o {
  state = λ number. if is_in_window o.top number then o.state number else if_held (o.state number);
}

-- Two say the same of a node but for the states of numbers that none on the wire means.
pub record AgreeWhereMeant (o p : Observed) : Type 0 where
  pub own : o.own ≡ p.own
  pub opening : o.opening ≡ p.opening
  pub top : o.top ≡ p.top
  pub is_known : o.is_known ≡ p.is_known
  pub known : o.known ≡ p.known
  pub held : o.held ≡ p.held
  pub states : (wire : ℕ) → o.state (nearest p.top wire) ≡ p.state (nearest p.top wire)
