-- What is armed for a gateway, and a gateway that is down and was opened for its counts alone.
use Rattle.std.specs.Prelude.{◌≡◌, ℕ, ◌+◌, ◌<◌, false, [], ◌∷◌, Option, Some, None}
use Rattle.area_disk.specs.Armed.{Armed}
use Rattle.area_disk.specs.Armed.Armed.{Nothing, Fail, Stop}
use Rattle.area_disk.specs.Disk.{last_count}
use Rattle.area_disk.specs.declared.plan.Plan.{Plan}
use Rattle.gateway_answer.specs.Value.{opened}
use Rattle.once_core.specs.Gateway.{Gateway, opened as reopened}
use Rattle.replay_gateway.specs.Setup.{Setup, rules_in}
use Rattle.replay_gateway.specs.Standing.{StandsUp}
use Rattle.replay_gateway.specs.Machine.{first_machine}
use Rattle.replay_gateway.specs.declared.machine.Machine as real
use Rattle.replay_gateway.specs.declared.site.Site.{Site}
use Rattle.replay_gateway.specs.declared.site.Site.TheVariants as site

-- the plan has no failure and no stop but the armed one
abbrev pub ArmsCall : Armed → Plan → Type 0
ArmsCall Nothing plan = (plan.fail.items ≡ []) × (plan.stop ≡ None)
ArmsCall (Fail k) plan = (k < last_count) × (plan.fail.items ≡ (k + 1) ∷ []) × (plan.stop ≡ None)
ArmsCall (Stop k outcome) plan =
    (k < last_count) × (plan.fail.items ≡ []) × (plan.stop ≡ Some (record { call = k + 1; outcome = outcome }))

pub record ArmsAs (armed : Armed) (plan : Plan) : Type 0 where
  pub reads : plan.read_fail.items ≡ []
  pub call : ArmsCall armed plan

-- a gateway that was opened on an empty area, whose Start isn't firm yet
abbrev pub begun_gateway : Setup → Gateway
begun_gateway s = record { book = opened s.size []; waiting = []; is_down = false; redirects = 0 }

-- The book of a gateway that was down is open, as it is after an opening.
abbrev pub SiteIsOpened : Setup → ℕ → Gateway → Option Site → Type 0
SiteIsOpened setup place g None = ⊥
SiteIsOpened setup place g (Some (site.Up book)) =
    StandsUp setup place (reopened (rules_in setup) g) first_machine book
SiteIsOpened setup place g (Some (site.Down fallen)) = ⊥

-- All else of it is as before.
pub record IsOpenedForCounts (setup : Setup) (place : ℕ) (g : Gateway) (before now : real.Machine) : Type 0 where
  pub site : SiteIsOpened setup place g now.site
  pub rest : now ≡ record before { site = now.site }
