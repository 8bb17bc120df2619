use Rattle.std.proofs.Common.{◌∙◌, refl, sym}
use Rattle.replay_world.specs.Does.{is_at_gateway}
use Rattle.replay_world.proofs.QuietLemmas.{runs_to_redirect}
use Rattle.replay_world.proofs.RunLemmas.{gateway_place, line_does, line_makes, other_placed, such_line}
use Rattle.replay_world.proofs.replay.Replay.run_at_gateway.Goals as goal

pub returns-in_ok-at_gateway-in-Mark : goal.returns-in_ok-at_gateway-in-Mark
returns-in_ok-at_gateway-in-Mark c = λ v stands none.
    let number = c.in-Mark.gateway in
    such_line v is_at_gateway _ _ _ _ c.in-Mark.is refl none (λ allowed.
    let is = gateway_place _ stands allowed ∙ sym c.place.ensures in
    line_does _ allowed refl refl (c.in_ok-at_gateway-in-Mark.ensures v number stands is allowed).does)

pub returns-in_ok-at_gateway-in-Close : goal.returns-in_ok-at_gateway-in-Close
returns-in_ok-at_gateway-in-Close c = λ v stands none.
    let number = c.in-Close.gateway in
    such_line v is_at_gateway _ _ _ _ c.in-Close.is refl none (λ allowed.
    let is = gateway_place _ stands allowed ∙ sym c.place-in-Close.ensures in
    line_does _ allowed refl refl (c.in_ok-at_gateway-in-Close.ensures v number stands is allowed).does)

pub returns-in_ok-at_gateway-in-Commit : goal.returns-in_ok-at_gateway-in-Commit
returns-in_ok-at_gateway-in-Commit c = λ v stands none.
    let number = c.in-Commit.gateway in
    such_line v is_at_gateway _ _ _ _ c.in-Commit.is refl none (λ allowed.
    let is = gateway_place _ stands allowed ∙ sym c.place-in-Commit.ensures in
    line_does _ allowed refl refl (c.in_ok-at_gateway-in-Commit.ensures v number stands is allowed).does)

pub returns-in_ok-redirect-in-Redirect : goal.returns-in_ok-redirect-in-Redirect
returns-in_ok-redirect-in-Redirect c = λ v stands none.
    let number = c.in-Redirect.gateway in
    let to = c.in-Redirect.to in
    such_line v is_at_gateway _ _ _ _ c.in-Redirect.is refl none (λ allowed.
    let is = gateway_place _ stands (runs_to_redirect v.world number c.in-Redirect.cause to allowed) ∙ sym c.place-in-Redirect.ensures in
    line_does _ allowed refl refl
    (c.in_ok-redirect-in-Redirect.ensures v number to stands is
    (other_placed v number c.in-Redirect.cause to stands allowed ∙ sym c.other_place.ensures) allowed))

pub returns-in_ok-write_line-in-Write : goal.returns-in_ok-write_line-in-Write
returns-in_ok-write_line-in-Write c = λ v stands none.
    let number = c.in-Write.gateway in
    such_line v is_at_gateway _ _ _ _ c.in-Write.is refl none (λ allowed.
    let is = gateway_place _ stands allowed ∙ sym c.place-in-Write.ensures in
    line_makes _ allowed refl (c.in_ok-write_line-in-Write.ensures v number stands is allowed))
