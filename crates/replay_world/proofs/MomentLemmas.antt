-- The present moment of a replay.
use Rattle.std.proofs.Common.{◌≡◌, subst, ℕ, [], None, append-nil}
use Rattle.replay_world.proofs.Names.{after_step, calm, Does, IsReached, Plays, refusal_of, Replay, ReplayValue, sent_by, Stands}
use Rattle.once_core.specs.declared.event.Event.TheVariants as event
use Rattle.replay_world.proofs.NodeEventLemmas.{drop_all}
use Rattle.replay_world.proofs.GatewayEventLemmas.{allowed_turn}
use Rattle.replay_world.proofs.StandsLemmas.{reached_after}

moment_set : (v : ReplayValue) (moment : ℕ) {old new : _} → Stands v old → IsReached (record v.world { now = moment }) →
    new ≡ record old { moment = moment } → Stands (record v { world = record v.world { now = moment } }) new
moment_set v moment stands reached rest = rw rest assumption

pub does_moment : (v : ReplayValue) (moment : ℕ) {old : _} (new : Replay) →
    refusal_of v.world (event.Moment moment) ≡ None →
    Stands v old → new ≡ record old { moment = moment } → Does v (Plays (event.Moment moment)) [] [] new
does_moment v moment new allowed stands rest =
    let e = event.Moment moment in
    let world = allowed_turn v (calm e) allowed in
    let none : sent_by v (Plays e) ≡ [] = cc (drop_all v.world.messages) in
    let waits : (after_step v (Plays e)).waiting ≡ v.waiting = cc (append-nil v.waiting) in
    let after_is : after_step v (Plays e) ≡ record v { world = record v.world { now = moment } } =
    λ i. record { setup = v.setup; world = world i; machines = v.machines; waiting = waits i } in
    record {
      stands = rw after_is
          (moment_set v moment stands (subst IsReached world (reached_after v (Plays e) stands.reached)) rest);
      prints = cc;
    }
