use Rattle.std.proofs.Common.{◌≡◌, ◌∙◌, refl, ◌+◌, length, Some, slice_get, length-set, arith, sym, ap, subst, ◌++◌}
use Rattle.replay_world.proofs.Names.{gateway_text, MachineStands, on_ok_weaker, slice_get_read}
use Rattle.replay_world.proofs.SummaryLemmas.{lines_there, small_place, stands_same}
use Rattle.replay_world.proofs.GatewayEventLemmas.{machines_count}
use Rattle.replay_world.proofs.RefusalLemmas.{gateway_at}
use Rattle.replay_world.proofs.replay.Replay.report_gateway.Goals as goal

pub returns-clause-count : goal.returns-clause-count
returns-clause-count c = length-set c.args.self.now.gateways.items c.args.index c.report.new.self

pub returns-clause-lines : goal.returns-clause-lines
returns-clause-lines c = λ v stands.
    let k = c.args.index in
    let has : slice_get c.args.self.now.gateways.items k ≡ Some c.index_mut.result.now =
    slice_get_read c.args.self.now.gateways.items (length c.args.self.now.gateways.items) k c.index_mut.result.now refl
    c.requires c.index_mut.ensures.value in
    let here = gateway_at v _ stands k has in
    let place : c.octet.result ≡ k =
    c.octet.ensures
    ∙ small_place k (length v.world.gateways) (omega (arith, c.requires, machines_count v _ stands))
    stands.few_gateways in
    let first : 0 + k ≡ c.octet.result = omega arith in
    let there = subst (λ p. MachineStands v.setup p here.gateway here.machine c.index_mut.result.now) first
    here.stands in
    on_ok_weaker c.report.result (λ done. (
      stands_same _ stands
          (subst (λ p. MachineStands v.setup p here.gateway here.machine c.report.new.self) place done.0)
          here.has_gateway here.has_machine refl refl,
      done.1 ∙ ap (λ p. c.args.out.now ++ gateway_text v.setup p here.gateway here.machine) place
          ∙ ap (λ text. c.args.out.now ++ text) (sym (lines_there v k here.has_gateway here.has_machine)),
    )) (c.report.ensures v.setup here.gateway here.machine there)
