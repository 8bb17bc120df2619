use Rattle.std.proofs.Common.{◌≡◌, ◌∙◌, refl, sym, arith}
use Rattle.replay_gateway.proofs.Names.{BookSetup, files_in, first_gateway, gateway_address, items_of, rules_in, schedule_of, settings_in}
use Rattle.replay_gateway.proofs.WriterLemmas.{made_stands, rests}
use Rattle.replay_gateway.proofs.machine.Machine.new.Goals as goal

pub returns : goal.returns
returns c = λ setup is rules.
    let here : BookSetup = record {
      address = c.gateway_address.result.ip;
      open_time = c.args.settings.now.limits.open_time;
    } in
    let there : BookSetup = record {
      address = (gateway_address c.args.place).ip;
      open_time = setup.limits.open_time;
    } in
    let named : here ≡ there =
    λ i. record { address = (c.gateway_address.ensures i).ip; open_time = (sym is.limits i).open_time } in
    let set : settings_in c.new-writer.result ≡ files_in setup c.args.place =
    c.new-writer.ensures.settings
    ∙ (λ i. record {
      rules = sym rules i;
      limits = sym is.limits i;
      profile = sym is.profile i;
      file = record { offset = sym is.offset i; address = (c.gateway_address.ensures i).ip };
    }) in
    let armed = rw (← c.in-Ok.ensures.plan) at
    (c.arms_nothing.ensures c.calm-plan.result (schedule_of c.calm-plan.result) refl c.calm-plan.ensures.read_fail
    c.calm-plan.ensures.fail c.calm-plan.ensures.stop) in
    record {
      site = c.in_ok-book.ensures setup c.args.place named (sym is.size);
      waiting = c.new-2.ensures.items;
      unreached = λ k d h. absurd (omega arith);
      redirects = refl;
      named = named;
      writes = rests _ c.new-files.ensures.is c.new-files.ensures.begins (rw c.new-writer.ensures.shelf armed)
          (made_stands _ set (cc (c.new-writer.ensures.shelf, c.in-Ok.ensures.files))
          (λ s. cc (c.new-writer.ensures.shelf, c.in-Ok.ensures.unsealed s))
          (items_of (first_gateway (rules_in setup)).book.firm));
    }
