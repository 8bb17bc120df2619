use Rattle.std.proofs.Common.{ap, refl}
use Rattle.gateway_book.specs.OpenPlan.{is_memory_fault}
use Rattle.gateway_book.specs.declared.outcome.Setup.{Setup}
use Rattle.replay_gateway.proofs.OpeningLemmas.{begun_armed, begun_ours, begun_runs, begun_stands}
use Rattle.replay_gateway.proofs.site.begun.Goals as goal

pub returns-in-Ok-open : goal.returns-in-Ok-open
returns-in-Ok-open c = λ s place named sized.
    begun_stands s place c.args.setup.address c.args.size c.args.setup.open_time c.in-Ok.area c.calm-plan.result
    c.in-Ok-open.book (ap (λ (x : Setup). x.address) named) (ap (λ (x : Setup). x.open_time) named) sized c.requires.long
    c.in-Ok.ensures.size c.in-Ok.ensures.octets c.in-Ok.ensures.plan.schedule c.arms_nothing.ensures
    c.calm-plan.ensures.read_fail c.calm-plan.ensures.fail c.calm-plan.ensures.stop
    c.what_a_gateway_leaves.ensures.opened c.in-Ok-open.ensures.ok (c.in-Ok-open.ensures.anew (refl, refl))
    (c.in-Ok-open.ensures.planned refl refl) c.in-Ok-open.ensures.size

pub unreachable-requires : goal.unreachable-requires
unreachable-requires c =
    begun_runs c.args.setup.address c.args.size c.in-Ok.area c.calm-plan.result c.in-Err-Device-default.field-0-1
    c.requires.long c.in-Ok.ensures.octets
    (begun_armed c.args.setup.address c.args.size c.in-Ok.area c.calm-plan.result c.in-Ok.ensures.plan.schedule
    c.arms_nothing.ensures c.calm-plan.ensures.read_fail c.calm-plan.ensures.fail c.calm-plan.ensures.stop)
    (c.in-Err-Device-default.ensures.planned refl (ap is_memory_fault c.in-Err-Device-default.field-0-0-is))
    c.in-Err-Device-default.field-0-0-is

pub unreachable-requires-in-Err-NotOurs-default : goal.unreachable-requires-in-Err-NotOurs-default
unreachable-requires-in-Err-NotOurs-default c =
    begun_ours _ _ _ c.calm-plan.result c.requires.long c.in-Ok.ensures.octets c.what_stands_is_ours.ensures.others
    c.in-Err-NotOurs-default.ensures.err c.in-Err-NotOurs-default.field-0-0-is
