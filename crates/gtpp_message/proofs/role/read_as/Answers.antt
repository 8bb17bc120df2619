use Rattle.std.proofs.Common.{Result, ap, ◌∙◌}
use Rattle.gtpp_header.specs.declared.Header.{Header}
use Rattle.gtpp_header.specs.declared.fault.HeadFault.{HeadFault}
use Rattle.gtpp_message.specs.Role.{read_at}
use Rattle.gtpp_message.specs.Values.{reading_value}
use Rattle.gtpp_message.proofs.RoleLemmas.{in_order, sendable_as}
use Rattle.gtpp_message.proofs.role.read_as.Goals as goal

pub returns-in-Ok-clause-reading : goal.returns-in-Ok-clause-reading
returns-in-Ok-clause-reading c =
    c.read_at.ensures
    ∙ ap (λ (head : Result Header HeadFault). read_at c.args.role head c.args.octets.now) c.in-Ok.ensures.reading
    ∙ in_order c.args.role c.args.octets.now

pub returns-in-Ok-clause-sendable : goal.returns-in-Ok-clause-sendable
returns-in-Ok-clause-sendable c =
    sendable_as c.args.role c.args.octets.now (reading_value c.read_at.result)
    (c.read_at.ensures
    ∙ ap (λ (head : Result Header HeadFault). read_at c.args.role head c.args.octets.now) c.in-Ok.ensures.reading
    ∙ in_order c.args.role c.args.octets.now)
