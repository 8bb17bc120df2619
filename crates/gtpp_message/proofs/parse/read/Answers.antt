use Rattle.std.proofs.Common.{Result, ap, ◌∙◌}
use Rattle.gtpp_header.specs.declared.Header.{Header}
use Rattle.gtpp_header.specs.declared.fault.HeadFault.{HeadFault}
use Rattle.gtpp_message.specs.Reading.{behind}
use Rattle.gtpp_message.specs.Values.{reading_value}
use Rattle.gtpp_message.proofs.SpelledLemmas.{sendable_reading}
use Rattle.gtpp_message.proofs.parse.read.Goals as goal

pub returns-in-Ok-clause-sendable : goal.returns-in-Ok-clause-sendable
returns-in-Ok-clause-sendable c =
    sendable_reading c.args.octets.now (reading_value c.behind.result)
    (c.behind.ensures ∙ ap (λ (head : Result Header HeadFault). behind head c.args.octets.now) c.in-Ok.ensures.reading)
