use Rattle.std.proofs.Common.{◌∙◌}
use Rattle.gtpp_message.specs.Values.{message_value}
use Rattle.gtpp_message.proofs.PartLemmas.{body_is}
use Rattle.gtpp_message.proofs.parts.sent_parts.Goals as goal

pub returns : goal.returns
returns c = c.parts_of.ensures ∙ body_is (message_value c.args.message.now)
