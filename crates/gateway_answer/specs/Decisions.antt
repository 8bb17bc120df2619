-- What the code's decisions say, which lend packets and numbers.
use Rattle.std.specs.Option.{option_map}
use Rattle.gateway_answer.specs.Answer as of
use Rattle.gw_base.specs.Entry.{act_view}
use Rattle.gateway_answer.specs.declared.decision.Decision.{Decision}
use Rattle.gateway_answer.specs.declared.decision.Decision.TheVariants as decision

abbrev pub decision_view : Decision → of.Decided
decision_view (decision.Drop why) = of.Silent why
decision_view (decision.Reply reply act) = of.Says reply (option_map act_view act)
