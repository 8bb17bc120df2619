-- What an answer has of the message that it answers.
use Rattle.once_core.specs.declared.message.Message.{Message}
use Rattle.replay_gateway.specs.declared.messages.Ends.{Ends}

abbrev pub ends_kept : Message → Ends
ends_kept m = record {
  to_gateway = m.to_gateway;
  gateway = m.gateway;
  node = m.node;
  port = m.port;
  start = m.start;
  number = m.number;
}
