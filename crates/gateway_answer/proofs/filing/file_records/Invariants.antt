use Rattle.std.proofs.Common.{◌≡◌, ◌+◌, ◌++◌, length}
use Rattle.gateway_answer.proofs.Names.{filed_under, packet_octets, records_from}
use Rattle.gtpp_message.specs.Values.{packet_value}
use Rattle.gateway_answer.proofs.filing.file_records.Given as goal

-- the records so far, and those that are left, are those of the whole packet
abbrev pub invariant-loop-index : goal.invariant-loop-index
invariant-loop-index l = record {
  filed : l.into.items ++ records_from l.key l.moment l.format l.version l.index l.records ≡ l.fn.into.items ++ filed_under l.key l.moment (packet_octets (packet_value l.fn.packet));
  count : l.index + length l.records ≡ l.count;
}
