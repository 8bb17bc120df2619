use Rattle.std.proofs.Common.{◌≡◌, length, map}
use Rattle.gtpp_message.specs.Values.{packet_value}
use Rattle.gateway_book.specs.Gathering.{gathered, packet_items, record_item}
use Rattle.gateway_book.proofs.gathering.Gathering.add_packet.Given as goal

-- the records so far, and those that are left, are those of the whole packet
abbrev pub invariant-loop-octets : goal.invariant-loop-octets
invariant-loop-octets l = gathered (map (record_item l.moment l.format l.version) l.records) l.self ≡ gathered (packet_items l.moment (packet_value l.fn.packet)) l.fn.self

abbrev pub decreases-loop-octets : goal.decreases-loop-octets
decreases-loop-octets l = length l.records
