-- What a gateway makes of a datagram is no longer than the payload of a message may be.
use Rattle.std.proofs.Common.{◌≡◌, ◌↔◌, ⊎_elim, ℕ, ◌+◌, ◌*◌, ◌<◌, ◌≤◌, Bool, true, false, cond, List, [], ◌∷◌, ◌++◌, length, length-append, get_or, suc, take, drop, Option, Some, option_map, unwrap_or, ap, arith}
use Rattle.std.proofs.lemmas.Bool.{false≢true}
use Rattle.std.proofs.lemmas.List.{length-take}
use Rattle.std.specs.List.{find}
use Rattle.std.specs.Prelude.{is_some}
use Rattle.entry_codec.specs.Spelling.{AreBelow}
use Rattle.gtpp_header.specs.Header.{SpellsHeader}
use Rattle.gtpp_header.specs.declared.Header.{Header}
use Rattle.gtpp_elements.specs.Elements.{Element, SpellElements, SpellsElement, first_value, has_kind}
use Rattle.gtpp_elements.specs.Numbers.{numbers_in}
use Rattle.gtpp_message.specs.Message.{MessageValue, TransferValue, Send, Possible, Cancel, Release, TransferRequest}
use Rattle.gtpp_message.specs.Packet.{PacketValue, Empty, Full, SpellsPacket, packet_octets}
use Rattle.gtpp_message.specs.Reading.{Message, reading}
use Rattle.gtpp_message.specs.Spelling.{Spells, SpellsNumbers, SpellsTransfer}
use Rattle.gtpp_message.specs.Writing.{command_element}
use Rattle.gateway_answer.specs.Preparing.{IsShort, IsShortTransfer, prepared_of}
use Rattle.gateway_answer.specs.PreparingLaws.{RolesRead, prepared_is}

-- what the law of messages says: a message is read exactly where the octets spell it
abbrev pub ReadIsSpelled : Type 0
ReadIsSpelled = (number : ℕ) (message : MessageValue) (octets : List ℕ) → (reading octets ≡ Message number message) ↔ Spells message number octets

numbers_short : (value : List ℕ) → length (numbers_in value) * 2 ≤ length value
numbers_short [] = omega arith
numbers_short (high ∷ []) = omega arith
numbers_short (high ∷ low ∷ octets) = omega (arith, numbers_short octets)

element_short : (e : Element) (octets : List ℕ) → SpellsElement e octets → length e.value ≤ length octets
element_short e octets spells =
    ⊎_elim (λ fixed. omega (arith, ap (λ (xs : List ℕ). length xs) fixed.value, ap (λ (xs : List ℕ). length xs) fixed.spelled))
    (λ sized. omega (arith, ap (λ (xs : List ℕ). length xs) sized.spelled)) spells

some_value : (a b : List ℕ) → ◌≡◌ {A = Option (List ℕ)} (Some a) (Some b) → a ≡ b
some_value a b e = ap (λ (o : Option (List ℕ)). unwrap_or o []) e

value_short : (kind : ℕ) (elements : List Element) (octets value : List ℕ) → SpellElements elements octets → first_value kind elements ≡ Some value → length value ≤ length octets
value_short kind [] octets value spells e = absurd (false≢true (ap (λ (o : Option (List ℕ)). is_some o) e))
value_short kind (x ∷ elements) octets value spells e =
    let size : length octets ≡ length (spells.0 ++ spells.1) = ap (λ (xs : List ℕ). length xs) spells.2 in
    let parts : length (spells.0 ++ spells.1) ≡ length spells.0 + length spells.1 = length-append spells.0 spells.1 in
    let whole : length octets ≡ length spells.0 + length spells.1 = omega (arith, size, parts) in
    by_test (has_kind kind x) (length octets) (length spells.0) (length spells.1) whole (element_short x spells.0 spells.3) (value_short kind elements spells.1 value spells.4) e
  where
    by_test : (b : Bool) (all front rest : ℕ) → all ≡ front + rest → length x.value ≤ front → (first_value kind elements ≡ Some value → length value ≤ rest)
        → option_map (λ (y : Element). y.value) (cond b (Some x) (find (has_kind kind) elements)) ≡ Some value → length value ≤ all
    by_test true all front rest whole one more e = let is : length x.value ≡ length value = ap (λ (xs : List ℕ). length xs) (some_value x.value value e) in omega (arith, whole, one, is)
    by_test false all front rest whole one more e = omega (arith, whole, more e)

header_short : (header : Header) (octets : List ℕ) → AreBelow 256 octets → SpellsHeader header octets → header.length ≤ 65535
header_short header (flags ∷ kind ∷ length_high ∷ length_low ∷ number_high ∷ number_low ∷ rest) below spells =
    omega (arith, spells.2, below.1.1.0, below.1.1.1.0)
header_short header [] below spells = absurd spells
header_short header (a ∷ []) below spells = absurd spells
header_short header (a ∷ b ∷ []) below spells = absurd spells
header_short header (a ∷ b ∷ c ∷ []) below spells = absurd spells
header_short header (a ∷ b ∷ c ∷ d ∷ []) below spells = absurd spells
header_short header (a ∷ b ∷ c ∷ d ∷ e ∷ []) below spells = absurd spells

packet_short : (packet : PacketValue) (value : List ℕ) → SpellsPacket packet value → length value ≤ 65535 → length (packet_octets packet) ≤ 65535
packet_short Empty value spells le = omega arith
packet_short (Full form octets) value spells le = omega (arith, le, ap (λ (xs : List ℕ). length xs) spells.0)

list_short : (numbers value : List ℕ) → SpellsNumbers numbers value → length value ≤ 65535 → length numbers ≤ 32767
list_short numbers value spells le = omega (arith, le, numbers_short value, ap (λ (xs : List ℕ). length xs) spells.1)

short_transfer : (body : TransferValue) (value : List ℕ) → SpellsTransfer body value → length value ≤ 65535 → IsShortTransfer body
short_transfer (Send packet) value spells le = packet_short packet value spells le
short_transfer (Possible packet) value spells le = packet_short packet value spells le
short_transfer (Cancel numbers) value spells le = list_short numbers value spells le
short_transfer (Release numbers) value spells le = list_short numbers value spells le

pub spelled_is_short : (number : ℕ) (body : TransferValue) (octets : List ℕ) → AreBelow 256 octets → Spells (TransferRequest body) number octets → IsShortTransfer body
spelled_is_short number body octets below spells =
    let value = spells.says.1 in
    let within = value_short (command_element body) spells.elements (take spells.header.length (drop 6 octets)) value spells.fills spells.says.2 in
    let stated = header_short spells.header octets below spells.heads in
    let taken : length (take spells.header.length (drop 6 octets)) ≤ spells.header.length = omega (arith, length-take spells.header.length (drop 6 octets)) in
    short_transfer body value spells.says.3 (omega (arith, within, stated, taken))

pub prepared_is_short : RolesRead → ReadIsSpelled → (octets : List ℕ) → AreBelow 256 octets → IsShort (prepared_of octets)
prepared_is_short roles spelled octets below =
    prepared_is IsShortTransfer roles octets
    (λ number body is values. spelled_is_short number body octets below ((spelled number (TransferRequest body) octets).0 is))

-- octets that are below 256 at each place are so
pub below_at_each : (octets : List ℕ) → ((k : ℕ) → get_or octets k 0 < 256) → AreBelow 256 octets
below_at_each [] at = tt
below_at_each (x ∷ octets) at = (at 0, below_at_each octets (λ k. at (suc k)))
