-- What an end of a path reads, behind the header and beside what is read at neither end.
use Rattle.std.proofs.Common.{◌≡◌, ℕ, ◌==◌, Bool, true, false, not, nat_lt, if◌then◌else◌, List, ◌∷◌, length, take, drop, Result, Ok, Err, refl, ap, sym, subst, ◌∙◌}
use Rattle.gtpp_header.specs.Header.{protocol_type_of, two_octets, version_of}
use Rattle.gtpp_header.specs.Reading.{header_reading}
use Rattle.gtpp_header.specs.declared.fault.HeadFault.TheVariants as head
use Rattle.gtpp_elements.specs.Elements.{Element}
use Rattle.gtpp_elements.specs.Reading.{elements_in}
use Rattle.gtpp_elements.specs.declared.fault.ElementFault.{ElementFault}
use Rattle.gtpp_message.specs.Message.{MessageValue, is_message_type}
use Rattle.gtpp_message.specs.Reading.{ReadingValue, Drop, Message, OtherVersion, Refused, answered, behind, body_of, reading}
use Rattle.gtpp_message.specs.Role.{by_body, for_role, has_refusal, is_stray, read_at, refused, role_reading}
use Rattle.gtpp_message.specs.Writing.{IsSendableReading, message_type}
use Rattle.gtpp_message.specs.declared.flaw.Flaw.{Flaw}
use Rattle.gtpp_message.specs.declared.reading.Why.TheVariants as why
use Rattle.gtpp_message.specs.declared.role.Role.{Role}
use Rattle.gtpp_message.proofs.SpelledLemmas.{kind_said, sendable_reading}

-- Behind the header.

behind_header : (role : Role) (gtp other cut : Bool) (version kind stated number : ℕ) (octets : List ℕ) →
    read_at role (if gtp then Err head.NotPrime else if other then Err (head.Version version kind number) else if cut then Err (head.Cut stated)
    else Ok (record { kind = kind; length = stated; number = number })) octets
    ≡ (if gtp then Drop why.NotPrime else if other then (if kind == 3 then Drop why.Stray else OtherVersion kind number) else if cut then Drop why.Cut
    else if not (is_message_type kind) then Drop why.UnknownType else if is_stray role kind then Drop why.Stray
    else by_body kind number (body_of kind (elements_in (take stated (drop 6 octets)))))
behind_header role false false true version kind stated number octets = refl
behind_header role _ _ _ version kind stated number octets = refl

-- what is read behind the header is what the conditions say
pub in_order : (role : Role) (octets : List ℕ) → read_at role (header_reading octets) octets ≡ role_reading role octets
in_order role (flags ∷ kind ∷ length_high ∷ length_low ∷ number_high ∷ number_low ∷ rest) =
    let stated = two_octets length_high length_low in
    behind_header role (protocol_type_of flags == 1) (not (version_of flags == 2)) (nat_lt (length rest) stated) (version_of flags) kind stated
    (two_octets number_high number_low) (flags ∷ kind ∷ length_high ∷ length_low ∷ number_high ∷ number_low ∷ rest)
in_order role _ = refl

-- Beside what is read at neither end.

-- a message that is read has this type
HasKind : ℕ → Result MessageValue Flaw → Type 0
HasKind kind read = (message : MessageValue) → read ≡ Ok message → kind ≡ message_type message

by_type : (role : Role) (kind number : ℕ) (read : Result MessageValue Flaw) → HasKind kind read →
    (if is_stray role kind then Drop why.Stray else by_body kind number read) ≡ for_role role (answered kind number read)
unfolding HasKind
by_type role kind number (Ok message) same = ap (λ (k : ℕ). if is_stray role k then Drop why.Stray else Message number message) (same message refl)
by_type role kind number (Err flaw) same = refl

kind_body : (kind : ℕ) (body : Result (List Element) ElementFault) → is_message_type kind ≡ true → HasKind kind (body_of kind body)
unfolding HasKind
kind_body kind (Ok elements) known = λ message e. kind_said kind elements message known e
kind_body kind (Err fault) known = λ message e. cc

by_known : (b : Bool) (role : Role) (kind number : ℕ) (body : Result (List Element) ElementFault) → is_message_type kind ≡ b →
    (if not b then Drop why.UnknownType else if is_stray role kind then Drop why.Stray else by_body kind number (body_of kind body))
    ≡ for_role role (if b then answered kind number (body_of kind body) else Drop why.UnknownType)
by_known true role kind number body known = by_type role kind number (body_of kind body) (kind_body kind body known)
by_known false role kind number body known = refl

by_header : (role : Role) (gtp other cut : Bool) (version kind stated number : ℕ) (octets : List ℕ) →
    (if gtp then Drop why.NotPrime else if other then (if kind == 3 then Drop why.Stray else OtherVersion kind number) else if cut then Drop why.Cut
    else if not (is_message_type kind) then Drop why.UnknownType else if is_stray role kind then Drop why.Stray
    else by_body kind number (body_of kind (elements_in (take stated (drop 6 octets)))))
    ≡ for_role role (behind (if gtp then Err head.NotPrime else if other then Err (head.Version version kind number) else if cut then Err (head.Cut stated)
    else Ok (record { kind = kind; length = stated; number = number })) octets)
by_header role false false false version kind stated number octets = by_known (is_message_type kind) role kind number (elements_in (take stated (drop 6 octets))) refl
by_header role _ _ _ version kind stated number octets = refl

-- what an end reads is what is read at neither, but for what is stray there and for what no message answers
pub role_beside : (role : Role) (octets : List ℕ) → role_reading role octets ≡ for_role role (reading octets)
role_beside role (flags ∷ kind ∷ length_high ∷ length_low ∷ number_high ∷ number_low ∷ rest) =
    let stated = two_octets length_high length_low in
    by_header role (protocol_type_of flags == 1) (not (version_of flags == 2)) (nat_lt (length rest) stated) (version_of flags) kind stated
    (two_octets number_high number_low) (flags ∷ kind ∷ length_high ∷ length_low ∷ number_high ∷ number_low ∷ rest)
role_beside role _ = refl

-- What an end reads may be sent.

unless_stray : (stray : Bool) (read : ReadingValue) → IsSendableReading read → IsSendableReading (if stray then Drop why.Stray else read)
unless_stray true read sendable = tt
unless_stray false read sendable = sendable

sendable_refused : (b : Bool) (kind cause number : ℕ) → IsSendableReading (if b then Refused kind cause number else Drop (why.Malformed cause))
sendable_refused true kind cause number = tt
sendable_refused false kind cause number = tt

sendable_for : (role : Role) (read : ReadingValue) → IsSendableReading read → IsSendableReading (for_role role read)
sendable_for role (Message number message) sendable = unless_stray (is_stray role (message_type message)) (Message number message) sendable
sendable_for role (Refused kind cause number) sendable =
    unless_stray (is_stray role kind) (refused kind cause number) (sendable_refused (has_refusal kind) kind cause number)
sendable_for role (OtherVersion kind number) sendable = unless_stray (kind == 3) (OtherVersion kind number) tt
sendable_for role (Drop why) sendable = tt

pub sendable_as : (role : Role) (octets : List ℕ) (read : ReadingValue) → read ≡ role_reading role octets → IsSendableReading read
sendable_as role octets read is =
    subst IsSendableReading (sym (is ∙ role_beside role octets)) (sendable_for role (reading octets) (sendable_reading octets (reading octets) refl))
