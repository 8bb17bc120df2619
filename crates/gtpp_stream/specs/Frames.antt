-- The messages of a stream of octets: one after the other, each as long as its header says (3GPP TS 32.295, clause 6.1,
-- over TCP).
use Rattle.std.specs.Prelude.{◌≡◌, ℕ, zero, suc, ◌+◌, ◌==◌, if◌then◌else◌, List, [], ◌∷◌, ◌++◌, All, length, take, drop, Option, None, Some, Result, Ok, Err}
use Rattle.std.specs.List.{concat}
use Rattle.std.specs.Option.{option_map_or}
use Rattle.gtpp_header.specs.declared.Header.{Header}
use Rattle.gtpp_header.specs.declared.fault.HeadFault.{HeadFault}
use Rattle.gtpp_header.specs.Header.{protocol_type_of, version_of}
use Rattle.gtpp_header.specs.Reading.{header_reading}
use Rattle.gtpp_stream.specs.declared.frame.FrameKind.{FrameKind}
use Rattle.gtpp_stream.specs.declared.frame.FrameKind.TheVariants.{NotPrime, Version}

-- how many octets a message has by its header
abbrev pub length_of : Result Header HeadFault → Option ℕ
length_of (Ok header) = Some (6 + header.length)
length_of (Err fault) = None

-- how long the message is with which octets begin, where they begin with a whole one
unfoldable pub whole_length : List ℕ → Option ℕ
whole_length octets = length_of (header_reading octets)

-- The octets are a whole message: as many as its header says.
abbrev pub IsWhole : List ℕ → Type 0
IsWhole octets = whole_length octets ≡ Some (length octets)

-- These are the messages of a stream and the rest that follows them: whole messages, as many as there are.
pub record AreFrames (octets : List ℕ) (messages : List (List ℕ)) (rest : List ℕ) : Type 0 where
  pub joined : concat messages ++ rest ≡ octets
  pub whole : All IsWhole messages
  pub longest : (message after : List ℕ) → rest ≡ message ++ after → IsWhole message → ⊥

-- the messages of a stream, at most so many
abbrev pub frames_within : ℕ → List ℕ → List (List ℕ)
frames_within zero octets = []
frames_within (suc most) octets = option_map_or (λ k. take k octets ∷ frames_within most (drop k octets)) (whole_length octets) []

-- what follows them
abbrev pub rest_within : ℕ → List ℕ → List ℕ
rest_within zero octets = octets
rest_within (suc most) octets = option_map_or (λ k. rest_within most (drop k octets)) (whole_length octets) octets

-- all messages of a stream: there are no more of them than octets
unfoldable pub frames : List ℕ → List (List ℕ)
frames octets = frames_within (length octets) octets

-- what follows all of them
unfoldable pub rest_of : List ℕ → List ℕ
rest_of octets = rest_within (length octets) octets

-- what is wrong with octet 1 of a message, if anything
abbrev pub flags_fault : ℕ → Option FrameKind
flags_fault flags = if protocol_type_of flags == 1 then Some NotPrime else (if version_of flags == 2 then None else Some Version)

-- why no message begins with these octets, whatever follows, where that is so
abbrev pub first_fault : List ℕ → Option FrameKind
first_fault [] = None
first_fault (flags ∷ octets) = flags_fault flags
