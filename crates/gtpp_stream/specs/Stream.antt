-- What contracts see of a deframer, and how it stands to the stream that it was given.
use Rattle.std.specs.Prelude.{◌≡◌, ℕ, ◌-◌, Bool, false, if◌then◌else◌, List, [], ◌∷◌, ◌++◌, length, Option, None, Some}
use Rattle.gtpp_stream.specs.Frames.{first_fault, frames, rest_of}
use Rattle.gtpp_stream.specs.declared.frame.FrameEnd.{FrameEnd}
use Rattle.gtpp_stream.specs.declared.frame.FrameEnd.TheVariants.{Bad, More, Whole}
use Rattle.gtpp_stream.specs.declared.frame.FrameKind.{FrameKind}

-- how many octets it used, those of the message that has come so far, whether that is whole, and why the stream is bad
pub record Stream : Type 0 where
  pub used : ℕ
  pub octets : List ℕ
  pub is_whole : Bool
  pub bad : Option FrameKind

-- nothing of a stream
abbrev pub no_stream : Stream
no_stream = record { used = 0; octets = []; is_whole = false; bad = None }

-- the message that stands, where one does
abbrev pub standing : Stream → List (List ℕ)
standing stream = if stream.is_whole then stream.octets ∷ [] else []

-- what has come of the message after the last whole one
abbrev pub pending : Stream → List ℕ
pending stream = if stream.is_whole then [] else stream.octets

-- The deframer was given these octets, and handed on these messages of them.
pub record Follows (given : List ℕ) (messages : List (List ℕ)) (stream : Stream) : Type 0 where
  pub used : stream.used ≡ length given
  pub frames : frames given ≡ messages ++ standing stream
  pub rest : rest_of given ≡ pending stream

-- the first of two faults
abbrev pub earlier_fault : Option FrameKind → Option FrameKind → Option FrameKind
earlier_fault None other = other
earlier_fault (Some kind) other = Some kind

-- why the stream is bad where a piece begins: as it was before, or by the octet with which the next message begins
abbrev pub fault_before : Stream → List ℕ → Option FrameKind
fault_before stream piece = earlier_fault stream.bad (first_fault (stream.octets ++ piece))

-- what a call that used so many octets of a piece answers: why the stream is bad, else whether a message stands
abbrev pub answer_of : Option FrameKind → Stream → FrameEnd
answer_of (Some kind) stream = Bad (stream.used - length stream.octets) kind
answer_of None stream = if stream.is_whole then Whole else More
