-- What is said of why a stream is bad.
use Rattle.std.specs.Prelude.{ℕ, List, codes}
use Rattle.gtpp_stream.specs.declared.frame.FrameKind.{FrameKind}
use Rattle.gtpp_stream.specs.declared.frame.FrameKind.TheVariants.{NotPrime, Version}

abbrev pub frame_kind_text : FrameKind → List ℕ
frame_kind_text NotPrime = codes "the protocol type is not that of GTP'"
frame_kind_text Version = codes "another version of GTP' than 2"
