-- Which words ask for a job over files.
use Rattle.std.specs.Prelude.{ℕ, ◌&&◌, Bool, List, is_none}
use Rattle.cgf_service.specs.Serving.{serving_of}
use Rattle.cgf_service.specs.Streaming.{streaming_of}
use Rattle.cgf_top.specs.Looping.{looping_of}

-- whether words ask for a job over files, and for none of `serve`, `stream` and `loopback`
abbrev pub is_over_files : List (List ℕ) → Bool
is_over_files words = is_none (serving_of words) && (is_none (streaming_of words) && is_none (looping_of words))
