-- Words of one command are those of no other.
use Rattle.std.proofs.Common.{◌≡◌, ◌==◌, ◌&&◌, ℕ, Bool, true, false, if◌then◌else◌, List, [], ◌∷◌, codes, Option, None, Some, option_and_then, refl, sym, ap, arith, ◌∙◌, ◌||◌, is_none}
use Rattle.std.proofs.lemmas.Bool.{and_parts, eqb-true}
use Rattle.std.specs.Str.{bytes_eq}
use Rattle.cgf_jobs.specs.Command.{command_of, seeded_named, seeded_of}
use Rattle.cgf_top.specs.Looping.{looping_by, looping_of}
use Rattle.cgf_jobs.specs.NetworkReport.{HandsNetwork}
use Rattle.cgf_service.specs.Serving.{serving_of, serving_by}
use Rattle.cgf_service.specs.StreamEnds.{may_have_used}
use Rattle.cgf_service.specs.Streaming.{streaming_of, streaming_by}
use Rattle.cgf_jobs.specs.Words.{is_option}
use Rattle.cgf_jobs.specs.declared.command.Seeded.{Seeded}
use Rattle.cgf_service.specs.declared.serving.Serving.{Serving}
use Rattle.cgf_jobs.specs.declared.status.Status.{Status}
use Rattle.cgf_service.specs.declared.streaming.Streaming.{Streaming}
use Rattle.loop_run.specs.declared.setup.LoopSetup.{LoopSetup}
use Rattle.replay_world.specs.declared.replay.Played.{Played}

pub some_is_none : {A B : Type 0} (x : A) → Some x ≡ None → B
some_is_none x is = absurd (cc)

-- words of `serve` are none of `loopback`
pub not_looping : (words : List (List ℕ)) (of : Serving) → serving_of words ≡ Some of → looping_of words ≡ None
not_looping (a ∷ b ∷ c ∷ d ∷ e ∷ []) of asked = absurd (some_is_none of (sym asked))
not_looping _ of asked = refl

pub not_streaming : (words : List (List ℕ)) (of : LoopSetup) → looping_of words ≡ Some of → streaming_of words ≡ None
not_streaming (a ∷ b ∷ c ∷ d ∷ e ∷ f ∷ words) of asked = absurd (some_is_none of (sym asked))
not_streaming _ of asked = refl

not_sample : (name : List ℕ) → bytes_eq name (codes "loopback") ≡ true → bytes_eq name (codes "sample") ≡ false
not_sample [] e = absurd (cc e)
not_sample (x ∷ rest) e = ap (λ (n : ℕ). (n == 115) && bytes_eq rest (codes "ample"))
    (eqb-true x 108 ((and_parts (x == 108) (bytes_eq rest (codes "oopback")) e).0))

not_drill : (name : List ℕ) → bytes_eq name (codes "loopback") ≡ true → bytes_eq name (codes "drill") ≡ false
not_drill [] e = absurd (cc e)
not_drill (x ∷ rest) e = ap (λ (n : ℕ). (n == 100) && bytes_eq rest (codes "rill"))
    (eqb-true x 108 ((and_parts (x == 108) (bytes_eq rest (codes "oopback")) e).0))

named_loop : {T : Type 0} (named : Bool) (said : Option T) (of : T) → (if named then said else None) ≡ Some of → named ≡ true
named_loop true said of asked = refl
named_loop false said of asked = absurd (some_is_none of (sym asked))

not_seeded : (name : List ℕ) (asked : Option Seeded) → bytes_eq name (codes "sample") ≡ false
    → bytes_eq name (codes "drill") ≡ false → option_and_then (seeded_named name) asked ≡ None
not_seeded name None one other = refl
not_seeded name (Some seeded) one other = rw (one, other) refl

-- those of `loopback` ask for no job over files
pub loop_is_no_job : (words : List (List ℕ)) (of : LoopSetup) → looping_of words ≡ Some of → command_of words ≡ None
loop_is_no_job (a ∷ b ∷ []) of asked = absurd (some_is_none of (sym asked))
loop_is_no_job (name ∷ g ∷ n ∷ p ∷ t ∷ []) of asked =
    let named = named_loop (bytes_eq name (codes "loopback")) (looping_by g n p t) of asked in
    not_seeded name (seeded_of g n p t) (not_sample name named) (not_drill name named)
loop_is_no_job _ of asked = refl

-- those of `serve` ask for no job over files
pub serve_is_no_job : (words : List (List ℕ)) (of : Serving) → serving_of words ≡ Some of → command_of words ≡ None
serve_is_no_job (a ∷ b ∷ []) of asked = absurd (some_is_none of (sym asked))
serve_is_no_job (a ∷ b ∷ c ∷ d ∷ e ∷ []) of asked = absurd (some_is_none of (sym asked))
serve_is_no_job _ of asked = refl

-- those of `stream` ask for no job over files
pub stream_is_no_job : (words : List (List ℕ)) (of : Streaming) → streaming_of words ≡ Some of → command_of words ≡ None
stream_is_no_job (a ∷ b ∷ []) of asked = absurd (some_is_none of (sym asked))
stream_is_no_job (a ∷ b ∷ c ∷ d ∷ e ∷ []) of asked = absurd (some_is_none of (sym asked))
stream_is_no_job _ of asked = refl

two_names : (name : List ℕ) → bytes_eq name (codes "serve") ≡ true → bytes_eq name (codes "stream") ≡ true → ⊥
two_names [] a b = cc a
two_names (x ∷ []) a b = cc ((and_parts (x == 115) false a).1)
two_names (x ∷ y ∷ rest) a b =
    let p : y ≡ 101 = eqb-true y 101 (and_parts (y == 101) (bytes_eq rest (codes "rve")) ((and_parts (x == 115) (bytes_eq (y ∷ rest) (codes "erve")) a).1)).0 in
    let q : y ≡ 116 = eqb-true y 116 (and_parts (y == 116) (bytes_eq rest (codes "ream")) ((and_parts (x == 115) (bytes_eq (y ∷ rest) (codes "tream")) b).1)).0 in
    omega (arith, p, q)

named_path : {T : Type 0} (option named : Bool) (said : Option T) (of : T) → (if option then None else if named then said else None) ≡ Some of → named ≡ true
named_path false true said of asked = refl
named_path _ _ said of asked = absurd (some_is_none of (sym asked))

-- those of `stream` aren't those of `serve`
pub not_both : (words : List (List ℕ)) (of : Serving) (by : Streaming) → serving_of words ≡ Some of → streaming_of words ≡ Some by → ⊥
not_both (name ∷ b ∷ c ∷ d ∷ e ∷ f ∷ g ∷ []) of by serve stream =
    two_names name
    (named_path (is_option f || is_option g) (bytes_eq name (codes "serve")) (serving_by b c d e) of serve)
    (named_path (is_option e || (is_option f || is_option g)) (bytes_eq name (codes "stream")) (streaming_by b c d) by stream)
not_both _ of by serve stream = some_is_none of (sym serve)

-- a job that leaves the outside as it is, and isn't `serve`, isn't `stream`
pub used_by_none : (asked : Option Streaming) (ended : Status) → may_have_used None asked ended ≡ false → asked ≡ None
used_by_none None ended unused = refl
used_by_none (Some of) ended unused = absurd (cc unused)

pub over_files : (serve : Option Serving) (stream : Option Streaming) (loop : Option LoopSetup)
    → (is_none serve && (is_none stream && is_none loop)) ≡ true → (serve ≡ None) × (stream ≡ None) × (loop ≡ None)
over_files None None None e = (refl, refl, refl)
over_files _ _ _ e = absurd (cc e)

-- words that ask for no job over files ask for no network
pub no_network : (words : List (List ℕ)) (left : Option (List ℕ)) (ended : Status) (played : Option Played) →
    command_of words ≡ None → HandsNetwork words left ended played
no_network words left ended played none = record {
  of_script = λ text lines asked told script done. some_is_none _ (sym asked ∙ none);
  of_seed = λ of asked done. some_is_none _ (sym asked ∙ none);
}
