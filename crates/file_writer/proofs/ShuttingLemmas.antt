-- Calls keep streams shut of which all files are sealed, whatever comes of them.
use Rattle.std.proofs.Common.{◌≡◌, ◌≢◌, inl, ℕ, ◌<◌, ◌≤◌, Bool, false, if◌then◌else◌, IsTrue, List, [], ◌∷◌, ◌++◌, None, Some, Result, refl, sym, ap, ◌∙◌, subst, arith, Ok, Err}
use Rattle.file_writer.proofs.Names.{cases_eq, Failed, Fails, Fate, FileName, Ghosts, greatest_in, greatest_in-append, is_done, LeavesAfter, left_unsealed, Makes, ne_eqb, next_fate, number_in, seal_step, sealed_as, SealedFile, SealLeaves, synced, Unsealed, UnsealedFile, Went, Writes, written}
use Rattle.cdr_shelf.specs.Calls.{Seals, State, Steps, Told}
use Rattle.cdr_shelf.specs.Steps.{files_after}
use Rattle.file_writer.specs.Shutting.{BeginsShut, StaysShut}
use Rattle.file_writer.proofs.MakingLemmas.{left_by_write, one_failed, one_went, unsealed_by}

-- ---- one call

-- streams of which so many files are sealed have nothing unsealed
abbrev Shut : (ℕ → ℕ) → List SealedFile → (ℕ → Unsealed) → Type 0
Shut most files unsealed = (s : ℕ) → most s ≤ greatest_in s files → unsealed s ≡ None

-- after a call with a fate, where a stream that is shut stays so by the call's step
by_fate : (fate : Fate) (most : ℕ → ℕ) (old_files new_files : List SealedFile) (stream : ℕ)
    (step : Unsealed → Unsealed) (old new : ℕ → Unsealed)
    → (most stream ≤ greatest_in stream new_files → step (old stream) ≡ None)
    → ((s : ℕ) → s ≢ stream → greatest_in s new_files ≡ greatest_in s old_files)
    → (fate ≡ Fails → greatest_in stream new_files ≡ greatest_in stream old_files)
    → LeavesAfter fate stream step old new → Shut most old_files old → Shut most new_files new
by_fate fate most old_files new_files stream step old new here same failed leaves shut s h =
    grind (arith, failed, cases_eq)

-- a call that seals nothing
steps_shut : {T E : Type 0} (told : Told) (stream : ℕ) (step : Unsealed → Unsealed) (starved : Bool) (old new : State)
    (result : Result T E) → IsTrue told.files → IsTrue told.plan → Steps told stream step starved old new result
    → (most : ℕ → ℕ)
    → (most stream ≤ greatest_in stream old.files → old.unsealed stream ≡ None → step (old.unsealed stream) ≡ None)
    → Shut most old.files old.unsealed → Shut most new.files new.unsealed
steps_shut told stream step starved old new result files plan e most here shut s h = grind (arith, by_fate)

module _ {A : Type 0} (tells : Ghosts A) (old new : A) where
  abbrev state : A → State
  state shelf = record {
    files = tells.files shelf;
    unsealed = tells.unsealed shelf;
    calls = tells.calls shelf;
    plan = tells.plan shelf;
    faults = tells.faults shelf;
  }

  abbrev told : Told
  told = record { files = tells.tells_files; calls = tells.tells_calls; plan = tells.tells_plan }

  -- what was made of a call that seals nothing: it went, or it failed
  pub went : {T E : Type 0} {x : T} (stream : ℕ) (step : Unsealed → Unsealed)
      → Steps {T = T} {E = E} told stream step false (state old) (state new) (Ok x) → Makes tells (Writes ∷ []) Went old new
  went stream step e =
      one_went tells Writes old new (λ known. e.calls known refl) (λ known. unsealed_by e.files) e.cause.ok
      (λ known. e.planned known refl)

  pub failed : {T E : Type 0} {x : E} (stream : ℕ) (step : Unsealed → Unsealed) (starved : Bool) → starved ≡ false
      → Steps {T = T} {E = E} told stream step starved (state old) (state new) (Err x) → Makes tells (Writes ∷ []) Failed old new
  failed stream step starved m e =
      one_failed tells Writes old new (λ known. e.calls known m) (λ known. inl e.files) e.cause.later (e.cause.failed m)
      (λ known. e.planned known m) (λ planned known. left_by_write _ _ _ e.files)

  pub begins : {T E : Type 0} (name : FileName) (step : Unsealed → Unsealed) (starved : Bool) (result : Result T E)
      → Steps told name.stream step starved (state old) (state new) result
      → greatest_in name.stream (tells.files old) < name.sequence
      → BeginsShut tells name.stream name.sequence old new
  begins name step starved result e above files plan most within shut = search (arith, steps_shut)

  pub writes : {T E : Type 0} (stream at : ℕ) (from : List ℕ) (starved : Bool) (result : Result T E)
      → Steps told stream (written at from) starved (state old) (state new) result → StaysShut tells old new
  writes stream at from starved result e files plan most shut = search (arith, steps_shut)

  pub syncs : {T E : Type 0} (stream : ℕ) (starved : Bool) (result : Result T E)
      → Steps told stream synced starved (state old) (state new) result → StaysShut tells old new
  syncs stream starved result e files plan most shut = search (arith, steps_shut)

-- ---- a seal

gone_where : (b : Bool) (f : UnsealedFile) (file : SealedFile)
    → (if b then record { name = f.name; octets = f.octets } ∷ [] else []) ≡ file ∷ []
    → (if b then None else Some f) ≡ None
gone_where b f file e = grind arith

-- a file that a seal makes stand is gone
gone : (u : Unsealed) (file : SealedFile) → sealed_as u ≡ file ∷ [] → left_unsealed u ≡ None
gone u file e = grind (arith, gone_where)

-- a name of another stream
other_number : (s stream : ℕ) (name : FileName) → name.stream ≡ stream → s ≢ stream → number_in s name ≡ 0
other_number s stream name e h = cc (ne_eqb name.stream s (λ same. h (sym same ∙ e)))

here_by : (b : Bool) (most : ℕ → ℕ) (stream : ℕ) (u : Unsealed) (files : List SealedFile) (file : SealedFile)
    → sealed_as u ≡ file ∷ [] → (most stream ≤ greatest_in stream files → u ≡ None)
    → most stream ≤ greatest_in stream (if b then files ++ sealed_as u else files)
    → (if b then left_unsealed u else u) ≡ None
here_by b most stream u files file e shut h = grind (arith, gone)

others_by : (b : Bool) (s stream : ℕ) (u : Unsealed) (files : List SealedFile) (file : SealedFile)
    → sealed_as u ≡ file ∷ [] → file.name.stream ≡ stream → s ≢ stream
    → greatest_in s (if b then files ++ sealed_as u else files) ≡ greatest_in s files
others_by b s stream u files file e own other = grind (arith, greatest_in-append, other_number)

module _ {A : Type 0} (tells : Ghosts A) (old new : A) where
  pub seals_shut : {T E : Type 0} (stream : ℕ) (result : Result T E)
      → Seals (told tells old new) stream (state tells old new old) (state tells old new new) result
      → (file : SealedFile) → sealed_as (tells.unsealed old stream) ≡ file ∷ [] → file.name.stream ≡ stream
      → StaysShut tells old new
  seals_shut stream result e file is own files plan most shut =
      let left : SealLeaves (next_fate (tells.plan old)) stream (tells.unsealed old) (tells.files old)
      (tells.unsealed new) (tells.files new) = e.leaves files plan in
      let fate : Fate = next_fate (tells.plan old) in
      let u : Unsealed = tells.unsealed old stream in
      subst (λ (fs : List SealedFile). Shut most fs (tells.unsealed new)) (sym left.files)
      (by_fate fate most (tells.files old) (files_after fate u (tells.files old)) stream (seal_step fate)
      (tells.unsealed old) (tells.unsealed new)
      (here_by (is_done fate) most stream u (tells.files old) file is (shut stream))
      (λ s other. others_by (is_done fate) s stream u (tells.files old) file is own other)
      (λ f. ap (λ (x : Fate). greatest_in stream (files_after x u (tells.files old))) f)
      left.unsealed shut)
