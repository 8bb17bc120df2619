-- What comes of a record that a stream takes: a closing before it, its appending, and a closing behind it.
use Rattle.std.proofs.Common.{◌≡◌, ℕ, ◌+◌, List, [], ◌∷◌, ◌++◌, IsTrue, Option, Result, Ok, ap, ◌∙◌, subst, arith}
use Rattle.file_writer.proofs.Names.{appending, appending_of, Call, calls_at, closed_by, closed_progress, ClosesOpen, closing, closing_of, ClosureReason, Cuts, cuts_at, Ending, ending_at, ending_of, file_of, file_with, Filed, FileSettings, Follows, Ghosts, grown, IsBehind, IsErr, IsErrAnd, IsGrown, item_cuts, kind_change, limit_reached, Limits, Makes, OpenFile, Pairs, Progress, Record, record_of, run_after, ShelfFault, still, StillOpen, Stream, Takes, Went}
use Rattle.file_rotate.specs.Items.{Item}
use Rattle.file_writer.proofs.FollowingLemmas.{FactsLaws, append_follows, appending_is, close_follows, closed_count, closed_sealed, grown_closes, makes_closing, no_answer, record_closes}
use Rattle.file_writer.proofs.MakingLemmas.{ended_at, makes_then, stopped_at}

-- a cutter cuts where the division does
abbrev pub CutsAlike : Type 0
CutsAlike = (limits : Limits) (run : List (Filed (List ℕ))) (item : Item (List ℕ)) → item_cuts limits (file_of run) item ≡ cuts_at limits run item

-- a function ended with this fault
abbrev Ends : {T : Type 0} → Result T ShelfFault → ShelfFault → Type 0
Ends q e = IsErr q × IsErrAnd q (λ x. x ≡ e)

module _ {A : Type 0} (tells : Ghosts A) (settings : FileSettings) (s : ℕ) (filed : Filed (List ℕ)) (stream : Stream) (b : Option ClosureReason) (old : A)
    (pairs : Pairs stream.cutter.file stream.file.growing) (is_b : b ≡ kind_change stream.cutter.file filed.kind) (alike : CutsAlike) (run : List (Filed (List ℕ))) (behind : IsBehind tells s run stream old) where
  abbrev cuts : Cuts
  cuts = cuts_at stream.cutter.limits run (Record filed)

  cut_b : b ≡ cuts.before
  cut_b = is_b ∙ ap (λ (k : Option OpenFile). kind_change k filed.kind) behind.cut ∙ ap (λ (at : Cuts). at.before) (alike stream.cutter.limits run (Record filed))

  closes : ClosesOpen b stream.file.growing
  closes = record_closes stream.cutter.file filed.kind stream.file.growing b pairs is_b

  abbrev n : ℕ
  n = closed_by b stream.file.closed

  abbrev first : List Call
  first = closing settings s stream.file.sealed (stream.file.closed + 1) b run

  abbrev second : List Call
  second = appending stream.file.sealed (n + 1) (still b run []) (Record filed)

  abbrev third : Option ClosureReason → List Call
  third a = closing settings s stream.file.sealed (n + 1) a (still b run [] ++ filed ∷ [])

  as_item : (a : Option ClosureReason) (ended : Ending) (new : A) → ◌≡◌ {A = Cuts} (record { before = b; after = a }) cuts → Makes tells (first ++ (second ++ third a)) ended old new
      → Makes tells (calls_at settings s stream.file.sealed cuts stream.file.closed run (Record filed)) ended old new
  as_item a ended new both made = subst (λ (at : Cuts). Makes tells (calls_at settings s stream.file.sealed at stream.file.closed run (Record filed)) ended old new) both made

  -- the first closing failed
  pub first_ended : (new : A) (q : Result Stream ShelfFault) (e : ShelfFault) → Ends q e → Makes tells (closing_of settings s stream.file (tells.unsealed old s) b) (ending_at e) old new
      → Takes tells settings s run (Record filed) stream old new q
  first_ended new q e ends made = search (arith, as_item, cut_b, stopped_at, makes_closing, closes, no_answer)

  -- it went
  module _ (file : Progress) (mid : A) (closed : file ≡ closed_progress b stream.file) (opens : IsTrue tells.tells_files → StillOpen b stream.file (tells.unsealed old s) (tells.unsealed mid s))
      (made_1 : Makes tells (closing_of settings s stream.file (tells.unsealed old s) b) Went old mid) where
    closed_1 : file.closed ≡ n
    closed_1 = closed_count b stream.file file closed

    -- the number of the file that the record goes to
    pub number_1 : closed_by cuts.before stream.file.closed + 1 ≡ file.closed + 1
    number_1 = cc (cut_b, closed_1)

    sealed_1 : file.sealed ≡ stream.file.sealed
    sealed_1 = closed_sealed b stream.file file closed

    follows_1 : Follows tells s (still b run []) file mid
    follows_1 = close_follows tells s run stream.file file b old mid behind.follows closed opens

    calls_1 : Makes tells first Went old mid
    calls_1 = makes_closing tells settings s run stream.file b Went old mid behind.follows closes made_1

    calls_2 : appending_of file ≡ second
    calls_2 = appending_is tells s (still b run []) filed file mid follows_1 ∙ (λ i. appending (sealed_1 i) (closed_1 i + 1) (still b run []) (Record filed))

    -- the appending failed
    pub second_ended : (new : A) (q : Result Stream ShelfFault) (e : ShelfFault) → Ends q e → Makes tells (appending_of file) (ending_at e) mid new → Takes tells settings s run (Record filed) stream old new q
    second_ended new q e ends made = record {
      makes = as_item cuts.after (ending_of q) new (λ i. record { before = cut_b i; after = cuts.after })
          (makes_then tells first (second ++ third cuts.after) (ending_of q) old mid new calls_1
          (stopped_at tells second (third cuts.after) mid new q e ends (subst (λ (cs : List Call). Makes tells cs (ending_at e) mid new) calls_2 made)));
      after = no_answer q e _ ends;
    }

    -- it went
    module _ (laws : FactsLaws) (later : Progress) (far : A) (grows : later ≡ grown file (record_of filed)) (stands : IsTrue tells.tells_files → IsGrown s file (record_of filed) (tells.unsealed mid s) (tells.unsealed far s))
        (made_2 : Makes tells (appending_of file) Went mid far) (a : Option ClosureReason) (is_a : a ≡ limit_reached stream.cutter.limits (file_with stream.cutter.file filed.kind filed.octets filed.moment)) where
      both : ◌≡◌ {A = Cuts} (record { before = b; after = a }) cuts
      both = search (arith, cut_b)

      closed_2 : later.closed ≡ n
      closed_2 = ap (λ (f : Progress). f.closed) grows ∙ closed_1

      sealed_2 : later.sealed ≡ stream.file.sealed
      sealed_2 = ap (λ (f : Progress). f.sealed) grows ∙ sealed_1

      follows_2 : Follows tells s (still b run [] ++ filed ∷ []) later far
      follows_2 = append_follows tells s (still b run []) filed file later mid far laws follows_1 grows stands

      all_calls : (ended : Ending) (new : A) → Makes tells (closing_of settings s later (tells.unsealed far s) a) ended far new
          → Makes tells (calls_at settings s stream.file.sealed cuts stream.file.closed run (Record filed)) ended old new
      all_calls ended new made =
          as_item a ended new both
          (makes_then tells first (second ++ third a) ended old mid new calls_1
          (makes_then tells second (third a) ended mid far new (subst (λ (cs : List Call). Makes tells cs Went mid far) calls_2 made_2)
          (subst (λ (cs : List Call). Makes tells cs ended far new) (λ i. closing settings s (sealed_2 i) (closed_2 i + 1) a (still b run [] ++ filed ∷ []))
          (makes_closing tells settings s (still b run [] ++ filed ∷ []) later a ended far new follows_2 (grown_closes file later (record_of filed) a grows) made))))

      -- the last closing failed
      pub third_ended : (new : A) (q : Result Stream ShelfFault) (e : ShelfFault) → Ends q e → Makes tells (closing_of settings s later (tells.unsealed far s) a) (ending_at e) far new
          → Takes tells settings s run (Record filed) stream old new q
      third_ended new q e ends made = search (arith, ended_at, all_calls, no_answer)

      -- all went
      pub all_went : (last : Stream) (new : A) → last.file ≡ closed_progress a later → (IsTrue tells.tells_files → StillOpen a later (tells.unsealed far s) (tells.unsealed new s))
          → Makes tells (closing_of settings s later (tells.unsealed far s) a) Went far new → last.cutter.file ≡ file_of (run_after cuts run (Record filed)) → last.cutter.limits ≡ stream.cutter.limits → last.cutter.profile ≡ stream.cutter.profile
          → Takes tells settings s run (Record filed) stream old new (Ok last)
      all_went last new closed_3 opens_3 made cut limits profile =
          search (arith, all_calls, both, close_follows, follows_2, closed_count, closed_2, closed_sealed, sealed_2)
