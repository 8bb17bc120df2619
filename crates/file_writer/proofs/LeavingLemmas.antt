-- What a writer keeps when it recovers, and what calls for items leave unsealed.
use Rattle.std.proofs.Common.{◌≡◌, ℕ, suc, ◌+◌, ◌<◌, List, [], length, map, replicate, Option, None, slice_index, slice_index_or, slice_set, refl, ◌∙◌, arith, ◌≢◌, max, ◌≤◌, false, IsTrue, Some}
use Rattle.file_writer.proofs.Names.{AllAt, AreLeft, begun_of, BodyWhere, cases_eq, closed_of, closed_progress, ClosesOpen, ClosureReason, count_open, EachBelow, EachSafe, Filed, FiledRecord, FileName, get_or-map, get_or-set_other, get_or-set_same, get_or_default, Ghosts, growing_of, grown, HasAsked, IsGrown, IsLeft, IsOpenFile, IsOpenFileOf, Item, LeavesUnsealed, leb_tells, nat_tests, open_count, Progress, ReadyWhere, run_octets, run_records, RunFacts, same_Some, Settings, StillOpen, Stream, stream_count, stream_division, UnsealedFile, weight_of}
use Rattle.file_writer.proofs.FollowingLemmas.{none_body}
use Rattle.file_writer.proofs.AllLemmas.{each_set}

-- any stream
abbrev pub no_stream : Stream
no_stream = record {
  cutter = record { limits = record { size = 0; count = 0; open_time = 0 }; profile = 1; file = None };
  file = record { growing = None; closed = 0; sealed = 0 };
}

abbrev pub sealed_at : List Stream → ℕ → ℕ
sealed_at streams s = slice_index (map (λ stream. stream.file.sealed) streams) s

pub sealed_is : (streams : List Stream) (s : ℕ) (d : Stream) → s < length streams → sealed_at streams s
    ≡ (slice_index_or streams s d).file.sealed
sealed_is streams s d h = get_or-map (λ (stream : Stream). stream.file.sealed) streams s d 0 h

pub recovered_at : {A : Type 0} (tells : Ghosts A) (settings : Settings) (sequences : List ℕ) (streams : List Stream)
    (old new : A)
    → HasAsked tells settings.limits settings.profile sequences stream_count streams old new
    → AllAt tells settings (λ s. slice_index sequences s) (sealed_at streams) [] streams new
recovered_at tells settings sequences streams old new asked s d h = search (arith, asked.fresh, none_body, sealed_is)

pub zeros_at : (n s : ℕ) → slice_index (replicate n 0) s ≡ 0
zeros_at (suc n) (suc s) = zeros_at n s
zeros_at _ _ = refl

-- the same streams, by what they say themselves
pub at_self : {A : Type 0} (tells : Ghosts A) (settings : Settings) (closed sealed : ℕ → ℕ) (items : List Item)
    (streams : List Stream) (shelf : A) → length streams ≡ stream_count
    → AllAt tells settings closed sealed items streams shelf
    → AllAt tells settings closed (sealed_at streams) items streams shelf
at_self tells settings closed sealed items streams shelf sixteen at s d h = search (arith, sealed_is)

pub sealed_same : {A : Type 0} (tells : Ghosts A) (settings : Settings) (closed sealed : ℕ → ℕ) (items : List Item)
    (streams : List Stream) (shelf : A) → length streams ≡ stream_count
    → AllAt tells settings closed sealed items streams shelf → (s : ℕ) → s < stream_count → sealed_at streams s
    ≡ sealed s
sealed_same tells settings closed sealed items streams shelf sixteen at s h =
    sealed_is streams s no_stream (omega (arith, h, sixteen)) ∙ (at s no_stream h).has_sealed

pub more_below : (base n m : ℕ) (streams : List Stream) → EachBelow (base + n + m) streams
    → EachBelow (base + (n + m)) streams
more_below base n m streams below s d h = let b = below s d h in omega arith

pub one_closed : (closed : List ℕ) (streams : List Stream) (s : ℕ) (x : Stream) → s < length closed → s < length streams
    → ((t : ℕ) (d : Stream) → t < s → slice_index closed t ≡ (slice_index_or streams t d).file.closed)
    → (t : ℕ) (d : Stream) → t < s + 1 → slice_index (slice_set closed s (slice_index_or streams s x).file.closed) t
    ≡ (slice_index_or streams t d).file.closed
one_closed closed streams s x within inside before t d h =
    search (arith, cases_eq, get_or-set_same, get_or_default, get_or-set_other)

-- ---- one file

-- ---- one stream

few_open : (growing : Option RunFacts) → open_count growing ≤ 1
few_open growing = grind arith

some_opens : (reason : ClosureReason) (growing : Option RunFacts) → ClosesOpen (Some reason) growing
    → open_count growing ≡ 1
some_opens reason growing opens = grind arith

pub close_left : (start : ℕ) (stale : Option UnsealedFile) (file later : Progress) (reason : Option ClosureReason)
    (old new : Option UnsealedFile) → ClosesOpen reason file.growing → later ≡ closed_progress reason file
    → StillOpen reason file old new → IsLeft start stale file old → IsLeft start stale later new
close_left start stale file later reason old new opens e stays left = grind (arith, nat_tests, leb_tells, some_opens)

pub append_left : (start : ℕ) (stale : Option UnsealedFile) (s : ℕ) (file later : Progress) (r : FiledRecord)
    (old new : Option UnsealedFile) → later ≡ grown file r → IsGrown s file r old new → IsLeft start stale file old
    → IsLeft start stale later new
append_left start stale s file later r old new e has_grown left =
    search (arith, nat_tests, leb_tells, left.same, few_open)

-- before any call
pub left_now : (file : Progress) (u : Option UnsealedFile) → IsLeft file.closed u file u
left_now file u = search arith

-- ---- all streams

pub all_left_now : {A : Type 0} (tells : Ghosts A) (streams : List Stream) (shelf : A) → length streams ≡ stream_count
    → AreLeft tells (λ s. (slice_index_or streams s no_stream).file.closed) (tells.unsealed shelf) streams shelf
all_left_now tells streams shelf sixteen = search (arith, get_or_default, left_now)

-- one stream is changed, and the others stay
pub left_set : {A : Type 0} (tells : Ghosts A) (start : ℕ → ℕ) (stale : ℕ → Option UnsealedFile)
    (streams : List Stream) (s : ℕ) (later : Stream) (old new : A) → s < stream_count → length streams ≡ stream_count
    → IsLeft (start s) (stale s) later.file (tells.unsealed new s)
    → ((t : ℕ) → t ≢ s → tells.unsealed new t ≡ tells.unsealed old t) → AreLeft tells start stale streams old
    → AreLeft tells start stale (slice_set streams s later) new
left_set tells start stale streams s later old new within sixteen here others left = record {
  each = each_set (λ (t : ℕ) (st : Stream). IsLeft (start t) (stale t) st.file (tells.unsealed new t)) streams s later
      (omega (arith, within, sixteen)) here (λ t d other h. rw (others t other) (left.each t d h));
  beyond = λ t h. others t (λ e. absurd (omega (arith, within, h, e))) ∙ left.beyond t h;
}

-- ---- what items leave open

none_grows : (run : List (Filed (List ℕ))) (growing : Option RunFacts) → growing ≡ growing_of (run_records run)
    → open_count growing ≡ count_open run
none_grows run growing e = grind arith

-- the file of a run that is open on the shelf
file_open : (name : FileName) (run : List (Filed (List ℕ))) (growing : Option RunFacts) (u : Option UnsealedFile)
    → growing ≡ growing_of (run_records run) → ReadyWhere false name growing u
    → BodyWhere false growing (run_octets (run_records run)) u → (growing ≡ None → u ≡ None) → IsOpenFile name run u
file_open name run growing u e ready body none = grind (arith, same_Some)

module _ {A : Type 0} (tells : Ghosts A) (settings : Settings) (closed sealed : ℕ → ℕ) (before after : List Item)
    (first last : List Stream) (old new : A) (told : IsTrue tells.tells_files)
    (at_first : AllAt tells settings closed sealed before first old)
    (at_last : AllAt tells settings closed sealed after last new) (safe : EachSafe tells last new)
    (left : AreLeft tells (λ s. (slice_index_or first s no_stream).file.closed) (tells.unsealed old) last new) where
  abbrev first_at : ℕ → Stream
  first_at s = slice_index_or first s no_stream

  abbrev last_at : ℕ → Stream
  last_at s = slice_index_or last s no_stream

  weight_is : (s : ℕ) → s < stream_count → weight_of (last_at s).file ≡ closed s + begun_of settings s after
  weight_is s h = search (arith, none_grows)

  start_is : (s : ℕ) → s < stream_count → max (first_at s).file.closed (last_at s).file.sealed
      ≡ max (closed s + closed_of settings s before) (sealed s)
  start_is s h = omega (arith, (at_first s no_stream h).has_closed, (at_last s no_stream h).has_sealed)

  is_open : (s : ℕ) → s < stream_count
      → max (closed s + closed_of settings s before) (sealed s) < closed s + begun_of settings s after
      → IsOpenFileOf settings closed after s (tells.unsealed new s)
  is_open s h wrote =
      let at = at_last s no_stream h in
      let file : Progress = (last_at s).file in
      let run : List (Filed (List ℕ)) = (stream_division settings s after).left_open in
      let growing : file.growing ≡ growing_of (run_records run) = at.behind.follows.kept in
      let none : file.growing ≡ None → tells.unsealed new s ≡ None = search (arith, left.each, weight_is, start_is) in
      search (arith, nat_tests, leb_tells, weight_is, few_open, file_open)

  pub leaves_unsealed : LeavesUnsealed settings closed sealed before after (tells.unsealed old) (tells.unsealed new)
  leaves_unsealed = record {
    wrote = is_open;
    stays = λ s h few. (left.each s no_stream h).same (omega (arith, few, weight_is s h, start_is s h));
    beyond = left.beyond;
  }
