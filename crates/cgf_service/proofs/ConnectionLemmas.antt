-- The messages of a stream, one after the other.
use Rattle.std.proofs.Common.{◌≡◌, ℕ, ◌+◌, ◌<◌, ◌≤◌, ◌⊎◌, ⊎_elim, inl, inr, Bool, true, false, if◌then◌else◌, List, [], ◌∷◌, length, Option, None, Some, refl, sym, ap, ◌∙◌, arith}
use Rattle.cgf_service.proofs.Names.{Addr, after_commit, after_message, Answers, area_of, Book, BookValue, cases_lt, Connection, counted, CutsByFaults, Decided, decided, decided_by_fault, end_by, failure_answer, failure_reply, first_fault, Follows, fortune_of, FrameKind, given_at, HasCause, is_closed, IsGoingOn, IsLeft, last_count, lt-ltb, most_stream, no_caller, octets_said, outcome_at, prepared_of, readied, reply_in, reply_of, rest_end, rest_of, rest_place, Says, Silent, size_of, Stays, Stream, stream_end, taken, Tried, value_of}
use Rattle.area_disk.specs.declared.area.Area as areas
use Rattle.gateway_book.specs.declared.outcome.Outcome.{Outcome}
use Rattle.gateway_book.specs.declared.outcome.Outcome.TheVariants as outcome
use Rattle.cgf_jobs.specs.declared.input_kind.InputKind.TheVariants as input
use Rattle.cgf_jobs.specs.declared.status.Status.TheVariants as status

-- What a caller is told, as octets.

abbrev pub octets_told : Outcome → List ℕ
octets_told (outcome.Answer receipt) = receipt.reply
octets_told (outcome.Drop why) = []

told_says : (after : BookValue) (d : Decided) → octets_told (outcome_at after d) ≡ octets_said d
told_says after (Silent why) = refl
told_says after (Says octets act) = refl

failure_says : (d : Decided) → reply_of (reply_in d) ≡ octets_said d
failure_says (Silent why) = refl
failure_says (Says octets act) = refl

-- Faults and cuts.

cut_call : (f f' c c' : ℕ) → counted 1 f ≤ f' → c' ≡ counted 1 c → (c' + f ≤ c + f') ⊎ (last_count ≤ f')
cut_call f f' c c' rose cut =
    ⊎_elim (λ below. inl (omega (arith, below, rose, cut))) (λ full. inr (omega (arith, full, rose))) (cases_lt f last_count)

module _ {A : Type 0} {tells : areas.Ghosts A} where
  pub cuts_by_call : (old new : Book A tells) → HasCause old new → CutsByFaults tells old new
  cuts_by_call old new cause = record { later = cause.later; cuts = by (is_closed new.trail) refl }
    where
      by : (b : Bool) → is_closed new.trail ≡ b
          → (new.cuts + tells.faults (area_of old) ≤ old.cuts + tells.faults (area_of new)) ⊎ (last_count ≤ tells.faults (area_of new))
      by true closed = cut_call (tells.faults (area_of old)) (tells.faults (area_of new)) old.cuts new.cuts (cause.broken closed) (cause.cut closed)
      by false runs = inl (omega (arith, cause.uncut runs, cause.later))

  pub cuts_on : (a b c : Book A tells) → CutsByFaults tells a b → CutsByFaults tells b c → CutsByFaults tells a c
  cuts_on a b c first next = record { later = omega (arith, first.later, next.later); cuts = by first.cuts next.cuts }
    where
      by : (b.cuts + tells.faults (area_of a) ≤ a.cuts + tells.faults (area_of b)) ⊎ (last_count ≤ tells.faults (area_of b))
          → (c.cuts + tells.faults (area_of b) ≤ b.cuts + tells.faults (area_of c)) ⊎ (last_count ≤ tells.faults (area_of c))
          → (c.cuts + tells.faults (area_of a) ≤ a.cuts + tells.faults (area_of c)) ⊎ (last_count ≤ tells.faults (area_of c))
      by (inl x) (inl y) = inl (omega (arith, x, y))
      by (inl x) (inr y) = inr y
      by (inr x) y = inr (omega (arith, x, next.later))

  pub stays_on : (a b c : Book A tells) → Stays a b → Stays b c → Stays a c
  stays_on a b c first next = record {
    size = next.size ∙ first.size;
    header = next.header ∙ first.header;
    open_time = next.open_time ∙ first.open_time;
  }

  -- One message.

  module _ (old mid new : Book A tells) (from : Addr) (message : List ℕ) (now : ℕ) (told : Outcome)
      (took : IsLeft old mid (taken (fortune_of old mid) from (prepared_of message) (size_of old) now no_caller (value_of old)) told)
      (committed : value_of new ≡ after_commit (fortune_of mid new) (value_of mid)) where
    abbrev tried : Tried
    tried = record { octets = message; now = now; taking = fortune_of old mid; committing = fortune_of mid new }

    abbrev said : Decided
    said = decided (given_at (readied (fortune_of old mid) (value_of old)) from (prepared_of message) (size_of old))

    left : value_of new ≡ after_message (size_of old) from (value_of old) tried
    left = committed ∙ ap (λ (v : BookValue). after_commit (fortune_of mid new) v) took.value

    broken_is : is_closed new.trail ≡ (after_message (size_of old) from (value_of old) tried).is_broken
    broken_is = ap (λ (v : BookValue). v.is_broken) left

    pub answers_firm : (reply : Option (List ℕ)) → is_closed new.trail ≡ false → reply_of reply ≡ octets_told told
        → Answers tells from message old new (Some now) (reply_of reply)
    answers_firm reply runs same = record {
      tried = tried;
      octets_are = refl;
      last_is = refl;
      value = left;
      sent_is = same ∙ ap octets_told took.answer ∙ told_says (taken (fortune_of old mid) from (prepared_of message) (size_of old) now no_caller (value_of old)).value said
          ∙ ap (λ (b : Bool). octets_said (if b then decided_by_fault message else said)) (sym (sym broken_is ∙ runs));
    }

    pub answers_fault : (reply : Option (List ℕ)) → is_closed new.trail ≡ true → reply ≡ failure_reply (prepared_of message)
        → Answers tells from message old new (Some now) (reply_of reply)
    answers_fault reply closed same = record {
      tried = tried;
      octets_are = refl;
      last_is = refl;
      value = left;
      sent_is = ap reply_of same ∙ failure_says (decided (failure_answer (prepared_of message)))
          ∙ ap (λ (b : Bool). octets_said (if b then decided_by_fault message else said)) (sym (sym broken_is ∙ closed));
    }

-- The end of a stream.

rest_ended : (place : ℕ) (rest : List ℕ) → 0 < length rest → rest_end place rest ≡ status.Input place input.Rest
rest_ended place [] some = absurd (omega (arith, some))
rest_ended place (x ∷ rest) some = refl

-- the rest is what has come of the message after the last whole one
pub rest_is : (given : List ℕ) (messages : List (List ℕ)) (d : Stream) → Follows given messages d → d.is_whole ≡ false
    → rest_of given ≡ d.octets
rest_is given messages d follows none = follows.rest ∙ ap (λ (b : Bool). if b then [] else d.octets) none

module _ {A : Type 0} (tells : areas.Ghosts A) (opened : Book A tells) (given sent : List ℕ) (c : Connection A tells)
    (goes : IsGoingOn tells opened given sent c) where
  abbrev rest : rest_of given ≡ c.deframer.octets
  rest = rest_is given goes.messages c.deframer goes.follows goes.steady.none_stands

  pub not_bad : first_fault (rest_of given) ≡ None
  not_bad = ap (λ (l : List ℕ). first_fault l) rest ∙ goes.steady.begun

  pub came_is : c.came ≡ length given
  came_is = goes.steady.came ∙ goes.follows.used

  place_is : rest_place given ≡ c.start
  place_is = omega (arith, came_is, goes.steady.start, ap (λ (l : List ℕ). length l) rest)

  pub ends_within : c.start < c.came → length given < most_stream → stream_end given ≡ status.Input c.start input.Rest
  ends_within some below =
      ap (λ (k : Option FrameKind). end_by k given) not_bad
      ∙ ap (λ (b : Bool). if b then rest_end (rest_place given) (rest_of given) else status.Input most_stream input.TooLong) (lt-ltb (length given) most_stream below)
      ∙ rest_ended (rest_place given) (rest_of given) (omega (arith, some, goes.steady.start, ap (λ (l : List ℕ). length l) rest))
      ∙ ap (λ (n : ℕ). status.Input n input.Rest) place_is
