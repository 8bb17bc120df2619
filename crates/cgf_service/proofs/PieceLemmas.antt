-- A piece of a stream is taken in, up to the end of a message or whole.
use Rattle.std.proofs.Common.{◌≡◌, ◌≢◌, ℕ, ◌+◌, ◌-◌, ◌<◌, ◌≤◌, ◌⊎◌, inl, inr, Bool, true, false, if◌then◌else◌, List, [], ◌∷◌, ◌++◌, length, length-append, take, drop, Option, Some, None, Ok, Err, refl, sym, ap, subst, ◌∙◌, append_assoc, append-nil, arith}
use Rattle.std.proofs.Math.Seq.{take-add, take-length}
use Rattle.cgf_service.proofs.Names.{Addr, after_all, after_message, answer_of, Answers, AnswersAll, Appends, area_of, Book, BookValue, Connection, CutsByFaults, earlier_fault, end_by, fault_before, first_fault, Follows, FrameKind, frames, HasAnsweredOne, HasGoneTo, IsGoingOn, IsLastOf, IsSteady, last_count, last_moment, length-take, map_push, most_stream, of_frame, rest_of, rest_place, sent_for, sent_for_all, size_of, Status, Stays, StopsAtMessage, StopsIn, Stream, take-append-drop, Told, Tried, value_of}
use Rattle.std.specs.Option.{option_or}
use Rattle.area_disk.specs.declared.area.Area as areas
use Rattle.gtpp_stream.specs.Kept.{IsPart}
use Rattle.gtpp_stream.specs.Taking.{IsBegun, Takes}
use Rattle.gtpp_stream.specs.declared.frame.FrameEnd.TheVariants as ends
use Rattle.cgf_jobs.specs.declared.status.Status.TheVariants as status
use Rattle.cgf_service.proofs.ConnectionLemmas.{cuts_on, rest_is, stays_on}
use Rattle.cgf_service.proofs.InputLemmas.{appends_none, appends_two}

-- What an answer of the deframer says.

whole_or_more : (b : Bool) → (if b then ends.Whole else ends.More) ≡ ends.More → b ≡ false
whole_or_more true e = absurd (cc)
whole_or_more false e = refl

more_or_whole : (b : Bool) → (if b then ends.Whole else ends.More) ≡ ends.Whole → b ≡ true
more_or_whole true e = refl
more_or_whole false e = absurd (cc)

never_bad : (b : Bool) (at : ℕ) (kind : FrameKind) → (if b then ends.Whole else ends.More) ≡ ends.Bad at kind → ⊥
never_bad true at kind e = cc
never_bad false at kind e = cc

pub more_is : (fault : Option FrameKind) (d : Stream) → answer_of fault d ≡ ends.More → (fault ≡ None) × (d.is_whole ≡ false)
more_is (Some kind) d e = absurd (cc)
more_is None d e = (refl, whole_or_more d.is_whole e)

pub whole_is : (fault : Option FrameKind) (d : Stream) → answer_of fault d ≡ ends.Whole → (fault ≡ None) × (d.is_whole ≡ true)
whole_is (Some kind) d e = absurd (cc)
whole_is None d e = (refl, more_or_whole d.is_whole e)

pub bad_is : (fault : Option FrameKind) (d : Stream) (at : ℕ) (kind : FrameKind) → answer_of fault d ≡ ends.Bad at kind
    → (fault ≡ Some kind) × (d.used - length d.octets ≡ at)
bad_is (Some other) d at kind e = (cc, cc)
bad_is None d at kind e = absurd (never_bad d.is_whole at kind e)

-- Messages that are answered one after the other.

module _ (size : ℕ) (from : Addr) where
  all_snoc : (v : BookValue) (tried : List Tried) (t : Tried)
      → after_all size from v (tried ++ t ∷ []) ≡ after_message size from (after_all size from v tried) t
  all_snoc v [] t = refl
  all_snoc v (m ∷ tried) t = all_snoc (after_message size from v m) tried t

  sent_snoc : (v : BookValue) (tried : List Tried) (t : Tried)
      → sent_for_all size from v (tried ++ t ∷ []) ≡ sent_for_all size from v tried ++ sent_for size from (after_all size from v tried) t
  sent_snoc v [] t = append-nil (sent_for size from v t)
  sent_snoc v (m ∷ tried) t =
      ap (λ (l : List ℕ). sent_for size from v m ++ l) (sent_snoc (after_message size from v m) tried t)
      ∙ sym (append_assoc (sent_for size from v m) (sent_for_all size from (after_message size from v m) tried)
      (sent_for size from (after_all size from (after_message size from v m) tried) t))

last_snoc : (tried : List Tried) (t : Tried) → last_moment (tried ++ t ∷ []) ≡ Some t.now
last_snoc [] t = refl
last_snoc (m ∷ tried) t = ap (λ (o : Option ℕ). option_or o (Some m.now)) (last_snoc tried t)

module _ {A : Type 0} (tells : areas.Ghosts A) where
  abbrev pub AllAnswered : Addr → Book A tells → List (List ℕ) → List ℕ → Book A tells → Option ℕ → Type 0
  AllAnswered from opened messages sent book last =
      (a : AnswersAll tells from opened messages sent (tells.faults (area_of book)))
      × (value_of book ≡ after_all (size_of opened) from (value_of opened) a.tried) × (last ≡ last_moment a.tried)

  later_answers : (from : Addr) (opened : Book A tells) (messages : List (List ℕ)) (sent : List ℕ) (f g : ℕ) → f ≤ g
      → AnswersAll tells from opened messages sent f → AnswersAll tells from opened messages sent g
  later_answers from opened messages sent f g le a = record {
    tried = a.tried;
    octets_are = a.octets_are;
    sent_are = a.sent_are;
    cuts = by a.cuts;
  }
    where
      by : ((after_all (size_of opened) from (value_of opened) a.tried).cuts + tells.faults (area_of opened) ≤ opened.cuts + f) ⊎ (last_count ≤ f)
          → ((after_all (size_of opened) from (value_of opened) a.tried).cuts + tells.faults (area_of opened) ≤ opened.cuts + g) ⊎ (last_count ≤ g)
      by (inl x) = inl (omega (arith, x, le))
      by (inr x) = inr (omega (arith, x, le))

  -- the same from an address that is equal
  abbrev answers_from : (a b : Addr) → a ≡ b → (opened : Book A tells) (messages : List (List ℕ)) (sent : List ℕ)
      (book : Book A tells) (last : Option ℕ)
      → AllAnswered a opened messages sent book last → AllAnswered b opened messages sent book last
  answers_from a b is opened messages sent book last all = (
    record {
      tried = all.0.tried;
      octets_are = all.0.octets_are;
      sent_are = subst (λ (x : Addr). sent ≡ sent_for_all (size_of opened) x (value_of opened) all.0.tried) is
          all.0.sent_are;
      cuts = subst (λ (x : Addr). ((after_all (size_of opened) x (value_of opened) all.0.tried).cuts + tells.faults
          (area_of opened)
          ≤ opened.cuts + tells.faults (area_of book)) ⊎ (last_count ≤ tells.faults (area_of book))) is all.0.cuts;
    },
    subst (λ (x : Addr). value_of book ≡ after_all (size_of opened) x (value_of opened) all.0.tried) is all.1,
    all.2,
  )

  answers_more : (from : Addr) (opened mid new : Book A tells) (messages : List (List ℕ)) (message sent more : List ℕ)
      (before last : Option ℕ)
      → size_of mid ≡ size_of opened → CutsByFaults tells opened new → AllAnswered from opened messages sent mid before
      → Answers tells from message mid new last more
      → AllAnswered from opened (messages ++ message ∷ []) (sent ++ more) new last
  answers_more from opened mid new messages message sent more before last sized cuts all one = (
    record {
      tried = all.0.tried ++ one.tried ∷ [];
      octets_are = map_push (λ m. m.octets) all.0.tried one.tried ∙ (λ i. all.0.octets_are i ++ one.octets_are i ∷ []);
      sent_are = (λ i. all.0.sent_are i ++ one.sent_is i)
          ∙ (λ i. sent_for_all (size_of opened) from (value_of opened) all.0.tried ++ sent_for (sized i) from (all.1 i) one.tried)
          ∙ sym (sent_snoc (size_of opened) from (value_of opened) all.0.tried one.tried);
      cuts = subst (λ (v : BookValue). (v.cuts + tells.faults (area_of opened) ≤ opened.cuts + tells.faults (area_of new))
          ⊎ (last_count ≤ tells.faults (area_of new))) value cuts.cuts;
    },
    value,
    one.last_is ∙ sym (last_snoc all.0.tried one.tried),
  )
    where
      value : value_of new ≡ after_all (size_of opened) from (value_of opened) (all.0.tried ++ one.tried ∷ [])
      value = one.value ∙ (λ i. after_message (sized i) from (all.1 i) one.tried)
          ∙ sym (all_snoc (size_of opened) from (value_of opened) all.0.tried one.tried)

  -- the laws of streams that are used
  abbrev pub FramesCut : Type 0
  FramesCut = (part more : List ℕ) → frames (part ++ more) ≡ frames part ++ frames (rest_of part ++ more)

  abbrev pub RestCut : Type 0
  RestCut = (part more : List ℕ) → rest_of (part ++ more) ≡ rest_of (rest_of part ++ more)

  abbrev pub BadEnds : Type 0
  BadEnds = (octets : List ℕ) (kind : FrameKind) → first_fault octets ≡ Some kind → (frames octets ≡ []) × (rest_of octets ≡ octets)

  -- the connection once a piece was pushed
  abbrev pub pushed : Connection A tells → Stream → ℕ → Connection A tells
  pushed o d used = record o { deframer = d; came = o.came + used }

  -- By the numbers of a connection alone.
  module _ (o : Connection A tells) (steady : IsSteady tells o) (piece : List ℕ) (used : ℕ) (d : Stream)
      (took : Takes piece used o.deframer.octets d.octets) (same : d.bad ≡ o.deframer.bad)
      (counts : d.used ≡ o.deframer.used + used) (stands : IsPart d.is_whole d.octets)
      (within : o.came + length piece ≤ most_stream) where
    length_is : length d.octets ≡ length o.deframer.octets + used
    length_is = omega (
      arith,
      took.inside,
      ap (λ (l : List ℕ). length l) took.octets,
      length-append o.deframer.octets (take used piece),
      length-take used piece,
    )

    module _ (is_more : d.is_whole ≡ false) where
      is_begun : IsBegun d.octets
      is_begun = rw is_more at stands

      pub all_used : used ≡ length piece
      all_used = took.more is_begun.none

      pub steady_more : IsSteady tells (pushed o d used)
      steady_more = record {
        none_stands = is_more;
        good = same ∙ steady.good;
        begun = is_begun.good;
        came = omega (arith, steady.came, counts);
        start = omega (arith, steady.start, length_is);
        within = omega (arith, within, took.inside);
      }

    module _ (is_whole : d.is_whole ≡ true) where
      pub some_used : 0 < used
      some_used = took.advances (length d.octets) (rw is_whole at stands)

      pub steady_whole : (n : Connection A tells) (sent : List ℕ) → HasAnsweredOne tells (pushed o d used) n sent → IsSteady tells n
      steady_whole n sent one = record {
        none_stands = ap (λ (s : Stream). s.is_whole) one.deframer_is;
        good = ap (λ (s : Stream). s.bad) one.deframer_is ∙ same ∙ steady.good;
        begun = ap (λ (s : Stream). first_fault s.octets) one.deframer_is;
        came = omega (arith, one.came_is, steady.came, counts, ap (λ (s : Stream). s.used) one.deframer_is);
        start = omega (arith, one.start_is, one.came_is, ap (λ (s : Stream). length s.octets) one.deframer_is);
        within = omega (arith, one.came_is, within, took.inside);
      }

  module _ (opened : Book A tells) (given sent : List ℕ) (o : Connection A tells) (goes : IsGoingOn tells opened given sent o)
      (piece : List ℕ) (used : ℕ) (d : Stream)
      (follows : (given : List ℕ) (messages : List (List ℕ)) → Follows given messages o.deframer → Follows (given ++ take used piece) messages d)
      (within : o.came + length piece ≤ most_stream) (frames_cut : FramesCut) (rest_cut : RestCut) (bad_ends : BadEnds) where
    abbrev messages : List (List ℕ)
    messages = goes.messages

    frames_before : frames given ≡ messages
    frames_before = goes.follows.frames ∙ ap (λ (b : Bool). messages ++ (if b then o.deframer.octets ∷ [] else [])) goes.steady.none_stands
        ∙ append-nil messages

    module _ (took : Takes piece used o.deframer.octets d.octets) (same : d.bad ≡ o.deframer.bad)
        (counts : d.used ≡ o.deframer.used + used) (stands : IsPart d.is_whole d.octets) where
      module _ (is_more : d.is_whole ≡ false) where
        pub goes_more : IsGoingOn tells opened (given ++ take used piece) sent (pushed o d used)
        goes_more = record {
          messages = messages;
          follows = follows given messages goes.follows;
          steady = steady_more o goes.steady piece used d took same counts stands within is_more;
          answers = goes.answers;
          stays = goes.stays;
          cuts = goes.cuts;
        }

      module _ (is_whole : d.is_whole ≡ true) (n : Connection A tells) (stays : Stays o.book n.book)
          (cuts : CutsByFaults tells o.book n.book) (node : n.node ≡ o.node) where
        followed : Follows (given ++ take used piece) messages d
        followed = follows given messages goes.follows

        frames_with : frames (given ++ take used piece) ≡ messages ++ d.octets ∷ []
        frames_with = followed.frames ∙ ap (λ (b : Bool). messages ++ (if b then d.octets ∷ [] else [])) is_whole

        abbrev sized : size_of o.book ≡ size_of opened
        sized = goes.stays.size

        all_cuts : CutsByFaults tells opened n.book
        all_cuts = cuts_on opened o.book n.book goes.cuts cuts

        all_stays : Stays opened n.book
        all_stays = stays_on opened o.book n.book goes.stays stays

        abbrev with_one : (more : List ℕ) → (Told tells → Answers tells o.node d.octets o.book n.book n.last more)
            → Told tells → AllAnswered n.node opened (messages ++ d.octets ∷ []) (sent ++ more) n.book n.last
        with_one more one told = answers_from o.node n.node (sym node) opened (messages ++ d.octets ∷ [])
            (sent ++ more) n.book n.last
            (answers_more o.node opened o.book n.book messages d.octets sent more o.last n.last sized all_cuts
            (goes.answers told) (one told))

        pub goes_whole : (more : List ℕ) → HasAnsweredOne tells (pushed o d used) n more
            → IsGoingOn tells opened (given ++ take used piece) (sent ++ more) n
        goes_whole more one = record {
          messages = messages ++ d.octets ∷ [];
          follows = rw one.deframer_is (record {
            used = followed.used;
            frames = frames_with ∙ sym (append-nil (messages ++ d.octets ∷ []));
            rest = followed.rest ∙ ap (λ (b : Bool). if b then [] else d.octets) is_whole;
          });
          steady = steady_whole o goes.steady piece used d took same counts stands within is_whole n more one;
          answers = with_one more one.answers;
          stays = all_stays;
          cuts = all_cuts;
        }

        -- the message isn't answered
        answers_before : value_of n.book ≡ value_of o.book → n.last ≡ o.last → Told tells
            → AllAnswered n.node opened messages sent n.book n.last
        unfolding later_answers
        answers_before same kept told = subst (λ (a : Addr). AllAnswered a opened messages sent n.book n.last)
            (sym node) (
              later_answers o.node opened messages sent (tells.faults (area_of o.book)) (tells.faults (area_of n.book)) cuts.later (goes.answers told).0,
              same ∙ (goes.answers told).1,
              kept ∙ (goes.answers told).2,
            )

        -- the whole messages that came behind it in the piece
        abbrev behind : List (List ℕ)
        behind = frames (rest_of (given ++ take used piece) ++ drop used piece)

        frames_on : frames (given ++ piece) ≡ (messages ++ d.octets ∷ []) ++ behind
        frames_on = ap (λ (l : List ℕ). frames l) (ap (λ (l : List ℕ). given ++ l) (sym (take-append-drop used piece))
            ∙ sym (append_assoc given (take used piece) (drop used piece)))
            ∙ frames_cut (given ++ take used piece) (drop used piece)
            ∙ ap (λ (l : List (List ℕ)). l ++ behind) frames_with

        gone_before : value_of n.book ≡ value_of o.book → n.last ≡ o.last
            → (s : HasGoneTo tells opened (given ++ piece) sent n) × (s.unanswered ≢ [])
        gone_before same kept = (
          record {
            messages = messages;
            unanswered = d.octets ∷ behind;
            frames_are = frames_on ∙ append_assoc messages (d.octets ∷ []) behind;
            answers = answers_before same kept;
            stays = all_stays;
            cuts = all_cuts;
          },
          λ none. cc none,
        )

        -- it was, and its reply is cut
        abbrev gone_with : (more : List ℕ) → (Told tells → Answers tells o.node d.octets o.book n.book n.last more)
            → HasGoneTo tells opened (given ++ piece) (sent ++ more) n
        gone_with more one = record {
          messages = messages ++ d.octets ∷ [];
          unanswered = behind;
          frames_are = frames_on;
          answers = with_one more one;
          stays = all_stays;
          cuts = all_cuts;
        }

        last_one : (more : List ℕ) (one : Told tells → Answers tells o.node d.octets o.book n.book n.last more)
            (told : Told tells)
            → IsLastOf tells n.node opened ((gone_with more one).answers told).0.tried sent more
        unfolding answers_more
        last_one more one told = record {
          first = (goes.answers told).0.tried;
          last = (one told).tried;
          tried_are = refl;
          sent_are = (goes.answers told).0.sent_are ∙ (λ i. sent_for_all (size_of opened) (sym node i)
              (value_of opened) (goes.answers told).0.tried);
          more_is = (one told).sent_is ∙ (λ i. sent_for (sized i) o.node ((goes.answers told).1 i) (one told).tried)
              ∙ (λ i. sent_for (size_of opened) (sym node i)
              (after_all (size_of opened) (sym node i) (value_of opened) (goes.answers told).0.tried) (one told).tried);
        }

        pub stops_whole : (before after : Option (List ℕ)) (ended : Status) → StopsAtMessage tells (pushed o d used) n before after ended
            → StopsIn tells opened (given ++ piece) sent n before after ended
        stops_whole before after status.Link same =
            let gone = gone_before (ap (λ (b : Book A tells). value_of b) same.1) same.2 in (gone.0, gone.1, same.0)
        stops_whole before after status.Write stops = (
          stops.0,
          gone_with stops.0 stops.1,
          stops.2,
          last_one stops.0 stops.1,
        )
        stops_whole before after _ stops = absurd stops

    -- The next message begins with an octet that can't begin one.
    module _ (at : ℕ) (kind : FrameKind) (bad : fault_before o.deframer piece ≡ Some kind)
        (place : d.used - length d.octets ≡ at) (kept : d ≡ record o.deframer { bad = Some kind }) where
      fault_is : first_fault (rest_of given ++ piece) ≡ Some kind
      fault_is = ap (λ (l : List ℕ). first_fault (l ++ piece)) (rest_is given messages o.deframer goes.follows goes.steady.none_stands)
          ∙ sym (ap (λ (k : Option FrameKind). earlier_fault k (first_fault (o.deframer.octets ++ piece))) goes.steady.good) ∙ bad

      rest_now : rest_of (given ++ piece) ≡ rest_of given ++ piece
      rest_now = rest_cut given piece ∙ (bad_ends (rest_of given ++ piece) kind fault_is).1

      place_is : rest_place (given ++ piece) ≡ at
      place_is = omega (
        arith,
        place,
        ap (λ (s : Stream). s.used) kept,
        ap (λ (s : Stream). length s.octets) kept,
        goes.follows.used,
        length-append given piece,
        length-append (rest_of given) piece,
        ap (λ (l : List ℕ). length l) rest_now,
        ap (λ (l : List ℕ). length l) (rest_is given messages o.deframer goes.follows goes.steady.none_stands),
      )

      pub stops_bad : (now : Option (List ℕ)) → StopsIn tells opened (given ++ piece) sent (pushed o d used) now now (status.Input at (of_frame kind))
      stops_bad now = (
        record {
          messages = messages;
          unanswered = [];
          frames_are = frames_cut given piece
              ∙ (λ i. frames_before i ++ (bad_ends (rest_of given ++ piece) kind fault_is).0 i);
          answers = goes.answers;
          stays = goes.stays;
          cuts = goes.cuts;
        },
        refl,
        ap (λ (k : Option FrameKind). end_by k (given ++ piece)) (ap (λ (l : List ℕ). first_fault l) rest_now ∙ fault_is)
            ∙ ap (λ (n : ℕ). status.Input n (of_frame kind)) place_is,
        refl,
        rw (rest_now, fault_is) refl,
      )

-- Several pieces, one after the other.

pub ok_not_err : {X : Type 0} (x : X) (ended : Status) → Ok x ≡ Err ended → ⊥
ok_not_err x ended e = cc

-- what was given before a place, and what comes behind it
pub joined : (given octets rest : List ℕ) (at : ℕ) → rest ≡ drop at octets → (given ++ take at octets) ++ rest ≡ given ++ octets
joined given octets rest at is = rw (is, append_assoc, take-append-drop)

module _ {A : Type 0} (tells : areas.Ghosts A) where
  pub begins_going : (octets : List ℕ) (c : Connection A tells) (now : Option (List ℕ)) (opened : Book A tells) (given sent : List ℕ)
      → IsGoingOn tells opened given sent c
      → (more : List ℕ) × IsGoingOn tells opened (given ++ take 0 octets) (sent ++ more) c × Appends now now more
  begins_going octets c now opened given sent goes = (
    [],
    rw (append-nil given, append-nil sent) goes,
    appends_none now [],
  )

  pub goes_on : (opened : Book A tells) (given sent octets rest : List ℕ) (at used : ℕ) (c : Connection A tells)
      (before now after : Option (List ℕ)) → rest ≡ drop at octets → (first : List ℕ) → Appends before now first
      → (more : List ℕ) × IsGoingOn tells opened ((given ++ take at octets) ++ take used rest) ((sent ++ first) ++ more) c × Appends now after more
      → (more : List ℕ) × IsGoingOn tells opened (given ++ take (at + used) octets) (sent ++ more) c × Appends before after more
  goes_on opened given sent octets rest at used c before now after is first written next = (
    first ++ next.0,
    rw (given_is, append_assoc sent first next.0) at next.1,
    appends_two before now after first next.0 written next.2,
  )
    where
      given_is : (given ++ take at octets) ++ take used rest ≡ given ++ take (at + used) octets
      given_is = rw (is, take-add at used octets) (append_assoc given (take at octets) (take used (drop at octets)))

  pub goes_all : (opened : Book A tells) (given sent octets : List ℕ) (at : ℕ) (c : Connection A tells)
      (before now : Option (List ℕ)) → at ≤ length octets → length octets ≤ at
      → (more : List ℕ) × IsGoingOn tells opened (given ++ take at octets) (sent ++ more) c × Appends before now more
      → (more : List ℕ) × IsGoingOn tells opened (given ++ octets) (sent ++ more) c × Appends before now more
  goes_all opened given sent octets at c before now within full one =
      let whole : at ≡ length octets = omega (arith, within, full) in (
        one.0,
        rw (whole, take-length) at one.1,
        one.2,
      )
