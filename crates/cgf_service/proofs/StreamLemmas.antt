-- A stream from its beginning to its end.
use Rattle.std.proofs.Common.{◌≡◌, ℕ, ◌+◌, ◌<◌, ◌≤◌, ◌⊎◌, ⊎_elim, inl, inr, true, Bool, if◌then◌else◌, List, [], ◌∷◌, ◌++◌, length, length-append, take, Option, Some, None, Result, Ok, Err, IfErr, refl, sym, ap, subst, ◌∙◌, append-nil, arith}
use Rattle.cgf_service.proofs.Names.{Appends, AppendsFront, Book, cases_lt, Connection, Consumes, counted, end_by, end_of_result, ends_serving, first_fault, Follows, FrameKind, HasGoneTo, HasServedStream, InputKind, IsAtEnd, IsBegunOn, IsGoingOn, IsSome, IsStreamRead, Keeps, last_count, le-ltb, LeavesUnanswered, most_stream, no_stream, rest_end, rest_of, rest_place, Rose, Status, StopsIn, Stream, stream_end}
use Rattle.std.proofs.Math.Seq.{take-append-add}
use Rattle.area_disk.specs.declared.area.Area as areas
use Rattle.cgf_jobs.specs.declared.input_kind.InputKind.TheVariants as input
use Rattle.cgf_jobs.specs.declared.status.Status.TheVariants as status
use Rattle.cgf_service.proofs.ConnectionLemmas.{not_bad}
use Rattle.cgf_service.proofs.InputLemmas.{appends_two, consumes_more}

module _ {A : Type 0} (tells : areas.Ghosts A) where
  -- nothing came yet
  pub begins : (c : Connection A tells) → Follows [] [] no_stream → IsBegunOn tells c → IsGoingOn tells c.book [] [] c
  begins c nothing begun = record {
    messages = [];
    follows = subst (λ (s : Stream). Follows [] [] s) (sym begun.deframer_is) nothing;
    steady = record {
      none_stands = ap (λ (s : Stream). s.is_whole) begun.deframer_is;
      good = ap (λ (s : Stream). s.bad) begun.deframer_is;
      begun = ap (λ (s : Stream). first_fault s.octets) begun.deframer_is;
      came = begun.came ∙ sym (ap (λ (s : Stream). s.used) begun.deframer_is);
      start = omega (arith, begun.start, begun.came, ap (λ (s : Stream). length s.octets) begun.deframer_is);
      within = omega (arith, begun.came);
    };
    answers = λ told. (
      record { tried = []; octets_are = refl; sent_are = refl; cuts = inl (omega arith) },
      refl,
      begun.last,
    );
    stays = record { size = refl; header = refl; open_time = refl };
    cuts = record { later = omega arith; cuts = inl (omega arith) };
  }

  module _ (opened : Book A tells) (given sent : List ℕ) (c : Connection A tells) (goes : IsGoingOn tells opened given sent c) where
    -- all messages of what came were answered
    abbrev pub all_gone : (s : HasGoneTo tells opened given sent c) × (s.unanswered ≡ [])
    all_gone = (
      record {
        messages = goes.messages;
        unanswered = [];
        frames_are = goes.follows.frames
            ∙ ap (λ (b : Bool). goes.messages ++ (if b then c.deframer.octets ∷ [] else [])) goes.steady.none_stands;
        answers = goes.answers;
        stays = goes.stays;
        cuts = goes.cuts;
      },
      refl,
    )

    -- so many octets came as are read at most
    pub too_long : most_stream ≤ length given → stream_end given ≡ status.Input most_stream input.TooLong
    too_long full =
        ap (λ (k : Option FrameKind). end_by k given) (not_bad tells opened given sent c goes)
        ∙ ap (λ (b : Bool). if b then rest_end (rest_place given) (rest_of given) else status.Input most_stream input.TooLong)
        (le-ltb (length given) most_stream full)

-- a count that didn't rise is the same, below its last value
stood : (f f' : ℕ) → f ≤ f' → ¬ (Rose f f') → (f' ≤ f) × (f' < last_count)
stood f f' later still = ⊎_elim (λ (below : f' < counted 1 f). (omega (arith, below), omega (arith, below)))
    (λ rose. absurd (still rose)) (cases_lt f' (counted 1 f))

-- where the device didn't fail, no commit did
pub no_cut : (cuts f f' : ℕ) → f ≤ f' → ¬ (Rose f f') → (cuts + f ≤ f') ⊎ (last_count ≤ f') → cuts ≡ 0
no_cut cuts f f' later still (inl x) = let s = stood f f' later still in omega (arith, x, s.0)
no_cut cuts f f' later still (inr x) = let s = stood f f' later still in absurd (omega (arith, x, s.1))

-- What the serving of a stream comes to.

consumes_kept : (a b c : Option (List ℕ)) (xs : List ℕ) → Consumes a b xs → Keeps b c → Consumes a c xs
consumes_kept None b c xs h k = tt
consumes_kept (Some us) None c xs h k = absurd h
consumes_kept (Some us) (Some vs) None xs h k = absurd k
consumes_kept (Some us) (Some vs) (Some ws) xs h k = h ∙ ap (λ (l : List ℕ). xs ++ l) (sym k)

-- the end of a source was read, and nothing with it
pub consumed_end : (a b c : Option (List ℕ)) (given piece : List ℕ) (count : ℕ) → count ≡ 0 → Consumes a b given → Consumes b c (take count piece)
    → Consumes a c given
consumed_end a b c given piece count none consumed end =
    rw append-nil at (consumes_more a b c given [] consumed (rw none at end))

front_two : (a b c : Option (List ℕ)) (xs ys : List ℕ) → Appends a b xs → AppendsFront b c ys → AppendsFront a c (xs ++ ys)
front_two a b c xs ys h front = (
  length xs + front.0,
  omega (arith, front.1, length-append xs ys),
  rw take-append-add (appends_two a b c xs (take front.0 ys) h front.2),
)

some_not_none : {X : Type 0} (k : Option X) → IsSome k → k ≡ None → ⊥
some_not_none None is e = absurd (cc)
some_not_none (Some x) is e = cc

-- an end that isn't well, and that cut no reply
module _ {A : Type 0} (tells : areas.Ghosts A) (opened : Book A tells) (text sent : List ℕ) (c : Connection A tells)
    (left rest before now : Option (List ℕ)) (consumed : Consumes left rest text) (bounded : length text ≤ most_stream)
    (written : Appends before now sent) where
  served_so : (ended : Status) → (ended ≡ status.Write → ⊥) → (s : HasGoneTo tells opened text sent c)
      → ends_serving ended ≡ true
      → LeavesUnanswered ended s.unanswered → ((place : ℕ) (kind : InputKind) → ended ≡ status.Input place kind →
      (s : HasGoneTo tells opened text sent c) × (s.unanswered ≡ []) × (stream_end text ≡ ended) × IsStreamRead left
      rest text)
      → HasServedStream tells opened c left rest before now (Err ended)
  served_so ended other gone ends leaves refused = record {
    text = text;
    consumed = consumed;
    bounded = bounded;
    sent = sent;
    ok = λ is. absurd (cc);
    err = (gone, ends, leaves);
    refused = refused;
    front = λ is. absurd (other is);
    cut = λ is. absurd (other is);
    whole = λ no. written;
  }

  served_input : (place : ℕ) (kind : InputKind) → stream_end text ≡ status.Input place kind
      → (s : HasGoneTo tells opened text sent c)
      → s.unanswered ≡ [] → IsStreamRead left rest text
      → HasServedStream tells opened c left rest before now (Err (status.Input place kind))
  served_input place kind says gone none read =
      served_so (status.Input place kind) (λ is. cc is) gone refl none (λ at why is. (gone, none, says, read))

module _ {A : Type 0} (tells : areas.Ghosts A) (opened : Book A tells) (given sent : List ℕ) (c : Connection A tells)
    (left rest before now : Option (List ℕ)) (goes : IsGoingOn tells opened given sent c) (consumed : Consumes left rest given)
    (written : Appends before now sent) where
  length_is : length given ≡ c.came
  length_is = sym goes.follows.used ∙ sym goes.steady.came

  bounded : length given ≤ most_stream
  bounded = omega (arith, length_is, goes.steady.within)

  abbrev gone : (s : HasGoneTo tells opened given sent c) × (s.unanswered ≡ [])
  gone = all_gone tells opened given sent c goes

  -- the source failed
  pub served_read : (rest' : Option (List ℕ)) → Keeps rest rest' → HasServedStream tells opened c left rest' before now (Err status.Read)
  served_read rest' kept = served_so tells opened given sent c left rest' before now
      (consumes_kept left rest rest' given consumed kept)
      bounded written status.Read (λ is. cc is) gone.0 refl refl (λ place kind is. absurd (cc is))

  read_all : IsAtEnd rest → IsStreamRead left rest given
  read_all at_end = record { consumed = consumed; bounded = bounded; whole = λ none. inr at_end }

  -- the stream came to its end
  pub served_end : (result : Result Unit Status) → IsAtEnd rest → stream_end given ≡ end_of_result result
      → IfErr result (λ ended. (place : ℕ) × (ended ≡ status.Input place input.Rest)) → HasServedStream tells opened c left rest before now result
  served_end (Ok done) at_end says why = record {
    text = given;
    consumed = consumed;
    bounded = bounded;
    sent = sent;
    ok = λ is. (goes, says, read_all at_end, written);
    err = tt;
    refused = tt;
    front = tt;
    cut = tt;
    whole = tt;
  }
  served_end (Err ended) at_end says why = rw why.1
      (served_input tells opened given sent c left rest before now consumed bounded
      written why.0 input.Rest (says ∙ why.1) gone.0 refl (read_all at_end))

  -- it has as many octets as are read
  pub served_full : most_stream ≤ c.came → HasServedStream tells opened c left rest before now (Err (status.Input most_stream input.TooLong))
  served_full full = served_input tells opened given sent c left rest before now consumed bounded written most_stream
      input.TooLong
      (too_long tells opened given sent c goes (omega (arith, full, length_is))) gone.0 refl
      (record { consumed = consumed; bounded = bounded; whole = λ none. inl (omega (arith, full, length_is, bounded)) })

-- a piece of it ended the serving
pub served_stop : {A : Type 0} (tells : areas.Ghosts A) (opened : Book A tells) (text sent : List ℕ) (c : Connection A tells)
    (left rest before now after : Option (List ℕ)) (ended : Status) → Consumes left rest text → length text ≤ most_stream
    → Appends before now sent → StopsIn tells opened text sent c now after ended → HasServedStream tells opened c left rest before after (Err ended)
served_stop tells opened text sent c left rest before now after (status.Input place kind) consumed short written stops =
    served_input tells opened text sent c left rest before after consumed short
    (rw stops.3 written) place kind stops.2 stops.0 stops.1
    (record {
      consumed = consumed;
      bounded = short;
      whole = λ none. absurd (some_not_none (first_fault (rest_of text)) stops.4 none);
    })
served_stop tells opened text sent c left rest before now after status.Write consumed short written stops = record {
  text = text;
  consumed = consumed;
  bounded = short;
  sent = sent ++ stops.0;
  ok = λ is. absurd (cc);
  err = (stops.1, refl, tt);
  refused = λ at why is. absurd (cc);
  front = λ is. front_two before now after sent stops.0 written stops.2;
  cut = λ is. record {
    gone = stops.1;
    earlier = sent;
    more = stops.0;
    last = stops.3;
    count = stops.2.0;
    within = stops.2.1;
    written = appends_two before now after sent (take stops.2.0 stops.0) written stops.2.2;
  };
  whole = λ no. absurd (no refl);
}
served_stop tells opened text sent c left rest before now after status.Link consumed short written stops =
    served_so tells opened text sent c left rest before after consumed short (rw stops.2 written) status.Link
    (λ is. cc is)
    stops.0 refl stops.1 (λ at why is. absurd (cc is))
served_stop tells opened text sent c left rest before now after _ consumed short written stops = absurd stops
