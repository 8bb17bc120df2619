-- Octets stand for one history, or start, or are foreign at one place.
use Rattle.std.proofs.Common.{◌≡◌, inl, inr, ℕ, List, [], ◌∷◌, ◌++◌, length, get_or, take, refl, sym, ◌∙◌, ap, subst, arith, append_assoc, ◌≢◌, drop, rules}
use Rattle.cgf_journal.proofs.Names.{All, All-head, All-take, AllFit, append-nil, AreBatches, AreEntries, AreFit, batch_before, BreaksAt, compare, costs_of, costs_of-append, end_of, entries_in, entries_of, EntriesAreReadBack, EntriesDivide, equal, flat_map-append, front_before, gate_at, HasSpelling, HistoryEntry, IsBroken, IsContent, IsForeignBy, IsForeignTo, IsJudged, IsJudgedEntry, IsJudgedUpTo, IsSpoiledBy, IsUnfitIn, IsUnfitTo, IsWhole, longer, more_entries, no_entries, one_difference, one_entry, part_before, place_of, same_not_differs, same_not_starts, shorter, spelled, spelling, Stands, stands_before, StandsByBatches, StandsFit, StandsFor, Starts, take-append-drop, take_at}
use Rattle.gate_journal.specs.Before.{AreBefore, batch_at}
use Rattle.entry_codec.specs.Fault.{BeginsWith}
use Rattle.cgf_journal.specs.declared.judge.Judge.{Ghosts}

-- the first of some batches of entries are such batches
pub are_batches-first : (size : ℕ) (some more : List (List ℕ)) → AreBatches size (some ++ more) → AreBatches size some
are_batches-first size some more are = record {
  contents = subst (λ (l : List (List ℕ)). All IsContent l) (take_at some more (length some) refl) (All-take IsContent (length some) (some ++ more) are.contents);
  costs = omega (arith, are.costs, ap (λ (h : List HistoryEntry). costs_of h) (flat_map-append entries_of some more), costs_of-append (entries_in some) (entries_in more));
}

module _ (header : List ℕ) (long : length header ≡ 32) (octets : List ℕ) where
  -- batches don't go on behind a closed gate
  goes_behind : (batches : List (List ℕ)) → Stands header octets batches → (far : ℕ) (batch : List ℕ) (more : List (List ℕ)) → AreBefore header octets far (batches ++ batch ∷ more) → ⊥
  goes_behind batches stands far batch more before = stands.shut (batch_before header long octets far batches batch more before).opened

  one_list : (some other : List (List ℕ)) → Stands header octets some → Stands header octets other → some ≡ other
  one_list some other one two = grind (arith, compare, stands_before, equal, longer, goes_behind, shorter)

  stands_front : (batches : List (List ℕ)) → Stands header octets batches → take 32 octets ≡ header
  stands_front batches stands = front_before header long octets (end_of batches) batches (stands_before header long octets batches stands)

  pub one_history : (h g : List HistoryEntry) → StandsByBatches header octets h → StandsByBatches header octets g → h ≡ g
  one_history h g one two = one.history ∙ ap entries_in (one_list one.batches two.batches one.stands two.stands) ∙ sym two.history

  pub stands_or_starts : get_or header 0 0 ≡ 67 → (h : List HistoryEntry) → StandsFor header octets h → Starts header octets → ⊥
  stands_or_starts begins h stands starts = grind (arith, same_not_starts, stands_front)

  pub broken_or_starts : get_or header 0 0 ≡ 67 → (at : ℕ) → IsBroken header octets at → Starts header octets → ⊥
  broken_or_starts begins at broken starts = grind (arith, same_not_starts, front_before)

  -- batches that are these, where the first of these are these too
  module _ (Are : List (List ℕ) → Type 0) (first : (some more : List (List ℕ)) → Are (some ++ more) → Are some) where
    -- they don't go on behind a gate whose batch isn't whole
    goes_past : (at : ℕ) (spoiled : IsSpoiledBy Are header octets at) (far : ℕ) (batch : List ℕ) (more : List (List ℕ)) → AreBefore header octets far (spoiled.batches ++ batch ∷ more)
        → Are (spoiled.batches ++ batch ∷ more) → ⊥
    goes_past at spoiled far batch more before are =
        let next = batch_before header long octets far spoiled.batches batch more before in
        let at_is : at ≡ end_of spoiled.batches = place_of header long octets at spoiled.batches spoiled.before in
        let these = first (spoiled.batches ++ batch ∷ []) more (subst (λ (l : List (List ℕ)). Are l) (sym (append_assoc spoiled.batches (batch ∷ []) more)) are) in
        let content : batch ≡ batch_at octets at = sym (ap (λ n. batch_at octets n) at_is ∙ next.content) in
        spoiled.unwhole (subst (λ n. IsWhole octets n) (sym at_is) next.whole) (subst (λ (b : List ℕ). Are (spoiled.batches ++ b ∷ [])) content these)

    stands_or_spoiled : (batches : List (List ℕ)) (at : ℕ) → Stands header octets batches → Are batches → IsSpoiledBy Are header octets at → ⊥
    stands_or_spoiled batches at stands are spoiled = elim (compare header long octets (end_of batches) at batches spoiled.batches (stands_before header long octets batches stands) spoiled.before) [
      | equal e ↦ stands.shut (ap (λ n. gate_at octets n) (ap end_of e ∙ sym (place_of header long octets at spoiled.batches spoiled.before)) ∙ spoiled.opened)
      | longer b m e ↦ goes_behind batches stands at b m (subst (λ (l : List (List ℕ)). AreBefore header octets at l) e spoiled.before)
      | shorter b m e ↦ goes_past at spoiled (end_of batches) b m
          (subst (λ (l : List (List ℕ)). AreBefore header octets (end_of batches) l) e (stands_before header long octets batches stands)) (subst (λ (l : List (List ℕ)). Are l) e are)
    ]

    one_spoiled : (at far : ℕ) → IsSpoiledBy Are header octets at → IsSpoiledBy Are header octets far → at ≡ far
    one_spoiled at far one two = elim (compare header long octets at far one.batches two.batches one.before two.before) [
      | equal e ↦ place_of header long octets at one.batches one.before ∙ ap end_of e ∙ sym (place_of header long octets far two.batches two.before)
      | longer b m e ↦ absurd (goes_past at one far b m (subst (λ (l : List (List ℕ)). AreBefore header octets far l) e two.before) (subst (λ (l : List (List ℕ)). Are l) e two.are))
      | shorter b m e ↦ absurd (goes_past far two at b m (subst (λ (l : List (List ℕ)). AreBefore header octets at l) e one.before) (subst (λ (l : List (List ℕ)). Are l) e one.are))
    ]

    spoiled_front : (at : ℕ) → IsSpoiledBy Are header octets at → take 32 octets ≡ header
    spoiled_front at spoiled = front_before header long octets at spoiled.batches spoiled.before

    pub stands_or_foreign : (batches : List (List ℕ)) (at : ℕ) → Stands header octets batches → Are batches → IsForeignBy Are header octets at → ⊥
    stands_or_foreign batches at stands are (inl differs) = same_not_differs header long octets (stands_front batches stands) at differs
    stands_or_foreign batches at stands are (inr spoiled) = stands_or_spoiled batches at stands are spoiled

    pub one_place : (at far : ℕ) → IsForeignBy Are header octets at → IsForeignBy Are header octets far → at ≡ far
    one_place at far (inl one) (inl two) = one_difference header long octets at far one two
    one_place at far (inl one) (inr two) = absurd (same_not_differs header long octets (spoiled_front far two) at one)
    one_place at far (inr one) (inl two) = absurd (same_not_differs header long octets (spoiled_front at one) far two)
    one_place at far (inr one) (inr two) = one_spoiled at far one two

    pub foreign_or_starts : get_or header 0 0 ≡ 67 → (at : ℕ) → IsForeignBy Are header octets at → Starts header octets → ⊥
    foreign_or_starts begins at is starts = grind (arith, same_not_starts, spoiled_front)

    -- what an opening finds
    pub spoiled_by : (end : ℕ) (all : List (List ℕ)) (at : ℕ) → AreBefore header octets end all → BreaksAt Are all at → IsSpoiledBy Are header octets at
    spoiled_by end all at before breaks =
        let here = subst (λ (l : List (List ℕ)). AreBefore header octets end l) breaks.listed before in
        let next = batch_before header long octets end breaks.some breaks.batch breaks.more here in
        let content : batch_at octets at ≡ breaks.batch = ap (λ n. batch_at octets n) breaks.place ∙ next.content in
        record {
          batches = breaks.some;
          before = subst (λ n. AreBefore header octets n breaks.some) (sym breaks.place) (part_before header long octets end breaks.some (breaks.batch ∷ breaks.more) here);
          are = breaks.are;
          opened = ap (λ n. gate_at octets n) breaks.place ∙ next.opened;
          unwhole = λ whole are. breaks.unfit (subst (λ (b : List ℕ). Are (breaks.some ++ b ∷ [])) content are);
        }

    pub broken_off : (at : ℕ) (broken : IsBroken header octets at) → Are broken.batches → IsSpoiledBy Are header octets at
    broken_off at broken are = search rules

-- ---- histories whose entries are all fit

module _ (fits : List HistoryEntry → HistoryEntry → Type 0) where
  pub fit-append : (before h g : List HistoryEntry) → AllFit fits before h → AllFit fits (before ++ h) g → AllFit fits before (h ++ g)
  fit-append before [] g one two = subst (λ (l : List HistoryEntry). AllFit fits l g) (append-nil before) two
  fit-append before (e ∷ h) g one two = (one.0, fit-append (before ++ e ∷ []) h g one.1 (subst (λ (l : List HistoryEntry). AllFit fits l g) (sym (append_assoc before (e ∷ []) h)) two))

  pub fit-first : (before h g : List HistoryEntry) → AllFit fits before (h ++ g) → AllFit fits before h
  fit-first before [] g all = tt
  fit-first before (e ∷ h) g all = (all.0, fit-first (before ++ e ∷ []) h g all.1)

  pub fit-rest : (before h g : List HistoryEntry) → AllFit fits before (h ++ g) → AllFit fits (before ++ h) g
  fit-rest before [] g all = subst (λ (l : List HistoryEntry). AllFit fits l g) (sym (append-nil before)) all
  fit-rest before (e ∷ h) g all = subst (λ (l : List HistoryEntry). AllFit fits l g) (append_assoc before (e ∷ []) h) (fit-rest (before ++ e ∷ []) h g all.1)

  -- where each entry is fit
  pub fit_all : ((before : List HistoryEntry) (e : HistoryEntry) → fits before e) → (before h : List HistoryEntry) → AllFit fits before h
  fit_all each before [] = tt
  fit_all each before (e ∷ h) = (each before e, fit_all each (before ++ e ∷ []) h)

foreign_by : (header octets : List ℕ) {Are Same : List (List ℕ) → Type 0} → ((batches : List (List ℕ)) → Are batches → Same batches)
    → ((batches : List (List ℕ)) → Same batches → Are batches) → (at : ℕ) → IsForeignBy Are header octets at → IsForeignBy Same header octets at
foreign_by header octets to from at is = search rules

module _ (fits : ℕ → List HistoryEntry → HistoryEntry → Type 0) where
  -- the first of fit batches are fit
  pub are_fit-first : (size : ℕ) (some more : List (List ℕ)) → AreFit fits size (some ++ more) → AreFit fits size some
  are_fit-first size some more are = record {
    are_batches = are_batches-first size some more are.are_batches;
    fit = fit-first (fits size) [] (entries_in some) (entries_in more) (subst (λ (h : List HistoryEntry). AllFit (fits size) [] h) (flat_map-append entries_of some more) are.fit);
  }

  -- those of a fit history are fit
  pub are_fit : (header octets : List ℕ) (h : List HistoryEntry) → AllFit (fits (length octets)) [] h → (list : StandsByBatches header octets h) → AreFit fits (length octets) list.batches
  are_fit header octets h fit list = record { are_batches = list.are_batches; fit = subst (λ (g : List HistoryEntry). AllFit (fits (length octets)) [] g) list.history fit }

  -- where each entry is fit, nothing more is asked
  module _ (each : (size : ℕ) (before : List HistoryEntry) (e : HistoryEntry) → fits size before e) (header octets : List ℕ) where
    pub always_fit : (h : List HistoryEntry) → StandsFor header octets h → StandsFit fits header octets h
    always_fit h stands = record { stands = stands; fit = fit_all (fits (length octets)) (each (length octets)) [] h }

    all_are : (batches : List (List ℕ)) → AreBatches (length octets) batches → AreFit fits (length octets) batches
    all_are batches are = record { are_batches = are; fit = fit_all (fits (length octets)) (each (length octets)) [] (entries_in batches) }

    pub unfit_foreign : (at : ℕ) → IsUnfitTo fits header octets at → IsForeignTo header octets at
    unfit_foreign = foreign_by header octets (λ batches are. are.are_batches) all_are

    pub foreign_unfit : (at : ℕ) → IsForeignTo header octets at → IsUnfitTo fits header octets at
    foreign_unfit = foreign_by header octets all_are (λ batches are. are.are_batches)

-- ---- a content whose entries are judged one after the other

module _ {J : Type 0} {asks : Ghosts J} {size : ℕ} where
  pub begins_judging : (judge : J) (content : List ℕ) → IsJudgedUpTo asks size judge judge content content
  begins_judging judge content = record {
    front = [];
    entries = [];
    parts = refl;
    are_entries = no_entries;
    judged = record { fit = λ h follows. tt; follows = λ h follows. subst (λ (g : List HistoryEntry). asks.follows judge g) (sym (append-nil h)) follows };
  }

  pub one_judged : {old mid new : J} {content rest : List ℕ} {count : ℕ} → IsJudgedUpTo asks size old mid content rest → IsJudgedEntry asks size mid new rest count → IsJudgedUpTo asks size old new content (drop count rest)
  one_judged {old} {mid} {new} {content} {rest} {count} so_far one =
      let split : rest ≡ spelling one.entry ++ drop count rest = sym (take-append-drop count rest) ∙ ap (λ (o : List ℕ). o ++ drop count rest) one.front in
      record {
        front = so_far.front ++ spelling one.entry;
        entries = so_far.entries ++ one.entry ∷ [];
        parts = so_far.parts ∙ ap (λ (o : List ℕ). so_far.front ++ o) split ∙ sym (append_assoc so_far.front (spelling one.entry) (drop count rest));
        are_entries = more_entries so_far.front (spelling one.entry) so_far.entries (one.entry ∷ []) so_far.are_entries (one_entry one.entry one.has);
        judged = record {
          fit = λ h follows. fit-append (asks.fits size) h so_far.entries (one.entry ∷ []) (so_far.judged.fit h follows) (one.fit (h ++ so_far.entries) (so_far.judged.follows h follows), tt);
          follows = λ h follows.
              subst (λ (g : List HistoryEntry). asks.follows new g) (append_assoc h so_far.entries (one.entry ∷ [])) (one.follows (h ++ so_far.entries) (so_far.judged.follows h follows));
        };
      }

  -- at the end all were judged
  pub all_judged : EntriesAreReadBack → {old new : J} {content rest : List ℕ} → IsJudgedUpTo asks size old new content rest → rest ≡ [] → (h : List HistoryEntry) → IsJudged asks size old h → IsJudged asks size new (h ++ entries_of content)
  all_judged back {old} {new} {content} so_far end h before =
      let whole : content ≡ so_far.front = so_far.parts ∙ ap (λ (o : List ℕ). so_far.front ++ o) end ∙ append-nil so_far.front in
      let are : AreEntries content so_far.entries = subst (λ (o : List ℕ). AreEntries o so_far.entries) (sym whole) so_far.are_entries in
      let those : so_far.entries ≡ entries_of content = sym (back content so_far.entries are) in
      subst (λ (g : List HistoryEntry). IsJudged asks size new (h ++ g)) those
      (record { fit = fit-append (asks.fits size) [] h so_far.entries before.fit (so_far.judged.fit h before.follows); follows = so_far.judged.follows h before.follows })

  -- an entry that isn't fit is one of the content
  pub one_unfit : EntriesDivide → {old mid : J} {content rest : List ℕ} → IsJudgedUpTo asks size old mid content rest → rest ≢ []
      → ((e : HistoryEntry) → BeginsWith rest e → (h : List HistoryEntry) → asks.follows mid h → asks.fits size h e → ⊥)
      → IsContent content → (h : List HistoryEntry) → IsJudged asks size old h → IsUnfitIn (asks.fits size) (h ++ entries_of content)
  one_unfit divide {old} {mid} {content} {rest} so_far some none is h before all =
      let whole : AreEntries (so_far.front ++ rest) (entries_of content) = subst (λ (o : List ℕ). AreEntries o (entries_of content)) so_far.parts is.are_entries in
      let others = divide so_far.front rest so_far.entries (entries_of content) so_far.are_entries whole in
      let behind : AllFit (asks.fits size) (h ++ so_far.entries) others.0 =
      fit-rest (asks.fits size) h so_far.entries others.0 (subst (λ (g : List HistoryEntry). AllFit (asks.fits size) h g) others.1 (fit-rest (asks.fits size) [] h (entries_of content) all)) in
      refuses others.0 others.2 behind
    where
      refuses : (g : List HistoryEntry) → AreEntries rest g → AllFit (asks.fits size) (h ++ so_far.entries) g → ⊥
      refuses [] are fit = some are.spelling
      refuses (e ∷ g) are fit = none e (All-head HasSpelling e g are.each, (spelled g, are.spelling)) (h ++ so_far.entries) (so_far.judged.follows h before.follows) fit.0
