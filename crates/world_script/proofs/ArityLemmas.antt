-- Lemmas on the words of a line: records, one a word, and lines with too few or too many words.
use Rattle.std.proofs.Common.{◌≡◌, ℕ, ◌+◌, ◌<◌, List, [], ◌∷◌, ◌++◌, length, drop, get_or, map, Option, Some, None, option_map, option_and_then, refl, sym, arith, append_assoc, ◌≢◌, ◌==◌, false, ◌≤◌, Result, Err, subst}
use Rattle.world_script.proofs.Names.{Arity, arm_on, arm_said, datagram_said, drop-cons, fail_on, fail_said, in_said, limit_on, limit_said, Line, Mode, octets_in, packet_said, records_of, redirect_on, redirect_said, redirect_to, rule_said, ruled, submit_said}
use Rattle.std.specs.Borrow.{Bor}
use Rattle.world_script.specs.Outcome.{Says}
use Rattle.world_script.specs.declared.fault.LineFault.{LineFault}

-- records in front of those of the words that are left
abbrev pub after_records : List (List ℕ) → Option (List (List ℕ)) → Option (List (List ℕ))
after_records front more = option_map (λ records. front ++ records) more

abbrev pub now_of : List (Bor (List ℕ)) → List (List ℕ)
now_of words = map (λ word. word.now) words

words_from : (words : List (Bor (List ℕ))) (i : ℕ) (d : Bor (List ℕ)) → i < length words →
    now_of (drop i words) ≡ (get_or words i d).now ∷ now_of (drop (i + 1) words)
words_from words i d h = search (arith, drop-cons)

one_more : (front : List (List ℕ)) (octets : List ℕ) (more : Option (List (List ℕ))) →
    after_records (front ++ octets ∷ []) more ≡ after_records front (option_and_then (λ records. Some (octets ∷ records)) more)
one_more front octets more = grind (arith, append_assoc)

first_record : (front : List (List ℕ)) (octets word : List ℕ) (words : List (List ℕ)) → Some octets ≡ octets_in word →
    after_records (front ++ octets ∷ []) (records_of words) ≡ after_records front (records_of (word ∷ words))
first_record front octets word words e = cc (one_more front octets (records_of words))

-- the next word is octets
pub records_step : (words : List (Bor (List ℕ))) (i : ℕ) (word : Bor (List ℕ)) (octets : List ℕ) (front new : List (List ℕ)) → i < length words →
    word ≡ get_or words i word → Some octets ≡ octets_in word.now → new ≡ front ++ octets ∷ [] →
    after_records new (records_of (map (λ w. w.now) (drop (i + 1) words))) ≡ after_records front (records_of (map (λ w. w.now) (drop i words)))
records_step words i word octets front new h here e grown = search (arith, words_from, first_record)

no_first : (word : List ℕ) (words : List (List ℕ)) → None ≡ octets_in word → records_of (word ∷ words) ≡ None
no_first word words e = cc

-- it isn't
pub records_none : (words : List (Bor (List ℕ))) (i : ℕ) (word : Bor (List ℕ)) (front : List (List ℕ)) → i < length words → word ≡ get_or words i word →
    None ≡ octets_in word.now → after_records front (records_of (map (λ w. w.now) (drop i words))) ≡ None
records_none words i word front h here e = search (arith, words_from, no_first)

pub limit_other : (words : List (Bor (List ℕ))) → length words ≢ 2 → Err Arity ≡ limit_said (now_of words)
limit_other (a ∷ b ∷ []) h = absurd (h refl)
limit_other _ h = refl

pub limit_two : (words : List (Bor (List ℕ))) (what number : Bor (List ℕ)) → length words ≡ 2 → what ≡ get_or words 0 what → number ≡ get_or words 1 number →
    limit_on what.now number.now ≡ limit_said (now_of words)
limit_two (a ∷ b ∷ []) what number h p q = λ i. limit_on (p i).now (q i).now
limit_two _ what number h p q = absurd (omega arith)

pub arm_other : (arms : ℕ → ℕ → Mode → Line) (words : List (Bor (List ℕ))) → length words ≢ 3 → Err Arity ≡ arm_said arms (now_of words)
arm_other arms (a ∷ b ∷ c ∷ []) h = absurd (h refl)
arm_other arms _ h = refl

pub arm_three : (arms : ℕ → ℕ → Mode → Line) (words : List (Bor (List ℕ))) (gateway call mode : Bor (List ℕ)) → length words ≡ 3 →
    gateway ≡ get_or words 0 gateway → call ≡ get_or words 1 call → mode ≡ get_or words 2 mode →
    arm_on arms gateway.now call.now mode.now ≡ arm_said arms (now_of words)
arm_three arms (a ∷ b ∷ c ∷ []) gateway call mode h p q r = λ i. arm_on arms (p i).now (q i).now (r i).now
arm_three arms _ gateway call mode h p q r = absurd (omega arith)

pub fail_other : (fails : ℕ → ℕ → Line) (words : List (Bor (List ℕ))) → length words ≢ 2 → Err Arity ≡ fail_said fails (now_of words)
fail_other fails (a ∷ b ∷ []) h = absurd (h refl)
fail_other fails _ h = refl

pub fail_two : (fails : ℕ → ℕ → Line) (words : List (Bor (List ℕ))) (gateway call : Bor (List ℕ)) → length words ≡ 2 → gateway ≡ get_or words 0 gateway → call ≡ get_or words 1 call →
    fail_on fails gateway.now call.now ≡ fail_said fails (now_of words)
fail_two fails (a ∷ b ∷ []) gateway call h p q = λ i. fail_on fails (p i).now (q i).now
fail_two fails _ gateway call h p q = absurd (omega arith)

pub redirect_two : (words : List (Bor (List ℕ))) (gateway cause : Bor (List ℕ)) → length words ≡ 2 → gateway ≡ get_or words 0 gateway → cause ≡ get_or words 1 cause →
    redirect_on gateway.now cause.now ≡ redirect_said (now_of words)
redirect_two (a ∷ b ∷ []) gateway cause h p q = λ i. redirect_on (p i).now (q i).now
redirect_two _ gateway cause h p q = absurd (omega arith)

pub redirect_three : (words : List (Bor (List ℕ))) (gateway cause to : Bor (List ℕ)) → length words ≡ 3 →
    gateway ≡ get_or words 0 gateway → cause ≡ get_or words 1 cause → to ≡ get_or words 2 to →
    redirect_to gateway.now cause.now to.now ≡ redirect_said (now_of words)
redirect_three (a ∷ b ∷ c ∷ []) gateway cause to h p q r = λ i. redirect_to (p i).now (q i).now (r i).now
redirect_three _ gateway cause to h p q r = absurd (omega arith)

pub redirect_other : (words : List (Bor (List ℕ))) → length words ≢ 2 → length words ≢ 3 → Err Arity ≡ redirect_said (now_of words)
redirect_other (a ∷ b ∷ []) h k = absurd (h refl)
redirect_other (a ∷ b ∷ c ∷ []) h k = absurd (k refl)
redirect_other _ h k = refl

pub rule_other : (rules : ℕ) (content : List ℕ) (words : List (Bor (List ℕ))) → length words ≢ 3 → rule_said rules content (now_of words) ≡ Err Arity
rule_other rules content (a ∷ b ∷ c ∷ []) h = absurd (h refl)
rule_other rules content _ h = refl

pub rule_three : (rules : ℕ) (content : List ℕ) (words : List (Bor (List ℕ))) (r : Result Line LineFault) → length words ≡ 3 →
    Says (ruled rules content) r → Says (rule_said rules content (now_of words)) r
rule_three rules content (a ∷ b ∷ c ∷ []) r h s = s
rule_three rules content _ r h s = absurd (omega arith)

pub in_more : (words rest : List (Bor (List ℕ))) (from : Bor (List ℕ)) (r : Result Line LineFault) → words ≡ from ∷ rest → false ≡ (length rest == 0) →
    Says (datagram_said from.now (now_of rest)) r → Says (in_said (now_of words)) r
in_more words [] from r e h s = cc
in_more words (a ∷ rest) from r e h s =
    subst (λ (ws : List (Bor (List ℕ))). Says (in_said (now_of ws)) r) (sym e) s

pub submit_few : (words : List (Bor (List ℕ))) → length words < 4 → Err Arity ≡ submit_said (now_of words)
submit_few (a ∷ b ∷ c ∷ d ∷ words) h = absurd (omega arith)
submit_few _ h = refl

pub submit_more : (d : Bor (List ℕ)) (words rest : List (Bor (List ℕ))) (r : Result Line LineFault) → 4 ≤ length words → rest ≡ drop 3 words →
    Says (packet_said (get_or words 0 d).now (get_or words 1 d).now (get_or words 2 d).now (now_of rest)) r → Says (submit_said (now_of words)) r
submit_more d (a ∷ b ∷ c ∷ x ∷ words) rest r h e s =
    subst (λ (ws : List (Bor (List ℕ))). Says (packet_said a.now b.now c.now (now_of ws)) r) e s
submit_more d _ rest r h e s = absurd (omega arith)
