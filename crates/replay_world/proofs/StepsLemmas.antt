-- Messages that are sent, and steps that are made, one after the other.
use Rattle.std.proofs.Common.{◌≡◌, ◌∙◌, refl, sym, ap, ℕ, suc, ◌+◌, ◌≤◌, ◌<◌, ◌==◌, false, List, [], ◌∷◌, ◌++◌, All, length, map, arith, append_assoc, append-nil, length-append, subst, Bool, true, not, if◌then◌else◌}
use Rattle.replay_world.proofs.Names.{after_step, after_steps, All-append, Does, DoesAll, DoesOrEnds, ends_line, enumerate_from, goes_on, HasSent, length-take, list_any, Makes, map-append, Message, Notice, notice_line, notice_lines, notices_of, numbered_from, Replay, ReplayValue, sent_notices, Stands, Step, step_notices, World, world_after}
use Rattle.indexmap.specs.IndexSet.{insert_key}
use Rattle.replay_world.specs.Notices.{Sent}
use Rattle.replay_world.proofs.StandsLemmas.{all_within, numbers_within, world_holds}
use Rattle.replay_world.proofs.GatewayEventLemmas.{lines_join}

-- Messages that are sent one after the other.

numbered_append : (first : ℕ) (a b : List Message) →
    enumerate_from first (a ++ b) ≡ enumerate_from first a ++ enumerate_from (first + length a) b
numbered_append first [] b =
    let same : first ≡ first + 0 = omega arith in cc
numbered_append first (m ∷ a) b =
    let same : first + 1 + length a ≡ first + length (m ∷ a) = omega arith in
    cc (numbered_append (first + 1) a b)

abbrev numbers : List (ℕ × Message) → List ℕ
numbers sent = map (λ (s : ℕ × Message). s.0) sent

abbrev lines : List (ℕ × Message) → List ℕ
lines sent = notice_lines (sent_notices sent)

lines_append : (a b : List (ℕ × Message)) → lines (a ++ b) ≡ lines a ++ lines b
lines_append a b =
    ap notice_lines (map-append (λ (s : ℕ × Message). Sent s.0 s.1) a b) ∙ lines_join (sent_notices a) (sent_notices b)

module _ (a b : List Message) (t0 t1 t2 : List ℕ) (r0 r1 r2 : Replay) (first : HasSent a t0 t1 r0 r1)
    (later : HasSent b t1 t2 r1 r2) where
  abbrev before : ℕ
  before = length r0.messages.items

  count_later : length r1.messages.items ≡ before + length a
  count_later = cc (first.messages, length-append r0.messages.items a)

  both : numbered_from before (a ++ b) ≡ numbered_from before a ++ numbered_from (length r1.messages.items) b
  both =
      let same : suc before + length a ≡ suc (length r1.messages.items) = omega (arith, count_later) in
      cc (numbered_append (suc before) a b)

  waits_both : All (λ number. number ≤ before) r0.waiting.keys →
      r2.waiting.keys ≡ r0.waiting.keys ++ numbers (numbered_from before (a ++ b))
  waits_both within =
      let most = length r1.messages.items in
      let middle = first.waits within in
      let all : All (λ number. number ≤ most) r1.waiting.keys =
      rw middle
      (All-append (λ number. number ≤ most) r0.waiting.keys (numbers (numbered_from before a))
      (all_within _ before most (omega (arith, count_later)) within)
      (numbers_within _ a most (omega (arith, count_later)))) in
      later.waits all ∙ ap (λ ks. ks ++ numbers (numbered_from most b)) middle
      ∙ append_assoc r0.waiting.keys (numbers (numbered_from before a)) (numbers (numbered_from most b))
      ∙ ap (λ ks. r0.waiting.keys ++ ks)
      (sym (map-append (λ (s : ℕ × Message). s.0) (numbered_from before a) (numbered_from most b)))
      ∙ ap (λ sent. r0.waiting.keys ++ numbers sent) (sym both)

  pub sent_both : HasSent (a ++ b) t0 t2 r0 r2
  sent_both = record {
    rest = cc (later.rest, first.rest);
    messages = cc (later.messages, first.messages, append_assoc r0.messages.items a b);
    waits = waits_both;
    prints = later.prints ∙ ap (λ text. text ++ lines (numbered_from (length r1.messages.items) b)) first.prints
        ∙ append_assoc t0 (lines (numbered_from before a)) (lines (numbered_from (length r1.messages.items) b))
        ∙ ap (λ text. t0 ++ text)
        (sym (lines_append (numbered_from before a) (numbered_from (length r1.messages.items) b)))
        ∙ ap (λ sent. t0 ++ lines sent) (sym both);
  }

-- no messages are sent
pub sent_none : (text : List ℕ) (r : Replay) → HasSent [] text text r r
sent_none text r = record {
  rest = refl;
  messages = sym (append-nil r.messages.items);
  waits = λ within. sym (append-nil r.waiting.keys);
  prints = sym (append-nil text);
}

-- a number beyond all that wait joins them
not_equal : (k n : ℕ) → n < k → (k == n) ≡ false
not_equal k n less = grind arith

not_among : (ks : List ℕ) {number : _} (before : ℕ) → number ≡ before + 1 → All (λ n. n ≤ before) ks →
    list_any (λ n. number == n) ks ≡ false
not_among [] before is all = refl
not_among (n ∷ ks) {number} before is all =
    let here : n ≤ before = all 0 0 (omega arith) in
    cc (not_equal number n (omega arith), not_among ks before is (λ k d h. all (suc k) d (omega arith)))

pub joins : (ks : List ℕ) {number : _} (before : ℕ) → number ≡ before + 1 → All (λ n. n ≤ before) ks →
    insert_key (λ a b. a == b) ks number ≡ ks ++ number ∷ []
joins ks before is all = cc (not_among ks _ is all)

-- one message is sent
pub sent_one : (message : Message) (before : List ℕ) {after : _} (old new : Replay) {number : _} →
    number ≡ length old.messages.items + 1 → new ≡ record old { messages = new.messages; waiting = new.waiting } →
    new.messages.items ≡ old.messages.items ++ message ∷ [] →
    (All (λ n. n ≤ length old.messages.items) old.waiting.keys → new.waiting.keys ≡ old.waiting.keys ++ number ∷ []) →
    after ≡ before ++ notice_line (Sent number message) → HasSent (message ∷ []) before after old new
sent_one message before old new {number} is rest messages waits prints =
    let same : number ≡ suc (length old.messages.items) = omega arith in
    record {
      rest = rest;
      messages = messages;
      waits = λ within. cc (waits within);
      prints = cc (append-nil (notice_line (Sent (suc (length old.messages.items)) message)));
    }

-- Steps that are made one after the other.

-- Where the line goes on after the first steps, the others follow.

on_by : (b on : Bool) → (if b then false else on) ≡ true → on ≡ true
on_by true on is = absurd (cc)
on_by false on is = is

after_by : (b on : Bool) (u w x : ReplayValue) → (if b then false else on) ≡ true → (on ≡ true → w ≡ x) →
    (if b then u else w) ≡ x
after_by true on u w x is same = absurd (cc)
after_by false on u w x is same = same is

pub after_append : (v : ReplayValue) (first later : List Step) → goes_on v first ≡ true →
    after_steps v (first ++ later) ≡ after_steps (after_steps v first) later
after_append v [] later is = refl
after_append v (step ∷ first) later is =
    let u : ReplayValue = after_step v step in
    let on = on_by (ends_line v step) (goes_on u first) is in
    after_by (ends_line v step) (goes_on u first) u (after_steps u (first ++ later))
    (after_steps (after_steps u first) later) is (λ goes. after_append u first later goes)
    ∙ ap (λ (w : ReplayValue). after_steps w later)
    (sym (after_by (ends_line v step) (goes_on u first) u (after_steps u first) (after_steps u first) is (λ goes. refl)))

notices_by : (b on : Bool) (told xs ys zs : List Notice) → (if b then false else on) ≡ true → (on ≡ true → xs ≡ ys ++ zs) →
    told ++ (if b then [] else xs) ≡ (told ++ (if b then [] else ys)) ++ zs
notices_by true on told xs ys zs is same = absurd (cc)
notices_by false on told xs ys zs is same = ap (λ ns. told ++ ns) (same is) ∙ sym (append_assoc told ys zs)

pub notices_append : (v : ReplayValue) (first later : List Step) → goes_on v first ≡ true →
    notices_of v (first ++ later) ≡ notices_of v first ++ notices_of (after_steps v first) later
notices_append v [] later is = refl
notices_append v (step ∷ first) later is =
    let u = after_step v step in
    notices_by _ _ (step_notices v step) (notices_of u (first ++ later)) (notices_of u first)
    (notices_of (after_steps u first) later) is (λ goes. notices_append u first later goes)
    ∙ ap (λ w. notices_of v (step ∷ first) ++ notices_of w later)
    (sym (after_by _ _ u (after_steps u first) (after_steps u first) is (λ goes. refl)))

goes_by : (b on x y : Bool) → (if b then false else on) ≡ true → (on ≡ true → x ≡ y) → (if b then false else x) ≡ y
goes_by true on x y is same = absurd (cc)
goes_by false on x y is same = same is

pub goes_append : (v : ReplayValue) (first later : List Step) → goes_on v first ≡ true →
    goes_on v (first ++ later) ≡ goes_on (after_steps v first) later
goes_append v [] later is = refl
goes_append v (step ∷ first) later is =
    let u = after_step v step in
    goes_by _ _ (goes_on u (first ++ later)) (goes_on (after_steps u first) later) is
    (λ goes. goes_append u first later goes)
    ∙ ap (λ w. goes_on w later) (sym (after_by _ _ u (after_steps u first) (after_steps u first) is (λ goes. refl)))

-- Where it ends with them, they are all.

after_ended : (b on : Bool) (u w x : ReplayValue) → (if b then false else on) ≡ false → (on ≡ false → w ≡ x) →
    (if b then u else w) ≡ (if b then u else x)
after_ended true on u w x is same = refl
after_ended false on u w x is same = same is

pub after_stopped : (v : ReplayValue) (first later : List Step) → goes_on v first ≡ false →
    after_steps v (first ++ later) ≡ after_steps v first
after_stopped v [] later is = cc
after_stopped v (step ∷ first) later is =
    let u = after_step v step in
    after_ended _ _ u _ _ is (λ ends. after_stopped u first later ends)

ended_by : (b on x : Bool) → (if b then false else on) ≡ false → (on ≡ false → x ≡ false) → (if b then false else x) ≡ false
ended_by true on x is same = refl
ended_by false on x is same = same is

notices_ended : (b on : Bool) (told xs ys : List Notice) → (if b then false else on) ≡ false → (on ≡ false → xs ≡ ys) →
    told ++ (if b then [] else xs) ≡ told ++ (if b then [] else ys)
notices_ended true on told xs ys is same = refl
notices_ended false on told xs ys is same = ap (λ ns. told ++ ns) (same is)

pub notices_stopped : (v : ReplayValue) (first later : List Step) → goes_on v first ≡ false →
    notices_of v (first ++ later) ≡ notices_of v first
notices_stopped v [] later is = cc
notices_stopped v (step ∷ first) later is =
    let u = after_step v step in
    notices_ended _ _ _ _ _ is (λ ends. notices_stopped u first later ends)

-- What a replay does.

pub does_none : {v : _} (text : List ℕ) {r : _} → Stands v r → DoesAll v [] text text r true
does_none text stands = record { makes = record { stands = stands; prints = sym (append-nil text) }; goes = refl }

pub ends_either : (b : Bool) (u : ReplayValue) → (if b then u else u) ≡ u
ends_either true u = refl
ends_either false u = refl

tells_either : (b : Bool) (told : List Notice) → told ++ (if b then [] else []) ≡ told
tells_either true told = append-nil told
tells_either false told = append-nil told

goes_either : (b : Bool) → not b ≡ (if b then false else true)
goes_either true = refl
goes_either false = refl

pub does_one : {v step before after r on : _} →
    DoesOrEnds v step before after r on → DoesAll v (step ∷ []) before after r on
does_one {v} {step} done = record {
  makes = record {
    stands = rw (ends_either (ends_line v step) (after_step v step)) done.does.stands;
    prints = cc (done.does.prints, tells_either (ends_line v step) (step_notices v step));
  };
  goes = done.goes ∙ goes_either (ends_line v step);
}

pub makes_one : {v step before after r : _} → Does v step before after r → Makes v (step ∷ []) before after r
makes_one {v} {step} done = record {
  stands = rw (ends_either (ends_line v step) (after_step v step)) done.stands;
  prints = cc (done.prints, tells_either (ends_line v step) (step_notices v step));
}

module _ (v : ReplayValue) (first later : List Step) (before middle : List ℕ) (r : Replay) where
  pub does_then : (after : List ℕ) {s : _} (on : Bool) → DoesAll v first before middle r true →
      DoesAll (after_steps v first) later middle after s on → DoesAll v (first ++ later) before after s on
  does_then after on did does =
      let goes = sym did.goes in
      record {
        makes = record {
          stands = rw (after_append v _ later goes) does.makes.stands;
          prints = does.makes.prints
              ∙ ap (λ text. text ++ notice_lines (notices_of (after_steps v first) later)) did.makes.prints
              ∙ append_assoc before (notice_lines (notices_of v first))
              (notice_lines (notices_of (after_steps v first) later))
              ∙ ap (λ text. before ++ text)
              (sym (lines_join (notices_of v first) (notices_of (after_steps v first) later)))
              ∙ ap (λ ns. before ++ notice_lines ns) (sym (notices_append v first later goes));
        };
        goes = does.goes ∙ sym (goes_append v first later goes);
      }

  -- the same, where nobody asks whether the line goes on
  pub makes_then : {after s : _} → DoesAll v first before middle r true →
      Makes (after_steps v first) later middle after s → Makes v (first ++ later) before after s
  makes_then {after} {s} did makes =
      let done = does_then after {s = s} (goes_on (after_steps v first) later) did
      (record { makes = makes; goes = refl }) in
      done.makes

  pub made_ended : DoesAll v first before middle r false → Makes v (first ++ later) before middle r
  made_ended did =
      let ends = sym did.goes in
      record {
        stands = rw (after_stopped v _ later ends) did.makes.stands;
        prints = cc (did.makes.prints, notices_stopped v _ later ends);
      }

-- the same, where nobody asks what the others are
pub goes_stopped : (v : ReplayValue) (first later : List Step) → goes_on v first ≡ false →
    goes_on v (first ++ later) ≡ false
goes_stopped v [] later is = cc
goes_stopped v (step ∷ first) later is =
    let u = after_step v step in
    ended_by _ _ _ is (λ ends. goes_stopped u first later ends)

pub does_ended : (v : ReplayValue) {first : _} (later : List Step) {before after r : _} →
    DoesAll v first before after r false → DoesAll v (first ++ later) before after r false
does_ended v {first} later {r} did = record {
  makes = made_ended v _ _ _ _ r did;
  goes = sym (goes_stopped v first later (sym did.goes));
}

-- Some steps of a list were made, and the others are left.
pub record SoFar (v : ReplayValue) (all left : List Step) (before after : List ℕ) (r : Replay) : Type 0 where
  pub front : List Step
  pub whole : front ++ left ≡ all
  pub does : DoesAll v front before after r true

module _ (v : ReplayValue) (all : List Step) (before : List ℕ) where
  pub so_far_none : {r : _} → Stands v r → SoFar v all all before before r
  so_far_none stands = record { front = []; whole = refl; does = does_none _ stands }

  module _ (steps left : List Step) (middle after : List ℕ) (r s : Replay) (so : SoFar v all (steps ++ left) before middle r)
    where
      whole_then : (so.front ++ steps) ++ left ≡ all
      whole_then = append_assoc so.front steps left ∙ so.whole

      pub so_far_more : DoesAll (after_steps v so.front) steps middle after s true → SoFar v all left before after s
      so_far_more does = record {
        front = so.front ++ steps;
        whole = whole_then;
        does = does_then v so.front steps before middle r after {s = s} true so.does does;
      }

      pub so_far_ends : DoesAll (after_steps v so.front) steps middle after s false → Makes v all before after s
      so_far_ends does =
          subst (λ (ss : List Step). Makes v ss before after s) whole_then
          (made_ended v (so.front ++ steps) left before after s
          (does_then v so.front steps before middle r after {s = s} false so.does does))

  pub so_far_all : {after r : _} → SoFar v all [] before after r → Makes v all before after r
  so_far_all so = rw (sym (append-nil so.front) ∙ so.whole) at so.does.makes

pub so_far_does : (v : ReplayValue) {all before after r : _} →
    SoFar v all [] before after r → DoesAll v all before after r true
so_far_does v so = rw (sym (append-nil so.front) ∙ so.whole) at so.does

-- Messages stay.

abbrev count : World → ℕ
count w = length w.messages

step_more : (v : ReplayValue) (step : Step) → count v.world ≤ count (world_after v step)
step_more v step =
    world_holds v (λ w. count v.world ≤ count w) (omega arith)
    (λ k moved. omega (arith, length-append v.world.messages moved.sends))
    (λ k call. omega (arith, length-append v.world.messages call.sends)) (λ now. omega arith)
    (λ w more. omega (arith, length-take (count v.world) w.messages)) step

more_by : (b : Bool) (n : ℕ) (u w : ReplayValue) → n ≤ count u.world → n ≤ count w.world →
    n ≤ count (if b then u else w).world
more_by true n u w first later = first
more_by false n u w first later = later

pub steps_more : (v : ReplayValue) (steps : List Step) → length v.world.messages ≤ length (after_steps v steps).world.messages
steps_more v [] = omega arith
steps_more v (step ∷ later) =
    let u = after_step v step in
    let first = step_more v step in
    more_by (ends_line v step) (count v.world) u (after_steps u later) first (omega (arith, (steps_more u later)))
