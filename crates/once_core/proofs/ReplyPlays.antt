-- An answer that waits or is sent is a happening.
use Rattle.std.proofs.Common.{◌≡◌, ⊎_elim, ℕ, nat_le, not, Bool, true, false, cond, List, [], ◌∷◌, ◌++◌, length, filter, Contains, refl, sym, ap, subst, ◌∙◌, append-nil, arith}
use Rattle.once_core.proofs.Names.{both_ways, Contains-push_cases, filter-append, flat_map-append, Gateway, happened_all, Happening, HistoryEntry, is_reached, letter_of, Message, Post, post_of, replying, Scene, Settled, speaks, Waiting, waiting_for, waiting_if, waiting_letters, with_settled}
use Rattle.once_core.specs.Answers as world
use Rattle.once_core.specs.Happenings as did
use Rattle.once_core.proofs.CommitPlays.{settled_rightly, settled_said}
use Rattle.once_core.proofs.MeaningLemmas.{GatewaySaid}
use Rattle.once_core.proofs.PlayLemmas.{Plays, Rightly, same_at, settled_plays}
use Rattle.once_core.proofs.PartLemmas.{history_is}
use Rattle.once_core.proofs.CaseLemmas.{if_known}
use Rattle.once_core.proofs.ListLemmas.{all_pass, filtered, in_head, in_one, none_pass, of_map, passed}

module _ {g : Gateway} (rightly : Rightly g) (m : Message) (sound : g.book.is_broken ≡ false) (from : m.to_gateway ≡ false) (said : GatewaySaid m) where
  abbrev answer : Waiting
  answer = world.waiting_for g m

  abbrev waits : Waiting → Bool
  waits w = not (is_reached g.book w)

  all_said : (w : Waiting) → Contains (g.waiting ++ answer ∷ []) w → (w.message.to_gateway ≡ false) × GatewaySaid w.message
  all_said w is = ⊎_elim
      (rightly.said w)
      (λ e. subst (λ (v : Waiting). (v.message.to_gateway ≡ false) × GatewaySaid v.message) e (from, said))
      (Contains-push_cases g.waiting answer w is)

  -- what goes out is the answer, where the history is firm
  only_one : (other : Message) → Contains (replying g m).sends other → (m ≡ other) × (is_reached g.book answer ≡ true)
  only_one other is =
      let there = of_map (λ (w : Waiting). w.message) (filter (is_reached g.book) (g.waiting ++ answer ∷ [])) other is in
      let out : filter (is_reached g.book) (g.waiting ++ answer ∷ []) ≡ filter (is_reached g.book) (answer ∷ []) =
      filter-append (is_reached g.book) g.waiting (answer ∷ [])
      ∙ ap (λ (ws : List Waiting). ws ++ filter (is_reached g.book) (answer ∷ [])) (none_pass (is_reached g.book) g.waiting rightly.fronts) in
      let one = in_one answer there.0 (filtered (is_reached g.book) (answer ∷ []) there.0 (subst (λ (ws : List Waiting). Contains ws there.0) out there.1)) in
      (ap (λ (w : Waiting). w.message) one ∙ there.2, ap (is_reached g.book) one ∙ passed (is_reached g.book) (g.waiting ++ answer ∷ []) there.0 there.1)

  -- what waits then means what waited, and what the answer means where it waits
  left : (b : Bool) → is_reached g.book answer ≡ b → waiting_letters (replying g m).gateway.waiting ≡ waiting_letters g.waiting ++ waiting_letters (cond b [] (answer ∷ []))
  left b e =
      let all = all_pass waits g.waiting (λ w is. ap not (rightly.fronts w is)) in
      let parts = flat_map-append (λ (w : Waiting). waiting_if (speaks w.message) w) g.waiting (cond b [] (answer ∷ [])) in
      grind (arith, filter-append waits g.waiting (answer ∷ []), all, parts)

  module _ (gateway : ℕ) (scene : Scene) where
    -- one that means nothing here: nothing happens
    pub quiet_plays : scene.posts gateway ≡ post_of g → speaks m ≡ false → Plays gateway scene (replying g m)
    quiet_plays stands silent = record {
      later = [];
      after = scene;
      is = refl;
      goes = same_at;
      post = grind (arith, stands, left (is_reached g.book answer) refl, silent, append-nil (waiting_letters g.waiting));
      sends = λ other is speaking. absurd (both_ways (speaks other) (ap speaks (sym (only_one other is).0) ∙ silent) speaking);
      said = settled_said (record g { waiting = g.waiting ++ answer ∷ [] }) all_said;
      rightly = settled_rightly (record g { waiting = g.waiting ++ answer ∷ [] }) sound all_said;
    }

    -- an answer to a request
    pub answer_plays : (later : List Happening) → happened_all scene later ≡ with_settled gateway (waiting_for (letter_of m) (post_of g)) scene
        → speaks m ≡ true → Plays gateway scene (replying g m)
    answer_plays later is speaking =
        settled_plays gateway scene (waiting_for (letter_of m) (post_of g)) later (replying g m) is
        (if_known (λ (s : Settled). s.post ≡ post_of (replying g m).gateway) at_once
        (λ e. waiting_is (sym (left true (whole ∙ e) ∙ append-nil (waiting_letters g.waiting))))
        (λ e. waiting_is (ap (λ (ws : List did.WaitingLetter). waiting_letters g.waiting ++ ws) (sym the_last) ∙ sym (left false (whole ∙ e)))))
        (λ other there speaks_too.
        let one = only_one other there in
        subst (λ (o : Message). Contains (waiting_for (letter_of m) (post_of g)).sends (letter_of o)) one.0
        (if_known (λ (s : Settled). Contains s.sends (letter_of m)) at_once (λ e. in_head (letter_of m) [])
        (λ e. absurd (both_ways at_once e (sym whole ∙ one.1)))))
        (settled_said (record g { waiting = g.waiting ++ answer ∷ [] }) all_said)
        (settled_rightly (record g { waiting = g.waiting ++ answer ∷ [] }) sound all_said)
      where
        at_once : Bool
        at_once = nat_le (length (g.book.firm ++ g.book.rest)) (length g.book.firm)

        whole : is_reached g.book answer ≡ nat_le (length (g.book.firm ++ g.book.rest)) (length g.book.firm)
        whole = ap (λ (h : List HistoryEntry). nat_le (length h) (length g.book.firm)) (history_is g.book sound)

        waiting_is : {one other : List did.WaitingLetter} → one ≡ other
            → ◌≡◌ {A = Post} (record { firm = g.book.firm; rest = g.book.rest; waiting = one }) (record { firm = g.book.firm; rest = g.book.rest; waiting = other })
        waiting_is same = ap (λ (ws : List did.WaitingLetter). record { firm = g.book.firm; rest = g.book.rest; waiting = ws }) same

        the_last : waiting_letters (answer ∷ []) ≡ record { front = length (g.book.firm ++ g.book.rest); letter = letter_of m } ∷ []
        the_last = grind (arith, speaking, history_is g.book sound)
