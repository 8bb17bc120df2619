-- What holds goes on with whatever happens: with messages and deeds alone, and with each move of a gateway.
use Rattle.std.proofs.Common.{◌≡◌, ◌⊎◌, inl, inr, ⊎_elim, ℕ, ◌==◌, not, Bool, true, false, List, [], ◌∷◌, ◌++◌, Contains, refl, sym, ap, subst, ◌∙◌, eqb-true, eq-eqb, nat_le, nat_lt, length, length-append, filter, take, drop, take-append-drop, slice_get, Option, Some, None, arith, append_assoc}
use Rattle.once_core.proofs.Names.{act_given, act_noted, Adds, after_adding, after_coming, after_hearing, after_sending, Answers, append-nil, Asks, at, Caller, cause_of, Comes, coming, cond-true, Contains-append_cases, Contains-append_left, Contains-push, Contains-push_cases, Deed, entry_by, eqb-true, firming, Firms, Given, given, happened, happened_all, Happening, Hears, history, HistoryAct, HistoryEntry, is_answer, is_idle, is_request, is_timely, IsAnswerTo, IsBorneOut, IsKnown, keeping, Keeps, leb-true, Letter, ltb-true, Meaning, nil_from_length, NodeId, Note, Notes, nothing_yet, noting, noting_if, opening, Opens, Post, PostHolds, reply, Request, Rests, RestsBy, Scene, scene_after, SceneHolds, Sends, Sent, Settled, start_of, Tells, waiting_for, WaitingLetter, Waits, with_act, with_one, with_post, with_settled}
use Rattle.once_core.specs.Happenings.{Heard, about}
use Rattle.once_core.specs.Resting.{IsSent}
use Rattle.once_core.proofs.ForwardLemmas.{Grows, known_on, rests_on, tells_on}
use Rattle.once_core.proofs.EachLemmas.{each_front, each_more}
use Rattle.once_core.proofs.CaseLemmas.{if_known, by_option}
use Rattle.gw_base.specs.declared.history.HistoryAct.TheVariants as act
use Rattle.once_core.specs.Happenings as happens
use Rattle.once_core.proofs.AnswerLemmas.{answer_is_sound}
use Rattle.once_core.proofs.CountLemmas.{starts_rise}
use Rattle.once_core.proofs.ListLemmas.{filtered, get_contains, in_none, in_one, of_map}

pub at_same : {A : Type 0} (k : ℕ) (x : A) (f : ℕ → A) → at k x f k ≡ x
at_same k x f = cond-true (k == k) x (f k) (eq-eqb k k refl)

-- ---- more messages

answer_on : (letters more : List Letter) → Grows letters more → (h : List HistoryEntry) (letter : Letter) (cause : ℕ)
    → IsAnswerTo letters h letter cause → IsAnswerTo more h letter cause
answer_on letters more grows h letter cause is = record { request = is.request; asked = grows (record letter { says = Asks is.request }) is.asked; tells = is.tells; known = is.known }

pub told_on : (letters more : List Letter) → Grows letters more → (h : List HistoryEntry) (letter : Letter) (says : Meaning) → IsBorneOut letters h letter says → IsBorneOut more h letter says
told_on letters more grows h letter (Answers cause) told = λ telling. answer_on letters more grows h letter cause (told telling)
told_on letters more grows h letter _ told = tt

pub told_later : (letters : List Letter) (gateway : ℕ) (h g : List HistoryEntry) (letter : Letter) (says : Meaning) → Rests letters gateway (h ++ g)
    → IsBorneOut letters h letter says → IsBorneOut letters (h ++ g) letter says
told_later letters gateway h g letter (Answers cause) rests told = λ telling.
    let is = told telling in
    let tells = tells_on letters gateway h g letter is.request cause rests is.tells in
    search (is.asked, tells, known_on h g letter.node letter.start (about is.request letter.number) is.known)
told_later letters gateway h g letter _ rests told = tt

pub waits_on : (letters more : List Letter) → Grows letters more → (gateway : ℕ) (h : List HistoryEntry) (letter : Letter) → Waits letters gateway h letter → Waits more gateway h letter
waits_on letters more grows gateway h letter is =
    record { gateway_is = is.gateway_is; answers = is.answers; told = told_on letters more grows h letter letter.says is.told }

pub post_on : (letters more : List Letter) → Grows letters more → (gateway : ℕ) (post : Post) → PostHolds letters gateway post → PostHolds more gateway post
post_on letters more grows gateway post holds = record {
  rests = rests_on letters more grows gateway (history post) holds.rests;
  waits = λ w kept. waits_on letters more grows gateway (history post) w.letter (holds.waits w kept);
}

-- the firm part too rests on messages
pub firm_rests : (letters : List Letter) (gateway : ℕ) (post : Post) → PostHolds letters gateway post → Rests letters gateway post.firm
firm_rests letters gateway post holds = each_front (λ before e. RestsBy letters gateway before e.act) [] post.firm post.rest holds.rests

-- ---- messages and deeds alone

with_more : (letters : List Letter) (letter : Letter) → Grows letters (letters ++ letter ∷ [])
with_more letters letter l is = Contains-append_left letters (letter ∷ []) l is

-- what is told, where a message comes to the others
told_more : (scene : Scene) (letter : Letter) → SceneHolds scene → IsBorneOut (scene.letters ++ letter ∷ []) (scene.posts letter.gateway).firm letter letter.says
    → (l : Letter) → Contains (scene.letters ++ letter ∷ []) l → IsBorneOut (scene.letters ++ letter ∷ []) (scene.posts l.gateway).firm l l.says
told_more scene letter holds new l is = ⊎_elim
    (λ old. told_on scene.letters (scene.letters ++ letter ∷ []) (with_more scene.letters letter) (scene.posts l.gateway).firm l l.says (holds.told l old))
    (λ e. subst (λ (m : Letter). IsBorneOut (scene.letters ++ letter ∷ []) (scene.posts m.gateway).firm m m.says) e new)
    (Contains-push_cases scene.letters letter l is)

-- a node's list with one deed more has those before
deeds_on : (deeds : ℕ → List Deed) (node : ℕ) (deed : Deed) (other : ℕ) (old : Deed) → Contains (deeds other) old → Contains (at node (deeds node ++ deed ∷ []) deeds other) old
deeds_on deeds node deed other old is = if_known (λ (ds : List Deed). Contains ds old) (other == node)
    (λ e. Contains-append_left (deeds node) (deed ∷ []) old (subst (λ (n : ℕ). Contains (deeds n) old) (eqb-true other node e) is)) (λ apart. is)

-- and no other but that one
deeds_back : (deeds : ℕ → List Deed) (node : ℕ) (deed : Deed) (other : ℕ) (any : Deed) → Contains (at node (deeds node ++ deed ∷ []) deeds other) any
    → Contains (deeds other) any ⊎ ((deed ≡ any) × (node ≡ other))
deeds_back deeds node deed other any = if_known (λ (ds : List Deed). Contains ds any → Contains (deeds other) any ⊎ ((deed ≡ any) × (node ≡ other))) (other == node)
    (λ e is.
    let same = sym (eqb-true other node e) in
    ⊎_elim (λ old. inl (subst (λ (n : ℕ). Contains (deeds n) any) same old)) (λ new. inr (new, same)) (Contains-push_cases (deeds node) deed any is))
    (λ apart is. inl is)

sent_on : (deeds : ℕ → List Deed) (node : ℕ) (deed : Deed) (letter : Letter) (says : Meaning) → IsSent deeds letter says → IsSent (at node (deeds node ++ deed ∷ []) deeds) letter says
sent_on deeds node deed letter (Asks request) is = deeds_on deeds node deed letter.node (Sent letter) is
sent_on deeds node deed letter _ is = tt

pub sending : (scene : Scene) (letter : Letter) (is : Bool) → is_request letter.says ≡ is → SceneHolds scene → SceneHolds (after_sending is letter scene)
sending scene letter false isnt holds = holds
sending scene letter true is holds = record {
  posts = λ gateway. post_on scene.letters (scene.letters ++ letter ∷ []) (with_more scene.letters letter) gateway (scene.posts gateway) (holds.posts gateway);
  told = told_more scene letter holds (asks_only letter.says is);
  sent = λ l kept. ⊎_elim
      (λ old. sent_on scene.deeds letter.node (Sent letter) l l.says (holds.sent l old))
      (λ e. subst (λ (m : Letter). IsSent (at letter.node (scene.deeds letter.node ++ Sent letter ∷ []) scene.deeds) m m.says) e (sent_new letter.says))
      (Contains-push_cases scene.letters letter l kept);
  heard = λ node l kept. ⊎_elim
      (λ old. let there = holds.heard node l old in (there.0, with_more scene.letters letter l there.1))
      (λ new. absurd (apart l new.0))
      (deeds_back scene.deeds letter.node (Sent letter) node (Heard l) kept);
}
  where
    asks_only : (says : Meaning) → is_request says ≡ true → IsBorneOut (scene.letters ++ letter ∷ []) (scene.posts letter.gateway).firm letter says
    asks_only says e = grind arith

    sent_new : (says : Meaning) → IsSent (at letter.node (scene.deeds letter.node ++ Sent letter ∷ []) scene.deeds) letter says
    sent_new (Asks request) =
        subst (λ ds. Contains ds (Sent letter)) (sym (at_same letter.node (scene.deeds letter.node ++ Sent letter ∷ []) scene.deeds)) (Contains-push (scene.deeds letter.node) (Sent letter))
    sent_new _ = tt

    apart : (l : Letter) → Sent letter ≡ Heard l → ⊥
    apart l e = absurd (cc)

pub adding : (scene : Scene) (letter : Letter) (is : Bool) → is_idle letter.says ≡ is → SceneHolds scene → SceneHolds (after_adding is letter scene)
adding scene letter false isnt holds = holds
adding scene letter true is holds = record {
  posts = λ gateway. post_on scene.letters (scene.letters ++ letter ∷ []) (with_more scene.letters letter) gateway (scene.posts gateway) (holds.posts gateway);
  told = told_more scene letter holds (idle letter.says is);
  sent = λ l kept. ⊎_elim (λ old. holds.sent l old) (λ e. subst (λ (m : Letter). IsSent scene.deeds m m.says) e (not_asked letter.says is)) (Contains-push_cases scene.letters letter l kept);
  heard = λ node l kept. let there = holds.heard node l kept in (there.0, with_more scene.letters letter l there.1);
}
  where
    idle : (says : Meaning) → is_idle says ≡ true → IsBorneOut (scene.letters ++ letter ∷ []) (scene.posts letter.gateway).firm letter says
    idle says e = grind arith

    not_asked : (says : Meaning) → is_idle says ≡ true → IsSent scene.deeds letter says
    not_asked says e = grind arith

pub hearing : (scene : Scene) (letter : Letter) (is : Bool) → Contains scene.letters letter → SceneHolds scene → SceneHolds (after_hearing is letter scene)
hearing scene letter false kept holds = holds
hearing scene letter true kept holds = record {
  posts = holds.posts;
  told = holds.told;
  sent = λ l is. sent_on scene.deeds letter.node (Heard letter) l l.says (holds.sent l is);
  heard = λ node l is. ⊎_elim
      (holds.heard node l)
      (λ new. let same : letter ≡ l = the_letter l new.0 in (ap (λ (m : Letter). m.node) (sym same) ∙ new.1, subst (Contains scene.letters) same kept))
      (deeds_back scene.deeds letter.node (Heard letter) node (Heard l) is);
}
  where
    the_letter : (l : Letter) → Heard letter ≡ Heard l → letter ≡ l
    the_letter l e = ap (λ (d : Deed). elim d [ Sent m ↦ letter | Heard m ↦ m ]) e

-- ---- a gateway's move

-- a gateway becomes this one, its firm part with more behind it, and sends answers that mean what they say in it
record Moves (scene : Scene) (gateway : ℕ) (s : Settled) : Type 0 where
  holds : PostHolds (scene.letters ++ s.sends) gateway s.post
  more : List HistoryEntry
  firm : s.post.firm ≡ (scene.posts gateway).firm ++ more
  sent : (l : Letter) → Contains s.sends l → (l.gateway ≡ gateway) × (is_answer l.says ≡ true) × IsBorneOut (scene.letters ++ s.sends) s.post.firm l l.says

not_a_request : (deeds : ℕ → List happens.Deed) (l : Letter) (says : Meaning) → is_answer says ≡ true → IsSent deeds l says
not_a_request deeds l says e = grind arith

noted : (letters : List Letter) (gateway : ℕ) (post : Post) (now : ℕ) (who : Caller) (a : HistoryAct) → PostHolds letters gateway post
    → RestsBy letters gateway (history post) a → PostHolds letters gateway (noting now who a post)
noted letters gateway post now who a holds one =
    let e = entry_by (history post) now who a in
    let longer : history post ++ e ∷ [] ≡ post.firm ++ (post.rest ++ e ∷ []) = append_assoc post.firm post.rest (e ∷ []) in
    let rests : Rests letters gateway (history post ++ e ∷ []) = each_more (λ before d. RestsBy letters gateway before d.act) [] (history post) e holds.rests one in
    record {
      rests = subst (Rests letters gateway) longer rests;
      waits = λ w kept.
          let is = holds.waits w kept in
          subst (λ (h : List HistoryEntry). Waits letters gateway h w.letter) longer (record {
            gateway_is = is.gateway_is;
            answers = is.answers;
            told = told_later letters gateway (history post) (e ∷ []) w.letter w.letter.says rests is.told;
          });
    }

kept_back : (letters : List Letter) (gateway keep : ℕ) (post : Post) → PostHolds letters gateway post → PostHolds letters gateway (keeping keep post)
kept_back letters gateway keep post holds = record {
  rests =
      each_front (λ before e. RestsBy letters gateway before e.act) [] (post.firm ++ take keep post.rest) (drop keep post.rest)
      (subst (Rests letters gateway) (sym (append_assoc post.firm (take keep post.rest) (drop keep post.rest)
      ∙ ap (λ (r : List HistoryEntry). post.firm ++ r) (take-append-drop keep post.rest))) holds.rests);
  waits = λ w kept. in_none w kept;
}

-- the answer to where a message came from speaks of the same number
tells_reply : (h : List HistoryEntry) (letter : Letter) (answer : Given) (request : Request) (cause : ℕ) → Tells h letter request cause → Tells h (reply letter answer) request cause
tells_reply h letter answer request cause told = grind arith

-- what an act that is recorded leaves of a gateway
record AsNoted (letters : List Letter) (gateway now : ℕ) (who : Caller) (recorded : Option HistoryAct) (post : Post) : Type 0 where
  holds : PostHolds letters gateway (noting_if now who recorded post)
  firm : (noting_if now who recorded post).firm ≡ post.firm
  same : with_act (history post) now who recorded ≡ history (noting_if now who recorded post)

as_noted : (letters : List Letter) (gateway now : ℕ) (who : Caller) (recorded : Option HistoryAct) (post : Post) → PostHolds letters gateway post
    → ((a : HistoryAct) → recorded ≡ Some a → RestsBy letters gateway (history post) a) → AsNoted letters gateway now who recorded post
as_noted letters gateway now who None post holds rests = record { holds = holds; firm = refl; same = refl }
as_noted letters gateway now who (Some a) post holds rests = record {
  holds = noted letters gateway post now who a holds (rests a refl);
  firm = refl;
  same = append_assoc post.firm post.rest (entry_by (history post) now who a ∷ []);
}

module _ {scene : Scene} (holds : SceneHolds scene) where
  abbrev with_sends : Settled → List Letter
  with_sends s = scene.letters ++ s.sends

  grows : (s : Settled) → Grows scene.letters (with_sends s)
  grows s l kept = Contains-append_left scene.letters s.sends l kept

  moved : (gateway : ℕ) (s : Settled) → Moves scene gateway s → SceneHolds (with_settled gateway s scene)
  moved gateway s moves = record {
    posts = λ g. if_known (PostHolds (with_sends s) g) (g == gateway)
        (λ e. subst (λ (k : ℕ). PostHolds (with_sends s) k s.post) (sym (eqb-true g gateway e)) moves.holds)
        (λ e. post_on scene.letters (with_sends s) (grows s) g (scene.posts g) (holds.posts g));
    told = λ l kept. ⊎_elim (λ old. old_told l (told_on scene.letters (with_sends s) (grows s) (scene.posts l.gateway).firm l l.says (holds.told l old)))
        (new_told l) (Contains-append_cases scene.letters s.sends l kept);
    sent = λ l kept. ⊎_elim (holds.sent l) (λ new. not_a_request scene.deeds l l.says (moves.sent l new).1) (Contains-append_cases scene.letters s.sends l kept);
    heard = λ node l kept. let there = holds.heard node l kept in (there.0, grows s l there.1);
  }
    where
      old_told : (l : Letter) → IsBorneOut (with_sends s) (scene.posts l.gateway).firm l l.says → IsBorneOut (with_sends s) (at gateway s.post scene.posts l.gateway).firm l l.says
      old_told l told = if_known (λ (p : Post). IsBorneOut (with_sends s) p.firm l l.says) (l.gateway == gateway)
          (λ e.
          let here : IsBorneOut (with_sends s) (scene.posts gateway).firm l l.says = subst (λ (k : ℕ). IsBorneOut (with_sends s) (scene.posts k).firm l l.says) (eqb-true l.gateway gateway e) told in
          let rests = firm_rests (with_sends s) gateway s.post moves.holds in
          subst (λ (h : List HistoryEntry). IsBorneOut (with_sends s) h l l.says) (sym moves.firm)
          (told_later (with_sends s) gateway (scene.posts gateway).firm moves.more l l.says (subst (Rests (with_sends s) gateway) moves.firm rests) here))
          (λ e. told)

      new_told : (l : Letter) → Contains s.sends l → IsBorneOut (with_sends s) (at gateway s.post scene.posts l.gateway).firm l l.says
      new_told l new =
          let is = moves.sent l new in
          subst (λ (p : Post). IsBorneOut (with_sends s) p.firm l l.says) (sym (ap (at gateway s.post scene.posts) is.0 ∙ at_same gateway s.post scene.posts)) is.2

  -- one that sends nothing
  silently : (gateway : ℕ) (post : Post) → PostHolds scene.letters gateway post → post.firm ≡ (scene.posts gateway).firm
      → SceneHolds (with_settled gateway (record { post = post; sends = [] }) scene)
  silently gateway post is firm = moved gateway (record { post = post; sends = [] }) (record {
    holds = post_on scene.letters (scene.letters ++ []) (grows (record { post = post; sends = [] })) gateway post is;
    more = [];
    firm = firm ∙ sym (append-nil (scene.posts gateway).firm);
    sent = λ l new. in_none l new;
  })

  quietly : (gateway : ℕ) (post : Post) → PostHolds scene.letters gateway post → post.firm ≡ (scene.posts gateway).firm → SceneHolds (with_post gateway post scene)
  quietly gateway post is firm =
      subst (λ (ls : List Letter). SceneHolds (record scene { posts = at gateway post scene.posts; letters = ls })) (append-nil scene.letters) (silently gateway post is firm)

  firmed : (gateway : ℕ) → Moves scene gateway (firming (scene.posts gateway))
  firmed gateway =
      let post = scene.posts gateway in
      let size = length (history post) in
      let settled = firming post in
      let whole : history post ≡ history post ++ [] = sym (append-nil (history post)) in
      let before = post_on scene.letters (with_sends settled) (grows settled) gateway post (holds.posts gateway) in
      record {
        holds = record {
          rests = subst (Rests (with_sends settled) gateway) whole before.rests;
          waits = λ w kept. subst (λ (h : List HistoryEntry). Waits (with_sends settled) gateway h w.letter) whole
              (before.waits w (filtered (λ v. not (nat_le v.front size)) post.waiting w kept));
        };
        more = post.rest;
        firm = refl;
        sent = λ l new.
            let there = of_map (λ (w : WaitingLetter). w.letter) (filter (λ v. nat_le v.front size) post.waiting) l new in
            let is = before.waits there.0 (filtered (λ v. nat_le v.front size) post.waiting there.0 there.1) in
            subst (λ (m : Letter). (m.gateway ≡ gateway) × (is_answer m.says ≡ true) × IsBorneOut (with_sends settled) (history post) m m.says) there.2 (is.gateway_is, is.answers, is.told);
      }

  -- an answer waits or is sent
  waited : (l : Letter) (post : Post) → PostHolds scene.letters l.gateway post → post.firm ≡ (scene.posts l.gateway).firm → is_answer l.says ≡ true
      → IsBorneOut scene.letters (history post) l l.says → SceneHolds (with_settled l.gateway (waiting_for l post) scene)
  waited l post is firm answers told =
      if_known (λ (s : Settled). SceneHolds (with_settled l.gateway s scene)) (nat_le (length (history post)) (length post.firm))
      (λ e.
      let short = leb-true (length (history post)) (length post.firm) e in
      let all : history post ≡ post.firm =
      ap (λ (r : List HistoryEntry). post.firm ++ r) (nil_from_length post.rest (omega (arith, short, length-append post.firm post.rest))) ∙ append-nil post.firm in
      let sent : Settled = record { post = post; sends = l ∷ [] } in
      moved l.gateway sent (record {
        holds = post_on scene.letters (with_sends sent) (grows sent) l.gateway post is;
        more = [];
        firm = firm ∙ sym (append-nil (scene.posts l.gateway).firm);
        sent = λ m new. subst (λ (x : Letter). (x.gateway ≡ l.gateway) × (is_answer x.says ≡ true) × IsBorneOut (with_sends sent) post.firm x x.says) (in_one l m new)
            (refl, answers, told_on scene.letters (with_sends sent) (grows sent) post.firm l l.says (subst (λ (h : List HistoryEntry). IsBorneOut scene.letters h l l.says) all told));
      }))
      (λ e.
      let last : WaitingLetter = record { front = length (history post); letter = l } in
      silently l.gateway (record post { waiting = post.waiting ++ last ∷ [] })
      (record {
        rests = is.rests;
        waits = λ w kept. ⊎_elim (is.waits w)
            (λ same. subst (λ (x : WaitingLetter). Waits scene.letters l.gateway (history post) x.letter) same (record { gateway_is = refl; answers = answers; told = told }))
            (Contains-push_cases post.waiting last w kept);
      }) firm)

  -- a request comes
  came : (letter : Letter) (request : Request) (may : HistoryAct → Bool) (now : ℕ) (who : Caller) → Contains scene.letters letter → letter.says ≡ Asks request
      → SceneHolds (with_settled letter.gateway (coming may now who letter request (scene.posts letter.gateway)) scene)
  came letter request may now who kept says =
      let post = scene.posts letter.gateway in
      let before = holds.posts letter.gateway in
      if_known (λ (s : Settled). SceneHolds (with_settled letter.gateway s scene)) (is_timely (history post) letter request)
      (λ timely.
      let answer = given (history post) may letter request in
      let sound = answer_is_sound scene.letters (history post) letter request may (starts_rise scene.letters letter.gateway (history post) before.rests) kept says timely in
      let after = as_noted scene.letters letter.gateway now who (act_given answer) post before sound.rests in
      waited (reply letter answer) (noting_if now who (act_given answer) post) after.holds after.firm refl
      (λ telling. record {
        request = request;
        asked = subst (Contains scene.letters) (λ i. record letter { says = says i }) kept;
        tells = tells_reply (history (noting_if now who (act_given answer) post)) letter answer request (cause_of answer)
            (subst (λ (h : List HistoryEntry). Tells h letter request (cause_of answer)) after.same (sound.tells now who));
        known = subst (λ (h : List HistoryEntry). IsKnown h letter.node letter.start (about request letter.number)) after.same (sound.known telling now who);
      }))
      (λ lost. silently letter.gateway post before refl)

  coming_on : (letter : Letter) (says : Meaning) (may : HistoryAct → Bool) (now : ℕ) (who : Caller) → letter.says ≡ says → Contains scene.letters letter
      → SceneHolds (after_coming may now who letter says scene)
  coming_on letter (Asks request) may now who says kept = came letter request may now who kept says
  coming_on letter _ may now who says kept = holds

  -- an entry more
  notes : (gateway now : ℕ) (who : Caller) (a : HistoryAct) → RestsBy scene.letters gateway (history (scene.posts gateway)) a
      → SceneHolds (with_post gateway (noting now who a (scene.posts gateway)) scene)
  notes gateway now who a rests =
      quietly gateway (noting now who a (scene.posts gateway)) (noted scene.letters gateway (scene.posts gateway) now who a (holds.posts gateway) rests) refl

  opened : (gateway now : ℕ) (who : Caller) (node : NodeId) (port counter : ℕ) (b : Bool) → nat_lt (start_of node.0 (history (scene.posts gateway))) counter ≡ b
      → SceneHolds (with_post gateway (opening now who (act.Path node port counter) b (scene.posts gateway)) scene)
  opened gateway now who node port counter false e = quietly gateway (scene.posts gateway) (holds.posts gateway) refl
  opened gateway now who node port counter true e =
      notes gateway now who (act.Path node port counter) (ltb-true (start_of node.0 (history (scene.posts gateway))) counter e)

  one_on : (k : ℕ) (f : Letter → Scene → Scene) → ((letter : Letter) → Contains scene.letters letter → SceneHolds (f letter scene))
      → SceneHolds (with_one (slice_get scene.letters k) f scene)
  one_on k f goes = by_option (λ (o : Option Letter). SceneHolds (with_one o f scene)) (slice_get scene.letters k)
      (λ none. holds) (λ letter there. goes letter (get_contains scene.letters k letter there))

-- ---- whatever happens

note_rests : (letters : List Letter) (gateway : ℕ) (h : List HistoryEntry) (note : Note) → RestsBy letters gateway h (act_noted note)
note_rests letters gateway h note = grind arith

pub holds_on : (scene : Scene) (next : Happening) → SceneHolds scene → SceneHolds (happened scene next)
holds_on scene (happens.Sends letter) holds = sending scene letter (is_request letter.says) refl holds
holds_on scene (Hears k) holds =
    one_on holds k (λ letter. after_hearing (is_answer letter.says) letter) (λ letter there. hearing scene letter (is_answer letter.says) there holds)
holds_on scene (Comes k may now who) holds =
    one_on holds k (λ letter. after_coming may now who letter letter.says) (λ letter there. coming_on holds letter letter.says may now who refl there)
holds_on scene (Opens gateway node port counter now who) holds =
    opened holds gateway now who node port counter (nat_lt (start_of node.0 (history (scene.posts gateway))) counter) refl
holds_on scene (Notes gateway note now who) holds =
    notes holds gateway now who (act_noted note) (note_rests scene.letters gateway (history (scene.posts gateway)) note)
holds_on scene (Firms gateway) holds = moved holds gateway (firming (scene.posts gateway)) (firmed holds gateway)
holds_on scene (Keeps gateway keep) holds =
    quietly holds gateway (keeping keep (scene.posts gateway)) (kept_back scene.letters gateway keep (scene.posts gateway) (holds.posts gateway)) refl
holds_on scene (Adds letter) holds = adding scene letter (is_idle letter.says) refl holds

pub holds_yet : SceneHolds nothing_yet
holds_yet = record {
  posts = λ gateway. record { rests = tt; waits = λ w kept. in_none w kept };
  told = λ letter kept. in_none letter kept;
  sent = λ letter kept. in_none letter kept;
  heard = λ node letter kept. in_none (happens.Heard letter) kept;
}

all_on : (scene : Scene) (later : List Happening) → SceneHolds scene → SceneHolds (happened_all scene later)
all_on scene [] holds = holds
all_on scene (next ∷ later) holds = all_on (happened scene next) later (holds_on scene next holds)

pub holds_always : (happenings : List Happening) → SceneHolds (scene_after happenings)
holds_always happenings = all_on nothing_yet happenings holds_yet
