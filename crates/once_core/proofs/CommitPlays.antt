-- The parts of a gateway's moves, which are commits, openings again, stops, openings and marks, are happenings.
pub use Rattle.once_core.proofs.PartLemmas.{noted, whole_book}
use Rattle.std.proofs.Common.{◌≡◌, ℕ, ◌-◌, nat_le, not, Bool, true, false, List, [], ◌∷◌, ◌++◌, length, map, filter, Contains, refl, sym, ap, subst, ◌∙◌, arith, if◌then◌else◌, take_all}
use Rattle.once_core.proofs.Names.{act_noted, BookValue, both_ways, cut, entry_by, failing, firming, Firms, Gateway, giving_up, happened, Happening, history_of, HistoryAct, HistoryEntry, is_idle, is_reached, is_response, keeping, Keeps, letter_of, meaning_of, Message, Moved, no_caller, not-true, Notes, noting, Post, Scene, settling, speaks, still, Waiting, waiting_if, waiting_letters, with_post, World}
use Rattle.once_core.specs.Happenings as did
use Rattle.once_core.proofs.ListLemmas.{filtered, in_flat, in_head, in_map, of_map, passed, each_mapped}
use Rattle.once_core.proofs.MeaningLemmas.{GatewaySaid, ReadsBack, Said, failing_means, failing_said, said_by_gateway}
use Rattle.once_core.proofs.PlayLemmas.{Plays, Rightly, Stands, still_plays, followed_plays, idle_plays, none_waits, post_plays, settled_plays, stands_after}
use Rattle.once_core.proofs.PartLemmas.{PartsKeep, cut_book, torn_book, standing, history_is, crash_to_all, crash_to_firm}
use Rattle.once_core.proofs.CaseLemmas.{by_bool}

-- ---- answers that wait, by what they mean

module _ (q : ℕ → Bool) where
  abbrev passes : did.WaitingLetter → Bool
  passes v = q v.front

  -- the answers among those that pass are the answers that pass
  letters_passing : (ws : List Waiting) → waiting_letters (filter (λ w. q w.front) ws) ≡ filter passes (waiting_letters ws)
  letters_passing [] = refl
  letters_passing (w ∷ ws) = grind (arith, letters_passing ws)

-- an answer among the messages that wait is among the letters
sent_letters : (ws : List Waiting) (m : Message) → Contains (map (λ w. w.message) ws) m → speaks m ≡ true
    → Contains (map (λ (v : did.WaitingLetter). v.letter) (waiting_letters ws)) (letter_of m)
sent_letters ws m is speaking =
    let there = of_map (λ (w : Waiting). w.message) ws m is in
    let letter : did.WaitingLetter = record { front = there.0.front; letter = letter_of there.0.message } in
    subst (λ (n : Message). Contains (map (λ (v : did.WaitingLetter). v.letter) (waiting_letters ws)) (letter_of n)) there.2
    (in_map (λ (v : did.WaitingLetter). v.letter) (waiting_letters ws) letter
    (in_flat (λ (w : Waiting). waiting_if (speaks w.message) w) ws there.0 letter there.1
    (subst (λ (b : Bool). Contains (waiting_if b there.0) letter) (sym (ap speaks there.2 ∙ speaking)) (in_head letter []))))

pub not_reached : (book : BookValue) (ws : List Waiting) (w : Waiting) → Contains (filter (λ v. not (is_reached book v)) ws) w → is_reached book w ≡ false
not_reached book ws w is = not-true (is_reached book w) (passed (λ v. not (is_reached book v)) ws w is)

-- a gateway that isn't broken settles rightly
pub settled_rightly : (g : Gateway) → g.book.is_broken ≡ false → ((w : Waiting) → Contains g.waiting w → (w.message.to_gateway ≡ false) × GatewaySaid w.message)
    → Rightly (settling g).gateway
settled_rightly g sound said = record {
  fronts = λ w is. not_reached g.book g.waiting w is;
  said = λ w is. said w (filtered (λ v. not (is_reached g.book v)) g.waiting w is);
  broken = λ e. absurd (both_ways g.book.is_broken sound e);
}

pub noted_rightly : (now : ℕ) (a : HistoryAct) {g : Gateway} → Rightly g → Rightly (noted now a g)
noted_rightly now a is = record { fronts = is.fronts; said = is.said; broken = is.broken }

-- what settling sends was said
pub settled_said : (g : Gateway) → ((w : Waiting) → Contains g.waiting w → (w.message.to_gateway ≡ false) × GatewaySaid w.message)
    → (m : Message) → Contains (settling g).sends m → Said m
settled_said g said = each_mapped Said (λ (w : Waiting). w.message) (filter (is_reached g.book) g.waiting) (λ w is.
    let was = said w (filtered (is_reached g.book) g.waiting w is) in said_by_gateway w.message was.0 was.1)

-- whether the gateway is down, and how often it redirected, is nothing there
relabelled_plays : {gateway : ℕ} {scene : Scene} {moved : Moved} (is_down : Bool) (redirects : ℕ) → Plays gateway scene moved
    → Plays gateway scene (record { gateway = record moved.gateway { is_down = is_down; redirects = redirects }; sends = moved.sends })
relabelled_plays is_down redirects plays = record {
  later = plays.later;
  after = plays.after;
  is = plays.is;
  goes = plays.goes;
  post = plays.post;
  sends = plays.sends;
  said = plays.said;
  rightly = record { fronts = plays.rightly.fronts; said = plays.rightly.said; broken = plays.rightly.broken };
}

module _ {gateway : ℕ} {scene : Scene} {g : Gateway} (stands : Stands gateway scene g) where
  -- all becomes firm
  pub firm_plays : (cuts : ℕ) → Plays gateway scene (settling (record g { book = whole_book g.book cuts false }))
  firm_plays cuts =
      let whole : Gateway = record g { book = whole_book g.book cuts false } in
      let all : List HistoryEntry = g.book.firm ++ g.book.rest in
      settled_plays gateway scene (firming (scene.posts gateway)) (Firms gateway ∷ []) (settling whole) refl
      (ap (λ (p : Post). (firming p).post) stands.post ∙ ap (λ (ws : List did.WaitingLetter). record { firm = all; rest = []; waiting = ws })
      (sym (letters_passing (λ n. not (nat_le n (length all))) g.waiting)))
      (λ m is speaking.
      subst (λ (p : Post). Contains (firming p).sends (letter_of m)) (sym stands.post)
      (subst (λ (ws : List did.WaitingLetter). Contains (map (λ (v : did.WaitingLetter). v.letter) ws) (letter_of m))
      (letters_passing (λ n. nat_le n (length all)) g.waiting)
      (sent_letters (filter (λ w. nat_le w.front (length all)) g.waiting) m is speaking)))
      (settled_said whole stands.rightly.said) (settled_rightly whole refl stands.rightly.said)

  -- the torn entries are gone
  gone_plays : (cuts : ℕ) → g.book.is_broken ≡ true → Plays gateway scene (settling (record g { book = cut_book g.book cuts }))
  gone_plays cuts broken =
      subst (λ (ws : List Waiting). Plays gateway scene (settling (record g { book = cut_book g.book cuts; waiting = ws }))) (sym (stands.rightly.broken broken))
      (post_plays gateway scene (keeping 0 (scene.posts gateway)) (Keeps gateway 0) (record g { book = cut_book g.book cuts; waiting = [] }) refl
      (ap (keeping 0) stands.post) (none_waits refl))

  -- a commit or an opening again fails, and the requests that wait are told
  torn_plays : ReadsBack → (cuts : ℕ) → Plays gateway scene (giving_up (record g { book = torn_book g.book cuts }))
  torn_plays back cuts =
      let all : ℕ = length g.book.rest in
      let asked : List Waiting = filter (λ w. is_response w.message) g.waiting in
      let torn : Gateway = record g { book = torn_book g.book cuts; waiting = [] } in
      let lost : Plays gateway scene (still torn) =
      post_plays gateway scene (keeping all (scene.posts gateway)) (Keeps gateway all) torn refl
      (ap (keeping all) stands.post ∙ ap (λ (r : List HistoryEntry). record { firm = g.book.firm; rest = r; waiting = [] }) (take_all all g.book.rest (omega arith)))
      (none_waits refl) in
      followed_plays (λ a. record { gateway = a; sends = map (λ w. failing w.message) asked }) lost
      (idle_plays (stands_after lost) (map (λ w. failing w.message) asked)
      (each_mapped Said (λ (w : Waiting). failing w.message) asked (λ w is.
      let was = stands.rightly.said w (filtered (λ w. is_response w.message) g.waiting w is) in
      said_by_gateway (failing w.message) was.0 (failing_said w.message)))
      (each_mapped (λ (k : Message). is_idle (meaning_of k) ≡ true) (λ (w : Waiting). failing w.message) asked
      (λ w is. ap is_idle (failing_means back w.message))))

  -- an act is recorded by a happening that notes it
  pub noted_plays : g.book.is_broken ≡ false → (now : ℕ) (a : HistoryAct) (next : Happening)
      → happened scene next ≡ with_post gateway (noting now no_caller a (scene.posts gateway)) scene → Plays gateway scene (still (noted now a g))
  noted_plays sound now a next is =
      post_plays gateway scene (noting now no_caller a (scene.posts gateway)) next (noted now a g) is
      (ap (noting now no_caller a) stands.post
      ∙ ap (λ (h : List HistoryEntry). record { firm = g.book.firm; rest = g.book.rest ++ entry_by h now no_caller a ∷ []; waiting = waiting_letters g.waiting })
      (sym (history_is g.book sound)))
      (noted_rightly now a stands.rightly)

  -- so many of the entries behind the firm ones are left
  cut_plays : (keep : ℕ) → Plays gateway scene (still (cut keep g))
  cut_plays keep =
      let count : ℕ = keep - length g.book.firm in
      post_plays gateway scene (keeping count (scene.posts gateway)) (Keeps gateway count) (cut keep g) refl (ap (keeping count) stands.post) (none_waits refl)

-- what a journal holds becomes firm
stood_plays : {gateway : ℕ} {scene : Scene} {g : Gateway} → Stands gateway scene g → Plays gateway scene (still (standing (history_of g.book)))
stood_plays {gateway} {scene} {g} stands =
    by_bool (λ (b : Bool). Plays gateway scene (still (standing (if b then g.book.firm else g.book.firm ++ g.book.rest)))) g.book.is_broken
    (λ broken. held 0 (crash_to_firm g)) (λ sound. held (length (g.book.firm ++ g.book.rest)) (crash_to_all g))
  where
    held : (count : ℕ) {h : List HistoryEntry} → history_of (cut count g).book ≡ h → Plays gateway scene (still (standing h))
    held count is =
        let cuts = cut_plays stands count in
        subst (λ (h : List HistoryEntry). Plays gateway scene (still (standing h))) is
        (relabelled_plays false 0 (followed_plays (λ a. settling (record a { book = whole_book a.book 0 false })) cuts (firm_plays (stands_after cuts) 0)))

-- the messages of a world are in a scene
abbrev pub HasLetters : World → Scene → Type 0
HasLetters w scene = (m : Message) → Contains w.messages m → speaks m ≡ true → Contains scene.letters (letter_of m)

-- wherever the gateway in this place stands in such a scene, its move is played
abbrev pub Played : World → ℕ → Gateway → Moved → Type 0
Played w place g moved = (scene : Scene) → Stands place scene g → HasLetters w scene → Plays place scene moved

pub parts_play : ReadsBack → (w : World) (place : ℕ) → PartsKeep (Played w place)
parts_play back w place = record {
  stays = λ g scene stands there. still_plays stands;
  follows = λ g first next a b scene stands there.
      let plays = a scene stands there in
      followed_plays next plays (b plays.after (stands_after plays) (λ m is speaking. plays.goes.letters (letter_of m) (there m is speaking)));
  firm = λ g cuts scene stands there. firm_plays stands cuts;
  gone = λ g cuts broken scene stands there. gone_plays stands cuts broken;
  torn = λ g cuts scene stands there. torn_plays stands back cuts;
  notes = λ g note now sound due scene stands there. noted_plays stands sound now (act_noted note) (Notes place note now no_caller) refl;
  cuts = λ g keep scene stands there. cut_plays stands keep;
  stands = λ g scene stands there. stood_plays stands;
}
