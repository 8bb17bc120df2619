-- What a gateway of a world does is what happens in a scene: what the happenings at one gateway leave as it is.
use Rattle.std.proofs.Common.{◌≡◌, ⊎_elim, ℕ, ◌==◌, true, false, List, [], ◌∷◌, ◌++◌, map, Contains, refl, sym, ap, ◌∙◌, append_assoc, append-nil, subst, arith}
use Rattle.once_core.proofs.Names.{Adds, at, cond-false, Contains-append_cases, Contains-append_left, Contains-append_right, followed, Gateway, happened, happened_all, Happening, is_idle, is_reached, Letter, letter_of, meaning_of, Message, Moved, Post, post_of, Scene, Settled, speaks, still, Waiting, with_letter, with_post, with_settled}
use Rattle.once_core.proofs.ListLemmas.{in_head, in_map, in_none, in_tail, of_map}
use Rattle.once_core.proofs.MeaningLemmas.{GatewaySaid, Said}
use Rattle.once_core.proofs.MoveLemmas.{at_same}

-- ---- a gateway of a world

-- what holds of each gateway: no answer waits whose front is firm, each was said by a gateway, and none waits where it is broken
pub record Rightly (g : Gateway) : Type 0 where
  pub fronts : (w : Waiting) → Contains g.waiting w → is_reached g.book w ≡ false
  pub said : (w : Waiting) → Contains g.waiting w → (w.message.to_gateway ≡ false) × GatewaySaid w.message
  pub broken : g.book.is_broken ≡ true → g.waiting ≡ []

pub none_waits : {g : Gateway} → g.waiting ≡ [] → Rightly g
none_waits none = record {
  fronts = λ w is. in_none w (subst (λ ws. Contains ws w) none is);
  said = λ w is. in_none w (subst (λ ws. Contains ws w) none is);
  broken = λ e. none;
}

-- ---- a scene goes on at one gateway

pub record GoesOnAt (gateway : ℕ) (scene after : Scene) : Type 0 where
  pub others : (other : ℕ) → (other == gateway) ≡ false → after.posts other ≡ scene.posts other
  pub deeds : (node : ℕ) → after.deeds node ≡ scene.deeds node
  pub letters : (l : Letter) → Contains scene.letters l → Contains after.letters l

pub same_at : {gateway : ℕ} {scene : Scene} → GoesOnAt gateway scene scene
same_at = record { others = λ other e. refl; deeds = λ node. refl; letters = λ l is. is }

goes_on_at : {gateway : ℕ} {scene middle after : Scene} → GoesOnAt gateway scene middle → GoesOnAt gateway middle after → GoesOnAt gateway scene after
goes_on_at a b = record {
  others = λ other e. b.others other e ∙ a.others other e;
  deeds = λ node. b.deeds node ∙ a.deeds node;
  letters = λ l is. b.letters l (a.letters l is);
}

settled_goes : (gateway : ℕ) (settled : Settled) (scene : Scene) → GoesOnAt gateway scene (with_settled gateway settled scene)
settled_goes gateway settled scene = record {
  others = λ other e. cond-false (other == gateway) settled.post (scene.posts other) e;
  deeds = λ node. refl;
  letters = λ l is. Contains-append_left scene.letters settled.sends l is;
}

-- the scene with these messages more
abbrev with_letters : List Letter → Scene → Scene
with_letters letters scene = record scene { letters = scene.letters ++ letters }

-- idle messages join
adds : (letters : List Letter) (scene : Scene) → ((l : Letter) → Contains letters l → is_idle l.says ≡ true)
    → happened_all scene (map (λ l. Adds l) letters) ≡ with_letters letters scene
adds [] scene idle = ap (λ (ls : List Letter). record scene { letters = ls }) (sym (append-nil scene.letters))
adds (l ∷ letters) scene idle =
    let rest = adds letters (with_letter l scene) (λ m is. idle m (in_tail l m letters is)) in
    grind (arith, idle l (in_head l letters), rest, append_assoc scene.letters (l ∷ []) letters)

pub happened_more : (scene : Scene) (first second : List Happening) → happened_all scene (first ++ second) ≡ happened_all (happened_all scene first) second
happened_more scene [] second = refl
happened_more scene (next ∷ first) second = happened_more (happened scene next) first second

-- ---- a move is played

-- some happenings make a gateway what it is after a move, and what it sends is among the messages
pub record Plays (gateway : ℕ) (scene : Scene) (moved : Moved) : Type 0 where
  pub later : List Happening
  pub after : Scene
  pub is : happened_all scene later ≡ after
  pub goes : GoesOnAt gateway scene after
  pub post : after.posts gateway ≡ post_of moved.gateway
  pub sends : (m : Message) → Contains moved.sends m → speaks m ≡ true → Contains after.letters (letter_of m)
  pub said : (m : Message) → Contains moved.sends m → Said m
  pub rightly : Rightly moved.gateway

-- the gateway stands in the scene as it is
pub record Stands (gateway : ℕ) (scene : Scene) (g : Gateway) : Type 0 where
  pub post : scene.posts gateway ≡ post_of g
  pub rightly : Rightly g

pub stands_after : {gateway : ℕ} {scene : Scene} {moved : Moved} (plays : Plays gateway scene moved) → Stands gateway plays.after moved.gateway
stands_after plays = record { post = plays.post; rightly = plays.rightly }

-- happenings that give the gateway this post, and send this
pub settled_plays : (gateway : ℕ) (scene : Scene) (settled : Settled) (later : List Happening) (moved : Moved) → happened_all scene later ≡ with_settled gateway settled scene
    → settled.post ≡ post_of moved.gateway → ((m : Message) → Contains moved.sends m → speaks m ≡ true → Contains settled.sends (letter_of m))
    → ((m : Message) → Contains moved.sends m → Said m) → Rightly moved.gateway → Plays gateway scene moved
settled_plays gateway scene settled later moved is post sends said rightly = record {
  later = later;
  after = with_settled gateway settled scene;
  is = is;
  goes = settled_goes gateway settled scene;
  post = at_same gateway settled.post scene.posts ∙ post;
  sends = λ m there speaking. Contains-append_right scene.letters settled.sends (letter_of m) (sends m there speaking);
  said = said;
  rightly = rightly;
}

-- and send nothing
pub post_plays : (gateway : ℕ) (scene : Scene) (post : Post) (next : Happening) (g : Gateway) → happened scene next ≡ with_post gateway post scene → post ≡ post_of g
    → Rightly g → Plays gateway scene (still g)
post_plays gateway scene post next g is same rightly =
    settled_plays gateway scene (record { post = post; sends = [] }) (next ∷ []) (still g)
    (is ∙ ap (λ (ls : List Letter). record { posts = at gateway post scene.posts; deeds = scene.deeds; letters = ls }) (sym (append-nil scene.letters))) same
    (λ m is speaking. in_none m is) (λ m is. in_none m is) rightly

-- idle messages are sent
pub idle_plays : {gateway : ℕ} {scene : Scene} {g : Gateway} → Stands gateway scene g → (sends : List Message) → ((m : Message) → Contains sends m → Said m)
    → ((m : Message) → Contains sends m → is_idle (meaning_of m) ≡ true) → Plays gateway scene (record { gateway = g; sends = sends })
idle_plays {gateway} {scene} stands sends said idle =
    let letters : List Letter = map letter_of sends in
    record {
      later = map (λ l. Adds l) letters;
      after = with_letters letters scene;
      is = adds letters scene (λ l is. let there = of_map letter_of sends l is in
          subst (λ (k : Letter). is_idle k.says ≡ true) there.2 (idle there.0 there.1));
      goes = record { others = λ other e. refl; deeds = λ node. refl; letters = λ l is. Contains-append_left scene.letters letters l is };
      post = stands.post;
      sends = λ m is speaking. Contains-append_right scene.letters letters (letter_of m) (in_map letter_of sends m is);
      said = said;
      rightly = stands.rightly;
    }

-- nothing happens
pub still_plays : {gateway : ℕ} {scene : Scene} {g : Gateway} → Stands gateway scene g → Plays gateway scene (still g)
still_plays stands = idle_plays stands [] (λ m is. in_none m is) (λ m is. in_none m is)

-- what holds of the messages of either list
pub of_both : (xs ys : List Message) (P : Message → Type 0) → ((m : Message) → Contains xs m → P m) → ((m : Message) → Contains ys m → P m)
    → (m : Message) → Contains (xs ++ ys) m → P m
of_both xs ys P first second m is = ⊎_elim (first m) (second m) (Contains-append_cases xs ys m is)

pub followed_plays : {gateway : ℕ} {scene : Scene} {first : Moved} (next : Gateway → Moved) (a : Plays gateway scene first)
    → Plays gateway a.after (next first.gateway) → Plays gateway scene (followed first next)
followed_plays {gateway} {scene} {first} next a b = record {
  later = a.later ++ b.later;
  after = b.after;
  is = happened_more scene a.later b.later ∙ ap (λ (s : Scene). happened_all s b.later) a.is ∙ b.is;
  goes = goes_on_at a.goes b.goes;
  post = b.post;
  sends = of_both first.sends (next first.gateway).sends (λ m. speaks m ≡ true → Contains b.after.letters (letter_of m))
      (λ m is speaking. b.goes.letters (letter_of m) (a.sends m is speaking)) b.sends;
  said = of_both first.sends (next first.gateway).sends Said a.said b.said;
  rightly = b.rightly;
}
