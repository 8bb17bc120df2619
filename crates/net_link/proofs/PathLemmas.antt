-- What a link in memory hears, and what several of them have sent.
use Rattle.std.proofs.Common.{◌≡◌, ℕ, ◌+◌, ◌-◌, ◌<◌, ◌≤◌, Bool, true, false, cond, List, [], ◌∷◌, ◌++◌, Ok, Result, Some, filter, length, get_or, take, drop, slice_get, refl, sym, ap, ◌∙◌, subst, arith}
use Rattle.std.proofs.lemmas.List.{append-nil, drop_all, drop_more, map-append, take_more}
use Rattle.std.proofs.lemmas.List.Elements.{All-head}
use Rattle.gw_base.specs.Faults.{next_count}
use Rattle.gw_base.specs.declared.address.Addr.{Addr}
use Rattle.gw_base.specs.declared.fault.Failed.{Failed}
use Rattle.net_link.specs.declared.link.Heard.{Heard}
use Rattle.net_link.specs.declared.link.Heard.TheVariants.{Datagram, Quiet}
use Rattle.net_link.specs.declared.post.Post.{Post}
use Rattle.net_link.specs.Datagrams as told
use Rattle.net_link.specs.Datagrams.{LinkState}
use Rattle.net_link.specs.Memory.{AreShort, Hears, MemoryPath, datagram_of, datagrams_of, told_of}
use Rattle.net_link.specs.Net.{all_sent, given_for}
use Rattle.net_link.specs.Steps.{Follows, Receives, most_octets}
use Rattle.net_link.specs.Turns.{is_at}
use Rattle.net_link.proofs.NetLemmas.{slice_get_behind, slice_get_first}

-- a call that hears nothing, where all was received, or the next of the posts
pub hears_none : (given : List Post) (next : ℕ) (old new : MemoryPath) (into : List ℕ) → next ≡ length given →
    new ≡ record old { calls = next_count old.calls; turns = next_count old.turns } →
    Hears (drop next given) old into Quiet new
hears_none given next old new into end is =
    let none : drop next given ≡ [] = drop_all next given (omega arith) in
    subst (λ (l : List Post). Hears l old into Quiet new) (sym none) (refl, is)

pub hears_one : (given : List Post) (next : ℕ) (post : Post) (old new : MemoryPath) (into : List ℕ) →
    next < length given → post ≡ get_or given next post → old.received ≡ take next given → take (length post.octets) into ≡ post.octets →
    new ≡ record old {
      calls = next_count old.calls;
      turns = next_count old.turns;
      received = take (next + 1) given;
      left = drop (next + 1) given;
    } →
    Hears (drop next given) old into (Datagram post.peer (length post.octets)) new
hears_one given next post old new into within read so_far octets is =
    let list : drop next given ≡ post ∷ drop (next + 1) given =
    drop_more given next post within ∙ ap (λ (p : Post). p ∷ drop (next + 1) given) (sym read) in
    let more : take (next + 1) given ≡ old.received ++ post ∷ [] =
    take_more given next post within ∙ (λ i. sym so_far i ++ sym read i ∷ []) in
    subst (λ (l : List Post). Hears l old into (Datagram post.peer (length post.octets)) new) (sym list) (
      refl,
      octets,
      is ∙ ap (λ (l : List Post). record old {
        calls = next_count old.calls;
        turns = next_count old.turns;
        received = l;
        left = drop (next + 1) given;
      }) more,
    )

-- what a link tells after a turn, with this list of what it received
abbrev told_with : MemoryPath → List told.Datagram → LinkState
told_with old list = record {
  address = old.address;
  turns = next_count old.turns;
  faults = old.faults;
  received = Some list;
  sent = Some (datagrams_of old.sent);
}

inside : (a b : Heard) → ◌≡◌ {A = Result Heard Failed} (Ok a) (Ok b) → a ≡ b
inside a b e = cc

follows_from : (old new : MemoryPath) → new.address ≡ old.address → new.faults ≡ old.faults →
    Follows (told_of old) (told_of new)
follows_from old new at faults = record { address = at; faults = omega arith }

-- what is heard is what is received, as it is told
pub hears_is_received : (left : List Post) (old new : MemoryPath) (into : List ℕ) (heard : Heard) → AreShort left →
    Hears left old into heard new → Receives (told_of old) into (Ok heard) (told_of new)
hears_is_received [] old new into heard short h = record {
  datagram = λ from n e. absurd (never from n (sym h.0 ∙ inside heard _ e));
  quiet = λ e. ap told_of h.1;
  failed = tt;
  follows = follows_from old new (ap (λ (l : MemoryPath). l.address) h.1) (ap (λ (l : MemoryPath). l.faults) h.1);
}
  where
    never : (from : Addr) (n : ℕ) → Quiet ≡ Datagram from n → ⊥
    never from n e = cc
hears_is_received (post ∷ left) old new into heard short h = record {
  datagram = λ from n e.
      let same : Datagram post.peer (length post.octets) ≡ Datagram from n = sym h.0 ∙ inside heard _ e in
      let here : from ≡ post.peer = peers from n same in
      let long : n ≡ length post.octets = lengths from n same in
      let octets : take n into ≡ post.octets = ap (λ (k : ℕ). take k into) long ∙ h.1 in
      let one : datagram_of post ≡ record { peer = from; octets = take n into } =
      λ i. record { peer = sym here i; octets = sym octets i } in (
        subst (λ (k : ℕ). k ≤ most_octets) (sym long)
            (All-head (λ (p : Post). length p.octets ≤ most_octets) post left short),
        ap told_of h.2 ∙ ap (λ (list : List told.Datagram). told_with old list)
            (map-append datagram_of old.received (post ∷ [])
            ∙ ap (λ (d : told.Datagram). datagrams_of old.received ++ d ∷ []) one),
      );
  quiet = λ e. absurd (never (sym h.0 ∙ inside heard _ e));
  failed = tt;
  follows = follows_from old new (ap (λ (l : MemoryPath). l.address) h.2) (ap (λ (l : MemoryPath). l.faults) h.2);
}
  where
    never : Datagram post.peer (length post.octets) ≡ Quiet → ⊥
    never e = cc

    peers : (from : Addr) (n : ℕ) → Datagram post.peer (length post.octets) ≡ Datagram from n → from ≡ post.peer
    peers from n e = cc

    lengths : (from : Addr) (n : ℕ) → Datagram post.peer (length post.octets) ≡ Datagram from n → n ≡ length post.octets
    lengths from n e = cc

-- the posts for an address, with one more
filter_step : (p : Post) (long short last : List Post) → long ≡ short ++ last → (b : Bool) →
    cond b (p ∷ long) long ≡ cond b (p ∷ short) short ++ last
filter_step p long short last e true = ap (λ (l : List Post). p ∷ l) e
filter_step p long short last e false = e

filter_more : (test : Post → Bool) (posts : List Post) (post : Post) →
    filter test (posts ++ post ∷ []) ≡ filter test posts ++ cond (test post) (post ∷ []) []
filter_more test [] post = refl
filter_more test (p ∷ posts) post =
    filter_step p (filter test (posts ++ post ∷ [])) (filter test posts) (cond (test post) (post ∷ []) [])
    (filter_more test posts post) (test p)

pub given_more : (at : Addr) (given : List Post) (i : ℕ) (post : Post) → i < length given → post ≡ get_or given i post →
    is_at at post.at ≡ true → given_for at (take (i + 1) given) ≡ given_for at (take i given) ++ post ∷ []
given_more at given i post within read mine =
    ap (λ (l : List Post). given_for at l)
    (take_more given i post within ∙ ap (λ (p : Post). take i given ++ p ∷ []) (sym read))
    ∙ filter_more (λ p. is_at at p.at) (take i given) post
    ∙ ap (λ (b : Bool). given_for at (take i given) ++ cond b (post ∷ []) []) mine

pub given_same : (at : Addr) (given : List Post) (i : ℕ) (post : Post) → i < length given → post ≡ get_or given i post →
    is_at at post.at ≡ false → given_for at (take (i + 1) given) ≡ given_for at (take i given)
given_same at given i post within read other =
    ap (λ (l : List Post). given_for at l)
    (take_more given i post within ∙ ap (λ (p : Post). take i given ++ p ∷ []) (sym read))
    ∙ filter_more (λ p. is_at at p.at) (take i given) post
    ∙ ap (λ (b : Bool). given_for at (take i given) ++ cond b (post ∷ []) []) other
    ∙ append-nil (given_for at (take i given))

-- the datagram so far behind is one of this link, or stands in the rest
pub sent_here : (links : List MemoryPath) (i left : ℕ) (link : MemoryPath) → i < length links →
    link ≡ get_or links i link →
    left < length link.sent → slice_get (all_sent (drop i links)) left ≡ slice_get link.sent left
sent_here links i left link within read short =
    let list : drop i links ≡ link ∷ drop (i + 1) links =
    drop_more links i link within ∙ ap (λ (l : MemoryPath). l ∷ drop (i + 1) links) (sym read) in
    ap (λ (ls : List MemoryPath). slice_get (all_sent ls) left) list
    ∙ slice_get_first link.sent (all_sent (drop (i + 1) links)) left short

pub sent_on : (links : List MemoryPath) (i left : ℕ) (link : MemoryPath) → i < length links →
    link ≡ get_or links i link →
    length link.sent ≤ left →
    slice_get (all_sent (drop i links)) left ≡ slice_get (all_sent (drop (i + 1) links)) (left - length link.sent)
sent_on links i left link within read past =
    let list : drop i links ≡ link ∷ drop (i + 1) links =
    drop_more links i link within ∙ ap (λ (l : MemoryPath). l ∷ drop (i + 1) links) (sym read) in
    let far : left ≡ length link.sent + (left - length link.sent) = omega arith in
    ap (λ (ls : List MemoryPath). slice_get (all_sent ls) left) list
    ∙ ap (λ (n : ℕ). slice_get (link.sent ++ all_sent (drop (i + 1) links)) n) far
    ∙ slice_get_behind link.sent (all_sent (drop (i + 1) links)) (left - length link.sent)
