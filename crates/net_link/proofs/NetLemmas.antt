-- What links in memory tell together, as one more is taken back.
use Rattle.std.proofs.Common.{◌≡◌, ◌≢◌, ℕ, ◌+◌, ◌-◌, ◌^◌, ◌<◌, ◌≤◌, zero, suc, true, false, true≢false, Bool, if◌then◌else◌, List, [], ◌∷◌, ◌++◌, Contains, IfSome, Some, length, flat_map, slice_get, refl, sym, ap, ◌∙◌, subst, arith}
use Rattle.std.proofs.lemmas.Bool.{le-ltb, lt-ltb}
use Rattle.std.proofs.lemmas.List.{append-nil}
use Rattle.std.proofs.lemmas.List.Concat.{flat_map-append}
use Rattle.gw_base.specs.declared.address.Addr.{Addr}
use Rattle.net_link.specs.declared.turns.Tally.{Tally}
use Rattle.net_link.specs.Datagrams.{Datagram, added}
use Rattle.net_link.specs.Making.{GrowsBy, TakesBack}
use Rattle.net_link.specs.Memory.{MemoryPath, datagrams_of, told_of}
use Rattle.net_link.specs.Net.{MemoryNet, given_back, received_at, sent_at, told_by, told_if}
use Rattle.net_link.specs.Turns.{CountsMore, is_at}
use Rattle.net_link.proofs.TurnLemmas.{is_at_other, is_at_same, rose}

-- a list of each link at an address, as the given lists of one more link come behind it
module _ (f : MemoryPath → List Datagram) where
  abbrev at_address : Addr → MemoryPath → List Datagram
  at_address at link = if is_at at link.address then f link else []

  lists_more : (links : List MemoryPath) (link : MemoryPath) →
      flat_map (at_address link.address) (links ++ link ∷ []) ≡ flat_map (at_address link.address) links ++ f link
  lists_more links link =
      let own : at_address link.address link ≡ f link =
      ap (λ t. if t then f link else []) (is_at_same link.address link.address refl) in
      flat_map-append (at_address link.address) links (link ∷ [])
      ∙ ap (λ more. flat_map (at_address link.address) links ++ more) (append-nil (at_address link.address link) ∙ own)

  lists_other : (links : List MemoryPath) (link : MemoryPath) (at : Addr) → at ≢ link.address →
      flat_map (at_address at) (links ++ link ∷ []) ≡ flat_map (at_address at) links
  lists_other links link at other =
      let none : at_address at link ≡ [] = ap (λ t. if t then f link else []) (is_at_other at link.address other) in
      flat_map-append (at_address at) links (link ∷ [])
      ∙ ap (λ more. flat_map (at_address at) links ++ more) (append-nil (at_address at link) ∙ none)
      ∙ append-nil (flat_map (at_address at) links)

pub received_more : (links : List MemoryPath) (link : MemoryPath) →
    received_at link.address (links ++ link ∷ []) ≡ received_at link.address links ++ datagrams_of link.received
received_more links link = lists_more (λ l. datagrams_of l.received) links link

pub sent_more : (links : List MemoryPath) (link : MemoryPath) →
    sent_at link.address (links ++ link ∷ []) ≡ sent_at link.address links ++ datagrams_of link.sent
sent_more links link = lists_more (λ l. datagrams_of l.sent) links link

pub received_other : (links : List MemoryPath) (link : MemoryPath) (at : Addr) → at ≢ link.address →
    received_at at (links ++ link ∷ []) ≡ received_at at links
received_other links link at other = lists_other (λ l. datagrams_of l.received) links link at other

pub sent_other : (links : List MemoryPath) (link : MemoryPath) (at : Addr) → at ≢ link.address →
    sent_at at (links ++ link ∷ []) ≡ sent_at at links
sent_other links link at other = lists_other (λ l. datagrams_of l.sent) links link at other

-- a list that is told grows by a link's, or stays
grows : (told now : Bool) (old more new : List Datagram) → now ≡ told → new ≡ old ++ more →
    GrowsBy (told_if told old) (Some more) (told_if now new)
grows true true old more new same e = ap (λ (l : List Datagram). Some l) (sym e)
grows false true old more new same e = absurd (true≢false same)
grows true false old more new same e = tt
grows false false old more new same e = tt

stays : (told now : Bool) (old new : List Datagram) → now ≡ told → new ≡ old →
    IfSome (told_if now new) (λ list. told_if told old ≡ Some list)
stays true true old new same e = ap (λ (l : List Datagram). Some l) (sym e)
stays false true old new same e = absurd (true≢false same)
stays true false old new same e = tt
stays false false old new same e = tt

-- A link is taken back, whose turns were added to the tallies.
module _ (old new : MemoryNet) (link : MemoryPath) (counts : CountsMore link.address link.turns old.tallies new.tallies)
    (fits : old.faults ≤ 2 ^ 64 - 1) (faults : new.faults ≡ added old.faults link.faults) where
  -- it is kept
  pub takes_back : new.links ≡ old.links ++ link ∷ [] → new.are_all ≡ old.are_all →
      TakesBack (told_by old) (told_of link) (told_by new)
  takes_back more all =
      let received :
      received_at link.address new.links ≡ received_at link.address old.links ++ datagrams_of link.received =
      ap (λ (l : List MemoryPath). received_at link.address l) more ∙ received_more old.links link in
      let sent : sent_at link.address new.links ≡ sent_at link.address old.links ++ datagrams_of link.sent =
      ap (λ (l : List MemoryPath). sent_at link.address l) more ∙ sent_more old.links link in
      record {
        never_falls = omega arith;
        faults = rose old.faults link.faults new.faults faults;
        stood = λ none. omega (arith, none, fits, faults);
        made = λ a made. subst (λ (l : List Addr). Contains l a) (sym counts.places) made;
        turns = counts.turns;
        received = grows old.are_all new.are_all _ _ _ all received;
        sent = grows old.are_all new.are_all _ _ _ all sent;
        others_turns = counts.others;
        others_received = λ a other. stays old.are_all new.are_all _ _ all
            (ap (λ (l : List MemoryPath). received_at a l) more ∙ received_other old.links link a other);
        others_sent = λ a other. stays old.are_all new.are_all _ _ all
            (ap (λ (l : List MemoryPath). sent_at a l) more ∙ sent_other old.links link a other);
      }

  -- no lists are told any more
  pub takes_back_untold : new.are_all ≡ false → TakesBack (told_by old) (told_of link) (told_by new)
  takes_back_untold untold = record {
    never_falls = omega arith;
    faults = rose old.faults link.faults new.faults faults;
    stood = λ none. omega (arith, none, fits, faults);
    made = λ a made. subst (λ (l : List Addr). Contains l a) (sym counts.places) made;
    turns = counts.turns;
    received = subst (λ (b : Bool). GrowsBy (told_if old.are_all (received_at link.address old.links))
        (Some (datagrams_of link.received)) (told_if b (received_at link.address new.links))) (sym untold) tt;
    sent = subst (λ (b : Bool). GrowsBy (told_if old.are_all (sent_at link.address old.links))
        (Some (datagrams_of link.sent)) (told_if b (sent_at link.address new.links))) (sym untold) tt;
    others_turns = counts.others;
    others_received = λ a other. subst (λ (b : Bool). IfSome (told_if b (received_at a new.links))
        (λ list. told_if old.are_all (received_at a old.links) ≡ Some list)) (sym untold) tt;
    others_sent = λ a other. subst (λ (b : Bool). IfSome (told_if b (sent_at a new.links))
        (λ list. told_if old.are_all (sent_at a old.links) ≡ Some list)) (sym untold) tt;
  }

-- which of both is left
pub given_back_kept : (net : MemoryNet) (link : MemoryPath) (tallies : List Tally) → length net.links < 64 →
    given_back net link tallies
    ≡ record net { tallies = tallies; links = net.links ++ link ∷ []; faults = added net.faults link.faults }
given_back_kept net link tallies few = ap
    (λ (b : Bool). if b
    then record net { tallies = tallies; links = net.links ++ link ∷ []; faults = added net.faults link.faults }
    else record net { tallies = tallies; are_all = false; faults = added net.faults link.faults })
    (lt-ltb (length net.links) 64 few)

pub given_back_left : (net : MemoryNet) (link : MemoryPath) (tallies : List Tally) → 64 ≤ length net.links →
    given_back net link tallies
    ≡ record net { tallies = tallies; are_all = false; faults = added net.faults link.faults }
given_back_left net link tallies many = ap
    (λ (b : Bool). if b
    then record net { tallies = tallies; links = net.links ++ link ∷ []; faults = added net.faults link.faults }
    else record net { tallies = tallies; are_all = false; faults = added net.faults link.faults })
    (le-ltb (length net.links) 64 many)

-- what stands in two lists, one behind the other
pub slice_get_first : {X : Type 0} (xs ys : List X) (k : ℕ) → k < length xs → slice_get (xs ++ ys) k ≡ slice_get xs k
slice_get_first [] ys k within = absurd (omega arith)
slice_get_first (x ∷ xs) ys zero within = refl
slice_get_first (x ∷ xs) ys (suc k) within = slice_get_first xs ys k (omega arith)

pub slice_get_behind : {X : Type 0} (xs ys : List X) (k : ℕ) → slice_get (xs ++ ys) (length xs + k) ≡ slice_get ys k
slice_get_behind [] ys k = ap (λ n. slice_get ys n) (omega arith)
slice_get_behind (x ∷ xs) ys k =
    let next : length (x ∷ xs) + k ≡ suc (length xs + k) = omega arith in
    ap (λ n. slice_get (x ∷ (xs ++ ys)) n) next ∙ slice_get_behind xs ys k
