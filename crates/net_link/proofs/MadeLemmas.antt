-- Tallies of turns, of which one is made, and what those tell who have them.
use Rattle.std.proofs.Common.{◌≡◌, ℕ, ◌+◌, ◌-◌, ◌^◌, ◌≤◌, min, Bool, true, false, true≢false, cond, if◌then◌else◌, Option, Result, Ok, Err, is_err, is_ok, Vec, Global, List, [], ◌∷◌, ◌++◌, Contains, length, map, sum_by, refl, sym, ap, ◌∙◌, subst, arith}
use Rattle.std.proofs.lemmas.List.{get_or_at, length-append, length-map, map-append, with_items_is}
use Rattle.std.specs.Vec.{with_items}
use Rattle.std.proofs.lemmas.List.Elements.{Contains-append_left}
use Rattle.std.proofs.lemmas.List.Sums.{sum_by_push}
use Rattle.gw_base.specs.declared.address.Addr.{Addr}
use Rattle.net_link.specs.declared.turns.Tally.{Tally}
use Rattle.net_link.specs.declared.link.LinkStop.{LinkStop}
use Rattle.net_link.specs.declared.link.LinkStop.TheVariants as stop
use Rattle.net_link.specs.Datagrams.{Datagram, LinkState, added}
use Rattle.net_link.specs.Making.{LinksState, Makes, TakesBack}
use Rattle.net_link.specs.Turns.{CountsMore, IsListed, is_at, place_of, turns_at, turns_in}
use Rattle.net_link.specs.Udp.{UdpNet, told_by}
use Rattle.net_link.proofs.TurnLemmas.{rose}

abbrev pub fresh : Addr → Tally
fresh at = record { at = at; turns = 0 }

counts_nothing : (a at : Addr) → turns_in a (fresh at) ≡ 0
counts_nothing a at = either (is_at a at)
  where
    either : (b : Bool) → ◌≡◌ {A = ℕ} (if b then 0 else 0) 0
    either true = refl
    either false = refl

-- the turns stay
pub turns_new : (tallies : List Tally) (a at : Addr) → turns_at a (tallies ++ fresh at ∷ []) ≡ turns_at a tallies
turns_new tallies a at = ap (λ (n : ℕ). min n (2 ^ 64 - 1))
    (same (sum_by (turns_in a) (tallies ++ fresh at ∷ [])) (sum_by (turns_in a) tallies) (turns_in a (fresh at))
    (sum_by_push (turns_in a) tallies (fresh at)) (counts_nothing a at))
  where
    same : (now was more : ℕ) → now ≡ was + more → more ≡ 0 → now ≡ was
    same now was more e none = omega arith

-- an address that is listed still is, and that of the tally is
pub listed_still : (tallies : List Tally) (a at : Addr) → IsListed a tallies → IsListed a (tallies ++ fresh at ∷ [])
listed_still tallies a at h =
    subst (λ (l : List Addr). Contains l a) (sym (map-append place_of tallies (fresh at ∷ [])))
    (Contains-append_left (map place_of tallies) (at ∷ []) a h)

pub listed_new : (tallies : List Tally) (at : Addr) → IsListed at (tallies ++ fresh at ∷ [])
listed_new tallies at =
    let places : List Addr = map place_of tallies in
    subst (λ (l : List Addr). Contains l at) (sym (map-append place_of tallies (fresh at ∷ [])))
    (length places, (omega (arith, length-append places (at ∷ []))), get_or_at places at [] at (length places) refl)

-- a push that didn't fail
pub pushed_whole : {E : Type 0} (r : Result Unit E) (was now : List Tally) (tally : Tally) → is_err r ≡ false →
    now ≡ cond (is_ok r) (was ++ tally ∷ []) was → now ≡ was ++ tally ∷ []
pushed_whole (Ok done) was now tally fine e = e
pushed_whole (Err fault) was now tally fine e = absurd (true≢false fine)

-- what is told of tallies, with lists that stay
abbrev told_with : List Tally → ℕ → (Addr → Option (List Datagram)) → (Addr → Option (List Datagram)) → LinksState
told_with tallies faults received sent = record {
  faults = faults;
  IsMade = λ at. IsListed at tallies;
  turns = λ at. turns_at at tallies;
  received = received;
  sent = sent;
}

-- a link is made
pub makes : (R : Type 0) (tallies now : List Tally) (faults : ℕ) (received sent : Addr → Option (List Datagram))
    (at : Addr) (link : R) → now ≡ tallies ++ fresh at ∷ [] →
    Makes R (told_with tallies faults received sent) at (Ok link) (told_with now faults received sent)
makes R tallies now faults received sent at link e = record {
  keeps = record {
    made = λ a listed. subst (λ (l : List Tally). IsListed a l) (sym e) (listed_still tallies a at listed);
    turns = λ a. ap (λ (l : List Tally). turns_at a l) e ∙ turns_new tallies a at;
    received = λ a. refl;
    sent = λ a. refl;
  };
  made = λ other is. (subst (λ (l : List Tally). IsListed at l) (sym e) (listed_new tallies at), refl);
  failed = λ is. absurd (ok_is_no_fault stop.Failed is);
  no_memory = λ is. absurd (ok_is_no_fault stop.NoMemory is);
}
  where
    ok_is_no_fault : (fault : LinkStop) → ◌≡◌ {A = Result R LinkStop} (Ok link) (Err fault) → ⊥
    ok_is_no_fault fault is = cc

-- a link is taken back by those who tell no lists
pub takes_back : (old new : UdpNet) (link : LinkState) → CountsMore link.address link.turns old.tallies new.tallies →
    old.faults ≤ 2 ^ 64 - 1 → new.faults ≡ added old.faults link.faults → TakesBack (told_by old) link (told_by new)
takes_back old new link counts fits faults = record {
  never_falls = omega arith;
  faults = rose old.faults link.faults new.faults faults;
  stood = λ none. omega (arith, none, fits, faults);
  made = λ a made. subst (λ (l : List Addr). Contains l a) (sym counts.places) made;
  turns = counts.turns;
  received = tt;
  sent = tt;
  others_turns = counts.others;
  others_received = λ a other. tt;
  others_sent = λ a other. tt;
}

-- the tallies in their list, as they stand after the count
pub counted : (tallies : Vec Tally Global) (now : List Tally) (at : Addr) (more : ℕ) →
    CountsMore at more tallies.items now → CountsMore at more tallies.items (with_items tallies now).items
counted tallies now at more counts =
    let same : length now ≡ length tallies.items =
    sym (length-map now place_of) ∙ ap (λ (l : List Addr). length l) counts.places
    ∙ length-map tallies.items place_of in
    subst (λ (l : List Tally). CountsMore at more tallies.items l)
    (sym (with_items_is tallies now (same ∙ sym tallies.ok.0)))
    counts
