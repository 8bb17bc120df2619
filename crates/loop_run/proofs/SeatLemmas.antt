-- Seats that are made, one after the other.
use Rattle.std.proofs.Common.{◌≡◌, ⊎_elim, ◌∙◌, ℕ, suc, ◌+◌, ◌-◌, ◌<◌, ◌≤◌, List, [], ◌∷◌, ◌++◌, length, None, Some, sym, ap, subst, arith}
use Rattle.loop_run.proofs.Names.{Addr, AreKnown, FailsToMake, First, gateway_at, gateways_of, GrowsOn, HasMadeGateway, HasMadeNode, HasMadeSeats, IsGatewayAt, Keeps, LinkedNode, LinksState, LoopGateway, LoopSetup, MakesOn, MakesSeats, node_at, none-some, same_Some, Seat, Second, SitsAt, slice_get, Stop}
use Rattle.net_link.specs.declared.link.Link as paths
use Rattle.session_run.specs.declared.stop.Stop.TheVariants as stop
use Rattle.loop_run.specs.declared.seat.Seat.TheVariants as seat
use Rattle.loop_run.proofs.ListLemmas.{get_pushed, length_pushed, none_get, some_none}
use Rattle.loop_run.proofs.MakeLemmas.{grows_then, makes_grows}
use Rattle.loop_run.proofs.StillLemmas.{le_or, rose_before}

-- the addresses of who sits in a place are made
record IsKnownAt (setup : LoopSetup) (place : ℕ) (now : LinksState) : Type 0 where
  node : place < setup.nodes → now.IsMade (node_at place First) × now.IsMade (node_at place Second)
  gateway : setup.nodes ≤ place → now.IsMade (gateway_at (place - setup.nodes))

known_still : {setup count old new : _} → GrowsOn old new → AreKnown setup count old → AreKnown setup count new
known_still on known = record {
  nodes = λ place less inside.
      let both = known.nodes place less inside in
      (on.made (node_at place First) both.0, on.made (node_at place Second) both.1);
  gateways = λ place less. on.made (gateway_at place) (known.gateways place less);
}

module _ {L : Type 0} (tells : paths.Ghosts L) (setup : LoopSetup) where
  pub seats_none : (s : LinksState) (seats : List (Seat L)) → seats ≡ [] → HasMadeSeats tells setup s s seats
  seats_none s seats none = record {
    sit = λ place one at. absurd
        (none_get place {x = one} (subst (λ (l : List (Seat L)). slice_get l place ≡ Some one) none at));
    known = record {
      nodes = λ place less inside. absurd (omega (arith, less, long));
      gateways = λ place less. absurd (omega (arith, less, long));
    };
    on = record { made = λ a m. m; later = omega arith };
  }
    where
      long : length seats ≡ 0
      long = ap (λ (l : List (Seat L)). length l) none

  pub seats_on : {old mid new seats : _} → HasMadeSeats tells setup old mid seats
      → GrowsOn mid new → HasMadeSeats tells setup old new seats
  seats_on has on = record { sit = has.sit; known = known_still on has.known; on = grows_then has.on on }

  seats_more : {old mid new seats all : _} (one : Seat L)
      → HasMadeSeats tells setup old mid seats → MakesOn mid new → SitsAt tells setup (length seats) one
      → IsKnownAt setup (length seats) new → all ≡ seats ++ one ∷ [] → HasMadeSeats tells setup old new all
  seats_more {old} {mid} {new} {seats} {all} one has on sits known is = record {
    sit = λ place s at. ⊎_elim (λ (before : slice_get seats place ≡ Some s). has.sit place s before)
        (λ (last : (place ≡ length seats) × (s ≡ one)). subst (λ (p : ℕ). SitsAt tells setup p s) (sym last.0)
        (subst (λ (x : Seat L). SitsAt tells setup (length seats) x) (sym last.1) sits))
        (get_pushed seats one place {y = s} (subst (λ (l : List (Seat L)). slice_get l place ≡ Some s) is at));
    known = record {
      nodes = λ place less inside. ⊎_elim (λ (last : place ≡ length seats). subst
          (λ (p : ℕ). new.IsMade (node_at p First) × new.IsMade (node_at p Second)) (sym last)
          (known.node (omega (arith, last, inside))))
          (λ (before : place < length seats). (known_still {setup = setup} {count = length seats} {old = mid}
          {new = new} (makes_grows {a = mid} {b = new} on) has.known).nodes place before inside)
          (le_or place (length seats) (omega (arith, less, long)));
      gateways = λ place less. ⊎_elim (λ (last : setup.nodes + place ≡ length seats). subst
          (λ (p : ℕ). new.IsMade (gateway_at p)) (omega (arith, last)) (known.gateway (omega (arith, last))))
          (λ (before : setup.nodes + place < length seats). (known_still {setup = setup} {count = length seats}
          {old = mid} {new = new} (makes_grows {a = mid} {b = new} on) has.known).gateways place before)
          (le_or (setup.nodes + place) (length seats) (omega (arith, less, long)));
    };
    on = grows_then {a = old} {b = mid} {c = new} has.on (makes_grows {a = mid} {b = new} on);
  }
    where
      long : length all ≡ suc (length seats)
      long = ap (λ (l : List (Seat L)). length l) is ∙ length_pushed seats one

  pub node_more : (old mid new : LinksState) (seats all : List (Seat L)) (gateways : List Addr) (place : ℕ)
      (linked : LinkedNode L) → gateways ≡ gateways_of setup.gateways → length seats ≡ place → place < setup.nodes
      → HasMadeSeats tells setup old mid seats → HasMadeNode tells gateways place mid new linked
      → all ≡ seats ++ seat.Node linked ∷ [] → HasMadeSeats tells setup old new all
  node_more old mid new seats all gateways place linked are here less has made is =
      seats_more _ has made.on
      (subst (λ p. SitsAt tells setup p (seat.Node linked)) (sym here)
      (less, record { node_is = cc made.node_is; first = made.first; second = made.second }))
      (rw here (record { node = λ inside. made.known; gateway = λ behind. absurd (omega arith) })) is

  pub gateway_more : (old mid new : LinksState) (seats all : List (Seat L)) (place : ℕ) (g : LoopGateway L)
      → length seats ≡ setup.nodes + place → HasMadeSeats tells setup old mid seats
      → HasMadeGateway tells place mid new g → all ≡ seats ++ seat.Gateway g ∷ [] → HasMadeSeats tells setup old new all
  gateway_more old mid new seats all place g here has made is =
      seats_more {old = old} {mid = mid} {new = new} {seats = seats} {all = all} (seat.Gateway g) has made.on
      (omega (arith, here), subst (λ (p : ℕ). IsGatewayAt tells p g) (omega (arith, here)) made.is) (record {
        node = λ inside. absurd (omega (arith, inside, here));
        gateway = λ behind. subst (λ (p : ℕ). new.IsMade (gateway_at p)) (omega (arith, here)) made.known;
      }) is

  -- unless something stopped
  pub makes_all : (count : ℕ) (old new : LinksState) (seats : List (Seat L)) → HasMadeSeats tells setup old new seats
      → length seats ≡ count → Keeps old new → MakesSeats tells setup count old new seats None
  makes_all count old new seats has all keeps = record {
    has = has;
    all = λ none. (all, keeps);
    cause = λ is. absurd (none-some stop.Link is);
    no_clock = λ is. none-some stop.Clock is;
  }

  pub makes_some : (count : ℕ) (old mid new : LinksState) (seats : List (Seat L)) (why : Stop)
      → HasMadeSeats tells setup old mid seats → FailsToMake mid new why
      → MakesSeats tells setup count old new seats (Some why)
  makes_some count old mid new seats why has fails = record {
    has = seats_on has fails.on;
    all = λ none. absurd (some_none why none);
    cause = λ is. rose_before _ _ _ has.on.later (fails.cause (same_Some why stop.Link is));
    no_clock = λ is. fails.no_clock (same_Some why stop.Clock is);
  }
