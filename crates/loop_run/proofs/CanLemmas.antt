-- Who sits or ran in a place whose addresses are made can be taken apart.
use Rattle.std.proofs.Common.{◌≡◌, ◌∙◌, ℕ, ◌-◌, ◌<◌, ◌≤◌, List, [], ◌∷◌, length, sym, arith}
use Rattle.loop_run.proofs.Names.{All, All-cons, All-weaker, AllRan, AllSit, AreFiveOf, AreKnown, CanLeave, First, gateway_at, HearsNothing, IsNewAt, LinksState, LoopSetup, node_at, RanAt, Seat, Second, SitsAt, slice_get_within}
use Rattle.net_link.specs.declared.link.Link as paths
use Rattle.loop_run.specs.declared.seat.Seat.TheVariants as seat
use Rattle.loop_run.proofs.ListLemmas.{all_by_place}

module _ {L : Type 0} (tells : paths.Ghosts L) (setup : LoopSetup) (count : ℕ) (now : LinksState)
    (known : AreKnown setup count now) where
  known_first : (place : ℕ) {at : _} → place < count → place < setup.nodes → at ≡ node_at place First → now.IsMade at
  known_first place less inside is = rw is (known.nodes place less inside).0

  known_second : (place : ℕ) {at : _} → place < count → place < setup.nodes → at ≡ node_at place Second → now.IsMade at
  known_second place less inside is = rw is (known.nodes place less inside).1

  known_gateway : (place : ℕ) {at : _} → place < count → setup.nodes ≤ place
      → at ≡ gateway_at (place - setup.nodes) → now.IsMade at
  known_gateway place less behind is = rw is (known.gateways (place - setup.nodes) (omega arith))

  -- five links of an address have it
  all_there : {at to : _} → to ≡ at → (links : List L) → AreFiveOf tells at links
      → All (λ (link : L). (tells.state link).address ≡ to) links
  all_there is [] five = absurd five
  all_there {at} {to} is (link ∷ links) five =
      All-cons (λ (l : L). (tells.state l).address ≡ to) link links (five.1.address ∙ sym is)
      (All-weaker (λ (l : L). HearsNothing at (tells.state l)) (λ (l : L). (tells.state l).address ≡ to)
      (λ (l : L) h. h.address ∙ sym is) links five.2)

  sits_can : (place : ℕ) → place < count → (s : Seat L) → SitsAt tells setup place s → CanLeave tells now s
  sits_can place less (seat.Node linked) (inside, is) =
      (known_first _ less inside is.first.at, known_second _ less inside is.second.at)
  sits_can place less (seat.Gateway g) (behind, is) = (
    All-weaker (λ (l : L). IsNewAt g.address (tells.state l)) (λ (l : L). (tells.state l).address ≡ g.address)
        (λ (l : L) new. new.at) g.links.items is.links.new,
    known_gateway _ less behind is.address,
  )
  sits_can place less (seat.RanNode ended linked) sits = absurd sits
  sits_can place less _ sits = absurd sits

  ran_can : (place : ℕ) → place < count → (s : Seat L) → RanAt tells setup place s → CanLeave tells now s
  ran_can place less (seat.RanNode ended linked) (inside, ran) = (
    (known_first _ less inside ran.first, known_second _ less inside ran.second),
    λ is. rw is at ran.ends,
  )
  ran_can place less (seat.RanGateway stops g) (behind, served) = (
    (all_there served.address _ served.links, known_gateway _ less behind served.address),
    served.cause,
  )
  ran_can place less (seat.Node linked) ran = absurd ran
  ran_can place less _ ran = absurd ran

  pub all_sit_can : (seats : List (Seat L)) → length seats ≡ count → AllSit tells setup seats
      → All (CanLeave tells now) seats
  all_sit_can seats long sit =
      all_by_place _ _
      (λ place s at. sits_can _ (omega (arith, (slice_get_within seats place s at))) s (sit place s at))

  pub all_ran_can : (seats : List (Seat L)) → length seats ≡ count → AllRan tells setup seats
      → All (CanLeave tells now) seats
  all_ran_can seats long ran =
      all_by_place _ _ (λ place s at. ran_can _ (omega (arith, (slice_get_within seats place s at))) s (ran place s at))
