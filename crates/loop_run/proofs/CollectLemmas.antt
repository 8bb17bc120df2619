-- How the seats are taken apart, one after the other.
use Rattle.std.proofs.Common.{◌≡◌, ◌≢◌, inl, inr, ◌∙◌, ℕ, suc, ◌<◌, ◌≤◌, ◌^◌, List, [], ◌∷◌, ◌++◌, length, Option, None, Some, refl, sym, subst, arith}
use Rattle.loop_run.proofs.Names.{Addr, All, All-head, All-tail, All-weaker, AllRan, CanLeave, GrowsOn, IsLoop, Leaves, LinksState, Looped, LoopSetup, none-some, option_or, RanAt, Rose, Seat, Stop}
use Rattle.net_link.specs.declared.link.Link as paths
use Rattle.session_run.specs.declared.stop.Stop.TheVariants as stop
use Rattle.loop_run.specs.declared.seat.Seat.TheVariants as seat
use Rattle.loop_run.proofs.GatewayLemmas.{ReplyLater, StaysInTurn}
use Rattle.loop_run.proofs.LeftLemmas.{HaveLeft, KeepAll, NoneOpen, gateway_left, node_left, none_left}
use Rattle.loop_run.proofs.ListLemmas.{get_before, get_last, length_pushed, some_none}
use Rattle.loop_run.proofs.StillLemmas.{rose_before, rose_still}

none_rose : Rose 0 0 → ⊥
none_rose (inl less) = omega arith
none_rose (inr last) = omega arith

module _ {L : Type 0} (tells : paths.Ghosts L) where
  -- what is known stays known
  pub leaves_on : (s : Seat L) (old new : LinksState) → GrowsOn old new → CanLeave tells old s → CanLeave tells new s
  leaves_on (seat.Node linked) old new on can = (on.made _ can.0, on.made _ can.1)
  leaves_on (seat.RanNode ended linked) old new on can = ((on.made _ can.0.0, on.made _ can.0.1), can.1)
  leaves_on (seat.Gateway g) old new on can = (can.0, on.made _ can.1)
  leaves_on (seat.RanGateway stops g) old new on can = ((can.0.0, on.made _ can.0.1), can.1)
  leaves_on seat.Empty old new on can = tt

  pub first_can : (s : LinksState) (all rest : List (Seat L)) (one : Seat L) → all ≡ one ∷ rest
      → All (CanLeave tells s) all → CanLeave tells s one
  first_can s all rest one is can = All-head (CanLeave tells s) one rest (rw is at can)

  pub rest_can : (old new : LinksState) (all rest : List (Seat L)) (one : Seat L) → all ≡ one ∷ rest → GrowsOn old new
      → All (CanLeave tells old) all → All (CanLeave tells new) rest
  rest_can old new all rest one is on can =
      All-weaker (CanLeave tells old) (CanLeave tells new) (λ s c. leaves_on s old new on c) rest
      (All-tail (CanLeave tells old) one rest (rw is at can))

  module _ (old new : LinksState) (was now : Looped) (why : Option Stop) where
    pub grows_on : (s : Seat L) → Leaves tells s old new was now why → GrowsOn old new
    grows_on seat.Empty left = left.0.on
    grows_on _ left = left.only.on

    link_rose : (s : Seat L) → CanLeave tells old s → Leaves tells s old new was now why → why ≡ Some stop.Link
        → Rose old.faults new.faults
    link_rose (seat.Node linked) can left is = absurd (cc (left.link is, left.link is))
    link_rose (seat.RanNode ended linked) can left is = left.failed (can.1 (left.link is))
    link_rose (seat.Gateway g) can left is = absurd (none-some stop.Link (left.link is))
    link_rose (seat.RanGateway stops g) can left is = left.failed (rw (left.link is) at can.1)
    link_rose seat.Empty can left is = absurd (none-some stop.Link (sym left.2 ∙ is))

    no_clock : (s : Seat L) → CanLeave tells old s → Leaves tells s old new was now why → why ≢ Some stop.Clock
    no_clock (seat.Gateway g) can left is = none-some stop.Clock (left.clock is)
    no_clock (seat.RanGateway stops g) can left is = none_rose (rw (left.clock is) at can.1)
    no_clock seat.Empty can left is = none-some stop.Clock (sym left.2 ∙ is)
    no_clock _ can left is = left.no_clock is

  all_before : {setup : _} (seats : List (Seat L)) (s : Seat L) → AllRan tells setup (seats ++ s ∷ [])
      → AllRan tells setup seats
  all_before seats s ran place other at = ran place other (get_before seats (s ∷ []) place {y = other} at)

  -- These seats were taken apart. Where all had run, and nothing stopped one, all of them are handed out.
  pub record IsLeftSo (setup : LoopSetup) (old now : LinksState) (seats : List (Seat L)) (looped : Looped)
      (why : Option Stop) : Type 0 where
    pub later : old.faults ≤ now.faults
    pub link : why ≡ Some stop.Link → Rose old.faults now.faults
    pub no_clock : why ≢ Some stop.Clock
    pub left : AllRan tells setup seats → ((at : Addr) → old.turns at < 2 ^ 63) → why ≡ None
        → HaveLeft setup old now (length seats) looped

  pub begun_so : (setup : LoopSetup) (old : LinksState) (looped : Looped) → looped.books.items ≡ [] → looped.nodes.items ≡ []
      → IsLeftSo setup old old [] looped None
  begun_so setup old looped books nodes = record {
    later = omega arith;
    link = λ is. absurd (none-some stop.Link is);
    no_clock = λ is. none-some stop.Clock is;
    left = λ ran few none. none_left setup old looped books nodes;
  }

  module _ (setup : LoopSetup) (within : IsLoop setup) (old : LinksState) where
    module _ (keep : KeepAll setup) (none : NoneOpen setup) (stay : StaysInTurn) (reply : ReplyLater) (mid new : LinksState) (was now : Looped)
        (seats : List (Seat L)) where
      one_left : (s : Seat L) → ((at : Addr) → old.turns at < 2 ^ 63) → RanAt tells setup (length seats) s
          → HaveLeft setup old mid (length seats) was → Leaves tells s mid new was now None
          → HaveLeft setup old new (suc (length seats)) now
      one_left (seat.RanNode ended linked) few (less, ran) had left =
          node_left _ _ within old mid new few was now _ had keep none _ _ less ran left
      one_left (seat.RanGateway stops g) few (behind, served) had left =
          gateway_left _ _ within old mid new few was now _ had stay reply g _ behind served left
      one_left (seat.Node linked) few ran had left = absurd ran
      one_left _ few ran had left = absurd ran

      -- one more
      pub left_more : (s : Seat L) (before why : Option Stop) → IsLeftSo setup old mid seats was before → CanLeave tells mid s
          → Leaves tells s mid new was now why → IsLeftSo setup old new (seats ++ s ∷ []) now (option_or before why)
      left_more s (Some first) why so can left = record {
        later = let b = (grows_on mid new was now why s left).later in omega (arith, so.later);
        link = λ is. rose_still _ _ _ so.later (grows_on mid new was now why s left).later
            (so.link is);
        no_clock = λ is. so.no_clock is;
        left = λ ran few is. absurd (some_none _ is);
      }
      left_more s None why so can left = record {
        later =
            let a = so.later in
            let b = (grows_on mid new was now why s left).later in
            omega (arith, a, b);
        link = λ is. rose_before old.faults mid.faults new.faults so.later
            (link_rose mid new was now why s can left is);
        no_clock = λ is. no_clock mid new was now why s can left is;
        left = λ ran few is. subst (λ (n : ℕ). HaveLeft setup old new n now) (sym (length_pushed seats s))
            (one_left s few (ran (length seats) s (get_last seats s))
            (so.left (all_before {setup = setup} seats s ran) few refl)
            (subst (λ (o : Option Stop). Leaves tells s mid new was now o) is left));
      }
