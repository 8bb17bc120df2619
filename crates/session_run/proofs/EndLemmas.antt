-- What a gateway hands back that served, or that had no memory to.
use Rattle.std.proofs.Common.{◌≡◌, ◌≤◌, inl, inr, ℕ, Bool, true, List, [], ◌∷◌, ◌++◌, length, Option, None, Some, refl, sym, subst, ◌∙◌, arith}
use Rattle.session_run.proofs.Names.{Addr, All, All-head, All-nil, All-tail, All-weaker, AnyOf, append-nil, AreAllSettled, AreDesksOf, AreFiveOf, AreNewAt, ArePassesFor, AreSettledWith, began_at, Begins, CountsTurns, Datagram, Desk, Facts, Ghosts, GoesOnUntil, HasDispatched, HasFailed, HasStopCause, HasWorked, HaveReplied, HaveServed, HearsNothing, HistoryEntry, IfSome_then, IfTurns, Inbox, InboxPass, IsCalledFor, IsEmpty, IsNewAt, IsOf, IsReply, known_among, known_by, link_of, links_of, NoneFailed, option_or, Pair, Pass, Reception, Rose, sent_by, slice_index_or, Stop, stop_among, TakesAtMost, Team, TeamWorksOn, TellsOfClock, TurnCell, turns_by, Until, Writer, ⊤}
use Rattle.cdr_shelf.specs.declared.shelf.Shelf as shelves
use Rattle.gateway_answer.specs.Value.{BookValue, history_of, torn_of}
use Rattle.gateway_book.specs.Book.{value_of}
use Rattle.gateway_book.specs.Turning.{facts_of}
use Rattle.gateway_book.specs.declared.book.Book.{Book}
use Rattle.gw_base.specs.Facts.{joined}
use Rattle.net_link.specs.declared.link.Link as paths
use Rattle.job_inbox.specs.Inbox as inboxes
use Rattle.node_session.specs.Writing as writing
use Rattle.turn_cell.specs.Cell as cells
use Rattle.session_run.specs.declared.stop.Stop.TheVariants as stop
use Rattle.session_run.specs.declared.until.Until.TheVariants as until
use Rattle.session_run.proofs.ReceptionLemmas.{never_by_clock}
use Rattle.session_run.proofs.StopLemmas.{none_of}
use Rattle.session_run.proofs.TeamLemmas.{all_five, all_four, if_some, joined_holds}

module _ {F L : Type 0} {files : shelves.Ghosts F} {tells : paths.Ghosts L} {told : Bool} {at : Addr} {start : Facts}
    {writer : Writer F files} where
  -- what all have done they have done still
  pub have_served : {r r' : Reception L} {team team' : Team F L files}
      → HaveServed files tells told at start writer r team
      → TeamWorksOn files tells told team team' → ((a : Addr) → HasDispatched tells a r → HasDispatched tells a r')
      → HaveServed files tells told at start writer r' team'
  have_served s works receives = record {
    dispatched = receives at s.dispatched;
    one = works.one at (began_at start 0) s.one;
    two = works.two at (began_at start 1) s.two;
    three = works.three at (began_at start 2) s.three;
    four = works.four at (began_at start 3) s.four;
    written = works.writes (began_at start 4) writer s.written;
  }

  module _ {r : Reception L} {team : Team F L files} (s : HaveServed files tells told at start writer r team) where
    abbrev links : List L
    links = links_of r team

    pub are_five : AreFiveOf tells at links
    are_five = (
      refl,
      record { address = s.dispatched.address; sent = s.dispatched.unsent },
      all_four (λ link. HearsNothing at (tells.state link)) s.one.link s.two.link s.three.link s.four.link,
    )

    -- the turns that were to be taken were taken, unless something stopped it
    pub turns_taken : (ends : Until) → IfTurns ends (λ n. CountsTurns tells n r) → (result : Option Stop)
        → result ≡ option_or r.stop (stop_among team) → (r.stop ≡ None → stop_among team ≡ None → r.is_over ≡ true)
        → IfTurns ends (TakesAtMost tells links result)
    turns_taken (until.QuietAfter count all) counts result is over = tt
    turns_taken (until.Turns n) counts result is over = (
      omega (arith, counts.most),
      λ none. let both = none_of r.stop (stop_among team) (sym is ∙ none) in
          omega (arith, counts.over (over both.0 both.1), counts.turns both.0),
    )

    module _ {clock clock' : ℕ} (by_clock : TellsOfClock clock clock' r.stop)
        (still : r.stop ≡ None → (link_of tells r).faults ≡ 0) where
      -- where nothing stopped any of them, nothing failed
      calm : option_or r.stop (stop_among team) ≡ None → (clock' ≡ clock) × NoneFailed tells links
      calm none =
          let a = team.first.0 in
          let b = team.first.1 in
          let c = team.second.0 in
          let d = team.second.1 in
          let all = none_of r.stop (stop_among team) none in
          let abcd = none_of (option_or (option_or a.stop b.stop) c.stop) d.stop all.1 in
          let abc = none_of (option_or a.stop b.stop) c.stop abcd.0 in
          let ab = none_of a.stop b.stop abc.0 in (
            by_clock.1 (never_by_clock r.stop all.0),
            all_five (λ link. (tells.state link).faults ≡ 0) (still all.0) (s.one.calm ab.0) (s.two.calm ab.1)
                (s.three.calm abc.1) (s.four.calm abcd.1),
          )

      -- what stopped one of them, if anything did
      abbrev Caused : Option Stop → Type 0
      Caused None = ⊤
      Caused (Some why) = HasStopCause tells clock clock' links (Some why)

      caused : (a : Option Stop) → (a ≡ Some stop.Link → AnyOf (HasFailed tells) links)
          → (a ≡ Some stop.Clock → Rose clock clock') → Caused a
      caused (Some stop.Link) by_link rose = by_link refl
      caused (Some stop.Clock) by_link rose = rose refl
      caused _ by_link rose = tt

      by_desk : (began : _) (desk : Desk L) → HasWorked tells told at began desk → (HasFailed tells desk.link → AnyOf (HasFailed tells) links)
          → Caused desk.stop
      by_desk began desk w among = caused desk.stop (λ is. among (w.cause is)) (λ is. absurd (w.no_clock is))

      or_other : (a b : Option Stop) → Caused a → Caused b → Caused (option_or a b)
      or_other None b ca cb = cb
      or_other (Some x) b ca cb = ca

      pub has_cause : (result : Option Stop) → result ≡ option_or r.stop (stop_among team)
          → HasStopCause tells clock clock' links result
      has_cause None is = calm (sym is)
      has_cause (Some why) is = subst Caused (sym is)
          (or_other r.stop (stop_among team) (caused r.stop (λ is. inl (s.dispatched.cause is)) by_clock.0)
          (or_other (option_or (option_or team.first.0.stop team.first.1.stop) team.second.0.stop) team.second.1.stop
          (or_other (option_or team.first.0.stop team.first.1.stop) team.second.0.stop
          (or_other team.first.0.stop team.first.1.stop
          (by_desk (began_at start 0) team.first.0 s.one (λ f. inr (inl f)))
          (by_desk (began_at start 1) team.first.1 s.two (λ f. inr (inr (inl f)))))
          (by_desk (began_at start 2) team.second.0 s.three (λ f. inr (inr (inr (inl f))))))
          (by_desk (began_at start 3) team.second.1 s.four (λ f. inr (inr (inr (inr (inl f))))))))

-- ---- where nobody served

-- the firm part of a book begins its history with the torn entries
value_begins : (v : BookValue) → Begins v.firm (history_of v ++ torn_of v)
value_begins v = (v.rest, grind (arith, append-nil))

begins_itself : (xs : List HistoryEntry) → Begins xs xs
begins_itself xs = ([], sym (append-nil xs))

-- a history that nobody added to
pub goes_nowhere_until : {A : Type 0} {device : Ghosts A} {heard : Option (List Datagram)}
    (book : Book A device) {last : Option ℕ}
    → last ≡ None → GoesOnUntil heard (facts_of book) (facts_of book) last
goes_nowhere_until {heard = heard} book none = record {
  goes = record {
    stood = joined (facts_of book);
    tail = [];
    whole = sym (append-nil (joined (facts_of book)));
    stood_is = begins_itself (joined (facts_of book));
    firm = value_begins (value_of book);
    begins = begins_itself (facts_of book).firm;
    first = value_begins (value_of book);
    answers = All-nil (IsCalledFor (facts_of book).size heard);
  };
  jobs = λ session. [];
  answers = record {
    were_heard = λ session. if_some heard (λ list. tt);
    answers = λ session. tt;
    no_more = λ session many. refl;
  };
  latest = none;
}

module _ {L : Type 0} (tells : paths.Ghosts L) (at : Addr) where
  abbrev IsNew : L → Type 0
  IsNew link = IsNewAt at (tells.state link)

  -- new links have sent nothing
  none_sent : (all : List L) → All IsNew all → IsEmpty (sent_by tells all)
  none_sent [] new = refl
  none_sent (link ∷ others) new = joined_holds _ (sent_by tells others) (tells.state link).sent
      (none_sent others (All-tail IsNew link others new)) (All-head IsNew link others new).sent (λ xs ys p q. rw (p, q))

  pub none_have_replied : {heard : Option (List Datagram)} {start now : Facts} (all : List L) → All IsNew all
      → HaveReplied tells heard start now all
  none_have_replied {heard = heard} {start = start} {now = now} all new = record {
    each = λ k d lt. IfSome_then (tells.state (slice_index_or all k d)).sent (new k d lt).sent
        (λ list is. rw is (All-nil (IsReply heard start.size now.firm start.faults now.faults)));
    in_turn = λ session. if_some heard
        (λ asked. IfSome_then (sent_by tells all) (none_sent all new) (λ list is. rw is tt));
  }

  -- five new links are five of the address
  pub new_five : (all : List L) → AreNewAt tells at all → AreFiveOf tells at all
  new_five [] are = absurd (omega (arith, are.count))
  new_five (link ∷ others) are =
      let first = are.new 0 link (omega arith) in (
        omega (arith, are.count),
        record { address = first.at; sent = first.sent },
        All-weaker IsNew (λ other. HearsNothing at (tells.state other))
            (λ other new. record { address = new.at; turns = new.turns; received = new.received }) others
            (All-tail IsNew link others are.new),
      )

-- who had no memory took no turn, and isn't one whom nothing stopped
pub never_served : {L : Type 0} {tells : paths.Ghosts L} {at : Addr} {all : List L} {stopped : Option Stop}
    → AreNewAt tells at all
    → stopped ≡ Some stop.NoMemory → (n : ℕ) → TakesAtMost tells all stopped n
never_served {tells = tells} {at = at} {all = all} new is n = (few all new, λ none. absurd (cc (is, none)))
  where
    few : (l : List _) → AreNewAt tells at l → turns_by tells l ≤ n
    few [] are = omega arith
    few (link ∷ others) are = let first = (are.new 0 link (omega arith)).turns in omega (arith, first)

-- ---- how what served is taken apart

module _ {V : Type 0} (cell : TurnCell V) {L : Type 0} where
  -- the passes that the desks and who writes give back are those of the cell
  pub passes_of_cell : (list : List Inbox) (first second : Pair L) (passes : Pass × Pass × Pass × Pass) (has : Option Pass) (last : Pass)
      → AreDesksOf cell list first second → ArePassesFor passes first second → IsOf cell has → has ≡ Some last
      → cells.ArePassesOf cell (passes.0 ∷ passes.1 ∷ passes.2 ∷ passes.3 ∷ last ∷ [])
  passes_of_cell (i ∷ j ∷ k ∷ l ∷ []) first second passes has last desks are own is = all_five (cells.IsPassOf cell)
      (rw are.0 at desks.0.0.worker) (rw are.1 at desks.0.1.worker) (rw are.2 at desks.1.0.worker)
      (rw are.3 at desks.1.1.worker) (rw is at own)
  passes_of_cell _ first second passes has last desks are own is = absurd desks

module _ {F L : Type 0} (files : shelves.Ghosts F) (team : Team F L files) where
  pub known_is : (passes : Pass × Pass × Pass × Pass) (last : Pass) → ArePassesFor passes team.first team.second → writing.pass_of team.actor ≡ Some last
      → cells.known_by (passes.0 ∷ passes.1 ∷ passes.2 ∷ passes.3 ∷ last ∷ []) ≡ known_among team
  known_is passes last are is = λ i.
      known_by (sym are.0 i) ∷ known_by (sym are.1 i) ∷ known_by (sym are.2 i) ∷ known_by (sym are.3 i) ∷ known_by (sym is i) ∷ []

  pub all_settled : (all : List InboxPass) (pushes : InboxPass × InboxPass × InboxPass × InboxPass) → all ≡ pushes.0 ∷ pushes.1 ∷ pushes.2 ∷ pushes.3 ∷ []
      → AreSettledWith pushes team.first team.second → AreAllSettled (inboxes.known_by all) team
  all_settled all pushes is settled = rw is settled

-- a list without elements to which five were pushed has these
pub five_pushed : {X : Type 0} (l0 l1 l2 l3 l4 l5 : List X) (a b c d e : X) → length l0 ≡ 0 → l1 ≡ l0 ++ a ∷ [] → l2 ≡ l1 ++ b ∷ []
    → l3 ≡ l2 ++ c ∷ [] → l4 ≡ l3 ++ d ∷ [] → l5 ≡ l4 ++ e ∷ [] → l5 ≡ a ∷ b ∷ c ∷ d ∷ e ∷ []
five_pushed [] l1 l2 l3 l4 l5 a b c d e none p1 p2 p3 p4 p5 = rw (p5, p4, p3, p2, p1)
five_pushed (x ∷ l0) l1 l2 l3 l4 l5 a b c d e none p1 p2 p3 p4 p5 = absurd (omega (arith, none))
