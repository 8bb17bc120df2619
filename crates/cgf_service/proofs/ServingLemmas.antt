-- What a service comes to on links that were made, and given back.
use Rattle.std.proofs.Common.{◌≡◌, ◌⊎◌, ⊎_elim, ℕ, ◌+◌, ◌<◌, ◌≤◌, ◌^◌, true, true≢false, List, [], ◌∷◌, Option, None, Some, refl, sym, ap, subst, ◌∙◌, arith}
use Rattle.cgf_service.proofs.Names.{added, address_in, All, All-cons, All-nil, All-weaker, AnyOf, area_of, AreFiveOf, AreSound, Book, Datagram, facts_of, GivesBack, GoesOnUntil, HasFailed, HasMade, HasReplied, HasServedAt, HasStopCause, HaveReplied, heard_by, HistoryEntry, IfSome, IfSome_then, is_broken, IsEmpty, IsHeard, IsIdleAt, IsReply, LinksState, NoneFailed, received_with, sent_by, sent_with, Serving, size_of, StaysAs, TakesAtMost, tells_lists, turns_with, UsesLinks, value_of, WhereTold, Writer}
use Rattle.area_disk.specs.declared.area.Area as areas
use Rattle.cdr_shelf.specs.declared.shelf.Shelf as shelves
use Rattle.gw_base.specs.Faults.{Rose}
use Rattle.gw_base.specs.declared.moment.Moment.{Moment}
use Rattle.net_link.specs.Datagrams.{joined}
use Rattle.net_link.specs.declared.link.Link as paths
use Rattle.session_run.specs.Desks.{HearsNothing}
use Rattle.session_run.specs.Filing.{KeepsWriter}
use Rattle.session_run.specs.declared.stop.Stop.{Stop}
use Rattle.session_run.specs.declared.stop.Stop.TheVariants as stop
use Rattle.cgf_service.proofs.GivenBackLemmas.{all_sent, goes_on_there, heard_there, none_sent_by, reply_there, rose_before, rose_still, sent_grows, turns_none}
use Rattle.cgf_service.proofs.ServiceLemmas.{HeardInTurn, ReplyLater, begins_self, none_in_turn, nothing_befell, same_facts}

-- what is told in the end was told before
told_before : (new old : Option (List Datagram)) → IfSome new (λ list. old ≡ Some list) → (list : List Datagram)
    → new ≡ Some list → old ≡ Some list
told_before None old same list is = absurd (cc is)
told_before (Some l) old same list is = same ∙ is

some_stop : (why : Stop) → ◌≡◌ {A = Option Stop} (Some why) None → ⊥
some_stop why is = cc is

module _ {A F L : Type 0} (tells : areas.Ghosts A) (files : shelves.Ghosts F) (links : paths.Ghosts L) (of : Serving) (old mid new : LinksState) where
  -- what the law of what links sent says
  abbrev SentBehind : Type 0
  SentBehind = (told : Option (List Datagram)) (all : List L) → sent_with links told all ≡ joined told (sent_by links all)

  -- Links were made and given back: what is told of other addresses stays.
  used : (made back : List L) (stops : Option Stop) → HasMade links (address_in of) old mid made stops
      → GivesBack links (address_in of) mid new back → new.turns (address_in of) ≤ old.turns (address_in of) + of.turns
      → UsesLinks of old new
  used made back stops has gave most = record {
    most = most;
    others_turns = λ a other. gave.others_turns a other ∙ has.keeps.turns a;
    others_received = λ a other list is. sym (has.keeps.received a)
        ∙ told_before (new.received a) (mid.received a) (gave.others_received a other) list is;
    others_sent = λ a other list is. sym (has.keeps.sent a)
        ∙ told_before (new.sent a) (mid.sent a) (gave.others_sent a other) list is;
  }

  -- Where links weren't made the gateway didn't serve.

  kept_self : (h : List HistoryEntry) (writer : Writer F files) → is_broken writer ≡ true → KeepsWriter files (tells_lists tells) h writer writer
  kept_self h writer broken = record {
    settings = refl;
    later = omega arith;
    taken = λ whole. absurd (true≢false (sym broken ∙ whole));
    files = λ told tells_files all begins holds. holds;
  }

  rose_in_all : (made : List L) (stops : Option Stop) → HasMade links (address_in of) old mid made stops → GivesBack links (address_in of) mid new made
      → Rose old.faults mid.faults ⊎ AnyOf (HasFailed links) made → Rose old.faults new.faults
  rose_in_all made stops has gave cause = ⊎_elim
      (λ (r : Rose old.faults mid.faults). rose_still old.faults mid.faults new.faults has.later gave.later r)
      (λ (a : AnyOf (HasFailed links) made). rose_before old.faults mid.faults new.faults has.later (gave.failed a))
      cause

  pub unserved : SentBehind → (book : Book A tells) (writer : Writer F files) (clock : ℕ) (made : List L) (why : Stop) (stops : Option Stop)
      → stops ≡ Some why → is_broken writer ≡ true
      → old.turns (address_in of) < 2 ^ 63 → AreSound (tells_lists tells) (facts_of book)
      → HasMade links (address_in of) old mid made stops
      → GivesBack links (address_in of) mid new made
      → HasServedAt tells files of book book writer writer old new clock clock (record { last = None; stop = Some why })
  unserved law book writer clock made why stops is_why broken few sound made_so gave = record {
    goes_on = nothing_befell (tells_lists tells) (new.received (address_in of)) (facts_of book) sound;
    replies = λ told. sent_none;
    stays = same_facts (facts_of book);
    kept = kept_self (value_of book).firm writer broken;
    turns = λ none. absurd (some_stop why none);
    uses = used made made (Some why) has gave (omega (arith, no_turns));
    later = (let a = has.later in let b = gave.later in omega (arith, a, b), omega arith);
    link = λ is. rose_in_all made (Some why) has gave (has.cause is);
    time = λ is. absurd (has.no_clock is);
    link_stood = λ none. absurd (some_stop why none);
    time_stood = λ none. refl;
  }
    where
      has : HasMade links (address_in of) old mid made (Some why)
      has = rw is_why at made_so

      same_turns : mid.turns (address_in of) ≡ old.turns (address_in of)
      same_turns = has.keeps.turns (address_in of)

      no_turns : new.turns (address_in of) ≡ old.turns (address_in of)
      no_turns = gave.turns ∙ turns_none links (mid.turns (address_in of)) made (omega (arith, few, same_turns))
          (All-weaker (λ (l : L). IsIdleAt (address_in of) (links.state l)) (λ (l : L). (links.state l).turns ≡ 0)
          (λ (l : L) idle. idle.turns) made has.idle)
          ∙ same_turns

      none : IsEmpty (sent_by links made)
      none = none_sent_by links made (All-weaker (λ (l : L). IsIdleAt (address_in of) (links.state l)) (λ (l : L). IsEmpty (links.state l).sent)
          (λ (l : L) idle. idle.sent) made has.idle)

      faults : ℕ
      faults = tells.faults (area_of book)

      sent_none : HasReplied (size_of book) (value_of book).firm faults faults (address_in of) old new
      sent_none = record {
        sent = sent_by links made;
        is_sent = sent_grows links law (old.sent (address_in of)) (mid.sent (address_in of)) (new.sent (address_in of)) made
            (has.keeps.sent (address_in of)) gave.sent;
        each = IfSome_then (sent_by links made) none
            (λ list is. rw is
            (All-nil (IsReply (new.received (address_in of)) (size_of book) (value_of book).firm faults faults)));
        in_turn = none_in_turn (size_of book) (value_of book).firm faults faults (new.received (address_in of)) (sent_by links made) none;
      }

  -- All links were made, and the sessions ran on them.

  pub all_there : (back : List L) → AreFiveOf links (address_in of) back → All (λ (l : L). (links.state l).address ≡ address_in of) back
  all_there [] five = absurd five
  all_there (link ∷ others) five = All-cons (λ (l : L). (links.state l).address ≡ address_in of) link others five.1.address
      (All-weaker (λ (l : L). HearsNothing (address_in of) (links.state l)) (λ (l : L). (links.state l).address ≡ address_in of)
      (λ (l : L) h. h.address) others five.2)

  -- what ran: the book, the writer and the links that came back, and why it stopped, if it did
  pub record HasRun (book book' : Book A tells) (writer writer' : Writer F files) (clock clock' : ℕ) (back : List L) (stops : Option Stop)
      (last : Option Moment) : Type 0 where
    pub history : WhereTold (tells_lists tells) (GoesOnUntil (heard_by links back) (facts_of book) (facts_of book') last)
    pub replies : WhereTold (tells_lists tells) (HaveReplied links (heard_by links back) (facts_of book) (facts_of book') back)
    pub stays : StaysAs (facts_of book) (facts_of book')
    pub five : AreFiveOf links (address_in of) back
    pub turns : TakesAtMost links back stops of.turns
    pub kept : KeepsWriter files (tells_lists tells) (value_of book').firm writer writer'
    pub later : clock ≤ clock'
    pub cause : HasStopCause links clock clock' back stops

  pub served : SentBehind → HeardInTurn → ReplyLater → (book book' : Book A tells) (writer writer' : Writer F files) (clock clock' : ℕ) (made back : List L) (stops : Option Stop)
      (last : Option Moment) (made_stops : Option Stop) → HasMade links (address_in of) old mid made made_stops
      → made_stops ≡ None → HasRun book book' writer writer' clock clock' back stops last
      → GivesBack links (address_in of) mid new back → old.turns (address_in of) < 2 ^ 63 → of.turns ≤ 2 ^ 40
      → HasServedAt tells files of book book' writer writer' old new clock clock' (record { last = last; stop = stops })
  served sends hears replies book book' writer writer' clock clock' made [] stops last made_stops has all_made ran gave
      few short = absurd ran.five
  served sends hears replies book book' writer writer' clock clock' made (link ∷ others) stops last made_stops has
      all_made ran gave few short = record {
        goes_on = λ told. goes_on_there hears (received_with links (mid.received (address_in of)) others) heard there gave.received more
            (facts_of book) (facts_of book') last (ran.history told);
        replies = λ told. record {
          sent = sent_by links (link ∷ others);
          is_sent = sent_grows links sends (old.sent (address_in of)) (mid.sent (address_in of)) (new.sent (address_in of)) (link ∷ others)
              (has.keeps.sent (address_in of)) gave.sent;
          each = all_sent links (Fits there) (link ∷ others)
              (All-weaker (λ (l : L). IfSome (links.state l).sent (λ list. All (Fits heard) list)) (λ (l : L). IfSome (links.state l).sent (λ list. All (Fits there) list))
              (λ (l : L) all. IfSome_then (links.state l).sent all
              (λ list each. All-weaker (Fits heard) (Fits there) reply_is_there list each))
              (link ∷ others) (ran.replies told).each);
          in_turn = replies (size_of book) (value_of book').firm (value_of book').firm (tells.faults (area_of book)) (tells.faults (area_of book'))
              (tells.faults (area_of book)) (tells.faults (area_of book')) (received_with links (mid.received (address_in of)) others) heard there
              (sent_by links (link ∷ others)) (begins_self (value_of book').firm) (λ rose. rose) gave.received (ran.replies told).in_turn;
        };
        stays = ran.stays;
        kept = ran.kept;
        turns = λ none. gave.turns ∙ ap (λ (n : ℕ). added n (links.state link).turns) others_none
            ∙ exact (ran.turns.1 none);
        uses = used made (link ∷ others) made_stops has gave (at_most ran.turns.0);
        later = (let a = has.later in let b = gave.later in omega (arith, a, b), ran.later);
        link = λ is. rose_before old.faults mid.faults new.faults has.later (gave.failed (stopped is));
        time = λ is. subst (λ (s : Option Stop). HasStopCause links clock clock' (link ∷ others) s) is ran.cause;
        link_stood = λ none. gave.calm (calm none).1 ∙ has.calm all_made;
        time_stood = λ none. (calm none).0;
      }
    where
      heard : Option (List Datagram)
      heard = (links.state link).received

      there : Option (List Datagram)
      there = new.received (address_in of)

      more : (d : Datagram) → IsHeard heard d → IsHeard there d
      more d h = heard_there links (mid.received (address_in of)) there link others gave.received d h

      Fits : Option (List Datagram) → Datagram → Type 0
      Fits list = IsReply list (size_of book) (value_of book').firm (tells.faults (area_of book)) (tells.faults (area_of book'))

      reply_is_there : (d : Datagram) → Fits heard d → Fits there d
      reply_is_there d r = reply_there heard there more (size_of book) (value_of book').firm (tells.faults (area_of book)) (tells.faults (area_of book')) d r

      same_turns : mid.turns (address_in of) ≡ old.turns (address_in of)
      same_turns = has.keeps.turns (address_in of)

      others_none : turns_with links (mid.turns (address_in of)) others ≡ old.turns (address_in of)
      others_none = turns_none links (mid.turns (address_in of)) others (omega (arith, few, same_turns))
          (All-weaker (λ (l : L). HearsNothing (address_in of) (links.state l)) (λ (l : L). (links.state l).turns ≡ 0) (λ (l : L) h. h.turns) others ran.five.2)
          ∙ same_turns

      exact : (links.state link).turns ≡ of.turns → added (old.turns (address_in of)) (links.state link).turns ≡ old.turns (address_in of) + of.turns
      exact is = omega (arith, is, few, short)

      at_most : (links.state link).turns ≤ of.turns → new.turns (address_in of) ≤ old.turns (address_in of) + of.turns
      at_most le =
          let sum : new.turns (address_in of)
          ≡ added (turns_with links (mid.turns (address_in of)) others) (links.state link).turns = gave.turns in
          omega (arith, sum, others_none, le)

      stopped : stops ≡ Some stop.Link → AnyOf (HasFailed links) (link ∷ others)
      stopped is = subst (λ (s : Option Stop). HasStopCause links clock clock' (link ∷ others) s) is ran.cause

      -- where nothing stopped it, nothing failed
      calm : stops ≡ None → (clock' ≡ clock) × NoneFailed links (link ∷ others)
      calm none = subst (λ (s : Option Stop). HasStopCause links clock clock' (link ∷ others) s) none ran.cause
