-- The book of a gateway that served, once it is committed and the links are given back.
use Rattle.std.proofs.Common.{◌≡◌, ◌∙◌, ℕ, ◌+◌, List, [], ◌∷◌, ◌++◌, length, append_assoc, length-append, Option, None, Some, subst, arith}
use Rattle.loop_run.proofs.Names.{Addr, All, All-head, All-tail, All-weaker, append-nil, area_length, AreFiveOf, Begins, begun, gateway_at, GrowsBy, HasCommitted, HasServedAt, heard_by, HearsNothing, HistoryEntry, IfSome, IsEmpty, IsLoopBook, joined, LinksState, LoopBook, LoopGateway, nil_from_length, sent_by, StillAt, Stop}
use Rattle.area_disk.specs.Disk.{Rose}
use Rattle.gateway_book.specs.Turning.{facts_of}
use Rattle.gw_base.specs.Facts.{joined as whole_of}
use Rattle.net_link.specs.declared.link.Link as paths
use Rattle.session_run.specs.History.{AnswerInTurn, ReplyInTurn}
use Rattle.session_run.specs.Latest.{Jobs}
use Rattle.session_run.specs.Links.{received_with}
use Rattle.turn_cell.specs.Placed.{placed}
use Rattle.loop_run.proofs.StillLemmas.{Told, grows_before, same_told, still_holds}

-- What was heard.

module _ {L : Type 0} (tells : paths.Ghosts L) where
  -- links that heard nothing add nothing
  none_heard : (told : Told) (links : List L) → All (λ l. IsEmpty (tells.state l).received) links
      → IfSome (received_with tells told links) (λ list. told ≡ Some list)
  none_heard told [] none = same_told _
  none_heard told (link ∷ links) none = by (received_with tells told links) (tells.state link).received
      (none_heard told links (All-tail (λ l. IsEmpty (tells.state l).received) link links none))
      (All-head (λ l. IsEmpty (tells.state l).received) link links none)
    where
      by : (rest own : Told) → IfSome rest (λ list. told ≡ Some list) → IsEmpty own → IfSome (joined rest own) (λ list. told ≡ Some list)
      by None own was is = tt
      by (Some xs) None was is = tt
      by (Some xs) (Some ys) was is = cc (append-nil xs)

  -- what the first link heard is told of the address, behind what was told before
  heard_there : (at : Addr) (told there : Told) (links : List L) → AreFiveOf tells at links
      → IfSome there (λ list. received_with tells told links ≡ Some list) → GrowsBy told (heard_by tells links) there
  heard_there at told there [] five e = absurd five
  heard_there at told there (link ∷ links) five e =
      grows_before told _ _ (tells.state link).received
      (none_heard told links
      (All-weaker (λ l. HearsNothing at (tells.state l)) (λ l. IsEmpty (tells.state l).received) (λ l h. h.received)
      links five.2)) e

same_heard : (told : Told) → GrowsBy (Some []) told told
same_heard told = grind arith

-- Beginnings.

abbrev pub Entries : Type 0
Entries = List HistoryEntry

abbrev tail_of : Entries → Entries
tail_of [] = []
tail_of (e ∷ es) = es

both_begin : {xs ys : _} → Begins xs ys → Begins ys xs → ys ≡ xs
both_begin {xs} {ys} one other =
    let long : length ys ≡ length xs + length one.0 = cc (one.1, length-append xs one.0) in
    let short : length xs ≡ length ys + length other.0 = cc (other.1, length-append ys other.0) in
    let none : one.0 ≡ [] = nil_from_length one.0 (omega arith) in
    cc (one.1, append-nil xs)

begins_then : (xs : Entries) {ys zs : _} → Begins xs ys → Begins ys zs → Begins xs zs
begins_then xs one other = (one.0 ++ other.0, cc (other.1, one.1, append_assoc xs one.0 other.0))

-- the laws of what is in turn
abbrev pub StaysInTurn : Type 0
StaysInTurn = (size : ℕ) (heard : Told) (jobs : Jobs) (before first last : Entries)
    → AnswerInTurn size heard jobs (placed before (first ++ last)) → AnswerInTurn size heard jobs (placed before first)

abbrev pub ReplyLater : Type 0
ReplyLater = (size : ℕ) (firm later : Entries) (before now before' now' : ℕ) (earlier heard all sent : Told) → Begins firm later
    → (Rose before now → Rose before' now') → GrowsBy earlier heard all → ReplyInTurn size firm before now heard sent
    → ReplyInTurn size later before' now' all sent

-- The book.

module _ {L : Type 0} (tells : paths.Ghosts L) (stay : StaysInTurn) (reply : ReplyLater) (place : ℕ) (stops : Option Stop)
    (g : LoopGateway L) (served : HasServedAt tells place stops g) where
  start_whole : whole_of (facts_of served.start) ≡ begun
  start_whole = cc served.begun.value

  start_firm : (facts_of served.start).firm ≡ begun
  start_firm = cc served.begun.value

  stood_begun : served.history.goes.stood ≡ begun
  stood_begun = both_begin (rw start_firm at served.history.goes.firm) (rw start_whole at served.history.goes.stood_is)

  now_whole : whole_of (facts_of g.book) ≡ begun ++ served.history.goes.tail
  now_whole = cc (served.history.goes.whole, stood_begun)

  now_begun : Begins begun (facts_of g.book).firm
  now_begun = rw start_firm at served.history.goes.begins

  module _ (old mid new : LinksState) (still : StillAt (gateway_at place) old mid) (book : LoopBook) (committed : HasCommitted g.book book)
      (back : IfSome (new.received g.address) (λ list. received_with tells (mid.received g.address) g.links.items ≡ Some list))
      (sent : GrowsBy (mid.sent g.address) (sent_by tells g.links.items) (new.sent g.address)) where
    abbrev whole_begun : Begins begun committed.value.history
    whole_begun =
        begins_then begun {ys = (facts_of g.book).firm} {zs = committed.value.history} now_begun committed.value.more

    abbrev rest : Entries
    rest = whole_begun.0

    tail_is : served.history.goes.tail ≡ rest ++ committed.value.within.0
    tail_is = cc (now_whole, committed.value.within.1, whole_begun.1)

    abbrev heard : Told
    heard = heard_by tells g.links.items

    abbrev at_address : Addr → Type 0
    at_address a = GrowsBy (mid.received a) heard (new.received a) × GrowsBy (mid.sent a) (sent_by tells g.links.items) (new.sent a)

    grew : at_address (gateway_at place)
    grew = subst at_address served.address (heard_there _ _ _ _ _ served.links back, sent)

    answers : AnswerInTurn area_length heard served.history.jobs (placed begun rest)
    answers = stay area_length heard served.history.jobs begun rest committed.value.within.0
        (rw tail_is at (rw stood_begun at (rw served.begun.size at served.history.answers)))

    replies : ReplyInTurn area_length (begun ++ rest) 0 0 heard (sent_by tells g.links.items)
    replies =
        rw whole_begun.1 at
        (reply area_length (facts_of g.book).firm committed.value.history 0 0 0 0 (Some []) heard heard
        (sent_by tells g.links.items) committed.value.more (λ rose. rose) (same_heard _)
        (rw served.begun.size at served.replies.in_turn))

    pub served_book : IsLoopBook old new place book
    served_book = record {
      history = rest;
      value = cc (committed.value.value, whole_begun.1);
      heard = heard;
      was_heard = grows_before (old.received (gateway_at place)) _ _ heard still.received grew.0;
      jobs = served.history.jobs;
      answers = answers;
      sent = sent_by tells g.links.items;
      was_sent = grows_before (old.sent (gateway_at place)) _ _ (sent_by tells g.links.items) still.sent grew.1;
      replies = replies;
      size = committed.size ∙ served.stays.size ∙ served.begun.size;
      name = committed.name ∙ served.stays.name ∙ served.begun.name;
    }

-- a book that stands so does still where no more is told of its address
pub book_still : {place : ℕ} {old mid new : LinksState} {book : LoopBook} → StillAt (gateway_at place) mid new
    → IsLoopBook old mid place book → IsLoopBook old new place book
book_still still was = record {
  history = was.history;
  value = was.value;
  heard = was.heard;
  was_heard = still_holds _ _ _ still.received was.was_heard;
  jobs = was.jobs;
  answers = was.answers;
  sent = was.sent;
  was_sent = still_holds _ _ _ still.sent was.was_sent;
  replies = was.replies;
  size = was.size;
  name = was.name;
}
