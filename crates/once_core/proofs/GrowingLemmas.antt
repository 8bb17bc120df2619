-- Firm parts grow in every move of a gateway, and so in every turn.
use Rattle.std.proofs.Common.{ℕ, List, [], ◌++◌, refl, sym, ap, subst, ◌∙◌, append_assoc, append-nil, length, slice_get, arith, ◌≡◌}
use Rattle.once_core.proofs.Names.{along, along-append, answered, at_node, Called, called, delivered_to_node, failed, filed, filed_by, firm_in, Gateway, GrowsTo, Halt, HistoryEntry, items_by, items_of, LogEntry, Moved, ruled_turns, RuledTurn, Rules, submitting, ticking, Turn, turn, World}
use Rattle.node_core.specs.Reached as call
use Rattle.once_core.proofs.CaseLemmas.{if_both, map_known, set_known}
use Rattle.once_core.proofs.PartLemmas.{PartsKeep, turn_keeps, firm_or, firm_there, turns_hold}
pub use Rattle.once_core.proofs.PartLemmas.{book_is}

-- ---- lists that go on

pub on : {A : Type 0} (xs : List A) → GrowsTo xs xs
on xs = record { more = []; is = sym (append-nil xs) }

pub on_with : {A : Type 0} (xs ys : List A) → GrowsTo xs (xs ++ ys)
on_with xs ys = record { more = ys; is = refl }

pub on_on : {A : Type 0} (xs ys zs : List A) → GrowsTo xs ys → GrowsTo ys zs → GrowsTo xs zs
on_on {A} xs ys zs a b = record {
  more = a.more ++ b.more;
  is = b.is ∙ ap (λ (v : List A). v ++ b.more) a.is ∙ append_assoc xs a.more b.more;
}

-- ---- moves of a gateway

abbrev Grown : Gateway → Moved → Type 0
Grown g moved = GrowsTo g.book.firm moved.gateway.book.firm

-- each part of a move does
parts_grow : PartsKeep Grown
parts_grow = record {
  stays = λ g. on g.book.firm;
  follows = λ g first next a b. on_on _ _ _ a b;
  firm = λ g cuts. on_with g.book.firm g.book.rest;
  gone = λ g cuts broken. on g.book.firm;
  torn = λ g cuts. on g.book.firm;
  notes = λ g note now sound due. on g.book.firm;
  cuts = λ g keep. on g.book.firm;
  stands = λ g. if_both (λ (h : List HistoryEntry). GrowsTo g.book.firm h) g.book.is_broken (on g.book.firm) (on_with g.book.firm g.book.rest);
}

-- one that leaves the firm part does
same_grows : (g : Gateway) (moved : Moved) → moved.gateway.book.firm ≡ g.book.firm → Grown g moved
same_grows g moved same = record { more = []; is = same ∙ sym (append-nil g.book.firm) }

-- ---- turns

turn_grows : (rules : Rules) (w : World) (t : Turn) (q : ℕ) → GrowsTo (firm_in w q) (firm_in (turn rules w t) q)
turn_grows rules w t q = turn_keeps {rules = rules} {w = w} {Q = λ place. Grown} {W = λ v. GrowsTo (firm_in w q) (firm_in v q)} (record {
  parts = λ place. parts_grow;
  redirects = λ place cause to g. on g.book.firm;
  fails = λ m there to g. same_grows g (failed m g) (grind arith);
  answers = λ m there to g sound fresh. same_grows g (answered rules w.now m g) (grind arith);
  moves = λ place move grows. map_known (λ (v : World). GrowsTo (firm_in w q) (firm_in v q)) (slice_get w.gateways place) (λ none. on (firm_in w q))
      (λ g there. set_known w.gateways place (move g).gateway g there (λ k o. GrowsTo (firm_in w k) (firm_or o))
      (subst (λ (h : List HistoryEntry). GrowsTo h (move g).gateway.book.firm) (sym (firm_there w place g there)) (grows g)) (λ k apart. on (firm_in w k)) q);
  submits = λ place packet. node_grows place (submitting (length w.gateways) place packet);
  ticks = λ place running. node_grows place (ticking (length w.gateways) place);
  halts = λ place. node_grows place (called (length w.gateways) place Halt);
  starts = λ place fewer. node_grows place (called (length w.gateways) place call.Start);
  hears = λ m there from. node_grows m.node (delivered_to_node (length w.gateways) m.node m);
  same = on (firm_in w q);
  lost = λ v count grows. grows;
  later = λ now. on (firm_in w q);
}) t
  where
    node_grows : (p : ℕ) (call : List LogEntry → Called) → GrowsTo (firm_in w q) (firm_in (at_node w p call) q)
    node_grows p call = map_known (λ (v : World). GrowsTo (firm_in w q) (firm_in v q)) (slice_get w.nodes p) (λ none. on (firm_in w q)) (λ log there. on (firm_in w q))

pub turns_grow : (w : World) (later : List RuledTurn) (q : ℕ) → GrowsTo (firm_in w q) (firm_in (ruled_turns w later) q)
turns_grow w later q = turns_hold (λ (v : World). GrowsTo (firm_in w q) (firm_in v q)) w later (λ v t after is grows. on_on _ _ _ grows (turn_grows t.rules v t.turn q)) (on (firm_in w q))

-- ---- what they file

pub filed_grows : (h g : List HistoryEntry) → GrowsTo h g → GrowsTo (filed h) (filed g)
filed_grows h g goes = record { more = along filed_by h goes.more; is = ap filed goes.is ∙ along-append filed_by [] h goes.more }

pub items_grow : (h g : List HistoryEntry) → GrowsTo h g → GrowsTo (items_of h) (items_of g)
items_grow h g goes = record { more = along items_by h goes.more; is = ap items_of goes.is ∙ along-append items_by [] h goes.more }
