-- A gateway of a world, and how it moves: by commits and openings again, by stopping and opening.
use Rattle.std.specs.Prelude.{ℕ, Bool, true, false, not, nat_le, ◌||◌, ◌-◌, if◌then◌else◌, List, [], ◌++◌, length, map, take, filter, Option, Some, None}
use Rattle.gw_base.specs.declared.address.NodeId.{NodeId}
use Rattle.gw_base.specs.declared.history.HistoryAct.{HistoryAct}
use Rattle.gw_base.specs.declared.history.HistoryAct.TheVariants.{Start}
use Rattle.gw_base.specs.declared.history.HistoryEntry.{HistoryEntry}
use Rattle.gateway_answer.specs.Answered.{no_caller}
use Rattle.gateway_answer.specs.Value.{BookValue, Fortune, history_of, recorded, reopened, standing_for, tried}
use Rattle.once_core.specs.Messages.{failing, is_response}
use Rattle.once_core.specs.declared.message.Message.{Message}
use Rattle.once_core.specs.declared.message.Waiting.{Waiting}

-- What decides in a gateway, each an arbitrary yes or no: which acts an answer to a node may record behind a history,
-- by limits and by room; whether there is room for a Start or a Tick; whether a Close that is due may be made; and
-- whether a batch is so full that it is committed first. And for how long files stay open.
pub record Rules : Type 0 where
  pub may : List HistoryEntry → NodeId → HistoryAct → Bool
  pub room : List HistoryEntry → HistoryAct → Bool
  pub may_close : List HistoryEntry → Bool
  pub is_full : BookValue → Bool
  pub open_time : ℕ

-- A gateway: its book, or, of one that is down, what its journal holds, of which the firm part stands for certain; the
-- answers that wait, in their order; whether it is down; and how often it has redirected since it was opened.
pub record Gateway : Type 0 where
  pub book : BookValue
  pub waiting : List Waiting
  pub is_down : Bool
  pub redirects : ℕ

-- a gateway after it moved, and the messages that it sent
pub record Moved : Type 0 where
  pub gateway : Gateway
  pub sends : List Message

abbrev pub still : Gateway → Moved
still g = record { gateway = g; sends = [] }

-- a second move after the first
abbrev pub followed : Moved → (Gateway → Moved) → Moved
followed first next =
    record { gateway = (next first.gateway).gateway; sends = first.sends ++ (next first.gateway).sends }

-- Answers that wait.

-- its front is firm
abbrev pub is_reached : BookValue → Waiting → Bool
is_reached book w = nat_le w.front (length book.firm)

-- those whose front is firm are sent, in their order, and the others wait
abbrev pub settling : Gateway → Moved
settling g = record {
  gateway = record g { waiting = filter (λ w. not (is_reached g.book w)) g.waiting };
  sends = map (λ w. w.message) (filter (is_reached g.book) g.waiting);
}

-- the gateway broke: each request that waits for its answer is told of the failure, and the other answers are given up
abbrev pub giving_up : Gateway → Moved
giving_up g = record {
  gateway = record g { waiting = [] };
  sends = map (λ w. failing w.message) (filter (λ w. is_response w.message) g.waiting);
}

-- the gateway once its book has become this one
abbrev pub with_book : BookValue → Gateway → Moved
with_book book g = if book.is_broken then giving_up (record g { book = book }) else settling (record g { book = book })

-- Commits.

-- a commit; where the journal is broken it is opened again
abbrev pub book_committing : Fortune → BookValue → BookValue
book_committing f book = if book.is_broken then reopened book f.reopening else tried f book

abbrev pub committing : Fortune → Gateway → Moved
committing f g = with_book (book_committing f g.book) g

-- what comes before a datagram is answered or a mark is made: a broken journal is opened again, and a full batch is
-- committed
abbrev pub readying : Rules → Fortune → Gateway → Moved
readying rules f g = if g.book.is_broken || rules.is_full g.book then committing f g else still g

-- Stopping and opening.

-- a gateway that stopped: its first `keep` entries are left, and all firm ones in any case, of a broken one the torn
-- entries behind them, too
abbrev pub cut : ℕ → Gateway → Gateway
cut keep g = record {
  book = record g.book { rest = take (keep - length g.book.firm) g.book.rest; is_broken = false };
  waiting = [];
  is_down = true;
  redirects = g.redirects;
}

-- a Start that no session made, where there is room for it
abbrev pub with_start : Rules → BookValue → BookValue
with_start rules book = if rules.room (history_of book) Start then recorded book 0 no_caller Start else book

-- the whole of what the journal holds is firm
abbrev pub opened : Rules → Gateway → Gateway
opened rules g = record {
  book = with_start rules (standing_for (history_of g.book));
  waiting = [];
  is_down = false;
  redirects = 0;
}

-- the same; where another machine opens in its place, that one holds its first `keep` entries, and all firm ones
abbrev pub opened_holding : Option ℕ → Rules → Gateway → Gateway
opened_holding None rules g = opened rules g
opened_holding (Some keep) rules g = opened rules (cut keep g)
