-- What stays, whatever happens: laws say that a list goes on, and that two books hold the same.
use Rattle.std.specs.Prelude.{◌≡◌, List, ◌++◌}
use Rattle.gateway_answer.specs.Value.{BookValue}
use Rattle.gw_base.specs.declared.history.HistoryEntry.{HistoryEntry}

-- a list goes on with some more
pub record GrowsTo {A : Type 0} (before after : List A) : Type 0 where
  pub more : List A
  pub is : after ≡ before ++ more

-- two books hold the same history, with the same firm part; how often a commit failed may differ
pub record HoldSame (a b : BookValue) : Type 0 where
  pub firm : a.firm ≡ b.firm
  pub rest : a.rest ≡ b.rest
  pub broken : a.is_broken ≡ b.is_broken

-- a history that holds the firm part of a gateway's, and none or some of the entries behind it
pub record IsBetween (firm rest h : List HistoryEntry) : Type 0 where
  pub front : GrowsTo firm h
  pub back : GrowsTo h (firm ++ rest)
