-- Histories that keep to the table of answers.
use Rattle.std.specs.Prelude.{◌≡◌, Bool, true, false, List, [], ◌∷◌, ⊤}
use Rattle.gw_base.specs.History.{is_close_due}
use Rattle.gw_base.specs.Observed.{observed}
use Rattle.gw_base.specs.declared.address.NodeId.{NodeId}
use Rattle.gw_base.specs.declared.history.HistoryAct.{HistoryAct}
use Rattle.gw_base.specs.declared.history.HistoryEntry.{HistoryEntry}
use Rattle.gw_base.specs.declared.key_state.KeyState.{KeyState}
use Rattle.gw_base.specs.declared.key_state.KeyState.TheVariants.{Fresh, Filed, Sealed, Held, Released, Cancelled}
use Rattle.gateway_answer.specs.Fit.{is_act_fit, is_act_lawful}
use Rattle.gateway_index.specs.Limits.{within_limits}
use Rattle.gateway_answer.specs.Marks.{is_mark}
use Rattle.once_core.specs.Epochs.{EachBehind}
use Rattle.once_core.specs.Gateway.{Rules}
use Rattle.once_core.specs.Turn.{RuledTurn}

-- the act of an entry keeps to the table behind these entries: what it files, holds or seals was fresh, and what it
-- releases or cancels was held
abbrev pub IsAdmitted : List HistoryEntry → HistoryEntry → Type 0
IsAdmitted before e = is_act_lawful (observed before) e.act ≡ true

-- so does the act of each entry of a history, behind those before it
abbrev pub AllAdmitted : List HistoryEntry → Type 0
AllAdmitted h = EachBehind IsAdmitted [] h

-- the act of an entry is fit behind these entries: it keeps to the table, and is within the limits of a gateway
abbrev pub IsLimited : List HistoryEntry → HistoryEntry → Type 0
IsLimited before e = is_act_fit (observed before) e.act ≡ true

abbrev pub AllLimited : List HistoryEntry → Type 0
AllLimited h = EachBehind IsLimited [] h

-- rules that allow no act of a node beyond the limits
abbrev pub KeepLimits : Rules → Type 0
KeepLimits rules = (h : List HistoryEntry) (node : NodeId) (act : HistoryAct) →
    rules.may h node act ≡ true → within_limits (observed h node) act ≡ true

-- the rules of each of these turns are such
abbrev pub AllKeepLimits : List RuledTurn → Type 0
AllKeepLimits [] = ⊤
AllKeepLimits (t ∷ later) = KeepLimits t.rules × AllKeepLimits later

-- a mark stands behind these entries only where a record was filed after the last Close
abbrev pub IsMarkDue : List HistoryEntry → HistoryEntry → Type 0
IsMarkDue before e = is_mark e.act ≡ true → is_close_due before ≡ true

-- each mark of a history is due behind the entries before it
abbrev pub AllMarksDue : List HistoryEntry → Type 0
AllMarksDue h = EachBehind IsMarkDue [] h

-- A key's state moves forward: a fresh one gets any state, a held one may be released or cancelled, and each other
-- stays.
abbrev pub moves_on : KeyState → KeyState → Bool
moves_on Fresh Fresh = true
moves_on Fresh Filed = true
moves_on Fresh Sealed = true
moves_on Fresh Held = true
moves_on Fresh Released = true
moves_on Fresh Cancelled = true
moves_on Held Held = true
moves_on Held Released = true
moves_on Held Cancelled = true
moves_on Filed Filed = true
moves_on Sealed Sealed = true
moves_on Released Released = true
moves_on Cancelled Cancelled = true
moves_on before after = false
