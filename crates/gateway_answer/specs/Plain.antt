-- What an owned answer says, and which histories the plain answer takes.
use Rattle.std.specs.Prelude.{ℕ, ◌<◌, ◌^◌, List}
use Rattle.std.specs.Option.{ForSome}
use Rattle.gw_base.specs.History.{top_of}
use Rattle.gw_base.specs.declared.history.HistoryEntry.{HistoryEntry}
use Rattle.gateway_answer.specs.Answer as of
use Rattle.gateway_answer.specs.declared.plain.OwnedAnswer.{OwnedAnswer}
use Rattle.gateway_answer.specs.declared.plain.OwnedAnswer.TheVariants as answer

abbrev pub answer_view : OwnedAnswer → of.Decided
answer_view (answer.Drop why) = of.Silent why
answer_view (answer.Reply reply act) = of.Says reply act

-- no number of a history is too big for the nearest number to be found, as in each fit history
abbrev pub IsBounded : List HistoryEntry → Type 0
IsBounded h = (node : ℕ) → ForSome (top_of node h) (λ t. t < 2 ^ 63)
