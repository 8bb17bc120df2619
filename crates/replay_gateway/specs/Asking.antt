-- What is asked of a gateway's book: what the area is asked for it, and what comes of it.
use Rattle.std.specs.Prelude.{ℕ}
use Rattle.gateway_answer.specs.Answered.{no_caller}
use Rattle.gateway_book.specs.Calls.{closed}
use Rattle.gateway_book.specs.Comes.{Asked, asked_to_commit, asked_to_ready}
use Rattle.gateway_answer.specs.Value.{BookValue, Fortune, after_commit}
use Rattle.once_core.specs.Answers.{making_close, making_tick, marked}
use Rattle.once_core.specs.Gateway.{Gateway, Moved, committing}
use Rattle.replay_gateway.specs.Called.{tick_left}
use Rattle.replay_gateway.specs.Setup.{Setup, rules_in}
use Rattle.replay_gateway.specs.declared.calls.GatewayCall.{GatewayCall}
use Rattle.replay_gateway.specs.declared.calls.GatewayCall.TheVariants as call

abbrev pub asked_by : GatewayCall → BookValue → Asked
asked_by call.Commit v = asked_to_commit v
asked_by call.Mark v = asked_to_ready v
asked_by call.Close v = asked_to_ready v

-- what it makes of a book at a moment
abbrev pub asked_value : Setup → ℕ → GatewayCall → Fortune → BookValue → BookValue
asked_value setup now call.Commit f v = after_commit f v
asked_value setup now call.Mark f v = (tick_left setup now f v).value
asked_value setup now call.Close f v = (closed f now no_caller v).value

-- and of a gateway, unless a stop comes in
abbrev pub asked_move : Setup → ℕ → GatewayCall → Fortune → Gateway → Moved
asked_move setup now call.Commit f g = committing f g
asked_move setup now call.Mark f g = marked (rules_in setup) f (making_tick (rules_in setup) now) g
asked_move setup now call.Close f g = marked (rules_in setup) f (making_close now) g
