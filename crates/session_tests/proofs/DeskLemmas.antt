-- The address of a link stays.
use Rattle.std.proofs.Common.{◌≡◌, ℕ, List, Bool, Option, None, Some, MatchOption, ap}
use Rattle.gateway_answer.specs.Answer.{failure_reply}
use Rattle.gateway_answer.specs.Preparing.{prepared_of}
use Rattle.job_inbox.specs.declared.job.Job.{Job}
use Rattle.net_link.specs.Datagrams.{LinkState}
use Rattle.node_session.specs.Answering.{HasSent, Tells}
use Rattle.node_session.specs.declared.served.Served.{Served}
use Rattle.node_session.specs.declared.served.Served.TheVariants as served
use Rattle.turn_cell.specs.declared.knowing.Knowledge.{Knowledge}

pub address_of_reply : (told : Bool) (session : ℕ) (job : Job) (old new : LinkState) (reply : Option (List ℕ))
    → MatchOption reply (new ≡ old) (HasSent told session job old new) → new.address ≡ old.address
address_of_reply told session job old new None same = ap (λ (l : LinkState). l.address) same
address_of_reply told session job old new (Some reply) sent = ap (λ (l : LinkState). l.address) sent

pub address_stays : (told : Bool) (session : ℕ) (job : Job) (before after : Knowledge) (old new : LinkState)
    (s : Served) → Tells told session job before after old new s → new.address ≡ old.address
address_stays told session job before after old new (served.Replied cause front) t =
    ap (λ (l : LinkState). l.address) t.sent
address_stays told session job before after old new (served.Dropped why) t = ap (λ (l : LinkState). l.address) t.unsent
address_stays told session job before after old new served.Lost t =
    address_of_reply told session job old new (failure_reply (prepared_of job.octets)) t.sent
address_stays told session job before after old new served.Link t = ap (λ (l : LinkState). l.address) t.rest
address_stays told session job before after old new _ t = ap (λ (l : LinkState). l.address) t
