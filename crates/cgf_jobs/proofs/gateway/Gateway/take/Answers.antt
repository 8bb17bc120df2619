use Rattle.std.proofs.Common.{refl, ap, ◌∙◌}
use Rattle.cgf_jobs.proofs.Names.{act_decided, after_datagram, answer_to, answered, BookValue, decided, fortune_of, GatewayValue, reply_line, size_of, value_of}
use Rattle.gateway_answer.specs.Preparing.{prepared_of}
use Rattle.cgf_jobs.proofs.BookLemmas.{recorded_gateway, recorded_whole, taken_all_firm, taken_answers, taken_records}
use Rattle.cgf_jobs.proofs.gateway.Gateway.take.Goals as goal

-- a book that took a datagram isn't broken
pub commit-requires : goal.commit-requires
commit-requires c =
    let old = c.self.inside.book in
    let middle = c.take-outcome.new.self in
    ap (λ (v : BookValue). v.is_broken)
    (taken_records old middle (fortune_of old middle) c.args.from (prepared_of c.prepare.result) c.args.now c.self.invariant
    (c.take-outcome.ensures.taken (refl, refl)).value)
    ∙ recorded_whole (value_of old).firm c.args.now
    (act_decided (decided (answer_to (value_of old).firm c.args.from (prepared_of c.prepare.result) (size_of old))))

pub invariant_of-self : goal.invariant_of-self
invariant_of-self c =
    let old = c.self.inside.book in
    let middle = c.take-outcome.new.self in
    taken_all_firm old middle c.commit.new.book (fortune_of old middle) c.args.from (prepared_of c.prepare.result) c.args.now c.self.invariant
    (c.take-outcome.ensures.taken (refl, refl)).value c.commit.ensures.committed

pub returns-clause-after : goal.returns-clause-after
returns-clause-after c =
    let old = c.self.inside.book in
    let middle = c.take-outcome.new.self in
    let moved = taken_records old middle (fortune_of old middle) c.args.from (prepared_of c.prepare.result) c.args.now c.self.invariant (c.take-outcome.ensures.taken (refl, refl)).value in
    recorded_gateway old middle c.commit.new.book c.args.now (act_decided (decided (answer_to (value_of old).firm c.args.from (prepared_of c.prepare.result) (size_of old))))
    moved c.commit.ensures.committed c.take-outcome.ensures.stays c.commit.ensures.stays
    ∙ ap (λ octets. after_datagram (record { history = (value_of old).firm; reserved = size_of old; open_time = old.open_time }) c.args.now c.args.from octets) c.prepare.ensures
    ∙ ap (λ (g : GatewayValue). after_datagram g c.args.now c.args.from c.args.octets.now) c.self.view_is

pub returns-clause-answered : goal.returns-clause-answered
returns-clause-answered c =
    let old = c.self.inside.book in
    let middle = c.take-outcome.new.self in
    taken_answers old middle (fortune_of old middle) c.args.from (prepared_of c.prepare.result) c.args.now c.take-outcome.result c.self.invariant (c.take-outcome.ensures.taken (refl, refl)).answer
    ∙ ap (λ octets. reply_line (answered (record { history = (value_of old).firm; reserved = size_of old; open_time = old.open_time }) c.args.from octets)) c.prepare.ensures
    ∙ ap (λ (g : GatewayValue). reply_line (answered g c.args.from c.args.octets.now)) c.self.view_is
