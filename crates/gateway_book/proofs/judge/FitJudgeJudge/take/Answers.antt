use Rattle.std.proofs.Common.{◌≡◌, ◌+◌, true, false, [], ◌∷◌, ◌++◌, nat_le, sym, ◌∙◌, arith, rules}
use Rattle.gateway_book.proofs.Names.{act_view, and_parts, capacity_of, cost_of, costs_of, entry_view, FitJudge, fits_with_any, is_act_fit, is_packet_fit, leb-true, observed_by, promised_octets, promised_of, side_of}
use Rattle.gateway_book.proofs.JudgeLemmas.{is_fit, judged, no_room, refused}
use Rattle.gateway_book.proofs.judge.FitJudgeJudge.take.Goals as goal

pub returns-then-not-may_stand-clause-unfit : goal.returns-then-not-may_stand-clause-unfit
returns-then-not-may_stand-clause-unfit c = λ h judging is.
    let laws = c.an_index_tells_its_history.ensures in
    let no : c.may_stand.result ≡ false = search rules in
    refused (c.an_index_is_enough.ensures.fits false) (laws.totals false) (laws.held false) c.args.self.now h c.args.size (entry_view c.args.entry.now) judging
    (sym c.may_stand.ensures.value ∙ no)

pub note-requires : goal.note-requires
note-requires c =
    let yes : c.may_stand.result ≡ true = search rules in
    let index = c.args.self.now.index in
    let act = act_view c.args.entry.now.act in
    let parts = and_parts (nat_le (side_of false index).totals.moment c.args.entry.now.moment) (is_act_fit (observed_by false index) act)
    (sym c.may_stand.ensures.value ∙ yes) in
    fits_with_any is_packet_fit (observed_by false index) act parts.1

pub returns-clause-fit : goal.returns-clause-fit
returns-clause-fit c = λ h judging is.
    let laws = c.an_index_tells_its_history.ensures in
    let e = entry_view c.args.entry.now in
    let new : FitJudge = record { index = c.note.new.self; costs = c.in-Some.costs } in
    let yes : c.may_stand.result ≡ true = search rules in
    let within : c.is_within.result ≡ true = cc in
    let sum : c.in-Some.costs ≡ c.args.self.now.costs + c.cost.result = search rules in
    let room = leb-true (new.costs + promised_of (side_of false new.index)) (capacity_of c.args.size) (sym c.is_within.ensures ∙ within) in
    let now = judged c.args.self.now new h e judging (λ grow. c.note.ensures.follows h grow judging.index) (omega (arith, sum, c.cost.ensures))
    (omega (arith, room, sum, c.ranges.size.fits)) in (
      is_fit (c.an_index_is_enough.ensures.fits false) (laws.totals false) (laws.held false) c.args.self.now new h c.args.size e judging now
          c.may_stand.ensures.moment (sym c.may_stand.ensures.value ∙ yes) (sym c.is_within.ensures ∙ within),
      now,
    )

pub returns-clause-unfit : goal.returns-clause-unfit
returns-clause-unfit c = λ h judging is fit.
    let laws = c.an_index_tells_its_history.ensures in
    let e = entry_view c.args.entry.now in
    let new : FitJudge = record { index = c.note.new.self; costs = c.in-Some.costs } in
    let past : c.is_within.result ≡ false = cc in
    let sum : c.in-Some.costs ≡ c.args.self.now.costs + c.cost.result = search rules in
    let room = leb-true (costs_of h + cost_of e + promised_octets (h ++ e ∷ [])) (capacity_of c.args.size) fit.room in
    let now = judged c.args.self.now new h e judging (λ grow. c.note.ensures.follows h grow judging.index) (omega (arith, sum, c.cost.ensures))
    (omega (arith, room, judging.cost, c.ranges.size.fits)) in
    no_room (c.an_index_is_enough.ensures.fits false) (laws.totals false) (laws.held false) new h c.args.size e now (sym c.is_within.ensures ∙ past) fit
