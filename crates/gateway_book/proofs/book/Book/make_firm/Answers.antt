use Rattle.std.proofs.Common.{ℕ, refl, ap, ◌∙◌, arith}
use Rattle.gateway_book.proofs.Names.{area_of, length_at}
use Rattle.gateway_book.proofs.StandingLemmas.{counting_failed, counting_on, stands_all}
use Rattle.gateway_book.proofs.Causing.{cause_done, cause_failed}
use Rattle.gateway_book.proofs.Leaving.{crash_fit_open}
use Rattle.gateway_book.proofs.book.Book.make_firm.Goals as goal

pub invariant_of-self-clause-stands : goal.invariant_of-self-clause-stands
invariant_of-self-clause-stands g c =
    stands_all c.args.self.now.stands c.requires (omega (arith, c.firm-firm.ensures.counted, c.firm-firm.ensures.bound)) c.in-Ok.ensures.ok

pub returns-in-Ok-clause-any_moment : goal.returns-in-Ok-clause-any_moment
returns-in-Ok-clause-any_moment g c = λ told.
    let laws = g.met.A.Area in
    crash_fit_open laws.same_size laws.same_size_since c.args.self.now (area_of c.commit.new.self) c.requires told c.commit.ensures.stays.size (c.commit.ensures.any_moment told)

pub returns-in-Err-clause-any_moment : goal.returns-in-Err-clause-any_moment
returns-in-Err-clause-any_moment g c = λ told.
    let laws = g.met.A.Area in
    crash_fit_open laws.same_size laws.same_size_since c.args.self.now (area_of c.commit.new.self) c.requires told c.commit.ensures.stays.size (c.commit.ensures.any_moment told)

pub invariant_of-self-clause-counts : goal.invariant_of-self-clause-counts
invariant_of-self-clause-counts g c =
    let all = c.in-Ok.ensures.ok in
    counting_on c.args.self.now.counts c.commit.ensures.device.cause.later
    (omega (arith, c.firm-firm.ensures.counted, c.firm-firm.ensures.bound, all.firm_count, all.count))

pub returns-in-Ok-clause-cause : goal.returns-in-Ok-clause-cause
returns-in-Ok-clause-cause g c =
    let all = c.in-Ok.ensures.ok in
    cause_done c.args.self.now _ c.in-Ok.ensures.closed c.in-Ok.ensures.device.cause.ok
    (omega (arith, c.firm-firm.ensures.counted, c.firm-firm.ensures.bound, all.firm_count, all.count)) (omega (arith, all.count, all.length)) refl refl

pub returns-in-Err-clause-cause : goal.returns-in-Err-clause-cause
returns-in-Err-clause-cause g c =
    let old = c.args.self.now in
    cause_failed old _ c.in-Err.ensures.closed c.commit.ensures.device.cause.later c.in-Err.ensures.device.cause.failed c.in-Err.ensures.err.count
    c.one_more-self.ensures.more c.one_more-self.ensures.value
    (c.length_at-self.ensures ∙ ap (λ (n : ℕ). length_at old.cuts n old.kept) c.firm.ensures.counted)

pub invariant_of-self-in-Err-clause-counts : goal.invariant_of-self-in-Err-clause-counts
invariant_of-self-in-Err-clause-counts g c =
    let old = c.args.self.now in
    counting_failed old.counts c.in-Err.ensures.device.cause.failed c.in-Err.ensures.err.count c.one_more-self.ensures.value
    (c.length_at-self.ensures ∙ ap (λ (n : ℕ). length_at old.cuts n old.kept) c.firm.ensures.counted)
