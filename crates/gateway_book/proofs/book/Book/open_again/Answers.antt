use Rattle.std.proofs.Common.{◌≡◌, ℕ, Bool, Ok, true, false, refl, ap, ◌∙◌, arith}
use Rattle.gateway_book.proofs.Names.{area_of, length_at, TornDropped, TornStand}
use Rattle.gateway_book.proofs.StandingLemmas.{followed_again, counting_failed, counting_on, stands_again}
use Rattle.gateway_book.proofs.Causing.{cause_done, cause_failed, closed_length, not_fewer}
use Rattle.gateway_book.proofs.Leaving.{crash_fit}
use Rattle.gateway_book.proofs.book.Book.open_again.Goals as goal

pub invariant_of-self : goal.invariant_of-self
invariant_of-self g c =
    let book = c.args.self.now in
    let stand : c.in-Ok.stands ≡ true → TornStand book.trail c.reopen.new.self = λ e. c.reopen.ensures.taken_in (c.in-Ok.is ∙ ap (λ (b : Bool). Ok b) e) in
    let dropped : c.in-Ok.stands ≡ false → TornDropped book.trail c.reopen.new.self = λ e. c.reopen.ensures.dropped (c.in-Ok.is ∙ ap (λ (b : Bool). Ok b) e) in
    record {
      followed = followed_again book.trail c.reopen.new.self book.index c.keep.new.self c.in-Ok.stands book.followed c.in-Ok.ensures.ok stand dropped
          c.in-Ok.ensures.stays.size c.keep.ensures.follows;
      stands = stands_again book.stands c.in-Ok.stands stand dropped;
      counts = counting_on book.counts c.reopen.ensures.device.cause.later (not_fewer c.in-Ok.stands stand dropped);
    }

pub returns-in-Ok-clause-any_moment : goal.returns-in-Ok-clause-any_moment
returns-in-Ok-clause-any_moment g c = λ told.
    let laws = g.met.A.Area in
    crash_fit laws.same_size laws.same_size_since c.args.self.now (area_of c.reopen.new.self) told c.reopen.ensures.stays.size (c.reopen.ensures.any_moment told)

pub returns-in-Err-clause-any_moment : goal.returns-in-Err-clause-any_moment
returns-in-Err-clause-any_moment g c = λ told.
    let laws = g.met.A.Area in
    crash_fit laws.same_size laws.same_size_since c.args.self.now (area_of c.reopen.new.self) told c.reopen.ensures.stays.size (c.reopen.ensures.any_moment told)

pub returns-in-Ok-clause-cause : goal.returns-in-Ok-clause-cause
returns-in-Ok-clause-cause g c =
    let old = c.args.self.now in
    let firm = not_fewer {old = old.trail} {new = c.reopen.new.self} c.in-Ok.stands (λ e. c.reopen.ensures.taken_in (c.in-Ok.is ∙ ap (λ (b : Bool). Ok b) e))
    (λ e. c.reopen.ensures.dropped (c.in-Ok.is ∙ ap (λ (b : Bool). Ok b) e)) in
    cause_done old _ c.in-Ok.ensures.ok.opened c.in-Ok.ensures.device.cause.ok firm
    (omega (arith, firm, c.in-Ok.ensures.ok.length, closed_length old.trail c.requires)) refl refl

pub returns-in-Err-clause-cause : goal.returns-in-Err-clause-cause
returns-in-Err-clause-cause g c =
    let old = c.args.self.now in
    cause_failed old _ (c.in-Err.ensures.err.closed ∙ c.requires) c.reopen.ensures.device.cause.later c.in-Err.ensures.device.cause.failed
    c.in-Err.ensures.err.firm_length c.one_more-self.ensures.more c.one_more-self.ensures.value
    (c.length_at-self.ensures ∙ ap (λ (n : ℕ). length_at old.cuts n old.kept) c.firm.ensures.counted)

pub invariant_of-self-in-Err-clause-counts : goal.invariant_of-self-in-Err-clause-counts
invariant_of-self-in-Err-clause-counts g c =
    let old = c.args.self.now in
    counting_failed old.counts c.in-Err.ensures.device.cause.failed c.in-Err.ensures.err.firm_length c.one_more-self.ensures.value
    (c.length_at-self.ensures ∙ ap (λ (n : ℕ). length_at old.cuts n old.kept) c.firm.ensures.counted)
