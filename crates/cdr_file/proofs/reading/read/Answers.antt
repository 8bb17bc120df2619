use Rattle.std.proofs.Common.{◌≡◌, None, sym, ◌∙◌, inl, inr, arith, rules}
use Rattle.std.proofs.lemmas.Result.{err_from_is_err_and}
use Rattle.cdr_file.proofs.ReadLemmas.{cdrs_faulty, count_faulty, end_is, file_read, header_faulty}
use Rattle.cdr_file.proofs.SpellingLemmas.{read_spells}
use Rattle.cdr_file.proofs.reading.read.Goals as goal

pub returns-in-Some-clause-fault : goal.returns-in-Some-clause-fault
returns-in-Some-clause-fault c = inr (header_faulty _ _ (sym c.in-Some.ensures.fault))

pub cdrs_of-requires : goal.cdrs_of-requires
cdrs_of-requires c =
    let none : c.header_fault.result ≡ None = search rules in
    omega (arith, end_is c.args.octets.now c.header_of-header.result c.header_of-header.ensures, (c.header_fault.ensures.whole none).within)

pub returns-in_err-cdrs-clause-fault : goal.returns-in_err-cdrs-clause-fault
returns-in_err-cdrs-clause-fault c =
    let none : c.header_fault.result ≡ None = search rules in
    let exit = err_from_is_err_and c.from_residual.result c.from_residual.ensures.1 in
    rw (exit.1, exit.2)
    (elim c.in_err-cdrs.ensures.fault [
      | inl memory ↦ inl memory
      | inr found ↦ inr (cdrs_faulty _ _ _ _ (sym c.header_fault.ensures.fault ∙ none) c.extends_in-extends.ensures c.header_of-header.ensures found)
    ])

pub returns-then-len-header-clause-fault : goal.returns-then-len-header-clause-fault
returns-then-len-header-clause-fault c =
    let none : c.header_fault.result ≡ None = search rules in
    rw c.bad.ensures
    (inr (count_faulty _ _ c.header_of-header.result c.in_ok-cdrs.cdrs.items (sym c.header_fault.ensures.fault ∙ none) c.extends_in-extends.ensures c.header_of-header.ensures c.in_ok-cdrs.ensures.cdrs
    (λ same. absurd (omega (arith, same, c.if-len-header.true, c.len.ensures)))))

pub returns : goal.returns
returns c =
    let none : c.header_fault.result ≡ None = search rules in
    let file = file_read _ _ _ _ _ _ (sym c.header_fault.ensures.fault ∙ none) c.extends_in-extends.ensures c.header_of-header.ensures c.in_ok-cdrs.ensures.cdrs
    (omega (arith, c.if-len-header.false, c.len.ensures)) c.in_ok-filter.ensures.0 c.in_ok-filter.ensures.1 in
    rw c.from_vec-cdrs.ensures (record { file = file; spelled = read_spells _ _ (λ k. omega (arith, c.type_inv.octets k)) file; fault = tt })
