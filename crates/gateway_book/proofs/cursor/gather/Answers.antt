use Rattle.std.proofs.Common.{ℕ, List, subst, ap, ◌∙◌, length, arith}
use Rattle.gateway_book.proofs.Names.{false≢true, HistoryEntry, is_err, IsWithin}
use Rattle.gateway_book.proofs.CursorLemmas.{end_items, stands_still}
use Rattle.gateway_book.proofs.ReadLemmas.{read_on}
use Rattle.gateway_book.proofs.cursor.gather.Goals as goal

pub returns-in_err-step-clause-at : goal.returns-in_err-step-clause-at
returns-in_err-step-clause-at g c = λ told h stands.
    let i = c.loop-cursor.invariant in
    c.step.ensures.at told h (stands_still told i.read stands (i.at told h stands))

pub returns-in_err-step-clause-read : goal.returns-in_err-step-clause-read
returns-in_err-step-clause-read g c = read_on c.loop-cursor.invariant.read c.step.ensures.read

pub returns-then-not-branch-clause-at : goal.returns-then-not-branch-clause-at
returns-then-not-branch-clause-at g c = λ told h stands.
    let i = c.loop-cursor.invariant in
    c.step.ensures.at told h (stands_still told i.read stands (i.at told h stands))

pub returns-then-not-branch-clause-read : goal.returns-then-not-branch-clause-read
returns-then-not-branch-clause-read g c = read_on c.loop-cursor.invariant.read c.step.ensures.read

pub loop-cursor-preserved : goal.loop-cursor-preserved
loop-cursor-preserved g c =
    let i = c.loop-cursor.invariant in
    record {
      within = subst (λ (n : ℕ). IsWithin n c.step.new.cursor) i.read.kept.firm_length c.step.ensures.within;
      at = λ told h stands. c.step.ensures.at told h (stands_still told i.read stands (i.at told h stands));
      gathered = λ told h stands.
          c.in_ok-step.ensures.gathered told h (stands_still told i.read stands (i.at told h stands)) ∙ i.gathered told h stands;
      read = read_on i.read c.step.ensures.read;
      faults = c.in_ok-step.ensures.cause.still (λ e. false≢true (ap is_err e)) ∙ i.faults;
    }

pub returns-clause-gathered : goal.returns-clause-gathered
returns-clause-gathered g c = λ told h stands.
    let i = c.loop-cursor.invariant in
    let same = ap (λ (xs : List HistoryEntry). length xs) (i.read.kept.firm_entries told ∙ stands.firm) in
    end_items h c.loop-cursor.cursor.entry c.loop-cursor.into (omega (arith, c.firm.ensures.length told, c.loop-cursor-test.false, same))
    ∙ i.gathered told h stands
