-- The clauses of the job, where its report was made: it was written, or not, or the grammar refuses the input.
use Rattle.std.proofs.Common.{◌≡◌, ◌∙◌, refl, sym, ap, ℕ, true, false, true≢false, List, Option, Some, None, Result, Ok, Err, arith}
use Rattle.cgf_jobs.proofs.Names.{Command, Drill, ended_by, has_input, is_reported, IsReport, may_have_written, most_read, Refusal, Report, same_Some, Sample, Status, status_number}
use Rattle.std.specs.Prelude.{is_ok}
use Rattle.cgf_jobs.specs.Ending.{HasCause, WordsDecide}
use Rattle.cgf_jobs.specs.declared.input_kind.InputKind.{InputKind}
use Rattle.cgf_jobs.specs.declared.status.Status.TheVariants as status
use Rattle.cgf_jobs.proofs.EndingLemmas.{some_is_none}

-- a command without an input reads nothing
none_read : (command : Command) → has_input command ≡ false → most_read command ≡ 0
none_read (Sample of) none = refl
none_read (Drill of) none = refl
none_read _ none = absurd (true≢false none)

-- the words were of a form, and the end is another one than `Words`
pub words_decide : {S : Type 0} (asked : Option Command) (command : Command) (ended : Status) (before after : S) →
    asked ≡ Some command → (ended ≡ status.Words → ⊥) → (most_read command ≡ 0 → after ≡ before) →
    WordsDecide asked ended before after
words_decide asked command ended before after is not_words unread = record {
  refused = λ words. absurd (not_words words);
  told = λ none. some_is_none command (sym is ∙ none);
  unread = λ none. some_is_none command (sym is ∙ none);
  unasked = λ other other_is none.
      unread (none_read command (ap has_input (same_Some command other (sym is ∙ other_is)) ∙ none));
}

-- A job whose report was made.

reported_by : (refused : Option Refusal) → is_reported (ended_by refused) ≡ true
reported_by None = refl
reported_by (Some refusal) = refl

pub not_words : (refused : Option Refusal) → ended_by refused ≡ status.Words → ⊥
not_words refused is = true≢false (sym (reported_by refused) ∙ ap is_reported is)

pub not_write : (refused : Option Refusal) → ended_by refused ≡ status.Write → ⊥
not_write refused is = true≢false (sym (reported_by refused) ∙ ap is_reported is)

pub no_fault : (refused : Option Refusal) (source source' sink sink' : ℕ) → source' ≡ source → sink' ≡ sink →
    HasCause (ended_by refused) source source' sink sink'
no_fault None source source' sink sink' read written = (read, written)
no_fault (Some refusal) source source' sink sink' read written = (read, written)

pub was_taken : (command : Command) (octets : List ℕ) (report : Report) → IsReport command octets report →
    may_have_written (ended_by report.refused) ≡ true
was_taken command octets report is = ap may_have_written is.ended ∙ is.taken

pub write_not_words : status.Write ≡ status.Words → ⊥
write_not_words is =
    let numbers : 4 ≡ 1 = ap status_number is in
    omega (arith, numbers)

pub input_not_words : (place : ℕ) (kind : InputKind) → status.Input place kind ≡ status.Words → ⊥
input_not_words place kind is = true≢false (ap is_reported is)

pub ok_is_err : {A E : Type 0} (x : A) (e : E) → Ok x ≡ Err e → ⊥
ok_is_err {A = A} {E = E} x e is = true≢false (ap (λ (r : Result A E). is_ok r) is)
