use Rattle.std.proofs.Common.{◌∙◌, refl, sym, ap, map, string_bytes, Err, true≢false}
use Rattle.cgf_jobs.proofs.Names.{command_of, may_have_written}
use Rattle.cgf_jobs.specs.Job.{job_of}
use Rattle.cgf_jobs.specs.declared.report.NoReport.{NoReport}
use Rattle.cgf_jobs.specs.declared.status.Status.TheVariants as status
use Rattle.cgf_jobs.proofs.Clauses.{input_not_words, no_fault, not_words, not_write, ok_is_err, was_taken, words_decide, write_not_words}
use Rattle.cgf_jobs.proofs.Ends.{complete_by}
use Rattle.cgf_jobs.proofs.Whole.{keeps_none, writes_done, writes_front, writes_refusal}
use Rattle.cgf_jobs.proofs.job.run.Goals as goal

-- The report was written.

pub returns-in-Ok-write_all-clause-words : goal.returns-in-Ok-write_all-clause-words
returns-in-Ok-write_all-clause-words g c =
    rw c.ended_by.ensures
    (words_decide (command_of (map string_bytes c.args.words.now)) c.in-Ok-Some.command _ c.args.source.now
    c.read_input.new.source
    (sym c.in-Ok-Some.ensures.asked ∙ c.in-Ok-Some.field-0-is) (not_words c.in-Ok-report_of.field-0.refused)
    (λ zero. c.in-Ok.ensures.unread (c.most_read.ensures ∙ zero)))

pub returns-in-Ok-write_all-clause-untouched : goal.returns-in-Ok-write_all-clause-untouched
returns-in-Ok-write_all-clause-untouched g c untaken =
    absurd (true≢false (sym (was_taken c.in-Ok-Some.command c.in-Ok.octets.items c.in-Ok-report_of.field-0 c.in-Ok-report_of.ensures.report)
    ∙ ap may_have_written (sym c.ended_by.ensures) ∙ untaken))

pub returns-in-Ok-write_all-clause-report : goal.returns-in-Ok-write_all-clause-report
returns-in-Ok-write_all-clause-report g c reported =
    rw c.ended_by.ensures
    (writes_done _ c.in-Ok-Some.command c.in-Ok.octets.items c.in-Ok-report_of.field-0
    (sym c.in-Ok-Some.ensures.asked ∙ c.in-Ok-Some.field-0-is)
    (rw c.most_read.ensures at c.in-Ok.ensures.read)
    c.in-Ok-report_of.ensures.within c.in-Ok-report_of.ensures.report
    (rw c.deref.ensures.value at c.in-Ok-write_all.ensures.ok))

pub returns-in-Ok-write_all-clause-front : goal.returns-in-Ok-write_all-clause-front
returns-in-Ok-write_all-clause-front g c is = absurd (not_write c.in-Ok-report_of.field-0.refused (sym c.ended_by.ensures ∙ is))

pub returns-in-Ok-write_all-clause-cause : goal.returns-in-Ok-write_all-clause-cause
returns-in-Ok-write_all-clause-cause g c =
    rw c.ended_by.ensures
    (no_fault c.in-Ok-report_of.field-0.refused _ _ _ _ (c.in-Ok.ensures.unfailed (λ is. ok_is_err _ _ is)) c.in-Ok-write_all.ensures.unfailed)

pub returns-in-Ok-write_all-clause-complete : goal.returns-in-Ok-write_all-clause-complete
returns-in-Ok-write_all-clause-complete g c some read written =
    complete_by (map string_bytes c.args.words.now) c.in-Ok-Some.command (g.S.Source.left c.args.source.now)
    (g.S.Source.left c.read_input.new.source) c.in-Ok.octets.items _ (sym c.in-Ok-Some.ensures.asked ∙ c.in-Ok-Some.field-0-is)
    (rw c.most_read.ensures at c.in-Ok.ensures.read)
    (c.ended_by.ensures ∙ c.in-Ok-report_of.ensures.report.ended)

pub returns-in-Ok-write_all-clause-none : goal.returns-in-Ok-write_all-clause-none
returns-in-Ok-write_all-clause-none g c other =
    keeps_none c.in-Ok-Some.command c.in-Ok.octets.items c.in-Ok-report_of.field-0 c.in-Ok-report_of.ensures.report
    (λ done. other (c.ended_by.ensures ∙ done))

-- The sink failed.

pub returns-in-Ok-report_of-clause-words : goal.returns-in-Ok-report_of-clause-words
returns-in-Ok-report_of-clause-words g c =
    words_decide (command_of (map string_bytes c.args.words.now)) c.in-Ok-Some.command status.Write c.args.source.now c.read_input.new.source
    (sym c.in-Ok-Some.ensures.asked ∙ c.in-Ok-Some.field-0-is) write_not_words (λ zero. c.in-Ok.ensures.unread (c.most_read.ensures ∙ zero))

pub returns-in-Ok-report_of-clause-front : goal.returns-in-Ok-report_of-clause-front
returns-in-Ok-report_of-clause-front g c is =
    writes_front (job_of g.S.Source g.K.Sink (map string_bytes c.args.words.now) c.args.source.now c.read_input.new.source
    c.args.sink.now c.write_all.new.sink)
    c.in-Ok-Some.command c.in-Ok.octets.items c.in-Ok-report_of.field-0.printed.items _ (sym c.in-Ok-Some.ensures.asked ∙ c.in-Ok-Some.field-0-is)
    (rw c.most_read.ensures at c.in-Ok.ensures.read)
    c.in-Ok-report_of.ensures.within refl c.in-Ok-report_of.ensures.report.taken c.in-Ok-report_of.ensures.report.printed
    (rw c.deref.ensures.value at c.in-Err-write_all.ensures.err)

-- The grammar refuses the input.

pub returns-in-Err-Refused-clause-words : goal.returns-in-Err-Refused-clause-words
returns-in-Err-Refused-clause-words g c =
    words_decide (command_of (map string_bytes c.args.words.now)) c.in-Ok-Some.command _ c.args.source.now c.read_input.new.source
    (sym c.in-Ok-Some.ensures.asked ∙ c.in-Ok-Some.field-0-is) (input_not_words _ _) (λ zero. c.in-Ok.ensures.unread (c.most_read.ensures ∙ zero))

pub returns-in-Err-Refused-clause-report : goal.returns-in-Err-Refused-clause-report
returns-in-Err-Refused-clause-report g c reported =
    writes_refusal (job_of g.S.Source g.K.Sink (map string_bytes c.args.words.now) c.args.source.now
    c.read_input.new.source c.args.sink.now c.args.sink.now) c.in-Ok-Some.command c.in-Ok.octets.items
    c.in-Err-Refused.field-0-0 refl
    (sym c.in-Ok-Some.ensures.asked ∙ c.in-Ok-Some.field-0-is)
    (rw c.most_read.ensures at c.in-Ok.ensures.read)
    (c.in-Err-Refused.ensures.refused c.in-Err-Refused.field-0-0 (ap (λ (e : NoReport). Err e) c.in-Err-Refused.field-0-is))
