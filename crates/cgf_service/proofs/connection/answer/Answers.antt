use Rattle.std.proofs.Common.{ap}
use Rattle.cgf_service.specs.StreamSteps.{reply_of}
use Rattle.cgf_service.proofs.ConnectionLemmas.{answers_fault, answers_firm, cuts_by_call, cuts_on}
use Rattle.cgf_service.proofs.connection.answer.Goals as goal
use Rattle.cgf_service.proofs.connection.answer.Goals.{in-Answer, in-Drop}

pub returns-in-Ok-clause-answers : goal.returns-in-Ok-clause-answers
returns-in-Ok-clause-answers g c told =
    elim c.match-take.branch [
      | in-Answer w ↦ answers_firm c.args.book.now c.take.new.self c.commit.new.self c.args.from c.args.message.now c.args.now _
          (rw c.prepare-request.ensures at (w.in-Answer.ensures.taken told)) (c.in-Ok.ensures.left told).value c.match-take.reply c.in-Ok.ensures.broken
          (ap reply_of w.reply-is)
      | in-Drop w ↦ answers_firm c.args.book.now c.take.new.self c.commit.new.self c.args.from c.args.message.now c.args.now _
          (rw c.prepare-request.ensures at (w.in-Drop.ensures.taken told)) (c.in-Ok.ensures.left told).value c.match-take.reply c.in-Ok.ensures.broken
          (ap reply_of w.reply-is)
    ]

pub returns-in-Ok-clause-cuts : goal.returns-in-Ok-clause-cuts
returns-in-Ok-clause-cuts g c =
    cuts_on c.args.book.now c.take.new.self c.commit.new.self (cuts_by_call c.args.book.now c.take.new.self c.take.ensures.cause)
    (cuts_by_call c.take.new.self c.commit.new.self c.commit.ensures.cause)

pub returns-in-Err-clause-answers : goal.returns-in-Err-clause-answers
returns-in-Err-clause-answers g c told =
    elim c.match-take.branch [
      | in-Answer w ↦ answers_fault c.args.book.now c.take.new.self c.commit.new.self c.args.from c.args.message.now c.args.now _
          (rw c.prepare-request.ensures at (w.in-Answer.ensures.taken told)) (c.in-Err.ensures.left told).value c.failure.result c.in-Err.ensures.broken
          (rw c.prepare-request.ensures at c.failure.ensures)
      | in-Drop w ↦ answers_fault c.args.book.now c.take.new.self c.commit.new.self c.args.from c.args.message.now c.args.now _
          (rw c.prepare-request.ensures at (w.in-Drop.ensures.taken told)) (c.in-Err.ensures.left told).value c.failure.result c.in-Err.ensures.broken
          (rw c.prepare-request.ensures at c.failure.ensures)
    ]

pub returns-in-Err-clause-cuts : goal.returns-in-Err-clause-cuts
returns-in-Err-clause-cuts g c =
    cuts_on c.args.book.now c.take.new.self c.commit.new.self (cuts_by_call c.args.book.now c.take.new.self c.take.ensures.cause)
    (cuts_by_call c.take.new.self c.commit.new.self c.commit.ensures.cause)
