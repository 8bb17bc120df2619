use Rattle.session_run.proofs.LawLemmas.{answers_front, answers_heard, replies_later}
use Rattle.session_run.proofs.laws.what_is_in_turn_stays_so.Goals as goal

pub returns-clause-front : goal.returns-clause-front
returns-clause-front c = answers_front

pub returns-clause-heard : goal.returns-clause-heard
returns-clause-heard c = answers_heard

pub returns-clause-replies : goal.returns-clause-replies
returns-clause-replies c = λ size firm later before now before' now' earlier heard all sent begins rises grows r.
    replies_later size firm later before now before' now' begins rises earlier heard all sent grows r
