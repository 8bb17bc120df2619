use Rattle.gateway_book.proofs.Causing.{cause_then}
use Rattle.gateway_book.proofs.book.Book.close.Goals as goal

pub returns-in-Ok-clause-cause : goal.returns-in-Ok-clause-cause
returns-in-Ok-clause-cause g c = cause_then c.ready.ensures.cause c.close_if_due.ensures.adds
