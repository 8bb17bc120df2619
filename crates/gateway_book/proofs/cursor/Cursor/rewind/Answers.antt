use Rattle.gateway_book.proofs.CursorLemmas.{begun_at, begun_within}
use Rattle.gateway_book.proofs.cursor.Cursor.rewind.Goals as goal

pub returns-then-self-clause-within : goal.returns-then-self-clause-within
returns-then-self-clause-within c = λ n within. begun_within n c.new.result c.new.ensures

pub returns-then-self-clause-at : goal.returns-then-self-clause-at
returns-then-self-clause-at c = λ h at. begun_at h c.new.result c.new.ensures

pub returns-then-item-self-clause-within : goal.returns-then-item-self-clause-within
returns-then-item-self-clause-within c = λ n within. begun_within n c.new-then-item-self.result c.new-then-item-self.ensures

pub returns-then-item-self-clause-at : goal.returns-then-item-self-clause-at
returns-then-item-self-clause-at c = λ h at. begun_at h c.new-then-item-self.result c.new-then-item-self.ensures
