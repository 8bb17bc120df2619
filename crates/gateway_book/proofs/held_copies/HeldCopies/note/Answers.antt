use Rattle.gateway_book.specs.HeldCopies.{hold_in, path_in}
use Rattle.gateway_book.proofs.HeldCopiesLemmas.{on_ok}
use Rattle.gateway_book.proofs.held_copies.HeldCopies.note.Goals as goal

pub returns-in-Path-clause-ok : goal.returns-in-Path-clause-ok
returns-in-Path-clause-ok c =
    on_ok c.follow.result (λ e. rw c.in-Path.is (λ i. record { hold = hold_in c.args.self.now.holds; path = e i })) c.follow.ensures.ok

pub returns-in-Hold-clause-ok : goal.returns-in-Hold-clause-ok
returns-in-Hold-clause-ok c =
    on_ok c.hold.result (λ e. rw c.in-Hold.is (λ i. record { hold = e i; path = path_in c.args.self.now.paths })) c.hold.ensures.ok

pub returns-in-File-clause-ok : goal.returns-in-File-clause-ok
returns-in-File-clause-ok c = rw c.in-File.is (λ i. record { hold = c.forget.ensures i; path = path_in c.args.self.now.paths })

pub returns-in-Seal-clause-ok : goal.returns-in-Seal-clause-ok
returns-in-Seal-clause-ok c = rw c.in-Seal.is (λ i. record { hold = c.forget-in-Seal.ensures i; path = path_in c.args.self.now.paths })

pub returns-in-Release-clause-ok : goal.returns-in-Release-clause-ok
returns-in-Release-clause-ok c = rw c.in-Release.is (λ i. record { hold = c.forget_all.ensures i; path = path_in c.args.self.now.paths })

pub returns-in-Cancel-clause-ok : goal.returns-in-Cancel-clause-ok
returns-in-Cancel-clause-ok c = rw c.in-Cancel.is (λ i. record { hold = c.forget_all-in-Cancel.ensures i; path = path_in c.args.self.now.paths })
