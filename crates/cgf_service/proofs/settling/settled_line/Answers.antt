use Rattle.std.proofs.Common.{refl, arith}
use Rattle.std.proofs.lemmas.Bool.{and_parts}
use Rattle.cgf_service.proofs.LineLemmas.{line_settled, settled_calmly}
use Rattle.cgf_service.proofs.settling.settled_line.Goals as goal

pub returns-in-Ok-clause-line : goal.returns-in-Ok-clause-line
returns-in-Ok-clause-line g c =
    line_settled _ _ _ _ _ _ _ _ _ _ _ _ c.in-None.is c.moment_of.ensures c.in-Ok.ensures.settled c.in-Ok.ensures.all c.settle-settled.ensures.grows c.settle-settled.ensures.stays
    (c.settle-settled.ensures.faults.later, c.settle-settled.ensures.faults.shelf_later)
    c.settle-settled.ensures.files c.line_of.ensures.line c.line_of.ensures.err c.line_of.ensures.same (λ yes. and_parts g.A.Area.tells_octets g.A.Area.tells_crash yes)

pub returns-in-Ok-clause-closed : goal.returns-in-Ok-clause-closed
returns-in-Ok-clause-closed g c =
    settled_calmly g.A.Area c.args.service c.args.book.now c.settle-settled.new.book c.line_of.new.book
    c.moment_of.result c.settle-settled.result
    c.moment_of.ensures c.settle-settled.ensures.closed c.settle-settled.ensures.faults.area
    c.line_of.ensures.same.0.value
    c.line_of.ensures.same.0.broken c.line_of.ensures.same.1

pub returns-in-Some-Link-clause-closed : goal.returns-in-Some-Link-clause-closed
returns-in-Some-Link-clause-closed g c =
    settled_calmly g.A.Area c.args.service c.args.book.now c.settle-settled.new.book c.settle-settled.new.book
    c.moment_of.result c.settle-settled.result
    c.moment_of.ensures c.settle-settled.ensures.closed c.settle-settled.ensures.faults.area (λ told. refl) refl
    (omega arith)

pub returns-in-Some-Clock-clause-closed : goal.returns-in-Some-Clock-clause-closed
returns-in-Some-Clock-clause-closed g c =
    settled_calmly g.A.Area c.args.service c.args.book.now c.settle-settled.new.book c.settle-settled.new.book
    c.moment_of.result c.settle-settled.result
    c.moment_of.ensures c.settle-settled.ensures.closed c.settle-settled.ensures.faults.area (λ told. refl) refl
    (omega arith)

pub returns-in-Some-NoMemory-clause-closed : goal.returns-in-Some-NoMemory-clause-closed
returns-in-Some-NoMemory-clause-closed g c =
    settled_calmly g.A.Area c.args.service c.args.book.now c.settle-settled.new.book c.settle-settled.new.book
    c.moment_of.result c.settle-settled.result
    c.moment_of.ensures c.settle-settled.ensures.closed c.settle-settled.ensures.faults.area (λ told. refl) refl
    (omega arith)

pub returns-in-Err-NoMemory-clause-closed : goal.returns-in-Err-NoMemory-clause-closed
returns-in-Err-NoMemory-clause-closed g c =
    settled_calmly g.A.Area c.args.service c.args.book.now c.settle-settled.new.book c.settle-settled.new.book
    c.moment_of.result c.settle-settled.result
    c.moment_of.ensures c.settle-settled.ensures.closed c.settle-settled.ensures.faults.area (λ told. refl) refl
    (omega arith)

pub returns-in-Err-Area-clause-closed : goal.returns-in-Err-Area-clause-closed
returns-in-Err-Area-clause-closed g c =
    settled_calmly g.A.Area c.args.service c.args.book.now c.settle-settled.new.book c.settle-settled.new.book
    c.moment_of.result c.settle-settled.result
    c.moment_of.ensures c.settle-settled.ensures.closed c.settle-settled.ensures.faults.area (λ told. refl) refl
    (omega arith)

pub returns-in-Err-Shelf-clause-closed : goal.returns-in-Err-Shelf-clause-closed
returns-in-Err-Shelf-clause-closed g c =
    settled_calmly g.A.Area c.args.service c.args.book.now c.settle-settled.new.book c.settle-settled.new.book
    c.moment_of.result c.settle-settled.result
    c.moment_of.ensures c.settle-settled.ensures.closed c.settle-settled.ensures.faults.area (λ told. refl) refl
    (omega arith)
