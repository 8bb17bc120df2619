use Rattle.std.proofs.Common.{List, ℕ, sym, subst, arith}
use Rattle.cgf_journal.proofs.Names.{AreFit, place_of}
use Rattle.cgf_journal.proofs.Listings.{no_more}
use Rattle.cgf_journal.proofs.listing.list_before.Goals as goal

pub returns-clause-are_fit : goal.returns-clause-are_fit
returns-clause-are_fit g c = λ all listed.
    let taken = c.loop-gate.invariant.taken in
    let begins = taken.begins all listed in
    let last = place_of listed.header listed.long (g.A.Area.octets c.args.area.now) c.args.end all listed.before in
    let same = no_more taken.some begins.0 all c.loop-gate.gate begins.1 taken.taken_in.gate_is (omega (arith, last, c.loop-gate.invariant.high)) in
    subst (λ (l : List (List ℕ)). AreFit g.J.Judge.fits c.args.size l) (sym same) (record { are_batches = taken.taken_in.are_batches; fit = taken.judged.fit })
