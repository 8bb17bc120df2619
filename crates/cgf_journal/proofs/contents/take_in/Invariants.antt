use Rattle.std.proofs.Common.{◌≡◌, length}
use Rattle.cgf_journal.specs.Judged.{IsJudgedUpTo}
use Rattle.cgf_journal.proofs.Listings.{AreTaken}
use Rattle.cgf_journal.proofs.contents.take_in.Given as goal

-- the front of the content was taken in and judged
abbrev pub invariant-loop-rest : goal.invariant-loop-rest
invariant-loop-rest g l = record {
  taken : AreTaken l.content l.rest l.at l.from l.fn.places.items l.places.items l.fn.tally l.tally;
  judged : IsJudgedUpTo g.J.Judge l.size l.fn.judge l.judge l.content l.rest;
  reserved : l.places.reserved ≡ l.fn.places.reserved;
}

abbrev pub decreases-loop-rest : goal.decreases-loop-rest
decreases-loop-rest g l = length l.rest
