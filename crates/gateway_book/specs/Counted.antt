-- What a book counts.
use Rattle.std.specs.Prelude.{◌≡◌, ◌*◌, ◌≤◌}
use Rattle.area_disk.specs.declared.area.Area.{Ghosts}
use Rattle.cgf_journal.specs.Format.{cheapest_entry}
use Rattle.cgf_journal.specs.Trail as trail
use Rattle.gateway_index.specs.Index.{side_of}
use Rattle.gateway_book.specs.Book.{size_of}
use Rattle.gateway_book.specs.declared.book.Book.{Book}
use Rattle.gateway_book.specs.declared.outcome.Counts.{Counts}

-- These are the counts of a book over any area, as its trail and its index count them.
pub record AreCounted {A : Type 0} {tells : Ghosts A} (book : Book A tells) (counts : Counts) : Type 0 where
  pub entries : counts.entries ≡ trail.length_of book.trail
  pub firm : counts.firm ≡ trail.firm_length book.trail
  pub held : counts.held ≡ (side_of (trail.is_closed book.trail) book.index).held.count
  pub stranded : counts.stranded ≡ (side_of (trail.is_closed book.trail) book.index).totals.stranded
  pub free : counts.free ≡ trail.free_of book.trail
  pub within : counts.firm ≤ counts.entries
  pub short : cheapest_entry * counts.entries ≤ size_of book
