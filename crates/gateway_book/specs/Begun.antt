-- A book over a trail that was opened.
use Rattle.std.specs.Prelude.{◌≡◌, ℕ, false}
use Rattle.area_disk.specs.declared.area.Area.{Ghosts}
use Rattle.gate_journal.specs.Moments.{Told}
use Rattle.cgf_journal.specs.Trail as trail
use Rattle.cgf_journal.specs.declared.trail.Trail.{Trail}
use Rattle.gateway_book.specs.Book.{IsFirm, area_of, header_of, open_time_of, value_of}
use Rattle.gateway_answer.specs.Value.{opened, started}
use Rattle.gateway_book.specs.declared.book.Book.{Book}

-- The book has the trail's entries, and a Start where there was room for one.
pub record IsBegun {A : Type 0} {tells : Ghosts A} (old : Trail A tells) (open_time : ℕ) (book : Book A tells) : Type 0 where
  pub value : Told tells → value_of book ≡ opened (tells.size (trail.area_of old)) (trail.firm_entries old)
  pub whole : trail.is_closed book.trail ≡ false
  pub firm : IsFirm book
  pub uncut : book.cuts ≡ 0
  pub area : area_of book ≡ trail.area_of old
  pub named : header_of book ≡ trail.header_of old
  pub set : open_time_of book ≡ open_time

-- The book has a Start more, where there was room for one.
pub record IsStarted {A : Type 0} {tells : Ghosts A} (old new : Book A tells) : Type 0 where
  pub value : Told tells → value_of new ≡ started (tells.size (area_of old)) (value_of old)
  pub whole : trail.is_closed new.trail ≡ false
  pub uncut : new.cuts ≡ old.cuts
  pub area : area_of new ≡ area_of old
  pub named : header_of new ≡ header_of old
  pub set : open_time_of new ≡ open_time_of old
