use Rattle.cdr_file.proofs.ListingLemmas.{six_words}
use Rattle.cdr_file.proofs.listing.append_cdr.Goals as goal

pub returns : goal.returns
returns c =
    rw (c.in_ok-push.ensures.items, c.in_ok-append_octets.ensures, c.in_ok-append_number-4.ensures, c.in_ok-append_number-3.ensures, c.in_ok-append_release.ensures, c.in_ok-append_number-2.ensures, c.in_ok-append_number.ensures, c.in_ok-extend_from_slice.ensures.items, c.octets.ensures)
    (six_words _ _ _ _ _ _ _ _)
