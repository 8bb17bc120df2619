use Rattle.std.proofs.Common.{codes}
use Rattle.std.specs.Fmt.{decimal}
use Rattle.hex.specs.Hex.{encode_upper}
use Rattle.cdr_file.specs.Listing.{release_text, stamp_text}
use Rattle.cdr_file.specs.declared.file_header.FileHeader.{FileHeader}
use Rattle.cdr_file.proofs.ListingLemmas.{eleven_words}
use Rattle.cdr_file.proofs.listing.append_header.Goals as goal

pub returns : goal.returns
returns c =
    let h : FileHeader = c.args.header.now in
    rw (c.in_ok-push.ensures.items, c.in_ok-append_number.ensures, c.in_ok-append_hex.ensures, c.in_ok-append_numbers.ensures, c.in_ok-append_word-2.ensures, c.stamp_text-2.ensures, c.in_ok-append_word.ensures, c.stamp_text.ensures, c.in_ok-append_sizes.ensures, c.in_ok-extend_from_slice.ensures.items)
    (eleven_words c.args.text.now.items (codes "file") (decimal h.length) (decimal h.header_length) (release_text h.high_release h.high_extension h.high_version) (release_text h.low_release h.low_extension h.low_version)
    (stamp_text h.opened) (stamp_text h.appended) (decimal h.count) (decimal h.sequence) (decimal h.reason) (encode_upper h.address) (decimal h.lost))
