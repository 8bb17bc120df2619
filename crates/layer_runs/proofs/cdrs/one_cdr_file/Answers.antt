use Rattle.std.proofs.Common.{append_assoc, zero-add}
use Rattle.std.proofs.lemmas.List.{append-nil}
use Rattle.layer_runs.proofs.cdrs.one_cdr_file.Goals as goal

pub returns : goal.returns
returns c =
    rw (c.in_ok-extend_from_slice-3.ensures.items, c.in_ok-extend_from_slice-2.ensures.items, c.in_ok-extend_from_slice.ensures.items, c.octets-2.ensures.octets, c.octets.ensures.octets, c.write_cdr-cdr.ensures, c.write_header-header.ensures, c.node_address.ensures, c.code.ensures, c.stamp-stamp.ensures, c.new-file.ensures.items) (simp (append-nil, append_assoc, zero-add))
