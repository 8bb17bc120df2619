use Rattle.std.specs.Prelude.{codes}
use Rattle.std.specs.Fmt.{digits as digits_in}
use Rattle.cgf_jobs.proofs.Names.{encode_upper, file_name}
use Rattle.cgf_jobs.proofs.PrintLemmas.{file_printed}
use Rattle.cgf_jobs.proofs.printing.print_file.Goals as goal

-- the 1 of the literal is the number of the first gateway
pub returns : goal.returns
unfolding digits_in
returns c =
    file_printed c.args.printed.now.items c.extend_from_slice.new.self.items c.print_name.new.printed.items c.push.new.self.items
    c.print_octets.new.printed.items (codes "file 1 ") (file_name c.args.name) (encode_upper c.args.octets.now)
    c.in_ok-extend_from_slice.ensures.items c.in_ok-print_name.ensures c.in_ok-push.ensures.items c.in_ok-print_octets.ensures
