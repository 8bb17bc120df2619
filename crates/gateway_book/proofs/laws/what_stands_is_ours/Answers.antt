use Rattle.gate_journal.specs.Format.{header}
use Rattle.gate_journal.specs.Spelling.{first-header, length-header}
use Rattle.gateway_book.proofs.Ours.{not_ours_or_starts, stands_or_not_ours}
use Rattle.gateway_book.proofs.laws.what_stands_is_ours.Goals as goal

pub returns-clause-starts : goal.returns-clause-starts
returns-clause-starts c = λ size address octets h stands. c.what_stands_is_ours.ensures.starts size address 0 octets h stands.stands

pub returns-clause-ours : goal.returns-clause-ours
returns-clause-ours c = λ size address octets h at stands. stands_or_not_ours c.entries_are_read_back.ensures (header size address 0) octets h at (length-header size address 0) stands

pub returns-clause-others : goal.returns-clause-others
returns-clause-others c = λ size address octets at other starts. not_ours_or_starts (header size address 0) octets at (length-header size address 0) (first-header size address 0) other starts
