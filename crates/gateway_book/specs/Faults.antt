-- The fault of a book whose trail wasn't opened.
use Rattle.gate_journal.specs.declared.faults.OpenFault.{OpenFault}
use Rattle.gate_journal.specs.declared.faults.OpenFault.TheVariants as opening
use Rattle.gateway_book.specs.declared.outcome.BookFault.{BookFault}
use Rattle.gateway_book.specs.declared.outcome.BookFault.TheVariants.{Device, NoMemory, NotOurs}

abbrev pub book_fault : OpenFault → BookFault
book_fault opening.Device = Device
book_fault (opening.NotOurs at) = NotOurs at
book_fault opening.NoMemory = NoMemory
