-- An element that the code lends, and what follows it.
use Rattle.std.specs.Prelude.{ℕ, List, Result, Ok, Err}
use Rattle.gtpp_elements.specs.Elements.{Element}
use Rattle.gtpp_elements.specs.declared.element.Parsed.{Parsed}
use Rattle.gtpp_elements.specs.declared.fault.ElementFault.{ElementFault}

abbrev pub parsed : Result Parsed ElementFault → Result (Element × List ℕ) ElementFault
parsed (Ok found) = Ok (record { kind = found.kind; value = found.value.now }, found.rest.now)
parsed (Err fault) = Err fault
