-- What is said of why a body is no list of elements.
use Rattle.std.specs.Prelude.{ℕ, List, ◌++◌, codes}
use Rattle.std.specs.Fmt.{decimal}
use Rattle.gtpp_elements.specs.declared.fault.ElementFault.{ElementFault}
use Rattle.gtpp_elements.specs.declared.fault.ElementFault.TheVariants.{Overrun, UnknownFixed}

abbrev pub element_fault_text : ElementFault → List ℕ
element_fault_text (Overrun at) = codes "the element at " ++ decimal at ++ codes " runs past the body"
element_fault_text (UnknownFixed kind at) =
    codes "the element at " ++ decimal at
    ++ (codes " has the unknown type " ++ decimal kind ++ codes " without a length")
