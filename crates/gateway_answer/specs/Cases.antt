-- What a prepared datagram says whose octets the code lends.
use Rattle.std.specs.Prelude.{◌≡◌, List, ℕ}
use Rattle.gtpp_message.specs.Values.{transfer_value}
use Rattle.gateway_answer.specs.Preparing as of
use Rattle.gateway_answer.specs.declared.case.Case.{Case}
use Rattle.gateway_answer.specs.declared.case.Case.TheVariants as case

abbrev pub case_value : Case → of.PreparedValue
case_value (case.Drop why) = of.Drop why
case_value (case.OtherVersion number) = of.OtherVersion number
case_value (case.Refused cause number) = of.Refused cause number
case_value (case.Path event) = of.Path event
case_value (case.Request number body) = of.Request number (transfer_value body)

-- a case is what is made of these octets
pub record IsCaseOf (octets : List ℕ) (prepared : Case) : Type 0 where
  pub value : case_value prepared ≡ of.prepared_of octets
  pub whole : of.IsWhole (case_value prepared)
  pub short : of.IsShort (case_value prepared)
