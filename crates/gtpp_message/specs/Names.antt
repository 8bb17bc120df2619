-- The names by which reports tell why a datagram isn't answered.
use Rattle.std.specs.Prelude.{ℕ, List, codes}
use Rattle.gtpp_message.specs.declared.reading.Why.{Why}
use Rattle.gtpp_message.specs.declared.reading.Why.TheVariants.{Short, NotPrime, Cut, UnknownType, Stray, Malformed, NoRoom, Device}

abbrev pub name_of : Why → List ℕ
name_of Short = codes "Short"
name_of NotPrime = codes "NotPrime"
name_of Cut = codes "Cut"
name_of UnknownType = codes "UnknownType"
name_of Stray = codes "Stray"
name_of (Malformed cause) = codes "Malformed"
name_of NoRoom = codes "NoRoom"
name_of Device = codes "Device"
