-- What is printed of why a link stopped.
use Rattle.std.specs.Prelude.{ℕ, List, codes}
use Rattle.net_link.specs.declared.link.LinkStop.{LinkStop}
use Rattle.net_link.specs.declared.link.LinkStop.TheVariants.{Failed, NoMemory}

abbrev pub link_stop_text : LinkStop → List ℕ
link_stop_text Failed = codes "the link failed"
link_stop_text NoMemory = codes "out of memory"
