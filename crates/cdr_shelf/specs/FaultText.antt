-- What is said of why a file wasn't begun or written.
use Rattle.std.specs.Prelude.{ℕ, List, codes}
use Rattle.cdr_shelf.specs.declared.shelf.ShelfStop.{ShelfStop}
use Rattle.cdr_shelf.specs.declared.shelf.ShelfStop.TheVariants.{Failed, NoMemory}

abbrev pub shelf_stop_text : ShelfStop → List ℕ
shelf_stop_text Failed = codes "the shelf failed"
shelf_stop_text NoMemory = codes "out of memory"
