-- What the files of items are read as.
use Rattle.std.specs.Prelude.{◌≡◌, ◌<◌, ◌^◌, ℕ, Contains, List, Ok, Some, slice_get}
use Rattle.cdr_file.specs.CdrFile.{FileSettings, cdr_of}
use Rattle.cdr_file.specs.Reading as reading
use Rattle.cdr_file.specs.Timestamp.{stamp_of}
use Rattle.cdr_file.specs.declared.file.CdrFile.{CdrFile}
use Rattle.cdr_shelf.specs.Files.{SealedFile}
use Rattle.file_rotate.specs.Items.{Filed}
use Rattle.gw_base.specs.declared.item.Item.{Item}
use Rattle.gw_base.specs.declared.item.Item.TheVariants as item
use Rattle.file_writer.specs.Files.{record_of}
use Rattle.file_writer.specs.Places.{FilePlace}

-- the moment of a record has a timestamp of four octets, as each has by which `stamp` of `cdr_file` is called
abbrev pub IsStamped : FileSettings → Item → Type 0
IsStamped settings (item.Part kind tag octets moment) = stamp_of moment settings.offset < 2 ^ 32
IsStamped settings (item.Tick moment) = Unit {0}
IsStamped settings (item.Close moment) = Unit {0}

-- the file of these with the name of a place is read as a CDR file, and the record's CDR stands at its index there
pub record ReadsAt (files : List SealedFile) (place : FilePlace) (filed : Filed (List ℕ)) : Type 0 where
  pub file : SealedFile
  pub kept : Contains files file
  pub name : file.name ≡ record { stream = place.stream; sequence = place.sequence }
  pub read : CdrFile
  pub reads : reading.file_in file.octets ≡ Ok read
  pub there : slice_get read.cdrs place.index ≡ Some (cdr_of (record_of filed))
