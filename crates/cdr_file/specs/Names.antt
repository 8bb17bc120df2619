-- The names by which what is wrong with a CDR file is printed.
use Rattle.std.specs.Prelude.{ℕ, List, codes}
use Rattle.cdr_file.specs.declared.fault.FileKind.{FileKind}
use Rattle.cdr_file.specs.declared.fault.FileKind.TheVariants.{Short, FileLength, HeaderLength, Filter, Extension, CdrHeader, CdrCut, Count}

abbrev pub name_of : FileKind → List ℕ
name_of Short = codes "Short"
name_of FileLength = codes "FileLength"
name_of HeaderLength = codes "HeaderLength"
name_of Filter = codes "Filter"
name_of Extension = codes "Extension"
name_of CdrHeader = codes "CdrHeader"
name_of CdrCut = codes "CdrCut"
name_of Count = codes "Count"
