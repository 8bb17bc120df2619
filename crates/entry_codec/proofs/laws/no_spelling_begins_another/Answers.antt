use Rattle.std.proofs.Common.{[], sym, ◌∙◌}
use Rattle.std.proofs.lemmas.List.{append-nil}
use Rattle.entry_codec.specs.Spelling.{spelling}
use Rattle.entry_codec.proofs.Entries.{entry_part}
use Rattle.entry_codec.proofs.Parts.{same_first}
use Rattle.entry_codec.proofs.laws.no_spelling_begins_another.Goals as goal

pub returns : goal.returns
returns c = λ a b more fa fb e. (same_first entry_part a b more [] fa fb (sym e ∙ sym (append-nil (spelling b)))).1
