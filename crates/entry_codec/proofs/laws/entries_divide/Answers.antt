use Rattle.entry_codec.proofs.Contents.{first_entries}
use Rattle.entry_codec.proofs.laws.entries_divide.Goals as goal
use Rattle.std.proofs.Common.{sym, ap, ◌∙◌, ◌++◌, List, ℕ}

pub returns : goal.returns
returns c =
    λ a b h g front whole. first_entries h g b front.each whole.each (ap (λ (o : List ℕ).
    o ++ b) (sym front.spelling) ∙ whole.spelling)
