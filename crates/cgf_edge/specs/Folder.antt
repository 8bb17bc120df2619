-- The path of a shelf's folder.
use Rattle.std.specs.Prelude.{ℕ, List, [], ◌∷◌, ◌++◌}

-- with a slash behind it; an empty one names no folder, and stays so
abbrev pub with_slash : List ℕ → List ℕ
with_slash [] = []
with_slash (octet ∷ octets) = (octet ∷ octets) ++ 47 ∷ []
