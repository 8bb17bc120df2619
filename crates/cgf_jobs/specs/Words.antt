-- The words of the command line, and how they are parsed.
use Rattle.std.specs.Prelude.{ℕ, ◌==◌, Bool, true, false, List, [], ◌∷◌, Some, None, codes}
use Rattle.clap.specs.Words.{App, Row, Text, new_app, new_rule, with_rule}
use Rattle.clap.specs.Simple.{on_top}
use Rattle.clap.specs.declared.builder.action.ArgAction.TheVariants.{Append}
use Rattle.clap.specs.declared.builder.value_parser.Reading.TheVariants.{AsWritten}
use Rattle.clap.specs.declared.parser.matches.ValueSource.TheVariants.{CommandLine}

-- a word is an option: it begins with a minus sign, and isn't that sign alone, which names the standard input
abbrev pub is_option : List ℕ → Bool
is_option [] = false
is_option (x ∷ []) = false
is_option (x ∷ y ∷ xs) = x == 45

-- The parser: a positional argument for the command's name, and one for any number of values after it. The program's
-- own name isn't among the words, and there is no help and no version to ask for.
abbrev pub words_app : App
words_app = with_rule (with_rule
    (on_top (λ s. record s { no_binary_name = true; disable_help_flag = true; disable_version_flag = true }) (new_app (codes "cgf")))
    (new_rule (codes "COMMAND"))) (record (new_rule (codes "VALUES")) { action = Some Append })

-- what was found for an argument
abbrev pub found_as : Text → List Text → Row
found_as id values = record { id = id; values = values; count = None; source = Some CommandLine; reading = AsWritten }

abbrev pub found_values : List Text → List Row
found_values [] = []
found_values (v ∷ vs) = found_as (codes "VALUES") (v ∷ vs) ∷ []

-- what is found in words: the first is the command's name, and the others are its values
abbrev pub found_in : List Text → List Row
found_in [] = []
found_in (name ∷ values) = found_as (codes "COMMAND") (name ∷ []) ∷ found_values values
