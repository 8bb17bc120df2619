-- Rules that say which stream a record's CDR file belongs to. Their form is this project's own.
use Rattle.std.specs.Prelude.{◌≡◌, ℕ, ◌<◌, ◌≤◌, ◌==◌, ◌&&◌, Bool, true, false, not, min, if◌then◌else◌, List, [], ◌∷◌, ◌++◌, length, find, Option, Some, None, option_map, option_and_then, Result, Ok, Err, codes}
use Rattle.std.specs.List.{All}
use Rattle.std.specs.Option.{option_map_or}
use Rattle.std.specs.Str.{bytes_eq}
use Rattle.gw_base.specs.declared.tag.Tag.{Tag}
use Rattle.ber_frame.specs.Reading.{whole_identifier}
use Rattle.ber_frame.specs.declared.fault.BerFault.{BerFault}
use Rattle.route_filter.specs.Words.{number_up_to, octets_in, words_of, ◌>>=◌}
use Rattle.route_filter.specs.declared.rule.Rule.{Rule}

-- The form of a rule: `rule TAG FORMAT STREAM`.

-- any, or what a word says
abbrev pub any_or : {A : Type 0} → (List ℕ → Option A) → List ℕ → Option (Option A)
any_or said word = if bytes_eq word (codes "*") then Some None else option_map Some (said word)

abbrev pub accepted : Result Tag BerFault → Option Tag
accepted (Ok tag) = Some tag
accepted (Err fault) = None

-- the tag that a word spells: the octets of one identifier in hexadecimal (ITU-T X.690, clause 8.1.2), read with the
-- leniency and the limits of `ber_frame`
abbrev pub tag_in : List ℕ → Option Tag
tag_in word = option_and_then (λ octets. accepted (whole_identifier octets)) (octets_in word)

-- a data record format as the header of a CDR says it in three bits (3GPP TS 32.297, clause 6.1.2); that what they can't
-- say is 7 is this project's own
abbrev pub capped : ℕ → ℕ
capped format = min format 7

abbrev pub format_in : List ℕ → Option ℕ
format_in word = option_map capped (number_up_to 255 word)

-- the greatest number of a stream
abbrev pub last_stream : ℕ
last_stream = 15

-- the rule that the words after the first say
abbrev pub rule_by : List (List ℕ) → Option Rule
rule_by (tag_word ∷ format_word ∷ stream_word ∷ []) = do
  tag ← any_or tag_in tag_word
  format ← any_or format_in format_word
  stream ← number_up_to last_stream stream_word
  Some (record { tag = tag; format = format; stream = stream })
rule_by _ = None

abbrev pub rule_said : List (List ℕ) → Option Rule
rule_said (word ∷ words) = if bytes_eq word (codes "rule") then rule_by words else None
rule_said [] = None

-- the rule that a line says
abbrev pub rule_of : List ℕ → Option Rule
rule_of line = rule_said (words_of line)

-- the most rules that there may be
abbrev pub most_rules : ℕ
most_rules = 256

-- Rules that can be kept: not too many, each for one of the streams.
pub record AreRules (rules : List Rule) : Type 0 where
  pub most : length rules ≤ most_rules
  pub streams : All (λ (rule : Rule). rule.stream ≤ last_stream) rules

-- The rule that a line says was added after the others, which there was room for.
pub record AddsRule (line : List ℕ) (old new : List Rule) : Type 0 where
  pub rule : Rule
  pub said : rule_of line ≡ Some rule
  pub room : length old < most_rules
  pub grown : new ≡ old ++ rule ∷ []

-- Which records a rule matches.

-- the tags are the same by class, constructed bit and number
abbrev pub same_tag : Tag → Tag → Bool
same_tag a b =
    (a.class == b.class) && (if a.constructed then b.constructed else not b.constructed) && (a.number == b.number)

-- Records of format 1 alone have a tag, since they alone are ASN.1 BER: others match any tag and no other.
abbrev pub matches_tag : Option Tag → Option Tag → ℕ → Bool
matches_tag None tag format = true
matches_tag (Some wanted) None format = false
matches_tag (Some wanted) (Some tag) format = (format == 1) && same_tag wanted tag

abbrev pub matches_format : Option ℕ → ℕ → Bool
matches_format None format = true
matches_format (Some wanted) format = wanted == capped format

-- whether a rule matches a record with this tag of a packet of this format
abbrev pub matches : Rule → Option Tag → ℕ → Bool
matches rule tag format = matches_tag rule.tag tag format && matches_format rule.format format

-- the stream of a record: that of the first rule that matches, and 0 where none does
abbrev pub stream_of : List Rule → Option Tag → ℕ → ℕ
stream_of rules tag format = option_map_or (λ rule. rule.stream) (find (λ rule. matches rule tag format) rules) 0
