-- From which rule on a record's tag is sought: tags fall into groups, and each has a start.
use Rattle.std.specs.Prelude.{◌≡◌, ℕ, ◌+◌, ◌%◌, ◌<◌, ◌≤◌, ◌==◌, ◌&&◌, not, Bool, true, false, if◌then◌else◌, List, length, slice_index, slice_index_or, Option}
use Rattle.std.specs.Option.{option_map_or}
use Rattle.gw_base.specs.declared.tag.Tag.{Tag}
use Rattle.route_filter.specs.declared.rule.Rule.{Rule}

abbrev pub group_count : ℕ
group_count = 64

-- by the constructed bit and the last five bits of the number
abbrev pub group_of : Tag → ℕ
group_of tag = (if tag.constructed then 32 else 0) + tag.number % 32

-- the start of a tag's group, and of none the first rule
abbrev pub start_of : List ℕ → Option Tag → ℕ
start_of starts tag = option_map_or (λ tag. slice_index starts (group_of tag)) tag 0

-- whether a rule may match a record with a tag of this group
abbrev pub may_match : ℕ → Rule → Bool
may_match group rule = option_map_or (λ tag. group_of tag == group) rule.tag true

-- the start of a group, once a rule stands behind so many others
abbrev pub start_after : ℕ → Rule → ℕ → ℕ → ℕ
start_after group rule count start = if (start == count) && not (may_match group rule) then count + 1 else start

-- The start of a group is the place of the first rule that may match a tag of it, or behind all where none may.
pub record AreStarts (starts : List ℕ) (rules : List Rule) : Type 0 where
  pub groups : length starts ≡ group_count
  pub within : (g : ℕ) → g < group_count → slice_index starts g ≤ length rules
  pub passed : (g k : ℕ) (d : Rule) → g < group_count → k < slice_index starts g → may_match g (slice_index_or rules k d) ≡ false
  pub met : (g : ℕ) (d : Rule) → g < group_count → slice_index starts g < length rules →
      may_match g (slice_index_or rules (slice_index starts g) d) ≡ true
