-- A gateway at rest: what it hands out, and what it filed, which is read.
use Rattle.std.proofs.Common.{sym, ◌∙◌, append_assoc, append-nil, ◌≡◌, inl, inr, ap, subst, Bool, false, ℕ, ◌+◌, List, [], ◌++◌, length, take, take_all, Option, None, arith, refl, zero, suc, ◌<◌, ◌≤◌, ◌∷◌, map, All, Contains, Some, IfSome, codes, slice_get, Ok}
use Rattle.replay_gateway.proofs.Names.{after_setting, after_settings, All-append, All-cons, All-head, All-nil, All-tail, any_or, area_tells, AreFilesOf, AreLimits, AreOpenFiles, AreShut, bytes_eq, cases_lt, closed_of, ClosedRun, cond_both, default_setup, Filed, files_in, Filing, flat_map, format_in, Gateway, header_at, HistoryEntry, IsAllWritten, IsAtRest, IsHandedOut, IsInRange, IsOpenFile, IsRead, IsWithin, Item, items_of, last_stream, LeavesHistory, length-map, Line, Machine, MemoryArea, MemoryShelf, number_up_to, Rule, rule_by, rule_of, rules_in_line, rules_said, script_in, ScriptKind, SealedFile, Settings, Setup, setup_of, shelf_tells, StandsFitFor, stream_count, stream_division, stream_files, stream_record, tag_in, UnsealedFile, words_of, ◌>>=◌}
use Rattle.gw_base.specs.declared.tag.Tag.{Tag}
use Rattle.replay_gateway.proofs.WriterLemmas.{files_count}
use Rattle.std.specs.Option.{option_map_or}
use Rattle.file_writer.specs.Places.{FilePlace, in_run, record_at, run_with}
use Rattle.file_writer.specs.Reading.{ReadsAt}
use Rattle.gate_journal.specs.Format.{most_octets}
use Rattle.gateway_answer.specs.declared.filing.FiledRecord.{FiledRecord}
use Rattle.once_core.specs.FilePlaces.{placed}
use Rattle.once_core.specs.Readable.{AreFileSettings}
use Rattle.route_filter.specs.Rules.{rule_said}
use Rattle.world_script.specs.declared.line.Line.TheVariants as line
use Rattle.replay_gateway.proofs.RangeLemmas.{lines_in_range, number_within, pos_within}

-- The area and the shelf that a gateway hands out which has written all.

-- Where no file is open, none is unsealed.

none_unsealed : (settings : Settings) (items : List Item) (unsealed : ℕ → Option UnsealedFile) →
    AreOpenFiles settings (λ s. 0) items unsealed → AreShut items → (s : ℕ) → unsealed s ≡ None
none_unsealed settings items unsealed are shut s =
    elim (cases_lt s stream_count) [
      | inl within ↦
          subst (λ (run : List (Filed (List ℕ))). IsOpenFile
          (record { stream = s; sequence = 0 + closed_of settings s items + 1 }) run (unsealed s)) (shut settings s)
          (are.each s within)
      | inr beyond ↦ are.beyond s beyond
    ]

-- the area of a gateway that runs, all of whose entries are firm, stands for these
left_firm : (g : Gateway) (h : List HistoryEntry) → LeavesHistory g.is_down g h → g.is_down ≡ false → g.book.rest ≡ [] →
    h ≡ g.book.firm
left_firm g h kept runs firm =
    elim (subst (λ (b : Bool). LeavesHistory b g h) runs kept) [
      | inl is ↦ is
      | inr is ↦ is ∙ ap (λ (rest : List HistoryEntry). g.book.firm ++ rest) firm ∙ append-nil g.book.firm
    ]

-- the files are all that the items close, and none is left
module _ (setup : Setup) (place : ℕ) (g : Gateway) (m : Machine) (a : MemoryArea) (shelf : MemoryShelf)
    (is : IsHandedOut setup place g m a shelf) (settled : IsAllWritten (files_in setup place) g m) where
  abbrev items : List Item
  items = items_of g.book.firm

  abbrev settings : Settings
  settings = files_in setup place

  all_files : AreFilesOf settings items (shelf_tells.files shelf)
  all_files = record {
    each = λ s small. is.files.each s small
        ∙ ap (λ (f : Filing). take (f.sealed s) (stream_files settings s items)) settled.written
        ∙ take_all (closed_of settings s items) (stream_files settings s items) (omega (arith, files_count settings s items));
    only = is.files.only;
  }

  all_open : AreOpenFiles settings (λ s. 0) items (shelf_tells.unsealed shelf)
  all_open = rw (take_all (length items) items (omega arith)) at (is.unsealed (length items) (cc settled.written))

  pub gateway_at_rest : IsAtRest setup place g a shelf
  gateway_at_rest =
      let area = rw (left_firm g _ is.area.kept settled.runs settled.firm) at is.area.holds.stands in
      let crash = is.area.crash settled.runs settled.whole in
      let sealed = none_unsealed _ _ _ all_open settled.shut in
      assumption all_files

-- What a gateway at rest filed is read, where a script says its settings.

-- ---- what scripts set

abbrev IsLow : Rule → Type 0
IsLow rule = rule.stream ≤ last_stream

low_by : (words : List (List ℕ)) → IfSome (rule_by words) IsLow
low_by (a ∷ b ∷ c ∷ []) = by (any_or tag_in a) (any_or format_in b) (number_up_to last_stream c) refl
  where
    by : (tag : Option (Option Tag)) (format : Option (Option ℕ)) (stream : Option ℕ) →
        number_up_to last_stream c ≡ stream → IfSome (tag >>= λ t. format >>= λ f. stream >>= λ s.
        Some (record { tag = t; format = f; stream = s })) IsLow
    by (Some tag) (Some format) (Some stream) is = number_within last_stream c is
    by _ _ _ is = tt
low_by _ = tt

low_said : (words : List (List ℕ)) → IfSome (rule_said words) IsLow
low_said [] = tt
low_said (word ∷ words) =
    cond_both (bytes_eq word (codes "rule")) (rule_by words) None (λ o. IfSome o IsLow) (λ is. low_by words)
    (λ other. tt)

rules_low : (text : List ℕ) → All IsLow (rules_said text)
rules_low text = by (rule_of text) (low_said (words_of text))
  where
    by : (o : Option Rule) → IfSome o IsLow → All IsLow (option_map_or (λ rule. rule ∷ []) o [])
    by None low = All-nil IsLow
    by (Some rule) low = All-cons IsLow rule [] low (All-nil IsLow)

-- areas aren't too long, and files are such as are read
record IsReadable (s : Setup) : Type 0 where
  pub size : s.size ≤ most_octets
  pub limits : AreLimits s.limits
  pub offset : IsWithin 959 s.offset
  pub streams : All IsLow s.rules

by_default : IsReadable default_setup
by_default = record {
  size = omega arith;
  limits = record { size_from = omega arith; size_to = omega arith; count_from = omega arith };
  offset = pos_within 0 (omega arith);
  streams = All-nil IsLow;
}

after_one : (s : Setup) (said : Line) → IsReadable s → IsInRange said → IsReadable (after_setting s said)
after_one s (line.Rule text) is range = record {
  size = is.size;
  limits = is.limits;
  offset = is.offset;
  streams = All-append IsLow s.rules (rules_said text) is.streams (rules_low text);
}
after_one s _ is range = assumption

-- a line adds the rules that it says
one_ruled : (s : Setup) (said : Line) → (after_setting s said).rules ≡ s.rules ++ rules_in_line said
one_ruled s said = grind (arith, append-nil)

pub rules_after : (s : Setup) (lines : List Line) → (after_settings s lines).rules ≡ s.rules ++ flat_map rules_in_line lines
rules_after s [] = sym (append-nil s.rules)
rules_after s (said ∷ lines) =
    rules_after (after_setting s said) lines ∙ ap (λ rules. rules ++ flat_map rules_in_line lines) (one_ruled s said)
    ∙ append_assoc s.rules (rules_in_line said) (flat_map rules_in_line lines)

after_all : {s : _} (lines : List Line) → IsReadable s → All IsInRange lines → IsReadable (after_settings s lines)
after_all [] is range = is
after_all {s} (said ∷ lines) is range =
    after_all {s = after_setting s said} lines (after_one s said is (All-head IsInRange said lines range))
    (All-tail IsInRange said lines range)

-- ---- files that are closed

before_last : (runs : List (List (Filed (List ℕ)))) (before index : ℕ) {filed : _} →
    in_run index (slice_get (runs ++ [] ∷ []) before) ≡ Some filed → before < length runs
before_last [] zero index there = cc
before_last [] (suc before) index there = cc
before_last (run ∷ runs) zero index there = omega arith
before_last (run ∷ runs) (suc before) index there = omega (arith, before_last runs before index there)

closed_there : (settings : Settings) (items : List Item) (place : FilePlace) {filed : _} → AreShut items →
    record_at settings items place ≡ Some filed → place.sequence ≤ closed_of settings place.stream items
closed_there settings items place {filed} shut there = by place.sequence (rw (shut settings place.stream) at there)
  where
    closed : List (ClosedRun (List ℕ))
    closed = (stream_division settings place.stream items).closed

    runs : List (List (Filed (List ℕ)))
    runs = map (λ (c : ClosedRun (List ℕ)). c.run) closed

    by : (sequence : ℕ) → in_run place.index (run_with sequence (runs ++ [] ∷ [])) ≡ Some filed → sequence ≤ length closed
    by zero there = omega arith
    by (suc before) there =
        omega (arith, before_last runs before place.index there, length-map closed (λ (c : ClosedRun (List ℕ)). c.run))

-- ---- what is read

abbrev pub Reads : Type 0
Reads = (settings : Settings) (header octets : List ℕ) (h : List HistoryEntry) (files : List SealedFile)
    (place : FilePlace) (filing : FiledRecord) → AreFileSettings settings → StandsFitFor header octets h →
    length octets ≤ most_octets → AreFilesOf settings (items_of h) files →
    place.sequence ≤ closed_of settings place.stream (items_of h) → Contains (placed settings h) (place, filing) →
    ReadsAt files place (stream_record settings.profile filing.kind filing.octets filing.moment)

abbrev pub StandThere : Type 0
StandThere = (settings : Settings) (h : List HistoryEntry) (place : FilePlace) (filing : FiledRecord) →
    Contains (placed settings h) (place, filing) → record_at settings (items_of h) place
    ≡ Some (stream_record settings.profile filing.kind filing.octets filing.moment)

pub rest_read : Reads → StandThere → (of : ScriptKind) (text : List ℕ) (lines : List Line) (place : ℕ) (g : Gateway)
    (a : MemoryArea) (shelf : MemoryShelf) → script_in of text ≡ Ok lines → IsAtRest (setup_of lines) place g a shelf →
    IsRead (files_in (setup_of lines) place) g.book.firm shelf
rest_read reads stand of text lines place g a shelf h rests at filing is =
    let settings = files_in (setup_of lines) place in
    let sound = after_all lines by_default (lines_in_range of text h).each in
    reads settings (header_at (setup_of lines) place) (area_tells.octets a) g.book.firm (shelf_tells.files shelf) at
    filing (record { limits = sound.limits; offset = sound.offset; streams = sound.streams }) rests.area
    (omega (arith, rests.size, sound.size)) rests.files
    (closed_there settings _ at rests.shut (stand settings g.book.firm at filing is)) is
