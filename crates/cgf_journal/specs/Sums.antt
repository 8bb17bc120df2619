-- Sums of entries, and what they tell with the held keys.
use Rattle.std.specs.Prelude.{◌+◌, List}
use Rattle.gw_base.specs.declared.held.HeldKey.{HeldKey}
use Rattle.gw_base.specs.declared.history.HistoryEntry.{HistoryEntry}
use Rattle.gw_base.specs.History.{due_after}
use Rattle.entry_codec.specs.Spelling.{cost_of}
use Rattle.cgf_journal.specs.Tally.{TallyValue}
use Rattle.cgf_journal.specs.declared.sum.Sum.{Sum}

-- a sum after one more entry
abbrev pub sum_after : Sum → HistoryEntry → Sum
sum_after sum e = record { costs = sum.costs + cost_of e; is_close_due = due_after sum.is_close_due e.act }

-- what a sum and held keys tell
abbrev pub tally_with : Sum → List HeldKey → TallyValue
tally_with sum held = record { costs = sum.costs; held = held; is_close_due = sum.is_close_due }
