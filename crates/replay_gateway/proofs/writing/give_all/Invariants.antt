use Rattle.std.proofs.Common.{◌≡◌, ℕ, ◌+◌, ◌-◌, ◌<◌, ◌≤◌, ◌^◌, [], length, take, false, Some}
use Rattle.replay_gateway.proofs.Names.{Gateway, HasAdvanced, is_broken, IsAt, items_of, Machine, settings_in, Setup, shelf_tells, SiteStands}
use Rattle.file_writer.specs.Writer.{taken_of}
use Rattle.replay_gateway.proofs.writing.give_all.Given as goal

-- the items of the parts that were given are taken
abbrev pub invariant-loop-count : goal.invariant-loop-count
invariant-loop-count l = record {
  ready : is_broken l.writer ≡ false;
  taken : taken_of l.writer ≡ l.taken;
  few : l.taken < 2 ^ 31;
  short : l.count ≤ 64;
  settings : settings_in l.writer ≡ settings_in l.fn.writer;
  goes : (setup : Setup) (place : ℕ) (g : Gateway) (m : Machine) → g.is_down ≡ false
      → SiteStands setup place g m (Some l.fn.site) → IsAt l.fn.writer (λ s. 0) []
      → SiteStands setup place g m (Some l.site)
      × HasAdvanced shelf_tells (λ s. 0) (take l.taken (items_of g.book.firm)) l.fn.writer l.writer
      × (l.taken ≤ length (items_of g.book.firm))
      × (l.count < 64 → (l.taken ≡ length (items_of g.book.firm)) × (length (items_of g.book.firm) < 2 ^ 31));
}

abbrev pub decreases-loop-count : goal.decreases-loop-count
decreases-loop-count l = 2 ^ 31 + l.count - l.taken
