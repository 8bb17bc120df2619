use Rattle.std.proofs.Common.{◌≡◌, ℕ, ◌&&◌, if◌then◌else◌, length, nat_le, nat_lt, slice_index_or}
use Rattle.gw_base.specs.declared.key_state.KeyState.TheVariants.{Fresh}
use Rattle.seq_window.proofs.ring.freshen_part.Given as goal

abbrev pub invariant-loop-k : goal.invariant-loop-k
invariant-loop-k l = (length l.cells ≡ length l.fn.cells) × ((k : ℕ) → slice_index_or l.cells k Fresh ≡ (if nat_le l.from k && nat_lt k l.k then Fresh else slice_index_or l.fn.cells k Fresh))
