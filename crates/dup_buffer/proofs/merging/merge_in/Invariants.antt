use Rattle.std.proofs.Common.{◌≡◌, ◌+◌, ◌≤◌, ◌++◌, List, length}
use Rattle.dup_buffer.specs.Stored.{AreFrom, IsMerging, IsOnce}
use Rattle.dup_buffer.specs.declared.copy.HeldCopy.{HeldCopy}
use Rattle.dup_buffer.proofs.merging.merge_in.Given as goal

abbrev pub invariant-loop-j : goal.invariant-loop-j
invariant-loop-j l = (l.i + l.j ≤ length l.copies) × (l.j ≤ length l.late) × (length l.copies ≡ length l.fn.copies)
    × ((kept : List HeldCopy) → length kept ≡ l.fn.count → AreFrom 0 kept → IsOnce (kept ++ l.late) → l.fn.copies ≡ kept ++ l.late → IsMerging kept l.late l.i l.j l.copies)

abbrev pub decreases-loop-j : goal.decreases-loop-j
decreases-loop-j l = l.i + l.j
