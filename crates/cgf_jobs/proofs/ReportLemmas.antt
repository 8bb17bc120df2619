-- What is printed for the lines of a script, step by step.
use Rattle.std.proofs.Common.{◌≡◌, ℕ, ◌+◌, true, false, List, ◌∷◌, ◌++◌, Some, ap, sym, append_assoc, append-nil}
use Rattle.cgf_jobs.proofs.Names.{after_line, Fed, fed_from, FeedState, is_earlier, Line, printed_for, Setup, with_print}

-- two prints in front of the later lines are one
prints_joined : (a b : List ℕ) (later : Fed) → with_print a (with_print b later) ≡ with_print (a ++ b) later
prints_joined a b later = ap (λ printed. record { printed = printed; refused = later.refused }) (sym (append_assoc a b later.printed))

-- a line is run in front of the others
pub line_run : (setup : Setup) (place : ℕ) (s : FeedState) (l : Line) (lines : List Line) (printed : List ℕ) → is_earlier s.now l ≡ false
    → with_print printed (fed_from setup place s (l ∷ lines))
    ≡ with_print (printed ++ printed_for s l) (fed_from setup (place + 1) (after_line s l) lines)
line_run setup place s l lines printed e =
    rw e (prints_joined printed (printed_for s l) (fed_from setup (place + 1) (after_line s l) lines))

-- a line that can't be run ends the feed
pub line_refused : (setup : Setup) (place : ℕ) (s : FeedState) (l : Line) (lines : List Line) (printed : List ℕ) → is_earlier s.now l ≡ true
    → with_print printed (fed_from setup place s (l ∷ lines)) ≡ record { printed = printed; refused = Some place }
line_refused setup place s l lines printed e =
    rw e (ap (λ all. record { printed = all; refused = Some place }) (append-nil printed))
