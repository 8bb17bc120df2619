-- Each row is found by its key where no other row has it.
use Rattle.std.proofs.Common.{◌≡◌, ◌∙◌, ℕ, zero, suc, ◌+◌, ◌<◌, ◌≤◌, true, not, List, [], ◌∷◌, Some, Contains, cond, length, get_or, sym, ap, inl, inr, arith}
use Rattle.std.specs.List.{count_by, find}
use Rattle.std.proofs.lemmas.Bool.{eq-eqb, false≢true, ltb-false, not-true, true_from_ne_false}
use Rattle.std.proofs.lemmas.Bool.Decides.{eqb_tells}
use Rattle.std.proofs.lemmas.List.Folds.{list_all_at}
use Rattle.std.proofs.lemmas.List.Sums.{sum_by-cons}
use Rattle.case_table.specs.declared.Row.{Row}
use Rattle.case_table.specs.Rows.{are_distinct, has_key, is_doubled}

-- the rows that have a key, where one more row stands in front
count_front : (key : ℕ) (row : Row) (rows : List Row) → count_by (has_key key) (row ∷ rows) ≡ cond (has_key key row) 1 0 + count_by (has_key key) rows
count_front key row rows = sum_by-cons (λ (r : Row). cond (has_key key r) 1 0) row rows

-- a row's key is counted
counted : (rows : List Row) (k : ℕ) (row : Row) → k < length rows → get_or rows k row ≡ row → 0 < count_by (has_key row.key) rows
counted [] k row below at = absurd (omega arith)
counted (first ∷ rows) zero row below at =
    let same = eq-eqb first.key row.key (ap (λ (r : Row). r.key) at) in
    omega (arith, count_front row.key first rows, ap {B = ℕ} (λ b. cond b 1 0) same)
counted (first ∷ rows) (suc k) row below at =
    omega (arith, count_front row.key first rows, counted rows k row (omega arith) at)

-- a row whose key is counted once is the first with its key
found_at : (rows : List Row) (k : ℕ) (row : Row) → k < length rows → get_or rows k row ≡ row → count_by (has_key row.key) rows ≤ 1 → find (has_key row.key) rows ≡ Some row
found_at [] k row below at once = absurd (omega arith)
found_at (first ∷ rows) zero row below at once =
    let same = eq-eqb first.key row.key (ap (λ (r : Row). r.key) at) in
    rw same (ap Some at)
found_at (first ∷ rows) (suc k) row below at once =
    let counts = count_front row.key first rows in
    elim (eqb_tells first.key row.key) [
      | inl same ↦ absurd (omega (arith, counts, once, ap {B = ℕ} (λ b. cond b 1 0) same.0, counted rows k row (omega arith) at))
      | inr other ↦ rw other.0 (found_at rows k row (omega arith) at (omega (arith, counts, once, ap {B = ℕ} (λ b. cond b 1 0) other.0)))
    ]

-- where no key is doubled, each row is the first with its key
pub found : (rows : List Row) (row : Row) → are_distinct rows ≡ true → Contains rows row → find (has_key row.key) rows ≡ Some row
found rows row distinct (k, below, at) =
    let passes : not (is_doubled rows (get_or rows k row).key) ≡ true = true_from_ne_false _ (λ fails. false≢true (sym (list_all_at (λ (r : Row). not (is_doubled rows r.key)) rows k row below fails) ∙ distinct)) in
    let once = ltb-false 1 _ (not-true _ passes) in
    found_at rows k row below at (rw at at once)
