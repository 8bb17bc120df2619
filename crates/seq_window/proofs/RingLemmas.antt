-- Cells in a ring.
use Rattle.std.proofs.Common.{◌≡◌, ℕ, ◌+◌, ◌-◌, ◌<◌, ◌≤◌, List, ◌++◌, length, take, replicate, nat_le, nat_lt, ◌&&◌, if◌then◌else◌, slice_index_or, refl, sym, ap, ◌∙◌, inl, inr, arith}
use Rattle.std.proofs.lemmas.List.{get_or-append_right, get_or-replicate, get_or_append_left, get_or_past, length-replicate, take_all}
use Rattle.gw_base.specs.declared.key_state.KeyState.{KeyState}
use Rattle.gw_base.specs.declared.key_state.KeyState.TheVariants.{Fresh}
use Rattle.std.proofs.lemmas.Bool.{cases_lt, le-leb, le-ltb, lt-leb, lt-ltb}
use Rattle.seq_window.specs.Stored.{cell_below}

near_cell : (count at below : ℕ) → below ≤ at → cell_below count at below ≡ at - below
near_cell count at below le = rw (le-leb below at le) refl

far_cell : (count at below : ℕ) → at < below → cell_below count at below ≡ at + count - below
far_cell count at below lt = rw (lt-leb below at lt) refl

-- two numbers that the ring holds have two cells
pub cells_apart : (count at x y : ℕ) → at < count → x < count → y < count → cell_below count at x ≡ cell_below count at y → x ≡ y
cells_apart count at x y a b d e = elim (cases_lt at x) [
  | inl p ↦ elim (cases_lt at y) [
    | inl q ↦ omega (arith, a, b, d, sym (far_cell count at x p) ∙ e ∙ far_cell count at y q)
    | inr q ↦ omega (arith, a, b, d, sym (far_cell count at x p) ∙ e ∙ near_cell count at y q)
  ]
  | inr p ↦ elim (cases_lt at y) [
    | inl q ↦ omega (arith, a, b, d, sym (near_cell count at x p) ∙ e ∙ far_cell count at y q)
    | inr q ↦ omega (arith, a, b, d, sym (near_cell count at x p) ∙ e ∙ near_cell count at y q)
  ]
]

-- ---- cells that aren't stored

pub fresh_behind : (cells : List KeyState) (k : ℕ) → length cells ≤ k → slice_index_or cells k Fresh ≡ Fresh
fresh_behind cells k le = get_or_past cells k Fresh le

-- cells are the same with fresh ones behind them
pub reached : (cells : List KeyState) (n m k : ℕ) → length cells ≤ n → slice_index_or (take n cells ++ replicate m Fresh) k Fresh ≡ slice_index_or cells k Fresh
reached cells n m k le =
    ap (λ (l : List KeyState). slice_index_or (l ++ replicate m Fresh) k Fresh) (take_all n cells le)
    ∙ elim (cases_lt k (length cells)) [
      | inl lt ↦ get_or_append_left cells (replicate m Fresh) Fresh k lt
      | inr ge ↦ get_or-append_right cells (replicate m Fresh) (length cells) k Fresh refl ge ∙ fresh_only (k - length cells) ∙ sym (get_or_past cells k Fresh ge)
    ]
  where
    fresh_only : (j : ℕ) → slice_index_or (replicate m Fresh) j Fresh ≡ Fresh
    fresh_only j = elim (cases_lt j m) [
      | inl lt ↦ get_or-replicate m j Fresh Fresh lt
      | inr ge ↦ get_or_past (replicate m Fresh) j Fresh (omega (arith, ge, length-replicate m Fresh))
    ]

-- ---- cells that were made fresh

abbrev IsFreshened : ℕ → ℕ → List KeyState → List KeyState → Type 0
IsFreshened from to old new = (k : ℕ) → slice_index_or new k Fresh ≡ (if nat_le from k && nat_lt k to then Fresh else slice_index_or old k Fresh)

inside_part : (from to k : ℕ) (old new : List KeyState) → IsFreshened from to old new → from ≤ k → k < to → slice_index_or new k Fresh ≡ Fresh
inside_part from to k old new is a b = is k ∙ rw (le-leb from k a, lt-ltb k to b) refl

below_part : (from to k : ℕ) (old new : List KeyState) → IsFreshened from to old new → k < from → slice_index_or new k Fresh ≡ slice_index_or old k Fresh
below_part from to k old new is a = is k ∙ rw (lt-leb from k a) refl

above_part : (from to k : ℕ) (old new : List KeyState) → IsFreshened from to old new → from ≤ k → to ≤ k → slice_index_or new k Fresh ≡ slice_index_or old k Fresh
above_part from to k old new is a b = is k ∙ rw (le-leb from k a, le-ltb k to b) refl

-- the cells of a ring that was moved up over its end
pub moved_round : (count at by : ℕ) (old mid new : List KeyState) → at < count → by < count → count ≤ at + by
    → IsFreshened (at + 1) count old mid → IsFreshened 0 (at + by - count + 1) mid new
    → (below : ℕ) → below < count → slice_index_or new (cell_below count (at + by - count) below) Fresh
    ≡ (if nat_lt below by then Fresh else slice_index_or old (cell_below count at (below - by)) Fresh)
moved_round count at by old mid new inside small over first second below within = elim (cases_lt (at + by - count) below) [
  | inr le ↦ rw (lt-ltb below by (omega (arith, le, inside, over)), near_cell count (at + by - count) below le)
      (inside_part 0 (at + by - count + 1) (at + by - count - below) mid new second (omega arith) (omega arith))
  | inl lt ↦ elim (cases_lt below by) [
    | inl less ↦
        let k : ℕ = at + by - count + count - below in
        let fresh : slice_index_or mid k Fresh ≡ Fresh = inside_part (at + 1) count k old mid first (omega (arith, less, over)) (omega (arith, lt, over)) in
        let left : slice_index_or new k Fresh ≡ slice_index_or mid k Fresh = above_part 0 (at + by - count + 1) k mid new second (omega arith) (omega (arith, within, over, less, inside)) in
        rw (lt-ltb below by less, far_cell count (at + by - count) below lt) (left ∙ fresh)
    | inr more ↦
        let k : ℕ = at + by - count + count - below in
        let same : k ≡ at - (below - by) = omega (arith, more, within, over) in
        let one : slice_index_or mid k Fresh ≡ slice_index_or old k Fresh = below_part (at + 1) count k old mid first (omega (arith, more, over, within)) in
        let two : slice_index_or new k Fresh ≡ slice_index_or mid k Fresh = above_part 0 (at + by - count + 1) k mid new second (omega arith) (omega (arith, within, over)) in
        rw (le-ltb below by more, far_cell count (at + by - count) below lt, near_cell count at (below - by) (omega (arith, within, over)))
        (two ∙ one ∙ ap (λ (j : ℕ). slice_index_or old j Fresh) same)
  ]
]
