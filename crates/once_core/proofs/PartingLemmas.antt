-- One answer more, parted.
use Rattle.std.proofs.Common.{◌≡◌, ℕ, Bool, List, [], ◌∷◌, ◌++◌, filter, if◌then◌else◌, map, nat_le, not, arith}
use Rattle.once_core.proofs.Names.{filter-append, map-append, Waiting}

abbrev is_due : ℕ → Waiting → Bool
is_due firm w = nat_le w.front firm

pub due_more : (firm : ℕ) (ws : List Waiting) (w : Waiting) →
    map (λ (x : Waiting). x.message) (filter (λ x. nat_le x.front firm) (ws ++ w ∷ []))
    ≡ map (λ (x : Waiting). x.message) (filter (λ x. nat_le x.front firm) ws) ++ (if nat_le w.front firm then w.message ∷ [] else [])
due_more firm ws w =
    grind (arith, filter-append (is_due firm) ws (w ∷ []), map-append (λ (x : Waiting). x.message) (filter (is_due firm) ws) (filter (is_due firm) (w ∷ [])))

pub later_more : (firm : ℕ) (ws : List Waiting) (w : Waiting) →
    filter (λ x. not (nat_le x.front firm)) (ws ++ w ∷ [])
    ≡ filter (λ x. not (nat_le x.front firm)) ws ++ (if not (nat_le w.front firm) then w ∷ [] else [])
later_more firm ws w = filter-append (λ (x : Waiting). not (nat_le x.front firm)) ws (w ∷ [])
