-- What a call of a book counts.
use Rattle.std.proofs.Common.{◌≡◌, ℕ, ◌≤◌, ◌==◌, Bool, true, false, if◌then◌else◌, refl, ap, ◌∙◌, arith, rules}
use Rattle.gateway_book.proofs.Names.{Book, counted, firm_length, Ghosts, HasCause, is_closed, length_at, length_of, ne_eqb, Rose, TornDropped, TornStand, Trail}
use Rattle.gateway_book.specs.Book.{area_of}
use Rattle.gateway_book.specs.Marking.{OnlyAdds}

pub not_zero : (n : ℕ) → 1 ≤ n → (n == 0) ≡ false
not_zero n le = ne_eqb n 0 (λ same. omega (arith, le, same))

-- after a failure the length is the one that is kept
kept_on : (cuts now firm kept after : ℕ) → now ≡ counted 1 cuts → after ≡ length_at cuts firm kept → length_at now firm after ≡ length_at cuts firm kept
kept_on cuts now firm kept after cut at = ap (λ b. if b then firm else after) (not_zero now (omega (arith, cut))) ∙ at

-- the torn entries stand again or are dropped
pub not_fewer : {A : Type 0} {tells : Ghosts A} {old new : Trail A tells} (stands : Bool) → (stands ≡ true → TornStand old new)
    → (stands ≡ false → TornDropped old new) → firm_length old ≤ firm_length new
not_fewer stands stand dropped = grind arith

-- a closed trail has its firm entries alone
pub closed_length : {A : Type 0} {tells : Ghosts A} (t : Trail A tells) → is_closed t ≡ true → length_of t ≡ firm_length t
closed_length t closed = rw closed

module _ {A : Type 0} {tells : Ghosts A} where
  -- a book that goes on
  pub cause_done : (old new : Book A tells) → is_closed new.trail ≡ false → tells.faults (area_of new) ≡ tells.faults (area_of old)
      → firm_length old.trail ≤ firm_length new.trail → length_of old.trail ≤ length_of new.trail → new.cuts ≡ old.cuts → new.kept ≡ old.kept
      → HasCause old new
  cause_done old new goes faults firm entries cuts kept = search rules

  -- a commit or an opening again that failed
  pub cause_failed : (old new : Book A tells) → is_closed new.trail ≡ true → tells.faults (area_of old) ≤ tells.faults (area_of new) → Rose (tells.faults (area_of old)) (tells.faults (area_of new))
      → firm_length new.trail ≡ firm_length old.trail → old.cuts ≤ new.cuts → new.cuts ≡ counted 1 old.cuts → new.kept ≡ length_at old.cuts (firm_length new.trail) old.kept → HasCause old new
  cause_failed old new closed later rose count more cut kept = search (rules, kept_on)

  -- the device wasn't asked
  pub cause_same : (book : Book A tells) → is_closed book.trail ≡ false → HasCause book book
  cause_same book goes = cause_done book book goes refl (omega arith) (omega arith) refl refl

  -- then entries were added
  pub cause_then : {old mid new : Book A tells} → HasCause old mid → OnlyAdds mid new → HasCause old new
  cause_then cause adds = search rules
