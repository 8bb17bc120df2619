-- Several turns, one behind the other.
use Rattle.std.proofs.Common.{◌≡◌, ℕ, ◌+◌, ◌<◌, Bool, List, [], ◌∷◌, ◌++◌, length, take, Option, None, Some, refl, sym, ap, ◌∙◌, subst, append_assoc}
use Rattle.turn_cell.proofs.Names.{append-nil, Facts, HistoryEntry, IsOwnSession, Knowledge, slice_index_or, take_more, TookEach, TookFor, TookMore}

-- the session that turns name is that of the pass still
pub own_on : (session : Option ℕ) (before after : Knowledge) → after.number ≡ before.number → IsOwnSession session before → IsOwnSession session after
own_on None before after same own = tt
own_on (Some n) before after same own = own ∙ sym same

module _ {V I A : Type 0} (told : Bool) (facts : V → Facts) (made : ℕ) (start : Facts) (session : Option ℕ)
    (does : I → V → V → A → Bool → List HistoryEntry → Type 0) where
  -- a turn more, behind these
  took_more : (items : List I) (answers : List A) (before now after : Knowledge) (item : I) (answer : A)
      → TookEach told facts made start session does items answers before now → TookFor told facts made start session does item now answer after
      → TookEach told facts made start session does (items ++ item ∷ []) (answers ++ answer ∷ []) before after
  took_more [] [] before now after item answer took more =
      (after, subst (λ (k : Knowledge). TookFor told facts made start session does item k answer after) took more, refl)
  took_more [] (x ∷ answers) before now after item answer took more = absurd took
  took_more (i ∷ items) [] before now after item answer took more = absurd took
  took_more (i ∷ items) (x ∷ answers) before now after item answer took more =
      (took.0, took.1, took_more items answers took.0 now after item answer took.2 more)

  -- a turn more, for the next of these items
  pub took_next : (items : List I) (n : ℕ) (item : I) (answers : List A) (before now after : Knowledge) (answer : A)
      → n < length items → item ≡ slice_index_or items n item → TookEach told facts made start session does (take n items) answers before now
      → TookFor told facts made start session does item now answer after
      → TookEach told facts made start session does (take (n + 1) items) (answers ++ answer ∷ []) before after
  took_next items n item answers before now after answer within read took more =
      subst (λ (is : List I). TookEach told facts made start session does is (answers ++ answer ∷ []) before after)
      (sym (take_more items n item within ∙ ap (λ (i : I). take n items ++ i ∷ []) (sym read)))
      (took_more (take n items) answers before now after item answer took more)

  -- none was taken yet
  pub took_none : (old : List A) (now : Knowledge) → TookMore told facts made start session does [] old old now now
  took_none old now = ([], sym (append-nil old), refl)

  -- one more, behind those that stood there
  pub took_behind : (items : List I) (n : ℕ) (item : I) (old new : List A) (before now after : Knowledge) (answer : A)
      → n < length items → item ≡ slice_index_or items n item → TookMore told facts made start session does (take n items) old new before now
      → TookFor told facts made start session does item now answer after
      → TookMore told facts made start session does (take (n + 1) items) old (new ++ answer ∷ []) before after
  took_behind items n item old new before now after answer within read took more = (
    took.0 ++ answer ∷ [],
    ap (λ (xs : List A). xs ++ answer ∷ []) took.1 ∙ append_assoc old took.0 (answer ∷ []),
    took_next items n item took.0 before now after answer within read took.2 more,
  )
