-- Finding the first that is wrong, from the front on.
use Rattle.std.proofs.Common.{◌≡◌, ℕ, suc, ◌+◌, ◌<◌, Bool, true, false, if◌then◌else◌, List, [], ◌∷◌, ◌++◌, length, map, take, drop, get_or, Option, None, Some, option_map, refl, sym, ap, ◌∙◌, take-append-drop, drop-cons}
use Rattle.std.specs.List.{find, flat_map}
use Rattle.std.specs.Option.{option_map_or, option_or}
use Rattle.std.proofs.lemmas.Grind.{flat_map-append}
use Rattle.std.proofs.lemmas.List.{take_more}
use Rattle.std.proofs.lemmas.List.Folds.{find-append}
use Rattle.gw_base.specs.declared.history.HistoryEntry.{HistoryEntry}
use Rattle.node_core.specs.Value.{NodeValue}
use Rattle.loop_audit.specs.Audit.{Looked, all_looked, audit_of, is_wrong, looked_at, wrong_at, wrong_if}
use Rattle.loop_audit.specs.declared.audited.Audited.{Audited}
use Rattle.loop_audit.specs.declared.audited.Audited.TheVariants.{Fine}

-- Among what comes of the elements of a list.

module _ {X Y : Type 0} (p : Y → Bool) (f : X → List Y) where
  found_in_both : (xs ys : List X) → find p (flat_map f xs) ≡ None
      → find p (flat_map f (xs ++ ys)) ≡ find p (flat_map f ys)
  found_in_both xs ys none = ap (λ (l : List Y). find p l) (flat_map-append f xs ys)
      ∙ find-append p (flat_map f xs) (flat_map f ys)
      ∙ ap (λ (o : Option Y). option_or o (find p (flat_map f ys))) none

  -- nothing in front, and something in what comes of the next: it is the first of all
  found_in_next : (xs : List X) (i : ℕ) (x : X) (y : Y) → i < length xs → x ≡ get_or xs i x
      → find p (flat_map f (take i xs)) ≡ None → find p (f x) ≡ Some y → find p (flat_map f xs) ≡ Some y
  found_in_next xs i x y below is none some =
      ap (λ (l : List X). find p (flat_map f l)) (sym (take-append-drop i xs))
      ∙ found_in_both (take i xs) (drop i xs) none
      ∙ ap (λ (l : List X). find p (flat_map f l)) (drop-cons xs i x below)
      ∙ find-append p (f (get_or xs i x)) (flat_map f (drop (suc i) xs))
      ∙ ap (λ (o : Option Y). option_or o (find p (flat_map f (drop (suc i) xs))))
      (ap (λ (z : X). find p (f z)) (sym is) ∙ some)

  -- nothing in front, and nothing in what comes of the next
  none_in_next : (xs : List X) (i : ℕ) (x : X) → i < length xs → x ≡ get_or xs i x
      → find p (flat_map f (take i xs)) ≡ None → find p (f x) ≡ None → find p (flat_map f (take (i + 1) xs)) ≡ None
  none_in_next xs i x below is none none_here =
      ap (λ (l : List X). find p (flat_map f l)) (take_more xs i x below)
      ∙ found_in_both (take i xs) (get_or xs i x ∷ []) none
      ∙ find-append p (f (get_or xs i x)) []
      ∙ ap (λ (o : Option Y). option_or o None) (ap (λ (z : X). find p (f z)) (sym is) ∙ none_here)

-- what a wrong packet that was found is told as, and that none was
record Found (o : Option Looked) (wrong : Audited) : Type 0 where
  looked : Looked
  is : o ≡ Some looked
  told : wrong ≡ wrong_at looked

found_of : (o : Option Looked) (wrong : Audited) → Some wrong ≡ option_map wrong_at o → Found o wrong
found_of None wrong is = absurd (cc is)
found_of (Some looked) wrong is = record { looked = looked; is = refl; told = cc is }

none_of : (o : Option Looked) → None ≡ option_map wrong_at o → o ≡ None
none_of None is = refl
none_of (Some looked) is = absurd (cc is)

module _ (histories : List (List HistoryEntry)) (nodes : List NodeValue) (i : ℕ) (node : NodeValue) where
  -- of the nodes in front none has a wrong packet, and this one has or hasn't
  pub verdict_wrong : (wrong : Audited) → i < length nodes → node ≡ get_or nodes i node
      → find is_wrong (all_looked histories (take i nodes)) ≡ None
      → Some wrong ≡ option_map wrong_at (find is_wrong (map (looked_at histories node) node.packets))
      → wrong ≡ audit_of histories nodes
  verdict_wrong wrong below is none some =
      let found = found_of (find is_wrong (map (looked_at histories node) node.packets)) wrong some in
      found.told
      ∙ sym (ap (λ (o : Option Looked). option_map_or wrong_at o Fine)
      (found_in_next is_wrong (λ (n : NodeValue). map
      (looked_at histories n) n.packets) nodes i node found.looked below is
      none found.is))

  pub verdict_next : i < length nodes → node ≡ get_or nodes i node
      → find is_wrong (all_looked histories (take i nodes)) ≡ None
      → None ≡ option_map wrong_at (find is_wrong (map (looked_at histories node) node.packets))
      → find is_wrong (all_looked histories (take (i + 1) nodes)) ≡ None
  verdict_next below is none none_here =
      none_in_next is_wrong (λ (n : NodeValue). map (looked_at histories n) n.packets) nodes i node below is none
      (none_of (find is_wrong (map (looked_at histories node) node.packets)) none_here)

-- Among packets that were looked at, of which none in front is wrong.

module _ (looked : List Looked) (i : ℕ) (d : Looked) where
  first_of_next : i < length looked → find is_wrong (take i looked) ≡ None
      → find is_wrong looked ≡ (if is_wrong (get_or looked i d) then Some (get_or looked i d)
      else find is_wrong (drop (suc i) looked))
  first_of_next below none =
      ap (λ (l : List Looked). find is_wrong l) (sym (take-append-drop i looked))
      ∙ find-append is_wrong (take i looked) (drop i looked)
      ∙ ap (λ (o : Option Looked). option_or o (find is_wrong (drop i looked))) none
      ∙ ap (λ (l : List Looked). find is_wrong l) (drop-cons looked i d below)

  -- the next one is wrong: it is the first
  pub wrong_next : (wrong : Audited) → i < length looked → find is_wrong (take i looked) ≡ None
      → Some wrong ≡ wrong_if (get_or looked i d) → Some wrong ≡ option_map wrong_at (find is_wrong looked)
  wrong_next wrong below none is =
      by_test (is_wrong (get_or looked i d)) is
      ∙ sym (ap (λ (o : Option Looked). option_map wrong_at o) (first_of_next below none))
    where
      by_test : (b : Bool) → Some wrong ≡ (if b then Some (wrong_at (get_or looked i d)) else None) → Some wrong
          ≡ option_map wrong_at (if b then Some (get_or looked i d) else find is_wrong (drop (suc i) looked))
      by_test true is = is
      by_test false is = absurd (cc is)

  -- it isn't: none up to it is
  pub right_next : i < length looked → find is_wrong (take i looked) ≡ None → None ≡ wrong_if (get_or looked i d)
      → find is_wrong (take (i + 1) looked) ≡ None
  right_next below none is =
      ap (λ (l : List Looked). find is_wrong l) (take_more looked i d below)
      ∙ find-append is_wrong (take i looked) (get_or looked i d ∷ [])
      ∙ ap (λ (o : Option Looked). option_or o (find is_wrong (get_or looked i d ∷ []))) none
      ∙ by_test (is_wrong (get_or looked i d)) is
    where
      by_test : (b : Bool) → None ≡ (if b then Some (wrong_at (get_or looked i d)) else None)
          → (if b then Some (get_or looked i d) else None) ≡ None
      by_test true is = absurd (cc is)
      by_test false is = refl
