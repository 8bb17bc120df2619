-- The last start is that of the present epoch.
use Rattle.std.proofs.Common.{◌≡◌, ℕ, ◌+◌, ◌==◌, Bool, true, false, if◌then◌else◌, List, [], ◌∷◌, ◌++◌, length, length-append, map, Option, Some, None, refl, ap, ◌∙◌, arith}
use Rattle.std.specs.List.{cons_option, enumerate_from, last_or}
use Rattle.std.proofs.lemmas.List.Elements.{filter_map-append}
use Rattle.gw_base.specs.declared.history.HistoryAct.{HistoryAct}
use Rattle.gw_base.specs.declared.history.HistoryAct.TheVariants.{Path}
use Rattle.gw_base.specs.declared.history.HistoryEntry.{HistoryEntry}
use Rattle.gw_base.specs.declared.history.Opening.{Opening}
use Rattle.gw_base.specs.EntryLaws.{epoch_of-append}
use Rattle.gw_base.specs.History.{begins_epoch, epoch_of}
use Rattle.gw_base.specs.ListLaws.{by_last}
use Rattle.gw_base.specs.Starts.{opening_by, openings_of, start_by, start_of, starts_of}

-- there is an opening for each epoch after the first
one_opening : (node : ℕ) (act : HistoryAct) → (if begins_epoch node act then 1 else 0) ≡ length {A = Opening} (cons_option (opening_by node act) [])
one_opening node (Path n port counter) = by_test (n.0 == node)
  where
    by_test : (b : Bool) → (if b then 1 else 0) ≡ length {A = Opening} (cons_option (if b then Some (record { port = port; counter = counter }) else None) [])
    by_test true = refl
    by_test false = refl
one_opening node _ = refl

as_many_openings : (node : ℕ) (h : List HistoryEntry) → epoch_of node h ≡ length (openings_of node h)
as_many_openings node h = by_last (λ (k : List HistoryEntry). epoch_of node k ≡ length (openings_of node k)) refl more h
  where
    more : (k : List HistoryEntry) (e : HistoryEntry) → epoch_of node k ≡ length (openings_of node k) → epoch_of node (k ++ e ∷ []) ≡ length (openings_of node (k ++ e ∷ []))
    more k e rest =
        let longer : length (openings_of node (k ++ e ∷ [])) ≡ length (openings_of node k) + length (cons_option (opening_by node e.act) []) =
        ap (λ (os : List Opening). length os) (filter_map-append (λ (d : HistoryEntry). opening_by node d.act) k (e ∷ []))
        ∙ length-append (openings_of node k) (cons_option (opening_by node e.act) []) in
        omega (arith, epoch_of-append node k e, longer, one_opening node e.act, rest)

-- the last of numbered openings
last_numbered : (k : ℕ) (o : Option Opening) (os : List Opening) → last_or (Some (k, start_by o)) (enumerate_from (k + 1) (map (λ (p : Opening). p.counter) os)) ≡ Some (k + length os, start_by (last_or o os))
last_numbered k o [] = let e : k ≡ k + 0 = omega arith in λ i. Some (e i, start_by o)
last_numbered k o (p ∷ os) = let e : (k + 1) + length os ≡ k + length (p ∷ os) = omega arith in last_numbered (k + 1) (Some p) os ∙ (λ i. Some (e i, start_by (last_or (Some p) os)))

pub last_start : (node : ℕ) (h : List HistoryEntry) → last_or None (starts_of node h) ≡ Some (epoch_of node h, start_of node h)
last_start node h = last_numbered 0 None (openings_of node h) ∙ (let e : 0 + length (openings_of node h) ≡ epoch_of node h = omega (arith, as_many_openings node h) in λ i. Some (e i, start_of node h))
