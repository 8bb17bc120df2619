-- Files of closed runs, and what more items add to them.
use Rattle.std.proofs.Common.{◌≡◌, ◌≢◌, ℕ, zero, suc, ◌+◌, List, [], ◌∷◌, ◌++◌, length, drop, refl, ap, arith, length-append}
use Rattle.file_writer.proofs.Names.{closed_of, ClosedRun, DivisionGoesOn, eq-eqb, files_from, FileSettings, flat_map-append, goes_on, in_stream, Item, later_division, later_files, ne_eqb, Settings, stream_division, stream_files, stream_items}

pub files_from-append : (settings : FileSettings) (s n : ℕ) (xs ys : List (ClosedRun (List ℕ)))
    → files_from settings s n (xs ++ ys) ≡ files_from settings s n xs ++ files_from settings s (n + length xs) ys
files_from-append settings s n [] ys = ap (λ (m : ℕ). files_from settings s m ys) (omega arith)
files_from-append settings s n (x ∷ xs) ys = search (arith, (files_from-append settings s (n + 1) xs ys))

pub length-files_from : (settings : FileSettings) (s n : ℕ) (xs : List (ClosedRun (List ℕ)))
    → length (files_from settings s n xs) ≡ length xs
length-files_from settings s n [] = refl
length-files_from settings s n (x ∷ xs) = ap (λ (k : ℕ). suc k) (length-files_from settings s (n + 1) xs)

-- ---- the files of one stream are all of it

pub in_stream-own : (settings : FileSettings) (s n k : ℕ) (xs : List (ClosedRun (List ℕ)))
    → in_stream s (drop k (files_from settings s n xs)) ≡ drop k (files_from settings s n xs)
in_stream-own settings s n zero (x ∷ xs) = cc (eq-eqb s s refl, in_stream-own settings s (n + 1) zero xs)
in_stream-own settings s n (suc k) (x ∷ xs) = in_stream-own settings s (n + 1) k xs
in_stream-own settings s n zero [] = refl
in_stream-own settings s n (suc k) [] = refl

pub in_stream-other : (settings : FileSettings) (s t n k : ℕ) (xs : List (ClosedRun (List ℕ))) → t ≢ s
    → in_stream s (drop k (files_from settings t n xs)) ≡ []
in_stream-other settings s t n zero (x ∷ xs) h = cc (ne_eqb t s h, in_stream-other settings s t (n + 1) zero xs h)
in_stream-other settings s t n (suc k) (x ∷ xs) h = in_stream-other settings s t (n + 1) k xs h
in_stream-other settings s t n zero [] h = refl
in_stream-other settings s t n (suc k) [] h = refl

-- ---- more items

pub division-append : DivisionGoesOn → (settings : Settings) (s : ℕ) (items more : List Item)
    → stream_division settings s (items ++ more) ≡ goes_on settings.limits (stream_division settings s items)
    (stream_items settings.profile settings.rules s more)
division-append law settings s items more = search (arith, flat_map-append)

pub left_open-append : DivisionGoesOn → (settings : Settings) (s : ℕ) (items more : List Item)
    → (stream_division settings s (items ++ more)).left_open ≡ (later_division settings s items more).left_open
left_open-append law settings s items more = search (arith, division-append)

pub closed_of-append : DivisionGoesOn → (settings : Settings) (s : ℕ) (items more : List Item)
    → closed_of settings s (items ++ more)
    ≡ closed_of settings s items + length (later_division settings s items more).closed
closed_of-append law settings s items more = search (arith, division-append, length-append)

pub files-append : DivisionGoesOn → (settings : Settings) (s : ℕ) (items more : List Item)
    → stream_files settings s (items ++ more) ≡ stream_files settings s items ++ later_files settings s items more
files-append law settings s items more =
    let number : 1 + closed_of settings s items ≡ closed_of settings s items + 1 = omega arith in
    cc (
      division-append law settings s items more,
      files_from-append settings.file s 1
          (stream_division settings s items).closed (later_division settings s items more).closed,
    )
