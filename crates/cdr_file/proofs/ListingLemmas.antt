-- The lines of a listing, as they are put together.
use Rattle.std.proofs.Common.{◌≡◌, ℕ, suc, ◌+◌, ◌<◌, List, [], ◌∷◌, ◌++◌, length, get_or, drop, ap, sym, ◌∙◌, arith, append_assoc}
use Rattle.std.proofs.Math.Seq.{drop-cons}
use Rattle.std.proofs.lemmas.List.{append-nil}
use Rattle.cdr_file.specs.Listing.{cdr_line, cdr_lines, line, words}
use Rattle.cdr_file.specs.declared.file.Cdr.{Cdr}

-- lists one after the other
six : (t n a b c d e f z : List ℕ) →
    (((((((t ++ n) ++ a) ++ b) ++ c) ++ d) ++ e) ++ f) ++ z ≡ t ++ (n ++ ((a ++ (b ++ (c ++ (d ++ (e ++ (f ++ [])))))) ++ z))
six t n a b c d e f z = simp (append_assoc, append-nil)

eleven : (t n a b c d e f g h i j k z : List ℕ) →
    (((((((t ++ n) ++ (a ++ (b ++ (c ++ (d ++ []))))) ++ e) ++ f) ++ (g ++ (h ++ (i ++ [])))) ++ j) ++ k) ++ z
    ≡ t ++ (n ++ ((a ++ (b ++ (c ++ (d ++ (e ++ (f ++ (g ++ (h ++ (i ++ (j ++ (k ++ []))))))))))) ++ z))
eleven t n a b c d e f g h i j k z = simp (append_assoc, append-nil)

-- the line of a CDR
pub six_words : (t n a b c d e f : List ℕ) →
    (((((((t ++ n) ++ 32 ∷ a) ++ 32 ∷ b) ++ 32 ∷ c) ++ 32 ∷ d) ++ 32 ∷ e) ++ 32 ∷ f) ++ 10 ∷ []
    ≡ t ++ line n (a ∷ b ∷ c ∷ d ∷ e ∷ f ∷ [])
six_words t n a b c d e f = six t n (32 ∷ a) (32 ∷ b) (32 ∷ c) (32 ∷ d) (32 ∷ e) (32 ∷ f) (10 ∷ [])

-- the line of a header
pub eleven_words : (t n a b c d e f g h i j k : List ℕ) →
    (((((((t ++ n) ++ words (a ∷ b ∷ c ∷ d ∷ [])) ++ 32 ∷ e) ++ 32 ∷ f) ++ words (g ∷ h ∷ i ∷ [])) ++ 32 ∷ j) ++ 32 ∷ k) ++ 10 ∷ []
    ≡ t ++ line n (a ∷ b ∷ c ∷ d ∷ e ∷ f ∷ g ∷ h ∷ i ∷ j ∷ k ∷ [])
eleven_words t n a b c d e f g h i j k =
    eleven t n (32 ∷ a) (32 ∷ b) (32 ∷ c) (32 ∷ d) (32 ∷ e) (32 ∷ f) (32 ∷ g) (32 ∷ h) (32 ∷ i) (32 ∷ j) (32 ∷ k) (10 ∷ [])

-- the lines of the CDRs from a place on
pub step_cdrs : (cdrs : List Cdr) (i : ℕ) (cdr : Cdr) (text new : List ℕ) → i < length cdrs → cdr ≡ get_or cdrs i cdr →
    new ≡ text ++ cdr_line (i + 1) cdr →
    new ++ cdr_lines (i + 1 + 1) (drop (i + 1) cdrs) ≡ text ++ cdr_lines (i + 1) (drop i cdrs)
step_cdrs cdrs i cdr text new below here grown =
    let next : i + 1 ≡ suc i = omega arith in
    let rest : drop i cdrs ≡ cdr ∷ drop (i + 1) cdrs =
    drop-cons cdrs i cdr below ∙ ap (λ (c : Cdr). c ∷ drop (suc i) cdrs) (sym here) ∙ ap (λ (n : ℕ). cdr ∷ drop n cdrs) (sym next) in
    ap (λ (t : List ℕ). t ++ cdr_lines (i + 1 + 1) (drop (i + 1) cdrs)) grown
    ∙ append_assoc text (cdr_line (i + 1) cdr) (cdr_lines (i + 1 + 1) (drop (i + 1) cdrs))
    ∙ ap (λ (cs : List Cdr). text ++ cdr_lines (i + 1) cs) (sym rest)
