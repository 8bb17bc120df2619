-- What reads of an area say of its octets.
use Rattle.std.proofs.Common.{◌≡◌, ◌≢◌, ℕ, ◌+◌, ◌<◌, ⊎_elim, true, false, List, length, get_or, take, drop, sym, ◌∙◌, ap, subst, arith, rules}
use Rattle.gate_journal.proofs.Names.{at_front, Begins, big_bytes, big_number, cases_eq, Differs, drop-take, gate_at, get_or-drop, get_or-take, get_or_default, IsUnfinished, IsVerdict, length_at, open_gate, Other, Same, Starts, take-take, take_all, Verdict}
use Rattle.std.proofs.lemmas.Nat.{be_bytes_4}
use Rattle.byteorder.specs.Numbers.{big_from-take}
use Rattle.gate_journal.proofs.Turns.{length-tail}

pub gate_read : (octets into : List ℕ) (at : ℕ) → at < length octets → into ≡ take 1 (drop at octets) → gate_at octets at ≡ get_or into 0 0
gate_read octets into at inside is =
    let here : at + 0 ≡ at = omega arith in
    get_or_default octets at open_gate 0 inside
    ∙ ap (λ i. get_or octets i 0) (sym here)
    ∙ sym (get_or-drop at octets 0 0)
    ∙ sym (get_or-take 1 (drop at octets) 0 0 (omega arith))
    ∙ ap (λ (l : List ℕ). get_or l 0 0) (sym is)

pub length_read : (octets into : List ℕ) (at : ℕ) → into ≡ take 4 (drop (at + 1) octets) → big_number 4 into ≡ length_at octets at
length_read octets into at is = ap (λ (l : List ℕ). big_number 4 l) is ∙ big_from-take 0 4 4 (drop (at + 1) octets) (omega arith)

-- four octets are those of the number that they spell
pub field_read : (into : List ℕ) (number : ℕ) → length into ≡ 4 → ((i : ℕ) → get_or into i 0 < 256) → number ≡ big_number 4 into → big_bytes 4 number ≡ into
field_read into number four octets is = be_bytes_4 into number four octets (omega (arith, is))

-- a first octet that differs, and what follows the same: then the area was being made
module _ (header read : List ℕ) (at : ℕ) (inside : at < 32) (same : take at read ≡ take at header) (other : get_or read at 0 ≢ get_or header at 0) where
  pub unfinished_first : at ≡ 0 → length read ≡ 32 → drop 1 read ≡ drop 1 header → IsUnfinished header read
  unfinished_first is long rest = record {
    rest = take_all 31 (drop 1 read) (omega (arith, length-tail read)) ∙ rest;
    first = λ e. other (subst (λ i. get_or read i 0 ≡ get_or header i 0) (sym is) e);
  }

  pub differs : get_or read 0 0 ≢ 0 → (at ≡ 0 → drop 1 read ≢ drop 1 header) → length read ≡ 32 → Differs header read at
  differs started rest long = record {
    inside = inside;
    same = same;
    other = other;
    begun = ⊎_elim started (λ unfinished. ⊎_elim (λ first.
        rest first (sym (take_all 31 (drop 1 read) (omega (arith, length-tail read))) ∙ unfinished.rest)) (λ later.
        unfinished.first (at_front 0 at 0 read header (omega arith) same)) (cases_eq at 0));
  }

-- what the first octets say they say of the whole area
module _ (header octets : List ℕ) where
  first_octet : get_or (take 32 octets) 0 0 ≡ get_or octets 0 0
  first_octet = get_or-take 32 octets 0 0 (omega arith)

  rest_of_front : take 31 (drop 1 (take 32 octets)) ≡ take 31 (drop 1 octets)
  rest_of_front = ap (λ (l : List ℕ). take 31 l) (drop-take 1 31 octets) ∙ take-take 31 31 (drop 1 octets) (omega arith)

  unfinished_from : IsUnfinished header (take 32 octets) → IsUnfinished header octets
  unfinished_from u = record { rest = sym rest_of_front ∙ u.rest; first = λ e. u.first (first_octet ∙ e) }

  starts_front : Starts header octets → Starts header (take 32 octets)
  starts_front is = search (rules, first_octet, rest_of_front)

  pub verdict_from : (verdict : Verdict) → IsVerdict header (take 32 octets) verdict → IsVerdict header octets verdict
  verdict_from (Begins true) is = sym first_octet ∙ is
  verdict_from (Begins false) is = unfinished_from is
  verdict_from Same is = sym (take-take 32 32 octets (omega arith)) ∙ is
  verdict_from (Other at) is = record {
    inside = is.inside;
    same = sym (take-take at 32 octets (omega (arith, is.inside))) ∙ is.same;
    other = λ e. is.other (get_or-take 32 octets at 0 is.inside ∙ e);
    begun = λ starts. is.begun (starts_front starts);
  }
