-- Loops over copies and numbers: one more.
use Rattle.std.proofs.Common.{◌≡◌, ℕ, ◌+◌, ◌<◌, ◌==◌, ◌||◌, min, if◌then◌else◌, Bool, false, List, ◌∷◌, ◌++◌, length, map, take, drop, set, get_or, Option, refl, ◌∙◌, arith, inl, inr}
use Rattle.node_core.proofs.Names.{at_drop_all, at_drop_more, cases_Bool, Command, command_hearing, commanded, copy_hearing, copy_hearing_own, first_told, least, map_over_more, names, numbers_at, option_map, or-false, PacketCopy, Port, told, told_if, Verdict}
use Rattle.gw_base.specs.declared.cause.TheConstants.{SYSTEM_FAILURE}
use Rattle.node_core.specs.declared.copy.Verdict.TheVariants as verdict
use Rattle.node_core.proofs.CaseLemmas.{either_hears}

pub hearing_more : (port : Port) (gateway cause : ℕ) (numbers : List ℕ) (xs ys : List PacketCopy) (i : ℕ) (x : PacketCopy) → i < length xs →
    ys ≡ map (copy_hearing port gateway cause numbers) (take i xs) ++ drop i xs → x ≡ get_or ys i x →
    set ys i (copy_hearing port gateway cause numbers x) ≡ map (copy_hearing port gateway cause numbers) (take (i + 1) xs) ++ drop (i + 1) xs
hearing_more port gateway cause numbers = map_over_more (copy_hearing port gateway cause numbers)

pub commanded_more : (gateway : ℕ) (command : Command) (xs ys : List PacketCopy) (i : ℕ) (x : PacketCopy) → i < length xs →
    ys ≡ map (commanded gateway command) (take i xs) ++ drop i xs → x ≡ get_or ys i x →
    set ys i (commanded gateway command x) ≡ map (commanded gateway command) (take (i + 1) xs) ++ drop (i + 1) xs
commanded_more gateway command = map_over_more (commanded gateway command)

-- the least of the numbers from a place on: by the number there, and those from the next place on
pub least_more : (gateway low : ℕ) (copies : List PacketCopy) (i : ℕ) (d : PacketCopy) → i < length copies →
    least low (numbers_at gateway (drop i copies))
    ≡ least (if (get_or copies i d).gateway == gateway then min low (get_or copies i d).number else low) (numbers_at gateway (drop (i + 1) copies))
least_more gateway low copies i d below =
    at_drop_more (λ (cs : List PacketCopy). least low (numbers_at gateway cs)) copies i d below
    ∙ here (get_or copies i d) (drop (i + 1) copies)
  where
    here : (copy : PacketCopy) (copies : List PacketCopy) →
        least low (numbers_at gateway (copy ∷ copies)) ≡ least (if copy.gateway == gateway then min low copy.number else low) (numbers_at gateway copies)
    here copy copies = elim (cases_Bool (copy.gateway == gateway)) [ inl is ↦ rw is refl | inr isnt ↦ rw isnt refl ]

pub least_none : (gateway low : ℕ) (copies : List PacketCopy) → least low (numbers_at gateway (drop (length copies) copies)) ≡ low
least_none gateway low copies = at_drop_all (λ (cs : List PacketCopy). least low (numbers_at gateway cs)) copies
    (length copies) (omega arith)

-- which numbers a response names, from a place on: the number there, or those from the next place on
pub names_more : (f : ℕ → ℕ) (numbers : List ℕ) (number k : ℕ) → k < length numbers →
    names (map f (drop k numbers)) number ≡ ((f (get_or numbers k 0) == number) || names (map f (drop (k + 1) numbers)) number)
names_more f numbers number k below = at_drop_more (λ (ns : List ℕ). names (map f ns) number) numbers k 0 below

pub names_none : (f : ℕ → ℕ) (numbers : List ℕ) (number : ℕ) → names (map f (drop (length numbers) numbers)) number ≡ false
names_none f numbers number = at_drop_all (λ (ns : List ℕ). names (map f ns) number) numbers (length numbers)
    (omega arith)

-- ---- a failing device

-- it tells nothing of a copy
pub failure_tells : (port : Port) (is_plain : Bool) → told port is_plain SYSTEM_FAILURE ≡ verdict.Unknown
failure_tells port is_plain = grind arith

failure_told : (is_named : Bool) (port : Port) (is_plain : Bool) → told_if is_named port is_plain SYSTEM_FAILURE ≡ verdict.Unknown
failure_told is_named port is_plain = grind (arith, failure_tells)

stays_told : (known : Verdict) → first_told known verdict.Unknown ≡ known
stays_told known = grind arith

failure_commands : (numbers : List ℕ) (command : Option Command) →
    option_map (command_hearing SYSTEM_FAILURE numbers) command ≡ command
failure_commands numbers command = grind (arith, or-false)

failure_keeps_own : (port : Port) (numbers : List ℕ) (copy : PacketCopy) → copy_hearing_own port SYSTEM_FAILURE numbers copy ≡ copy
failure_keeps_own port numbers copy = search (arith, failure_told, stays_told, failure_commands)

-- it leaves a copy as it was
pub failure_keeps : (port : Port) (gateway : ℕ) (numbers : List ℕ) (copy : PacketCopy) →
    copy_hearing port gateway SYSTEM_FAILURE numbers copy ≡ copy
failure_keeps port gateway numbers copy = search (arith, either_hears, failure_keeps_own)
