-- What was read decides how the job ends, and an input that is shorter than the bound is read whole.
use Rattle.std.proofs.Common.{◌≡◌, ℕ, ◌<◌, ◌⊎◌, inl, inr, List, ◌++◌, length, take, take_all, Option, Some, None, ap, sym, ◌∙◌, subst, arith, length-append, append-nil}
use Rattle.cgf_jobs.proofs.Names.{Command, command_of, end_of, IsRead, most_read, same_Some, Status, TakesUpTo}
use Rattle.std.proofs.Math.Seq.{take-append_seam}
use Rattle.cgf_jobs.specs.Ending.{EndsByInput, EndsByWhole, IsBounded, IsComplete}
use Rattle.cgf_jobs.specs.declared.status.Status.TheVariants as status

pub read_whole : (most : ℕ) (octets read : List ℕ) (rest_left : Option (List ℕ)) → length octets < most → IsRead most (Some octets) rest_left read → read ≡ octets
read_whole most octets read None h r = absurd r.consumed
read_whole most octets read (Some rest) h r =
    elim r.whole [
      | inl long ↦ (let no : ⊥ = omega (arith, h, long, ap length r.consumed, length-append read rest) in absurd no)
      | inr none ↦ sym (r.consumed ∙ ap (λ x. read ++ x) none ∙ append-nil read)
    ]

-- what was read of an input is its first octets, as many as are read at most
pub read_front : (most : ℕ) (octets read : List ℕ) (rest_left : Option (List ℕ)) → IsRead most (Some octets) rest_left read → read ≡ take most octets
read_front most octets read None r = absurd r.consumed
read_front most octets read (Some rest) r =
    elim r.whole [
      | inl long ↦ sym
          (ap (λ (n : ℕ). take n octets) (sym long) ∙ ap
          (λ (l : List ℕ). take (length read) l) r.consumed ∙ take-append_seam read rest)
      | inr none ↦ sym (ap (λ (l : List ℕ). take most l) (r.consumed ∙ ap (λ (x : List ℕ). read ++ x) none ∙ append-nil read)
          ∙ take_all most read r.bounded)
    ]

-- two commands of the same words are one
pub same_command : (words : List (List ℕ)) (a b : Command) → command_of words ≡ Some a → command_of words ≡ Some b → a ≡ b
same_command words a b h k = same_Some a b (sym h ∙ k)

-- with no fault, the octets that are left decide, as those that were read do
whole : (words : List (List ℕ)) (left rest_left : Option (List ℕ)) (ended : Status)
    → (ended ≡ status.Memory) ⊎ EndsByInput words left rest_left ended → EndsByWhole words left ended
whole words left rest_left ended (inl memory) command octets asked is h = inl memory
whole words left rest_left ended (inr found) command octets asked is h =
    let command_is : found.command ≡ command = same_command words found.command command found.asked asked in
    let read : IsRead (most_read command) (Some octets) rest_left found.octets =
    subst (λ c. IsRead (most_read c) (Some octets) rest_left found.octets) command_is
    (subst (λ l. IsRead (most_read found.command) l rest_left found.octets) is found.read) in
    let same : found.octets ≡ octets = read_whole (most_read command) octets found.octets rest_left h read in
    inr (found.decided ∙ ap (λ (c : Command). end_of c found.octets) command_is ∙ ap (λ o. end_of command o) same)

pub complete : (words : List (List ℕ)) (left rest_left : Option (List ℕ)) (ended : Status)
    → (ended ≡ status.Memory) ⊎ EndsByInput words left rest_left ended → IsComplete words left rest_left ended
complete words left rest_left ended found = record { read = found; whole = whole words left rest_left ended found }

-- what was read decides
pub complete_by : (words : List (List ℕ)) (command : Command) (left rest_left : Option (List ℕ)) (octets : List ℕ) (ended : Status)
    → command_of words ≡ Some command → IsRead (most_read command) left rest_left octets → ended ≡ end_of command octets
    → IsComplete words left rest_left ended
complete_by words command left rest_left octets ended asked read decided =
    complete words left rest_left ended (inr (record { command = command; asked = asked; octets = octets; read = read; decided = decided }))

-- what the command of these words takes is bounded
pub bounded_by : (words : List (List ℕ)) (command : Command) (left rest : Option (List ℕ)) → command_of words ≡ Some command
    → TakesUpTo (most_read command) left rest → IsBounded words left rest
bounded_by words command left rest asked takes other asked' =
    subst (λ c. TakesUpTo (most_read c) left rest) (same_command words command other asked asked') takes
