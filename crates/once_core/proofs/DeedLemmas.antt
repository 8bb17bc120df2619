-- What a node knows at the end of a start follows what it did in it.
use Rattle.std.proofs.Common.{◌≡◌, ⊎_elim, ℕ, ◌==◌, ◌||◌, Bool, true, false, List, [], ◌∷◌, ◌++◌, map, Option, Some, None, IfSome, All, Contains, get_or, refl, sym, ap, subst, ◌∙◌, append_assoc, eq-eqb, eqb-true, flat_map, inl, inr, append-nil, ◌⊎◌, arith}
use Rattle.once_core.proofs.Names.{AllRestOn, Answers, asked_by, Command, cond-true, Contains-append_left, Contains-append_right, Deed, deeds_of, entries_of, false≢true, heard_in, IsFulfilled, LogEntry, or_cases, PacketCopy, packets_of, Port, Responds, RestsOn, since_start, starts_in, told_by}
use Rattle.node_core.specs.Copies.{names}
use Rattle.node_core.specs.Log as log
use Rattle.once_core.specs.Deeds.{letter_of}
use Rattle.once_core.specs.Happenings as did
use Rattle.once_core.proofs.ListLemmas.{in_cons, in_head, in_none}
use Rattle.once_core.proofs.LogLemmas.{starts_same}

-- ---- what was heard is among the deeds

pub heard_append : (start : ℕ) (deeds more : List Deed)
    → heard_in start (deeds ++ more) ≡ heard_in start deeds ++ heard_in start more
heard_append start [] more = refl
heard_append start (deed ∷ deeds) more =
    ap (λ (es : List LogEntry). entries_of start deed ++ es) (heard_append start deeds more)
    ∙ sym (append_assoc (entries_of start deed) (heard_in start deeds) (heard_in start more))

-- what an entry adds to the deeds of a node that made so many starts
abbrev pub deeds_by : ℕ → (ℕ → List ℕ) → ℕ → LogEntry → List Deed
deeds_by node values start (log.Ticked sendings) = map (λ letter. did.Sent letter)
    (flat_map (asked_by node start values) sendings)
deeds_by node values start (log.Heard port gateway saying) = map (λ letter. did.Heard letter)
    (told_by node start port gateway saying)
deeds_by node values start _ = []

pub deeds_more : (node : ℕ) (values : ℕ → List ℕ) (entry : LogEntry) (entries : List LogEntry)
    → deeds_of node values (entry ∷ entries) ≡ deeds_of node values entries ++ deeds_by node values
    (starts_in entries) entry
deeds_more node values entry entries = grind (arith, append-nil (deeds_of node values entries))

module _ (node : ℕ) (values : ℕ → List ℕ) (port : Port) (gateway cause number : ℕ) where
  -- the response that names this number alone
  abbrev one : LogEntry
  one = log.Heard port gateway (Responds cause (number ∷ []))

  -- a response that names a number, in a list of deeds that has it
  in_told : (start : ℕ) (numbers : List ℕ) → names numbers number ≡ true → Contains (heard_in start (map (λ letter. did.Heard letter) (told_by node start port gateway (Responds cause numbers)))) one
  in_told start [] named = absurd (false≢true named)
  in_told start (n ∷ numbers) named = ⊎_elim
      (λ e. subst (λ (es : List LogEntry). Contains (es ++ rest) one) (sym (cond-true (start == start) (log.Heard port gateway (Responds cause (n ∷ [])) ∷ []) [] (eq-eqb start start refl)))
      (subst (λ (k : ℕ). Contains (log.Heard port gateway (Responds cause (k ∷ [])) ∷ rest) one) (sym (eqb-true n number e)) (in_head one rest)))
      (λ later. Contains-append_right (entries_of start (did.Heard (letter_of node start gateway port n (Answers cause)))) rest one (in_told start numbers later))
      (or_cases (n == number) (names numbers number) named)
    where
      rest : List LogEntry
      rest = heard_in start (map (λ letter. did.Heard letter) (told_by node start port gateway (Responds cause numbers)))

  abbrev AmongDeeds : List LogEntry → Type 0
  AmongDeeds entries = Contains (heard_in (starts_in entries) (deeds_of node values entries)) one

  -- the response is among the deeds behind an entry that begins no start, where it was so before, or is that entry
  heard_more : (entry : LogEntry) (entries : List LogEntry) (numbers : List ℕ)
      → starts_in (entry ∷ entries) ≡ starts_in entries
      → names numbers number ≡ true → (entry ≡ log.Heard port gateway (Responds cause numbers)) ⊎ AmongDeeds entries
      → AmongDeeds (entry ∷ entries)
  heard_more entry entries numbers same named is =
      let before = deeds_of node values entries in
      let more : LogEntry → List Deed = λ e. deeds_by node values (starts_in entries) e in
      rw (same, deeds_more node values entry entries, heard_append (starts_in entries) before (more entry)) (⊎_elim
      (λ e. Contains-append_right (heard_in (starts_in entries) before) (heard_in (starts_in entries) (more entry)) one
      (subst (λ (d : LogEntry). Contains (heard_in (starts_in entries) (more d)) one) (sym e)
      (in_told (starts_in entries) numbers named)))
      (Contains-append_left (heard_in (starts_in entries) before) (heard_in (starts_in entries) (more entry)) one) is)

  heard_since : (entries : List LogEntry) (numbers : List ℕ)
      → Contains (since_start entries) (log.Heard port gateway (Responds cause numbers))
      → names numbers number ≡ true → AmongDeeds entries
  heard_since [] numbers is named = in_none _ is
  heard_since (log.Began ∷ entries) numbers is named = in_none _ is
  heard_since (log.Halted ∷ entries) numbers is named = in_none _ is
  heard_since (entry ∷ entries) numbers is named = heard_more entry entries numbers
      (starts_same entry entries refl) named
      (⊎_elim inl (λ later. inr (heard_since entries numbers later named))
      (in_cons entry (log.Heard port gateway (Responds cause numbers)) (since_start entries) is))

-- ---- what is known rests on it

-- each response of the one list is in the other, with as many of its numbers as one that it names
abbrev pub Hears : List LogEntry → List LogEntry → Type 0
Hears entries after = (port : Port) (gateway cause number : ℕ) (numbers : List ℕ) → Contains entries (log.Heard port gateway (Responds cause numbers)) → names numbers number ≡ true
    → (others : List ℕ) × Contains after (log.Heard port gateway (Responds cause others)) × (names others number ≡ true)

pub rests_along : (entries after : List LogEntry) → Hears entries after → (copy : PacketCopy) → RestsOn entries copy → RestsOn after copy
rests_along entries after hears copy is = record {
  verdict = λ known.
      let of = is.verdict known in
      let there = hears of.port copy.gateway of.cause copy.number of.numbers of.heard of.named in
      record { port = of.port; cause = of.cause; numbers = there.0; heard = there.1; named = there.2; tells = of.tells };
  command = by copy.command is.command;
}
  where
    by : (command : Option Command) → IfSome command (λ (command : Command). command.is_answered ≡ true → IsFulfilled entries copy.gateway command.number)
        → IfSome command (λ (command : Command). command.is_answered ≡ true → IsFulfilled after copy.gateway command.number)
    by None rests = tt
    by (Some command) rests = λ answered.
        let of = rests answered in
        let there = hears of.port copy.gateway of.cause command.number of.numbers of.heard of.named in
        record { port = of.port; cause = of.cause; numbers = there.0; heard = there.1; named = there.2; tells = of.tells }

pub all_rest : (node : ℕ) (values : ℕ → List ℕ) (entries : List LogEntry) → All (AllRestOn (since_start entries)) (packets_of entries)
    → All (AllRestOn (heard_in (starts_in entries) (deeds_of node values entries))) (packets_of entries)
all_rest node values entries rests = λ k d lt j c inside.
    rests_along (since_start entries) (heard_in (starts_in entries) (deeds_of node values entries))
    (λ port gateway cause number numbers heard named.
    (number ∷ [], heard_since node values port gateway cause number entries numbers heard named, ap (λ (b : Bool). b || false) (eq-eqb number number refl)))
    (get_or (get_or (packets_of entries) k d).copies j c) (rests k d lt j c inside)
