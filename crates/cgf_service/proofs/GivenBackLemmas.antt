-- What is told of an address once links of it were given back.
use Rattle.std.proofs.Common.{◌≡◌, ◌≢◌, ⊎_elim, inl, inr, ℕ, ◌-◌, ◌≤◌, ◌^◌, List, [], ◌∷◌, ◌++◌, Option, None, Some, refl, sym, ap, ◌∙◌, arith}
use Rattle.cgf_service.proofs.Names.{added, All, All-append, All-head, All-nil, All-tail, All-weaker, cases_eq, Contains-append_right, Datagram, Facts, GoesOnUntil, GrowsBy, HistoryEntry, IfSome, IsCalledFor, IsEmpty, IsHeard, IsReply, placed, received_with, sent_by, sent_with, turns_with}
use Rattle.gw_base.specs.Faults.{Rose}
use Rattle.net_link.specs.Datagrams.{joined}
use Rattle.net_link.specs.declared.link.Link as paths
use Rattle.cgf_service.proofs.ServiceLemmas.{HeardInTurn}

abbrev Told : Type 0
Told = Option (List Datagram)

some_same : (xs ys : List Datagram) → ◌≡◌ {A = Told} (Some xs) (Some ys) → xs ≡ ys
some_same xs ys e = cc

-- two lists that are told together are told
record Both (one other : Told) (list : List Datagram) : Type 0 where
  front : List Datagram
  behind : List Datagram
  one_is : one ≡ Some front
  other_is : other ≡ Some behind
  list_is : list ≡ front ++ behind

both : (one other : Told) (list : List Datagram) → joined one other ≡ Some list → Both one other list
both (Some a) (Some b) list e = record { front = a; behind = b; one_is = refl; other_is = refl; list_is = sym (some_same (a ++ b) list e) }
both _ _ list e = absurd (cc e)

-- Counts of faults.

-- a count that rose has risen still
pub rose_still : (a b c : ℕ) → a ≤ b → b ≤ c → Rose a b → Rose a c
rose_still a b c up later (inl less) = inl (omega (arith, later, less))
rose_still a b c up later (inr last) =
    ⊎_elim (λ (e : b ≡ c). inr (sym e ∙ last)) (λ (apart : b ≢ c). inl (omega (arith, up, later, apart))) (cases_eq b c)

-- a count that rose after it stood has risen from an earlier value
pub rose_before : (a b c : ℕ) → a ≤ b → Rose b c → Rose a c
rose_before a b c up (inl less) = inl (omega (arith, up, less))
rose_before a b c up (inr last) = inr last

module _ {L : Type 0} (tells : paths.Ghosts L) where
  -- What is told then.

  -- links that took no turn add none
  pub turns_none : (n : ℕ) (links : List L) → n ≤ 2 ^ 64 - 1 → All (λ link. (tells.state link).turns ≡ 0) links → turns_with tells n links ≡ n
  turns_none n [] le none = refl
  turns_none n (link ∷ links) le none =
      let zero_there = All-head (λ l. (tells.state l).turns ≡ 0) link links none in
      let same : added n (tells.state link).turns ≡ n = omega (arith, zero_there, le) in
      ap (λ m. added m (tells.state link).turns) (turns_none n links le (All-tail (λ l. (tells.state l).turns ≡ 0) link links none)) ∙ same

  -- what the first link heard is told of the address
  pub heard_there : (told there : Told) (link : L) (links : List L)
      → IfSome there (λ list. received_with tells told (link ∷ links) ≡ Some list) → (d : Datagram)
      → IsHeard (tells.state link).received d → IsHeard there d
  heard_there told None link links e d heard = tt
  heard_there told (Some list) link links e d heard =
      let b = both (received_with tells told links) (tells.state link).received list e in
      rw b.list_is (Contains-append_right b.front b.behind d (rw b.other_is at heard))

  -- what holds of all that each link sent holds of all that they sent together
  pub all_sent : (P : Datagram → Type 0) (links : List L) → All (λ link. IfSome (tells.state link).sent (All P)) links
      → IfSome (sent_by tells links) (All P)
  all_sent P [] each = All-nil P
  all_sent P (link ∷ links) each = by (sent_by tells links) (tells.state link).sent
      (all_sent P links (All-tail (λ l. IfSome (tells.state l).sent (All P)) link links each))
      (All-head (λ l. IfSome (tells.state l).sent (All P)) link links each)
    where
      by : (one other : Told) → IfSome one (All P) → IfSome other (All P) → IfSome (joined one other) (All P)
      by None other p q = tt
      by (Some xs) None p q = tt
      by (Some xs) (Some ys) p q = All-append P xs ys p q

  -- links none of which sent anything sent nothing together
  pub none_sent_by : (links : List L) → All (λ link. IsEmpty (tells.state link).sent) links → IsEmpty (sent_by tells links)
  none_sent_by [] each = refl
  none_sent_by (link ∷ links) each = by (sent_by tells links) (tells.state link).sent
      (none_sent_by links (All-tail (λ l. IsEmpty (tells.state l).sent) link links each))
      (All-head (λ l. IsEmpty (tells.state l).sent) link links each)
    where
      by : (one other : Told) → IsEmpty one → IsEmpty other → IsEmpty (joined one other)
      by None other p q = tt
      by (Some xs) None p q = tt
      by (Some xs) (Some ys) p q = ap (λ (l : List Datagram). l ++ ys) p ∙ q

  -- what they sent is told of the address behind what was told of it before
  pub sent_grows : ((told : Told) (links : List L) → sent_with tells told links ≡ joined told (sent_by tells links))
      → (before mid after : Told) (links : List L) → mid ≡ before → IfSome after (λ list. sent_with tells mid links ≡ Some list)
      → GrowsBy before (sent_by tells links) after
  sent_grows law before mid after links is e = rw is at (rw (law mid links) at e)

-- a history that goes on by what was heard goes on by what is told of the address
pub goes_on_there : HeardInTurn → (earlier heard there : Told) → GrowsBy earlier heard there → ((d : Datagram) → IsHeard heard d → IsHeard there d)
    → (start now : Facts) (last : Option ℕ) → GoesOnUntil heard start now last → GoesOnUntil there start now last
goes_on_there law earlier heard there grows more start now last g = record {
  goes = record {
    stood = g.goes.stood;
    tail = g.goes.tail;
    whole = g.goes.whole;
    stood_is = g.goes.stood_is;
    firm = g.goes.firm;
    begins = g.goes.begins;
    first = g.goes.first;
    answers = All-weaker (IsCalledFor start.size heard) (IsCalledFor start.size there)
        (λ p c. record { datagram = c.datagram; was_heard = more c.datagram c.was_heard; now = c.now; who = c.who; called = c.called })
        (placed g.goes.stood g.goes.tail) g.goes.answers;
  };
  jobs = g.jobs;
  answers = law start.size g.jobs (placed g.goes.stood g.goes.tail) earlier heard there grows g.answers;
  latest = g.latest;
}

pub reply_there : (heard there : Told) → ((d : Datagram) → IsHeard heard d → IsHeard there d) → (size : ℕ) (firm : List HistoryEntry)
    (before now : ℕ) (sent : Datagram) → IsReply heard size firm before now sent → IsReply there size firm before now sent
reply_there heard there more size firm before now sent r =
    record { asked = r.asked; was_heard = more r.asked r.was_heard; peer = r.peer; says = r.says }
