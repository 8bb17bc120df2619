-- What is told of an address when links of it, and of others, are given back one after the other.
use Rattle.std.proofs.Common.{◌≡◌, ◌≢◌, ◌⊎◌, ⊎_elim, inl, inr, ℕ, zero, suc, ◌<◌, ◌≤◌, List, Option, None, Some, refl, sym, ◌∙◌, arith}
use Rattle.loop_run.proofs.Names.{Addr, Datagram, GivesOnly, GrewAt, IfSome, joined, LinksState, LinkState, Rose, RoseBy, StillAt, TakesBack}

abbrev pub Told : Type 0
Told = Option (List Datagram)

-- Lists.

-- what holds of a list that is told holds of it where it is told later
pub still_holds : (P : List Datagram → Type 0) (new mid : Told) → IfSome new (λ list. mid ≡ Some list) → IfSome mid P
    → IfSome new P
still_holds P None mid e f = tt
still_holds P (Some list) mid e f = rw e at f

pub same_told : (told : Told) → IfSome told (λ list. told ≡ Some list)
same_told told = grind arith

none_joined : (r : Told) (list : List Datagram) → joined None r ≡ Some list → ⊥
none_joined r list e = grind arith

-- a list grows as the one did that it was before
pub grows_before : (old mid new more : Told) → IfSome mid (λ list. old ≡ Some list)
    → IfSome new (λ list. joined mid more ≡ Some list) → IfSome new (λ list. joined old more ≡ Some list)
grows_before old mid new more was grew = grind (arith, none_joined)

-- Addresses.

pub still_same : (at : Addr) (s : LinksState) → StillAt at s s
still_same at s = record { turns = refl; received = same_told _; sent = same_told _ }

pub still_then : {at a b c : _} → StillAt at a b → StillAt at b c → StillAt at a c
still_then first next = record {
  turns = next.turns ∙ first.turns;
  received = still_holds _ _ _ next.received first.received;
  sent = still_holds _ _ _ next.sent first.sent;
}

pub grew_still : {at link a b c : _} → GrewAt at link a b → StillAt at b c → GrewAt at link a c
grew_still grew next = record {
  turns = next.turns ∙ grew.turns;
  received = still_holds _ _ _ next.received grew.received;
  sent = still_holds _ _ _ next.sent grew.sent;
}

pub still_grew : {at link a b c : _} → StillAt at a b → GrewAt at link b c → GrewAt at link a c
still_grew {at} {link} {a} first grew = record {
  turns = cc (grew.turns, first.turns);
  received = grows_before (a.received at) _ _ link.received first.received grew.received;
  sent = grows_before (a.sent at) _ _ link.sent first.sent grew.sent;
}

-- One link that is given back.

back_grew : {old link new : _} → TakesBack old link new → GrewAt link.address link old new
back_grew back = record { turns = back.turns; received = back.received; sent = back.sent }

back_still : (at : Addr) {old : LinksState} {link : LinkState} {new : LinksState} → at ≢ link.address
    → TakesBack old link new → StillAt at old new
back_still at other back = record {
  turns = back.others_turns at other;
  received = back.others_received at other;
  sent = back.others_sent at other;
}

-- Counts of faults.

pub le_or : (b c : ℕ) → b ≤ c → (b ≡ c) ⊎ (b < c)
le_or zero zero h = inl refl
le_or zero (suc c) h = inr (omega arith)
le_or (suc b) zero h = absurd (omega arith)
le_or (suc b) (suc c) h = ⊎_elim (λ (e : b ≡ c). inl (cc)) (λ (l : b < c). inr (omega arith)) (le_or b c (omega arith))

-- a count that rose has risen still
pub rose_still : (a b c : ℕ) → a ≤ b → b ≤ c → Rose a b → Rose a c
rose_still a b c up later (inl less) = inl (omega arith)
rose_still a b c up later (inr last) =
    ⊎_elim (λ (e : b ≡ c). inr (sym e ∙ last)) (λ (l : b < c). inl (omega arith)) (le_or b c later)

-- a count that rose after it stood has risen from an earlier value
pub rose_before : (a b c : ℕ) → a ≤ b → Rose b c → Rose a c
rose_before a b c up (inl less) = inl (omega arith)
rose_before a b c up (inr last) = inr last

-- a count rose by that of a link that failed
rose_by : (b f c : ℕ) → Rose 0 f → RoseBy b f c → Rose b c
rose_by b f c some (inr last) = inr last
rose_by b f c (inl some) (inl more) = inl (omega arith)
rose_by b f c (inr last) (inl more) = inl (omega arith)

-- Two links that are given back.
module _ (old mid new : LinksState) (first second : LinkState) (one : TakesBack old first mid)
    (two : TakesBack mid second new) where
  pub both_only : GivesOnly (λ a. (a ≡ first.address) ⊎ (a ≡ second.address)) old new
  both_only = record {
    on = record {
      made = λ a made. two.made a (one.made a made);
      later = omega (arith, one.never_falls, two.never_falls);
    };
    others = λ a none. still_then (back_still a (λ e. none (inl e)) one) (back_still a (λ e. none (inr e)) two);
  }

  pub both_first : first.address ≢ second.address → GrewAt first.address first old new
  both_first apart = grew_still (back_grew one) (back_still first.address apart two)

  pub both_second : first.address ≢ second.address → GrewAt second.address second old new
  both_second apart = still_grew (back_still second.address (λ e. apart (sym e)) one) (back_grew two)

  pub both_failed : Rose 0 first.faults ⊎ Rose 0 second.faults → Rose old.faults new.faults
  both_failed (inl rose) = rose_still _ _ _ one.never_falls two.never_falls (rose_by _ _ _ rose one.faults)
  both_failed (inr rose) = rose_before _ _ _ one.never_falls (rose_by _ _ _ rose two.faults)
