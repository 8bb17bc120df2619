-- What a commit leaves of a book whose area never fails, and what an opening of one comes to.
use Rattle.std.proofs.Common.{◌≡◌, ◌∙◌, inl, inr, ℕ, zero, suc, ◌≤◌, Bool, true, false, List, [], ◌∷◌, ◌++◌, take, refl, sym, ap, arith}
use Rattle.loop_run.proofs.Names.{after_commit, append-nil, area_length, Begins, begun, BookValue, Fortune, fortune_of, gateway_at, HasCommitted, header, header_of, HistoryEntry, IsBegun, IsCommitted, LoopBook, opened, reopening_of, size_of, slice_index, spelled, Starts, Stays, value_of}
use Rattle.area_disk.specs.Disk.{zeros}
use Rattle.cgf_journal.specs.Trail as trail
use Rattle.gateway_book.specs.Opened.{IsNotOurs}

-- what nothing failed to commit
abbrev pub value_with : List HistoryEntry → List HistoryEntry → Bool → BookValue
value_with firm rest broken = record { firm = firm; rest = rest; cuts = 0; is_broken = broken }

-- a commit that doesn't fail
abbrev pub fortune_with : Bool → Fortune
fortune_with stands = record { fails = false; reopening = reopening_of false stands }

begins_self : (h : List HistoryEntry) → Begins h h
begins_self h = ([], sym (append-nil h))

committed_with : (firm rest : List HistoryEntry) (broken stands : Bool)
    → IsCommitted (value_with firm rest broken) (after_commit (fortune_with stands) (value_with firm rest broken))
committed_with firm rest true true = record {
  history = firm ++ rest;
  value = refl;
  more = (rest, refl);
  within = begins_self _;
  whole = λ whole. cc;
}
committed_with firm rest true false = record {
  history = firm;
  value = refl;
  more = begins_self _;
  within = (rest, refl);
  whole = λ whole. cc;
}
committed_with firm [] false stands = record {
  history = firm;
  value = refl;
  more = begins_self _;
  within = ([], append-nil (firm ++ []));
  whole = λ whole. sym (append-nil firm);
}
committed_with firm (e ∷ rest) false stands = record {
  history = firm ++ e ∷ rest;
  value = refl;
  more = (e ∷ rest, refl);
  within = ([], refl);
  whole = λ whole. refl;
}

pub has_committed : (old new : LoopBook) → old.cuts ≤ 0 → Stays old new → trail.is_closed new.trail ≡ false
    → value_of new ≡ after_commit (fortune_of old new) (value_of old) → HasCommitted old new
has_committed old new uncut stays whole is = record {
  value = rw is (rw whole (rw none (committed_with _ _ _ _)));
  size = stays.size;
  name = stays.header;
}
  where
    none : old.cuts ≡ 0
    none = omega arith

    with_cuts : ℕ → BookValue
    with_cuts n = record (value_of old) { cuts = n }

pub opened_first : opened area_length [] ≡ value_with [] begun false
opened_first = refl

zeros_first : (n : ℕ) → slice_index (zeros n) 0 ≡ 0
unfolding zeros
zeros_first zero = refl
zeros_first (suc n) = refl

-- an area of zeros starts
pub zeros_start : (name octets : List ℕ) (n : ℕ) → octets ≡ zeros n → Starts name octets
zeros_start name octets n is = inl (cc (zeros_first n))

-- so that it isn't another's
header_first : (size address : ℕ) (octets : List ℕ) → slice_index (header size address 0 ++ octets) 0 ≡ 67
unfolding header
header_first size address octets = refl

front_first : (at : ℕ) (octets : List ℕ) → slice_index octets 0 ≡ 0 → slice_index (take at octets) 0 ≡ 0
front_first zero [] is = refl
front_first zero (x ∷ octets) is = refl
front_first (suc at) [] is = refl
front_first (suc at) (x ∷ octets) is = is

pub zeros_ours : (size address : ℕ) (octets : List ℕ) (n at : ℕ) → octets ≡ zeros n
    → IsNotOurs (header size address 0) octets at → ⊥
zeros_ours size address octets n at is (inl differs) = differs.begun (zeros_start _ _ n is)
zeros_ours size address octets n at is (inr spoiled) =
    let same : 67 ≡ 0 = sym (header_first size address (spelled spoiled.batches))
    ∙ ap (λ (o : List ℕ). slice_index o 0) (sym spoiled.before.front)
    ∙ front_first at octets (ap (λ (o : List ℕ). slice_index o 0) is ∙ zeros_first n) in
    absurd (omega (arith, same))

-- once it is committed
pub opened_begun : (place : ℕ) (mid new : LoopBook) → value_of mid ≡ opened area_length [] → HasCommitted mid new
    → size_of mid ≡ area_length → header_of mid ≡ header area_length (gateway_at place).ip 0 → IsBegun place new
opened_begun place mid new is committed size name = record {
  value = cc (committed.value.value, committed.value.whole (cc first), first);
  size = committed.size ∙ size;
  name = committed.name ∙ name;
}
  where
    first : value_of mid ≡ value_with [] begun false
    first = is ∙ opened_first
