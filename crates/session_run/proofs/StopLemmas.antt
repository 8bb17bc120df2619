-- Why a session stopped that served several jobs.
use Rattle.std.proofs.Common.{◌≡◌, ◌≢◌, ◌⊎◌, inl, inr, ℕ, ◌+◌, ◌<◌, List, [], ◌∷◌, ◌++◌, length, take, Option, None, Some, refl, sym}
use Rattle.session_run.proofs.Names.{first_stop, option_or, Served, slice_index_or, Stop, stop_of, take_more}
use Rattle.node_session.specs.declared.served.Served.TheVariants as served
use Rattle.session_run.specs.declared.stop.Stop.TheVariants as stop

or_none : (o : Option Stop) → o ≡ option_or o None
or_none None = refl
or_none (Some s) = refl

or_assoc : (a b c : Option Stop) → option_or a (option_or b c) ≡ option_or (option_or a b) c
or_assoc None b c = refl
or_assoc (Some s) b c = refl

-- one job more
first_more : (results : List Served) (r : Served) → first_stop (results ++ r ∷ []) ≡ option_or (first_stop results) (stop_of r)
first_more [] r = sym (or_none (stop_of r))
first_more (s ∷ results) r = rw (first_more results r) (or_assoc (stop_of s) (first_stop results) (stop_of r))

pub next_stop : (results : List Served) (i : ℕ) (d : Served) (now found after : Option Stop) → i < length results
    → now ≡ first_stop (take i results) → found ≡ stop_of (slice_index_or results i d) → after ≡ option_or now found
    → after ≡ first_stop (take (i + 1) results)
next_stop results i d now found after within so_far one is =
    rw (is, so_far, one, take_more results i d within) (sym (first_more (take i results) (slice_index_or results i d)))

-- why the session stopped before, or else by these results
pub stops_by : (before found after : Option Stop) (told results : List Served) → after ≡ option_or before found → found ≡ first_stop told
    → told ≡ results → after ≡ option_or before (first_stop results)
stops_by before found after told results is by same = rw (is, by, same)

-- a session isn't stopped by the clock
pub never_clock : (results : List Served) → first_stop results ≢ Some stop.Clock
never_clock [] is = absurd (cc is)
never_clock (served.Link ∷ results) is = absurd (cc is)
never_clock (served.NoMemory ∷ results) is = absurd (cc is)
never_clock (_ ∷ results) is = never_clock results is

-- nothing stops where neither of two causes does
pub none_of : (one other : Option Stop) → option_or one other ≡ None → (one ≡ None) × (other ≡ None)
none_of None other is = (refl, is)
none_of (Some x) other is = absurd (cc is)

-- the first of two causes is one of them
pub one_of : (one other : Option Stop) (s : Stop) → option_or one other ≡ Some s → (one ≡ Some s) ⊎ (other ≡ Some s)
one_of None other s is = inr is
one_of (Some x) other s is = inl is
