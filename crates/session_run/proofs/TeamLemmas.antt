-- What holds of all of a team, and what a team has done in one round, and in the next.
use Rattle.std.proofs.Common.{◌≡◌, Bool, ℕ, List, [], ◌∷◌, ◌++◌, Option, None, Some}
use Rattle.session_run.proofs.Names.{All, All-from_recursion, AreDesksOf, ArePairOf, CountsTurns, Datagram, IfSome, IfTurns, Inbox, joined, Pair, PairWorksOn, Reception, slice_index_or, Team, TeamWorksOn, TurnCell, Until}
use Rattle.cdr_shelf.specs.declared.shelf.Shelf as shelves
use Rattle.net_link.specs.declared.link.Link as paths
use Rattle.session_run.specs.declared.until.Until.TheVariants as until

pub if_some : {X : Type 0} (o : Option X) {P : X → Type 0} → ((x : X) → P x) → IfSome o P
if_some None each = tt
if_some (Some x) each = each x

pub joined_holds : (R : List Datagram → Type 0) (one other : Option (List Datagram)) {P Q : List Datagram → Type 0}
    → IfSome one P
    → IfSome other Q → ((xs ys : List Datagram) → P xs → Q ys → R (xs ++ ys)) → IfSome (joined one other) R
joined_holds R (Some xs) (Some ys) p q both = both xs ys p q
joined_holds R _ _ p q both = tt

module _ {X : Type 0} (P : X → Type 0) {a b c d : X} where
  pub all_four : P a → P b → P c → P d → All P (a ∷ b ∷ c ∷ d ∷ [])
  all_four pa pb pc pd = All-from_recursion P (a ∷ b ∷ c ∷ d ∷ []) (pa, (pb, (pc, (pd, tt))))

  pub all_five : {e : X} → P a → P b → P c → P d → P e → All P (a ∷ b ∷ c ∷ d ∷ e ∷ [])
  all_five {e = e} pa pb pc pd pe = All-from_recursion P (a ∷ b ∷ c ∷ d ∷ e ∷ []) (pa, (pb, (pc, (pd, (pe, tt)))))

pub team_then : {F L : Type 0} {files : shelves.Ghosts F} {tells : paths.Ghosts L} {told : Bool}
    {a b c : Team F L files}
    → TeamWorksOn files tells told a b → TeamWorksOn files tells told b c → TeamWorksOn files tells told a c
team_then p q = record {
  one = λ at began w. q.one at began (p.one at began w);
  two = λ at began w. q.two at began (p.two at began w);
  three = λ at began w. q.three at began (p.three at began w);
  four = λ at began w. q.four at began (p.four at began w);
  writes = λ began first w. q.writes began first (p.writes began first w);
}

pub pair_then : {L : Type 0} {tells : paths.Ghosts L} {told : Bool} {a b c : Pair L} → PairWorksOn tells told a b
    → PairWorksOn tells told b c → PairWorksOn tells told a c
pair_then p q = (λ at began w. q.0 at began (p.0 at began w), λ at began w. q.1 at began (p.1 at began w))

-- turns that are counted are counted on
pub counts_then : {L : Type 0} (tells : paths.Ghosts L) (ends : Until) (a b c : Reception L)
    → IfTurns ends (λ n. CountsTurns tells n a → CountsTurns tells n b)
    → IfTurns ends (λ n. CountsTurns tells n b → CountsTurns tells n c) → IfTurns ends (λ n. CountsTurns tells n a → CountsTurns tells n c)
counts_then tells (until.Turns n) a b c p q = λ x. q (p x)
counts_then tells (until.QuietAfter count all) a b c p q = tt

-- what holds of every number of turns
pub if_turns : (ends : Until) (P : ℕ → Type 0) → ((n : ℕ) → P n) → IfTurns ends P
if_turns (until.Turns n) P all = all n
if_turns (until.QuietAfter count all) P p = tt

-- the desks of four sessions, by twos
module _ {V : Type 0} (cell : TurnCell V) {L : Type 0} {one two three four : Inbox} (a b c d : Inbox) where
  pub by_twos : (list : List Inbox) (first second : Pair L) → AreDesksOf cell list first second
      → one ≡ slice_index_or list 0 a
      → two ≡ slice_index_or list 1 b → three ≡ slice_index_or list 2 c → four ≡ slice_index_or list 3 d
      → ArePairOf cell one two first × ArePairOf cell three four second
  by_twos (w ∷ x ∷ y ∷ z ∷ []) first second own p q r s = rw (p, q, r, s) own
  by_twos _ first second own p q r s = absurd own

  pub of_all : (list : List Inbox) (before also first second : Pair L) → AreDesksOf cell list before also
      → one ≡ slice_index_or list 0 a → two ≡ slice_index_or list 1 b → three ≡ slice_index_or list 2 c
      → four ≡ slice_index_or list 3 d → ArePairOf cell one two first × ArePairOf cell three four second
      → AreDesksOf cell list first second
  of_all (w ∷ x ∷ y ∷ z ∷ []) before also first second own p q r s pairs = rw (p, q, r, s) at pairs
  of_all _ before also first second own p q r s pairs = absurd own
