-- Whether the words ask for a gateway that serves, for one that answers a stream, or for a loop.
use Rattle.std.proofs.Common.{◌≡◌, ◌&&◌, true, is_none, Option, None, Some, refl}

-- what holds where there is none, and where there is one, holds
pub either : {X P : Type 0} (o : Option X) → (o ≡ None → P) → ((x : X) → o ≡ Some x → P) → P
either None none some = none refl
either (Some x) none some = some x refl

pub not_both : {X : Type 0} (x : X) → Some x ≡ None → ⊥
not_both x is = cc is

-- they ask for none of these, and so for a job over files
pub over_files : {X Y Z : Type 0} (serve : Option X) (stream : Option Y) (loop : Option Z) → serve ≡ None
    → stream ≡ None → loop ≡ None → (is_none serve && (is_none stream && is_none loop)) ≡ true
over_files serve stream loop none_serves none_streams none_loops =
    λ i. is_none (none_serves i) && (is_none (none_streams i) && is_none (none_loops i))

pub no_serve : {X Y Z : Type 0} (serve : Option X) (stream : Option Y) (loop : Option Z)
    → (is_none serve && (is_none stream && is_none loop)) ≡ true → serve ≡ None
no_serve None stream loop files = refl
no_serve (Some of) stream loop files = absurd (cc files)

pub no_stream : {X Y Z : Type 0} (serve : Option X) (stream : Option Y) (loop : Option Z)
    → (is_none serve && (is_none stream && is_none loop)) ≡ true → stream ≡ None
no_stream serve None loop files = refl
no_stream None (Some of) loop files = absurd (cc files)
no_stream (Some of) (Some by) loop files = absurd (cc files)
