-- Seats and passes: what is dealt, and what is gathered.
use Rattle.std.proofs.Common.{◌≡◌, ℕ, suc, ◌+◌, ◌-◌, ◌<◌, List, [], ◌∷◌, ◌++◌, All, sum_by, sym, ap, ◌∙◌, append_assoc, arith}
use lib.ListN.{replicate}
use Rattle.std.proofs.lemmas.List.{map-append, replicate-append-replicate}
use Rattle.std.proofs.lemmas.List.Elements.{All-head, All-tail}
use Rattle.std.proofs.lemmas.List.Sums.{sum_by-append}
use Rattle.job_inbox.specs.declared.hand.Hand.{Hand}
use Rattle.job_inbox.specs.declared.hand.Hands.{Hands}
use Rattle.job_inbox.specs.declared.inbox.InboxPass.{InboxPass}
use Rattle.job_inbox.specs.declared.job.Job.{Job}
use Rattle.job_inbox.specs.Hands.{AreSettled, TookWhatWasPushed}
use Rattle.job_inbox.specs.Inbox.{knowledge, known_by}
use Rattle.job_inbox.specs.Rule.{Ends, first_alone, first_of, hands_of, idle, without_first}

-- what is left of so many passes has a first one
next : (first made : ℕ) → first < made → made - first ≡ suc (made - (first + 1))
next first made within = omega arith

-- the first pass is given away, and the others stay
pub gives : (v : Hands) (first made : ℕ) → first < made → v ≡ hands_of made (replicate (made - first) idle) →
    first_alone v ≡ hands_of made (idle ∷ [])
gives v first made within is =
    ap first_alone is ∙ ap (λ (n : ℕ). first_alone (hands_of made (replicate n idle))) (next first made within)

pub keeps : (v : Hands) (first made : ℕ) → first < made → v ≡ hands_of made (replicate (made - first) idle) →
    without_first v ≡ hands_of made (replicate (made - (first + 1)) idle)
keeps v first made within is =
    ap without_first is ∙ ap (λ (n : ℕ). without_first (hands_of made (replicate n idle))) (next first made within)

-- one more pass that did nothing
pub one_more : (passes : List InboxPass) (pass : InboxPass) (n : ℕ) → known_by passes ≡ replicate n idle → knowledge pass ≡ idle →
    known_by (passes ++ pass ∷ []) ≡ replicate (n + 1) idle
one_more passes pass n so_far new =
    map-append knowledge passes (pass ∷ [])
    ∙ (λ i. so_far i ++ new i ∷ [])
    ∙ replicate-append-replicate n 1 idle

-- the last of the passes is taken in: it stands in front of those that were
pub one_behind : (all now left behind : List InboxPass) (pass : InboxPass) → all ≡ now ++ behind → now ≡ left ++ pass ∷ [] →
    all ≡ left ++ (pass ∷ behind)
one_behind all now left behind pass split last =
    split ∙ ap (λ (l : List InboxPass). l ++ behind) last ∙ append_assoc left (pass ∷ []) behind

-- what is so of all passes is so of the one between
pub is_in : (P : InboxPass → Type 0) (left behind : List InboxPass) (pass : InboxPass) → All P (left ++ (pass ∷ behind)) → P pass
is_in P [] behind pass all = All-head P pass behind all
is_in P (p ∷ left) behind pass all = is_in P left behind pass (All-tail P p (left ++ (pass ∷ behind)) all)

-- a seat with one pass has the first
pub is_one : (v : Hands) (m : ℕ) (h : Hand) → v ≡ hands_of m (h ∷ []) → v ≡ hands_of m (first_of v.hands ∷ [])
is_one v m h is = is ∙ sym (ap (λ (u : Hands). hands_of m (first_of u.hands ∷ [])) is)

-- who knows the whole knows it of all passes
pub settled : (v : Hands) (items : List Job) → Ends v items → AreSettled v.hands
settled v items e = (e.1.0, e.1.1, items, e.1.2)

-- what was taken is the first of what was pushed, and weighs at most as much
pub took_what_was_pushed : (hands : List Hand) → AreSettled hands → TookWhatWasPushed hands
took_what_was_pushed hands s weight =
    let e = s.3 in
    omega (arith, e.puts weight, e.takes weight, ap (sum_by weight) e.order, sum_by-append weight s.1 s.2)
