-- What is in turn stays so, and what links sent all together.
use Rattle.std.proofs.Common.{◌≡◌, ℕ, ◌==◌, Bool, true, false, if◌then◌else◌, List, [], ◌∷◌, ◌++◌, Option, None, Some, refl, sym, ap, subst, ◌∙◌, append_assoc}
use Rattle.session_run.proofs.Names.{AnswerInTurn, AnswersJob, append-nil, Begins, by_session, Datagram, HistoryEntry, IfSome, IfSome_then, InTurn, IsJobOf, IsReplyTo, Jobs, joined, placed, ReplyInTurn, same_Some, sent_by, sent_with, those_of}
use Rattle.area_disk.specs.Disk.{Rose}
use Rattle.net_link.specs.Making.{GrowsBy}
use Rattle.net_link.specs.declared.link.Link as paths
use Rattle.session_run.proofs.DeskLemmas.{says_later}
use Rattle.session_run.proofs.InTurnLemmas.{in_turn_before, in_turn_front, in_turn_weaker}

abbrev Placed : Type 0
Placed = HistoryEntry × List HistoryEntry

-- the entries of a session among the first ones are the first ones of the session
abbrev FirstOf : List Placed → List Placed → Type 0
FirstOf first all = (rest : List Placed) × (all ≡ first ++ rest)

first_of : (session : ℕ) (before first last : List HistoryEntry)
    → FirstOf (by_session session (placed before first)) (by_session session (placed before (first ++ last)))
first_of session before [] last = (by_session session (placed before last), refl)
first_of session before (e ∷ first) last = by (e.caller.session == session) (first_of session (before ++ e ∷ []) first last)
  where
    few : List Placed
    few = by_session session (placed (before ++ e ∷ []) first)

    all : List Placed
    all = by_session session (placed (before ++ e ∷ []) (first ++ last))

    by : (b : Bool) → FirstOf few all → FirstOf (if b then (e, before) ∷ few else few) (if b then (e, before) ∷ all else all)
    by true f = (f.0, ap (λ (l : List Placed). (e, before) ∷ l) f.1)
    by false f = f

pub answers_front : (size : ℕ) (heard : Option (List Datagram)) (jobs : Jobs) (before first last : List HistoryEntry)
    → AnswerInTurn size heard jobs (placed before (first ++ last)) → AnswerInTurn size heard jobs (placed before first)
answers_front size heard jobs before first last a = record {
  were_heard = a.were_heard;
  answers = λ session. let f = first_of session before first last in
      in_turn_front (AnswersJob size session) (jobs session) (by_session session (placed before first)) f.0
      (rw f.1 at (a.answers session));
  no_more = a.no_more;
}

-- Where all was heard that is told, what was heard last stands behind the rest.
heard_last : (earlier heard all : Option (List Datagram)) → GrowsBy earlier heard all → (P : List Datagram → Type 0)
    → ((rest xs : List Datagram) → P xs → P (rest ++ xs)) → IfSome heard P → IfSome all P
heard_last earlier heard None grows P more p = tt
heard_last (Some rest) (Some xs) (Some list) grows P more p = subst P (same_Some (rest ++ xs) list grows) (more rest xs p)
heard_last _ _ (Some list) grows P more p = absurd (cc grows)

pub answers_heard : (size : ℕ) (jobs : Jobs) (entries : List Placed) (earlier heard all : Option (List Datagram))
    → GrowsBy earlier heard all → AnswerInTurn size heard jobs entries → AnswerInTurn size all jobs entries
answers_heard size jobs entries earlier heard all grows a = record {
  were_heard = λ session. heard_last earlier heard all grows (λ (list : List Datagram). InTurn (IsJobOf session) list (jobs session))
      (λ rest xs p. in_turn_before (IsJobOf session) rest xs (jobs session) p) (a.were_heard session);
  answers = a.answers;
  no_more = a.no_more;
}

module _ (size : ℕ) (firm later : List HistoryEntry) (before now before' now' : ℕ) (begins : Begins firm later)
    (rises : Rose before now → Rose before' now') where
  abbrev Later : ℕ → Datagram → Datagram → Type 0
  Later session = IsReplyTo session size later before' now'

  reply_later : (session : ℕ) (asked sent : Datagram) → IsReplyTo session size firm before now asked sent
      → Later session asked sent
  reply_later session asked sent r = record {
    session_is = r.session_is;
    peer = r.peer;
    says = says_later refl begins rises r.says;
  }

  pub replies_later : (earlier heard all sent : Option (List Datagram)) → GrowsBy earlier heard all
      → ReplyInTurn size firm before now heard sent → ReplyInTurn size later before' now' all sent
  replies_later earlier heard all sent grows r session = heard_last earlier heard all grows
      (λ asked. IfSome sent (λ list. InTurn (Later session) asked (those_of session list)))
      (λ rest xs p. IfSome_then sent p (λ list q. in_turn_before (Later session) rest xs (those_of session list) q))
      (IfSome_then heard (r session) (λ asked p. IfSome_then sent p (λ list q. in_turn_weaker
      (IsReplyTo session size firm before now) (Later session) (reply_later session) asked (those_of session list) q)))

module _ {L : Type 0} (tells : paths.Ghosts L) where
  joined_none : (told : Option (List Datagram)) → told ≡ joined told (Some [])
  joined_none None = refl
  joined_none (Some list) = ap Some (sym (append-nil list))

  joined_both : (one two three : Option (List Datagram)) → joined (joined one two) three ≡ joined one (joined two three)
  joined_both (Some a) (Some b) (Some c) = ap Some (append_assoc a b c)
  joined_both _ _ _ = refl

  pub sent_behind : (told : Option (List Datagram)) (links : List L) → sent_with tells told links ≡ joined told (sent_by tells links)
  sent_behind told [] = joined_none told
  sent_behind told (link ∷ links) =
      ap (λ (o : Option (List Datagram)). joined o (tells.state link).sent) (sent_behind told links)
      ∙ joined_both told (sent_by tells links) (tells.state link).sent
