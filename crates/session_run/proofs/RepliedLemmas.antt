-- What links of several sessions sent, all together: replies in turn.
use Rattle.std.proofs.Common.{◌≡◌, ◌≢◌, ◌⊎◌, inl, inr, ℕ, suc, ◌%◌, ◌≤◌, ◌==◌, false, List, [], ◌∷◌, ◌++◌, Option, None, Some, refl, sym, ◌∙◌, arith}
use Rattle.session_run.proofs.Names.{All, All-append, All-nil, All-weaker, append-nil, cases_eq, Datagram, filter-append, HistoryEntry, IfSome, InTurn, IsFor, IsReplyTo, ne_eqb, ReplyInTurn, sent_by, session_count, those_of}
use Rattle.net_link.specs.declared.link.Link as paths
use Rattle.session_run.proofs.InTurnLemmas.{filter_none, filter_sub, in_turn_all, in_turn_sub}
use Rattle.session_run.proofs.TeamLemmas.{joined_holds}

module _ (size : ℕ) (firm : List HistoryEntry) (before now : ℕ) (asked : List Datagram) where
  abbrev pub Reply : ℕ → Datagram → Datagram → Type 0
  Reply session = IsReplyTo session size firm before now

  -- what was sent in turn for a session went to its nodes
  went_to : (session : ℕ) (sent : List Datagram) → InTurn (Reply session) asked sent → All (IsFor session) sent
  went_to session sent p = in_turn_all (Reply session) (λ (d : Datagram). d ≡ d) (IsFor session)
      (λ d reply own is. rw is.peer is.session_is) asked sent (λ k d lt. refl) p

  none_of : (s : ℕ) (P : Datagram → Type 0) (sent : List Datagram) → All P sent
      → ((d : Datagram) → P d → d.peer.ip % session_count ≢ s) → those_of s sent ≡ []
  none_of s P sent all apart = filter_none (λ (d : Datagram). d.peer.ip % session_count == s) sent
      (All-weaker P (λ (d : Datagram). (d.peer.ip % session_count == s) ≡ false)
      (λ d p. ne_eqb (d.peer.ip % session_count) s (apart d p)) sent all)

  -- The first list went to nodes of this session and later ones, and those of each session in turn.
  pub record InTurnFrom (session : ℕ) (sent : List Datagram) : Type 0 where
    pub later : All (λ d. session ≤ d.peer.ip % session_count) sent
    pub each : (s : ℕ) → InTurn (Reply s) asked (those_of s sent)

  -- one session more, in front of later ones
  pub one_session : (session : ℕ) (mine others : List Datagram) → InTurn (Reply session) asked mine → InTurnFrom (suc session) others
      → InTurnFrom session (others ++ mine)
  one_session session mine others p rest = record {
    later = All-append Later others mine
        (All-weaker (λ (d : Datagram). suc session ≤ d.peer.ip % session_count) Later (λ d le. omega (arith, le)) others rest.later)
        (All-weaker (IsFor session) Later (λ d is. omega (arith, is)) mine own);
    each = λ s. by s (cases_eq s session);
  }
    where
      Later : Datagram → Type 0
      Later d = session ≤ d.peer.ip % session_count

      own : All (IsFor session) mine
      own = went_to session mine p

      by : (s : ℕ) → (s ≡ session) ⊎ (s ≢ session) → InTurn (Reply s) asked (those_of s (others ++ mine))
      by s (inl is) =
          let none = none_of s (λ d. suc session ≤ d.peer.ip % session_count) others rest.later
          (λ d le e. omega (arith, is, le, e)) in
          rw (filter-append (λ (d : Datagram). d.peer.ip % session_count == s) others mine, none)
          (in_turn_sub (Reply s) asked (those_of s mine) mine (rw is p)
          (filter_sub (λ (d : Datagram). d.peer.ip % session_count == s) mine))
      by s (inr apart) =
          let none = none_of s (IsFor session) mine own (λ d at e. apart (sym e ∙ at)) in
          rw (filter-append (λ (d : Datagram). d.peer.ip % session_count == s) others mine, none, append-nil)
          (rest.each s)

-- links, each of its session from one on
module _ {L : Type 0} (tells : paths.Ghosts L) (size : ℕ) (firm : List HistoryEntry) (before now : ℕ) where
  -- what each sent where both are told, in turn for its session
  abbrev pub EachInTurn : Option (List Datagram) → ℕ → List L → Type 0
  EachInTurn heard session [] = heard ≡ heard
  EachInTurn heard session (link ∷ links) =
      IfSome heard (λ asked. IfSome (tells.state link).sent (InTurn (IsReplyTo session size firm before now) asked))
      × EachInTurn heard (suc session) links

  from_on : (asked : List Datagram) (session : ℕ) (links : List L) → EachInTurn (Some asked) session links
      → IfSome (sent_by tells links) (InTurnFrom size firm before now asked session)
  from_on asked session [] each =
      record { later = All-nil (λ (d : Datagram). session ≤ d.peer.ip % session_count); each = λ s. tt }
  from_on asked session (link ∷ links) each = joined_holds _ (sent_by tells links) (tells.state link).sent
      (from_on asked (suc session) links each.1) each.0
      (λ others mine rest p. one_session size firm before now asked session mine others p rest)

  -- the links of all sessions replied in turn, behind one that sent nothing
  pub all_replied : (heard : Option (List Datagram)) (first : L) (links : List L) → IfSome (tells.state first).sent (λ list. list ≡ [])
      → EachInTurn heard 0 links → ReplyInTurn size firm before now heard (sent_by tells (first ∷ links))
  all_replied None first links none each session = tt
  all_replied (Some asked) first links none each session = joined_holds _ (sent_by tells links) (tells.state first).sent
      (from_on asked 0 links each) none (λ others list rest is. rw (is, append-nil) (rest.each session))
