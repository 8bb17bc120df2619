-- What a service comes to, by what was run and what was given back.
use Rattle.std.proofs.Common.{◌≡◌, ⊎_elim, inl, inr, ℕ, Bool, true, List, [], arith, ◌++◌, Option, None, Some, refl, sym, ap, ◌∙◌, append_assoc}
use Rattle.cgf_service.proofs.Names.{All-nil, AnswerInTurn, append-nil, AreSound, Begins, Datagram, entries_of, Facts, GoesOnUntil, GrowsBy, HistoryEntry, IfSome, InTurn, IsAnswered, IsCalledFor, IsEmpty, IsJobOf, IsReply, Jobs, joined, placed, ReplyInTurn, Rose, StaysAs, TellsFailure, WhereTold}

pub begins_self : (xs : List HistoryEntry) → Begins xs xs
begins_self xs = ([], sym (append-nil xs))

pub begins_then : (xs ys zs : List HistoryEntry) → Begins xs ys → Begins ys zs → Begins xs zs
begins_then xs ys zs p q = (p.0 ++ q.0, q.1 ∙ ap (λ (l : List HistoryEntry). l ++ q.0) p.1 ∙ append_assoc xs p.0 q.0)

firm_first : (told : Bool) (f : Facts) → AreSound told f → told ≡ true → Begins f.firm (joined f)
firm_first told f sound y = begins_then f.firm f.list (joined f) (sound.begins y) (f.torn, refl)

-- a history that nothing befell goes on
pub nothing_befell : (told : Bool) (heard : Option (List Datagram)) (f : Facts) → AreSound told f
    → WhereTold told (GoesOnUntil heard f f None)
nothing_befell told heard f sound y = record {
  goes = record {
    stood = joined f;
    tail = [];
    whole = sym (append-nil (joined f));
    stood_is = begins_self (joined f);
    firm = firm_first told f sound y;
    begins = begins_self f.firm;
    first = firm_first told f sound y;
    answers = All-nil (IsCalledFor f.size heard);
  };
  jobs = λ session. [];
  answers = record { were_heard = λ session. none_of session heard; answers = λ session. tt; no_more = λ session many. refl };
  latest = refl;
}
  where
    none_of : (session : ℕ) (o : Option (List Datagram)) → IfSome o (λ list. InTurn (IsJobOf session) list [])
    none_of session None = tt
    none_of session (Some list) = tt

-- where nothing was sent it was sent in turn
pub none_in_turn : (size : ℕ) (firm : List HistoryEntry) (before now : ℕ) (heard sent : Option (List Datagram)) → IsEmpty sent
    → ReplyInTurn size firm before now heard sent
none_in_turn size firm before now (Some asked) (Some list) is session = rw is tt
none_in_turn size firm before now _ _ is session = tt

-- What the laws of what is in turn say.
abbrev pub StaysInTurn : Type 0
StaysInTurn = (size : ℕ) (heard : Option (List Datagram)) (jobs : Jobs) (before first last : List HistoryEntry)
    → AnswerInTurn size heard jobs (placed before (first ++ last)) → AnswerInTurn size heard jobs (placed before first)

abbrev pub HeardInTurn : Type 0
HeardInTurn = (size : ℕ) (jobs : Jobs) (entries : List (HistoryEntry × List HistoryEntry)) (earlier heard all : Option (List Datagram))
    → GrowsBy earlier heard all → AnswerInTurn size heard jobs entries → AnswerInTurn size all jobs entries

abbrev pub ReplyLater : Type 0
ReplyLater = (size : ℕ) (firm later : List HistoryEntry) (before now before' now' : ℕ) (earlier heard all sent : Option (List Datagram))
    → Begins firm later → (Rose before now → Rose before' now') → GrowsBy earlier heard all
    → ReplyInTurn size firm before now heard sent → ReplyInTurn size later before' now' all sent

pub same_heard : (told : Option (List Datagram)) → GrowsBy (Some []) told told
same_heard None = tt
same_heard (Some list) = refl

pub same_facts : (f : Facts) → StaysAs f f
same_facts f = record { size = refl; name = refl; later = omega arith }

-- a reply that rests on what was firm rests on what is firm later, and a count that rose has risen still
pub reply_later : (heard : Option (List Datagram)) (size : ℕ) (firm history : List HistoryEntry) (before now later : ℕ)
    → Begins firm history → ((Rose before now) → Rose before later) → (sent : Datagram)
    → IsReply heard size firm before now sent → IsReply heard size history before later sent
reply_later heard size firm history before now later grows rose sent r = record {
  asked = r.asked;
  was_heard = r.was_heard;
  peer = r.peer;
  says = ⊎_elim
      (λ (a : IsAnswered size firm r.asked sent.octets).
      inl (record {
        history = a.history;
        act = a.act;
        says = a.says;
        now = a.now;
        who = a.who;
        rests = begins_then (a.history ++ entries_of a.history a.now a.who a.act) firm history a.rests grows;
      }))
      (λ (f : TellsFailure r.asked sent.octets × Rose before now). inr (f.0, rose f.1))
      r.says;
}
