-- How a history has grown from the one that was found to the one that was settled.
use Rattle.std.proofs.Common.{◌≡◌, ◌⊎◌, ⊎_elim, inl, inr, ℕ, Bool, true, false, if◌then◌else◌, List, [], ◌∷◌, ◌++◌, Option, refl, sym, ap, subst, ◌∙◌, append_assoc}
use Rattle.cgf_service.proofs.Names.{act_marked, AnswerInTurn, append-nil, append_cancel_left, base, Begins, BookValue, closed_behind, Datagram, entry_by, Facts, GoesOn, GoesOnUntil, HasGrown, history_of, HistoryEntry, is_close_due, IsAtMost, Jobs, joined, moment_of, no_caller, opened, placed, recorded, room_for, standing_for, with_act}
use Rattle.gateway_answer.specs.Marks.{Makes, NotDue}
use Rattle.gw_base.specs.EntryLaws.{is_close_due-append}
use Rattle.gw_base.specs.declared.history.Caller.{Caller}
use Rattle.gw_base.specs.declared.history.HistoryAct.TheVariants as act
use Rattle.cgf_service.proofs.ServiceLemmas.{StaysInTurn}

abbrev Entries : Type 0
Entries = List HistoryEntry

-- of two beginnings of one list one begins the other
two_beginnings : (xs ys zs : Entries) → Begins xs zs → Begins ys zs → Begins xs ys ⊎ Begins ys xs
two_beginnings [] ys zs p q = inl (ys, refl)
two_beginnings (x ∷ xs) [] zs p q = inr (x ∷ xs, refl)
two_beginnings (x ∷ xs) (y ∷ ys) [] p q = absurd (cc p.1)
two_beginnings (x ∷ xs) (y ∷ ys) (z ∷ zs) p q =
    let same : x ≡ y = cc (p.1, q.1) in
    ⊎_elim
    (λ (t : Begins xs ys). inl (t.0, λ i. sym same i ∷ t.1 i))
    (λ (t : Begins ys xs). inr (t.0, λ i. same i ∷ t.1 i))
    (two_beginnings xs ys zs (p.0, cc p.1) (q.0, cc q.1))

-- a front of what is at most an entry is at most that
at_most_front : (e : HistoryEntry) (xs ys : Entries) → IsAtMost e (xs ++ ys) → IsAtMost e xs
at_most_front e xs ys m = (ys ++ m.0, m.1 ∙ append_assoc xs ys m.0)

-- a Close behind a history, where one is due, and then none is due any more
record Closes (h : Entries) (now : ℕ) (who : Caller) : Type 0 where
  more : Entries
  whole : closed_behind h now who ≡ h ++ more
  one : IsAtMost (entry_by h now who act.Close) more
  none_due : is_close_due (closed_behind h now who) ≡ false

closes : (h : Entries) (now : ℕ) (who : Caller) → Closes h now who
closes h now who = by_due (is_close_due h) refl
  where
    behind : Bool → Entries
    behind b = with_act h now who (act_marked (if b then Makes act.Close else NotDue))

    by_due : (b : Bool) → is_close_due h ≡ b → Closes h now who
    by_due true due = record {
      more = entry_by h now who act.Close ∷ [];
      whole = ap behind due;
      one = ([], refl);
      none_due = ap is_close_due (ap behind due) ∙ is_close_due-append h (entry_by h now who act.Close);
    }
    by_due false due = record {
      more = [];
      whole = ap behind due ∙ sym (append-nil h);
      one = (entry_by h now who act.Close ∷ [], refl);
      none_due = ap is_close_due (ap behind due) ∙ due;
    }

-- a history goes on in the one that was closed behind it
pub closed_begins : (h : Entries) (now : ℕ) (who : Caller) → Begins h (closed_behind h now who)
closed_begins h now who = let c = closes h now who in (c.more, c.whole)

-- behind a settling no Close is due any more
pub none_due_behind : (h : Entries) (now : ℕ) (who : Caller) → is_close_due (closed_behind h now who) ≡ false
none_due_behind h now who = (closes h now who).none_due

-- A book that was opened has at most a Start behind its firm entries, and isn't broken.
pub record IsFresh (h : Entries) (v : BookValue) : Type 0 where
  pub firm : v.firm ≡ h
  pub rest : IsAtMost (entry_by h 0 no_caller act.Start) v.rest
  pub whole : v.is_broken ≡ false

pub opened_is_fresh : (size : ℕ) (h : Entries) → IsFresh h (opened size h)
opened_is_fresh size h = by_room (room_for (history_of (standing_for h)) size act.Start)
  where
    by_room : (b : Bool) → IsFresh h (if b then recorded (standing_for h) 0 no_caller act.Start else standing_for h)
    by_room true = record {
      firm = refl;
      rest = ([], ap (λ (l : Entries). entry_by l 0 no_caller act.Start ∷ []) (sym (append-nil h)));
      whole = refl;
    }
    by_room false = record { firm = refl; rest = (entry_by h 0 no_caller act.Start ∷ [], refl); whole = refl }

module _ (size : ℕ) (heard : Option (List Datagram)) (h s : Entries) (start now : Facts) (firm : start.firm ≡ h) (list : joined start ≡ h ++ s)
    (sized : start.size ≡ size) (starts : IsAtMost (entry_by h 0 no_caller act.Start) s) (last : Option ℕ)
    (until_last : GoesOnUntil heard start now last) where
  abbrev goes : GoesOn heard start now
  goes = until_last.goes

  abbrev jobs : Jobs
  jobs = until_last.jobs

  -- what was served, behind at most one Start: answers
  pub record Front (h' : Entries) : Type 0 where
    pub opened : Entries
    pub answered : Entries
    pub whole : h' ≡ (h ++ opened) ++ answered
    pub one_start : IsAtMost (entry_by h 0 no_caller act.Start) opened
    pub answers : AnswerInTurn size heard jobs (placed (h ++ opened) answered)

  -- of the beginning stand the history that was found, and what of the Start stands
  abbrev q : Entries
  q = goes.firm.0

  stood_is : goes.stood ≡ h ++ q
  stood_is = goes.firm.1 ∙ ap (λ (l : Entries). l ++ q) firm

  start_is : s ≡ q ++ goes.stood_is.0
  start_is = append_cancel_left h s (q ++ goes.stood_is.0)
      (sym list ∙ goes.stood_is.1 ∙ ap (λ (l : Entries). l ++ goes.stood_is.0) stood_is ∙ append_assoc h q goes.stood_is.0)

  q_starts : IsAtMost (entry_by h 0 no_caller act.Start) q
  q_starts = at_most_front (entry_by h 0 no_caller act.Start) q goes.stood_is.0
      (rw start_is at starts)

  all_answer : AnswerInTurn size heard jobs (placed (h ++ q) goes.tail)
  all_answer = rw (sized, stood_is) at until_last.answers

  whole_is : joined now ≡ (h ++ q) ++ goes.tail
  whole_is = goes.whole ∙ ap (λ (l : Entries). l ++ goes.tail) stood_is

  whole_front : Front (joined now)
  whole_front = record {
    opened = q;
    answered = goes.tail;
    whole = whole_is;
    one_start = q_starts;
    answers = all_answer;
  }

  -- the firm part is a beginning of that, and begins with the history that was found
  firm_front : StaysInTurn → Front now.firm
  firm_front stay = by_case (two_beginnings w q (q ++ goes.tail) (rest, sym split) (goes.tail, refl))
    where
      w : Entries
      w = goes.begins.0

      firm_is : now.firm ≡ h ++ w
      firm_is = goes.begins.1 ∙ ap (λ (l : Entries). l ++ w) firm

      rest : Entries
      rest = goes.first.0

      split : w ++ rest ≡ q ++ goes.tail
      split = append_cancel_left h (w ++ rest) (q ++ goes.tail)
          (sym (append_assoc h w rest) ∙ ap (λ (l : Entries). l ++ rest) (sym firm_is) ∙ sym goes.first.1 ∙ whole_is ∙ append_assoc h q goes.tail)

      by_case : Begins w q ⊎ Begins q w → Front now.firm
      by_case (inl b) = record {
        opened = w;
        answered = [];
        whole = firm_is ∙ sym (append-nil (h ++ w));
        one_start = at_most_front (entry_by h 0 no_caller act.Start) w b.0
            (rw b.1 at q_starts);
        answers = record { were_heard = all_answer.were_heard; answers = λ session. tt; no_more = all_answer.no_more };
      }
      by_case (inr b) =
          let u = b.0 in
          let tail_is : goes.tail ≡ u ++ rest = append_cancel_left q goes.tail (u ++ rest)
          (sym split ∙ ap (λ (l : Entries). l ++ rest) b.1 ∙ append_assoc q u rest) in
          record {
            opened = q;
            answered = u;
            whole = firm_is ∙ ap (λ (l : Entries). h ++ l) b.1 ∙ sym (append_assoc h q u);
            one_start = q_starts;
            answers = stay size heard jobs (h ++ q) u rest
                (subst (λ (l : Entries). AnswerInTurn size heard jobs (placed (h ++ q) l)) tail_is all_answer);
          }

  front_of : StaysInTurn → (drops : Bool) → Front (base drops now)
  front_of stay true = firm_front stay
  front_of stay false = whole_front

  -- what was settled has grown from what was found
  pub grown : StaysInTurn → (drops : Bool) (history : Entries)
      → history ≡ closed_behind (base drops now) (moment_of last) no_caller → HasGrown size heard h history
  grown stay drops history is =
      let f = front_of stay drops in
      let c = closes (base drops now) (moment_of last) no_caller in
      record {
        opened = f.opened;
        answered = f.answered;
        closed = c.more;
        whole = is ∙ c.whole ∙ ap (λ (l : Entries). l ++ c.more) f.whole;
        one_start = f.one_start;
        jobs = jobs;
        answers = f.answers;
        one_close = subst (λ (o : Option ℕ). IsAtMost (entry_by ((h ++ f.opened) ++ f.answered) (moment_of o) no_caller act.Close) c.more) until_last.latest
            (subst (λ (l : Entries). IsAtMost (entry_by l (moment_of last) no_caller act.Close) c.more) f.whole c.one);
      }

  -- what was firm is firm still, behind whatever was settled
  base_begins : (drops : Bool) → Begins now.firm (base drops now)
  base_begins true = ([], sym (append-nil now.firm))
  base_begins false = goes.first

  pub firm_begins : (drops : Bool) (moment : ℕ) (history : Entries) → history ≡ closed_behind (base drops now) moment no_caller
      → Begins now.firm history
  firm_begins drops moment history is =
      let b = base_begins drops in
      let c = closes (base drops now) moment no_caller in
      (b.0 ++ c.more, is ∙ c.whole ∙ ap (λ (l : Entries). l ++ c.more) b.1 ∙ append_assoc now.firm b.0 c.more)

-- what was found begins what has grown from it
pub grown_begins : (size : ℕ) (heard : Option (List Datagram)) (start history : Entries) → HasGrown size heard start history
    → Begins start history
grown_begins size heard start history g = (
  g.opened ++ (g.answered ++ g.closed),
  g.whole ∙ ap (λ (l : Entries). l ++ g.closed) (append_assoc start g.opened g.answered)
      ∙ append_assoc start (g.opened ++ g.answered) g.closed ∙ ap (λ (l : Entries). start ++ l) (append_assoc g.opened g.answered g.closed),
)
