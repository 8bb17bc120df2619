-- What who receives has done behind one more step of its dispatcher.
use Rattle.std.proofs.Common.{◌≡◌, ◌≢◌, Bool, false, true, inl, ℕ, zero, suc, ◌+◌, ◌-◌, ◌<◌, ◌≤◌, List, [], ◌∷◌, ◌++◌, length, length-set, replicate, Option, None, Some, refl, sym, ap, ◌∙◌, arith}
use Rattle.session_run.proofs.Names.{Addr, AreOfEach, ArePushed, CountsTurns, Datagram, datagram_of, Dispatcher, Hand, hands_of, HasDispatched, HasHeardOne, idle, IfSome, Inbox, InboxPass, InTurn, IsOneFor, Job, length-map, link_of, LinkState, next_count, passes_of, Reception, Rose, session_for, Stop, stop_behind, TakesTurn, TellsOf, TellsOfClock, turns_of, was_quiet, with_job, with_one}
use Rattle.net_link.specs.declared.link.Link as paths
use Rattle.node_session.specs.declared.dispatched.Dispatched.{Dispatched}
use Rattle.node_session.specs.declared.dispatched.Dispatched.TheVariants as dispatched
use Rattle.session_run.specs.declared.stop.Stop.TheVariants as stop
use Rattle.session_run.proofs.DeskLemmas.{rose_since}
use Rattle.session_run.proofs.InTurnLemmas.{in_turn_both, in_turn_more}
use Rattle.session_run.proofs.TeamLemmas.{if_some}

-- datagrams of which the link heard one more
heard_more : (sessions session : ℕ) (d : Datagram) (told : Option (List Datagram)) (put : List Job)
    → IfSome told (λ list. InTurn (IsOneFor sessions session) list put) → IfSome (with_one d told) (λ list. InTurn (IsOneFor sessions session) list put)
heard_more sessions session d None put p = tt
heard_more sessions session d (Some list) put p = in_turn_more (IsOneFor sessions session) list put (d ∷ []) p

heard_job : (sessions session : ℕ) (job : Job) (told : Option (List Datagram)) (put : List Job) → session_for job sessions ≡ session
    → IfSome told (λ list. InTurn (IsOneFor sessions session) list put)
    → IfSome (with_one (datagram_of job) told) (λ list. InTurn (IsOneFor sessions session) list (put ++ job ∷ []))
heard_job sessions session job None put is p = tt
heard_job sessions session job (Some list) put is p =
    in_turn_both (IsOneFor sessions session) list put (datagram_of job ∷ []) (job ∷ []) p (inl ((is, refl), tt))

module _ (sessions : ℕ) where
  pub all_idle : (session : ℕ) (told : Option (List Datagram)) (n : ℕ) → ArePushed sessions session told (replicate n idle)
  all_idle session told zero = tt
  all_idle session told (suc n) =
      (record { jobs = if_some told (λ list. tt); none_taken = refl }, all_idle (suc session) told n)

  all_more : (session : ℕ) (d : Datagram) (told : Option (List Datagram)) (hands : List Hand) → ArePushed sessions session told hands
      → ArePushed sessions session (with_one d told) hands
  all_more session d told [] all = tt
  all_more session d told (hand ∷ hands) all = (
    record { jobs = heard_more sessions session d told hand.put all.0.jobs; none_taken = all.0.none_taken },
    all_more (suc session) d told hands all.1,
  )

  -- a job was pushed to the inbox of its session
  all_set : (session : ℕ) (job : Job) (told : Option (List Datagram)) (hands : List Hand) (k : ℕ) → session_for job sessions ≡ k + session
      → ArePushed sessions session told hands → ArePushed sessions session (with_one (datagram_of job) told) (with_job k job hands)
  all_set session job told [] k is all = tt
  all_set session job told (hand ∷ hands) zero is all = (
    record {
      jobs = heard_job sessions session job told hand.put (omega (arith, is)) all.0.jobs;
      none_taken = all.0.none_taken;
    },
    all_more (suc session) (datagram_of job) told hands all.1,
  )
  all_set session job told (hand ∷ hands) (suc k) is all = (
    record { jobs = heard_more sessions session (datagram_of job) told hand.put all.0.jobs; none_taken = all.0.none_taken },
    all_set (suc session) job told hands k (omega (arith, is)) all.1,
  )

-- as many passes as inboxes
pub each_length : (inboxes : List Inbox) (passes : List InboxPass) → AreOfEach inboxes passes
    → length passes ≡ length inboxes
each_length [] [] own = refl
each_length (i ∷ inboxes) (p ∷ passes) own = ap suc (each_length inboxes passes own.1)
each_length _ _ own = absurd own

module _ (inboxes : List Inbox) (old new : Dispatcher) (link_old link_new : LinkState) (clock_old clock_new : ℕ) where
  abbrev Told : Dispatched → Type 0
  Told = TellsOf inboxes old new link_old link_new clock_old clock_new

  -- what its passes pushed of what its link heard
  abbrev HasPushedOf : LinkState → List Hand → Type 0
  HasPushedOf link hands = ArePushed (length hands) 0 link.received hands

  -- What a step leaves: neither the address nor what was sent changes, a turn was taken unless the link failed, and it
  -- has failed no more often unless it failed in this step.
  record Steps (d : Dispatched) : Type 0 where
    pub path : (link_new.address ≡ link_old.address) × (link_new.sent ≡ link_old.sent)
    pub most : link_new.turns ≤ link_old.turns + 1
    pub turns : stop_behind d ≡ None → link_new.turns ≡ next_count link_old.turns
    pub calm : stop_behind d ≡ None → link_new.faults ≡ link_old.faults
    pub failed : stop_behind d ≡ Some stop.Link → Rose 0 link_new.faults

  takes_turn : {d : Dispatched} (heard : Option (List Datagram)) → (stop_behind d ≡ Some stop.Link → ⊥)
      → link_new ≡ record link_old { turns = next_count link_old.turns; received = heard } → Steps d
  takes_turn heard other is = rw is (record {
    path = (refl, refl);
    most = omega arith;
    turns = λ none. refl;
    calm = λ none. refl;
    failed = λ link. absurd (other link);
  })

  steps_on : (d : Dispatched) → Told d → Steps d
  steps_on dispatched.Pushed t = takes_turn _ (λ is. cc is) t.made.is
  steps_on dispatched.Full t = takes_turn _ (λ is. cc is) t.made.is
  steps_on dispatched.Quiet t = takes_turn link_old.received (λ is. cc is) t.0
  steps_on dispatched.Clock t = takes_turn _ (λ is. cc is) t.0.1
  steps_on dispatched.NoMemory t = takes_turn _ (λ is. cc is) t.0.1
  steps_on dispatched.Link t =
      let same : link_new.turns ≡ link_old.turns = cc (t.0.rest) in
      record {
        path = (cc (t.0.rest), cc (t.0.rest));
        most = omega arith;
        turns = λ none. cc none;
        calm = λ none. cc none;
        failed = λ is. rose_since 0 link_old.faults link_new.faults (omega arith) t.0.rose;
      }

  clock_on : (d : Dispatched) → Told d → stop_behind d ≡ Some stop.Clock → Rose clock_old clock_new
  clock_on dispatched.Clock t is = t.1
  clock_on _ t is = absurd (cc is)

  quiet_on : (d : Dispatched) → Told d → was_quiet d ≡ true
      → link_new ≡ record link_old { turns = next_count link_old.turns }
  quiet_on dispatched.Quiet t is = t.0
  quiet_on _ t is = absurd (cc is)

  heard_on : (d : Dispatched) → Told d → was_quiet d ≡ false → stop_behind d ≡ None → HasHeardOne link_old link_new
  heard_on dispatched.Pushed t is none = (datagram_of t.job, t.made.is)
  heard_on dispatched.Full t is none = (datagram_of t.job, t.made.is)
  heard_on dispatched.Quiet t is none = absurd (cc is)
  heard_on _ t is none = absurd (cc none)

  none_pushed : HasHeardOne link_old link_new → hands_of new ≡ hands_of old → HasPushedOf link_old (hands_of old)
      → HasPushedOf link_new (hands_of new)
  none_pushed heard kept all =
      rw (kept, heard.1) (all_more (length (hands_of old)) 0 heard.0 link_old.received (hands_of old) all)

  pushed_on : AreOfEach inboxes (passes_of old) → (d : Dispatched) → Told d → HasPushedOf link_old (hands_of old)
      → HasPushedOf link_new (hands_of new)
  pushed_on own dispatched.Pushed t all =
      let k = session_for t.job (length inboxes) in
      let count : length (hands_of old) ≡ length inboxes = rw length-map (each_length inboxes (passes_of old) own) in
      let same : session_for t.job (length (hands_of old)) ≡ session_for t.job (length inboxes) = ap (λ n. session_for t.job n) count in
      rw (t.made.is, t.pushed, length-set)
      (all_set (length (hands_of old)) 0 t.job link_old.received (hands_of old) k (omega (arith, same)) all)
  pushed_on own dispatched.Full t all = none_pushed (datagram_of t.job, t.made.is) t.kept all
  pushed_on own dispatched.Quiet t all = rw (t.0, t.1.0) all
  pushed_on own dispatched.Link t all = rw (t.0.rest, t.1.0) all
  pushed_on own dispatched.Clock t all = none_pushed t.0 t.2.0 all
  pushed_on own dispatched.NoMemory t all = none_pushed t.0 t.1.0 all

-- ---- a reception

module _ {L : Type 0} (tells : paths.Ghosts L) (inboxes : List Inbox) (old new : Reception L) (d : Dispatched) (clock clock' : ℕ)
    (told : TellsOf inboxes old.dispatcher new.dispatcher (link_of tells old) (link_of tells new) clock clock' d)
    (stops : new.stop ≡ stop_behind d) where
  steps : Steps inboxes old.dispatcher new.dispatcher (link_of tells old) (link_of tells new) clock clock' d
  steps = steps_on inboxes old.dispatcher new.dispatcher (link_of tells old) (link_of tells new) clock clock' d told

  pub dispatched_on : AreOfEach inboxes (passes_of old.dispatcher) → (at : Addr) → HasDispatched tells at old → HasDispatched tells at new
  dispatched_on own at h = record {
    pushed = pushed_on inboxes old.dispatcher new.dispatcher (link_of tells old) (link_of tells new) clock clock' own d told h.pushed;
    address = steps.path.0 ∙ h.address;
    unsent = rw steps.path.1 h.unsent;
    cause = λ is. steps.failed (sym stops ∙ is);
  }

  pub turn_taken : (is_quiet : Bool) → is_quiet ≡ was_quiet d → TakesTurn tells is_quiet old new
  turn_taken is_quiet tells_quiet = record {
    turns = λ none. steps.turns (sym stops ∙ none);
    most = steps.most;
    quiet = λ is. quiet_on inboxes old.dispatcher new.dispatcher (link_of tells old) (link_of tells new) clock clock' d told
        (sym tells_quiet ∙ is);
    heard = λ is none. heard_on inboxes old.dispatcher new.dispatcher (link_of tells old) (link_of tells new) clock clock' d told
        (sym tells_quiet ∙ is) (sym stops ∙ none);
    calm = λ none. steps.calm (sym stops ∙ none);
  }

  pub clock_told : (d ≢ dispatched.Clock → clock' ≡ clock) → TellsOfClock clock clock' new.stop
  clock_told stood = (
    λ is. clock_on inboxes old.dispatcher new.dispatcher (link_of tells old) (link_of tells new) clock clock' d told
        (sym stops ∙ is),
    λ other. stood (λ is. other (stops ∙ ap (λ (x : Dispatched). stop_behind x) is)),
  )

-- What is told of the clock, over several steps.

-- nothing stopped the reception, so the clock didn't
pub never_by_clock : (stops : Option Stop) → stops ≡ None → stops ≢ Some stop.Clock
never_by_clock stops none is = cc (sym none ∙ is)

-- its count stood before the last of them
pub clock_then : (stops : Option Stop) (a b c : ℕ) → b ≡ a → TellsOfClock b c stops → TellsOfClock a c stops
clock_then stops a b c same tells = rw (← same) tells

-- it stood in all of them
pub clock_stands : (stops : Option Stop) (a b c : ℕ) → stops ≡ None → b ≡ a → TellsOfClock b c stops → c ≡ a
clock_stands stops a b c none same tells = tells.1 (never_by_clock stops none) ∙ same

pub clock_still : (stops : Option Stop) (a b : ℕ) → stops ≡ None → b ≡ a → TellsOfClock a b stops
clock_still stops a b none same = (λ is. absurd (never_by_clock stops none is), λ other. same)

-- one turn less is left of those that are counted
pub counts_on : {L : Type 0} (tells : paths.Ghosts L) (n : ℕ) (old new : Reception L) → CountsTurns tells n old → old.stop ≡ None → 0 < old.left
    → new.left ≡ old.left - 1 → new.is_over ≡ old.is_over
    → (new.stop ≡ None → turns_of tells new ≡ next_count (turns_of tells old))
    → turns_of tells new ≤ turns_of tells old + 1 → CountsTurns tells n new
counts_on tells n old new c runs some left over turned at_most = record {
  few = c.few;
  most = let a = c.most in omega (arith, a, at_most, some, left);
  turns = λ none. let a = c.turns runs in let b = turned none in let few = c.few in omega (arith, a, b, few, some, left);
  over = λ is. let z = c.over (sym over ∙ is) in absurd (omega (arith, z, some));
}

module _ {L : Type 0} (tells : paths.Ghosts L) where
  -- how many turns are left, and whether it is over, don't matter to what was done
  pub dispatched_with : (at : Addr) (r : Reception L) (left : ℕ) (is_over : Bool) → HasDispatched tells at r
      → HasDispatched tells at (record r { left = left; is_over = is_over })
  dispatched_with at r left is_over h = record { pushed = h.pushed; address = h.address; unsent = h.unsent; cause = h.cause }

  -- it is over once no turn is left
  pub counts_over : (n : ℕ) (r : Reception L) (is_over : Bool) → (is_over ≡ true → r.left ≡ 0) → CountsTurns tells n r
      → CountsTurns tells n (record r { is_over = is_over })
  counts_over n r is_over over c = record { few = c.few; most = c.most; turns = c.turns; over = over }
