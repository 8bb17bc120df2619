-- What is sent for the messages of a stream where no call of the device fails.
use Rattle.std.proofs.Common.{◌≡◌, ℕ, Bool, true, false, if◌then◌else◌, List, [], ◌∷◌, ◌++◌, map, Option, Some, None, refl, sym, ap, subst, ◌∙◌, append_assoc, append-nil, arith}
use Rattle.cgf_service.proofs.Names.{act_decided, Addr, after_all, after_commit, after_message, behind_one, BookValue, committed, counted, decided, decided_at, decided_by_fault, entry_by, faulted, Fortune, given_at, history_of, HistoryAct, HistoryEntry, is_batch_full, message_of, no_caller, octets_said, opened, prepared_of, readied, recorded_if, Refused, reopened, Reopening, replies, room_for, sent_for, sent_for_all, Tried, tried, tried_with, with_act}
use Rattle.gw_base.specs.declared.history.HistoryAct.TheVariants.{Start}

abbrev pub Entries : Type 0
Entries = List HistoryEntry

-- a book that isn't broken, and of which no commit failed
abbrev pub running : Entries → Entries → BookValue
running firm rest = record { firm = firm; rest = rest; cuts = 0; is_broken = false }

-- it has this history
pub record Runs (v : BookValue) (h : Entries) : Type 0 where
  pub firm : Entries
  pub rest : Entries
  pub is : v ≡ running firm rest
  pub history : firm ++ rest ≡ h

-- what holds of each such book holds of this one
moved : (P : BookValue → Entries → Type 0) → ((firm rest : Entries) → P (running firm rest) (firm ++ rest))
    → (v : BookValue) (h : Entries) → Runs v h → P v h
moved P each v h r =
    subst (λ (u : BookValue). P u h) (sym r.is) (subst (λ (l : Entries). P (running r.firm r.rest) l) r.history (each r.firm r.rest))

-- a count that went up isn't 0
counted_up : (n : ℕ) → counted 1 n ≡ 0 → ⊥
counted_up n e = omega (arith, e)

-- Where no commit has failed after a call, none had before.

tried_stood : (f : Fortune) (v : BookValue) (b : Bool) → (if b then faulted v else committed v).cuts ≡ 0 → v.cuts ≡ 0
tried_stood f v true e = absurd (counted_up v.cuts e)
tried_stood f v false e = e

reopened_stood : (v : BookValue) (r : Reopening) → (reopened v r).cuts ≡ 0 → v.cuts ≡ 0
reopened_stood v Refused e = absurd (counted_up v.cuts e)
reopened_stood v _ e = e

rest_stood : (f : Fortune) (v : BookValue) (rest : Entries) → (tried_with f v rest).cuts ≡ 0 → v.cuts ≡ 0
rest_stood f v [] e = e
rest_stood f v (x ∷ rest) e = tried_stood f v f.fails e

commit_stood : (f : Fortune) (v : BookValue) → (after_commit f v).cuts ≡ 0 → v.cuts ≡ 0
commit_stood f v e = by v.is_broken e
  where
    by : (b : Bool) → (if b then reopened v f.reopening else tried_with f v v.rest).cuts ≡ 0 → v.cuts ≡ 0
    by true e = reopened_stood v f.reopening e
    by false e = rest_stood f v v.rest e

ready_stood : (f : Fortune) (v : BookValue) → (readied f v).cuts ≡ 0 → v.cuts ≡ 0
ready_stood f v e = by v.is_broken (is_batch_full v) e
  where
    by : (b full : Bool) → (if b then reopened v f.reopening else (if full then tried f v else v)).cuts ≡ 0 → v.cuts ≡ 0
    by true full e = reopened_stood v f.reopening e
    by false true e = tried_stood f v f.fails e
    by false false e = e

recorded_cuts : (v : BookValue) (now : ℕ) (act : Option HistoryAct) → (recorded_if v now no_caller act).cuts ≡ v.cuts
recorded_cuts v now None = refl
recorded_cuts v now (Some act) = refl

-- The calls, where none fails.

commit_runs : (f : Fortune) (firm rest : Entries) → (after_commit f (running firm rest)).cuts ≡ 0
    → Runs (after_commit f (running firm rest)) (firm ++ rest)
commit_runs f firm [] e = record { firm = firm; rest = []; is = refl; history = refl }
commit_runs f firm (x ∷ rest) e = by f.fails e
  where
    by : (b : Bool) → (if b then faulted (running firm (x ∷ rest)) else committed (running firm (x ∷ rest))).cuts ≡ 0
        → Runs (if b then faulted (running firm (x ∷ rest)) else committed (running firm (x ∷ rest))) (firm ++ x ∷ rest)
    by true e = absurd (counted_up 0 e)
    by false e = record { firm = firm ++ x ∷ rest; rest = []; is = refl; history = append-nil (firm ++ x ∷ rest) }

-- a book whose batch is full, or not, before it commits
abbrev made_ready : Entries → Entries → Bool → Bool → BookValue
made_ready firm rest full fails =
    if full then (if fails then faulted (running firm rest) else committed (running firm rest)) else running firm rest

ready_by : (firm rest : Entries) (full fails : Bool) → (made_ready firm rest full fails).cuts ≡ 0
    → Runs (made_ready firm rest full fails) (firm ++ rest)
ready_by firm rest true true e = absurd (counted_up 0 e)
ready_by firm rest true false e = record { firm = firm ++ rest; rest = []; is = refl; history = append-nil (firm ++ rest) }
ready_by firm rest false fails e = record { firm = firm; rest = rest; is = refl; history = refl }

ready_runs : (f : Fortune) (firm rest : Entries) → (readied f (running firm rest)).cuts ≡ 0
    → Runs (readied f (running firm rest)) (firm ++ rest)
ready_runs f firm rest e = ready_by firm rest (is_batch_full (running firm rest)) f.fails e

record_runs : (now : ℕ) (firm rest : Entries) (act : Option HistoryAct)
    → Runs (recorded_if (running firm rest) now no_caller act) (with_act (firm ++ rest) now no_caller act)
record_runs now firm rest None = record { firm = firm; rest = rest; is = refl; history = refl }
record_runs now firm rest (Some act) = record {
  firm = firm;
  rest = rest ++ entry_by (firm ++ rest) now no_caller act ∷ [];
  is = refl;
  history = sym (append_assoc firm rest (entry_by (firm ++ rest) now no_caller act ∷ []));
}

abbrev begun : Entries → Bool → BookValue
begun start room = if room then running start (entry_by (start ++ []) 0 no_caller Start ∷ []) else running start []

begun_by : (start : Entries) (room : Bool) → Runs (begun start room) (history_of (begun start room))
begun_by start true = record { firm = start; rest = entry_by (start ++ []) 0 no_caller Start ∷ []; is = refl; history = refl }
begun_by start false = record { firm = start; rest = []; is = refl; history = refl }

-- a book that was just opened
pub opened_runs : (size : ℕ) (start : Entries) → Runs (opened size start) (history_of (opened size start))
opened_runs size start = begun_by start (room_for (start ++ []) size Start)

module _ (size : ℕ) (from : Addr) where
  message_stood : (v : BookValue) (m : Tried) → (after_message size from v m).cuts ≡ 0 → (readied m.taking v).cuts ≡ 0
  message_stood v m e =
      let ready = readied m.taking v in
      let act = act_decided (decided (given_at ready from (prepared_of m.octets) size)) in
      sym (recorded_cuts ready m.now act) ∙ commit_stood m.committing (recorded_if ready m.now no_caller act) e

  all_stood : (tried : List Tried) (v : BookValue) → (after_all size from v tried).cuts ≡ 0 → v.cuts ≡ 0
  all_stood [] v e = e
  all_stood (m ∷ tried) v e = ready_stood m.taking v (message_stood v m (all_stood tried (after_message size from v m) e))

  module _ (m : Tried) (v : BookValue) (h : Entries) (runs : Runs v h) (stood : (after_message size from v m).cuts ≡ 0) where
    abbrev ready : BookValue
    ready = readied m.taking v

    is_ready : Runs ready h
    is_ready = moved (λ u l. (readied m.taking u).cuts ≡ 0 → Runs (readied m.taking u) l) (ready_runs m.taking) v h runs (message_stood v m stood)

    abbrev left : BookValue → BookValue
    left r = recorded_if r m.now no_caller (act_decided (decided (given_at r from (prepared_of m.octets) size)))

    is_left : Runs (left ready) (behind_one size from h (message_of m))
    is_left = moved (λ r l. Runs (left r) (behind_one size from l (message_of m)))
        (λ firm rest. record_runs m.now firm rest (act_decided (decided_at (firm ++ rest) size from m.octets))) ready h is_ready

    pub runs_on : Runs (after_message size from v m) (behind_one size from h (message_of m))
    runs_on = moved (λ w l. (after_commit m.committing w).cuts ≡ 0 → Runs (after_commit m.committing w) l) (commit_runs m.committing)
        (left ready) (behind_one size from h (message_of m)) is_left stood

    is_decided : decided (given_at ready from (prepared_of m.octets) size) ≡ decided_at h size from m.octets
    is_decided = moved (λ r l. decided (given_at r from (prepared_of m.octets) size) ≡ decided_at l size from m.octets) (λ firm rest. refl)
        ready h is_ready

    pub sends : sent_for size from v m ≡ octets_said (decided_at h size from m.octets)
    sends = ap (λ (b : Bool). octets_said (if b then decided_by_fault m.octets else decided (given_at ready from (prepared_of m.octets) size)))
        (ap (λ (u : BookValue). u.is_broken) runs_on.is) ∙ ap octets_said is_decided

  -- where no commit has failed in the end, what is sent are the replies at the history that each message leaves
  pub plain_replies : (tried : List Tried) (v : BookValue) (h : Entries) → Runs v h → (after_all size from v tried).cuts ≡ 0
      → sent_for_all size from v tried ≡ replies size from h (map message_of tried)
  plain_replies [] v h runs e = refl
  plain_replies (m ∷ tried) v h runs e =
      let stood = all_stood tried (after_message size from v m) e in
      λ i. sends m v h runs stood i
      ++ plain_replies tried (after_message size from v m) (behind_one size from h (message_of m)) (runs_on m v h runs stood) e i
