-- What becomes of the passes to inboxes when one of them pushes.
use Rattle.std.proofs.Common.{◌≡◌, ℕ, zero, suc, ◌<◌, List, [], ◌∷◌, length, refl, sym, ap, subst, ◌∙◌, arith}
use Rattle.node_session.proofs.Names.{Addr, AreOfEach, ComesOf, get_or-map, hands_of, HasReceived, InboxPass, insert, IsIdle, IsNextJob, Job, LinkState, remove, serial_of, session_for, set-get_or, slice_index_or, slice_set, TellsOf, WasFull, with_job, with_one}
use Rattle.crossbeam_queue.specs.Fifo.{Held}
use Rattle.gw_base.specs.Faults.{next_count}
use Rattle.job_inbox.specs.Hands.{Shows}
use Rattle.job_inbox.specs.Rule.{idle, with_put}
use Rattle.job_inbox.specs.Inbox.{IsPassOf, capacity_of, knowledge, known_by, made_by}
use Rattle.job_inbox.specs.declared.hand.Hand.{Hand}
use Rattle.job_inbox.specs.declared.inbox.Inbox.{Inbox}
use Rattle.node_session.specs.declared.dispatched.Dispatched.{Dispatched}
use Rattle.node_session.specs.declared.dispatched.Dispatched.TheVariants as dispatched
use Rattle.node_session.specs.declared.dispatcher.Dispatcher.{Dispatcher}

-- as many passes as inboxes
pub as_many : (inboxes : List Inbox) (passes : List InboxPass) → AreOfEach inboxes passes → length passes ≡ length inboxes
as_many [] [] own = refl
as_many (b ∷ bs) (p ∷ ps) own = ap (λ n. suc n) (as_many bs ps own.1)
as_many _ _ own = absurd own

pub pass_at : (inboxes : List Inbox) (passes : List InboxPass) (k : ℕ) (inbox : Inbox) (pass : InboxPass) → AreOfEach inboxes passes
    → k < length inboxes → inbox ≡ slice_index_or inboxes k inbox → pass ≡ slice_index_or passes k pass → IsPassOf inbox pass
pass_at [] passes k inbox pass own lt is also = absurd (omega (arith, lt))
pass_at (b ∷ bs) [] k inbox pass own lt is also = absurd own
pass_at (b ∷ bs) (p ∷ ps) zero inbox pass own lt is also = subst (λ x. IsPassOf x pass) (sym is) (subst (λ x. IsPassOf b x) (sym also) own.0)
pass_at (b ∷ bs) (p ∷ ps) (suc k) inbox pass own lt is also = pass_at bs ps k inbox pass own.1 (omega (arith, lt)) is also

pub still_own : (inboxes : List Inbox) (passes : List InboxPass) (k : ℕ) (inbox : Inbox) (new : InboxPass) → AreOfEach inboxes passes
    → k < length inboxes → inbox ≡ slice_index_or inboxes k inbox → IsPassOf inbox new → AreOfEach inboxes (insert (remove passes k) k new)
still_own [] passes k inbox new own lt is has = absurd (omega (arith, lt))
still_own (b ∷ bs) [] k inbox new own lt is has = absurd own
still_own (b ∷ bs) (p ∷ ps) zero inbox new own lt is has = (subst (λ x. IsPassOf x new) is has, own.1)
still_own (b ∷ bs) (p ∷ ps) (suc k) inbox new own lt is has = (own.0, still_own bs ps k inbox new own.1 (omega (arith, lt)) is has)

-- what the passes know with a new one in its place
replaced : (passes : List InboxPass) (k : ℕ) (new : InboxPass) → k < length passes →
    known_by (insert (remove passes k) k new) ≡ slice_set (known_by passes) k (knowledge new)
replaced [] k new lt = absurd (omega (arith, lt))
replaced (p ∷ ps) zero new lt = refl
replaced (p ∷ ps) (suc k) new lt = ap (λ (hs : List Hand). knowledge p ∷ hs) (replaced ps k new (omega (arith, lt)))

module _ (inboxes : List Inbox) (passes : List InboxPass) (k : ℕ) (pass new : InboxPass) (job : Job) (now : List InboxPass) (own : AreOfEach inboxes passes)
    (lt : k < length inboxes) (is : pass ≡ slice_index_or passes k pass) (same : now ≡ insert (remove passes k) k new) where
  within : k < length passes
  within = omega (arith, lt, as_many inboxes passes own)

  now_is : known_by now ≡ slice_set (known_by passes) k (knowledge new)
  now_is = ap known_by same ∙ replaced passes k new within

  known_is : knowledge pass ≡ slice_index_or (known_by passes) k idle
  known_is = ap knowledge is ∙ sym (get_or-map knowledge passes k pass idle within)

  pub pushed : knowledge new ≡ with_put job (knowledge pass) → known_by now ≡ with_job k job (known_by passes)
  pushed has = now_is ∙ ap (slice_set (known_by passes) k) (has ∙ ap (with_put job) known_is)

  pub kept : (back : Job) → (back ≡ job) × (knowledge new ≡ knowledge pass) → known_by now ≡ known_by passes
  kept back has = now_is ∙ ap (slice_set (known_by passes) k) (has.1 ∙ known_is) ∙ set-get_or (known_by passes) k idle

pub full_at : (inboxes : List Inbox) (passes : List InboxPass) (k : ℕ) (inbox : Inbox) (pass : InboxPass) → AreOfEach inboxes passes
    → k < length inboxes → inbox ≡ slice_index_or inboxes k inbox → pass ≡ slice_index_or passes k pass
    → Held (capacity_of inbox) (Shows (made_by inbox) (knowledge pass)) → WasFull inboxes k (known_by passes)
full_at [] passes k inbox pass own lt is also full = absurd (omega (arith, lt))
full_at (b ∷ bs) [] k inbox pass own lt is also full = absurd own
full_at (b ∷ bs) (p ∷ ps) zero inbox pass own lt is also full =
    subst (λ x. Held (capacity_of x) (Shows (made_by x) (knowledge p))) is
    (subst (λ x. Held (capacity_of inbox) (Shows (made_by inbox) (knowledge x))) also full)
full_at (b ∷ bs) (p ∷ ps) (suc k) inbox pass own lt is also full = full_at bs ps k inbox pass own.1 (omega (arith, lt)) is also full

-- What a step tells of a datagram that was received, by what came of it: nothing but the buffer was changed before.
module _ (inboxes : List Inbox) (old between new : Dispatcher) (link_old link_new : LinkState) (clock_old clock_new : ℕ) (from : Addr) (octets heard : List ℕ)
    (hands : hands_of between ≡ hands_of old) (serial : serial_of between ≡ serial_of old)
    (link : link_new ≡ record link_old { turns = next_count link_old.turns; received = with_one (record { peer = from; octets = heard }) link_old.received }) where
  abbrev IsOne : Job → Type 0
  IsOne job = (job.from ≡ from) × (job.octets ≡ octets)

  has_received : octets ≡ heard → (job : Job) → IsOne job → HasReceived link_old job link_new
  has_received same job is = link ∙ (λ i. record link_old {
    turns = next_count link_old.turns;
    received = with_one (record { peer = sym is.0 i; octets = sym (is.1 ∙ same) i }) link_old.received;
  })

  next_job : octets ≡ heard → (job : Job) → IsNextJob inboxes IsOne between new job → IsNextJob inboxes (λ j. HasReceived link_old j link_new) old new job
  next_job same job made = record { is = has_received same job made.is; next = made.next ∙ ap (λ (n : ℕ). next_count n) serial; counted = made.counted }

  still_idle : IsIdle between new → IsIdle old new
  still_idle idle = (idle.0 ∙ hands, idle.1 ∙ serial)

  pub told_of : (d : Dispatched) → ComesOf inboxes IsOne between new clock_old clock_new d → octets ≡ heard → TellsOf inboxes old new link_old link_new clock_old clock_new d
  told_of dispatched.Pushed comes same = record {
    job = comes.job;
    made = next_job same comes.job comes.made;
    pushed = comes.pushed ∙ ap (λ (hs : List Hand). with_job (session_for comes.job (length inboxes)) comes.job hs) hands;
  }
  told_of dispatched.Full comes same = record {
    job = comes.job;
    made = next_job same comes.job comes.made;
    kept = comes.kept ∙ hands;
    full = subst (λ (hs : List Hand). WasFull inboxes (session_for comes.job (length inboxes)) hs) hands comes.full;
  }
  told_of dispatched.Clock comes same = ((record { peer = from; octets = heard }, link), comes.0, still_idle comes.1)
  told_of dispatched.NoMemory comes same = ((record { peer = from; octets = heard }, link), still_idle comes)
  told_of _ comes same = absurd comes
