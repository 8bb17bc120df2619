-- What each who serves has done at first: nothing. Passes are numbered in their order, and taken from the end.
use Rattle.std.proofs.Common.{◌≡◌, ◌≢◌, ℕ, ◌-◌, List, [], ◌∷◌, ◌++◌, length, refl, sym, ap, ◌∙◌, Bool, false, Option, None, Some, arith}
use Rattle.session_run.proofs.Names.{Addr, All, All-map, All-nil, All-same, AreDesksOf, AreNumbered, AreOfEach, began_at, CountsTurns, Desk, Facts, hand_at, hands_of, HasWorked, HaveServed, idle, IfSome_then, IfTurns, Inbox, InboxPass, IsAnswerTo, IsFew, IsFresh, IsNewAt, IsOf, IsReady, IsSeated, IsSince, IsTeamOf, Knowledge, known_among, known_at, known_by, length-map, link_at, link_of, links_of, map, newcomer, newcomers, Pass, passes_among, Reception, slice_index_or, Team, TurnCell, Until, Writer}
use Rattle.std.proofs.lemmas.Simd.{map-map}
use Rattle.turn_cell.specs.Cell.{knowledge}
use Rattle.cdr_shelf.specs.declared.shelf.Shelf as shelves
use Rattle.job_inbox.specs.Inbox as inboxes
use Rattle.net_link.specs.declared.link.Link as paths
use Rattle.node_session.specs.Writing as writing
use Rattle.turn_cell.specs.Cell as cells
use Rattle.session_run.specs.declared.running.Seats.{Seats}
use Rattle.session_run.specs.declared.until.Until.TheVariants as until
use Rattle.session_run.proofs.ReceptionLemmas.{all_idle, each_length}

abbrev number : Pass → ℕ
number pass = (knowledge pass).number

abbrev pub numbers : List Pass → List ℕ
numbers passes = map (λ pass. (knowledge pass).number) passes

never_none : (xs : List Pass) (x : Pass) → numbers (xs ++ x ∷ []) ≢ []
never_none [] x is = cc is
never_none (y ∷ ys) x is = cc is

never_empty : (ns : List ℕ) (n : ℕ) → ns ++ n ∷ [] ≢ []
never_empty [] n is = cc is
never_empty (m ∷ ns) n is = cc is

-- without the last
shorter : (ns : List ℕ) (n : ℕ) (xs : List Pass) (x : Pass) → numbers (xs ++ x ∷ []) ≡ ns ++ n ∷ [] → numbers xs ≡ ns
shorter [] n [] x is = refl
shorter [] n (y ∷ ys) x is = absurd (never_none ys x (cc))
shorter (m ∷ ns) n [] x is = absurd (never_empty ns n (cc))
shorter (m ∷ ns) n (y ∷ ys) x is = cc (shorter ns n ys x (cc))

pub without_last : (ns : List ℕ) (n : ℕ) (all xs : List Pass) (x : Pass) → all ≡ xs ++ x ∷ [] → numbers all ≡ ns ++ n ∷ [] → numbers xs ≡ ns
without_last ns n all xs x is are = shorter ns n xs x (sym (ap (λ (ps : List Pass). numbers ps) is) ∙ are)

-- the last of two, and of three
pub last_of_two : (xs : List Pass) (a b : ℕ) (d : Pass) → numbers xs ≡ a ∷ b ∷ [] → number (slice_index_or xs (length xs - 1) d) ≡ b
last_of_two (x ∷ y ∷ []) a b d is = cc
last_of_two _ a b d is = cc

pub last_of_three : (xs : List Pass) (a b c : ℕ) (d : Pass) → numbers xs ≡ a ∷ b ∷ c ∷ [] → number (slice_index_or xs (length xs - 1) d) ≡ c
last_of_three (x ∷ y ∷ z ∷ []) a b c d is = cc
last_of_three _ a b c d is = cc

module _ {L : Type 0} (tells : paths.Ghosts L) (told : Bool) (at : Addr) (start : Facts) where
  -- a session that has taken no job
  pub desk_begun : (n : ℕ) (desk : Desk L) → known_at desk ≡ newcomer n start → hand_at desk ≡ idle → IsNewAt at (link_at tells desk)
      → IsFresh desk → HasWorked tells told at (began_at start n) desk
  desk_begun n desk knows hand new fresh = record {
    number = rw knows;
    size = rw knows;
    faults = rw knows;
    since = rw knows (All-nil (IsSince start.faults));
    none_put = rw hand;
    last = rw hand fresh.unused;
    answers = λ y. rw knows tt;
    replies = λ y. IfSome_then (link_at tells desk).sent new.sent (λ list is. rw is tt);
    link = record { address = new.at; turns = new.turns; received = new.received };
    cause = λ is. absurd (cc (fresh.runs, is));
    calm = λ none. new.faults;
    no_clock = λ is. cc (fresh.runs, is);
  }

module _ {F L : Type 0} {files : shelves.Ghosts F} (tells : paths.Ghosts L) (told : Bool) (at : Addr) (start : Facts)
    {passes : List Pass} {links : List L} {pops : List InboxPass} {writer : Writer F files} {seats : Seats F L files}
    (seated : IsSeated passes links pops writer seats) where
  abbrev team : Team F L files
  team = seats.team

  abbrev IsNew : L → Type 0
  IsNew link = IsNewAt at (tells.state link)

  module _ (knows : cells.known_by passes ≡ newcomers start 5) (hands : inboxes.known_by pops ≡ idle ∷ idle ∷ idle ∷ idle ∷ [])
      (new : All IsNew links) (none_pushed : hands_of seats.reception.dispatcher ≡ idle ∷ idle ∷ idle ∷ idle ∷ [])
      (runs : seats.reception.stop ≡ None) (ready : writing.IsWriterOf told start.firm writer) where
    known : known_among team ≡ newcomer 0 start ∷ newcomer 1 start ∷ newcomer 2 start ∷ newcomer 3 start ∷ newcomer 4 start ∷ []
    known = ap (λ (l : List (Option Pass)). map known_by l) seated.has ∙ map-map known_by Some passes ∙ knows

    taken : hand_at team.first.0 ∷ hand_at team.first.1 ∷ hand_at team.second.0 ∷ hand_at team.second.1 ∷ [] ≡ idle ∷ idle ∷ idle ∷ idle ∷ []
    taken = ap inboxes.known_by seated.takes ∙ hands

    all_new : All IsNew (links_of seats.reception team)
    all_new = All-same IsNew (links_of seats.reception team) links seated.sends new

    receiver : IsNewAt at (link_of tells seats.reception)
    receiver = all_new 0 seats.reception.link (omega arith)

    knows_firm : writing.knowledge_of team.actor ≡ newcomer 4 start
    knows_firm = cc known

    pub is_ready : IsReady told team.actor
    is_ready = rw (seated.writes, knows_firm) ready

    pub all_begun : HaveServed files tells told at start writer seats.reception team
    all_begun = record {
      dispatched = record {
        pushed = rw none_pushed (all_idle 4 0 (link_of tells seats.reception).received 4);
        address = receiver.at;
        unsent = receiver.sent;
        cause = λ is. absurd (cc (runs, is));
      };
      one = desk_begun tells told at start 0 team.first.0 (cc known) (cc taken)
          (all_new 1 team.first.0.link (omega arith)) (seated.fresh 0 team.first.0 (omega arith));
      two = desk_begun tells told at start 1 team.first.1 (cc known) (cc taken)
          (all_new 2 team.first.1.link (omega arith)) (seated.fresh 1 team.first.1 (omega arith));
      three = desk_begun tells told at start 2 team.second.0 (cc known) (cc taken)
          (all_new 3 team.second.0.link (omega arith)) (seated.fresh 2 team.second.0 (omega arith));
      four = desk_begun tells told at start 3 team.second.1 (cc known) (cc taken)
          (all_new 4 team.second.1.link (omega arith)) (seated.fresh 3 team.second.1 (omega arith));
      written = rw (← seated.writes) (record {
        number = rw knows_firm;
        size = rw knows_firm;
        adds = rw knows_firm (All-nil (IsAnswerTo start.size 4 []));
        keeps = record {
          settings = refl;
          later = omega arith;
          taken = is_ready;
          files = λ y shown all begins holds. holds;
        };
      });
    }

-- each has a pass of the cell
module _ {V : Type 0} (cell : TurnCell V) where
  desks_of : {L : Type 0} (list : List Inbox) (a b c d : Desk L) → AreOfEach list (a.pass ∷ b.pass ∷ c.pass ∷ d.pass ∷ [])
      → IsOf cell a.worker.pass → IsOf cell b.worker.pass → IsOf cell c.worker.pass → IsOf cell d.worker.pass → AreDesksOf cell list (a, b) (c, d)
  desks_of (i ∷ j ∷ k ∷ l ∷ []) a b c d pops wa wb wc wd = (
    (record { worker = wa; pass = pops.0 }, record { worker = wb; pass = pops.1.0 }),
    (record { worker = wc; pass = pops.1.1.0 }, record { worker = wd; pass = pops.1.1.1.0 }),
  )
  desks_of list a b c d pops wa wb wc wd =
      absurd (let n = each_length list (a.pass ∷ b.pass ∷ c.pass ∷ d.pass ∷ []) pops in omega (arith, n))

  pub team_of : {F L : Type 0} {files : shelves.Ghosts F} (list : List Inbox)
      (passes : List Pass) {links : List L} {pops : List InboxPass}
      {writer : Writer F files} {seats : Seats F L files} → IsSeated passes links pops writer seats
      → cells.ArePassesOf cell passes
      → AreOfEach list pops → IsTeamOf cell list seats.team
  team_of list passes {seats = seats} seated own of_each =
      let team = seats.team in
      let all = All-same (IsOf cell) (passes_among team) (map Some passes) seated.has
      (All-map (IsOf cell) Some passes own) in
      record {
        desks = desks_of list team.first.0 team.first.1 team.second.0 team.second.1 (rw seated.takes of_each)
            (all 0 None (omega arith)) (all 1 None (omega arith)) (all 2 None (omega arith)) (all 3 None (omega arith));
        actor = all 4 None (omega arith);
      }

-- new passes are numbered in their order
pub numbered : (start : Facts) (passes : List Pass) → cells.known_by passes ≡ newcomers start 5 → AreNumbered passes
numbered start passes knows = sym (map-map (λ (k : Knowledge). k.number) cells.knowledge passes)
    ∙ ap (λ (ks : List Knowledge). map (λ (k : Knowledge). k.number) ks) knows

pub five_of : (start : Facts) (passes : List Pass) → cells.known_by passes ≡ newcomers start 5 → length passes ≡ 5
five_of start passes knows = sym (length-map passes cells.knowledge) ∙ ap (λ (ks : List Knowledge). length ks) knows

-- the turns of a reception that began, and served until it was to end
pub counted : {L : Type 0} (tells : paths.Ghosts L) {at : Addr} (r r' : Reception L) (ends : Until) → IsFew ends
    → IfTurns ends (λ n. r.left ≡ n)
    → r.is_over ≡ false → IsNewAt at (link_of tells r) → IfTurns ends (λ n. CountsTurns tells n r → CountsTurns tells n r')
    → IfTurns ends (λ n. CountsTurns tells n r')
counted tells r r' (until.Turns n) few left over new counts = counts (record {
  few = few;
  most = omega (arith, new.turns, left);
  turns = λ none. omega (arith, new.turns, left);
  over = λ is. absurd (cc (over, is));
})
counted tells r r' (until.QuietAfter count all) few left over new counts = tt

-- who receives has the first of the links
pub receiver_new : {F L : Type 0} {files : shelves.Ghosts F}
    (tells : paths.Ghosts L) {at : Addr} {passes : List Pass} {links : List L} {pops : List InboxPass}
    {writer : Writer F files} {seats : Seats F L files} → IsSeated passes links pops writer seats
    → All (λ link. IsNewAt at (tells.state link)) links
    → IsNewAt at (link_of tells seats.reception)
receiver_new tells {at = at} {seats = seats} seated new =
    All-same (λ link. IsNewAt at (tells.state link))
    (links_of seats.reception seats.team) _ seated.sends new 0 seats.reception.link (omega arith)
