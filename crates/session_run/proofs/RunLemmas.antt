-- What a gateway that served hands back, by what each of its parts has done.
use Rattle.std.proofs.Common.{◌≡◌, ◌⊎◌, ℕ, zero, suc, ◌≤◌, Bool, true, List, [], ◌∷◌, ◌++◌, length, Option, None, Some, refl, sym, subst, ◌∙◌, arith}
use Rattle.session_run.proofs.Names.{added_by, Addr, All, All-contains, All-contains_itself, All-nil, AnswersJob, AreAllSettled, ArePushed, AreSettled, began_at, by_session, caller_of, Contains, Datagram, datagram_of, Desk, Facts, facts_of, Follows, GoesOnUntil, Hand, hand_at, hands_of, HasFailedSince, HasWorked, HaveReplied, HaveServed, IfSome, IfSome_then, InTurn, IsAnswered, IsCalledFor, IsFor, IsHeard, IsJobOf, IsLegal, IsReply, IsReplyTo, Job, KeepsWriter, KeptTurn, Knowledge, known_among, known_at, last_among, latest_of, link_at, link_of, links_of, placed, PushedOf, Reception, RepliesTo, session_count, StaysAs, Team, TellsFailure, WhereTold, Writer}
use Rattle.area_disk.specs.Disk.{Rose}
use Rattle.cdr_shelf.specs.declared.shelf.Shelf as shelves
use Rattle.gw_base.specs.Facts.{joined}
use Rattle.net_link.specs.declared.link.Link as paths
use Rattle.node_session.specs.Writing as writing
use Rattle.turn_cell.specs.Passes.{Ended}
use Rattle.session_run.proofs.AddedLemmas.{all_in_turn, all_sessions, none_added}
use Rattle.session_run.proofs.DeskLemmas.{begins_then, says_later}
use Rattle.session_run.proofs.InTurnLemmas.{in_turn_all, in_turn_through, taken_in_turn}
use Rattle.session_run.proofs.TakingLemmas.{latest_of_both}
use Rattle.session_run.proofs.RepliedLemmas.{all_replied}
use Rattle.session_run.proofs.TeamLemmas.{all_five, if_some}
use Rattle.session_run.proofs.WriterLemmas.{Stays, writer_on}

abbrev IsHeardJob : Option (List Datagram) → Job → Type 0
IsHeardJob heard job = IsHeard heard (datagram_of job)

module _ {F L : Type 0} {files : shelves.Ghosts F} {tells : paths.Ghosts L} {told : Bool} {at : Addr}
    {start now : Facts}
    {writer : Writer F files} {reception : Reception L} {team : Team F L files}
    (served : HaveServed files tells told at start writer reception team)
    (ended : Ended told start now (known_among team)) where
  abbrev heard : Option (List Datagram)
  heard = (link_of tells reception).received

  -- the jobs that a session took
  abbrev jobs : ℕ → List Job
  jobs zero = (hand_at team.first.0).taken
  jobs (suc zero) = (hand_at team.first.1).taken
  jobs (suc (suc zero)) = (hand_at team.second.0).taken
  jobs (suc (suc (suc zero))) = (hand_at team.second.1).taken
  jobs (suc (suc (suc (suc n)))) = []

  -- the jobs of a session are datagrams for it that were heard, in turn
  abbrev AreHeard : ℕ → List Job → Type 0
  AreHeard session js = IfSome heard (λ list. InTurn (IsJobOf session) list js)

  taken_heard : (session : ℕ) (push : Hand) (desk : Desk L) → PushedOf session_count session heard push
      → AreSettled (push ∷ hand_at desk ∷ []) → (hand_at desk).put ≡ [] → AreHeard session (hand_at desk).taken
  taken_heard session push desk p settled none =
      IfSome_then heard p.jobs (λ list q. taken_in_turn (IsJobOf session) list push (hand_at desk) settled none q)

  all_heard : (hands : List Hand) → ArePushed (length hands) 0 heard hands → AreAllSettled hands team → (n : ℕ) → AreHeard n (jobs n)
  all_heard (a ∷ b ∷ c ∷ d ∷ []) all s zero = taken_heard 0 a team.first.0 all.0 s.0 served.one.none_put
  all_heard (a ∷ b ∷ c ∷ d ∷ []) all s (suc zero) = taken_heard 1 b team.first.1 all.1.0 s.1 served.two.none_put
  all_heard (a ∷ b ∷ c ∷ d ∷ []) all s (suc (suc zero)) = taken_heard 2 c team.second.0 all.1.1.0 s.2 served.three.none_put
  all_heard (a ∷ b ∷ c ∷ d ∷ []) all s (suc (suc (suc zero))) = taken_heard 3 d team.second.1 all.1.1.1.0 s.3 served.four.none_put
  all_heard (a ∷ b ∷ c ∷ d ∷ []) all s (suc (suc (suc (suc n)))) = if_some heard (λ list. tt)
  all_heard _ all s n = absurd s

  no_more_jobs : (session : ℕ) → session_count ≤ session → jobs session ≡ []
  no_more_jobs (suc (suc (suc (suc n)))) many = refl
  no_more_jobs _ many = absurd (omega (arith, many))

  abbrev Adds : Knowledge → Type 0
  Adds k = InTurn (AnswersJob start.size k.number) (jobs k.number) (added_by k.turns)

  module _ (settled : AreAllSettled (hands_of reception.dispatcher) team) where
    jobs_heard : (n : ℕ) → AreHeard n (jobs n)
    jobs_heard = all_heard (hands_of reception.dispatcher) served.dispatched.pushed settled

    each_heard : (n : ℕ) → All (IsHeardJob heard) (jobs n)
    each_heard n = by heard (jobs_heard n)
      where
        by : (told' : Option (List Datagram)) → IfSome told' (λ list. InTurn (IsJobOf n) list (jobs n)) → All (IsHeardJob told') (jobs n)
        by None p = λ k d lt. tt
        by (Some list) p = in_turn_all (IsJobOf n) (Contains list) (IsHeardJob (Some list))
            (λ d job has is. rw is.1 has) list (jobs n)
            (All-contains_itself list) p

    all_add : told ≡ true → All Adds (known_among team)
    all_add y = all_five Adds
        (rw served.one.number (served.one.answers y))
        (rw served.two.number (served.two.answers y))
        (rw served.three.number (served.three.answers y))
        (rw served.four.number (served.four.answers y))
        (rw (none_added (writing.knowledge_of team.actor) served.written.adds) tt)

    last_of_all : last_among team ≡ latest_of jobs
    last_of_all =
        cc (
          served.one.last,
          served.two.last,
          served.three.last,
          served.four.last,
          latest_of_both (jobs 0) (jobs 1),
          latest_of_both (jobs 2) (jobs 3),
          latest_of_both (jobs 0 ++ jobs 1) (jobs 2 ++ jobs 3),
        )

    pub run_goes_on : (last : Option ℕ) → last ≡ last_among team → WhereTold told (GoesOnUntil heard start now last)
    run_goes_on last is y =
        let owned = ended.entries y in
        let ps = placed owned.stood owned.tail in
        let in_turn : (session : ℕ) → InTurn (AnswersJob start.size session) (jobs session) (by_session session ps) =
        all_in_turn start.size jobs owned.stood owned.tail (known_among team) (all_add y) owned.numbers owned.owns in
        record {
          goes = record {
            stood = owned.stood;
            tail = owned.tail;
            whole = owned.stands.whole;
            stood_is = owned.stands.stood_is;
            firm = owned.stands.firm;
            begins = owned.stands.begins;
            first = begins_then now.firm now.list (joined now) (ended.sound.begins y) (now.torn, refl);
            answers = all_sessions (IsCalledFor start.size heard) ps
                (λ session. in_turn_all (AnswersJob start.size session) (IsHeardJob heard) (IsCalledFor start.size heard)
                (λ job p was called. record {
                  datagram = datagram_of job;
                  was_heard = was;
                  now = job.moment;
                  who = caller_of session job;
                  called = called;
                }) (jobs session) (by_session session ps) (each_heard session) (in_turn session));
          };
          jobs = jobs;
          answers = record { were_heard = jobs_heard; answers = in_turn; no_more = no_more_jobs };
          latest = is ∙ last_of_all;
        }

    abbrev Reply : ℕ → Datagram → Datagram → Type 0
    Reply n = IsReplyTo n start.size now.firm start.faults now.faults

    abbrev IsSent : Datagram → Type 0
    IsSent = IsReply heard start.size now.firm start.faults now.faults

    abbrev Sent : L → Type 0
    Sent link = IfSome (tells.state link).sent (All IsSent)

    -- What a session sent rests on what is firm at the end, in turn.
    record Replied (n : ℕ) (desk : Desk L) : Type 0 where
      pub each : Sent desk.link
      pub in_turn : IfSome heard (λ list. IfSome (link_at tells desk).sent (InTurn (Reply n) list))

    replied : (n : ℕ) (desk : Desk L) → HasWorked tells told at (began_at start n) desk
        → AreHeard n (hand_at desk).taken
        → All (IsHeardJob heard) (hand_at desk).taken → IsLegal told (known_at desk) now → told ≡ true → Replied n desk
    replied n desk w in_turn were legal y = record {
      each = IfSome_then (link_at tells desk).sent (w.replies y)
          (λ list are. in_turn_all (RepliesTo (known_at desk)) (IsHeardJob heard) IsSent
          (λ job d was r. record { asked = datagram_of job; was_heard = was; peer = r.peer; says = says job d r })
          (hand_at desk).taken list were are);
      in_turn = IfSome_then heard in_turn (λ list took. IfSome_then (link_at tells desk).sent (w.replies y) (λ sent are.
          in_turn_through (IsJobOf n) (RepliesTo (known_at desk)) (Reply n) both list
          (hand_at desk).taken sent took are));
    }
      where
        says : (job : Job) (d : Datagram) → RepliesTo (known_at desk) job d
            → IsAnswered start.size now.firm (datagram_of job) d.octets
            ⊎ (TellsFailure (datagram_of job) d.octets × Rose start.faults now.faults)
        says job d r = says_later w.size (legal.known y) (λ (f : HasFailedSince (known_at desk)).
            let follows : Follows told (facts_of f.0.left) now =
            All-contains (λ (u : KeptTurn). Follows told (facts_of u.left) now)
            (known_at desk).turns f.0 legal.turns f.1 in
            omega (arith, w.faults, follows.faults, f.2)) r.says

        both : (d : Datagram) (job : Job) (sent : Datagram) → IsJobOf n d job → RepliesTo (known_at desk) job sent
            → Reply n d sent
        both d job sent is r = rw (← is.1)
            (record { session_is = subst (IsFor n) (sym is.1) is.0; peer = r.peer; says = says job sent r })

    pub run_replies : WhereTold told (HaveReplied tells heard start now (links_of reception team))
    run_replies y =
        let one = replied 0 team.first.0 served.one (jobs_heard 0) (each_heard 0)
        (ended.legal 0 (known_at team.first.0) (omega arith)) y in
        let two = replied 1 team.first.1 served.two (jobs_heard 1) (each_heard 1)
        (ended.legal 1 (known_at team.first.1) (omega arith)) y in
        let three = replied 2 team.second.0 served.three (jobs_heard 2) (each_heard 2)
        (ended.legal 2 (known_at team.second.0) (omega arith)) y in
        let four = replied 3 team.second.1 served.four (jobs_heard 3) (each_heard 3)
        (ended.legal 3 (known_at team.second.1) (omega arith)) y in
        record {
          each = all_five Sent
              (IfSome_then (link_of tells reception).sent served.dispatched.unsent (λ list is. rw is (All-nil IsSent)))
              one.each two.each three.each four.each;
          in_turn = all_replied tells start.size now.firm start.faults now.faults heard reception.link
              (team.first.0.link ∷ team.first.1.link ∷ team.second.0.link ∷ team.second.1.link ∷ [])
              served.dispatched.unsent
              (one.in_turn, (two.in_turn, (three.in_turn, (four.in_turn, refl))));
        }

    pub run_stays : StaysAs start now
    run_stays = record {
      size = ended.size;
      name = ended.name;
      later = omega (arith, served.one.faults, (ended.legal 0 (known_at team.first.0) (omega arith)).since);
    }

    pub run_writer : Stays → KeepsWriter files told now.firm writer (writing.writer_of team.actor)
    run_writer stays = writer_on stays files told (writing.knowledge_of team.actor).known now.firm writer
        (writing.writer_of team.actor)
        (ended.legal 4 (writing.knowledge_of team.actor) (omega arith)).known served.written.keeps
