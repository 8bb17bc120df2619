use Rattle.std.proofs.Common.{◌≡◌, ◌≤◌, ◌+◌, IsTrue, ℕ, List, length, Option, Some, None, sym, ap, ◌∙◌, subst, arith}
use Rattle.file_writer.proofs.Names.{AreLimits, closed_by, ClosureReason, Cut, cuts_at, Cutting, file_with, Filed, filed_of, FiledKind, FiledRecord, grown, in_profile, IsBehind, IsFiledKind, IsGrown, kind_change, limit_reached, Limits, OpenFile, Pairs, Progress, Record, record_file, settings_of, still, stream_record, with_record}
use Rattle.file_writer.proofs.FollowingLemmas.{FactsLaws, append_stays, append_up, close_stays, close_up, grown_closes, pairs_closed, pairs_grown, record_closes, stays_then}
use Rattle.file_writer.proofs.LeavingLemmas.{append_left, close_left}
use Rattle.file_writer.proofs.PuttingLemmas.{all_went, first_ended, number_1, second_ended, third_ended}
use Rattle.file_writer.proofs.stream.put.Goals as goal
use Rattle.file_writer.proofs.stream.put.Goals.{In_ok-file, In_ok-file-2}

-- the number of the file that the record goes to
number : (g : _) (c : In_ok-file g) (run : List (Filed (List ℕ))) → IsBehind g.F.Shelf c.args.s run c.args.stream c.args.shelf.now
    → closed_by (cuts_at c.args.stream.cutter.limits run (Record (stream_record c.args.stream.cutter.profile c.args.next.kind c.args.next.octets.now c.args.next.moment))).before
    c.args.stream.file.closed + 1 ≡ c.in_ok-file.file.closed + 1
number g c run behind = search (arith, number_1, c.reason_of.ensures)

-- the file grew by the record
grows : (g : _) (c : In_ok-file-2 g)
    → c.in_ok-file-2.file ≡ grown c.in_ok-file.file (filed_of (in_profile c.args.stream.cutter.profile c.args.next.kind) c.args.next.octets.now c.args.next.moment)
grows g c = search arith

stands : (g : _) (c : In_ok-file-2 g) → IsTrue g.F.Shelf.tells_files
    → IsGrown c.args.s c.in_ok-file.file (filed_of (in_profile c.args.stream.cutter.profile c.args.next.kind) c.args.next.octets.now c.args.next.moment)
    (g.F.Shelf.unsealed c.close.new.shelf c.args.s) (g.F.Shelf.unsealed c.append.new.shelf c.args.s)
stands g c told =
    subst (λ (k : FiledKind). IsGrown c.args.s c.in_ok-file.file (filed_of k c.args.next.octets.now c.args.next.moment)
    (g.F.Shelf.unsealed c.close.new.shelf c.args.s) (g.F.Shelf.unsealed c.append.new.shelf c.args.s))
    c.kind.ensures.kind (c.in_ok-file-2.ensures.stands told)

laws : (g : _) (c : In_ok-file-2 g) → FactsLaws
laws g c = record { first = c.run_facts_law.ensures.first; more = c.run_facts_law.ensures.more; growth = c.file_octets_law.ensures.growth }

pub returns-in_err-file-clause-takes : goal.returns-in_err-file-clause-takes
returns-in_err-file-clause-takes g c = λ run behind.
    first_ended _ _ _ _ _ _ _ c.requires.safe.pairs (c.reason_of.ensures _ (ap (λ (cut : Cut). cut.before) c.put-cut.ensures.cut))
    c.cutter_keeps_the_run.ensures.cuts run behind _ _ _ c.from_residual.ensures c.in_err-file.ensures.makes

pub append-requires-clause-fresh : goal.append-requires-clause-fresh
append-requires-clause-fresh g c = λ told.
    (close_up g.F.Shelf (settings_of c.args.gateway.now) c.args.s c.args.stream.file c.in_ok-file.file
    c.reason_of.result _ _ c.requires.safe.up c.in_ok-file.ensures.closed c.in_ok-file.ensures.still
    c.in_ok-file.ensures.makes).fresh told

pub returns-in_err-file-2-clause-takes : goal.returns-in_err-file-2-clause-takes
returns-in_err-file-2-clause-takes g c = λ run behind.
    second_ended _ _ _ _ _ _ _ c.requires.safe.pairs (c.reason_of.ensures _ (ap (λ (cut : Cut). cut.before) c.put-cut.ensures.cut))
    c.cutter_keeps_the_run.ensures.cuts run behind _ _ c.in_ok-file.ensures.closed c.in_ok-file.ensures.still c.in_ok-file.ensures.makes
    _ _ _ c.from_residual-in_err-file-2.ensures c.in_err-file-2.ensures.makes

pub returns-in_err-file-3-clause-takes : goal.returns-in_err-file-3-clause-takes
returns-in_err-file-3-clause-takes g c = λ run behind.
    let at = (goal.at.returns-in_err-file-3-clause-takes g c).In_ok-file-2 in
    third_ended _ _ _ _ _ _ _ c.requires.safe.pairs (c.reason_of.ensures _ (ap (λ (cut : Cut). cut.before) c.put-cut.ensures.cut))
    c.cutter_keeps_the_run.ensures.cuts run behind _ _ c.in_ok-file.ensures.closed c.in_ok-file.ensures.still c.in_ok-file.ensures.makes
    (laws g at) _ _ (grows g at) (stands g at)
    c.in_ok-file-2.ensures.makes _ (c.reason_of-2.ensures _ (ap (λ (cut : Cut). cut.after) c.put-cut.ensures.cut))
    _ _ _ c.from_residual-in_err-file-3.ensures c.in_err-file-3.ensures.makes

pub returns-clause-takes : goal.returns-clause-takes
returns-clause-takes g c = λ run behind.
    let at = (goal.at.returns-clause-takes g c).In_ok-file-2 in
    let filed : Filed (List ℕ) = stream_record c.args.stream.cutter.profile c.args.next.kind c.args.next.octets.now c.args.next.moment in
    all_went _ _ _ _ _ _ _ c.requires.safe.pairs (c.reason_of.ensures _ (ap (λ (cut : Cut). cut.before) c.put-cut.ensures.cut))
    c.cutter_keeps_the_run.ensures.cuts run behind _ _ c.in_ok-file.ensures.closed c.in_ok-file.ensures.still c.in_ok-file.ensures.makes
    (laws g at) _ _ (grows g at) (stands g at)
    c.in_ok-file-2.ensures.makes _ (c.reason_of-2.ensures _ (ap (λ (cut : Cut). cut.after) c.put-cut.ensures.cut))
    _ _ c.in_ok-file-3.ensures.closed c.in_ok-file-3.ensures.still c.in_ok-file-3.ensures.makes
    (ap (λ (k : Cutting). k.file) c.put-cut.ensures.kept
    ∙ ap (λ (k : Option OpenFile). record_file c.args.stream.cutter.limits k filed.kind filed.octets filed.moment) behind.cut
    ∙ c.cutter_keeps_the_run.ensures.kept c.args.stream.cutter.limits run (Record filed))
    (ap (λ (k : Cutting). k.limits) c.put-cut.ensures.kept) (ap (λ (k : Cutting). k.profile) c.put-cut.ensures.kept)

pub returns-clause-safe : goal.returns-clause-safe
returns-clause-safe g c =
    let stream = c.args.stream in
    let s : ℕ = c.args.s in
    let kept : Option OpenFile = stream.cutter.file in
    let settings = settings_of c.args.gateway.now in
    let next : FiledRecord =
    filed_of (in_profile c.args.stream.cutter.profile c.args.next.kind) c.args.next.octets.now c.args.next.moment in
    let at = (goal.at.returns-clause-safe g c).In_ok-file-2 in
    let b : Option ClosureReason = c.reason_of.result in
    let is_b : b ≡ kind_change kept next.kind =
    c.reason_of.ensures _ (ap (λ (cut : Cut). cut.before) c.put-cut.ensures.cut) in
    let a : Option ClosureReason = c.reason_of-2.result in
    let is_a : a ≡ limit_reached stream.cutter.limits (file_with kept next.kind (length next.octets) next.moment) =
    c.reason_of-2.ensures _ (ap (λ (cut : Cut). cut.after) c.put-cut.ensures.cut) in
    let file : Progress = c.in_ok-file.file in
    let later : Progress = c.in_ok-file-2.file in
    let up_1 = close_up g.F.Shelf settings s stream.file file b _ _ c.requires.safe.up c.in_ok-file.ensures.closed
    c.in_ok-file.ensures.still c.in_ok-file.ensures.makes in
    let up_2 = append_up g.F.Shelf s file later next _ _ up_1 (grows g at) (stands g at) c.in_ok-file-2.ensures.makes in
    let after_first : Option ClosureReason → Option OpenFile =
    λ r. Some (with_record (still r kept None) next.kind (length next.octets) next.moment) in
    record {
      limits = subst (λ (limits : Limits). AreLimits limits)
          (sym (ap (λ (k : Cutting). k.limits) c.put-cut.ensures.kept)) c.requires.safe.limits;
      pairs = subst (λ (k : Option OpenFile). Pairs k c.in_ok-file-3.file.growing)
          (ap (λ (r : Option ClosureReason). still a (after_first r) None) is_b
          ∙ ap (λ (r : Option ClosureReason). still r
          (Some (file_with kept next.kind (length next.octets) next.moment)) None) is_a
          ∙ sym (ap (λ (k : Cutting). k.file) c.put-cut.ensures.kept))
          (pairs_closed a (after_first b) later c.in_ok-file-3.file
          (pairs_grown (still b kept None) file later next (pairs_closed b kept stream.file file c.requires.safe.pairs
          c.in_ok-file.ensures.closed)
          (subst (λ (k : FiledKind). IsFiledKind k) c.kind.ensures.kind (c.kind.ensures.fits c.requires.kind)) (grows g at))
          c.in_ok-file-3.ensures.closed);
      up = close_up g.F.Shelf settings s later c.in_ok-file-3.file a _ _ up_2 c.in_ok-file-3.ensures.closed
          c.in_ok-file-3.ensures.still c.in_ok-file-3.ensures.makes;
    }

pub returns-clause-others : goal.returns-clause-others
returns-clause-others g c = λ told t other.
    let settings = settings_of c.args.gateway.now in
    let s : ℕ = c.args.s in
    stays_then g.F.Shelf t _ _ _
    (close_stays g.F.Shelf settings s t c.args.stream.file c.reason_of.result _ _ other told
    (c.in_ok-file.ensures.others told t other) c.in_ok-file.ensures.makes)
    (stays_then g.F.Shelf t _ _ _
    (append_stays g.F.Shelf t c.in_ok-file.file _ _ told (c.in_ok-file-2.ensures.others told t other)
    c.in_ok-file-2.ensures.makes)
    (close_stays g.F.Shelf settings s t c.in_ok-file-2.file c.reason_of-2.result _ _ other told
    (c.in_ok-file-3.ensures.others told t other) c.in_ok-file-3.ensures.makes))

pub returns-clause-left : goal.returns-clause-left
returns-clause-left g c = λ told start stale left.
    let stream = c.args.stream in
    let kind : FiledKind = in_profile c.args.stream.cutter.profile c.args.next.kind in
    let next : FiledRecord = filed_of kind c.args.next.octets.now c.args.next.moment in
    let at = (goal.at.returns-clause-left g c).In_ok-file-2 in
    let file : Progress = c.in_ok-file.file in
    let later : Progress = c.in_ok-file-2.file in
    let is_b : c.reason_of.result ≡ kind_change stream.cutter.file next.kind =
    c.reason_of.ensures _ (ap (λ (cut : Cut). cut.before) c.put-cut.ensures.cut) in
    close_left start stale later c.in_ok-file-3.file c.reason_of-2.result _ _
    (grown_closes file later next c.reason_of-2.result (grows g at)) c.in_ok-file-3.ensures.closed
    (c.in_ok-file-3.ensures.still told)
    (append_left start stale c.args.s file later next _ _ (grows g at) (stands g at told)
    (close_left start stale stream.file file c.reason_of.result _ _
    (record_closes stream.cutter.file next.kind stream.file.growing c.reason_of.result c.requires.safe.pairs is_b)
    c.in_ok-file.ensures.closed (c.in_ok-file.ensures.still told) left))

pub returns-in_err-file-clause-shut : goal.returns-in_err-file-clause-shut
returns-in_err-file-clause-shut g c = λ run behind files plan most within. c.in_err-file.ensures.shut files plan most

pub returns-in_err-file-2-clause-shut : goal.returns-in_err-file-2-clause-shut
returns-in_err-file-2-clause-shut g c = λ run behind files plan most within shut.
    let here = number g (goal.at.returns-in_err-file-2-clause-shut g c).In_ok-file run behind in
    c.in_err-file-2.ensures.shut files plan most (subst (λ (n : ℕ). n ≤ most c.args.s) here within)
    (c.in_ok-file.ensures.shut files plan most shut)

pub returns-in_err-file-3-clause-shut : goal.returns-in_err-file-3-clause-shut
returns-in_err-file-3-clause-shut g c = λ run behind files plan most within shut.
    let here = number g (goal.at.returns-in_err-file-3-clause-shut g c).In_ok-file run behind in
    c.in_err-file-3.ensures.shut files plan most
    (c.in_ok-file-2.ensures.shut files plan most (subst (λ (n : ℕ). n ≤ most c.args.s) here within)
    (c.in_ok-file.ensures.shut files plan most shut))

pub returns-clause-shut : goal.returns-clause-shut
returns-clause-shut g c = λ run behind files plan most within shut.
    let here = number g (goal.at.returns-clause-shut g c).In_ok-file run behind in
    c.in_ok-file-3.ensures.shut files plan most
    (c.in_ok-file-2.ensures.shut files plan most (subst (λ (n : ℕ). n ≤ most c.args.s) here within)
    (c.in_ok-file.ensures.shut files plan most shut))
