-- The line that is written of a gateway that was settled.
use Rattle.std.proofs.Common.{◌≡◌, ◌≢◌, inl, inr, ℕ, ◌≤◌, true, false, List, [], length, None, Result, Ok, Err, IfErr, IfOk, count_by, sym, ap, subst, ◌∙◌, arith}
use Rattle.cgf_service.proofs.Names.{area_of, base, Book, BookValue, closed_behind, counts_of, facts_of, FailsBy, Grows, HasLine, HasNoLine, HasSettled, HasSettledAll, HasTakenAll, HistoryEntry, is_closed, is_part, IsSettled, items_of, moment_of, no_caller, part_count, Rose, served_line, Service, settings_in, SettleFault, shelf_of, size_of, Status, Stays, tells_lists, Told, value_of, WhereTold, Writer}
use Rattle.area_disk.specs.declared.area.Area as areas
use Rattle.cdr_shelf.specs.declared.shelf.Shelf as shelves
use Rattle.gateway_answer.specs.Filed.{filed}
use Rattle.gateway_book.specs.Calls.{gateway_counts_with}
use Rattle.gateway_book.specs.Read.{IsUnchanged}
use Rattle.gateway_book.specs.declared.outcome.Counts.{Counts}
use Rattle.node_session.specs.Writing.{KeepsFiles}
use Rattle.node_session.specs.declared.settling.SettleFault.TheVariants as settle
use Rattle.replay_gateway.specs.GatewayReport.{counts_text}

-- the counts of a book in which nothing waits, and that isn't broken, are those of its history
pub line_is : (v : BookValue) (size : ℕ) (counts : Counts) (records : ℕ) → v.is_broken ≡ false → v.rest ≡ [] → counts ≡ counts_of v size
    → records ≡ part_count (items_of v.firm) → ((h : List HistoryEntry) → count_by is_part (items_of h) ≡ length (filed h))
    → counts_text 0 (gateway_counts_with counts records) ≡ served_line v.firm
line_is v size counts records whole none is counted parts =
    ap (λ (c : Counts). counts_text 0 (gateway_counts_with c records))
    (is ∙ ap (λ (w : BookValue). counts_of w size) same)
    ∙ ap (λ (n : ℕ). counts_text 0 (gateway_counts_with (counts_of standing size) n)) (counted ∙ parts v.firm)
  where
    standing : BookValue
    standing = record { firm = v.firm; rest = []; cuts = v.cuts; is_broken = false }

    same : v ≡ standing
    same = λ i. record { firm = v.firm; rest = none i; cuts = v.cuts; is_broken = whole i }

module _ {A : Type 0} (tells : areas.Ghosts A) where
  -- what was settled at the moment of a service is so where the book was read then
  settled_as : (service : Service) (book a b : Book A tells) (now : ℕ) → now ≡ moment_of service.last
      → (Told tells → value_of b ≡ value_of a) → is_closed b.trail ≡ is_closed a.trail → IsSettled book a now no_caller
      → IsSettled book b (moment_of service.last) no_caller
  settled_as service book a b now moment value broken s = record {
    drops = s.drops;
    whole = s.whole;
    firm = λ told. ap (λ (v : BookValue). v.firm) (value told) ∙ s.firm told
        ∙ ap (λ (n : ℕ). closed_behind (base s.drops (facts_of book)) n no_caller) moment;
    none_waits = λ told. ap (λ (v : BookValue). v.rest) (value told) ∙ s.none_waits told;
    goes_on = broken ∙ s.goes_on;
  }

  -- A gateway was settled unless the device of its area failed, whether it has a line or not.
  pub settled_calmly : {R : Type 0} (service : Service) (book a b : Book A tells) (now : ℕ)
      (counts : Result R SettleFault)
      → now ≡ moment_of service.last → (counts ≢ Err settle.Area → IsSettled book a now no_caller)
      → (counts ≡ Err settle.Area → Rose (tells.faults (area_of book)) (tells.faults (area_of a)))
      → (Told tells → value_of b ≡ value_of a) → is_closed b.trail ≡ is_closed a.trail
      → tells.faults (area_of a) ≤ tells.faults (area_of b) → ¬
      (Rose (tells.faults (area_of book)) (tells.faults (area_of b)))
      → IsSettled book b (moment_of service.last) no_caller
  settled_calmly service book a b now counts moment closes failed value broken later calm =
      settled_as service book a b now moment value broken
      (closes (λ is. calm (let rose = failed is in omega (arith, rose, later))))

module _ {A F : Type 0} (tells : areas.Ghosts A) (files : shelves.Ghosts F) where
  fails_as : (service : Service) (book a b : Book A tells) (writer w : Writer F files) → service.stop ≡ None
      → tells.faults (area_of book) ≤ tells.faults (area_of a)
      → (ended : Status) → FailsBy tells a b ended → HasNoLine tells files service book b writer w ended
  fails_as service book a b writer w runs up ended (inl memory) = rw memory tt
  fails_as service book a b writer w runs up ended (inr device) = rw device.0 (runs, inl (omega (arith, up, device.1)))

  -- settled, and then the line was read of the book, or not
  pub line_settled : {X : Type 0} (octets : X → List ℕ) (service : Service) (book a b : Book A tells) (writer w : Writer F files) (now : ℕ)
      (counts : Counts) (result : Result X Status) → service.stop ≡ None → now ≡ moment_of service.last → HasSettled book a now no_caller counts
      → (Told tells → HasTakenAll (value_of a).firm w) → Grows book a → (Stays book a × (settings_in w ≡ settings_in writer))
      → ((tells.faults (area_of book) ≤ tells.faults (area_of a)) × (files.faults (shelf_of writer) ≤ files.faults (shelf_of w)))
      → WhereTold (tells_lists tells) (KeepsFiles files (value_of a).firm writer w)
      → (Told tells → is_closed a.trail ≡ false → (value_of a).rest ≡ [] → counts ≡ counts_of (value_of a) (size_of a)
      → IfOk result (λ line. octets line ≡ served_line (value_of a).firm))
      → IfErr result (FailsBy tells a b) → (IsUnchanged a b × (tells.faults (area_of a) ≤ tells.faults (area_of b)))
      → (both_told : tells_lists tells ≡ true → Told tells)
      → HasSettledAll tells files octets service book b writer w result
  line_settled {X = X} octets service book a b writer w now counts result runs moment settled all grows stays later keeps line err same both_told = record {
    stays = (
      record {
        size = same.0.stays.size ∙ stays.0.size;
        header = same.0.stays.header ∙ stays.0.header;
        open_time = same.0.stays.open_time ∙ stays.0.open_time;
      },
      stays.1,
    );
    grows = λ told. ((grows told).0, firm told ∙ (grows told).1);
    later = (let x = later.0 in let y = same.1 in omega (arith, x, y), later.1);
    files_stay = λ told. subst (λ (h : List HistoryEntry). KeepsFiles files h writer w) (sym (firm (both_told told))) (keeps told);
    ok = by_ok result line;
    err = by_err result err;
  }
    where
      firm : Told tells → (value_of b).firm ≡ (value_of a).firm
      firm told = ap (λ (v : BookValue). v.firm) (same.0.value told)

      by_ok : (r : Result X Status) → (Told tells → is_closed a.trail ≡ false → (value_of a).rest ≡ [] → counts ≡ counts_of (value_of a) (size_of a)
          → IfOk r (λ l. octets l ≡ served_line (value_of a).firm)) → IfOk r (λ l. HasLine tells files service book b w (octets l))
      by_ok (Err ended) line_of = tt
      by_ok (Ok l) line_of = record {
        runs = runs;
        settled = settled_as tells service book a b now moment same.0.value same.0.broken settled.settled;
        line_is = λ told. line_of told settled.settled.goes_on (settled.settled.none_waits told) (settled.told told)
            ∙ ap (λ (h : List HistoryEntry). served_line h) (sym (firm told));
        taken = λ told. subst (λ (h : List HistoryEntry). HasTakenAll h w) (sym (firm told)) (all told);
      }

      by_err : (r : Result X Status) → IfErr r (FailsBy tells a b) → IfErr r (HasNoLine tells files service book b writer w)
      by_err (Ok l) fails = tt
      by_err (Err ended) fails = fails_as service book a b writer w runs later.0 ended fails
