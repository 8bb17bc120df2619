-- What is reported of a gateway: its files and its counts.
use Rattle.std.proofs.Common.{◌≡◌, ◌∙◌, sym, ap, append_assoc, ℕ, ◌+◌, ◌-◌, ◌/◌, ◌%◌, List, [], ◌∷◌, ◌++◌, arith, suc, Bool, true, false, if◌then◌else◌, take, Option, append-nil, refl, zero, take_all, length}
use Rattle.replay_gateway.proofs.Names.{book_of, closed_of, counts_line, counts_text, digits, file_line, files_below, files_in, Filing, first_machine, flat_map, Gateway, gateway_report, gateway_text, history_of, HistoryAct, HistoryEntry, IsAllWritten, IsOpenedForCounts, Item, items_of, Machine, no_caller, recorded, room_for, rules_in, sealed_below, sealed_lines, Settings, Setup, Site, SiteIsOpened, SiteStands, standing_for, Start, stream_count, stream_files}
use Rattle.std.proofs.lemmas.List.Concat.{flat_map-append}
use Rattle.gateway_answer.specs.Filed.{filed}
use Rattle.gw_base.specs.History.{copies_of, fate_of, with_entry}
use Rattle.once_core.specs.Gateway.{opened as reopened}
use Rattle.gateway_book.specs.Calls.{gateway_counts_of, gateway_counts_with}
use Rattle.gateway_book.specs.declared.outcome.Counts as told
use Rattle.gateway_book.specs.declared.outcome.GatewayCounts.{GatewayCounts}
use Rattle.replay_gateway.specs.Tells.{Tells}
use Rattle.replay_gateway.specs.declared.machine.Machine as real
use Rattle.replay_gateway.proofs.OpeningLemmas.{firm_again, site_later}
use Rattle.replay_gateway.proofs.WriterLemmas.{files_count}

-- The last decimal digits of a number.

-- the last digit stands behind the others
pub last_digit : {count : ℕ} (n : ℕ) → (count ≡ 0 → ⊥) →
    digits (count - 1) (n / 10) ++ (48 + n % 10) ∷ [] ≡ digits count n
last_digit n some = grind arith

-- four pieces of a line, one behind the other
pub four_more : (o : List ℕ) {one two three four : _} (a b c d : List ℕ) → one ≡ o ++ a → two ≡ one ++ b →
    three ≡ two ++ c → four ≡ three ++ d → four ≡ o ++ (a ++ (b ++ (c ++ d)))
four_more o a b c d first second third last =
    last ∙ ap (λ x. x ++ d) (third ∙ ap (λ x. x ++ c) (second ∙ ap (λ x. x ++ b) first))
    ∙ append_assoc ((o ++ a) ++ b) c d ∙ append_assoc (o ++ a) b (c ++ d) ∙ append_assoc o a (b ++ (c ++ d))

pub three_more : (o : List ℕ) {one two three : _} (a b c : List ℕ) → one ≡ o ++ a → two ≡ one ++ b → three ≡ two ++ c →
    three ≡ o ++ (a ++ (b ++ c))
three_more o a b c first second third = cc (append_assoc (o ++ a) b c, append_assoc o a (b ++ c))

-- pieces of a line, grouped from the left
pub left_grouped : (a b c d e f : List ℕ) → (a ++ b) ++ (c ++ (d ++ (e ++ f))) ≡ ((((a ++ b) ++ c) ++ d) ++ e) ++ f
left_grouped a b c d e f =
    sym (append_assoc (a ++ b) c (d ++ (e ++ f)))
    ∙ sym (append_assoc ((a ++ b) ++ c) d (e ++ f))
    ∙ sym (append_assoc (((a ++ b) ++ c) ++ d) e f)

-- The counts of a gateway that was opened for them: its Start changes none of them.

fate_start : (node number : ℕ) (h : List HistoryEntry) (e : HistoryEntry) → e.act ≡ Start →
    fate_of node number (h ++ e ∷ []) ≡ fate_of node number h
fate_start node number [] e is = cc
fate_start node number (f ∷ h) e is = cc (fate_start node number h e is)

entry_same : (a : HistoryAct) (h : List HistoryEntry) (e : HistoryEntry) {x y : _} → e.act ≡ Start → x ≡ y →
    with_entry a (h ++ e ∷ []) x ≡ with_entry a h y
entry_same a h e is same = grind (arith, fate_start)

-- a Start counts no copies
pub copies_start : (h : List HistoryEntry) (e : HistoryEntry) → e.act ≡ Start → copies_of (h ++ e ∷ []) ≡ copies_of h
copies_start [] e is = cc
copies_start (f ∷ h) e is = entry_same _ h e is (copies_start h e is)

started_by : (b : Bool) (h : List HistoryEntry) →
    copies_of (history_of (if b then recorded (standing_for h) 0 no_caller Start else standing_for h))
    ≡ copies_of (history_of (standing_for h))
started_by b h = grind (arith, append-nil, copies_start)

-- What is counted.

module _ (setup : Setup) (place : ℕ) (g : Gateway) (m : Machine) where
  -- of one that is up
  pub tallied_up : {n : _} {k : told.Counts} → g.is_down ≡ false → Tells g.book setup.size n k →
      gateway_counts_with k n ≡ gateway_counts_of (book_of g)
  tallied_up runs tells =
      (λ i. gateway_counts_with (tells.counts i) (tells.records i))
      ∙ ap (λ b. gateway_counts_of (if b then standing_for (history_of g.book) else g.book)) (sym runs)

  -- of one that is down
  pub tallied_down : {n : ℕ} {k : told.Counts} → g.is_down ≡ true →
      Tells (reopened (rules_in setup) g).book setup.size n k →
      record { entries = k.firm; records = n; held = k.held; stranded = k.stranded } ≡ gateway_counts_of (book_of g)
  tallied_down {n} {k} down tells =
      let h = history_of g.book in
      let firm = firm_again setup place g m in
      let copies = started_by (room_for (history_of (standing_for h)) setup.size Start) h in
      let entries : k.firm ≡ length (history_of (standing_for h)) = cc (tells.counts, append-nil h) in
      let records : n ≡ length (filed (standing_for h).firm) = cc tells.records in
      let held : k.held ≡ (copies_of (history_of (standing_for h))).held = cc tells.counts in
      let stranded : k.stranded ≡ (copies_of (history_of (standing_for h))).stranded = cc tells.counts in
      (λ i. record { entries = entries i; records = records i; held = held i; stranded = stranded i })
      ∙ ap (λ b. gateway_counts_of (if b then standing_for h else g.book)) (sym down)

  pub site_opened : (s : Option Site) → SiteIsOpened setup place g s →
      SiteStands setup place (reopened (rules_in setup) g) first_machine s
  site_opened s is = grind arith

  pub opened_still : {before mid new : real.Machine} → IsOpenedForCounts setup place g before mid →
      SiteStands setup place (reopened (rules_in setup) g) first_machine new.site →
      new ≡ record mid { site = new.site } → IsOpenedForCounts setup place g before new
  opened_still {before} {new} is_opened stands rest =
      record { site = grind arith; rest = site_later before new is_opened.rest rest }

  -- the lines of its files, and then of its counts
  pub reported : (tally : GatewayCounts) (before : List ℕ) {middle after : _} → tally ≡ gateway_counts_of (book_of g) →
      middle ≡ before ++ sealed_lines setup place g m →
      after ≡ middle ++ counts_text place tally →
      after ≡ before ++ gateway_text setup place g m
  reported tally before is files counts =
      cc (append_assoc before (sealed_lines setup place g m) (counts_line place (book_of g)))

  -- the lines of the files of the first streams

  abbrev pub lines_below : ℕ → List ℕ
  lines_below k =
      flat_map (file_line place) (sealed_below k (files_in setup place) (items_of g.book.firm) m.filing.sealed)

  pub stream_more : (k : ℕ) (before : List ℕ) {middle after : _} → middle ≡ before ++ lines_below k →
      after ≡ middle ++ flat_map (file_line place)
      (take (m.filing.sealed k) (stream_files (files_in setup place) k (items_of g.book.firm))) →
      after ≡ before ++ lines_below (k + 1)
  stream_more k before first later =
      let more = take (m.filing.sealed k) (stream_files (files_in setup place) k (items_of g.book.firm)) in
      let front = sealed_below k (files_in setup place) (items_of g.book.firm) m.filing.sealed in
      let next : suc k ≡ k + 1 = omega arith in
      cc (
        append_assoc before (lines_below k) (flat_map (file_line place) more),
        flat_map-append (file_line place) front more,
      )

-- What is reported of a gateway that has written all its items.

all_below : (n : ℕ) (settings : Settings) (items : List Item) →
    sealed_below n settings items (λ s. closed_of settings s items) ≡ files_below n settings items
all_below zero settings items = refl
all_below (suc n) settings items =
    ap (λ files. files ++ take (closed_of settings n items) (stream_files settings n items))
    (all_below n settings items)
    ∙ ap (λ files. files_below n settings items ++ files)
    (take_all (closed_of settings n items) (stream_files settings n items)
    (omega (arith, files_count settings n items)))

pub reports_all : (setup : Setup) (place : ℕ) (g : Gateway) (m : Machine) → IsAllWritten (files_in setup place) g m →
    gateway_text setup place g m ≡ gateway_report setup place (items_of g.book.firm) (book_of g)
reports_all setup place g m is =
    let settings = files_in setup place in
    let items = items_of g.book.firm in
    ap (λ (f : Filing). flat_map (file_line place) (sealed_below stream_count settings items f.sealed)
    ++ counts_line place (book_of g)) is.written
    ∙ ap (λ files. flat_map (file_line place) files ++ counts_line place (book_of g))
    (all_below stream_count settings items)
