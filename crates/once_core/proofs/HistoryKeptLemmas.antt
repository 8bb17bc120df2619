-- What holds of the entries of a gateway in a world: it goes on with each act that is kept, and no number is too big.
use Rattle.std.proofs.Common.{◌≡◌, ℕ, ◌-◌, ◌<◌, Bool, true, false, List, [], ◌∷◌, ◌++◌, Option, Some, map, refl, ap, sym, ◌∙◌, arith, append_assoc, take, drop, nat_lt, IfOk, Result, Ok, Err, append-nil, take-append-drop}
use Rattle.once_core.proofs.Names.{Addr, AllKept, and_parts, answer_cause, answer_view, answer_within, Cancel, changes, Decided, decided, first_node_ip, Given, held_ones, HistoryAct, HistoryEntry, is_kept_act, is_kept_answer, is_of_world, IsBounded, KeyState, list_all, listed, lt-ltb, ltb-true, may_record, nat_tests, nearest, NodeId, Observed, Opening, opening_after, opening_of, opening_of-append, option_map_or, PreparedValue, recorded_as, Release, state_given, tabled, top_after, top_of, top_of-append, TransferValue, verdict_cause, verdict_of}
use Rattle.std.proofs.lemmas.List.Folds.{list_all-append}
use Rattle.gw_base.specs.declared.fault.NoMemory.{NoMemory}
use Rattle.gateway_answer.specs.declared.plain.OwnedAnswer.{OwnedAnswer}
use Rattle.transfer_cmd.specs.declared.decision.Ask.{Ask}
use Rattle.transfer_cmd.specs.declared.decision.Ask.TheVariants as ask
use Rattle.transfer_cmd.specs.declared.verdict.Verdict.{Verdict}
use Rattle.gateway_answer.specs.Answer.{asked_by, node_of}
use Rattle.gateway_index.specs.Limits.{numbers_end}
use Rattle.gateway_answer.specs.Preparing.{Request}

abbrev kept : HistoryEntry → Bool
kept e = is_kept_act e.act

pub kept_take : (n : ℕ) (h : List HistoryEntry) → AllKept h → AllKept (take n h)
kept_take n h all =
    (and_parts (list_all kept (take n h)) (list_all kept (drop n h))
    (sym (list_all-append kept (take n h) (drop n h)) ∙ ap (list_all kept) (take-append-drop n h) ∙ all)).0

-- what goes on with each act that is kept holds of what entries that are kept make
kept_on : {A : Type 0} (ok : A → Bool) (f : List HistoryEntry → A) (after : A → HistoryAct → A)
    → ((before : List HistoryEntry) (e : HistoryEntry) → f (before ++ e ∷ []) ≡ after (f before) e.act)
    → ((x : A) (a : HistoryAct) → ok x ≡ true → is_kept_act a ≡ true → ok (after x a) ≡ true)
    → (before h : List HistoryEntry) → ok (f before) ≡ true → AllKept h → ok (f (before ++ h)) ≡ true
kept_on ok f after step keeps before [] is all = ap (λ (xs : List HistoryEntry). ok (f xs)) (append-nil before) ∙ is
kept_on ok f after step keeps before (e ∷ h) is all =
    let parts = and_parts (kept e) (list_all kept h) all in
    ap (λ (xs : List HistoryEntry). ok (f xs)) (sym (append_assoc before (e ∷ []) h))
    ∙ kept_on ok f after step keeps (before ++ e ∷ []) h (ap ok (step before e) ∙ keeps (f before) e.act is parts.0) parts.1

-- ---- no number is too big

abbrev below : Option ℕ → Bool
below top = option_map_or (λ t. nat_lt t numbers_end) top true

below_after : (node : ℕ) (top : Option ℕ) (a : HistoryAct) → below top ≡ true → is_kept_act a ≡ true → below (top_after node top a) ≡ true
below_after node top a is near = grind (arith, nat_tests)

pub kept_is_bounded : (h : List HistoryEntry) → AllKept h → IsBounded h
kept_is_bounded h all = λ node x is.
    ltb-true x numbers_end (ap below (sym is) ∙ kept_on below (top_of node) (top_after node) (top_of-append node) (below_after node) [] h refl all)

-- ---- what an answer records

abbrev Keeps : Given → Type 0
Keeps given = is_kept_answer (decided given) ≡ true

module _ (o : Observed) (room : HistoryAct → Bool) (number : ℕ) where
  by_table : (node : NodeId) (meant : ℕ) (packet : List ℕ) (asked : Ask) (state : KeyState) → is_of_world node ≡ true
      → Keeps (tabled (may_record o room) number (answer_cause asked state) (recorded_as asked node meant packet (state_given asked state)))
  by_table node meant packet ask.Send state near = grind (arith, nat_tests)
  by_table node meant packet ask.Possible state near = grind (arith, nat_tests)
  by_table node meant packet ask.Empty state near = grind (arith, nat_tests)

  by_list : (node : NodeId) (release : Bool) (numbers : List ℕ) → Keeps (listed o (may_record o room) node number release numbers)
  by_list node release numbers =
      by_verdict (held_ones o (map (nearest o.top) numbers))
      (verdict_of release (map o.state (map (nearest o.top) numbers)))
    where
      by_verdict : (held : List ℕ) (verdict : Verdict)
          → Keeps (tabled (may_record o room) number (verdict_cause verdict) (changes verdict release node held))
      by_verdict held verdict = grind (arith, nat_tests)

  by_request : (node : NodeId) (body : TransferValue) → is_of_world node ≡ true → Keeps (asked_by o (may_record o room) node number body)
  by_request node (Cancel numbers) near = by_list node false numbers
  by_request node (Release numbers) near = by_list node true numbers
  by_request node _ near = by_table node (nearest o.top number) _ _ (o.state (nearest o.top number)) near

-- an answer to a node of the world records what is kept
pub answers_keep : (o : Observed) (from : Addr) (datagram : PreparedValue) (room : HistoryAct → Bool) → is_of_world (node_of from) ≡ true
    → is_kept_answer (decided (answer_within o from datagram room)) ≡ true
answers_keep o from (Request number body) room near = by_request o room number (node_of from) body near
answers_keep o from datagram room near = grind (arith, nat_tests)

-- ---- the nodes of the paths

abbrev near_if : ℕ → Option Opening → Bool
near_if node o = option_map_or (λ (opening : Opening). nat_lt (node - first_node_ip) 256) o true

near_after : (node : ℕ) (o : Option Opening) (a : HistoryAct) → near_if node o ≡ true → is_kept_act a ≡ true → near_if node (opening_after node o a) ≡ true
near_after node o a is near = grind (arith, nat_tests)

-- a node with a path is one of the world
pub path_is_near : (node : ℕ) (h : List HistoryEntry) (opening : Opening) → AllKept h → opening_of node h ≡ Some opening → node - first_node_ip < 256
path_is_near node h opening all is =
    ltb-true (node - first_node_ip) 256
    (ap (near_if node) (sym is) ∙ kept_on (near_if node) (opening_of node) (opening_after node) (opening_of-append node) (near_after node) [] h refl all)

-- ---- the node of an answer

pub near_node : (n : NodeId) → n.0 - first_node_ip < 256 → is_of_world n ≡ true
near_node n near = lt-ltb (n.0 - first_node_ip) 256 near

pub kept_by : (r : Result OwnedAnswer NoMemory) (d : Decided) → is_kept_answer d ≡ true → IfOk r (λ found. answer_view found ≡ d) → IfOk r (λ found. is_kept_answer (answer_view found) ≡ true)
kept_by (Ok found) d kept is = ap is_kept_answer is ∙ kept
kept_by (Err e) d kept is = is
