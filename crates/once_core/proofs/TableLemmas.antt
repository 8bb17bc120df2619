-- Each entry that a gateway of a world records keeps to the table of answers, and each mark is due: no answer is one.
use Rattle.std.proofs.Common.{◌≡◌, Bool, false, refl, ℕ, ◌-◌, true, List, [], ◌∷◌, ◌++◌, length, take, drop, Option, Some, sym, ap, subst, ◌∙◌, append_assoc, append-nil, take-append-drop}
use Rattle.once_core.proofs.Names.{act_noted, acting, Addr, AllKeepLimits, AllMarksDue, answer_by, at_node, BookValue, both_ways, Called, called, Decided, decided, delivered_to_node, EachBehind, entry_by, failed_by, failure_answer, firm_in, first_world, Gateway, Given, history_of, HistoryAct, HistoryEntry, is_act_fit, is_act_lawful, is_close_due, is_mark, IsMarkDue, IsReached, IsWhole, LogEntry, Message, Moved, no_caller, node_address, node_id, NodeId, Note, Observed, observed, prepared_of, PreparedValue, recorded, Replies, ruled_turns, RuledTurn, Rules, same_Some, Silent, Starts, submitting, ticking, turn, World}
use Rattle.gateway_answer.specs.Answer.{node_of, Says}
use Rattle.gateway_answer.specs.EachAnswer.{HoldsOfEach, of_path, of_request}
use Rattle.gateway_answer.specs.Preparing.{Path, Request}
use Rattle.gateway_answer.specs.Recording.{IfRecords, IsTabled}
use Rattle.std.specs.Prelude.{⊤, slice_get}
use Rattle.gateway_answer.specs.FitLaws.{records_also, records_tabled}
use Rattle.node_core.specs.Reached as call
use Rattle.once_core.proofs.EachLemmas.{each_also, each_front, each_more}
use Rattle.once_core.proofs.PartLemmas.{history_is, PartsKeep, TurnKeeps, first_keeps, turn_keeps}
use Rattle.once_core.proofs.FirstPlays.{gateways_each}
use Rattle.once_core.proofs.CaseLemmas.{if_both, map_known, set_known}

abbrev pub NoMark : Given → Type 0
NoMark given = IfRecords (λ number message a. is_mark a ≡ false) given

none_marks : (from : Addr) → HoldsOfEach NoMark from
none_marks from = assumption

pub answers_no_mark : (o : Observed) (from : Addr) (datagram : PreparedValue) (may : HistoryAct → Bool) → NoMark (answer_by o from datagram may)
answers_no_mark o from (Path event) may = of_path NoMark from (none_marks from) o may event
answers_no_mark o from (Request number body) may = of_request NoMark from (none_marks from) o may (node_of from) number body
answers_no_mark o from _ may = tt

-- what holds of the acts that gateways record by themselves, behind any history
pub record IsPlain (P : List HistoryEntry → HistoryAct → Type 0) : Type 0 where
  pub holds : (h : List HistoryEntry) (note : Note) → P h (act_noted note)

-- what a history answers to a message, by some rules
abbrev answer_to : Rules → List HistoryEntry → Message → Given
answer_to rules h m = answer_by (observed h (node_id m.node)) (node_address m.node m.port) (prepared_of m.octets) (rules.may h (node_id m.node))

-- what holds of what answers record by some rules
abbrev pub Records : (List HistoryEntry → HistoryAct → Type 0) → Rules → Type 0
Records P rules = (h : List HistoryEntry) (m : Message) → IfRecords (λ number message a. P h a) (answer_to rules h m)

abbrev pub AllRecord : (List HistoryEntry → HistoryAct → Type 0) → List RuledTurn → Type 0
AllRecord P [] = ⊤
AllRecord P (t ∷ later) = Records P t.rules × AllRecord P later

module _ {P : List HistoryEntry → HistoryAct → Type 0} (plain : IsPlain P) where
  -- it holds of an entry, and a mark is due
  abbrev IsRight : List HistoryEntry → HistoryEntry → Type 0
  IsRight before e = P before e.act × IsMarkDue before e

  abbrev AllRight : List HistoryEntry → Type 0
  AllRight h = EachBehind IsRight [] h

  -- all entries of a book, those that wait or are torn among them, are such
  abbrev Keeps : BookValue → Type 0
  Keeps v = AllRight (v.firm ++ v.rest)

  abbrev KeepsOn : Gateway → Moved → Type 0
  KeepsOn g moved = Keeps g.book → Keeps moved.gateway.book

  alone : (h : List HistoryEntry) → AllRight h → AllRight (h ++ [])
  alone h = subst AllRight (sym (append-nil h))

  recorded_keeps : (v : BookValue) (now : ℕ) (a : HistoryAct) → v.is_broken ≡ false → P (history_of v) a
      → (is_mark a ≡ true → is_close_due (history_of v) ≡ true) → Keeps v → Keeps (recorded v now no_caller a)
  recorded_keeps v now a sound fit due keeps =
      subst AllRight (append_assoc v.firm v.rest (entry_by (history_of v) now no_caller a ∷ []))
      (each_more IsRight [] (v.firm ++ v.rest) (entry_by (history_of v) now no_caller a) keeps
      (subst (λ (h : List HistoryEntry). P h a × (is_mark a ≡ true → is_close_due h ≡ true)) (history_is v sound) (fit, due)))

  parts_keep : PartsKeep KeepsOn
  parts_keep = record {
    stays = λ g keeps. keeps;
    follows = λ g first next a b keeps. b (a keeps);
    firm = λ g cuts. alone (g.book.firm ++ g.book.rest);
    gone = λ g cuts broken keeps. alone g.book.firm (each_front IsRight [] g.book.firm g.book.rest keeps);
    torn = λ g cuts keeps. keeps;
    notes = λ g note now sound due. recorded_keeps g.book now (act_noted note) sound (plain.holds (history_of g.book) note) due;
    cuts = λ g keep keeps.
        let count : ℕ = keep - length g.book.firm in
        each_front IsRight [] (g.book.firm ++ take count g.book.rest) (drop count g.book.rest)
        (subst AllRight (sym (append_assoc g.book.firm (take count g.book.rest) (drop count g.book.rest)
        ∙ ap (λ (xs : List HistoryEntry). g.book.firm ++ xs) (take-append-drop count g.book.rest))) keeps);
    stands = λ g keeps. if_both (λ (h : List HistoryEntry). AllRight (h ++ [])) g.book.is_broken
        (alone g.book.firm (each_front IsRight [] g.book.firm g.book.rest keeps)) (alone (g.book.firm ++ g.book.rest) keeps);
  }

  acting_keeps : (now : ℕ) (m : Message) (g : Gateway) (given : Given) → IfRecords (λ number message a. P (history_of g.book) a) given → NoMark given
      → g.book.is_broken ≡ false → KeepsOn g (acting now g m (decided given))
  acting_keeps now m g (Replies number message (Some a)) fits isnt sound keeps =
      recorded_keeps g.book now a sound fits (λ mark. absurd (both_ways (is_mark a) isnt mark)) keeps
  acting_keeps now m g _ fits isnt sound keeps = keeps

  failed_keeps : (m : Message) (g : Gateway) (d : Decided) → KeepsOn g (failed_by m g d)
  failed_keeps m g (Silent why) keeps = keeps
  failed_keeps m g (Says octets a) keeps = keeps

  -- ---- turns

  -- so do those of all gateways of a world
  abbrev pub WorldKeeps : World → Type 0
  WorldKeeps w = (q : ℕ) (g : Gateway) → slice_get w.gateways q ≡ Some g → Keeps g.book

  module _ (rules : Rules) (records : Records P rules) (w : World) (all : WorldKeeps w) where
    node_keeps : (p : ℕ) (call : List LogEntry → Called) → WorldKeeps (at_node w p call)
    node_keeps p call = map_known WorldKeeps (slice_get w.nodes p) (λ none. all) (λ log there. all)

    turn_keep : TurnKeeps rules w (λ place. KeepsOn) WorldKeeps
    turn_keep = record {
      parts = λ place. parts_keep;
      redirects = λ place cause to g keeps. keeps;
      fails = λ m kept to g. failed_keeps m g (decided (failure_answer (prepared_of m.octets)));
      answers = λ m kept to g sound fresh.
          let h = history_of g.book in
          acting_keeps w.now m g (answer_to rules h m) (records h m)
          (answers_no_mark (observed h (node_id m.node)) (node_address m.node m.port) (prepared_of m.octets) (rules.may h (node_id m.node))) sound;
      moves = λ place move keeps. map_known WorldKeeps (slice_get w.gateways place) (λ none. all) (λ g there.
          set_known w.gateways place (move g).gateway g there (λ q (o : Option Gateway). (a : Gateway) → o ≡ Some a → Keeps a.book)
          (λ a e. subst (λ (b : Gateway). Keeps b.book) (same_Some (move g).gateway a e) (keeps g (all place g there))) (λ q apart. all q));
      submits = λ place packet. node_keeps place (submitting (length w.gateways) place packet);
      ticks = λ place running. node_keeps place (ticking (length w.gateways) place);
      halts = λ place. node_keeps place (called (length w.gateways) place call.Halt);
      starts = λ place fewer. node_keeps place (called (length w.gateways) place call.Start);
      hears = λ m kept from. node_keeps m.node (delivered_to_node (length w.gateways) m.node m);
      same = all;
      lost = λ v count is. is;
      later = λ now. all;
    }

  pub turns_keep : (w : World) (later : List RuledTurn) → AllRecord P later → WorldKeeps w → WorldKeeps (ruled_turns w later)
  turns_keep w [] records all = all
  turns_keep w (t ∷ later) records all = turns_keep (turn t.rules w t.turn) later records.1 (turn_keeps (turn_keep t.rules records.0 w all) t.turn)

  pub reached_keeps : (w : World) (reached : IsReached w) → AllRecord P reached.all → WorldKeeps w
  reached_keeps w reached records =
      subst WorldKeeps reached.is (turns_keep (first_world reached.rules reached.gateways reached.nodes) reached.all records
      (λ q g is. subst (λ (a : Gateway). Keeps a.book) (gateways_each reached.rules reached.gateways q g is) (first_keeps parts_keep (reached.rules q) tt)))

  firm_right : (w : World) → WorldKeeps w → (q : ℕ) → AllRight (firm_in w q)
  firm_right w all q = map_known AllRight (slice_get w.gateways q) (λ none. tt) (λ g there. each_front IsRight [] g.book.firm g.book.rest (all q g there))

  pub firm_holds : (w : World) → WorldKeeps w → (q : ℕ) → EachBehind (λ before e. P before e.act) [] (firm_in w q)
  firm_holds w all q = each_also IsRight (λ before e. P before e.act) (λ h e is. is.0) [] (firm_in w q) (firm_right w all q)

  pub firm_marks_due : (w : World) → WorldKeeps w → (q : ℕ) → AllMarksDue (firm_in w q)
  firm_marks_due w all q = each_also IsRight IsMarkDue (λ h e is. is.1) [] (firm_in w q) (firm_right w all q)

-- ---- what keeps to the table of answers

abbrev pub Lawful : List HistoryEntry → HistoryAct → Type 0
Lawful h a = is_act_lawful (observed h) a ≡ true

pub lawful_plain : IsPlain Lawful
lawful_plain = record { holds = λ h. elim [ Starts ↦ refl | _ ↦ refl ] }

-- and what is within the limits, too
abbrev pub Limited : List HistoryEntry → HistoryAct → Type 0
Limited h a = is_act_fit (observed h) a ≡ true

pub limited_plain : IsPlain Limited
limited_plain = record { holds = λ h. elim [ Starts ↦ refl | _ ↦ refl ] }

-- what a gateway makes of octets is whole
module _ (whole : (octets : List ℕ) → IsWhole (prepared_of octets)) where
  records_by : (P : List HistoryEntry → HistoryAct → Type 0) (rules : Rules)
      → ((h : List HistoryEntry) (n : NodeId) (a : HistoryAct) → IsTabled (observed h) n (rules.may h n) a → P h a) → Records P rules
  records_by P rules also h m =
      records_also (λ number message a. IsTabled (observed h) (node_id m.node) (rules.may h (node_id m.node)) a) (λ number message a. P h a)
      (λ number message a. also h (node_id m.node) a) (answer_to rules h m)
      (records_tabled (observed h) (node_address m.node m.port) (prepared_of m.octets) (rules.may h (node_id m.node)) (whole m.octets))

  pub all_lawful : (later : List RuledTurn) → AllRecord Lawful later
  all_lawful [] = tt
  all_lawful (t ∷ later) = (records_by Lawful t.rules (λ h n a is. is.lawful), all_lawful later)

  pub all_limited : (later : List RuledTurn) → AllKeepLimits later → AllRecord Limited later
  all_limited [] limits = tt
  all_limited (t ∷ later) limits = (records_by Limited t.rules (λ h n a is. is.fit (limits.0 h n a is.allowed)), all_limited later limits.1)
