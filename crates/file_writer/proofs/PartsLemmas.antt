-- A writer that takes items in parts.
use Rattle.std.proofs.Common.{◌≡◌, ◌∙◌, refl, sym, ap, subst, ℕ, ◌+◌, ◌<◌, max, IsTrue, List, [], ◌++◌, length, take, drop, Result, Ok, Err, Option, inl, inr, arith, append_assoc, length-take, take-add, take-append-drop}
use Rattle.std.specs.Prelude.{OnOk}
use Rattle.file_writer.proofs.Names.{AreAmong, begun_of, Call, calls_of, cases_lt, closed_of, DivisionGoesOn, Ending, ending_at, ending_of, Ghosts, Holds, IsAt, Item, LeavesUnsealed, Makes, sealed_in, SealedFile, Settings, settings_in, shelf_of, ShelfFault, stream_count, take_min, UnsealedFile, Went}
use Rattle.file_writer.specs.Advancing.{Advances, KeepsFiles, calls}
use Rattle.file_writer.specs.Parts.{HasAdvanced, part_of}
use Rattle.file_writer.specs.declared.writer.Writer.{Writer}
use Rattle.file_writer.proofs.CallsLemmas.{same_of}
use Rattle.file_writer.proofs.AllLemmas.{calls-append}
use Rattle.file_writer.proofs.AmongLemmas.{among_fewer, begun_grow, open_none}
use Rattle.file_writer.proofs.FilesLemmas.{closed_of-append}
use Rattle.file_writer.proofs.HoldingLemmas.{begun}
use Rattle.file_writer.proofs.WritingLemmas.{on_ok}
use Rattle.file_writer.proofs.MakingLemmas.{by_calls, ending_err, makes_none, makes_stop, makes_then}

-- what calls leave unsealed, and others after them
leaves_then : DivisionGoesOn → (settings : Settings) (closed sealed later : ℕ → ℕ) (before items more : List Item)
    (old mid new : ℕ → Option UnsealedFile)
    → ((s : ℕ) → s < stream_count → later s ≡ sealed s)
    → LeavesUnsealed settings closed sealed before (before ++ items) old mid
    → LeavesUnsealed settings closed later (before ++ items) ((before ++ items) ++ more) mid new
    → LeavesUnsealed settings closed sealed before ((before ++ items) ++ more) old new
leaves_then law settings closed sealed later before items more old mid new same first next = record {
  wrote = λ s h some.
      let front : List Item = before ++ items in
      let longer = closed_of-append law settings s front more in
      let grown = begun_grow law settings closed front more s in
      elim (cases_lt (max (closed s + closed_of settings s front) (later s))
      (closed s + begun_of settings s (front ++ more))) [
        | inl more_written ↦ next.wrote s h more_written
        | inr none ↦
            (open_none settings closed (front ++ more) s (new s) (omega (arith, none, some, longer, same s h))).1
            (next.stays s h none
            ∙ (open_none settings closed front s (mid s) (omega (arith, none, some, grown, same s h))).0
            (first.wrote s h (omega (arith, none, some, same s h))))
      ];
  stays = λ s h few.
      let longer = closed_of-append law settings s before items in
      let begins = begun_grow law settings closed (before ++ items) more s in
      next.stays s h (omega (arith, few, longer, same s h)) ∙ first.stays s h (omega (arith, few, begins));
  beyond = λ s h. next.beyond s h ∙ first.beyond s h;
}

-- however many calls were made, the files are the first ones
pub keeps_by : {A : Type 0} (tells : Ghosts A) → DivisionGoesOn → (closed : ℕ → ℕ) (before items : List Item)
    (old new : Writer A tells) (ended : Ending)
    → Makes tells (calls tells closed before items old new) ended (shelf_of old) (shelf_of new)
    → IsTrue tells.tells_files → (stood : ℕ → List SealedFile) (rest : List Item)
    → Holds old closed stood ((before ++ items) ++ rest) before
    → KeepsFiles tells closed before items old new stood ((before ++ items) ++ rest)
keeps_by tells law closed before items old new ended made told stood rest holds = search (arith, begun, made.sealed)

module _ {A : Type 0} (tells : Ghosts A) (law : DivisionGoesOn) (closed : ℕ → ℕ) (before items more : List Item) where
  joined : (before ++ items) ++ more ≡ before ++ (items ++ more)
  joined = append_assoc before items more

  -- Both calls came to their ends, or the second one did not.
  both : (old mid new : Writer A tells) (n : ℕ) (result : Result ℕ ShelfFault) → settings_in mid ≡ settings_in old
      → Advances tells closed before items old mid (Ok n)
      → Advances tells closed (before ++ items) more mid new result
      → Advances tells closed before (items ++ more) old new result
  both old mid new n result stays first next =
      let q : Settings = settings_in old in
      let xs : List Call = calls_of q closed (sealed_in old) before items in
      let ys : List Call = calls_of q closed (sealed_in old) (before ++ items) more in
      let later : calls tells closed (before ++ items) more mid new ≡ ys = search (arith, same_of, first.sealed) in
      let made : Makes tells (calls_of q closed (sealed_in old) before (items ++ more)) (ending_of result)
      (shelf_of old) (shelf_of new) = search (arith, by_calls, calls-append, makes_then) in
      record {
        makes = made;
        at = subst (λ (all : List Item). OnOk result (IsAt new closed all)) joined next.at;
        sealed = on_ok result (λ same s h. same s h ∙ first.sealed s h) next.sealed;
        leaves = search (arith, joined, leaves_then, first.leaves, next.leaves);
        shut = λ files plan most among shut.
            let all = subst (λ (some : List Item). AreAmong q closed some most) (sym joined) among in
            next.shut files plan most
            (subst (λ (p : Settings). AreAmong p closed ((before ++ items) ++ more) most) (sym stays) all)
            (first.shut files plan most (among_fewer law q closed (before ++ items) more most all) shut);
        keeps = keeps_by tells law closed before (items ++ more) old new (ending_of result) made;
        holds = λ told stood rest holds.
            let whole : (before ++ (items ++ more)) ++ rest ≡ (before ++ items) ++ (more ++ rest) =
            ap (λ (some : List Item). some ++ rest) (sym joined) ∙ append_assoc (before ++ items) more rest in
            subst (λ (all : List Item). OnOk result (Holds new closed stood (all ++ rest) all)) joined
            (next.holds told stood rest
            (subst (λ (all : List Item). Holds mid closed stood all (before ++ items))
            (sym (append_assoc (before ++ items) more rest))
            (first.holds told stood (more ++ rest)
            (subst (λ (all : List Item). Holds old closed stood all before) whole holds))));
      }

  -- The first one didn't.
  first_alone : (old new : Writer A tells) (fault : ShelfFault)
      → Advances tells closed before items old new (Err fault)
      → Advances tells closed before (items ++ more) old new (Err fault)
  first_alone old new fault first =
      let q : Settings = settings_in old in
      let made : Makes tells (calls_of q closed (sealed_in old) before (items ++ more)) (ending_at fault)
      (shelf_of old) (shelf_of new) = search (arith, by_calls, calls-append, makes_stop, ending_err) in
      record {
        makes = made;
        at = first.at;
        sealed = first.sealed;
        leaves = first.leaves;
        shut = λ files plan most among shut.
            first.shut files plan most
            (among_fewer law q closed (before ++ items) more most
            (subst (λ (some : List Item). AreAmong q closed some most) (sym joined) among)) shut;
        keeps = keeps_by tells law closed before (items ++ more) old new (ending_at fault) made;
        holds = λ told stood rest holds. tt;
      }

-- a writer that began has taken no item
pub none_taken : {A : Type 0} (tells : Ghosts A) → DivisionGoesOn → (closed : ℕ → ℕ) (writer : Writer A tells)
    → IsAt writer closed [] → HasAdvanced tells closed [] writer writer
none_taken tells law closed writer at n = record {
  makes = makes_none tells (shelf_of writer);
  at = at;
  sealed = λ s h. refl;
  leaves = search arith;
  shut = λ files plan most among shut. shut;
  keeps = keeps_by tells law closed [] [] writer writer Went (makes_none tells (shelf_of writer));
  holds = λ told stood rest holds. holds;
}

module _ {A : Type 0} (tells : Ghosts A) (law : DivisionGoesOn) (closed : ℕ → ℕ) (all : List Item) (from most : ℕ)
    (first now later : Writer A tells) (same : settings_in now ≡ settings_in first)
    (taken : HasAdvanced tells closed (take from all) first now) where
  abbrev part : List Item
  part = part_of from most all

  reached : take (from + length part) all ≡ take from all ++ part
  reached = search (arith, take-add, length-take, take_min)

  -- with the part behind them
  with_part : (result : Result ℕ ShelfFault) → Advances tells closed (take from all) part now later result
      → Advances tells closed [] (take from all ++ part) first later result
  with_part result done = both tells law closed [] (take from all) part first now later 0 result same (taken 0) done

  pub part_taken : (n : ℕ) → Advances tells closed (take from all) part now later (Ok n)
      → HasAdvanced tells closed (take (from + length part) all) first later
  part_taken n done k = search (arith, with_part, reached)

  pub part_broken : (fault : ShelfFault) → Advances tells closed (take from all) part now later (Err fault)
      → Advances tells closed [] all first later (Err fault)
  part_broken fault done =
      let behind : List Item = drop most (drop from all) in
      let whole : (take from all ++ part) ++ behind ≡ all =
      append_assoc (take from all) part behind
      ∙ ap (λ (items : List Item). take from all ++ items) (take-append-drop most (drop from all))
      ∙ take-append-drop from all in
      subst (λ (items : List Item). Advances tells closed [] items first later (Err fault)) whole
      (first_alone tells law closed [] (take from all ++ part) behind first later fault (with_part (Err fault) done))
