-- A network that is run line by line, and its report.
use Rattle.std.proofs.Common.{◌≡◌, ◌∙◌, refl, sym, ap, subst, ℕ, suc, ◌+◌, ◌≤◌, true, List, [], ◌∷◌, ◌++◌, drop, Option, Some, None, slice_get, Result, Ok, Err, append_assoc, append-nil, arith}
use Rattle.once_core.specs.StandsOnce.{StandsOnce}
use Rattle.cgf_jobs.proofs.Names.{AreRead, AreWritten, Drill, ended_by, EndsByReport, files_in, HandsBack, HasDrilled, HasPlayedOut, HasRun, IsAt, IsRefusal, IsReplayed, IsReport, Line, line_after, line_text, LineKind, LineRefusal, lines_after, lines_ok, lines_run, lines_unless, may_have_written, network_end, of_line, of_world, OfReplay, Played, PlayedOf, printed_by, printed_unless, Refusal, refusal_at_line, refusal_of_line, refusal_of_lines, refused_from, refused_or, replay_end, replay_of, replay_report, replayed, ReplayValue, Report, report_of_lines, script_in, Seeded, seeded_lines, setup_of, StandInFiles, WorldKind, WorldRefusal}
use Rattle.replay_world.specs.Does.{LineRan}
use Rattle.replay_world.specs.Stands.{Stands}
use Rattle.replay_world.specs.declared.replay.Replay.{Replay}
use Rattle.world_script.specs.declared.kind.ScriptKind.TheVariants as kind
use Rattle.cgf_jobs.proofs.KindLemmas.{world_of_run, line_not_of_run}
use Rattle.cgf_jobs.proofs.EndingLemmas.{some_is_none}
use Rattle.cgf_jobs.proofs.PlaceLemmas.{none_at, rest_at}

-- Lines, one after the other.
module _ (lines : List Line) (at : ℕ) (said : Line) (found : slice_get lines at ≡ Some said) where
  abbrev later : List Line
  later = drop (at + 1) lines

  rest : said ∷ later ≡ drop at lines
  rest = sym (rest_at lines at said found)

  one_more : at + 1 ≡ suc at
  one_more = omega arith

  -- a line that was run
  pub at_next : (old new : Replay) (here : IsAt lines at old) → refusal_of_line here.v said ≡ None →
      Stands (line_after here.v said) new → IsAt lines (at + 1) new
  at_next old new here allowed stands =
      let u : ReplayValue = line_after here.v said in
      record {
        v = u;
        stands = stands;
        gateways = here.gateways;
        after = ap (λ (ls : List Line). lines_after here.v ls) rest ∙ here.after;
        refused = ap (λ (n : ℕ). refused_from (suc n) u later) one_more
            ∙ sym (ap (λ (o : Option WorldKind). refused_or o (suc at) (refused_from (suc (suc at)) u later)) allowed)
            ∙ ap (λ (ls : List Line). refused_from (suc at) here.v ls) rest ∙ here.refused;
      }

  pub line_ran : (old new : Replay) (before after : List ℕ) (run : HasRun lines at old before) →
      LineRan run.here.v said before after new → HasRun lines (at + 1) new after
  unfolding at_next
  line_ran old new before after run ran =
      let v : ReplayValue = run.here.v in
      let u : ReplayValue = line_after v said in
      record {
        here = at_next old new run.here ran.allowed ran.stands;
        prints = ap (λ (text : List ℕ). text ++ printed_by u later) ran.prints
            ∙ append_assoc before (line_text v said) (printed_by u later)
            ∙ ap (λ (o : Option WorldKind). before ++ printed_unless o (line_text v said ++ printed_by u later))
            (sym ran.allowed)
            ∙ ap (λ (ls : List Line). before ++ printed_by v ls) rest ∙ run.prints;
      }

  -- one that the world refuses ends the report
  pub line_refused : (kind : WorldKind) (old : Replay) (before : List ℕ) (run : HasRun lines at old before) →
      refusal_of_line run.here.v said ≡ Some kind →
      (before ≡ report_of_lines lines) × (refusal_of_lines lines ≡ Some (record { place = suc at; kind = kind }))
  line_refused kind old before run refused =
      let v : ReplayValue = run.here.v in
      let u : ReplayValue = line_after v said in (
        sym (append-nil before)
            ∙ ap (λ (o : Option WorldKind). before ++ printed_unless o (line_text v said ++ printed_by u later))
            (sym refused)
            ∙ ap (λ (ls : List Line). before ++ printed_by v ls) rest ∙ run.prints,
        sym run.here.refused ∙ sym (ap (λ (ls : List Line). refused_from (suc at) v ls) rest)
            ∙ ap (λ (o : Option WorldKind). refused_or o (suc at) (refused_from (suc (suc at)) u later)) refused,
      )

  -- where no line is refused, this one isn't
  pub never_refused : {A : Type 0} (kind : WorldKind) (replay : Replay) (here : IsAt lines at replay) →
      refusal_of_lines lines ≡ None → refusal_of_line here.v said ≡ Some kind → A
  never_refused kind replay here none refused =
      let v : ReplayValue = here.v in
      let u : ReplayValue = line_after v said in
      some_is_none (record { place = suc at; kind = kind })
      (sym (ap (λ (o : Option WorldKind). refused_or o (suc at) (refused_from (suc (suc at)) u later)) refused)
      ∙ ap (λ (ls : List Line). refused_from (suc at) v ls) rest ∙ here.refused ∙ none)

-- No line is left.
module _ (lines : List Line) (at : ℕ) (none : slice_get lines at ≡ None) where
  empty : drop at lines ≡ []
  empty = none_at lines at none

  pub at_end : (replay : Replay) → IsAt lines at replay → Stands (replayed lines) replay
  at_end replay here =
      subst (λ (v : ReplayValue). Stands v replay)
      (sym (ap (λ (ls : List Line). lines_after here.v ls) empty) ∙ here.after) here.stands

  pub none_refused : (replay : Replay) → IsAt lines at replay → refusal_of_lines lines ≡ None
  none_refused replay here =
      sym here.refused ∙ ap (λ (ls : List Line). refused_from (suc at) here.v ls) empty

  pub all_printed : (replay : Replay) (printed : List ℕ) → HasRun lines at replay printed →
      printed ≡ report_of_lines lines
  all_printed replay printed ran =
      sym (append-nil printed) ∙ sym (ap (λ (ls : List Line). printed ++ printed_by ran.here.v ls) empty) ∙ ran.prints

-- before the first line
pub at_first : (lines : List Line) (replay : Replay) → Stands (replay_of lines) replay → 1 ≤ (setup_of lines).gateways →
    IsAt lines 0 replay
at_first lines replay stands gateways =
    record { v = replay_of lines; stands = stands; gateways = gateways; after = refl; refused = refl }

pub run_first : (lines : List Line) (replay : Replay) (printed : List ℕ) → Stands (replay_of lines) replay →
    1 ≤ (setup_of lines).gateways → printed ≡ [] → HasRun lines 0 replay printed
unfolding at_first
run_first lines replay printed stands gateways none = record {
  here = at_first lines replay stands gateways;
  prints = ap (λ (text : List ℕ). text ++ report_of_lines lines) none;
}

-- What is handed back.

-- each network that is handed back with nothing left to do has files that are read
abbrev pub HandsRead : List Line → Type 0
HandsRead lines = (played : Played) → HasPlayedOut (replayed lines) played →
    AreRead (files_in (setup_of lines)) (replayed lines).world played.shelves.items

pub ran_network : (lines : List Line) (played : Option Played) → PlayedOf (replayed lines) played →
    AreWritten (replayed lines) → EndsByReport lines → StandsOnce (files_in (setup_of lines)) (replayed lines).world →
    StandInFiles (files_in (setup_of lines)) (replayed lines).world → HandsRead lines → HandsBack (Some lines) played
ran_network lines None is written told places there read = absurd is
ran_network lines (Some played) is written told places there read = record {
  at_rest = is written;
  told = told;
  written = written;
  places = places;
  there = there;
  read = read played (is written);
}

pub replayed_whole : (lines : List Line) (report : Report) → refusal_of_lines lines ≡ None →
    report.printed.items ≡ report_of_lines lines → report.refused ≡ None → PlayedOf (replayed lines) report.played →
    AreWritten (replayed lines) → EndsByReport lines → StandsOnce (files_in (setup_of lines)) (replayed lines).world →
    StandInFiles (files_in (setup_of lines)) (replayed lines).world → HandsRead lines → IsReplayed lines report
replayed_whole lines report none printed refused played written told places there read = record {
  printed = printed;
  refused = refused ∙ sym (ap refusal_at_line none);
  played = subst (λ (o : Option WorldRefusal). HandsBack (lines_unless o lines) report.played) (sym none)
      (ran_network lines report.played played written told places there read);
}

pub replayed_front : (lines : List Line) (report : Report) (refusal : WorldRefusal) →
    refusal_of_lines lines ≡ Some refusal → report.printed.items ≡ report_of_lines lines →
    report.refused ≡ refusal_at_line (Some refusal) → report.played ≡ None → IsReplayed lines report
replayed_front lines report refusal some printed refused played = record {
  printed = printed;
  refused = refused ∙ sym (ap refusal_at_line some);
  played = subst (λ (o : Option WorldRefusal). HandsBack (lines_unless o lines) report.played) (sym some) played;
}

-- the refusal of a line at a place from 0
pub refused_at : (at : ℕ) (kind : WorldKind) (refused : Option Refusal) →
    refused ≡ Some (record { place = at + 1; kind = of_world kind }) →
    refused ≡ refusal_at_line (Some (record { place = suc at; kind = kind }))
refused_at at kind refused is = let more : at + 1 ≡ suc at = omega arith in cc

-- The report of a text.

written_at : (o : Option WorldRefusal) → may_have_written (network_end o) ≡ true
written_at None = refl
written_at (Some refusal) = world_of_run refusal.kind

ends_at : (o : Option WorldRefusal) → ended_by (refusal_at_line o) ≡ network_end o
ends_at None = refl
ends_at (Some refusal) = refl

hands_lines : (text : List ℕ) (lines : List Line) (played : Option Played) (o : Option WorldRefusal) →
    script_in kind.Replay text ≡ Ok lines → HandsBack (lines_unless o lines) played →
    HandsBack (lines_run (network_end o) OfReplay text) played
hands_lines text lines played None read hands =
    subst (λ (r : Result (List Line) LineRefusal). HandsBack (lines_ok r) played) (sym read) hands
hands_lines text lines played (Some refusal) read hands = hands

pub replayed_is_report : (text : List ℕ) (lines : List Line) (report : Report) → script_in kind.Replay text ≡ Ok lines →
    IsReplayed lines report → IsReport OfReplay text report
replayed_is_report text lines report read is = record {
  printed = is.printed ∙ sym (ap (λ (r : Result (List Line) LineRefusal). replay_report r) read);
  ended = ap ended_by is.refused ∙ ends_at (refusal_of_lines lines)
      ∙ sym (ap (λ (r : Result (List Line) LineRefusal). replay_end r) read);
  taken = ap (λ (r : Result (List Line) LineRefusal). may_have_written (replay_end r)) read
      ∙ written_at (refusal_of_lines lines);
  played = subst (λ (r : Result (List Line) LineRefusal). HandsBack (lines_run (replay_end r) OfReplay text) report.played)
      (sym read) (hands_lines text lines report.played (refusal_of_lines lines) read is.played);
}

pub replay_refused : (text : List ℕ) (place : ℕ) (why : LineKind) →
    script_in kind.Replay text ≡ Err (record { place = place; kind = why }) →
    IsRefusal OfReplay text (record { place = place; kind = of_line why })
replay_refused text place why read = record {
  ended = ap (λ (r : Result (List Line) LineRefusal). replay_end r) (sym read);
  none = ap (λ (r : Result (List Line) LineRefusal). replay_report r) read;
  untaken = ap (λ (r : Result (List Line) LineRefusal). may_have_written (replay_end r)) read ∙ line_not_of_run why;
}

-- The report of a drill.
pub drilled_is_report : (of : Seeded) (octets : List ℕ) (report : Report) → HasDrilled (seeded_lines of) report →
    IsReport (Drill of) octets report
drilled_is_report of octets report is = record {
  printed = is.printed;
  ended = ap ended_by is.refused;
  taken = refl;
  played = is.played;
}
