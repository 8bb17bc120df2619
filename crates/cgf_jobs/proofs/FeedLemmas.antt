-- The feed of a script, line by line, and its report.
use Rattle.std.proofs.Common.{◌≡◌, ℕ, ◌+◌, true, false, List, [], ◌∷◌, ◌++◌, drop, length, Option, Some, None, slice_get, Result, Ok, Err, refl, ap, subst, sym, ◌∙◌, append_assoc}
use Rattle.std.specs.Prelude.{IfOk}
use Rattle.gw_base.specs.declared.fault.NoMemory.{NoMemory}
use Rattle.cgf_jobs.proofs.Names.{after_close, after_line, begun, counts_line, counts_of, counts_text, end_lines, ended_by, Fed, fed_from, fed_of, Feed, FeedState, file_lines, filed, HandsBack, HistoryEntry, is_earlier, IsFed, IsRefusal, IsReport, Item, items_of, Line, LineRefusal, lines_run, may_have_written, of_line, Played, printed_for, Refusal, refusal_at, Report, run_end, script_end, script_of, script_report, Setup, setup_of, setup_seen, standing_for, with_print, gateway_counts_with}
use Rattle.gateway_book.specs.declared.outcome.Counts.{Counts}
use Rattle.cgf_jobs.proofs.KindLemmas.{line_not_of_run}
use Rattle.replay_gateway.specs.Settings.{AreSet}
use Rattle.replay_gateway.specs.declared.settings.Settings.{Settings}
use Rattle.route_filter.specs.declared.rule.Rule.{Rule}
use Rattle.cgf_jobs.proofs.ReportLemmas.{line_refused, line_run}
use Rattle.cgf_jobs.proofs.PlaceLemmas.{none_at, rest_at}

-- ---- settings

pub is_seen : {setup : Setup} {s : Settings} {rules : List Rule} → AreSet setup s → rules ≡ setup.rules → setup_seen s rules ≡ setup
is_seen set same = λ i. record {
  gateways = sym set.gateways i;
  nodes = sym set.nodes i;
  size = sym set.size i;
  limits = sym set.limits i;
  offset = sym set.offset i;
  profile = sym set.profile i;
  rules = same i;
}

-- ---- lines

-- no line was run yet
pub feed_begins : (script : List Line) (settings : Setup) (s : FeedState) (printed : List ℕ) → settings ≡ setup_of script
    → s ≡ begun settings → printed ≡ [] → with_print printed (fed_from (setup_of script) 1 s script) ≡ fed_of script
feed_begins script settings s printed set state none =
    ap (λ (p : List ℕ). with_print p (fed_from (setup_of script) 1 s script)) none
    ∙ ap (λ (t : FeedState). with_print [] (fed_from (setup_of script) 1 t script)) (state ∙ ap (λ (x : Setup). begun x) set)

-- what was printed, and what is printed for the lines from a place on, are all that is printed
abbrev pub IsFedTo : List Line → ℕ → FeedState → List ℕ → Type 0
IsFedTo script at s printed = with_print printed (fed_from (setup_of script) (at + 1) s (drop at script)) ≡ fed_of script

abbrev fed_with : List ℕ → Option ℕ → Fed
fed_with printed refused = record { printed = printed; refused = refused }

module _ (script : List Line) (at : ℕ) (s : FeedState) (printed : List ℕ) where
  -- the feed from the line at this place on
  here : (l : Line) → slice_get script at ≡ Some l → IsFedTo script at s printed
      → with_print printed (fed_from (setup_of script) (at + 1) s (l ∷ drop (at + 1) script)) ≡ fed_of script
  here l found whole =
      ap (λ (lines : List Line). with_print printed (fed_from (setup_of script) (at + 1) s lines)) (sym (rest_at script at l found)) ∙ whole

  pub feed_goes_on : (t : FeedState) (l : Line) (now : List ℕ) → slice_get script at ≡ Some l → is_earlier s.now l ≡ false
      → t ≡ after_line s l → now ≡ printed ++ printed_for s l → IsFedTo script at s printed → IsFedTo script (at + 1) t now
  feed_goes_on t l now found later moved more whole =
      ap (λ (p : List ℕ). with_print p (fed_from (setup_of script) (at + 1 + 1) t (drop (at + 1) script))) more
      ∙ ap (λ (u : FeedState). with_print (printed ++ printed_for s l) (fed_from (setup_of script) (at + 1 + 1) u (drop (at + 1) script))) moved
      ∙ sym (line_run (setup_of script) (at + 1) s l (drop (at + 1) script) printed later)
      ∙ here l found whole

  pub feed_stops : (l : Line) (report : Report) → slice_get script at ≡ Some l → is_earlier s.now l ≡ true
      → report.printed.items ≡ printed → report.refused ≡ refusal_at (Some (at + 1)) → report.played ≡ None
      → IsFedTo script at s printed → IsFed (fed_of script) report
  feed_stops l report found earlier is refused played whole = record {
    printed = is ∙ ap (λ (fed : Fed). fed.printed) fed;
    refused = refused ∙ ap (λ (fed : Fed). refusal_at fed.refused) fed;
    played = played;
  }
    where
      fed : fed_with printed (Some (at + 1)) ≡ fed_of script
      fed = sym (line_refused (setup_of script) (at + 1) s l (drop (at + 1) script) printed earlier) ∙ here l found whole

  pub feed_ends : (settings : Setup) (report : Report) → slice_get script at ≡ None → settings ≡ setup_of script
      → report.printed.items ≡ printed ++ end_lines settings (after_close s.gateway s.now).history → report.refused ≡ None
      → report.played ≡ None → IsFedTo script at s printed → IsFed (fed_of script) report
  feed_ends settings report none set is refused played whole = record {
    printed = is ∙ ap (λ (x : Setup). printed ++ end_lines x (after_close s.gateway s.now).history) set ∙ ap (λ (fed : Fed). fed.printed) fed;
    refused = refused ∙ ap (λ (fed : Fed). refusal_at fed.refused) fed;
    played = played;
  }
    where
      fed : fed_with (printed ++ end_lines (setup_of script) (after_close s.gateway s.now).history) None ≡ fed_of script
      fed = ap (λ (lines : List Line). with_print printed (fed_from (setup_of script) (at + 1) s lines)) (sym (none_at script at none)) ∙ whole

  pub feed_ends_if : (settings : Setup) (result : Result Report NoMemory) → slice_get script at ≡ None → settings ≡ setup_of script
      → IfOk result (λ report. report.printed.items ≡ printed ++ end_lines settings (after_close s.gateway s.now).history)
      → IfOk result (λ report. report.refused ≡ None) → IfOk result (λ report. report.played ≡ None)
      → IsFedTo script at s printed → IfOk result (λ report. IsFed (fed_of script) report)
  feed_ends_if settings (Ok report) none set is refused played whole = feed_ends settings report none set is refused played whole
  feed_ends_if settings (Err e) none set is refused played whole = tt

-- ---- the end

-- the lines of the files, and then the line of the counts
pub end_printed : (setup : Setup) (h : List HistoryEntry) (size : ℕ) (items : List Item) (counts : Counts) (records : ℕ) (before middle now : List ℕ)
    → items ≡ items_of h → middle ≡ before ++ file_lines setup 0 items → counts ≡ counts_of (standing_for h) size
    → records ≡ length (filed h) → now ≡ middle ++ counts_text 0 (gateway_counts_with counts records)
    → now ≡ before ++ end_lines setup h
end_printed setup h size items counts records before middle now told written counted found more =
    more ∙ ap (λ (m : List ℕ). m ++ counts_text 0 (gateway_counts_with counts records)) written
    ∙ ap (λ (c : Counts). (before ++ file_lines setup 0 items) ++ counts_text 0 (gateway_counts_with c records)) counted
    ∙ ap (λ (n : ℕ). (before ++ file_lines setup 0 items)
    ++ counts_text 0 (gateway_counts_with (counts_of (standing_for h) size) n)) found
    ∙ ap (λ (is : List Item). (before ++ file_lines setup 0 is) ++ counts_line 0 (standing_for h)) told
    ∙ append_assoc before (file_lines setup 0 (items_of h)) (counts_line 0 (standing_for h))

-- ---- the report

ended_run : (place : Option ℕ) → ended_by (refusal_at place) ≡ run_end place
ended_run None = refl
ended_run (Some place) = refl

written_run : (place : Option ℕ) → may_have_written (run_end place) ≡ true
written_run None = refl
written_run (Some place) = refl

hands_none : (place : Option ℕ) (text : List ℕ) (played : Option Played) → played ≡ None →
    HandsBack (lines_run (run_end place) Feed text) played
hands_none None text played is = is
hands_none (Some place) text played is = is

-- the report of a script that the grammar takes
pub fed_is_report : (text : List ℕ) (lines : List Line) (report : Report) → script_of text ≡ Ok lines → IsFed (fed_of lines) report → IsReport Feed text report
fed_is_report text lines report read fed = record {
  printed = fed.printed ∙ ap (λ (r : Result (List Line) LineRefusal). script_report r) (sym read);
  ended = ap (λ (r : Option Refusal). ended_by r) fed.refused ∙ ended_run (fed_of lines).refused
      ∙ ap (λ (r : Result (List Line) LineRefusal). script_end r) (sym read);
  taken = ap (λ (r : Result (List Line) LineRefusal). may_have_written (script_end r)) read ∙ written_run (fed_of lines).refused;
  played = subst (λ (r : Result (List Line) LineRefusal). HandsBack (lines_run (script_end r) Feed text) report.played) (sym read)
      (hands_none (fed_of lines).refused text report.played fed.played);
}

-- the refusal of one that it doesn't take
pub refused_is : (text : List ℕ) (refusal : LineRefusal) → script_of text ≡ Err refusal → IsRefusal Feed text (record { place = refusal.place; kind = of_line refusal.kind })
refused_is text refusal read = record {
  ended = ap (λ (r : Result (List Line) LineRefusal). script_end r) (sym read);
  none = ap (λ (r : Result (List Line) LineRefusal). script_report r) read;
  untaken = ap (λ (r : Result (List Line) LineRefusal). may_have_written (script_end r)) read ∙ line_not_of_run refusal.kind;
}
