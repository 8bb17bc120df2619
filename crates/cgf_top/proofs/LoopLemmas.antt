-- What a loop writes, and what it does as a whole, by what its code says of it.
use Rattle.std.proofs.Common.{◌≡◌, ℕ, ◌+◌, ◌∙◌, List, [], ◌∷◌, ◌++◌, map, Option, None, inl, inr, refl, sym, ap, subst}
use Rattle.std.specs.Prelude.{codes}
use Rattle.std.specs.Io.KnownBytes.{Appends}
use Rattle.area_disk.specs.contracts.quiet.QuietAreaArea.TheImpl.{ghosts as quiet_area}
use Rattle.area_disk.specs.declared.quiet.QuietArea.{QuietArea}
use Rattle.gateway_book.specs.Book.{value_of}
use Rattle.gateway_book.specs.Calls.{gateway_counts_of}
use Rattle.gateway_book.specs.declared.book.Book.{Book}
use Rattle.gateway_book.specs.declared.outcome.GatewayCounts.{GatewayCounts}
use Rattle.gw_base.specs.Written.{AppendsFront}
use Rattle.gw_base.specs.Faults.{Rose}
use Rattle.loop_run.specs.Ending.{EndsAs}
use Rattle.loop_run.specs.declared.end.LoopEnd.{LoopEnd}
use Rattle.loop_run.specs.declared.end.LoopEnd.TheVariants as end
use Rattle.loop_run.specs.declared.looped.Looped.{Looped}
use Rattle.loop_run.specs.declared.setup.LoopSetup.{LoopSetup}
use Rattle.net_link.specs.Making.{LinksState}
use Rattle.node_core.specs.Counting.{counts_of}
use Rattle.node_core.specs.Value.{NodeValue}
use Rattle.node_core.specs.declared.counts.NodeCounts.{NodeCounts}
use Rattle.replay_gateway.specs.GatewayReport.{counts_line, counts_text}
use Rattle.replay_world.specs.Report.{node_text}
use Rattle.cgf_jobs.specs.Ending.{HasCause}
use Rattle.cgf_jobs.specs.Job.{Job}
use Rattle.cgf_top.specs.LoopEnds.{IsCalmEnd, IsFine, IsLoopEnd, Loops, loop_report}
use Rattle.cgf_top.specs.LoopSteps.{WritesEnd, WritesLoop, WritesReport, lines_from, report_text}
use Rattle.cgf_jobs.specs.declared.status.Status.{Status}
use Rattle.cgf_jobs.specs.declared.status.Status.TheVariants as status

-- What the report says is what the nodes and the books count.

node_lines : (at : ℕ) (nodes : List NodeValue) → lines_from node_text at (map counts_of nodes)
    ≡ lines_from (λ place node. node_text place (counts_of node)) at nodes
node_lines at [] = refl
node_lines at (node ∷ nodes) = ap (λ (rest : List ℕ). node_text at (counts_of node) ++ rest) (node_lines (at + 1) nodes)

abbrev LoopBook : Type 0
LoopBook = Book QuietArea quiet_area

gateway_lines : (at : ℕ) (books : List LoopBook)
    → lines_from counts_text at (map (λ (book : LoopBook). gateway_counts_of (value_of book)) books)
    ≡ lines_from (λ place book. counts_line place (value_of book)) at books
gateway_lines at [] = refl
gateway_lines at (book ∷ books) =
    ap (λ (rest : List ℕ). counts_line at (value_of book) ++ rest) (gateway_lines (at + 1) books)

pub report_is : (nodes : List NodeCounts) (gateways : List GatewayCounts) (looped : Looped)
    → nodes ≡ map counts_of looped.nodes.items
    → gateways ≡ map (λ (book : LoopBook). gateway_counts_of (value_of book)) looped.books.items
    → report_text nodes gateways ≡ loop_report looped
report_is nodes gateways looped of_nodes of_books =
    (λ i. report_text (of_nodes i) (of_books i))
    ∙ (λ i. node_lines 0 looped.nodes.items i ++ gateway_lines 0 looped.books.items i ++ codes "audit fine" ++ 10 ∷ [])

module _ (setup : LoopSetup) (job : Job) (links links' : LinksState) (looped : Looped) where
  abbrev Wrote : Status → Type 0
  Wrote ended = WritesLoop setup links links' job.before job.after job.written_before job.written_after ended looped

  cause_of : (ended : Status) → Wrote ended → job.read_after ≡ job.read_before
      → HasCause ended job.read_before job.read_after job.written_before job.written_after
  cause_of status.Done wrote read = (read, wrote.2)
  cause_of status.Write wrote read = (read, wrote.2)
  cause_of status.Memory wrote read = (read, wrote.1)
  cause_of status.Link wrote read = (read, wrote.2)
  cause_of (status.Audit packet places wanted) wrote read = (read, wrote.3)
  cause_of (status.Unfinished turns packet count) wrote read = (read, wrote.5)
  cause_of _ wrote read = absurd wrote

  known_of : (ended : Status) → Wrote ended → IsLoopEnd ended
  known_of status.Words wrote = absurd wrote
  known_of (status.Input place why) wrote = absurd wrote
  known_of status.Read wrote = absurd wrote
  known_of (status.Store why) wrote = absurd wrote
  known_of _ wrote = tt

  calm_of : (ended : Status) → Wrote ended → ¬ (Rose links.faults links'.faults)
      → ¬ (Rose job.written_before job.written_after) → IsCalmEnd ended
  calm_of status.Write wrote no_link no_sink = no_sink wrote.2
  calm_of status.Link wrote no_link no_sink = no_link wrote.1
  calm_of status.Words wrote no_link no_sink = absurd wrote
  calm_of (status.Input place why) wrote no_link no_sink = absurd wrote
  calm_of status.Read wrote no_link no_sink = absurd wrote
  calm_of (status.Store why) wrote no_link no_sink = absurd wrote
  calm_of _ wrote no_link no_sink = tt

  pub loops_as : (ended : Status) → Wrote ended → job.read_after ≡ job.read_before
      → Loops setup job links links' ended looped None
  loops_as ended wrote read = record {
    done = λ is. let w = subst Wrote is wrote in (w.0, w.1);
    front = λ is. let w = subst Wrote is wrote in (w.0, w.1);
    wrong = λ packet places wanted is. let w = subst Wrote is wrote in (w.0, w.1, w.2);
    unfinished = λ turns packet count is. let w = subst Wrote is wrote in (w.0, w.1, w.2, w.3, w.4);
    memory = λ is. let w = subst Wrote is wrote in w.0;
    link = λ is. let w = subst Wrote is wrote in (w.0, w.1);
    cause = cause_of ended wrote read;
    known = known_of ended wrote;
    none = refl;
    complete = calm_of ended wrote;
  }

-- What was written of a loop, by its end.
module _ (setup : LoopSetup) (links links' : LinksState) (before after : Option (List ℕ)) (faults faults' : ℕ)
    (looped : Looped) where
  abbrev Writes : Status → Type 0
  Writes ended = WritesLoop setup links links' before after faults faults' ended looped

  wrote_report : (ended : Status) (nodes : List NodeCounts) (gateways : List GatewayCounts)
      → IsFine setup links links' looped → report_text nodes gateways ≡ loop_report looped
      → WritesReport nodes gateways before after faults faults' ended → Writes ended
  wrote_report ended nodes gateways fine says (inl done) =
      subst Writes (sym done.0) (fine, subst (λ (text : List ℕ). Appends before after text) says done.1, done.2)
  wrote_report ended nodes gateways fine says (inr (inl front)) =
      subst Writes (sym front.0)
      (fine, subst (λ (text : List ℕ). AppendsFront before after text) says front.1, front.2)
  wrote_report ended nodes gateways fine says (inr (inr none)) = subst Writes (sym none.0) (inr fine, none.1)

  pub wrote_end : (how : LoopEnd) (ended : Status) → EndsAs setup links links' looped how
      → WritesEnd before after faults faults' how ended → Writes ended
  wrote_end (end.Fine node_counts gateway_counts) ended (hands, counts) wrote =
      wrote_report ended node_counts.items gateway_counts.items (hands, counts.0, counts.1)
      (report_is node_counts.items gateway_counts.items looped counts.2.0 counts.2.1) wrote
  wrote_end (end.Wrong packet places wanted) ended (hands, counts) wrote =
      subst Writes (sym wrote.0) (hands, counts.0, counts.1, wrote.1)
  wrote_end (end.Unfinished turns packet count) ended (hands, counts, taken) wrote =
      subst Writes (sym wrote.0) (hands, counts.0, counts.1, counts.2, taken, wrote.1)
  wrote_end end.Link ended (none, rose) wrote = subst Writes (sym wrote.0) (none, rose, wrote.1)
  wrote_end end.NoMemory ended none wrote = subst Writes (sym wrote.0) (inl none, wrote.1)
