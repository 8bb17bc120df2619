use Rattle.std.proofs.Common.{◌∙◌, refl, sym, ap, ℕ, List, ◌++◌, arith}
use Rattle.cgf_jobs.proofs.Names.{printed, replay_of, setup_of, slice_get_within}
use Rattle.cgf_jobs.proofs.EndingLemmas.{ended_told, ended_written, reads_ends}
use Rattle.replay_world.specs.Summary.{summary_text}
use Rattle.replay_world.specs.declared.summary.Summary.{Summary}
use Rattle.cgf_jobs.proofs.NetworkLemmas.{at_end, at_first, at_next, never_refused, ran_network}
use Rattle.cgf_jobs.proofs.network.drill.Goals as goal

pub loop-line-init : goal.loop-line-init
loop-line-init g c = record {
  run = at_first c.args.script.now.lines c.in_ok-replay.replay c.in_ok-replay.ensures.stands
      c.in_ok-replay.ensures.gateways;
  within = omega arith;
}

pub overflow_add-at : goal.overflow_add-at
overflow_add-at g c =
    omega (arith, c.requires.few, slice_get_within c.args.script.now.lines c.loop-line.at c.in-Some.line.now (sym c.in-Some.ensures))

pub loop-line-smaller : goal.loop-line-smaller
loop-line-smaller g c =
    omega (arith, slice_get_within c.args.script.now.lines c.loop-line.at c.in-Some.line.now (sym c.in-Some.ensures))

pub loop-line-preserved : goal.loop-line-preserved
loop-line-preserved g c =
    let here = c.loop-line.invariant.run in
    let ran = c.in-Ran.ensures.ran here.v here.stands refl in
    record {
      run = at_next c.args.script.now.lines c.loop-line.at c.in-Some.line.now (sym c.in-Some.ensures) c.loop-line.replay
          c.run_line.new.self here ran.allowed ran.stands;
      within = omega (arith, slice_get_within c.args.script.now.lines c.loop-line.at c.in-Some.line.now (sym c.in-Some.ensures));
    }

-- the world refuses none
pub unreachable-requires : goal.unreachable-requires
unreachable-requires g c =
    let here = c.loop-line.invariant.run in
    never_refused c.args.script.now.lines c.loop-line.at c.in-Some.line.now (sym c.in-Some.ensures)
    c.in-Refused.field-0 c.loop-line.replay here c.requires.taken
    ((c.in-Refused.ensures.refused here.v c.in-Refused.field-0 here.stands).0 refl)

pub returns : goal.returns
returns g c =
    let lines = c.args.script.now.lines in
    let at : ℕ = c.loop-line.at in
    let none = sym c.in_default.ensures in
    let here = c.loop-line.invariant.run in
    let stands = at_end lines at none c.loop-line.replay here in
    let summed = c.in_ok-summary.ensures.sums _ stands in
    record {
      printed = c.ended.ensures.printed ∙ c.in_ok-print_summary.ensures
          ∙ ap (λ (text : List ℕ). text ++ summary_text c.in_ok-summary.summary)
          (c.from_vec-sums.ensures ∙ c.new-2.ensures.items)
          ∙ ap (λ (s : Summary). summary_text s) summed.1;
      refused = c.ended.ensures.refused;
      played = ran_network lines c.ended.result.played (c.ended.ensures.played _ summed.0)
          (ended_written (replay_of lines) lines (reads_ends c.args.script.now.kind lines c.kind-kind.ensures.reads)
          (λ front. c.a_settling_writes_all_files.ensures.machines (setup_of lines) front)
          c.a_settling_writes_all_files.ensures.written)
          (ended_told lines (reads_ends c.args.script.now.kind lines c.kind-kind.ensures.reads) c.requires.taken)
          (c.a_replay_files_each_record_once.ensures.stands (setup_of lines) lines here.gateways)
          (c.a_replay_files_each_record_once.ensures.there (setup_of lines) lines)
          (λ played. c.what_is_handed_out_is_read.ensures c.args.script.now.kind
          (printed c.args.script.now.kind lines) lines played c.kind-kind.ensures.reads);
    }
