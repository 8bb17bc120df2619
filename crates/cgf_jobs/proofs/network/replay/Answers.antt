use Rattle.std.proofs.Common.{◌∙◌, refl, sym, ℕ, suc, arith}
use Rattle.cgf_jobs.proofs.Names.{printed, replay_of, setup_of, slice_get_within}
use Rattle.cgf_jobs.proofs.EndingLemmas.{ended_told, ended_written, reads_ends}
use Rattle.cgf_jobs.proofs.NetworkLemmas.{all_printed, at_end, line_ran, line_refused, none_refused, refused_at, replayed_front, replayed_whole, run_first}
use Rattle.cgf_jobs.proofs.network.replay.Goals as goal

pub loop-line-init : goal.loop-line-init
loop-line-init g c = record {
  run = run_first c.args.script.now.lines c.in_ok-replay.replay c.from_vec-printed.result c.in_ok-replay.ensures.stands
      c.in_ok-replay.ensures.gateways (c.from_vec-printed.ensures ∙ c.new-2.ensures.items);
  within = omega arith;
}

pub overflow_add-at : goal.overflow_add-at
overflow_add-at g c =
    omega (arith, c.requires, slice_get_within c.args.script.now.lines c.loop-line.at c.in-Some.line.now (sym c.in-Some.ensures))

pub refused-requires : goal.refused-requires
refused-requires g c =
    omega (arith, c.requires, slice_get_within c.args.script.now.lines c.loop-line.at c.in-Some.line.now (sym c.in-Some.ensures))

pub loop-line-smaller : goal.loop-line-smaller
loop-line-smaller g c =
    omega (arith, slice_get_within c.args.script.now.lines c.loop-line.at c.in-Some.line.now (sym c.in-Some.ensures))

pub loop-line-preserved : goal.loop-line-preserved
loop-line-preserved g c = record {
  run = line_ran c.args.script.now.lines c.loop-line.at c.in-Some.line.now (sym c.in-Some.ensures) c.loop-line.replay
      c.run_line.new.self c.loop-line.printed c.run_line.new.out c.loop-line.invariant.run
      (c.in-Ran.ensures.ran c.loop-line.invariant.run.here.v c.loop-line.invariant.run.here.stands refl);
  within = omega (arith, slice_get_within c.args.script.now.lines c.loop-line.at c.in-Some.line.now (sym c.in-Some.ensures));
}

pub returns-in-Refused : goal.returns-in-Refused
returns-in-Refused g c =
    let lines = c.args.script.now.lines in
    let at : ℕ = c.loop-line.at in
    let run = c.loop-line.invariant.run in
    let refused = (c.in-Refused.ensures.refused run.here.v c.in-Refused.kind run.here.stands).0 refl in
    let ends = line_refused lines at c.in-Some.line.now (sym c.in-Some.ensures) c.in-Refused.kind c.loop-line.replay
    c.loop-line.printed run refused in
    let kept = (c.in-Refused.ensures.kept c.in-Refused.kind refl).1 in
    replayed_front lines c.refused.result (record { place = suc at; kind = c.in-Refused.kind }) ends.1
    (c.refused.ensures.printed ∙ kept ∙ ends.0)
    (refused_at at c.in-Refused.kind c.refused.result.refused c.refused.ensures.refused) c.refused.ensures.played

pub returns : goal.returns
returns g c =
    let lines = c.args.script.now.lines in
    let at : ℕ = c.loop-line.at in
    let none = sym c.in_default.ensures in
    let run = c.loop-line.invariant.run in
    let stands = at_end lines at none c.loop-line.replay run.here in
    replayed_whole lines c.ended.result (none_refused lines at none c.loop-line.replay run.here)
    (c.ended.ensures.printed ∙ all_printed lines at none c.loop-line.replay c.loop-line.printed run)
    c.ended.ensures.refused (c.ended.ensures.played _ stands)
    (ended_written (replay_of lines) lines (reads_ends c.args.script.now.kind lines c.kind-kind.ensures.reads)
    (λ front. c.a_settling_writes_all_files.ensures.machines (setup_of lines) front)
    c.a_settling_writes_all_files.ensures.written)
    (ended_told lines (reads_ends c.args.script.now.kind lines c.kind-kind.ensures.reads)
    (none_refused lines at none c.loop-line.replay run.here))
    (c.a_replay_files_each_record_once.ensures.stands (setup_of lines) lines run.here.gateways)
    (c.a_replay_files_each_record_once.ensures.there (setup_of lines) lines)
    (λ played. c.what_is_handed_out_is_read.ensures c.args.script.now.kind (printed c.args.script.now.kind lines) lines
    played c.kind-kind.ensures.reads)
