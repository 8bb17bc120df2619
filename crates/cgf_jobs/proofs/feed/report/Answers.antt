use Rattle.std.proofs.Common.{sym, ◌∙◌, arith}
use Rattle.cgf_jobs.proofs.Names.{setup_seen, slice_get_within, state_of}
use Rattle.cgf_jobs.proofs.FeedLemmas.{feed_begins, feed_ends_if, feed_goes_on, feed_stops, is_seen}
use Rattle.cgf_jobs.proofs.feed.report.Goals as goal

pub loop-line-init : goal.loop-line-init
loop-line-init c = record {
  fed = feed_begins c.args.script.lines (setup_seen c.of-settings.result c.in_ok-rules.rules) (state_of c.in_ok-feed.feed) c.in_ok-feed.feed.printed.items
      (is_seen c.of-settings.ensures.set c.in_ok-rules.ensures) c.in_ok-feed.ensures.state c.in_ok-feed.ensures.printed;
  sound = c.of-settings.ensures.sound;
  within = omega arith;
}

pub overflow_add-at : goal.overflow_add-at
overflow_add-at c = omega (arith, c.requires, slice_get_within c.args.script.lines c.loop-line.at c.in-Some.line.now (sym c.in-Some.ensures))

pub refused-requires : goal.refused-requires
refused-requires c = omega (arith, c.requires, slice_get_within c.args.script.lines c.loop-line.at c.in-Some.line.now (sym c.in-Some.ensures))

pub loop-line-smaller : goal.loop-line-smaller
loop-line-smaller c = omega (arith, slice_get_within c.args.script.lines c.loop-line.at c.in-Some.line.now (sym c.in-Some.ensures))

pub loop-line-preserved : goal.loop-line-preserved
loop-line-preserved c = record {
  fed = feed_goes_on c.args.script.lines c.loop-line.at (state_of c.loop-line.feed) c.loop-line.feed.printed.items (state_of c.run.new.self)
      c.in-Some.line.now c.run.new.self.printed.items (sym c.in-Some.ensures) (sym c.is_earlier.ensures ∙ c.if-is_earlier.false)
      c.in_ok-run.ensures.state c.in_ok-run.ensures.printed c.loop-line.invariant.fed;
  sound = c.loop-line.invariant.sound;
  within = omega (arith, slice_get_within c.args.script.lines c.loop-line.at c.in-Some.line.now (sym c.in-Some.ensures));
}

pub returns-then-is_earlier : goal.returns-then-is_earlier
returns-then-is_earlier c =
    feed_stops c.args.script.lines c.loop-line.at (state_of c.loop-line.feed) c.loop-line.feed.printed.items c.in-Some.line.now c.refused.result
    (sym c.in-Some.ensures) (sym c.is_earlier.ensures ∙ c.if-is_earlier.true) c.refused.ensures.printed c.refused.ensures.refused c.refused.ensures.played
    c.loop-line.invariant.fed

pub returns : goal.returns
returns c =
    feed_ends_if c.args.script.lines c.loop-line.at (state_of c.loop-line.feed) c.loop-line.feed.printed.items (setup_seen c.of-settings.result c.in_ok-rules.rules)
    c.end.result (sym c.in_default.ensures) (is_seen c.of-settings.ensures.set c.in_ok-rules.ensures) c.end.ensures.printed c.end.ensures.refused c.end.ensures.played
    c.loop-line.invariant.fed
