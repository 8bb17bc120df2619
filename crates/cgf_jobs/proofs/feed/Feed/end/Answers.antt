use Rattle.std.proofs.Common.{length, refl, ap, ◌∙◌, ◌++◌}
use Rattle.cgf_jobs.proofs.Names.{after_close, counts_of, counts_text, filed, files_in, GatewayValue, items_of, Setup, setup_seen, standing_for, stream_files}
use Rattle.gateway_book.specs.declared.outcome.GatewayCounts.{GatewayCounts}
use Rattle.cgf_jobs.proofs.FeedLemmas.{end_printed}
use Rattle.cgf_jobs.proofs.feed.Feed.end.Goals as goal

pub returns-clause-printed : goal.returns-clause-printed
returns-clause-printed c =
    let closed : GatewayValue = after_close c.args.self.gateway c.args.self.moment in
    let setup : Setup = setup_seen c.args.settings c.args.rules in
    end_printed setup closed.history c.write_files.new.gateway.reserved (items_of closed.history) c.counts-counts.result
    c.in_ok-shelf.records c.args.self.printed.items c.print_files.new.printed.items c.print_counts.new.printed.items refl
    (c.in_ok-print_files.ensures setup (items_of closed.history)
    (λ s h. c.in_ok-shelf.ensures.files s h
    ∙ ap (λ (g : GatewayValue). stream_files (files_in setup 0) s (items_of g.history)) c.close.ensures))
    (c.counts-counts.ensures
    ∙ ap (λ (g : GatewayValue). counts_of (standing_for g.history) c.write_files.new.gateway.reserved)
    (c.in_ok-shelf.ensures.same ∙ c.close.ensures))
    (c.in_ok-shelf.ensures.records ∙ ap (λ (g : GatewayValue). length (filed g.history)) c.close.ensures)
    (c.in_ok-print_counts.ensures
    ∙ ap (λ (t : GatewayCounts). c.print_files.new.printed.items ++ counts_text 0 t) c.gateway_counts.ensures)
