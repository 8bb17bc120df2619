use Rattle.std.proofs.Common.{◌≡◌, ℕ, List, Option, None, sym, ap, ◌∙◌, subst, arith}
use Rattle.file_writer.proofs.Names.{calls_at, closed_by, ClosesOpen, closing_of, ClosureReason, Cut, Cuts, cuts_at, Cutting, Ending, file_of, Filed, Follows, IsBehind, Makes, mark_item, mark_reason, OpenFile, Pairs, run_after, settings_of, still, Went}
use Rattle.file_rotate.specs.Items.{Item}
use Rattle.file_writer.proofs.FollowingLemmas.{close_follows, close_stays, close_up, closed_count, closed_sealed, makes_closing, mark_calls, mark_closes, mark_cuts_is, mark_file_is, mark_run, no_answer, only_before, pairs_closed}
use Rattle.file_writer.proofs.LeavingLemmas.{close_left}
use Rattle.file_writer.proofs.MakingLemmas.{ended_at}
use Rattle.file_writer.proofs.stream.mark.Given as given
use Rattle.file_writer.proofs.stream.mark.Goals as goal
use Rattle.file_writer.proofs.stream.mark.Goals.{After-close}

module _ (g : given.Over) (c : After-close g) where
  -- why the file is closed
  is_reason : c.reason_of.result ≡ mark_reason c.args.stream.cutter.limits c.args.stream.cutter.file c.args.closes c.args.moment
  is_reason = c.reason_of.ensures _ (ap (λ (cut : Cut). cut.before) c.mark-cut.ensures.cut)

  closes : ClosesOpen c.reason_of.result c.args.stream.file.growing
  closes =
      mark_closes c.args.stream.cutter.limits c.args.stream.cutter.file c.args.closes c.args.moment c.args.stream.file.growing c.reason_of.result
      c.requires.safe.pairs is_reason

  module _ (run : List (Filed (List ℕ))) (behind : IsBehind g.F.Shelf c.args.s run c.args.stream c.args.shelf.now) where
    abbrev item : Item (List ℕ)
    item = mark_item c.args.closes c.args.moment

    cuts : only_before c.reason_of.result ≡ cuts_at c.args.stream.cutter.limits run item
    cuts =
        cc (
          is_reason,
          mark_cuts_is c.args.stream.cutter.limits (file_of run) c.args.closes c.args.moment,
          c.cutter_keeps_the_run.ensures.cuts c.args.stream.cutter.limits run item,
        )

    -- the calls are those for the item
    makes : (ended : Ending)
        → Makes g.F.Shelf (closing_of (settings_of c.args.gateway.now) c.args.s c.args.stream.file (g.F.Shelf.unsealed c.args.shelf.now c.args.s)
        c.reason_of.result) ended c.args.shelf.now c.close.new.shelf
        → Makes g.F.Shelf (calls_at (settings_of c.args.gateway.now) c.args.s c.args.stream.file.sealed (cuts_at c.args.stream.cutter.limits run item)
        c.args.stream.file.closed run item) ended c.args.shelf.now c.close.new.shelf
    makes ended made = search (arith, mark_calls, cuts, makes_closing, closes)

pub returns-in_err-file-clause-takes : goal.returns-in_err-file-clause-takes
returns-in_err-file-clause-takes g c = λ run behind.
    record {
      makes = ended_at g.F.Shelf _ _ _ _ _ c.from_residual.ensures
          (makes g (goal.at.returns-in_err-file-clause-takes g c).After-close run behind _ c.in_err-file.ensures.makes);
      after = no_answer _ _ _ c.from_residual.ensures;
    }

pub returns-clause-takes : goal.returns-clause-takes
returns-clause-takes g c = λ run behind.
    let stream = c.args.stream in
    let item = mark_item c.args.closes c.args.moment in
    let at = (goal.at.returns-clause-takes g c).After-close in
    let same = cuts g at run behind in
    let reason : Option ClosureReason = c.reason_of.result in
    let file = c.in_ok-file.file in
    record {
      makes = makes g at run behind Went c.in_ok-file.ensures.makes;
      after = record {
        behind = record {
          cut = search (arith, mark_file_is, c.cutter_keeps_the_run.ensures.kept);
          follows = subst (λ (rest : List (Filed (List ℕ))). Follows g.F.Shelf c.args.s rest file c.close.new.shelf)
              (mark_run reason run c.args.closes c.args.moment ∙ ap (λ (at : Cuts). run_after at run item) same)
              (close_follows g.F.Shelf c.args.s run stream.file file reason _ _ behind.follows
              c.in_ok-file.ensures.closed c.in_ok-file.ensures.still);
        };
        closed = closed_count reason stream.file file c.in_ok-file.ensures.closed
            ∙ ap (λ (at : Cuts). closed_by at.after (closed_by at.before stream.file.closed)) same;
        sealed = closed_sealed reason stream.file file c.in_ok-file.ensures.closed;
        limits = ap (λ (kept : Cutting). kept.limits) c.mark-cut.ensures.kept;
        profile = ap (λ (kept : Cutting). kept.profile) c.mark-cut.ensures.kept;
      };
    }

pub returns-clause-safe : goal.returns-clause-safe
returns-clause-safe g c =
    let stream = c.args.stream in
    let file = c.in_ok-file.file in
    let reason : Option ClosureReason = c.reason_of.result in
    record {
      limits = search arith;
      pairs = subst (λ (kept : Option OpenFile). Pairs kept file.growing)
          (ap (λ (r : Option ClosureReason). still r stream.cutter.file None) (is_reason g (goal.at.returns-clause-safe g c).After-close)
          ∙ sym (ap (λ (kept : Cutting). kept.file) c.mark-cut.ensures.kept))
          (pairs_closed reason stream.cutter.file stream.file file c.requires.safe.pairs c.in_ok-file.ensures.closed);
      up = search (arith, close_up);
    }

pub returns-clause-others : goal.returns-clause-others
returns-clause-others g c = λ told t other.
    close_stays g.F.Shelf (settings_of c.args.gateway.now) c.args.s t c.args.stream.file c.reason_of.result _ _ other
    told (c.in_ok-file.ensures.others told t other) c.in_ok-file.ensures.makes

pub returns-clause-left : goal.returns-clause-left
returns-clause-left g c = λ told start stale left.
    close_left start stale c.args.stream.file c.in_ok-file.file c.reason_of.result _ _
    (closes g (goal.at.returns-clause-left g c).After-close) c.in_ok-file.ensures.closed (c.in_ok-file.ensures.still told) left

pub returns-in_err-file-clause-shut : goal.returns-in_err-file-clause-shut
returns-in_err-file-clause-shut g c = c.in_err-file.ensures.shut

pub returns-clause-shut : goal.returns-clause-shut
returns-clause-shut g c = c.in_ok-file.ensures.shut
