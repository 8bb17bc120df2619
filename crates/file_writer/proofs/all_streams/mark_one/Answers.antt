use Rattle.std.proofs.Common.{ℕ, ◌+◌, [], ◌∷◌, arith}
use Rattle.file_writer.proofs.Names.{Item, mark_item, mark_told, Stream, stream_calls, stream_division, StreamAt, up_to}
use Rattle.file_writer.proofs.AllLemmas.{all_done, at_stays, calls_are, each_set, mark_stream_item, not_yet, safe_set, taken_at, up_to_other}
use Rattle.file_writer.proofs.FollowingLemmas.{no_result}
use Rattle.file_writer.proofs.LeavingLemmas.{left_set}
use Rattle.file_writer.proofs.MakingLemmas.{by_calls, ended_at}
use Rattle.file_writer.proofs.all_streams.mark_one.Goals as goal

pub returns-in_err-streams-clause-takes : goal.returns-in_err-streams-clause-takes
returns-in_err-streams-clause-takes g c = λ settings closed sealed before same each.
    let s : ℕ = c.args.s in
    let item : Item = mark_told c.args.closes c.args.moment in
    let x = mark_item c.args.closes c.args.moment in
    let stream : Stream = c.index-streams-s.result in
    let goes = mark_stream_item settings.profile settings.rules s c.args.closes c.args.moment in
    let at : StreamAt g.F.Shelf settings closed sealed before s stream c.args.shelf.now = search (arith, not_yet) in
    record {
      makes = ended_at g.F.Shelf (stream_calls settings closed sealed before (item ∷ []) s) _ _ _ _
          c.from_residual.ensures
          (by_calls (calls_are c.division_goes_on.ensures g.F.Shelf settings closed sealed before item s _ x stream
          c.args.shelf.now same goes at)
          (c.in_err-streams.ensures.takes (stream_division settings s before).left_open at.behind).makes);
      at = no_result c.from_residual.result c.in_err-streams.field-0.0 _ c.from_residual.ensures;
      shut = λ files plan most among shut. c.in_err-streams.ensures.shut files plan most shut;
    }

pub returns-clause-takes : goal.returns-clause-takes
returns-clause-takes g c = λ settings closed sealed before same each.
    let s : ℕ = c.args.s in
    let item : Item = mark_told c.args.closes c.args.moment in
    let x = mark_item c.args.closes c.args.moment in
    let stream : Stream = c.index-streams-s.result in
    let law = c.division_goes_on.ensures in
    let goes = mark_stream_item settings.profile settings.rules s c.args.closes c.args.moment in
    let at : StreamAt g.F.Shelf settings closed sealed before s stream c.args.shelf.now = search (arith, not_yet) in
    let taken = c.in_ok-streams.ensures.takes (stream_division settings s before).left_open at.behind in
    record {
      makes = search (arith, by_calls, calls_are);
      at = each_set (λ (t : ℕ) (st : Stream). StreamAt g.F.Shelf settings closed sealed (up_to (s + 1) before item t) t
          st c.mark.new.shelf) c.args.streams.now s c.in_ok-streams.field-0
          (omega (arith, c.requires.sixteen, c.requires.within))
          (rw (all_done (s + 1) before item s (omega arith)) (taken_at law g.F.Shelf settings closed sealed before item s x stream
          c.in_ok-streams.field-0 _ _ goes at taken.after))
          (λ t d other h. rw (← (up_to_other s before item t other))
          (at_stays g.F.Shelf settings closed sealed (up_to s before item t) t _ _ _
          (λ told. c.in_ok-streams.ensures.others told t other) (each t d h)));
      shut = λ files plan most among shut. c.in_ok-streams.ensures.shut files plan most shut;
    }

pub returns-clause-safe : goal.returns-clause-safe
returns-clause-safe g c =
    safe_set g.F.Shelf c.args.streams.now c.args.s c.in_ok-streams.field-0 c.args.shelf.now c.mark.new.shelf
    c.requires.within c.requires.sixteen c.in_ok-streams.ensures.safe c.in_ok-streams.ensures.others c.requires.safe

pub returns-clause-left : goal.returns-clause-left
returns-clause-left g c = λ told start stale left.
    let s : ℕ = c.args.s in
    left_set g.F.Shelf start stale c.args.streams.now s c.in_ok-streams.field-0 c.args.shelf.now c.mark.new.shelf
    c.requires.within c.requires.sixteen
    (c.in_ok-streams.ensures.left told (start s) (stale s)
    (rw c.index-streams-s.is (left.each s c.index-streams-s.result c.requires.within)))
    (λ t other. (c.in_ok-streams.ensures.others told t other).unsealed) left
