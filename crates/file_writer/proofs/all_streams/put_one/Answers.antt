use Rattle.std.proofs.Common.{◌≡◌, ℕ, List, [], ◌∷◌, ◌++◌, slice_index_or, sym, ◌∙◌, arith}
use Rattle.file_writer.proofs.Names.{calls_below, Record, Stream, stream_count, stream_division, stream_item, stream_record, StreamAt}
use Rattle.file_rotate.specs.Items.{Item}
use Rattle.file_writer.proofs.AllLemmas.{at_stays, calls_are, each_set, not_taken, only_calls, safe_set, taken_at}
use Rattle.file_writer.proofs.AmongLemmas.{number_within}
use Rattle.file_writer.proofs.FollowingLemmas.{no_result}
use Rattle.file_writer.proofs.LeavingLemmas.{left_set}
use Rattle.file_writer.proofs.MakingLemmas.{by_calls, ended_at}
use Rattle.file_writer.proofs.all_streams.put_one.Goals as goal

pub returns-in_err-streams-clause-takes : goal.returns-in_err-streams-clause-takes
returns-in_err-streams-clause-takes g c = λ settings closed sealed before item same goes each.
    let s : ℕ = c.args.s in
    let stream : Stream = c.index-streams-s.result in
    let filed_in : ℕ → Item (List ℕ) =
    λ profile. Record (stream_record profile c.args.next.kind c.args.next.octets.now c.args.next.moment) in
    let at : StreamAt g.F.Shelf settings closed sealed before s stream c.args.shelf.now = search arith in
    let here : stream_item settings.profile settings.rules s item ≡ filed_in stream.cutter.profile ∷ [] =
    search arith in
    let law = c.division_goes_on.ensures in
    record {
      makes = ended_at g.F.Shelf (calls_below stream_count settings closed sealed before item) _ _ _ _
          c.from_residual.ensures
          (by_calls (calls_are law g.F.Shelf settings closed sealed before item s _ _ stream c.args.shelf.now same here at
          ∙ sym (only_calls settings closed sealed before item s goes.others c.requires.within))
          (c.in_err-streams.ensures.takes (stream_division settings s before).left_open at.behind).makes);
      at = no_result c.from_residual.result c.in_err-streams.field-0.0 _ c.from_residual.ensures;
      shut = λ files plan most among shut.
          c.in_err-streams.ensures.shut (stream_division settings s before).left_open at.behind files plan most
          (number_within law settings closed before item s _ here _ _ at.limits at.has_closed (most s)
          (among s c.requires.within)) shut;
    }

pub returns-clause-takes : goal.returns-clause-takes
returns-clause-takes g c = λ settings closed sealed before item same goes each.
    let s : ℕ = c.args.s in
    let stream : Stream = c.index-streams-s.result in
    let filed_in : ℕ → Item (List ℕ) =
    λ profile. Record (stream_record profile c.args.next.kind c.args.next.octets.now c.args.next.moment) in
    let at : StreamAt g.F.Shelf settings closed sealed before s stream c.args.shelf.now = search arith in
    let here : stream_item settings.profile settings.rules s item ≡ filed_in stream.cutter.profile ∷ [] =
    search arith in
    let run = (stream_division settings s before).left_open in
    let taken = c.in_ok-streams.ensures.takes run at.behind in
    let law = c.division_goes_on.ensures in
    record {
      makes = by_calls (calls_are law g.F.Shelf settings closed sealed before item s _ _ stream c.args.shelf.now same here
          at ∙ sym (only_calls settings closed sealed before item s goes.others c.requires.within)) taken.makes;
      at = each_set (λ (t : ℕ) (st : Stream). StreamAt g.F.Shelf settings closed sealed (before ++ item ∷ []) t st
          c.put.new.shelf) c.args.streams.now s c.in_ok-streams.field-0
          (omega (arith, c.requires.sixteen, c.requires.within))
          (taken_at law g.F.Shelf settings closed sealed before item s _ stream c.in_ok-streams.field-0 _ _ here
          at taken.after)
          (λ t d other h.
          not_taken law g.F.Shelf settings closed sealed before item t (slice_index_or c.args.streams.now t d)
          c.put.new.shelf (goes.others t other)
          (at_stays g.F.Shelf settings closed sealed before t _ _ _
          (λ told. c.in_ok-streams.ensures.others told t other) (each t d h)));
      shut = λ files plan most among shut.
          c.in_ok-streams.ensures.shut run at.behind files plan most
          (number_within law settings closed before item s _ here _ _ at.limits at.has_closed (most s)
          (among s c.requires.within)) shut;
    }

pub returns-clause-safe : goal.returns-clause-safe
returns-clause-safe g c =
    safe_set g.F.Shelf c.args.streams.now c.args.s c.in_ok-streams.field-0 c.args.shelf.now c.put.new.shelf
    c.requires.within c.requires.sixteen c.in_ok-streams.ensures.safe c.in_ok-streams.ensures.others c.requires.safe

pub returns-clause-left : goal.returns-clause-left
returns-clause-left g c = λ told start stale left.
    let s : ℕ = c.args.s in
    left_set g.F.Shelf start stale c.args.streams.now s c.in_ok-streams.field-0 c.args.shelf.now c.put.new.shelf
    c.requires.within c.requires.sixteen
    (c.in_ok-streams.ensures.left told (start s) (stale s)
    (rw c.index-streams-s.is (left.each s c.index-streams-s.result c.requires.within)))
    (λ t other. (c.in_ok-streams.ensures.others told t other).unsealed) left
