use Rattle.std.proofs.Common.{rules, ◌≡◌, List, ◌++◌, length, refl, slice_index_or, arith}
use Rattle.file_writer.proofs.Names.{Call, calls_of, sealed_in, settings_in}
use Rattle.file_writer.proofs.AmongLemmas.{moves_shut}
use Rattle.file_writer.proofs.FollowingLemmas.{no_result}
use Rattle.file_writer.proofs.HoldingLemmas.{all_stand}
use Rattle.file_writer.proofs.LeavingLemmas.{all_left_now, at_self, leaves_unsealed, more_below, no_stream, sealed_same}
use Rattle.file_writer.proofs.MakingLemmas.{all_sealed, ended_at}
use Rattle.file_writer.proofs.PartsLemmas.{keeps_by}
use Rattle.file_writer.proofs.writer.Writer.advance.Goals as goal

pub returns-in_err-take_all-clause-moves : goal.returns-in_err-take_all-clause-moves
returns-in_err-take_all-clause-moves g c = λ closed before at.
    let w = c.args.self.now in
    let items = c.args.items.now in
    let law = c.division_goes_on.ensures in
    let goes = c.in_err-take_all.ensures.takes (settings_in w) closed (sealed_in w) before refl refl at in
    let fault = c.in_err-take_all.field-0.0 in
    let made = goes.makes in
    record {
      makes = search (arith, ended_at);
      at = no_result c.from_residual.result fault _ c.from_residual.ensures;
      sealed = no_result c.from_residual.result fault _ c.from_residual.ensures;
      leaves = λ told. no_result c.from_residual.result fault _ c.from_residual.ensures;
      shut = moves_shut g.F.Shelf (settings_in w) closed (before ++ items) _ _ goes.shut;
      keeps = keeps_by g.F.Shelf law closed before items w _ _ made;
      holds = λ told stood rest holds. no_result c.from_residual.result fault _ c.from_residual.ensures;
    }

pub invariant_of-self-2 : goal.invariant_of-self-2
invariant_of-self-2 g c = record {
  sound = record {
    are_limits = c.args.self.now.sound.are_limits;
    is_profile = c.args.self.now.sound.is_profile;
    few = c.requires.few;
    safe = λ e. c.in_ok-take_all.ensures.safe;
    below = λ e. more_below _ _ _ _ (c.in_ok-take_all.ensures.below _ (c.args.self.now.sound.below c.requires.ready));
  };
}

pub returns-clause-moves : goal.returns-clause-moves
returns-clause-moves g c = λ closed before at.
    let w = c.args.self.now in
    let items = c.args.items.now in
    let law = c.division_goes_on.ensures in
    let calls : List Call = calls_of (settings_in w) closed (sealed_in w) before items in
    let goes = c.in_ok-take_all.ensures.takes (settings_in w) closed (sealed_in w) before refl refl at in
    let made = goes.makes in
    let long : length w.streams ≡ 16 = search rules in
    let same = sealed_same g.F.Shelf (settings_in w) closed (sealed_in w) (before ++ items) c.take_all.new.streams
    c.take_all.new.shelf c.in_ok-take_all.ensures.sixteen goes.at in
    record {
      makes = made;
      at = search (arith, at_self);
      sealed = same;
      leaves = λ told. leaves_unsealed g.F.Shelf (settings_in w) closed (sealed_in w) before (before ++ items) w.streams
          c.take_all.new.streams w.shelf c.take_all.new.shelf told at goes.at c.in_ok-take_all.ensures.safe
          (c.in_ok-take_all.ensures.left told (λ s. (slice_index_or w.streams s no_stream).file.closed)
          (g.F.Shelf.unsealed w.shelf) (all_left_now g.F.Shelf w.streams w.shelf long));
      shut = moves_shut g.F.Shelf (settings_in w) closed (before ++ items) _ _ goes.shut;
      keeps = keeps_by g.F.Shelf law closed before items w _ _ made;
      holds = λ told stood rest holds.
          all_stand law (settings_in w) closed (sealed_in w) stood before items rest (g.F.Shelf.files w.shelf) holds _ _
          same (all_sealed g.F.Shelf calls calls _ _ made told);
    }
