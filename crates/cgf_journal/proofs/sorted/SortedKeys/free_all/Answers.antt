use Rattle.std.proofs.Common.{ℕ, List, filter, take, refl, sym, ap, ◌∙◌, arith}
use Rattle.cgf_journal.proofs.Names.{HeldKey, live_keys, Release, Seal, slice_index_or, stays_held, take_more}
use Rattle.cgf_journal.proofs.Changes.{grows_on, next_named, none_named}
use Rattle.cgf_journal.proofs.sorted.SortedKeys.free_all.Goals as goal

pub loop-number-init : goal.loop-number-init
loop-number-init c = record { grows = record { firm = refl; count = omega arith; reserved = refl }; live = sym (none_named c.args.node (live_keys c.args.self.now)) }

pub loop-number-preserved : goal.loop-number-preserved
loop-number-preserved c =
    let x = slice_index_or c.args.numbers.now c.loop-number.number-index 0 in
    record {
      grows = grows_on 0 c.args.self.now c.loop-number.self c.free.new.self c.loop-number.invariant.grows c.free.ensures.grows;
      live =
          c.free.ensures.live
          ∙ ap (λ (l : List HeldKey). filter (λ (key : HeldKey). stays_held (Seal c.args.node x) key) l) c.loop-number.invariant.live
          ∙ next_named c.args.node x (take c.loop-number.number-index c.args.numbers.now) (live_keys c.args.self.now)
          ∙ ap (λ (xs : List ℕ). filter (λ (key : HeldKey). stays_held (Release c.args.node xs) key) (live_keys c.args.self.now)) (sym (take_more c.args.numbers.now c.loop-number.number-index 0 c.loop-number-test.true));
    }
