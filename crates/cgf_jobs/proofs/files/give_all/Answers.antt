use Rattle.std.proofs.Common.{◌≡◌, ◌∙◌, refl, sym, ap, subst, ℕ, ◌+◌, ◌<◌, ◌^◌, List, count_by, length, length-drop, length-take, drop, take, take_all, arith, rules}
use Rattle.cgf_jobs.proofs.Names.{GatewayValue, HasAdvanced, is_part, Item, items_of, part_of, shelf_tells}
use Rattle.file_writer.specs.Making.{ending_at}
use Rattle.cgf_jobs.proofs.FileLemmas.{counted_on, never_rose}
use Rattle.cgf_jobs.proofs.files.give_all.Goals as goal

pub loop-count-init : goal.loop-count-init
loop-count-init c = record {
  ready = c.requires.ready;
  taken = c.requires.none;
  short = omega arith;
  settings = refl;
  same = refl;
  given = c.parts_go_as_one.ensures.none (λ s. 0) c.args.writer.now c.requires.at;
  records = refl;
  some = omega arith;
  few = omega arith;
  all = λ less. absurd (omega (arith, less));
}

-- the next part fits in what a writer may take
pub advance-requires-clause-few : goal.advance-requires-clause-few
advance-requires-clause-few c =
    let taken : ℕ = c.loop-count.taken in
    let all : List Item = items_of c.args.gateway.now.history in
    let is = c.deref.ensures.value ∙ c.in_ok-items.ensures.items
    ∙ ap (λ (g : GatewayValue). part_of taken 4096 (items_of g.history)) c.loop-count.invariant.same in
    let few = rw c.loop-count.invariant.same at c.in_ok-items.ensures.few in
    omega (
      arith,
      c.loop-count.invariant.taken,
      ap (λ (xs : List Item). length xs) is,
      length-take 4096 (drop taken all),
      length-drop taken all,
      c.loop-count.invariant.some,
      few,
    )

pub loop-count-preserved : goal.loop-count-preserved
loop-count-preserved c =
    let taken : ℕ = c.loop-count.taken in
    let all : List Item = items_of c.args.gateway.now.history in
    let v = ap (λ (xs : List Item). length xs) c.deref.ensures.value in
    let is : c.deref.result.now ≡ part_of taken 4096 all =
    c.deref.ensures.value ∙ c.in_ok-items.ensures.items
    ∙ ap (λ (g : GatewayValue). part_of taken 4096 (items_of g.history)) c.loop-count.invariant.same in
    let n : c.from-taken.result ≡ length c.deref.result.now =
    omega (arith, c.from-taken.ensures, c.len-count.ensures, v, c.in_ok-items.items.ok.0) in
    let count : c.from-taken.result ≡ length (part_of taken 4096 all) = n ∙ ap (λ (xs : List Item). length xs) is in
    let long = length-take 4096 (drop taken all) in
    let left = length-drop taken all in
    let some = c.loop-count.invariant.some in
    let few : length all < 2 ^ 31 = rw c.loop-count.invariant.same at c.in_ok-items.ensures.few in
    let counted : c.record_count-records.result ≡ count_by is_part (part_of taken 4096 all) =
    c.record_count-records.ensures.parts
    ∙ ap (λ (xs : List Item). count_by is_part xs) (c.deref-in-loop-count.ensures.value ∙ sym c.deref.ensures.value ∙ is) in
    record {
      ready = search rules;
      taken = omega (arith, c.in-Ok.ensures.count.2, c.loop-count.invariant.taken, n);
      short = omega (arith, count, long, c.from-taken.ensures);
      settings = c.in-Ok.ensures.settings ∙ c.loop-count.invariant.settings;
      same = c.in_ok-items.ensures.same ∙ c.loop-count.invariant.same;
      given = rw count
          (c.parts_go_as_one.ensures.more (λ s. 0) all taken 4096 c.in-Ok.field-0 c.args.writer.now c.loop-count.writer
          c.advance.new.self c.loop-count.invariant.settings c.loop-count.invariant.given
          (rw is at (c.in-Ok.ensures.moves (λ s. 0) (take taken all) (c.loop-count.invariant.given 0).at)));
      records = omega (
        arith,
        c.loop-count.invariant.records,
        counted,
        counted_on taken 4096 all,
        ap (λ (k : ℕ). count_by is_part (take (taken + k) all)) count,
      );
      some = omega (arith, count, long, left, some);
      few = omega (arith, count, long, left, some, few);
      all = λ less. omega (arith, less, count, long, left, some, c.from-taken.ensures);
    }

pub unreachable-requires : goal.unreachable-requires
unreachable-requires c =
    let moved = c.in-Err-Device.ensures.moves (λ s. 0) (take c.loop-count.taken (items_of c.args.gateway.now.history))
    (c.loop-count.invariant.given 0).at in
    never_rose (moved.makes.faults.failed (ap ending_at c.in-Err-Device.field-0-is))

pub returns-clause-given : goal.returns-clause-given
returns-clause-given c =
    let all : List Item = items_of c.args.gateway.now.history in
    subst (λ (xs : List Item). HasAdvanced shelf_tells (λ s. 0) xs c.args.writer.now c.loop-count.writer)
    (take_all c.loop-count.taken all (omega (arith, c.loop-count.invariant.all (omega (arith, c.loop-count.invariant.short, c.loop-count-test.false)))))
    c.loop-count.invariant.given

pub returns-clause-records : goal.returns-clause-records
returns-clause-records c =
    let all : List Item = items_of c.args.gateway.now.history in
    c.loop-count.invariant.records
    ∙ ap (λ (xs : List Item). count_by is_part xs)
    (take_all c.loop-count.taken all (omega (arith, c.loop-count.invariant.all (omega (arith, c.loop-count.invariant.short, c.loop-count-test.false)))))
    ∙ c.a_history_filed_its_parts.ensures c.args.gateway.now.history
