use Rattle.std.proofs.Common.{◌∙◌, ap, refl, subst, ◌<◌, ◌^◌, drop, length, length-take, arith}
use Rattle.replay_gateway.proofs.Names.{BookValue, header_at, items_between, items_of, value_of}
use Rattle.replay_gateway.proofs.WriterLemmas.{all_fit}
use Rattle.replay_gateway.proofs.CallLemmas.{few_from, stays_up}
use Rattle.replay_gateway.proofs.writing.items_from.Goals as goal

pub returns-in-Ok-clause-items : goal.returns-in-Ok-clause-items
returns-in-Ok-clause-items c = λ setup place g m up.
    let items = c.a_book_is_within_the_limits.ensures.items (refl, refl) c.args.book.now in
    let short = c.a_book_is_within_the_limits.ensures.short c.args.book.now in
    let all : length (items_of (value_of c.args.book.now).firm) < 2 ^ 31 = omega arith in (
      record {
        is = c.in-Ok.ensures.items (refl, refl)
            ∙ ap (λ (v : BookValue). items_between c.args.from c.args.most v.firm) up.up.value;
        few = subst (λ (v : BookValue). length (items_of v.firm) < 2 ^ 31) up.up.value all;
      },
      stays_up g m up c.in-Ok.ensures.unchanged
          (c.a_gateway_stays_up_as_it_is_read.ensures.up (refl, refl) refl (header_at setup place) g.book m.armed
          m.at_last c.args.book.now c.items.new.self up.up c.in-Ok.ensures.unchanged c.in-Ok.ensures.area
          (c.in-Ok.ensures.planned refl).stands),
    )

pub returns-in-Ok-clause-few : goal.returns-in-Ok-clause-few
returns-in-Ok-clause-few c =
    let items = c.a_book_is_within_the_limits.ensures.items (refl, refl) c.args.book.now in
    let short = c.a_book_is_within_the_limits.ensures.short c.args.book.now in
    let all : length (items_of (value_of c.args.book.now).firm) < 2 ^ 31 = omega arith in
    few_from _ _ _ (c.in-Ok.ensures.items (refl, refl)) all c.requires

pub returns-in-Ok-clause-short : goal.returns-in-Ok-clause-short
returns-in-Ok-clause-short c =
    let many = ap length (c.in-Ok.ensures.items (refl, refl)) in
    omega (arith, length-take c.args.most (drop c.args.from (items_of (value_of c.args.book.now).firm)))

pub returns-in-Ok-clause-fit : goal.returns-in-Ok-clause-fit
returns-in-Ok-clause-fit c = all_fit _ c.in-Ok.ensures.writable

pub returns-in-Err-Device-clause-items : goal.returns-in-Err-Device-clause-items
returns-in-Err-Device-clause-items c = λ setup place g m up.
    absurd ((c.items.ensures.planned refl).runs
    (c.a_gateway_stays_up_as_it_is_read.ensures.runs refl (header_at setup place) g.book m.armed m.at_last
    c.args.book.now up.up) (cc (c.in-Err-Device.is, c.in-Err-Device.field-0-is)))
