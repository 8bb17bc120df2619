use Rattle.std.proofs.Common.{List, refl, subst, sym, ◌∙◌}
use Rattle.loop_run.proofs.Names.{AreAlike, CountsAs, LoopBook, NodeValue}
use Rattle.loop_run.proofs.EndsLemmas.{alike_length}
use Rattle.loop_run.proofs.ListLemmas.{lent_whole}
use Rattle.loop_run.proofs.ending.finish.Goals as goal

pub returns : goal.returns
returns c =
    let books : List LoopBook = c.args.looped.books.items in
    let now : List LoopBook = c.end_of-end.new.books in
    let alike : AreAlike books now =
    subst (λ (b : List LoopBook). AreAlike b now) c.as_mut_slice.ensures.value c.end_of-end.ensures.same in
    c.hand_out.ensures c.args.setup c.args.looped
    (subst (λ (b : List LoopBook). CountsAs c.args.setup b c.args.looped.nodes.items c.end_of-end.result)
    c.as_mut_slice.ensures.value
    (subst (λ (n : List NodeValue). CountsAs c.args.setup c.as_mut_slice.result.now n c.end_of-end.result)
    c.as_slice.ensures.value c.end_of-end.ensures.ends))
    (subst (λ (b : List LoopBook). AreAlike books b)
    (lent_whole now _ c.args.looped.books.len (c.args.looped.books.ok.0 ∙ sym (alike_length books now alike))) alike)
    refl
