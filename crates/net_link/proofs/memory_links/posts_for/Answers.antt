use Rattle.std.proofs.Common.{◌≡◌, ◌<◌, ◌≤◌, ◌++◌, ◌∷◌, ◌∙◌, Global, List, [], Vec, ap, arith, false, length, subst, sym, true}
use Rattle.std.proofs.lemmas.List.Elements.{All-push}
use Rattle.net_link.specs.declared.post.Post.{Post}
use Rattle.net_link.specs.Memory.{AreShort}
use Rattle.net_link.specs.Steps.{most_octets}
use Rattle.net_link.specs.Turns.{is_at}
use Rattle.net_link.proofs.PathLemmas.{given_more, given_same}
use Rattle.net_link.proofs.memory_links.posts_for.Goals as goal
use Rattle.net_link.proofs.memory_links.posts_for.Goals.{then-eq+in_ok-copy+in_ok-push, else-eq}

pub loop-post-preserved : goal.loop-post-preserved
loop-post-preserved c =
    let at = c.args.at in
    let given = c.args.given.now in
    let i = c.loop-post.post-index in
    let post : Post = c.post-item.result in
    let so_far = c.loop-post.invariant in
    let within : i < length given = omega arith in
    elim c.if-eq.branch [
      | then-eq+in_ok-copy+in_ok-push w ↦ (
          let mine : is_at at post.at ≡ true = sym c.eq.ensures ∙ w.if-eq.true in
          let copied : w.in_ok-copy.copy ≡ post = w.in_ok-copy.ensures in
          let list : c.if-eq.posts.items ≡ c.loop-post.posts.items ++ post ∷ [] =
          ap (λ (v : Vec Post Global). v.items) w.posts-is ∙ w.in_ok-push.ensures.items
          ∙ ap (λ (p : Post). c.loop-post.posts.items ++ p ∷ []) copied in
          let short : length post.octets ≤ most_octets =
          subst (λ (p : Post). length p.octets ≤ most_octets) (sym c.post-item.is) (c.requires i post within) in
          let all : AreShort c.if-eq.posts.items =
          subst (λ (l : List Post). AreShort l) (sym list)
          (All-push (λ (p : Post). length p.octets ≤ most_octets) c.loop-post.posts.items post so_far.1 short) in (
            list ∙ ap (λ (l : List Post). l ++ post ∷ []) so_far.0
                ∙ sym (given_more at given i post within c.post-item.is mine),
            all,
          )
          )
      | else-eq w ↦ (
          let other : is_at at post.at ≡ false = sym c.eq.ensures ∙ w.if-eq.false in (
            ap (λ (v : Vec Post Global). v.items) w.posts-is ∙ so_far.0
                ∙ sym (given_same at given i post within c.post-item.is other),
            subst (λ (v : Vec Post Global). AreShort v.items) (sym w.posts-is) so_far.1,
          )
          )
    ]
