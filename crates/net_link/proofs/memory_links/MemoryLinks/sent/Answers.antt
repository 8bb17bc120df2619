use Rattle.std.proofs.Common.{◌≡◌, ◌+◌, ◌-◌, ◌<◌, ◌≤◌, ◌∙◌, Bor, IfSome, List, None, Option, Some, ap, arith, drop, get_or, length, ltb, option_copied, refl, sym, true≢false, ℕ}
use Rattle.std.proofs.lemmas.Bool.{lt-ltb}
use Rattle.std.proofs.lemmas.Option.{slice_get_read}
use Rattle.std.specs.List.{slice_get}
use Rattle.std.specs.Option.{is_some}
use Rattle.net_link.specs.declared.post.Post.{Post}
use Rattle.net_link.specs.Memory.{MemoryPath}
use Rattle.net_link.specs.Net.{MemoryNet, all_sent}
use Rattle.net_link.proofs.PathLemmas.{sent_here, sent_on}
use Rattle.net_link.proofs.memory_links.MemoryLinks.sent.Goals as goal

got : (posts : List Post) (k : ℕ) (result : Option (Bor Post)) → k < length posts →
    is_some result ≡ ltb k (length posts) → IfSome result (λ post. post.now ≡ get_or posts k post.now) →
    option_copied result ≡ slice_get posts k
got posts k (Some post) within some is = sym (slice_get_read posts (length posts) k post.now refl within is)
got posts k None within some is = absurd (true≢false (sym (lt-ltb k (length posts) within) ∙ sym some))

pub returns-then-left-count : goal.returns-then-left-count
returns-then-left-count c =
    let link : MemoryPath = c.link-item.result in
    let links : List MemoryPath = c.deref-link-items.result.now in
    let left = c.loop-link.left in
    let links_are : links ≡ c.args.self.now.links =
    c.deref-link-items.ensures.value ∙ ap (λ (n : MemoryNet). n.links) c.self.view_is in
    let sent_is : c.link.inside.sent.items ≡ link.sent = ap (λ (l : MemoryPath). l.sent) c.link.view_is in
    let count : length c.link.inside.sent.items ≡ length link.sent = ap (λ (l : List Post). length l) sent_is in
    let short : left < length link.sent = omega (arith, c.link.inside.sent.ok.0, c.len-count.ensures) in
    let posts_are : c.deref.result.now ≡ link.sent = c.deref.ensures.value ∙ sent_is in
    let within : left < length c.deref.result.now = omega (arith, ap (λ (l : List Post). length l) posts_are) in
    got c.deref.result.now left c.get.result within c.get.ensures.lookup.0 c.get.ensures.lookup.1
    ∙ ap (λ (l : List Post). slice_get l left) posts_are
    ∙ sym (sent_here links c.loop-link.link-index left link (omega arith) c.link-item.is short)
    ∙ c.loop-link.invariant
    ∙ ap (λ (l : List MemoryPath). slice_get (all_sent l) c.args.k) links_are

pub loop-link-preserved : goal.loop-link-preserved
loop-link-preserved c =
    let link : MemoryPath = c.link-item.result in
    let links : List MemoryPath = c.deref-link-items.result.now in
    let left = c.loop-link.left in
    let i = c.loop-link.link-index in
    let sent_is : c.link.inside.sent.items ≡ link.sent = ap (λ (l : MemoryPath). l.sent) c.link.view_is in
    let same : length c.link.inside.sent.items ≡ length link.sent = ap (λ (l : List Post). length l) sent_is in
    let count : c.len-count.result ≡ length link.sent = omega (arith, c.link.inside.sent.ok.0, c.len-count.ensures) in
    let past : length link.sent ≤ left = omega arith in
    ap (λ (n : ℕ). slice_get (all_sent (drop (i + 1) links)) (left - n)) count
    ∙ sym (sent_on links i left link (omega arith) c.link-item.is past)
    ∙ c.loop-link.invariant
