use Rattle.std.proofs.Common.{◌≡◌, ◌-◌, List, ℕ, ◌++◌, length, drop, sym, ap, ◌∙◌, arith, length-drop}
use Rattle.std.proofs.lemmas.List.{drop-replicate, take_all}
use Rattle.area_disk.specs.Disk.{zeros}
use Rattle.area_disk.proofs.Padded.{read_behind, read_over}
use Rattle.area_disk.proofs.quiet.read.Goals as goal

pub returns-then-at-octets : goal.returns-then-at-octets
unfolding zeros
returns-then-at-octets c = λ n inside.
    let written = length c.args.octets.now - c.args.at in
    let cleared : c.fill.new.self ≡ zeros (length c.args.into.now) = c.fill.ensures.after (λ y e. omega (arith, e)) in
    let copied : c.copy_from_slice-then-at-octets.new.self ≡ drop c.args.at c.args.octets.now =
    c.copy_from_slice-then-at-octets.ensures.after ∙ take_all written (drop c.args.at c.args.octets.now) (omega (arith, length-drop c.args.at c.args.octets.now)) in
    (λ i. copied i ++ drop written (cleared i))
    ∙ ap (λ (l : List ℕ). drop c.args.at c.args.octets.now ++ l) (drop-replicate written (length c.args.into.now) 0)
    ∙ sym (read_over n c.args.at (length c.args.into.now) c.args.octets.now (omega arith) (omega arith) inside)

pub returns-else-at-octets : goal.returns-else-at-octets
unfolding zeros
returns-else-at-octets c = λ n inside.
    let cleared : c.fill.new.self ≡ zeros (length c.args.into.now) = c.fill.ensures.after (λ y e. omega (arith, e)) in
    cleared ∙ sym (read_behind n c.args.at (length c.args.into.now) c.args.octets.now (omega arith) inside)
