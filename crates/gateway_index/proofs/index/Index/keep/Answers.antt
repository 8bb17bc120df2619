use Rattle.gateway_index.proofs.HeldStates.{kept_told}
use Rattle.gateway_index.proofs.IndexLemmas.{follows_same, kept_sides}
use Rattle.gateway_index.proofs.index.Index.keep.Goals as goal

pub invariant_of-self : goal.invariant_of-self
invariant_of-self c = record { told = kept_told c.args.firm _ _ _ _ c.keep.ensures.sides c.keep-2.ensures c.args.self.now.told }

pub returns-then-firm : goal.returns-then-firm
returns-then-firm c =
    let sides = kept_sides c.args.firm c.args.self.now _ c.keep.ensures.sides c.keep-2.ensures (rw c.if-firm.true) (rw c.if-firm.true) in
    record { sides = sides; follows = λ side. follows_same side c.args.firm c.args.self.now _ (sides side) }

pub returns-else-firm : goal.returns-else-firm
returns-else-firm c =
    let sides = kept_sides c.args.firm c.args.self.now _ c.keep.ensures.sides c.keep-2.ensures (rw c.if-firm.false) (rw c.if-firm.false) in
    record { sides = sides; follows = λ side. follows_same side c.args.firm c.args.self.now _ (sides side) }
