use Rattle.std.proofs.Common.{ℕ, List, get_or, ◌∙◌, sym, ap, subst, rules}
use Rattle.gate_journal.proofs.Names.{first-header, header, IsLaid}
use Rattle.gate_journal.proofs.Openings.{below_first, laid_listed}
use Rattle.gate_journal.proofs.opening.lay.Goals as goal

pub lay_front-requires-clause-first : goal.lay_front-requires-clause-first
lay_front-requires-clause-first g c = ap (λ (l : List ℕ). get_or l 0 0) c.header_of-header.ensures ∙ first-header _ c.args.address c.args.generation

pub over-requires-clause-listed : goal.over-requires-clause-listed
over-requires-clause-listed g c = λ told.
    laid_listed (header (g.A.Area.size c.lay_front.new.area) c.args.address c.args.generation) (g.A.Area.octets c.lay_front.new.area)
    (subst (λ (h : List ℕ). IsLaid h (g.A.Area.octets c.lay_front.new.area)) (c.header_of-header.ensures ∙ ap (λ n. header n c.args.address c.args.generation) (c.length-length.ensures ∙ sym c.lay_front.ensures.size)) (c.in-Ok-lay_front.ensures.laid told.0))

pub returns-in-Ok-lay_front-clause-ok : goal.returns-in-Ok-lay_front-clause-ok
returns-in-Ok-lay_front-clause-ok g c = search (rules, below_first)
