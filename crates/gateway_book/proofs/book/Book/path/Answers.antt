use Rattle.std.proofs.Common.{Bool, ap, ◌∙◌, slice_get}
use Rattle.std.specs.List.{filter_map}
use Rattle.gateway_book.proofs.Names.{Addr, all_entries, firm_entries, history_of, is_closed, NodeId, Observed, observed_by, option_map, side_of, value_of}
use Rattle.gw_base.specs.declared.history.Opening.{Opening}
use Rattle.gateway_index.specs.Paths.{paths_in}
use Rattle.gateway_book.proofs.Committing.{asked}
use Rattle.gateway_book.proofs.book.Book.path.Goals as goal

pub returns-clause-told : goal.returns-clause-told
unfolding observed_by
returns-clause-told g c = λ told.
    let book = c.args.self.now in
    let laws = c.an_index_tells_its_history.ensures in
    let firm = c.is_closed.result in
    let h = history_of (value_of book) in
    let follows = asked (is_closed book.trail) firm book.index (firm_entries book.trail) (all_entries book.trail) c.is_closed.ensures.closed (book.followed.firm told) (book.followed.live told) in
    let opening : (n : NodeId) → _ = λ n. ap (λ (o : Observed). o.opening) (laws.observed firm book.index h n follows) in
    c.path.ensures
    ∙ λ i. slice_get (filter_map (λ (n : NodeId). option_map (λ (o : Opening). let a : Addr = record { ip = n.0; port = o.port } in a) (opening n i)) (laws.known firm book.index h follows i)) c.args.k

pub returns-clause-counted : goal.returns-clause-counted
returns-clause-counted g c =
    let book = c.args.self.now in
    c.path.ensures ∙ ap (λ (firm : Bool). slice_get (paths_in (side_of firm book.index)) c.args.k) c.is_closed.ensures.closed
