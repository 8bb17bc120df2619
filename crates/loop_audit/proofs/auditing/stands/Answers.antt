use Rattle.std.proofs.Common.{◌≡◌, ℕ, length, None, Some, slice_get, refl, sym, ap, ◌∙◌, arith}
use Rattle.std.proofs.lemmas.Option.{slice_get_past, slice_get_read}
use Rattle.gateway_book.specs.Book.{value_of}
use Rattle.gateway_answer.specs.Told.{key_of}
use Rattle.gateway_answer.specs.Value.{history_of}
use Rattle.gateway_answer.specs.declared.key.Key.{Key}
use Rattle.gw_base.specs.declared.address.NodeId.{NodeId}
use Rattle.node_core.specs.Octets.{wire}
use Rattle.loop_audit.specs.Audit.{id_of, tells_filed}
use Rattle.loop_audit.proofs.StandLemmas.{id_at, stands_nowhere, stands_there}
use Rattle.loop_audit.proofs.auditing.stands.Goals as goal

pub returns-in-Some : goal.returns-in-Some
returns-in-Some g c = λ told of is.
    let id_is : c.id.result ≡ id_of c.args.node.now = ap (λ (a : ℕ). id_at a) c.id.ensures in
    let at : slice_get c.args.books.now c.args.copy.gateway ≡ Some c.in-Some.book.now =
    ap (λ (k : ℕ). slice_get c.args.books.now k) (sym c.from.ensures)
    ∙ slice_get_read c.args.books.now (length c.args.books.now) c.from.result c.in-Some.book.now refl
    c.in-Some.ensures.lookup.3.0 c.in-Some.ensures.lookup.1 in
    c.tells_filed.ensures
    ∙ ap (λ (n : ℕ). tells_filed n c.args.copy.number c.key.result) c.counter.ensures
    ∙ ap (λ (k : Key). tells_filed c.args.node.now.paths.counter c.args.copy.number k)
    (c.key.ensures.told told
    ∙ ap (λ (id : NodeId). key_of (history_of (value_of c.in-Some.book.now)) id (wire c.args.copy.number)) id_is)
    ∙ stands_there c.args.books.now c.args.node.now c.args.copy of c.in-Some.book.now at is

pub returns-in-None : goal.returns-in-None
returns-in-None g c = λ told of is.
    let none : slice_get c.args.books.now c.args.copy.gateway ≡ None =
    slice_get_past c.args.books.now c.args.copy.gateway (omega (arith, c.in-None.ensures.lookup.3, c.from.ensures)) in
    stands_nowhere c.args.books.now c.args.node.now c.args.copy of none is
