use Rattle.std.proofs.Common.{ℕ, [], length, ap, refl, ◌∙◌}
use Rattle.loop_run.proofs.Names.{Addr, area_length, header, opened}
use Rattle.loop_run.proofs.BookLemmas.{opened_begun, zeros_ours, zeros_start}
use Rattle.loop_run.proofs.books.open_book.Goals as goal

pub returns-in-Ok-open : goal.returns-in-Ok-open
returns-in-Ok-open c = opened_begun c.args.place c.in-Ok-open.book c.commit.result
    ((c.in-Ok-open.ensures.anew (refl, refl) (zeros_start _ _ area_length c.in-Ok.ensures.octets)).value
    ∙ ap (λ (n : ℕ). opened n []) c.in-Ok.ensures.size)
    c.commit.ensures (c.in-Ok-open.ensures.size ∙ c.in-Ok.ensures.size)
    (c.in-Ok-open.ensures.ok.named ∙ ap (λ (n : ℕ). header n c.gateway_at.result.ip 0) c.in-Ok.ensures.size
    ∙ ap (λ (a : Addr). header area_length a.ip 0) c.gateway_at.ensures)

pub unreachable-requires-in-Err-NotOurs-default : goal.unreachable-requires-in-Err-NotOurs-default
unreachable-requires-in-Err-NotOurs-default c =
    let at = c.in-Err-NotOurs-default.field-0-0-0 in
    zeros_ours (length c.in-Ok.area) c.gateway_at.result.ip c.in-Ok.area area_length at c.in-Ok.ensures.octets
    (c.in-Err-NotOurs-default.ensures.err.place (refl, refl) at c.in-Err-NotOurs-default.field-0-0-is)
