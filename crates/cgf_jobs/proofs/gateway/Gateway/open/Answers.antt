use Rattle.std.proofs.Common.{length, refl, ◌∙◌}
use Rattle.cgf_jobs.specs.declared.gateway.TheConstants.{GATEWAY}
use Rattle.cgf_jobs.proofs.BookLemmas.{opened_gateway, zeros_ours, zeros_start}
use Rattle.cgf_jobs.proofs.gateway.Gateway.open.Goals as goal

pub returns-in-Ok-open : goal.returns-in-Ok-open
returns-in-Ok-open c =
    let begun = zeros_start c.in-Ok.area (length c.in-Ok.area) c.args.reserved GATEWAY 0 c.in-Ok.ensures.octets in
    let made = c.in-Ok-open.ensures.anew (refl, refl) begun in
    opened_gateway c.in-Ok-open.book c.commit.new.book (length c.in-Ok.area) c.args.reserved c.args.open_time made.value c.commit.ensures.committed c.commit.ensures.stays
    c.in-Ok.ensures.size (c.in-Ok-open.ensures.size ∙ c.in-Ok.ensures.size) c.in-Ok-open.ensures.ok.set

pub unreachable-requires-in-Err-NotOurs-default : goal.unreachable-requires-in-Err-NotOurs-default
unreachable-requires-in-Err-NotOurs-default c =
    let foreign = c.in-Err-NotOurs-default.ensures.err.place (refl, refl) c.in-Err-NotOurs-default.field-0-0-0 c.in-Err-NotOurs-default.field-0-0-is in
    zeros_ours c.in-Ok.area (length c.in-Ok.area) c.args.reserved GATEWAY 0 c.in-Err-NotOurs-default.field-0-0-0 c.in-Ok.ensures.octets foreign
