use Rattle.std.proofs.Common.{◌≡◌, ◌⊎◌, ⊎_elim, [], refl, sym, ap, ◌∙◌}
use Rattle.gateway_book.proofs.Names.{book_fault, counted, header, Leaves, StandsFor, Starts}
use Rattle.gateway_book.proofs.Openings.{opened_as_planned, refused_as_planned, device_is, foreign_is, found_fit, not_ours_is, ok_is, on_area, value_is}
use Rattle.gateway_book.proofs.book.Book.open.Goals as goal

pub returns-in-Ok-open_judged-clause-ok : goal.returns-in-Ok-open_judged-clause-ok
returns-in-Ok-open_judged-clause-ok g c = ok_is c.begin-book.ensures c.args.area c.in-Ok-open_judged.ensures.size c.in-Ok-open_judged.ensures.ok

pub returns-in-Ok-open_judged-clause-reads : goal.returns-in-Ok-open_judged-clause-reads
returns-in-Ok-open_judged-clause-reads g c = λ told history stands.
    let a = c.args.area in
    let finds = c.in-Ok-open_judged.ensures.reads told history stands in
    record {
      value = value_is c.begin-book.ensures c.args.area c.in-Ok-open_judged.ensures.size history told finds.listed;
      moments = on_area c.begin-book.ensures (λ now. Leaves g.A.Area a now (g.A.Area.may_leave a)) finds.moments;
      calls = λ tells. on_area c.begin-book.ensures (λ now. g.A.Area.calls now ≡ counted 1 (g.A.Area.calls a)) (finds.calls tells);
    }

pub returns-in-Ok-open_judged-clause-anew : goal.returns-in-Ok-open_judged-clause-anew
returns-in-Ok-open_judged-clause-anew g c = λ told starts.
    let h = header (g.A.Area.size c.args.area) c.args.setup.address 0 in
    let a = c.args.area in
    let made = c.in-Ok-open_judged.ensures.anew told starts in
    record {
      value = value_is c.begin-book.ensures c.args.area c.in-Ok-open_judged.ensures.size [] told made.listed;
      moments = on_area c.begin-book.ensures (λ now. Leaves g.A.Area a now (λ o. g.A.Area.may_leave a o ⊎ (Starts h o ⊎ StandsFor h o []))) made.moments;
      calls = λ tells. on_area c.begin-book.ensures (λ now. g.A.Area.calls now ≡ counted 5 (g.A.Area.calls a)) (made.calls tells);
    }

pub returns-in-Ok-open_judged-clause-foreign : goal.returns-in-Ok-open_judged-clause-foreign
returns-in-Ok-open_judged-clause-foreign g c = λ told at foreign. absurd (c.in-Ok-open_judged.ensures.foreign told at foreign).place

pub returns-in-Ok-open_judged-clause-size : goal.returns-in-Ok-open_judged-clause-size
returns-in-Ok-open_judged-clause-size g c =
    on_area c.begin-book.ensures (λ now. g.A.Area.size now ≡ g.A.Area.size c.args.area) c.in-Ok-open_judged.ensures.size

pub begin-book-requires-clause-fit : goal.begin-book-requires-clause-fit
begin-book-requires-clause-fit g c = λ told.
    found_fit (g.met.A.Area.whole c.args.area told.0) c.in-Ok-open_judged.ensures.size (c.in-Ok-open_judged.ensures.ok.found told)

pub returns-in-Err-clause-err : goal.returns-in-Err-clause-err
returns-in-Err-clause-err g c =
    let refused = c.in-Err.ensures.err in
    record {
      place = λ told at e. refused.place told at (not_ours_is c.in-Err.fault at (sym c.fault_of.ensures ∙ e));
      unwritten = λ told other. ⊎_elim (λ e. absurd (other (c.fault_of.ensures ∙ ap book_fault e))) (λ p. p) (refused.unwritten told);
      cause = λ e. refused.cause (device_is c.in-Err.fault (sym c.fault_of.ensures ∙ e));
      still = λ other. refused.still (λ e. other (c.fault_of.ensures ∙ ap book_fault e));
      faults = refused.faults;
    }

pub returns-in-Err-clause-reads : goal.returns-in-Err-clause-reads
returns-in-Err-clause-reads g c = λ told history stands. record { value = tt; moments = (c.in-Err.ensures.reads told history stands).moments; calls = λ tells. tt }

pub returns-in-Err-clause-anew : goal.returns-in-Err-clause-anew
returns-in-Err-clause-anew g c = λ told starts. record { value = tt; moments = (c.in-Err.ensures.anew told starts).moments; calls = λ tells. tt }

pub returns-in-Err-clause-foreign : goal.returns-in-Err-clause-foreign
returns-in-Err-clause-foreign g c = λ told at foreign.
    let refused = c.in-Err.ensures.foreign told at foreign in
    record { place = foreign_is c.fault_of.ensures refused.place; moments = refused.moments }

pub returns-in-Ok-open_judged-clause-planned : goal.returns-in-Ok-open_judged-clause-planned
returns-in-Ok-open_judged-clause-planned g c = λ fate some.
    opened_as_planned (header (g.A.Area.size c.args.area) c.args.setup.address 0) c.args.area c.in-Ok-open_judged.trail c.args.setup.open_time
    c.begin-book.result c.begin-book.ensures (c.in-Ok-open_judged.ensures.planned fate refl)

pub returns-in-Err-clause-planned : goal.returns-in-Err-clause-planned
returns-in-Err-clause-planned g c = λ fate some.
    refused_as_planned (header (g.A.Area.size c.args.area) c.args.setup.address 0) c.args.area c.in-Err.fault c.in-Err.area c.fault_of.result
    c.fault_of.ensures some (λ e. c.in-Err.ensures.planned fate e)
