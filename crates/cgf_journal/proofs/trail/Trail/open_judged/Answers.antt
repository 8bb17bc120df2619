use Rattle.std.proofs.Common.{◌≡◌, inr, ℕ, ⊎_elim, sym, ◌∙◌, ap, subst, arith}
use Rattle.cgf_journal.proofs.Names.{Device, is_device_fault, IsUnfitTo, NoMemory, NotOurs, OpenFault, SyncPlanned, Told}
use Rattle.cgf_journal.proofs.Opened.{asked, foreign_unlike, later, opens, other_fault, place_is, refuses, not_device, sync_on}
use Rattle.cgf_journal.proofs.trail.Trail.open_judged.Goals as goal

-- over an opened journal
pub returns-in-Ok-open : goal.returns-in-Ok-open
returns-in-Ok-open g c =
    let given = c.in-Ok-open.ensures in
    let over = c.over.ensures in
    let so = opens g.A.Area c.args.area c.args.address c.args.generation g.J.Judge.fits c.entries_are_read_back.ensures c.area_laws.ensures (g.J.Judge.follows c.over.new.judge)
    c.length-size.result c.length-size.ensures c.in-Ok-open.journal given.ok given.counted given.any_moment given.size given.planned c.over.result
    (record { taken = over.taken; fresh = over.fresh; breaks = over.breaks; some = over.some; kept = over.kept; cause = over.cause; runs = over.runs }) in
    record { ok = so.ok; follows = so.follows; err = so.err; reads = so.gives.reads; anew = so.gives.anew; foreign = so.gives.foreign; size = so.size; planned = λ tell some. so.planned tell }

-- where it was refused: by a batch before the place, or there
pub fault_before-fault-requires-clause-taken : goal.fault_before-fault-requires-clause-taken
fault_before-fault-requires-clause-taken g c = c.in-Ok.ensures

pub returns-in-Err-NotOurs-default : goal.returns-in-Err-NotOurs-default
returns-in-Err-NotOurs-default g c =
    let a = c.args.area in
    let mid = c.in-Err-NotOurs-default.area in
    let is = c.in-Err-NotOurs-default.field-0-0-is in
    let given = c.in-Err-NotOurs-default.ensures in
    let before = c.fault_before-fault.ensures in
    let early = rw c.in-Err-NotOurs-default.at-is at before.here in
    let among = rw c.in-Err-NotOurs-default.at-is at before.first in
    let same : Told g.A.Area → g.A.Area.octets mid ≡ g.A.Area.octets a =
    λ told. ⊎_elim (λ (e : ◌≡◌ {A = OpenFault} c.in-Err-NotOurs-default.field-0-0 Device). absurd (other_fault (sym is ∙ e))) (λ (e : g.A.Area.octets mid ≡ g.A.Area.octets a). e) (given.err.unwritten told) in
    let places : Told g.A.Area → (at : ℕ) → c.fault_before-fault.result ≡ NotOurs at → IsUnfitTo g.J.Judge.fits (asked g.A.Area a c.args.address c.args.generation g.J.Judge.fits) (g.A.Area.octets a) at =
    λ told at here. place_is g.A.Area a c.args.address c.args.generation g.J.Judge.fits told.0 c.length-size.result (c.area_laws.ensures.whole a told.0 ∙ sym c.length-size.ensures) c.in-Err-NotOurs-default.at at
    c.fault_before-fault.result (given.err.not_ours told c.in-Err-NotOurs-default.at is) early (rw (same told) at among) here in
    let gives = refuses g.A.Area a c.args.address c.args.generation g.J.Judge.fits c.fault_before-fault.result c.fault_before-fault.new.area
    (later g.A.Area a c.args.address c.args.generation g.J.Judge.fits mid c.fault_before-fault.new.area given.any_moment before.kept) places in
    record {
      ok = tt;
      follows = λ told. tt;
      err = record {
        place = places;
        cause = λ e. omega (arith, given.counted.cause.faults_err, before.device e);
        still = λ other. before.still other ∙ given.counted.cause.still (λ e. other_fault (sym is ∙ e));
        faults = omega (arith, given.counted.cause.faults_err, before.faults);
        unwritten = λ told. inr (before.kept.octets ∙ same told);
      };
      reads = gives.reads;
      anew = gives.anew;
      foreign = gives.foreign;
      size = before.kept.size ∙ given.size;
      planned = λ tell some. record {
        unmade = λ told none.
            sync_on (g.A.Area.fate a) (g.A.Area.fate mid) (g.A.Area.fate c.fault_before-fault.new.area) (is_device_fault c.fault_before-fault.result)
            (subst (λ b. SyncPlanned (g.A.Area.fate a) b (g.A.Area.fate mid)) (ap is_device_fault is) ((given.planned tell).unmade told none))
            (before.kept.planned tell) (λ run. not_device c.fault_before-fault.result (before.runs tell run));
        anew = λ told starts calm runs. absurd (foreign_unlike g.A.Area a c.args.address c.args.generation g.J.Judge.fits c.in-Err-NotOurs-default.at (given.err.not_ours told c.in-Err-NotOurs-default.at is) starts);
      };
    }

-- where the device or want of memory ended it

pub returns-in-Err-Device-default-clause-reads : goal.returns-in-Err-Device-default-clause-reads
returns-in-Err-Device-default-clause-reads g c =
    (refuses g.A.Area c.args.area c.args.address c.args.generation g.J.Judge.fits Device c.in-Err-Device-default.area c.in-Err-Device-default.ensures.any_moment (λ told at is. cc)).reads

pub returns-in-Err-Device-default-clause-anew : goal.returns-in-Err-Device-default-clause-anew
returns-in-Err-Device-default-clause-anew g c =
    (refuses g.A.Area c.args.area c.args.address c.args.generation g.J.Judge.fits Device c.in-Err-Device-default.area c.in-Err-Device-default.ensures.any_moment (λ told at is. cc)).anew

pub returns-in-Err-Device-default-clause-foreign : goal.returns-in-Err-Device-default-clause-foreign
returns-in-Err-Device-default-clause-foreign g c =
    (refuses g.A.Area c.args.area c.args.address c.args.generation g.J.Judge.fits Device c.in-Err-Device-default.area c.in-Err-Device-default.ensures.any_moment (λ told at is. cc)).foreign

pub returns-clause-reads : goal.returns-clause-reads
returns-clause-reads g c =
    (refuses g.A.Area c.args.area c.args.address c.args.generation g.J.Judge.fits NoMemory c.in-Err-NoMemory-default.area c.in-Err-NoMemory-default.ensures.any_moment (λ told at is. cc)).reads

pub returns-clause-anew : goal.returns-clause-anew
returns-clause-anew g c =
    (refuses g.A.Area c.args.area c.args.address c.args.generation g.J.Judge.fits NoMemory c.in-Err-NoMemory-default.area c.in-Err-NoMemory-default.ensures.any_moment (λ told at is. cc)).anew

pub returns-clause-foreign : goal.returns-clause-foreign
returns-clause-foreign g c =
    (refuses g.A.Area c.args.area c.args.address c.args.generation g.J.Judge.fits NoMemory c.in-Err-NoMemory-default.area c.in-Err-NoMemory-default.ensures.any_moment (λ told at is. cc)).foreign

pub returns-in-Err-Device-default-clause-planned : goal.returns-in-Err-Device-default-clause-planned
returns-in-Err-Device-default-clause-planned g c = λ tells some.
    let mid = c.in-Err-Device-default.area in
    let follows = c.in-Err-Device-default.ensures.planned tells in
    let is = ap is_device_fault c.in-Err-Device-default.field-0-0-is in
    record {
      unmade = λ told none. subst (λ b. SyncPlanned (g.A.Area.fate c.args.area) b (g.A.Area.fate mid)) is (follows.unmade told none);
      anew = λ told starts calm runs. record { runs = sym is ∙ (follows.anew told starts calm runs).runs; after = tt };
    }
