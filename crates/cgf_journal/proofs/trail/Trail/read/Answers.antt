use Rattle.std.proofs.Common.{ℕ, ◌+◌, ◌-◌, List, [], ◌∷◌, length, take, drop, sym, subst, ◌∙◌, ap, arith, rules}
use Rattle.std.proofs.lemmas.Result.{on_ok_weaker}
use Rattle.cgf_journal.proofs.Names.{AreEntries, end_of, one_entry}
use Rattle.gate_journal.specs.Reading.{IsRead}
use Rattle.cgf_journal.proofs.Trails.{entry_is, kept, place_ends, place_is, spelling_is}
use Rattle.cgf_journal.proofs.trail.Trail.read.Goals as goal

pub read-requires : goal.read-requires
read-requires g c =
    let t = c.args.self.now in
    let place = c.args.place in
    let is = c.requires.place in
    record {
      inside = record {
        high = omega (arith, place_ends t is.0 place is.1, c.requires.length);
        content = λ told.
            let found = place_is t told is.0 place is.1 in
            let among = found.2 in
            (among.some, among.batch, among.more, among.parts, omega (arith, among.here.low), omega (arith, among.here.high, c.requires.length));
      };
    }

pub returns-clause-read : goal.returns-clause-read
returns-clause-read g c = λ told k e is get.
    let t = c.args.self.now in
    let place = c.args.place in
    let among = entry_is t told k place e is get in
    let start = end_of among.some + 5 in
    on_ok_weaker c.read.result
    (λ (reads : IsRead t.journal place.at (length c.args.into.now) c.read.new.into).
    let spelled = reads among.some among.batch among.more among.parts (omega (arith, among.here.low)) (omega (arith, among.here.high, c.requires.length)) ∙ ap (λ n. take n (drop (place.at - start) among.batch)) c.requires.length ∙ among.here.reads in
    (spelled, subst (λ (o : List ℕ). AreEntries o (e ∷ [])) (sym spelled) (one_entry e (spelling_is t told k e get))))
    (c.read.ensures.content told)

pub returns-clause-kept : goal.returns-clause-kept
returns-clause-kept g c = search (rules, kept)

pub returns-clause-planned : goal.returns-clause-planned
returns-clause-planned g c = λ fate. record { planned = c.read.ensures.planned fate; stands = c.read.ensures.kept.same.stop_stands fate }
