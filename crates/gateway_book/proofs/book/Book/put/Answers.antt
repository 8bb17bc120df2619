use Rattle.std.proofs.Common.{refl, arith}
use Rattle.gateway_book.proofs.StandingLemmas.{counting_firm, stands_firm}
use Rattle.gateway_book.proofs.TakingLemmas.{followed_added}
use Rattle.gateway_book.proofs.book.Book.put.Goals as goal

pub invariant_of-self : goal.invariant_of-self
invariant_of-self g c =
    let book = c.args.self.now in
    let added = c.record.ensures in
    record {
      followed = followed_added book.followed added c.requires.fit;
      stands = stands_firm book.stands added.stays;
      counts = counting_firm book.counts added.stays;
    }

pub returns-clause-added : goal.returns-clause-added
returns-clause-added g c =
    let added = c.record.ensures in
    λ i. record { firm = added.stays.listed i; rest = added.pushed.waits i; cuts = c.args.self.now.cuts; is_broken = added.stays.opened i }

pub returns-clause-adds : goal.returns-clause-adds
returns-clause-adds g c =
    let added = c.record.ensures in
    record { stays = added.stays; entries = omega (arith, added.pushed.count); uncut = refl; kept = refl }
