use Rattle.std.proofs.Common.{false, List, refl, sym, ap, ◌∙◌}
use Rattle.gateway_book.proofs.Names.{all_entries, answer_to, case_value, decided, HistoryEntry, node_of, observed_by, room_in, size_of}
use Rattle.gateway_book.proofs.CallerLemmas.{done_by}
use Rattle.gateway_book.proofs.StandingLemmas.{counting_firm, stands_firm}
use Rattle.gateway_book.proofs.TakingLemmas.{answered_is, done_is, firm_stays, followed_answer, history_is, none_is_lost, recorded_is_fit}
use Rattle.gateway_book.proofs.book.Book.add_answer.Goals as goal

pub invariant_of-self : goal.invariant_of-self
invariant_of-self g c =
    let book = c.args.self.now in
    let datagram = case_value c.args.case.now in
    let stays = firm_stays c.moment_after-moment.result c.args.who c.answer.result c.answer.ensures.silent c.answer.ensures.said in
    record {
      followed = followed_answer c.answer.result book.followed c.answer.ensures.silent c.answer.ensures.said
          (λ told reply a is says.
          let at = c.moment_after-moment.ensures.after told in
          let seen = c.an_index_is_enough.ensures.answers false book.index (all_entries book.trail) (book.followed.live told) c.args.from datagram in
          recorded_is_fit c.args.from datagram c.args.who (book.followed.fit told) c.requires.prepared.0 c.moment_after-moment.ensures.within at
          (c.answer.ensures.told told
          ∙ answered_is book.trail book.index c.args.from datagram c.args.now c.moment_after-moment.result c.args.who c.requires.open at seen) says);
      stands = stands_firm book.stands stays;
      counts = counting_firm book.counts stays;
    }

pub returns-clause-moved : goal.returns-clause-moved
returns-clause-moved g c = λ told.
    let book = c.args.self.now in
    let datagram = case_value c.args.case.now in
    let at = c.moment_after-moment.ensures.after told in
    let seen = c.an_index_is_enough.ensures.answers false book.index (all_entries book.trail) (book.followed.live told) c.args.from datagram in
    done_is c.moment_after-moment.result c.args.who c.args.now book.cuts c.answer.result c.requires.open at
    (c.answer.ensures.told told
    ∙ answered_is book.trail book.index c.args.from datagram c.args.now c.moment_after-moment.result c.args.who c.requires.open at seen
    ∙ ap (λ (h : List HistoryEntry). decided (answer_to h c.args.from datagram (size_of book))) (sym (history_is book.trail book.cuts c.requires.open)))
    c.answer.ensures.silent c.answer.ensures.said

pub returns-clause-adds : goal.returns-clause-adds
returns-clause-adds g c = record {
  stays = firm_stays c.moment_after-moment.result c.args.who c.answer.result c.answer.ensures.silent c.answer.ensures.said;
  entries = none_is_lost c.moment_after-moment.result c.args.who c.answer.result c.answer.ensures.silent c.answer.ensures.said;
  uncut = refl;
  kept = refl;
}

pub returns-clause-decided : goal.returns-clause-decided
returns-clause-decided g c =
    let book = c.args.self.now in
    done_by c.args.from (case_value c.args.case.now) (observed_by false book.index (node_of c.args.from)) (room_in book.trail c.moment_after-moment.result c.args.who)
    c.answer.result (λ why e. (c.answer.ensures.silent why e).0) (λ reply e. ((c.answer.ensures.said reply e).0, (c.answer.ensures.said reply e).1))
