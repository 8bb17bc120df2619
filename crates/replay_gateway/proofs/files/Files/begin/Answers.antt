use Rattle.std.proofs.Common.{◌∙◌, refl}
use Rattle.replay_gateway.proofs.Names.{IfOk-weaker, items_of, settings_in}
use Rattle.replay_gateway.proofs.FileLemmas.{numbers_fit}
use Rattle.replay_gateway.proofs.WriterLemmas.{asks_all, begun_all, broken_anew, by_settings}
use Rattle.replay_gateway.proofs.files.Files.begin.Goals as goal

-- all of them were taken
pub returns-in-Ok-2 : goal.returns-in-Ok-2
returns-in-Ok-2 c = λ setup place g m settings f runs site stands.
    let all = items_of g.book.firm in
    let set = c.in-Ok.ensures.settings ∙ stands.writes.holds.settings_are in
    let there = rw (← set) at stands in
    let got = c.in_ok-taken.ensures.given setup place g m runs site c.in-Ok.ensures.recovered.at in
    let given = rw c.in-Ok-2.is at got.0 in (
      by_settings set
          (begun_all c.first_files_are_counted.ensures c.calls_seal_files_of_streams.ensures
          c.sealed_files_get_no_call.ensures c.shut_streams_come_to_open_files.ensures all f _ _ _
          (λ s small. numbers_fit (settings_in c.recover.new.self) s all given.few) there c.requires.taken
          c.in-Ok.ensures.asked c.in-Ok.ensures.recovered c.give_all.ensures.settings _ given.goes _ refl
          (cc given.count) given.few),
      got.1,
    )

-- no read is planned to fail
pub returns-in-Err : goal.returns-in-Err
returns-in-Err c = λ setup place g m settings f runs site stands.
    IfOk-weaker c.broken.result _ _
    (λ wrote breaks. absurd (asks_all stands.writes.is_armed c.in-Err.ensures.asked refl)) c.broken.ensures

-- a call failed
pub returns-in-Err-2 : goal.returns-in-Err-2
returns-in-Err-2 c = λ setup place g m settings f runs site stands.
    let all = items_of g.book.firm in
    let set = c.in-Ok.ensures.settings ∙ stands.writes.holds.settings_are in
    let there = rw (← set) at stands in
    let got = c.in_ok-taken.ensures.given setup place g m runs site c.in-Ok.ensures.recovered.at in
    let given = rw c.in-Err-2.is at got.0 in
    IfOk-weaker c.broken-in-Err-2.result _ _ (λ wrote breaks. (
      by_settings set
          (broken_anew c.first_files_are_counted.ensures c.calls_seal_files_of_streams.ensures
          c.sealed_files_get_no_call.ensures c.shut_streams_come_to_open_files.ensures all f _ _ _
          (λ s small. numbers_fit (settings_in c.recover.new.self) s all given.few) there c.requires.taken
          c.in-Ok.ensures.asked c.in-Ok.ensures.recovered c.give_all.ensures.settings given.goes _ refl c.requires.taken
          breaks),
      got.1,
    )) c.broken-in-Err-2.ensures
