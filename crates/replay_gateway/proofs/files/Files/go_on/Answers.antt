use Rattle.std.proofs.Common.{◌∙◌, refl, sym, take, arith, ap, ◌<◌, ◌^◌, length, length-drop}
use Rattle.replay_gateway.proofs.Names.{IfOk-weaker, settings_in}
use Rattle.replay_gateway.proofs.FileLemmas.{numbers_fit}
use Rattle.replay_gateway.proofs.WriterLemmas.{broken_behind, by_settings, gone_on}
use Rattle.replay_gateway.proofs.files.Files.go_on.Goals as goal

pub advance-requires-clause-ready : goal.advance-requires-clause-ready
advance-requires-clause-ready c = rw c.requires.taken at c.args.self.now.ready

pub advance-requires-clause-few : goal.advance-requires-clause-few
advance-requires-clause-few c =
    let has = rw c.requires.taken at c.args.self.now.counted in
    omega (arith, c.requires.few)

pub returns-in-Ok : goal.returns-in-Ok
returns-in-Ok c = λ settings f all stands are.
    let set = stands.writes.holds.settings_are in
    let there = rw (← set) at stands in
    let many = ap length are in
    let left = length-drop c.args.taken all in
    let some = (stands.writes.on c.args.taken (sym stands.taken ∙ c.requires.taken)).some in
    by_settings set
    (gone_on c.calls_seal_files_of_streams.ensures c.sealed_files_get_no_call.ensures c.open_files_go_on.ensures all _ f
    _ _ _ (λ s small. numbers_fit (settings_in c.args.self.now.writer) s all (omega (arith, c.requires.few))) there
    c.requires.taken are c.in-Ok.ensures.settings _
    (c.in-Ok.ensures.moves (λ s. 0) (take c.args.taken all)
    (stands.goes_on c.args.taken (sym stands.taken ∙ c.requires.taken)).at) _ refl refl c.requires.few)

pub returns-in-Err : goal.returns-in-Err
returns-in-Err c = λ settings f all stands are.
    let set = stands.writes.holds.settings_are in
    let there = rw (← set) at stands in
    let many = ap length are in
    let left = length-drop c.args.taken all in
    let some = (stands.writes.on c.args.taken (sym stands.taken ∙ c.requires.taken)).some in
    let few : length all < 2 ^ 31 = omega (arith, c.requires.few) in
    IfOk-weaker c.broken.result _ _
    (λ wrote breaks. by_settings set
    (broken_behind c.calls_seal_files_of_streams.ensures c.sealed_files_get_no_call.ensures c.open_files_go_on.ensures
    all c.args.items.now f c.args.taken c.args.self.now c.advance.new.self
    (λ s small. numbers_fit (settings_in c.args.self.now.writer) s all few) there c.requires.taken are
    c.in-Err.ensures.settings (c.in-Err.ensures.moves (λ s. 0) (take c.args.taken all)
    (stands.goes_on c.args.taken (sym stands.taken ∙ c.requires.taken)).at) _ refl refl breaks)) c.broken.ensures
