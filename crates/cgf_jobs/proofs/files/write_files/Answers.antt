use Rattle.std.proofs.Common.{ap, refl, ◌∙◌}
use Rattle.cgf_jobs.proofs.Names.{files_in, in_stream, items_of, setup_seen}
use Rattle.cdr_shelf.specs.declared.quiet.QuietShelf.{QuietShelf}
use Rattle.cgf_jobs.proofs.FileLemmas.{files_written}
use Rattle.cgf_jobs.proofs.files.write_files.Goals as goal

pub returns-clause-files : goal.returns-clause-files
returns-clause-files c =
    let empty = c.in-Ok.ensures.asked.files ∙ ap (λ (shelf : QuietShelf). shelf.contents.files) c.new-writer.ensures.shelf ∙ c.new-shelf.ensures.files in
    let set = c.in_ok-records.ensures.settings ∙ c.in-Ok.ensures.settings ∙ c.new-writer.ensures.settings in
    λ s h. ap (λ (shelf : QuietShelf). in_stream s shelf.contents.files) c.into_shelf.ensures
    ∙ files_written c.new-writer.result c.recover.new.self c.give_all.new.writer (items_of c.args.gateway.now.history)
    (files_in (setup_seen c.args.settings c.args.rules) 0) 0 refl c.in-Ok.ensures.recovered empty set (c.in_ok-records.ensures.given 0) s h
