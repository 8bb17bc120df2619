use Rattle.std.proofs.Common.{arith, ◌≡◌, ℕ, ◌<◌, slice_index, ap, sym, ◌∙◌, refl, IsTrue}
use Rattle.file_writer.proofs.Names.{greatest_in, settings_in, stream_count}
use Rattle.file_writer.proofs.HoldingLemmas.{holds_found}
use Rattle.file_writer.proofs.LeavingLemmas.{no_stream, recovered_at, sealed_at, sealed_is}
use Rattle.file_writer.proofs.writer.Writer.recover_from.Goals as goal

pub returns-clause-recovered : goal.returns-clause-recovered
returns-clause-recovered g c =
    let asked = c.in_ok-ask_all.ensures.fresh in
    let settings = settings_in c.args.self.now in
    let files = g.F.Shelf.files c.ask_all.new.shelf in
    let found : IsTrue g.F.Shelf.tells_files → (s : ℕ) → s < stream_count
    → sealed_at c.ask_all.new.streams s ≡ greatest_in s files = λ told s h.
    sealed_is c.ask_all.new.streams s no_stream (omega (arith, h, asked.sixteen))
    ∙ asked.greatest told s no_stream h
    ∙ ap (λ files. greatest_in s files) (sym asked.asked.files) in
    record {
      at = recovered_at g.F.Shelf settings c.args.sequences c.ask_all.new.streams _ _ asked;
      first = refl;
      taken = refl;
      sealed = found;
      holds = λ told stood all low begun s h.
          rw (found told s h)
          (holds_found settings (λ s. slice_index c.args.sequences s) stood all files s (begun s h).0
          (low s h) (begun s h).1);
    }
