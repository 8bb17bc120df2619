use Rattle.std.proofs.Common.{◌≡◌, ◌<◌, ℕ, List, ◌++◌}
use Rattle.cgf_jobs.proofs.Names.{file_line, files_below, flat_map, in_stream, Item, Settings, stream_count, stream_files}
use Rattle.cgf_jobs.proofs.feed.print_files.Given as goal

-- the lines of the files of the streams so far were printed
abbrev pub invariant-loop-stream : goal.invariant-loop-stream
invariant-loop-stream l = (settings : Settings) (items : List Item)
    → ((s : ℕ) → s < stream_count → in_stream s l.fn.shelf.contents.files ≡ stream_files settings s items)
    → l.printed.items ≡ l.fn.printed.items ++ flat_map (file_line 0) (files_below l.stream settings items)
