-- What writing a gateway's files asks of its shelf, and what comes of that by what is armed there.
use Rattle.std.specs.Prelude.{ℕ, ◌+◌, ◌-◌, List, [], length, take, drop, Option, Some, None}
use Rattle.area_disk.specs.Armed.{Armed, Came, calls_under}
use Rattle.area_disk.specs.Armed.Came.{Ran, FailedAt, StoppedAt}
use Rattle.cdr_shelf.specs.Files.{in_stream}
use Rattle.file_writer.specs.Calls.{Call, calls_of, seals}
use Rattle.file_writer.specs.Making.{done_at}
use Rattle.file_writer.specs.Streams.{Settings, closed_of}
use Rattle.gw_base.specs.declared.item.Item.{Item}
use Rattle.replay_gateway.specs.Machine.{Filing, resting}

-- What it asks.

-- the items that the writer has taken, and those that it is given: all, where it has to recover first
abbrev pub items_taken : Option ℕ → List Item → List Item
items_taken None items = []
items_taken (Some n) items = take n items

abbrev pub items_given : Option ℕ → List Item → List Item
items_given None items = items
items_given (Some n) items = drop n items

-- the counted calls for them, of which a file that is sealed already gets none
abbrev pub shelf_calls : Settings → List Item → Filing → List Call
shelf_calls settings items f =
    calls_of settings (λ s. 0) f.sealed (items_taken f.taken items) (items_given f.taken items)

-- What comes of it.

abbrev pub shelf_came : Settings → List Item → Filing → Came
shelf_came settings items f = calls_under f.armed (length (shelf_calls settings items f))

-- all items are written: each file that they close is sealed
abbrev pub all_filed : Settings → List Item → Armed → Filing
all_filed settings items armed = record {
  armed = armed;
  taken = Some (length items);
  sealed = λ s. closed_of settings s items;
}

-- so many of the calls have done what they are to do
abbrev pub filed_by : Settings → List Item → Filing → ℕ → Filing
filed_by settings items f n =
    resting (λ s. f.sealed s + length (in_stream s (seals (take n (shelf_calls settings items f)))))

-- a seal that stopped with `new` is done
abbrev pub filing_after : Settings → List Item → Filing → Came → Filing
filing_after settings items f (Ran armed) = all_filed settings items armed
filing_after settings items f (FailedAt k) = filed_by settings items f (k - 1)
filing_after settings items f (StoppedAt k outcome) = filed_by settings items f (done_at k outcome)

abbrev pub filing_then : Settings → List Item → Filing → Filing
filing_then settings items f = filing_after settings items f (shelf_came settings items f)
