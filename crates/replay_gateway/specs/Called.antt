-- A gateway whose area was just called, and what that leads to.
use Rattle.std.specs.Prelude.{◌≡◌, ℕ, ◌%◌, ◌++◌, true, false, List, length, Option, Some, None}
use Rattle.std.specs.Option.{option_map_or}
use Rattle.area_disk.specs.Armed.{IsArmed}
use Rattle.area_disk.specs.Armed.Armed.{Nothing}
use Rattle.area_disk.specs.declared.area.Area.{Ghosts}
use Rattle.area_disk.specs.declared.memory.MemoryArea.{MemoryArea}
use Rattle.gateway_answer.specs.Answered.{no_caller}
use Rattle.gateway_book.specs.Book.{open_time_of, size_of, value_of}
use Rattle.gateway_book.specs.Calls.{Left, taken, ticked}
use Rattle.gateway_answer.specs.Items.{items_of}
use Rattle.gateway_answer.specs.Preparing.{prepared_of}
use Rattle.gateway_book.specs.Up as up
use Rattle.gateway_book.specs.Up.{IsCut, HoldsHistory, Sequel, GoesOn, Breaks, Stops, fortune_by}
use Rattle.gateway_answer.specs.Value.{BookValue, Fortune}
use Rattle.gateway_book.specs.declared.book.Book.{Book}
use Rattle.gateway_book.specs.declared.outcome.Marked.{Marked}
use Rattle.gateway_book.specs.declared.outcome.Outcome.{Outcome}
use Rattle.gw_base.specs.declared.history.HistoryEntry.{HistoryEntry}
use Rattle.once_core.specs.Addresses.{gateway_address, node_address}
use Rattle.once_core.specs.Gateway.{Gateway, Moved, cut, giving_up, settling, still}
use Rattle.once_core.specs.declared.message.Message.{Message}
use Rattle.replay_gateway.specs.Device.{entries_kept, is_stop, machine_with}
use Rattle.replay_gateway.specs.Moves.{HasMoved, came_of}
use Rattle.replay_gateway.specs.Setup.{Setup, files_in}
use Rattle.replay_gateway.specs.Standing.{area_tells, header_at}
use Rattle.replay_gateway.specs.Machine.{Machine}
use Rattle.replay_gateway.specs.Written.{FilesStand}
use Rattle.replay_gateway.specs.declared.machine.Machine as real
use Rattle.replay_gateway.specs.declared.machine.Sent.{Sent}
use Rattle.replay_gateway.specs.declared.site.Site.{Site}
use Rattle.replay_gateway.specs.declared.site.Site.TheVariants as site

-- what a gateway with this book does once this came of a call
abbrev pub moved_after : Sequel → BookValue → Gateway → Moved
moved_after (GoesOn armed) book g = settling (record g { book = book })
moved_after (Breaks last) book g = giving_up (record g { book = book })
moved_after (Stops stands) book g = still (cut (entries_kept stands g) g)

-- Its book stands as a call left it of which this came.
pub record BookStands {A : Type 0} {tells : Ghosts A} (setup : Setup) (place : ℕ) (value : BookValue)
    (sequel : Sequel) (book : Book A tells) : Type 0 where
  pub stands : up.StandsAfter (header_at setup place) sequel value book
  pub size : size_of book ≡ setup.size
  pub open_time : open_time_of book ≡ setup.limits.open_time

abbrev pub SiteIsCalled : Setup → ℕ → BookValue → Sequel → Option Site → Type 0
SiteIsCalled setup place value sequel None = ⊥
SiteIsCalled setup place value sequel (Some (site.Up book)) = BookStands setup place value sequel book
SiteIsCalled setup place value sequel (Some (site.Down fallen)) = ⊥

-- Its book was cut by a stop that leaves this history; and it is down with that, and nothing is armed.
pub record BookIsCut {A : Type 0} {tells : Ghosts A} (setup : Setup) (place : ℕ) (h : List HistoryEntry)
    (book : Book A tells) : Type 0 where
  pub cut : IsCut (header_at setup place) h book
  pub size : size_of book ≡ setup.size

pub record AreaIsDown (setup : Setup) (place : ℕ) (h : List HistoryEntry) (area : MemoryArea) : Type 0 where
  pub down : HoldsHistory area_tells (header_at setup place) h area
  pub is_armed : IsArmed Nothing (area_tells.fate area).schedule
  pub size : area_tells.size area ≡ setup.size

abbrev pub SiteIsCut : Setup → ℕ → List HistoryEntry → Option Site → Type 0
SiteIsCut setup place h None = ⊥
SiteIsCut setup place h (Some (site.Up book)) = BookIsCut setup place h book
SiteIsCut setup place h (Some (site.Down fallen)) = ⊥

abbrev pub SiteIsDown : Setup → ℕ → List HistoryEntry → Option Site → Type 0
SiteIsDown setup place h None = ⊥
SiteIsDown setup place h (Some (site.Up book)) = ⊥
SiteIsDown setup place h (Some (site.Down fallen)) = AreaIsDown setup place h fallen.area

-- the value of a gateway's book, and of one that is down none
abbrev pub book_in : Option Site → Option BookValue
book_in None = None
book_in (Some (site.Up book)) = Some (value_of book)
book_in (Some (site.Down fallen)) = None

-- how many entries are firm
abbrev pub firm_in : Option Site → ℕ
firm_in site = option_map_or (λ (v : BookValue). length v.firm) (book_in site) 0

-- what a datagram that a message is makes of a book, and what that answers, where this came of the call
abbrev pub taken_of : Setup → Machine → Gateway → Message → ℕ → Sequel → Left Outcome
taken_of setup m g message now sequel =
    taken (fortune_by m.at_last sequel) (node_address message.node message.port) (prepared_of message.octets) setup.size
    now no_caller g.book

-- what a book makes of a Tick, and answers
abbrev pub tick_left : Setup → ℕ → Fortune → BookValue → Left Marked
tick_left setup now f v = ticked f setup.limits.open_time setup.size now no_caller v

module _ (setup : Setup) (place : ℕ) (g : Gateway) (m : Machine) where
  -- The area was called, of which this came, and the book has this value. All else is as before.
  pub record IsCalled (value : BookValue) (sequel : Sequel) (r : real.Machine) : Type 0 where
    pub runs : g.is_down ≡ false
    pub site : SiteIsCalled setup place value sequel r.site
    pub grown : (more : List HistoryEntry) × (value.firm ≡ g.book.firm ++ more)
    pub cut : is_stop sequel ≡ true → (value.firm ≡ g.book.firm) × (value.rest ≡ g.book.rest)
    pub waiting : r.waiting.items ≡ g.waiting
    pub redirects : r.redirects ≡ g.redirects % 65536
    pub named : r.setup ≡ record { address = (gateway_address place).ip; open_time = setup.limits.open_time }
    pub writes : FilesStand (files_in setup place) m.filing (items_of value.firm) r.files

  -- What waited was sent or given up since.
  pub record AfterCall (value : BookValue) (sequel : Sequel) (sent : Sent) (r : real.Machine) : Type 0 where
    pub moved : HasMoved setup place (moved_after sequel value g) (machine_with m sequel)
        sent.messages.items r
    pub came : sent.came ≡ came_of sequel
