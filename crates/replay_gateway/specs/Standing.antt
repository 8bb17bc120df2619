-- When a gateway in memory stands for a value.
use Rattle.std.specs.Prelude.{◌≡◌, ℕ, ◌%◌, true, false, List, [], All, Option, Some, None}
use Rattle.area_disk.specs.Armed.{IsArmed}
use Rattle.area_disk.specs.Armed.Armed.{Nothing}
use Rattle.area_disk.specs.contracts.memory.MemoryAreaArea.TheImpl.{ghosts as area_ghosts}
use Rattle.area_disk.specs.declared.area.Area.{Ghosts}
use Rattle.area_disk.specs.declared.memory.MemoryArea.{MemoryArea}
use Rattle.gate_journal.specs.Format.{header}
use Rattle.gateway_book.specs.Book.{open_time_of, size_of}
use Rattle.gateway_answer.specs.Items.{items_of}
use Rattle.gateway_book.specs.Up.{HoldsHistory, IsUp}
use Rattle.gateway_answer.specs.Value.{history_of}
use Rattle.gateway_book.specs.declared.book.Book.{Book}
use Rattle.once_core.specs.Addresses.{gateway_address}
use Rattle.once_core.specs.Gateway.{Gateway, is_reached}
use Rattle.replay_gateway.specs.Machine.{Machine}
use Rattle.replay_gateway.specs.Setup.{Setup, files_in}
use Rattle.replay_gateway.specs.Written.{FilesStand}
use Rattle.replay_gateway.specs.declared.machine.Machine as real
use Rattle.replay_gateway.specs.declared.site.Site.{Site}
use Rattle.replay_gateway.specs.declared.site.Site.TheVariants.{Up, Down}

-- what areas in memory tell
abbrev pub area_tells : Ghosts MemoryArea
area_tells = area_ghosts

-- the first octets of the area of the gateway in a place
abbrev pub header_at : Setup → ℕ → List ℕ
header_at s place = header s.size (gateway_address place).ip 0

module _ (setup : Setup) (place : ℕ) (g : Gateway) (m : Machine) where
  -- The gateway is up, with this book.
  pub record StandsUp {A : Type 0} {tells : Ghosts A} (book : Book A tells) : Type 0 where
    pub runs : g.is_down ≡ false
    pub up : IsUp (header_at setup place) g.book m.armed m.at_last book
    pub size : size_of book ≡ setup.size
    pub open_time : open_time_of book ≡ setup.limits.open_time

  -- It is down, with this area, for whose calls nothing is armed, and no answer waits.
  pub record StandsDown {A : Type 0} (tells : Ghosts A) (area : A) : Type 0 where
    pub stopped : g.is_down ≡ true
    pub down : HoldsHistory tells (header_at setup place) (history_of g.book) area
    pub is_armed : IsArmed Nothing (tells.fate area).schedule
    pub unarmed : (m.armed ≡ Nothing) × (m.filing.armed ≡ Nothing)
    pub silent : g.waiting ≡ []
    pub size : tells.size area ≡ setup.size

abbrev pub SiteStands : Setup → ℕ → Gateway → Machine → Option Site → Type 0
SiteStands setup place g m None = ⊥
SiteStands setup place g m (Some (Up book)) = StandsUp setup place g m book
SiteStands setup place g m (Some (Down fallen)) = StandsDown setup place g m area_tells fallen.area

-- A gateway with what it runs on, in a place. No answer waits whose front is firm.
pub record MachineStands (setup : Setup) (place : ℕ) (g : Gateway) (m : Machine) (r : real.Machine) : Type 0 where
  pub site : SiteStands setup place g m r.site
  pub waiting : r.waiting.items ≡ g.waiting
  pub unreached : All (λ w. is_reached g.book w ≡ false) g.waiting
  pub redirects : r.redirects ≡ g.redirects % 65536
  pub named : r.setup ≡ record { address = (gateway_address place).ip; open_time = setup.limits.open_time }
  pub writes : FilesStand (files_in setup place) m.filing (items_of g.book.firm) r.files
