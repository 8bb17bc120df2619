-- A shelf that was looked at, and didn't fail, has the files and the count of faults that it had.
use Rattle.std.proofs.Common.{◌≡◌, ⊎_elim, inl, inr, ℕ, ◌≤◌, List, Result, Ok, Err, IfErr, IfOk, sym, subst, ◌∙◌}
use Rattle.cgf_service.proofs.Names.{files_at, HasFirstFiles, HasServed, HistoryEntry, KeepsShelf, LinksState, NeverFalls, Rose, SealedFile, served_line, Serving, Setup, Status, StopsServing}
use Rattle.area_disk.specs.declared.area.Area as areas
use Rattle.cdr_shelf.specs.declared.shelf.Shelf as shelves
use Rattle.cgf_jobs.specs.declared.status.Status.TheVariants as status
use Rattle.cgf_jobs.specs.declared.status.StoreFault.TheVariants as fault

module _ {A F : Type 0} (tells : areas.Ghosts A) (files : shelves.Ghosts F) (of : Serving) (area area' : A) (shelf looked shelf' : F)
    (links links' : LinksState) where
  has_before : (setup : Setup) (history : List HistoryEntry) → files.files looked ≡ files.files shelf
      → HasServed tells files of setup area area' looked shelf' links links' history
      → HasServed tells files of setup area area' shelf shelf' links links' history
  has_before setup history same has = record {
    closed = has.closed;
    sealed = λ told first. has.sealed told
        (subst (λ (sealed : List SealedFile). HasFirstFiles (files_at of setup) has.closed.start sealed) (sym same)
        first);
  }

  pub served_before : {X : Type 0} (octets : X → List ℕ) (setup : Setup) (result : Result X Status) → files.files looked ≡ files.files shelf
      → IfOk result (λ x. (history : List HistoryEntry) × HasServed tells files of setup area area' looked shelf' links links' history
      × (octets x ≡ served_line history))
      → IfOk result (λ x. (history : List HistoryEntry) × HasServed tells files of setup area area' shelf shelf' links links' history
      × (octets x ≡ served_line history))
  served_before octets setup (Ok x) same has = (has.0, has_before setup has.0 same has.1, has.2)
  served_before octets setup (Err ended) same has = tt

  pub shelf_before : (setup : Setup) → files.files looked ≡ files.files shelf → KeepsShelf tells files of setup area
      area' looked shelf'
      → KeepsShelf tells files of setup area area' shelf shelf'
  shelf_before setup same keeps told tells_files start holds first = keeps told tells_files start holds
      (subst (λ (sealed : List SealedFile). HasFirstFiles (files_at of setup) start sealed) (sym same) first)

  module _ (clock clock' : ℕ) where
    stops_before : (ended : Status) → files.files looked ≡ files.files shelf → files.faults looked ≡ files.faults shelf
        → StopsServing tells files of area area' looked shelf' links links' clock clock' ended
        → StopsServing tells files of area area' shelf shelf' links links' clock clock' ended
    stops_before status.Link kept same stops = stops
    stops_before (status.Store fault.Device) kept same stops = (
      stops.0,
      ⊎_elim
          (λ (r : Rose (tells.faults area) (tells.faults area')). inl r)
          (λ (r : Rose (files.faults looked) (files.faults shelf')). inr
          (subst (λ (n : ℕ). Rose n (files.faults shelf')) same r)) stops.1,
    )
    stops_before (status.Store (fault.NotOurs at)) kept same stops = (stops.0, stops.1, stops.2 ∙ kept, stops.3)
    stops_before status.Memory kept same stops = tt
    stops_before _ kept same stops = absurd stops

    pub stopped_before : {X : Type 0} (result : Result X Status) → files.files looked ≡ files.files shelf
        → files.faults looked ≡ files.faults shelf
        → IfErr result (StopsServing tells files of area area' looked shelf' links links' clock clock')
        → IfErr result (StopsServing tells files of area area' shelf shelf' links links' clock clock')
    stopped_before (Ok x) kept same stops = tt
    stopped_before (Err ended) kept same stops = stops_before ended kept same stops

    pub never_fell_before : files.faults looked ≡ files.faults shelf
        → NeverFalls tells files of area area' looked shelf' links links' clock clock'
        → NeverFalls tells files of area area' shelf shelf' links links' clock clock'
    never_fell_before same falls = record {
      device = falls.device;
      shelf_too = subst (λ (n : ℕ). n ≤ files.faults shelf') same falls.shelf_too;
      link = falls.link;
      time = falls.time;
      size = falls.size;
      uses = falls.uses;
    }
