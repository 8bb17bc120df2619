-- Which files a shelf has whose writer was given all items of a history.
use Rattle.std.proofs.Common.{◌≡◌, ℕ, ◌+◌, ◌-◌, ◌<◌, ◌≤◌, false, List, ◌++◌, length, take, max, min, sym, ap, subst, ◌∙◌, arith}
use Rattle.cgf_service.proofs.Names.{closed_of, Holds, in_stream, is_broken, Item, later_files, sealed_in, SealedFile, Settings, settings_in, shelf_of, stream_count, stream_files, take-append-le, take_all, take_min, taken_of, Writer}
use Rattle.cdr_shelf.specs.declared.shelf.Shelf.{Ghosts}
use Rattle.file_writer.specs.Holding.{IsBegun}
use Rattle.node_session.specs.Writing.{HoldsFilesOf, none_closed, none_stood}

record Front {A : Type 0} (n : ℕ) (xs ys : List A) : Type 0 where
  count : ℕ
  same : take n xs ≡ take count (xs ++ ys)

take_front : {A : Type 0} (n : ℕ) (xs ys : List A) → Front n xs ys
take_front n xs ys = record {
  count = min n (length xs);
  same = sym (take_min n xs) ∙ sym (take-append-le (min n (length xs)) xs ys (omega arith));
}

-- The first ones of a history's files are the first ones of a longer history's.
pub begun_on : ((settings : Settings) (s : ℕ) (items more : List Item) → stream_files settings s (items ++ more)
    ≡ stream_files settings s items ++ later_files settings s items more)
    → (settings : Settings) (items more : List Item) (sealed : List SealedFile)
    → IsBegun settings none_closed none_stood items sealed → IsBegun settings none_closed none_stood (items ++ more) sealed
begun_on grow settings items more sealed begun s lt =
    let b = begun s lt in
    let t = take_front b.0 (stream_files settings s items) (later_files settings s items more) in
    (t.count, b.1 ∙ t.same ∙ ap (λ (l : List SealedFile). take t.count l) (sym (grow settings s items more)))

-- A writer that has taken all items holds all files that they close.
pub all_sealed : {F : Type 0} (tells : Ghosts F) (writer : Writer F tells) (items : List Item) → is_broken writer ≡ false
    → taken_of writer ≡ length items → HoldsFilesOf items writer
    → ((s : ℕ) → s < stream_count → length (stream_files (settings_in writer) s items) ≤ closed_of (settings_in writer) s items)
    → (s : ℕ) → s < stream_count → in_stream s (tells.files (shelf_of writer)) ≡ stream_files (settings_in writer) s items
all_sealed tells writer items ready taken holds counted s lt =
    let all : take (taken_of writer) items ≡ items = take_all (taken_of writer) items (omega (arith, taken)) in
    let held = subst (λ (l : List Item). Holds writer none_closed none_stood items l) all (holds.held ready) in
    held s lt ∙ take_all (max (sealed_in writer s) (0 + closed_of (settings_in writer) s items) - 0) (stream_files (settings_in writer) s items)
    (let n = counted s lt in omega (arith, n))
