-- What a writer holds that recovered, or was given items behind those that it had taken, and what a step that takes
-- items to it does.
use Rattle.std.proofs.Common.{◌≡◌, ℕ, ◌+◌, ◌<◌, ◌^◌, Bool, true, false, List, [], ◌++◌, length, take, drop, Ok, Err, refl, sym, ap, subst, ◌∙◌, append_assoc, arith, length-append, ◌-◌, ◌≤◌, ◌∷◌, Option, Some, Result}
use Rattle.node_session.proofs.Names.{All-cons, All-nil, and_parts, append-nil, AreNext, Book, book_facts, drop_at, eq-eqb, eqb-true, Ghosts, HasFailedIn, HasGivenSome, HasListedIn, HasTakenAll, HasTakenOf, HistoryEntry, Holds, HoldsFilesOf, IfOk, is_broken, IsAt, IsTrue, IsWriterOf, items_between, items_by, items_of, KeepsListing, kept, KeptTurn, Knowledge, knowledge, known_by, length-drop, length-take, ListsIn, min, most_items, nat_eq, nil_from_length, none_closed, none_stood, Pass, settings_in, shelf_of, take-append-drop, take_at, taken_of, tells_lists, Told, true≢false, value_of, WhereTold, Writer}
use Rattle.cdr_shelf.specs.Files.{SealedFile}
use Rattle.gw_base.specs.declared.item.Item.{Item}
use Rattle.file_writer.specs.Advancing.{Advances, HasRecovered}
use Rattle.file_writer.specs.Holding.{IsBegun}
use Rattle.file_writer.specs.Streams.{Settings}
use Rattle.file_writer.specs.declared.fault.ShelfFault.{ShelfFault}
use Rattle.node_session.specs.Writing.{Begins}
use Rattle.cdr_shelf.specs.declared.shelf.Shelf as shelf
use Rattle.gateway_answer.specs.Filed.{along}
use Rattle.gateway_book.specs.declared.outcome.ItemsFault.{ItemsFault}
use Rattle.gateway_book.specs.declared.outcome.ItemsFault.TheVariants as fault
use Rattle.gw_base.specs.Owes as owes

module _ {F : Type 0} {tells : shelf.Ghosts F} (old new : Writer F tells) where
  -- one that recovered has taken none
  pub recovered_writer : HasRecovered tells none_closed 0 old new → (told : Bool) (h : List HistoryEntry) → IsWriterOf told h new
  recovered_writer has told h ready = record {
    items = [];
    at = has.at;
    count = sym has.taken;
    begins = λ it_is. (items_of h, refl);
  }

  pub broken_writer : is_broken new ≡ true → (told : Bool) (h : List HistoryEntry) → IsWriterOf told h new
  broken_writer broken told h ready = absurd (true≢false (sym broken ∙ ready))

  pub recovered_files : IsTrue tells.tells_files → is_broken old ≡ true → is_broken new ≡ false → settings_in new ≡ settings_in old
      → tells.files (shelf_of new) ≡ tells.files (shelf_of old) → HasRecovered tells none_closed 0 old new
      → (all : List Item) → HoldsFilesOf all old → HoldsFilesOf all new
  recovered_files it_is was ready settings files has all holds = record {
    begun = λ broken. absurd (true≢false (sym broken ∙ ready));
    held = λ runs. subst (λ (n : ℕ). Holds new none_closed none_stood all (take n all)) (sym has.taken)
        (has.holds it_is none_stood all (λ s lt. omega arith)
        (subst (λ (x : Settings). IsBegun x none_closed none_stood all (tells.files (shelf_of new))) (sym settings)
        (subst (λ (fs : List SealedFile). IsBegun (settings_in old) none_closed none_stood all fs) (sym files) (holds.begun was))));
  }

  pub still_broken_files : is_broken old ≡ true → is_broken new ≡ true → settings_in new ≡ settings_in old
      → tells.files (shelf_of new) ≡ tells.files (shelf_of old) → (all : List Item) → HoldsFilesOf all old → HoldsFilesOf all new
  still_broken_files was broken settings files all holds = record {
    begun = λ b. subst (λ (x : Settings). IsBegun x none_closed none_stood all (tells.files (shelf_of new))) (sym settings)
        (subst (λ (fs : List SealedFile). IsBegun (settings_in old) none_closed none_stood all fs) (sym files) (holds.begun was));
    held = λ ready. absurd (true≢false (sym broken ∙ ready));
  }

  -- where the next items of a history stand in it
  next_in : (told : Bool) (h : List HistoryEntry) (w : HasTakenOf told h old) (next : List Item) → AreNext told h (taken_of old) next
      → WhereTold told (Begins (w.items ++ next) (items_of h))
  next_in told h w next are it_is =
      let begins = w.begins it_is in let behind = are it_is in
      let rest : begins.0 ≡ next ++ behind.0 =
      sym (drop_at w.items begins.0 (length w.items) refl)
      ∙ ap (λ (xs : List Item). drop (length w.items) xs) (sym begins.1)
      ∙ ap (λ n. drop n (items_of h)) w.count ∙ behind.1 in
      (behind.0, begins.1 ∙ ap (λ (xs : List Item). w.items ++ xs) rest ∙ sym (append_assoc w.items next behind.0))

  pub given_writer : (next : List Item) → is_broken old ≡ false → taken_of new ≡ taken_of old + length next
      → ((before : List Item) → IsAt old none_closed before → IsAt new none_closed (before ++ next))
      → (told : Bool) (h : List HistoryEntry) → IsWriterOf told h old → AreNext told h (taken_of old) next → IsWriterOf told h new
  given_writer next ready count at told h writer are still =
      let w = writer ready in
      record {
        items = w.items ++ next;
        at = at w.items w.at;
        count = length-append w.items next ∙ ap (λ n. n + length next) w.count ∙ sym count;
        begins = next_in told h w next are;
      }

  module _ (h : List HistoryEntry) (next all : List Item) (w : HasTakenOf true h old) (are : AreNext true h (taken_of old) next) (begins : Begins (items_of h) all) where
    abbrev front : Begins (w.items ++ next) (items_of h)
    front = next_in true h w next are refl

    abbrev rest : List Item
    rest = front.0 ++ begins.0

    all_is : all ≡ (w.items ++ next) ++ rest
    all_is = begins.1 ∙ ap (λ (xs : List Item). xs ++ begins.0) front.1 ∙ append_assoc (w.items ++ next) front.0 begins.0

    held_before : is_broken old ≡ false → HoldsFilesOf all old → Holds old none_closed none_stood ((w.items ++ next) ++ rest) w.items
    held_before ready holds =
        let same : take (taken_of old) all ≡ w.items =
        ap (λ (xs : List Item). take (taken_of old) xs) (all_is ∙ append_assoc w.items next rest)
        ∙ ap (λ n. take n (w.items ++ (next ++ rest))) (sym w.count) ∙ take_at w.items (next ++ rest) (length w.items) refl in
        subst (λ (xs : List Item). Holds old none_closed none_stood xs w.items) all_is
        (subst (λ (xs : List Item). Holds old none_closed none_stood all xs) same (holds.held ready))

    pub given_files : is_broken old ≡ false → is_broken new ≡ false → taken_of new ≡ taken_of old + length next → (n : ℕ)
        → Advances tells none_closed w.items next old new (Ok n) → IsTrue tells.tells_files → HoldsFilesOf all old → HoldsFilesOf all new
    given_files ready runs count n advances it_is holds =
        let same : w.items ++ next ≡ take (taken_of new) all =
        sym (ap (λ (xs : List Item). take (taken_of new) xs) all_is
        ∙ ap (λ n. take n ((w.items ++ next) ++ rest)) (count ∙ ap (λ n. n + length next) (sym w.count) ∙ sym (length-append w.items next))
        ∙ take_at (w.items ++ next) rest (length (w.items ++ next)) refl) in
        record {
          begun = λ broken. absurd (true≢false (sym broken ∙ runs));
          held = λ still. subst (λ (xs : List Item). Holds new none_closed none_stood all xs) same
              (subst (λ (xs : List Item). Holds new none_closed none_stood xs (w.items ++ next)) (sym all_is)
              (advances.holds it_is none_stood rest (held_before ready holds)));
        }

    pub failed_files : is_broken old ≡ false → is_broken new ≡ true → settings_in new ≡ settings_in old → (fault : ShelfFault)
        → Advances tells none_closed w.items next old new (Err fault) → IsTrue tells.tells_files → HoldsFilesOf all old → HoldsFilesOf all new
    failed_files ready broken settings fault advances it_is holds =
        let keeps = advances.keeps it_is none_stood rest (held_before ready holds) in
        record {
          begun = λ b. subst (λ (x : Settings). IsBegun x none_closed none_stood all (tells.files (shelf_of new))) (sym settings)
              (subst (λ (xs : List Item). IsBegun (settings_in old) none_closed none_stood xs (tells.files (shelf_of new))) (sym all_is)
              (subst (λ (fs : List SealedFile). IsBegun (settings_in old) none_closed none_stood ((w.items ++ next) ++ rest) fs) (sym keeps.now.1)
              (λ s lt. (_, keeps.at_any_moment keeps.now.0 s lt))));
          held = λ runs. absurd (true≢false (sym broken ∙ runs));
        }

-- so many items of a history from a number on are the next ones
pub next_ones : (told : Bool) (h : List HistoryEntry) (from most : ℕ) (items : List Item) → WhereTold told (items ≡ items_between from most h)
    → AreNext told h from items
next_ones told h from most items are it_is =
    (drop most (drop from (items_of h)), sym (ap (λ (xs : List Item). xs ++ drop most (drop from (items_of h))) (are it_is) ∙ take-append-drop most (drop from (items_of h))))

-- a writer that took the items to their end has taken all
pub all_given : {F : Type 0} {tells : shelf.Ghosts F} (h : List HistoryEntry) (new : Writer F tells) (from most : ℕ) (items : List Item)
    → items ≡ items_between from most h → length items < most → is_broken new ≡ false → taken_of new ≡ from + length items
    → HasTakenOf true h new → HasTakenAll h new
all_given h new from most items are few ready count w =
    let begins = w.begins refl in
    let same : length items ≡ length (take most (drop from (items_of h))) = ap (λ (xs : List Item). length xs) are in
    let long : length (items_of h) ≡ length w.items + length begins.0 = ap (λ (xs : List Item). length xs) begins.1 ∙ length-append w.items begins.0 in
    let is_taken = w.count in
    let none : begins.0 ≡ [] = nil_from_length begins.0 (omega (arith, few, same, length-take most (drop from (items_of h)), length-drop from (items_of h), long, is_taken, count)) in
    record {
      ready = ready;
      at = subst (λ (xs : List Item). IsAt new none_closed xs) (sym (begins.1 ∙ ap (λ (xs : List Item). w.items ++ xs) none ∙ append-nil w.items)) w.at;
      count = let empty : length begins.0 ≡ 0 = ap (λ (xs : List Item). length xs) none in omega (arith, long, is_taken, empty);
    }

-- a writer was given so many items at most, and took them
pub given_some : {F : Type 0} {tells : shelf.Ghosts F} (told : Bool) (h : List HistoryEntry) (old new : Writer F tells) (most : ℕ) (items : List Item)
    (n : ℕ) → n ≡ length items → WhereTold told (items ≡ items_between (taken_of old) most h) → is_broken new ≡ false
    → taken_of new ≡ taken_of old + length items → taken_of new < 2 ^ 31 → IsWriterOf told h new → 0 < most
    → HasGivenSome told h old new (nat_eq n most)
given_some told h old new most items n long are ready count few writer some = record {
  ready = ready;
  moves = λ more. let is = eqb-true n most more in (omega (arith, is, long, count, some), few);
  all = λ less it_is.
      let not : n ≡ most → ⊥ = λ same. true≢false (sym (eq-eqb n most same) ∙ less) in
      let same : length items ≡ length (take most (drop (taken_of old) (items_of h))) = ap (λ (xs : List Item). length xs) (are it_is) in
      let fewer : length items < most = omega (arith, length-take most (drop (taken_of old) (items_of h)), same, long, not) in
      all_given h new (taken_of old) most items (are it_is) fewer ready count
      (subst (λ (b : Bool). HasTakenOf b h new) it_is (writer ready));
}

-- what a writer has taken of a history, and the next items, are fewer than the octets of an area may be
pub room_within : {F : Type 0} {tells : shelf.Ghosts F} (h : List HistoryEntry) (w : Writer F tells) (most : ℕ) (items : List Item)
    → HasTakenOf true h w → items ≡ items_between (taken_of w) most h → length (items_of h) < 2 ^ 31 → taken_of w + length items < 2 ^ 31
room_within h w most items has are few =
    let begins = has.begins refl in
    let long : length (items_of h) ≡ length has.items + length begins.0 = ap (λ (xs : List Item). length xs) begins.1 ∙ length-append has.items begins.0 in
    let taken = has.count in
    let same : length items ≡ length (take most (drop (taken_of w) (items_of h))) = ap (λ (xs : List Item). length xs) are in
    omega (arith, long, taken, same, length-take most (drop (taken_of w) (items_of h)), length-drop (taken_of w) (items_of h), few)

-- ---- a step

abbrev pub Stays : Type 0
Stays = (h g : List HistoryEntry) → items_of (h ++ g) ≡ items_of h ++ along items_by h g

-- the firm entries of a book make few items
abbrev pub Limits : {A : Type 0} → Ghosts A → Type 0
Limits {A} tells = (book : Book A tells) → Told tells → length (items_of (value_of book).firm) < 2 ^ 31

-- a writer that took items of a history took items of a longer one
pub writer_grows : Stays → {F : Type 0} {tells : shelf.Ghosts F} (w : Writer F tells) (told : Bool) (h g : List HistoryEntry)
    → WhereTold told (owes.Begins h g) → IsWriterOf told h w → IsWriterOf told g w
writer_grows stays w told h g grows writer ready =
    let has = writer ready in
    record {
      items = has.items;
      at = has.at;
      count = has.count;
      begins = λ it_is.
          let more = grows it_is in let begins = has.begins it_is in (
            begins.0 ++ along items_by h more.0,
            ap items_of more.1 ∙ stays h more.0 ∙ ap (λ (xs : List Item). xs ++ along items_by h more.0) begins.1
                ∙ append_assoc has.items begins.0 (along items_by h more.0),
          );
    }

-- a count that doesn't fall, and stands in between
pub later_by : (a b c d : ℕ) → a ≤ b → c ≡ b → c ≤ d → a ≤ d
later_by a b c d first same then = omega (arith, first, same, then)

-- nothing was listed
pub keeps_none : (before : Knowledge) → KeepsListing before before
keeps_none before = record {
  later = [];
  turns = sym (append-nil before.turns);
  number = (refl, refl);
  one = omega arith;
  adds_none = All-nil (λ (t : KeptTurn). t.added ≡ []);
}

-- how many are taken of those that are left
pub taken_count : (most from : ℕ) (xs : List Item) → length (take most (drop from xs)) ≡ min most (length xs - from)
taken_count most from xs = length-take most (drop from xs) ∙ ap (λ n. min most n) (length-drop from xs)

-- the same of the pass that is held
pub lists_at : {A R : Type 0} (tells : Ghosts A) (most : ℕ) (items : R → List Item) (result : Result R ItemsFault) (after : Knowledge)
    (p : Option Pass) (pass : Pass) → p ≡ Some pass → (from told_from : ℕ) → told_from ≡ from
    → ListsIn tells told_from most items (knowledge pass) result after → ListsIn tells from most items (known_by p) result after
lists_at tells most items result after p pass is from told_from same lists =
    subst (λ (k : Knowledge). ListsIn tells from most items k result after) (ap known_by (sym is))
    (subst (λ (n : ℕ). ListsIn tells n most items (knowledge pass) result after) same lists)

module _ {A R : Type 0} (tells : Ghosts A) (from most : ℕ) (items : R → List Item) (before after : Knowledge) (result : Result R ItemsFault)
    (lists : ListsIn tells from most items before result after) where
  abbrev u : KeptTurn
  u = kept (book_facts lists.found) (book_facts lists.left) lists.drops lists.added

  pub keeps_one : KeepsListing before after
  keeps_one = record {
    later = u ∷ [];
    turns = ap (λ (k : Knowledge). k.turns) lists.kept;
    number = (ap (λ (k : Knowledge). k.number) lists.kept, ap (λ (k : Knowledge). k.size) lists.kept);
    one = omega arith;
    adds_none = All-cons (λ (t : KeptTurn). t.added ≡ []) u [] lists.does_so.adds (All-nil (λ (t : KeptTurn). t.added ≡ []));
  }

  known_is : WhereTold (tells_lists tells) (after.known ≡ (book_facts lists.found).firm)
  known_is told = ap (λ (k : Knowledge). k.known) lists.kept ∙ lists.does_so.firm told

  pub known_grows : WhereTold (tells_lists tells) (owes.Begins before.known after.known)
  known_grows told = subst (λ (h : List HistoryEntry). owes.Begins before.known h) (sym (known_is told)) (lists.legal.known told)

  pub listed_in : HasListedIn (tells_lists tells) before after u
  listed_in = record {
    turns = ap (λ (k : Knowledge). k.turns) lists.kept;
    legal = lists.legal;
    known = known_is;
  }

  pub failed_in : result ≡ Err fault.Device → HasFailedIn (tells_lists tells) before after
  failed_in failed = record {
    turn = u;
    listed = listed_in;
    rose = lists.does_so.device failed;
  }

  pub items_are : (r : R) → result ≡ Ok r → WhereTold (tells_lists tells) (items r ≡ items_between from most after.known)
  items_are r is told =
      subst (λ (x : Result R ItemsFault). IfOk x (λ y. items y ≡ items_between from most (book_facts lists.found).firm)) is (lists.does_so.listed told)
      ∙ ap (λ (h : List HistoryEntry). items_between from most h) (sym (known_is told))

module _ (stays : Stays) {A R F : Type 0} (tells : Ghosts A) {files : shelf.Ghosts F} (from : ℕ) (items : R → List Item) (before after : Knowledge)
    (result : Result R ItemsFault) (lists : ListsIn tells from most_items items before result after) (m w : Writer F files) (rest : w ≡ m)
    (writer : IsWriterOf (tells_lists tells) before.known m) where
  pub listed_writer : IsWriterOf (tells_lists tells) after.known w
  listed_writer = writer_grows stays w (tells_lists tells) before.known after.known (known_grows tells from most_items items before after result lists)
      (subst (λ (x : Writer F files). IsWriterOf (tells_lists tells) before.known x) (sym rest) writer)

  pub listed_next : (r : R) → result ≡ Ok r → (xs : List Item) → xs ≡ items r → from ≡ taken_of m → AreNext (tells_lists tells) after.known (taken_of w) xs
  listed_next r is xs same at =
      subst (λ (n : ℕ). AreNext (tells_lists tells) after.known n xs) (at ∙ ap (λ (x : Writer F files). taken_of x) (sym rest))
      (next_ones (tells_lists tells) after.known from most_items xs
      (λ told. same ∙ items_are tells from most_items items before after result lists r is told))

  -- what the writer has taken then, with what was listed, are few
  pub listed_room : Limits tells → (r : R) → result ≡ Ok r → (xs : List Item) → xs ≡ items r → from ≡ taken_of m → is_broken w ≡ false
      → WhereTold (tells_lists tells) (taken_of w + length xs < 2 ^ 31)
  listed_room limits r is xs same at ready told =
      room_within after.known w most_items xs (subst (λ (b : Bool). HasTakenOf b after.known w) told (listed_writer ready))
      (same ∙ items_are tells from most_items items before after result lists r is told
      ∙ ap (λ (n : ℕ). items_between n most_items after.known) (at ∙ ap (λ (x : Writer F files). taken_of x) (sym rest)))
      (subst (λ (h : List HistoryEntry). length (items_of h) < 2 ^ 31) (sym (known_is tells from most_items items before after result lists told))
      (limits lists.found (and_parts tells.tells_octets tells.tells_crash told)))

  pub listed_count : (r : R) → result ≡ Ok r → (xs : List Item) → xs ≡ items r → (n start : ℕ) → n ≡ length xs → from ≡ start
      → WhereTold (tells_lists tells) (n ≡ min most_items (length (items_of after.known) - start))
  listed_count r is xs same n start long at told =
      long ∙ ap (λ (ys : List Item). length ys) (same ∙ items_are tells from most_items items before after result lists r is told)
      ∙ taken_count most_items from (items_of after.known) ∙ ap (λ k. min most_items (length (items_of after.known) - k)) at
