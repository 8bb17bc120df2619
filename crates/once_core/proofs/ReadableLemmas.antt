-- The records of a history's items are such as the files are read with.
use Rattle.std.proofs.Common.{◌≡◌, ℕ, zero, suc, ◌+◌, ◌^◌, ◌<◌, ◌≤◌, ◌≢◌, ◌==◌, ◌/◌, ◌%◌, nat_lt, All, List, [], ◌∷◌, ◌++◌, length, length-append, length-take, map, drop, filter, Option, Some, None, option_map, refl, sym, subst, arith, ℤ, Contains, not, ⊎_elim}
use Rattle.once_core.proofs.Names.{All-append, All-cons, All-contains, All-drop, All-filter, All-head, All-nil, All-push, All-same, All-tail, All-weaker, along, AreLimits, closed_first, closed_of, ClosureReason, divided_from, Division, ends_before, extension_of, filed_under, FiledRecord, FilePlace, held_packet, HistoryAct, HistoryEntry, IsCdrKind, items_by, items_by_act, items_of, kind_of, last_naming, last_or, last_stream, Limits, map-append, names, nat_tests, NodeId, once, option_and_then_some, packet_of, packet_of_hold, PacketForm, PacketKey, part_of, placed, present_entries, present_key, record_at, records_at, records_from, records_if, release_of, released_by, released_records, Rule, same_Some, Settings, stream_count, stream_item, stream_items, streams_of}
use Rattle.cdr_file.specs.CdrFile.{FileSettings}
use Rattle.cdr_file.specs.Timestamp.{stamp_of}
use Rattle.cdr_shelf.specs.Files.{SealedFile}
use Rattle.entry_codec.specs.Room.{capacity_of}
use Rattle.entry_codec.specs.Spelling.{AreBelow, HasSpelling, IsAct}
use Rattle.file_rotate.specs.Division.{still}
use Rattle.file_rotate.specs.Items.{Filed}
use Rattle.file_rotate.specs.Items as stream
use Rattle.file_writer.specs.AllStreams.{IsFit}
use Rattle.file_writer.specs.Files.{AreFilesOf, stream_files}
use Rattle.file_writer.specs.Reading.{IsStamped, ReadsAt}
use Rattle.gate_journal.specs.Format.{most_octets}
use Rattle.gtpp_header.specs.Header.{two_octets}
use Rattle.gtpp_message.specs.Packet as packets
use Rattle.gw_base.specs.declared.history.HistoryAct.TheVariants as act
use Rattle.gw_base.specs.declared.item.Item.{Item}
use Rattle.gw_base.specs.declared.item.Item.TheVariants as item
use Rattle.jiff_core.specs.Calendar.{IsWithin}
use Rattle.once_core.proofs.FilePlaceLemmas.{stream_there}
use Rattle.once_core.proofs.ListLemmas.{filtered, in_cons, in_head, in_tail, of_map}
use Rattle.once_core.proofs.CaseLemmas.{by_option, if_both, map_known}

-- ---- records of packets

abbrev IsShort : List ℕ → Type 0
IsShort octets = length octets < 2 ^ 16

below_drop : (n : ℕ) (xs : List ℕ) → AreBelow 256 xs → AreBelow 256 (drop n xs)
below_drop zero xs small = small
below_drop (suc n) [] small = tt
below_drop (suc n) (x ∷ xs) small = below_drop n xs small.1

-- what an option is mapped to
mapped_some : {A B P : Type 0} (f : A → B) (o : Option A) (y : B) → option_map f o ≡ Some y → ((x : A) → o ≡ Some x → f x ≡ y → P) → P
mapped_some f None y e holds = absurd (cc)
mapped_some f (Some x) y e holds = holds x refl (same_Some (f x) y e)

first_short : (octets : List ℕ) (parts : List ℕ × List ℕ) → AreBelow 256 octets → packets.record_at octets ≡ Some parts
    → IsShort parts.0 × AreBelow 256 parts.1
first_short (high ∷ low ∷ rest) parts small e =
    if_both (λ (o : Option (List ℕ × List ℕ)). o ≡ Some parts → IsShort parts.0 × AreBelow 256 parts.1) (nat_lt (length rest) (two_octets high low)) (λ none. absurd (cc))
    (λ some.
    let high_is : high < 256 = small.0 in
    let low_is : low < 256 = small.1.0 in
    subst (λ (p : List ℕ × List ℕ). IsShort p.0 × AreBelow 256 p.1) (same_Some _ parts some)
    (omega (arith, length-take (two_octets high low) rest), below_drop (two_octets high low) rest small.1.1)) e
first_short _ parts small e = absurd (cc)

records_short : (count : ℕ) (octets : List ℕ) (records : List (List ℕ)) → AreBelow 256 octets
    → records_at count octets ≡ Some records → All IsShort records
records_short zero [] records small e = subst (All IsShort) (same_Some [] records e) (All-nil IsShort)
records_short zero (x ∷ xs) records small e = absurd (cc)
records_short (suc count) octets records small e = option_and_then_some _ (packets.record_at octets) records e
    (λ parts here more. mapped_some _ (records_at count parts.1) records more (λ later there same.
    let one = first_short octets parts small here in
    subst (All IsShort) same (All-cons IsShort parts.0 later one.0 (records_short count parts.1 later one.1 there))))

form_short : (packet : List ℕ) (form : PacketForm) → AreBelow 256 packet → packet_of packet ≡ Some form
    → All IsShort form.records
form_short (count ∷ format ∷ high ∷ low ∷ octets) form small e = if_both (λ (o : Option PacketForm). o ≡ Some form → All IsShort form.records) (count == 0) (λ none. absurd (cc))
    (λ some. mapped_some _ (records_at count octets) form some (λ records there same.
    subst (λ (f : PacketForm). All IsShort f.records) same (records_short count octets records small.1.1.1.1 there))) e
form_short _ form small e = absurd (cc)

-- ---- what is filed

abbrev IsTimely : Item → Type 0
IsTimely (item.Part kind tag octets moment) = moment ≤ 4102444799
IsTimely _ = Unit {0}

abbrev IsSound : Item → Type 0
IsSound i = IsFit i × IsTimely i

release_fits : (digit : ℕ) → release_of digit < 8
release_fits digit = grind (arith, nat_tests)

others_none : (digit : ℕ) → release_of digit ≢ 7 → extension_of digit ≡ 0
others_none digit = grind (arith, nat_tests)

kind_fits : (format version : ℕ) → IsCdrKind (kind_of format version)
kind_fits format version = record {
  release = release_fits (version / 256 % 16);
  version = omega arith;
  format = omega arith;
  extension = omega arith;
  others = others_none (version / 256 % 16);
}

records_sound : (key : PacketKey) (moment format version index : ℕ) (records : List (List ℕ)) → moment ≤ 4102444799
    → All IsShort records → All IsSound (map part_of (records_from key moment format version index records))
records_sound key moment format version index [] timely short = All-nil IsSound
records_sound key moment format version index (r ∷ records) timely short =
    All-cons IsSound _ _ ((kind_fits format version, All-head IsShort r records short), timely)
    (records_sound key moment format version (index + 1) records timely (All-tail IsShort r records short))

under_sound : (key : PacketKey) (moment : ℕ) (packet : List ℕ) → moment ≤ 4102444799 → AreBelow 256 packet
    → All IsSound (map part_of (filed_under key moment packet))
under_sound key moment packet timely small = by_option (λ (o : Option PacketForm). All IsSound (map part_of (records_if key moment o))) (packet_of packet) (λ none. All-nil IsSound)
    (λ form is. records_sound key moment form.format form.version 0 form.records timely (form_short packet form small is))

-- ---- what is held

last_holds : {A : Type 0} (P : A → Type 0) (o : Option A) (xs : List A) → ((x : A) → o ≡ Some x → P x) → All P xs
    → (x : A) → last_or o xs ≡ Some x → P x
last_holds P o [] first all x e = first x e
last_holds P o (y ∷ xs) first all x e = last_holds P (Some y) xs (λ z same. subst P (same_Some y z same) (All-head P y xs all)) (All-tail P y xs all) x e

hold_small : (a : HistoryAct) (packet : List ℕ) → IsAct a → packet_of_hold a ≡ Some packet → AreBelow 256 packet
hold_small a packet is e = grind arith

held_small : (node number : ℕ) (h : List HistoryEntry) (packet : List ℕ) → All HasSpelling h
    → held_packet node number h ≡ Some packet → AreBelow 256 packet
held_small node number h packet all e = option_and_then_some (λ (e : HistoryEntry). packet_of_hold e.act) (last_naming node number (present_entries node h)) packet e
    (λ entry is given. hold_small entry.act packet
    (last_holds HasSpelling None (filter (λ (e : HistoryEntry). names node number e.act) (present_entries node h)) (λ x none. absurd (cc))
    (All-filter (λ (e : HistoryEntry). names node number e.act) HasSpelling (present_entries node h) (All-drop HasSpelling _ h all)) entry is).act given)

released_sound : (before : List HistoryEntry) (moment : ℕ) (n : NodeId) (numbers : List ℕ) → moment ≤ 4102444799
    → All HasSpelling before → All IsSound (map part_of (released_by before moment n numbers))
released_sound before moment n [] timely all = All-nil IsSound
released_sound before moment n (x ∷ numbers) timely all =
    All-same IsSound _ _ (map-append part_of (released_records before moment n x) (released_by before moment n numbers))
    (All-append IsSound _ _
    (map_known (λ (filed : List FiledRecord). All IsSound (map part_of filed)) (held_packet n.0 x before) (λ none. All-nil IsSound)
    (λ packet is. under_sound (present_key before n x) moment packet timely (held_small n.0 x before packet all is)))
    (released_sound before moment n numbers timely all))

-- ---- the items of a history

act_sound : (before : List HistoryEntry) (moment : ℕ) (a : HistoryAct) → moment ≤ 4102444799 → IsAct a
    → All HasSpelling before → All IsSound (items_by_act before moment a)
act_sound before moment (act.File n x packet) timely is all = under_sound (present_key before n x) moment packet timely is.2
act_sound before moment (act.Release n xs) timely is all = released_sound before moment n (once (λ x y. x == y) xs) timely all
act_sound before moment act.Tick timely is all = All-cons IsSound (item.Tick moment) [] (tt, tt) (All-nil IsSound)
act_sound before moment act.Close timely is all = All-cons IsSound (item.Close moment) [] (tt, tt) (All-nil IsSound)
act_sound before moment _ timely is all = All-nil IsSound

items_sound : (before h : List HistoryEntry) → All HasSpelling before → All HasSpelling h → All IsSound (along items_by before h)
items_sound before [] front all = All-nil IsSound
items_sound before (e ∷ h) front all =
    let fits : HasSpelling e = All-head HasSpelling e h all in
    All-append IsSound (items_by before e) _ (act_sound before e.moment e.act fits.moment fits.act front)
    (items_sound (before ++ e ∷ []) h (All-push HasSpelling before e front fits) (All-tail HasSpelling e h all))

-- ---- how many files are closed

abbrev one_if : Option ClosureReason → ℕ
one_if None = 0
one_if (Some reason) = 1

-- 1 where a run is open
abbrev is_open : List (Filed (List ℕ)) → ℕ
is_open [] = 0
is_open (x ∷ xs) = 1

open_once : (run : List (Filed (List ℕ))) → is_open run ≤ 1
open_once run = grind arith

one_at_most : (reason : Option ClosureReason) → one_if reason ≤ 1
one_at_most reason = grind arith

closed_of_first : (reason : Option ClosureReason) (run : List (Filed (List ℕ))) (division : Division (List ℕ))
    → length (closed_first reason run division).closed ≡ one_if reason + length division.closed
closed_of_first reason run division = grind arith

open_before : (limits : Limits) (run : List (Filed (List ℕ))) (i : stream.Item (List ℕ))
    → one_if (ends_before limits run i) ≤ is_open run
unfolding ends_before
open_before limits [] i = omega arith
open_before limits (x ∷ xs) i = one_at_most (ends_before limits (x ∷ xs) i)

open_after : (reason : Option ClosureReason) (run : List (Filed (List ℕ))) → one_if reason + is_open (still reason run []) ≤ 1
open_after reason run = grind (arith, open_once run)

few_closed : (limits : Limits) (run : List (Filed (List ℕ))) (items : List (stream.Item (List ℕ)))
    → length (divided_from limits run items).closed ≤ length items + is_open run
few_closed limits run [] = omega arith
few_closed limits run (i ∷ items) =
    let rest : (r : List (Filed (List ℕ))) → length (divided_from limits r items).closed ≤ length items + is_open r = λ r. few_closed limits r items in
    grind (arith, closed_of_first, open_before limits run i, open_after, rest)

few_of_item : (profile : ℕ) (rules : List Rule) (s : ℕ) (i : Item) → length (stream_item profile rules s i) ≤ 1
few_of_item profile rules s i = grind (arith, nat_tests)

few_of_stream : (profile : ℕ) (rules : List Rule) (s : ℕ) (items : List Item)
    → length (stream_items profile rules s items) ≤ length items
few_of_stream profile rules s [] = omega arith
few_of_stream profile rules s (i ∷ items) =
    let both = length-append (stream_item profile rules s i) (stream_items profile rules s items) in
    grind (arith, few_of_item profile rules s i, few_of_stream profile rules s items, both)

-- ---- what is read

abbrev pub StampsFit : Type 0
StampsFit = (moment : ℕ) (offset : ℤ) → moment ≤ 4102444799 → IsWithin 959 offset → stamp_of moment offset < 2 ^ 32

abbrev pub ReadsThere : Type 0
ReadsThere = (settings : Settings) (items : List Item) (place : FilePlace) (filed : Filed (List ℕ))
    → AreLimits settings.limits → All IsFit items → All (IsStamped settings.file) items
    → place.sequence < 2 ^ 32 → place.sequence ≤ closed_of settings place.stream items
    → record_at settings items place ≡ Some filed → ReadsAt (stream_files settings place.stream items) place filed

stamped : StampsFit → (file : FileSettings) → IsWithin 959 file.offset → (i : Item) → IsSound i → IsStamped file i
stamped fits file within (item.Part kind tag octets moment) is = fits moment file.offset is.1 within
stamped fits file within _ is = tt

pub read_there : StampsFit → ReadsThere → (settings : Settings) (h : List HistoryEntry) (place : FilePlace)
    (filed : Filed (List ℕ)) → All HasSpelling h → (size : ℕ) → length (items_of h) ≤ capacity_of size
    → size ≤ most_octets → AreLimits settings.limits → IsWithin 959 settings.file.offset
    → place.sequence ≤ closed_of settings place.stream (items_of h) → record_at settings (items_of h) place ≡ Some filed
    → ReadsAt (stream_files settings place.stream (items_of h)) place filed
read_there fits reads settings h place filed spelled size few short limits within closed there =
    let sound : All IsSound (items_of h) = items_sound [] h (All-nil HasSpelling) spelled in
    let items : List (stream.Item (List ℕ)) = stream_items settings.profile settings.rules place.stream (items_of h) in
    let low : place.sequence < 2 ^ 32 =
    omega (arith, few_closed settings.limits [] items, few_of_stream settings.profile settings.rules place.stream (items_of h)) in
    reads settings (items_of h) place filed limits (All-weaker IsSound IsFit (λ i is. is.0) (items_of h) sound)
    (All-weaker IsSound (IsStamped settings.file) (stamped fits settings.file within) (items_of h) sound) low closed there

-- ---- among the files of all streams

once_in : (xs : List ℕ) (y : ℕ) → Contains (once (λ a b. a == b) xs) y → Contains xs y
once_in [] y is = is
once_in (x ∷ xs) y is = ⊎_elim
    (λ e. subst (Contains (x ∷ xs)) e (in_head x xs))
    (λ later. in_tail x y xs (once_in xs y (filtered (λ z. not (x == z)) (once (λ a b. a == b) xs) y later)))
    (in_cons x y (filter (λ z. not (x == z)) (once (λ a b. a == b) xs)) is)

few_streams : (settings : Settings) (s : ℕ) → All (λ (rule : Rule). rule.stream ≤ last_stream) settings.rules
    → Contains (streams_of settings) s → s < stream_count
few_streams settings s low is = ⊎_elim
    (λ e. omega (arith, e))
    (λ later.
    let from = of_map (λ (rule : Rule). rule.stream) settings.rules s later in
    omega (arith, All-contains (λ (rule : Rule). rule.stream ≤ last_stream) settings.rules from.0 low from.1, from.2))
    (in_cons 0 s (map (λ (rule : Rule). rule.stream) settings.rules)
    (once_in (0 ∷ map (λ (rule : Rule). rule.stream) settings.rules) s is))

pub among_files : (settings : Settings) (h : List HistoryEntry) (files : List SealedFile) (place : FilePlace)
    (filed : Filed (List ℕ)) (filing : FiledRecord) → All (λ (rule : Rule). rule.stream ≤ last_stream) settings.rules
    → AreFilesOf settings (items_of h) files → Contains (placed settings h) (place, filing)
    → ReadsAt (stream_files settings place.stream (items_of h)) place filed → ReadsAt files place filed
among_files settings h files place filed filing low are is reads =
    let small : place.stream < stream_count = few_streams settings place.stream low (stream_there settings h place filing is) in
    let kept : Contains files reads.file = filtered (λ (f : SealedFile). f.name.stream == place.stream) files reads.file
    (subst (λ (fs : List SealedFile). Contains fs reads.file) (sym (are.each place.stream small)) reads.kept) in
    search (kept, reads.name, reads.read, reads.reads, reads.there)
