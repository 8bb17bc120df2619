-- The book of a gateway whose device never fails: before each call and after it all entries are firm.
use Rattle.std.proofs.Common.{◌≡◌, ℕ, Bool, true, false, if◌then◌else◌, List, [], ◌∷◌, ◌++◌, get_or, take, Option, Some, None, refl, ap, sym, ◌∙◌, arith, append-nil, zero, suc, inl, inr}
use Rattle.std.specs.Prelude.{All, slice_index}
use Rattle.std.proofs.lemmas.Bool.{false≢true}
use Rattle.area_disk.specs.Disk.{zeros}
use Rattle.area_disk.specs.declared.area.Area.{Ghosts}
use Rattle.file_writer.specs.AllStreams.{IsFit}
use Rattle.gate_journal.specs.Format.{Starts, header, spelled}
use Rattle.cgf_jobs.proofs.Names.{act_decided, after_commit, answer_to, BookValue, committed, Decided, decided, entry_by, Fortune, GatewayValue, history_of, HistoryEntry, IsWritable, Item, new_gateway, no_caller, open_time_of, opened, outcome_at, outcome_line, recorded, recorded_if, recording, reply_line, room_for, Says, Silent, size_of, standing_for, Stays, taken, value_of, with_act}
use Rattle.gateway_book.specs.Opened.{IsNotOurs}
use Rattle.gateway_answer.specs.Preparing.{PreparedValue}
use Rattle.gateway_book.specs.declared.book.Book.{Book}
use Rattle.gateway_book.specs.declared.outcome.Outcome.{Outcome}
use Rattle.gw_base.specs.declared.address.Addr.{Addr}
use Rattle.gw_base.specs.declared.history.HistoryAct.{HistoryAct}
use Rattle.gw_base.specs.declared.history.HistoryAct.TheVariants.{Start}
use Rattle.gw_base.specs.declared.item.Item.TheVariants as item
use Rattle.cgf_jobs.specs.BookSteps.{IsAllFirm, Records, gateway_of}

-- ---- commits

-- a commit that doesn't fail, of a book that isn't broken
pub commits : (f : Fortune) (v : BookValue) → v.is_broken ≡ false → f.fails ≡ false → after_commit f v ≡ committed v
commits f v whole well = by_rest v.firm v.rest v.cuts v.is_broken whole well
  where
    by_rest : (firm rest : List HistoryEntry) (cuts : ℕ) (broken : Bool) → broken ≡ false → f.fails ≡ false
        → after_commit f (record { firm = firm; rest = rest; cuts = cuts; is_broken = broken })
        ≡ committed (record { firm = firm; rest = rest; cuts = cuts; is_broken = broken })
    by_rest firm rest cuts true whole well = absurd (false≢true (sym whole))
    by_rest firm [] cuts false whole well = ap (λ (h : List HistoryEntry). record { firm = h; rest = []; cuts = cuts; is_broken = false }) (sym (append-nil firm))
    by_rest firm (e ∷ rest) cuts false whole well = rw well refl

-- all entries are firm after a commit
firm_all : (v : BookValue) → v.cuts ≡ 0 → v.is_broken ≡ false → committed v ≡ standing_for (committed v).firm
firm_all v uncut whole = λ i. record { firm = v.firm ++ v.rest; rest = []; cuts = uncut i; is_broken = whole i }

pub committed_firm : {A : Type 0} {tells : Ghosts A} (old new : Book A tells) → value_of new ≡ committed (value_of old)
    → (value_of old).cuts ≡ 0 → (value_of old).is_broken ≡ false → IsAllFirm new
committed_firm old new is uncut whole =
    is ∙ firm_all (value_of old) uncut whole ∙ ap (λ (v : BookValue). standing_for v.firm) (sym is)

-- ---- an entry that waits, or none

pub recorded_whole : (h : List HistoryEntry) (now : ℕ) (act : Option HistoryAct) → (recorded_if (standing_for h) now no_caller act).is_broken ≡ false
recorded_whole h now None = refl
recorded_whole h now (Some act) = refl

recorded_uncut : (h : List HistoryEntry) (now : ℕ) (act : Option HistoryAct) → (recorded_if (standing_for h) now no_caller act).cuts ≡ 0
recorded_uncut h now None = refl
recorded_uncut h now (Some act) = refl

recorded_firm : (h : List HistoryEntry) (now : ℕ) (act : Option HistoryAct) → (committed (recorded_if (standing_for h) now no_caller act)).firm ≡ with_act h now no_caller act
recorded_firm h now None = append-nil h
recorded_firm h now (Some act) = ap (λ (g : List HistoryEntry). h ++ entry_by g now no_caller act ∷ []) (append-nil h)

abbrev made : List HistoryEntry → ℕ → ℕ → GatewayValue
made h size time = record { history = h; reserved = size; open_time = time }

made_same : {h g : List HistoryEntry} {size size' time time' : ℕ} → h ≡ g → size ≡ size' → time ≡ time'
    → made h size time ≡ made g size' time'
made_same a b c = λ i. made (a i) (b i) (c i)

module _ {A : Type 0} {tells : Ghosts A} where
  pub recorded_all_firm : (old middle new : Book A tells) (now : ℕ) (act : Option HistoryAct) → Records old middle now act
      → value_of new ≡ committed (value_of middle) → IsAllFirm new
  recorded_all_firm old middle new now act moved is =
      committed_firm middle new is (ap (λ (v : BookValue). v.cuts) moved ∙ recorded_uncut (value_of old).firm now act)
      (ap (λ (v : BookValue). v.is_broken) moved ∙ recorded_whole (value_of old).firm now act)

  pub recorded_gateway : (old middle new : Book A tells) (now : ℕ) (act : Option HistoryAct) → Records old middle now act
      → value_of new ≡ committed (value_of middle) → Stays old middle → Stays middle new
      → gateway_of new ≡ recording (gateway_of old) now act
  recorded_gateway old middle new now act moved is first second =
      made_same
      (ap (λ (v : BookValue). v.firm) is ∙ ap (λ (v : BookValue). (committed v).firm) moved ∙ recorded_firm
      (value_of old).firm now act)
      (second.size ∙ first.size) (second.open_time ∙ first.open_time)

-- ---- datagrams

taken_value : (f : Fortune) (from : Addr) (datagram : PreparedValue) (size now : ℕ) (h : List HistoryEntry)
    → (taken f from datagram size now no_caller (standing_for h)).value
    ≡ recorded_if (standing_for h) now no_caller (act_decided (decided (answer_to h from datagram size)))
taken_value f from datagram size now h =
    ap (λ (g : List HistoryEntry). recorded_if (standing_for h) now no_caller (act_decided (decided (answer_to g from datagram size)))) (append-nil h)

line_of : (v : BookValue) (d : Decided) → outcome_line (outcome_at v d) ≡ reply_line d
line_of v (Silent why) = refl
line_of v (Says octets act) = refl

taken_line : (f : Fortune) (from : Addr) (datagram : PreparedValue) (size now : ℕ) (h : List HistoryEntry)
    → outcome_line (taken f from datagram size now no_caller (standing_for h)).answer ≡ reply_line (decided (answer_to h from datagram size))
taken_line f from datagram size now h =
    line_of (taken f from datagram size now no_caller (standing_for h)).value (decided (answer_to (h ++ []) from datagram size))
    ∙ ap (λ (g : List HistoryEntry). reply_line (decided (answer_to g from datagram size))) (append-nil h)

module _ {A : Type 0} {tells : Ghosts A} (old new : Book A tells) (f : Fortune) (from : Addr) (datagram : PreparedValue) (now : ℕ) where
  pub taken_records : IsAllFirm old → value_of new ≡ (taken f from datagram (size_of old) now no_caller (value_of old)).value
      → Records old new now (act_decided (decided (answer_to (value_of old).firm from datagram (size_of old))))
  taken_records firm moved =
      moved ∙ ap (λ (v : BookValue). (taken f from datagram (size_of old) now no_caller v).value) firm
      ∙ taken_value f from datagram (size_of old) now (value_of old).firm

  pub taken_answers : (result : Outcome) → IsAllFirm old → result ≡ (taken f from datagram (size_of old) now no_caller (value_of old)).answer
      → outcome_line result ≡ reply_line (decided (answer_to (value_of old).firm from datagram (size_of old)))
  taken_answers result firm answered =
      ap (λ (o : Outcome). outcome_line o) (answered ∙ ap (λ (v : BookValue). (taken f from datagram (size_of old) now no_caller v).answer) firm)
      ∙ taken_line f from datagram (size_of old) now (value_of old).firm

module _ {A : Type 0} {tells : Ghosts A} (old middle new : Book A tells) (f : Fortune) (from : Addr) (datagram : PreparedValue) (now : ℕ) where
  -- all entries are firm after a datagram was taken and a commit
  pub taken_all_firm : IsAllFirm old → value_of middle ≡ (taken f from datagram (size_of old) now no_caller (value_of old)).value
      → value_of new ≡ committed (value_of middle) → IsAllFirm new
  taken_all_firm firm moved is =
      recorded_all_firm old middle new now (act_decided (decided (answer_to (value_of old).firm from datagram (size_of old))))
      (taken_records old middle f from datagram now firm moved) is

-- ---- the opening

-- an area of zeros starts
zeros_first : (n : ℕ) → slice_index (zeros n) 0 ≡ 0
unfolding zeros
zeros_first zero = refl
zeros_first (suc n) = refl

pub zeros_start : (octets : List ℕ) (size n address generation : ℕ) → octets ≡ zeros n → Starts (header size address generation) octets
zeros_start octets size n address generation is = inl (ap (λ (xs : List ℕ). slice_index xs 0) is ∙ zeros_first n)

-- so that it isn't another's
header_first : (size address generation : ℕ) (xs : List ℕ) → slice_index (header size address generation ++ xs) 0 ≡ 67
unfolding header
header_first size address generation xs = refl

front_first : (at : ℕ) (xs : List ℕ) → slice_index xs 0 ≡ 0 → slice_index (take at xs) 0 ≡ 0
front_first zero [] h = refl
front_first zero (x ∷ xs) h = refl
front_first (suc at) [] h = refl
front_first (suc at) (x ∷ xs) h = h

pub zeros_ours : (octets : List ℕ) (size n address generation at : ℕ) → octets ≡ zeros n → IsNotOurs (header size address generation) octets at → ⊥
zeros_ours octets size n address generation at is (inl differs) = differs.begun (zeros_start octets size n address generation is)
zeros_ours octets size n address generation at is (inr spoiled) =
    let same : 67 ≡ 0 =
    sym (header_first size address generation (spelled spoiled.batches)) ∙ ap (λ (xs : List ℕ). slice_index xs 0) (sym spoiled.before.front)
    ∙ front_first at octets (ap (λ (xs : List ℕ). slice_index xs 0) is ∙ zeros_first n) in
    let no : ⊥ = omega (arith, same) in absurd no

pub opened_firm : (size : ℕ) → (committed (opened size [])).firm ≡ history_of (opened size [])
opened_firm size = by_room (room_for [] size Start)
  where
    by_room : (b : Bool) → (committed (if b then recorded (standing_for []) 0 no_caller Start else standing_for [])).firm
        ≡ history_of (if b then recorded (standing_for []) 0 no_caller Start else standing_for [])
    by_room true = refl
    by_room false = refl

module _ {A : Type 0} {tells : Ghosts A} (old new : Book A tells) (size : ℕ) where
  pub opened_gateway : (reserved open_time : ℕ) → value_of old ≡ opened size [] → value_of new ≡ committed (value_of old) → Stays old new
      → size ≡ reserved → size_of old ≡ reserved → open_time_of old ≡ open_time → gateway_of new ≡ new_gateway reserved open_time
  opened_gateway reserved open_time found is stays long sized set =
      made_same (ap (λ (v : BookValue). v.firm) is ∙ ap (λ (v : BookValue). (committed v).firm) found ∙ opened_firm size
      ∙ ap (λ (n : ℕ). history_of (opened n [])) long)
      (stays.size ∙ sized) (stays.open_time ∙ set)

-- ---- items

is_fit : (i : Item) → IsWritable i → IsFit i
is_fit (item.Part kind tag octets moment) h = h
is_fit _ h = h

pub all_fit : (items : List Item) → All IsWritable items → All IsFit items
all_fit items h = λ k d within. is_fit (get_or items k d) (h k d within)
