-- What the area of a book stands for that is handed back.
use Rattle.std.proofs.Common.{◌≡◌, ⊎_elim, inl, inr, ℕ, ◌≤◌, false, if◌then◌else◌, List, ◌++◌, length, refl, sym, ap, subst, ◌∙◌, arith, [], ◌⊎◌, Bool, true, ◌&&◌, rules}
use Rattle.gateway_book.proofs.Names.{all_entries, AllFit, Book, entries, firm_entries, fit_front, Ghosts, header_of, HistoryEntry, is_closed, IsTrue, Leaves, size_of, StandsFitFor, StandsFitForOr, StandsFor, StandsForOr, Told, value_of}
use Rattle.gateway_book.specs.Book.{area_of}
use Rattle.area_disk.specs.declared.plan.Outcome3.{Outcome3}
use Rattle.area_disk.specs.declared.plan.Outcome3.TheVariants.{New}
use Rattle.cgf_journal.specs.Trail as trail
use Rattle.gateway_book.specs.Comes.{LeavesFit, left_by_stop}

module _ {A : Type 0} {tells : Ghosts A} (here : (a : A) (c : List ℕ) → IsTrue tells.tells_crash → tells.may_leave a c → length c ≡ tells.size a)
    (since : (a : A) (t : ℕ) (c : List ℕ) → IsTrue tells.tells_crash → (tells.moments a).told_from ≤ t → t ≤ (tells.moments a).now → (tells.moments a).left_since t c → length c ≡ tells.size a) where
  both_fit : (header : List ℕ) (old new : A) (h g : List HistoryEntry) → IsTrue tells.tells_crash → tells.size new ≡ tells.size old
      → AllFit (tells.size old) h → AllFit (tells.size old) g → Leaves tells old new (StandsForOr header h g) → Leaves tells old new (StandsFitForOr header h g)
  both_fit header old new h g told same first second leaves = record {
    moments = record {
      later = leaves.moments.later;
      told_later = leaves.moments.told_later;
      each = λ c from left. fits c (since new ((tells.moments old).now) c told from leaves.moments.later left ∙ same) (leaves.moments.each c from left);
      before = λ t c from le left.
          ⊎_elim inl (λ has. inr (fits c (since new t c told from (omega (arith, le, leaves.moments.later)) left ∙ same) has)) (leaves.moments.before t c from le left);
    };
    now = λ c left. fits c (here new c told left ∙ same) (leaves.now c left);
  }
    where
      fits : (c : List ℕ) → length c ≡ tells.size old → StandsForOr header h g c → StandsFitForOr header h g c
      fits c size stands = ⊎_elim
          (λ (is : StandsFor header c h). inl (record { stands = is; fit = rw size first }))
          (λ (is : StandsFor header c g). inr (record { stands = is; fit = rw size second })) stands

  -- the histories of a book are fit
  pub crash_fit : (book : Book A tells) (new : A) → Told tells → tells.size new ≡ size_of book
      → Leaves tells (area_of book) new (StandsForOr (header_of book) (value_of book).firm ((value_of book).firm ++ (value_of book).rest))
      → Leaves tells (area_of book) new (StandsFitForOr (header_of book) (value_of book).firm ((value_of book).firm ++ (value_of book).rest))
  crash_fit book new told same leaves = search (rules, both_fit, fit_front)

  -- the same where a book that goes on is asked for all its entries
  pub crash_fit_open : (book : Book A tells) (new : A) → is_closed book.trail ≡ false → Told tells → tells.size new ≡ size_of book
      → Leaves tells (area_of book) new (StandsForOr (header_of book) (firm_entries book.trail) (entries book.trail))
      → Leaves tells (area_of book) new (StandsFitForOr (header_of book) (value_of book).firm ((value_of book).firm ++ (value_of book).rest))
  crash_fit_open book new goes told same leaves = search (rules, crash_fit)

-- ---- what the area of a book stands for that is handed back

module _ {A : Type 0} {tells : Ghosts A} (book : Book A tells) (whole : Told tells → trail.is_closed book.trail ≡ false → trail.IsSettled book.trail) (rests : trail.IsAtRest book.trail)
    (stop : IsTrue tells.tells_fate → Told tells → (outcome : Outcome3) → StandsFor (header_of book) ((tells.fate (area_of book)).leaves outcome) (trail.left_by_stop outcome book.trail))
    (fit : Told tells → AllFit (size_of book) (all_entries book.trail)) where
  firm_fit : Told tells → AllFit (size_of book) (value_of book).firm
  firm_fit told = fit_front (size_of book) [] (value_of book).firm (value_of book).rest (fit told)

  with_fit : (c : List ℕ) (h : List HistoryEntry) → length c ≡ size_of book → StandsFor (header_of book) c h → AllFit (size_of book) h
      → StandsFitFor (header_of book) c h
  with_fit c h size stands all = record { stands = stands; fit = rw size all }

  either_fit : Told tells → (c : List ℕ) → length c ≡ size_of book → (b : Bool)
      → StandsFor (header_of book) c (if b then (value_of book).firm ++ (value_of book).rest else (value_of book).firm)
      → StandsFitFor (header_of book) c (if b then (value_of book).firm ++ (value_of book).rest else (value_of book).firm)
  either_fit told c size b stands = search (rules, with_fit, firm_fit)

  module _ (same_size : (c : List ℕ) → IsTrue tells.tells_crash → tells.may_leave (area_of book) c → length c ≡ size_of book) (may_stop : (outcome : Outcome3) → IsTrue tells.tells_fate → tells.may_leave (area_of book) ((tells.fate (area_of book)).leaves outcome))
      (stops_new : IsTrue tells.tells_fate → (tells.fate (area_of book)).leaves New ≡ tells.octets (area_of book)) where
    whole_fit : Told tells → trail.is_closed book.trail ≡ false → (c : List ℕ) → tells.may_leave (area_of book) c → StandsFitFor (header_of book) c (value_of book).firm
    whole_fit told goes c may = with_fit c (value_of book).firm (same_size c told.1 may) ((whole told goes).crash told c may) (firm_fit told)

    any_fit : Told tells → (c : List ℕ) → tells.may_leave (area_of book) c → StandsFitFor (header_of book) c (value_of book).firm ⊎ StandsFitFor (header_of book) c ((value_of book).firm ++ (value_of book).rest)
    any_fit told c may = search (rules, with_fit, firm_fit)

    stop_fit : IsTrue tells.tells_fate → Told tells → (outcome : Outcome3) → StandsFitFor (header_of book) ((tells.fate (area_of book)).leaves outcome) (left_by_stop outcome book)
    stop_fit fate told outcome = by_state (trail.is_closed book.trail) refl
      where
        by_state : (b : Bool) → trail.is_closed book.trail ≡ b → StandsFitFor (header_of book) ((tells.fate (area_of book)).leaves outcome) (left_by_stop outcome book)
        by_state false goes = subst (λ (h : List HistoryEntry). StandsFitFor (header_of book) ((tells.fate (area_of book)).leaves outcome) h)
            (sym (ap (λ b. if b && trail.stop_stands outcome book.trail then (value_of book).firm ++ (value_of book).rest else (value_of book).firm) goes))
            (whole_fit told goes ((tells.fate (area_of book)).leaves outcome) (may_stop outcome fate))
        by_state true closed = subst (λ (h : List HistoryEntry). StandsFitFor (header_of book) ((tells.fate (area_of book)).leaves outcome) h)
            (sym (ap (λ b. if b && trail.stop_stands outcome book.trail then (value_of book).firm ++ (value_of book).rest else (value_of book).firm) closed))
            (either_fit told ((tells.fate (area_of book)).leaves outcome) (same_size ((tells.fate (area_of book)).leaves outcome) told.1 (may_stop outcome fate)) (trail.stop_stands outcome book.trail) (stop fate told outcome))

    pub leaves_fit : LeavesFit book
    leaves_fit = search (rules, whole_fit, any_fit, stop_fit)
