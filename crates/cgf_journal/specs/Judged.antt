-- Entries that a judge finds fit, each behind those before it.
use Rattle.std.specs.Prelude.{◌≡◌, ℕ, List, [], ◌∷◌, ◌++◌, take}
use Rattle.gw_base.specs.declared.history.HistoryEntry.{HistoryEntry}
use Rattle.entry_codec.specs.Content.{AreEntries}
use Rattle.entry_codec.specs.Spelling.{HasSpelling, entry_length, spelling}
use Rattle.cgf_journal.specs.Fit.{AllFit}
use Rattle.cgf_journal.specs.declared.judge.Judge.{Ghosts}

-- some entry of these isn't fit
abbrev pub IsUnfitIn : (List HistoryEntry → HistoryEntry → Type 0) → List HistoryEntry → Type 0
IsUnfitIn fits h = AllFit fits [] h → ⊥

module _ {J : Type 0} (asks : Ghosts J) (size : ℕ) where
  -- The judge was asked of these entries, and each is fit.
  pub record IsJudged (judge : J) (h : List HistoryEntry) : Type 0 where
    pub fit : AllFit (asks.fits size) [] h
    pub follows : asks.follows judge h

  -- The judge was asked of more entries, and each is fit behind all before it.
  pub record IsJudgedMore (old new : J) (more : List HistoryEntry) : Type 0 where
    pub fit : (h : List HistoryEntry) → asks.follows old h → AllFit (asks.fits size) h more
    pub follows : (h : List HistoryEntry) → asks.follows old h → asks.follows new (h ++ more)

  -- The octets begin with an entry of so many octets, of which the judge was asked, and which is fit.
  pub record IsJudgedEntry (old new : J) (octets : List ℕ) (count : ℕ) : Type 0 where
    pub entry : HistoryEntry
    pub has : HasSpelling entry
    pub size_is : count ≡ entry_length entry
    pub front : take count octets ≡ spelling entry
    pub fit : (h : List HistoryEntry) → asks.follows old h → asks.fits size h entry
    pub follows : (h : List HistoryEntry) → asks.follows old h → asks.follows new (h ++ entry ∷ [])

  -- A front of the content is entries that were judged, and this is the rest.
  pub record IsJudgedUpTo (old new : J) (content rest : List ℕ) : Type 0 where
    pub front : List ℕ
    pub entries : List HistoryEntry
    pub parts : content ≡ front ++ rest
    pub are_entries : AreEntries front entries
    pub judged : IsJudgedMore old new entries
