-- Reads of a trail, one after the other.
use Rattle.std.proofs.Common.{ℕ, List, [], ◌∷◌, ◌∙◌, rules}
use Rattle.std.proofs.lemmas.List.Concat.{flat_map-cons}
use Rattle.std.proofs.lemmas.List.Elements.{All-head}
use Rattle.area_disk.specs.CourseLaws.{read_on_trans}
use Rattle.area_disk.specs.MomentLaws.{kept_trans}
use Rattle.entry_codec.specs.Content.{AreEntries}
use Rattle.entry_codec.specs.Fault.{BeginsWith}
use Rattle.gateway_book.proofs.Names.{area_of, Ghosts, HasSpelling, HistoryEntry, IsKept, IsRead, spelling, Trail}

module _ {A : Type 0} {tells : Ghosts A} where
  kept_on : {a b c : Trail A tells} → IsKept a b → IsKept b c → IsKept a c
  kept_on one two = search rules

  -- one read after the other
  pub read_on : {a b c : Trail A tells} → IsRead a b → IsRead b c → IsRead a c
  read_on {a} {b} {c} one two = record {
    kept = kept_on one.kept two.kept;
    torn_stands = two.torn_stands ∙ one.torn_stands;
    area = λ only_now. kept_trans tells (area_of a) (area_of b) (area_of c) (one.area only_now) (two.area only_now);
    plan = λ fate. read_on_trans (tells.fate (area_of a)) (tells.fate (area_of b)) (tells.fate (area_of c)) (one.plan fate) (two.plan fate);
    stands = λ fate outcome. two.stands fate outcome ∙ one.stands fate outcome;
  }

-- what was read is the entry
pub begins_with : (octets : List ℕ) (e : HistoryEntry) → AreEntries octets (e ∷ []) → BeginsWith octets e
begins_with octets e are = (All-head HasSpelling e [] are.each, ([], are.spelling ∙ flat_map-cons spelling e []))
