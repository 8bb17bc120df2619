-- How many records the items of a history are.
use Rattle.std.proofs.Common.{◌≡◌, refl, ℕ, ◌+◌, List, [], ◌∷◌, ◌++◌, length, map, count_by, if◌then◌else◌, arith, length-append}
use Rattle.gateway_answer.proofs.Names.{along, filed, filed_by, filed_by_act, FiledRecord, HistoryAct, HistoryEntry, is_part, items_by, items_by_act, items_of, part_of, sum_by-append, sum_by-cons}
use Rattle.gw_base.specs.declared.history.HistoryAct.TheVariants as act
use Rattle.gw_base.specs.declared.item.Item.{Item}

count-append : (items more : List Item) → count_by is_part (items ++ more) ≡ count_by is_part items + count_by is_part more
count-append items more = sum_by-append (λ x. if is_part x then 1 else 0) items more

count_parts : (records : List FiledRecord) → count_by is_part (map part_of records) ≡ length records
count_parts [] = refl
count_parts (r ∷ records) =
    omega (arith, sum_by-cons (λ x. if is_part x then 1 else 0) (part_of r) (map part_of records), count_parts records)

count_act : (before : List HistoryEntry) (moment : ℕ) (a : HistoryAct) →
    count_by is_part (items_by_act before moment a) ≡ length (filed_by_act before moment a)
count_act before moment (act.File n x packet) = count_parts (filed_by_act before moment (act.File n x packet))
count_act before moment (act.Release n xs) = count_parts (filed_by_act before moment (act.Release n xs))
count_act before moment _ = refl

count_along : (before h : List HistoryEntry) →
    count_by is_part (along items_by before h) ≡ length (along filed_by before h)
count_along before [] = refl
count_along before (e ∷ h) =
    omega (
      arith,
      count-append (items_by before e) (along items_by (before ++ e ∷ []) h),
      length-append (filed_by before e) (along filed_by (before ++ e ∷ []) h),
      count_act before e.moment e.act,
      count_along (before ++ e ∷ []) h,
    )

-- the records among the items of a history are the filed ones
pub records_filed : (h : List HistoryEntry) → count_by is_part (items_of h) ≡ length (filed h)
records_filed h = count_along [] h
