-- Counting days on gives the date that `jiff_core`'s calendar gives a day, and so its timestamp. The lengths of years and
-- months are the same in both by computation.
use Rattle.std.proofs.Common.{◌≡◌, ℕ, zero, suc, ◌+◌, ◌-◌, ◌*◌, ◌/◌, ◌%◌, ◌<◌, ◌≤◌, ◌^◌, inl, inr, refl, arith, ℤ, pos, negsuc, ◌+ℤ◌, ◌*ℤ◌, ◌≤ℤ◌, unsigned_abs}
use Rattle.std.proofs.lemmas.Bool.{cases_lt, lt-ltb, le-ltb}
use Rattle.std.proofs.lemmas.Int.{by_lt_z}
use Rattle.jiff_core.specs.Calendar.{IsCivilDate, IsWithin, day_count, day_of_year, days_of_months}
use Rattle.jiff_core.specs.Date.{epoch_day}
use Rattle.jiff_core.specs.DateTime.{civil_nanos}
use Rattle.jiff_core.specs.Time.{time_seconds}
use Rattle.jiff_core.specs.Timestamp.{nanos_of_seconds}
use Rattle.jiff_core.specs.declared.civil.date.Date.{Date}
use Rattle.jiff_core.specs.declared.civil.datetime.DateTime.{DateTime}
use Rattle.jiff_core.proofs.DateLemmas.{civil}
use Rattle.jiff_core.proofs.DateTimeLemmas.{civil_nanos-parts}
use Rattle.jiff_core.proofs.CalendarLemmas.{days_from_civil-day_count, day_count-day_of_year, day_count-later_year, day_count-lt_year, day_count-next_year, day_of_year_bound, days_in_month_bounds, days_of_months_all, days_of_months-zero, days_of_months_more, days_of_months_mono}
use Rattle.jiff_core.proofs.MarchLemmas.{day_count-early}
use Rattle.jiff_core.proofs.SignedLemmas.{signed_arith}
use Rattle.cdr_file.specs.Timestamp.{local_second, packed_fields, sign_bit, stamp_of}
use Rattle.cdr_file.specs.Calendar.{MonthDay, date_from_month, date_from_year, date_since_1969, days_of_month, days_of_year}

-- two dates with equal parts are equal
same_date : (month day m d : ℕ) → month ≡ m → day ≡ d → ◌≡◌ {A = MonthDay} (record { month = month; day = day }) (record { month = m; day = d })
same_date month day m d e f = rw (e, f) refl

-- a date in one of the months from the one after the first k, by how many days lie between their beginning and it
date_from_month-is : (later year k j month m d days : ℕ) → month ≡ k + 1 → m ≡ j + 1 → k ≤ j → j ≤ k + later
    → 1 ≤ d → d ≤ days_of_month year m → days + days_of_months (pos year) k + 1 ≡ days_of_months (pos year) j + d
    → date_from_month later year month days ≡ record { month = m; day = d }
unfolding date_from_month
date_from_month-is zero year k j month m d days e f low high first last h =
    let same : k ≡ j = omega arith in
    let here = rw same at h in
    same_date month (days + 1) m d (omega arith) (omega arith)
date_from_month-is (suc later) year k j month m d days e f low high first last h =
    elim (cases_lt k j) [
      | inl lt ↦
          let back : month - 1 ≡ k = omega arith in
          let length : days_of_months (pos year) month ≡ days_of_months (pos year) k + days_of_month year month =
          rw back at (days_of_months_more (pos year) month (omega arith)) in
          let next : days_of_months (pos year) (k + 1) ≡ days_of_months (pos year) month = rw e refl in
          let before = days_of_months_mono (pos year) (k + 1) j (omega arith) in
          let past : days_of_month year month ≤ days = omega arith in
          rw (le-ltb days (days_of_month year month) past)
          (date_from_month-is later year (k + 1) j (month + 1) m d (days - days_of_month year month) (omega arith) f (omega arith) (omega arith) first last (omega arith))
      | inr ge ↦
          let same : k ≡ j = omega arith in
          let here = rw same at h in
          let month_is : month ≡ m = omega arith in
          let within : days < days_of_month year month = rw month_is (omega arith) in
          rw (lt-ltb days (days_of_month year month) within) (same_date month (days + 1) m d (omega arith) (omega arith))
    ]

-- the same from the first month on
date_from_january-is : (year m d days : ℕ) → 1 ≤ m → m ≤ 12 → 1 ≤ d → d ≤ days_of_month year m
    → days + 1 ≡ day_of_year (pos year) m d → date_from_month 11 year 1 days ≡ record { month = m; day = d }
date_from_january-is year m d days low high first last h =
    date_from_month-is 11 year 0 (m - 1) 1 m d days (omega arith) (omega arith) (omega arith) (omega arith) first last
    (omega (arith, days_of_months-zero (pos year)))

-- how many days after the beginning of its year a date lies is below the year's days
date_in_year : (year : ℕ) (y : ℤ) (m d days : ℕ) → y ≡ pos year → IsCivilDate y m d
    → days + day_count (pos year) 1 1 ≡ day_count y m d
    → (days < days_of_year year) × (date_from_month 11 year 1 days ≡ record { month = m; day = d })
date_in_year year y m d days e civil h =
    let here : IsCivilDate (pos year) m d = rw e at civil in
    let counted : days + day_count (pos year) 1 1 ≡ day_count (pos year) m d = rw e at h in
    let place = day_count-day_of_year (pos year) m d here.2.0 in
    let bound : day_of_year (pos year) m d ≤ days_of_year year = day_of_year_bound (pos year) m d here in
    let nth : days + 1 ≡ day_of_year (pos year) m d = omega arith in
    (omega arith, date_from_january-is year m d days here.1.0 here.1.1 here.2.0 here.2.1 nth)

-- a date in a year from this one on, by how many days lie between the beginning of this year and it
date_from_year-is : (later year : ℕ) (y : ℤ) (m d days : ℕ) → IsCivilDate y m d → y ≤ℤ pos (year + later)
    → days + day_count (pos year) 1 1 ≡ day_count y m d
    → date_from_year later year days ≡ record { month = m; day = d }
unfolding date_from_year
date_from_year-is zero year y m d days civil last h =
    let first : pos year ≤ℤ y = by_lt_z y (pos year)
    (λ lt. absurd (omega (arith, day_count-lt_year y m d (pos year) 1 1 civil (omega arith) lt))) (λ ge. ge) in
    let same : y ≡ pos year = omega (arith, signed_arith) in
    (date_in_year year y m d days same civil h).1
date_from_year-is (suc later) year y m d days civil last h =
    by_lt_z (pos year) y
    (λ lt.
    let gone : day_count (pos year) 1 1 + days_of_year year ≤ day_count y 1 1 =
    day_count-later_year (pos year) y (omega (arith, signed_arith)) lt in
    let place = day_count-day_of_year y m d civil.2.0 in
    let past : days_of_year year ≤ days = omega arith in
    let next : day_count (pos (year + 1)) 1 1 ≡ day_count (pos year) 1 1 + days_of_year year =
    day_count-next_year (pos year) (pos (year + 1)) (omega (arith, signed_arith)) (omega (arith, signed_arith)) in
    rw (le-ltb days (days_of_year year) past)
    (date_from_year-is later (year + 1) y m d (days - days_of_year year) civil (omega (arith, signed_arith)) (omega arith)))
    (λ ge.
    let first : pos year ≤ℤ y = by_lt_z y (pos year)
    (λ lt. absurd (omega (arith, day_count-lt_year y m d (pos year) 1 1 civil (omega arith) lt))) (λ at. at) in
    let same : y ≡ pos year = omega (arith, signed_arith) in
    let here = date_in_year year y m d days same civil h in
    rw (lt-ltb days (days_of_year year) here.0) here.1)

-- how many days `jiff_core` counts before these years
day_count-1969 : day_count (pos 1969) 1 1 ≡ 4_371_588
day_count-1969 = day_count-early (pos 1969) 11968 1 1 refl (omega arith) (omega arith) (omega arith)

day_count-2100 : day_count (pos 2100) 1 1 ≡ 4_419_435
day_count-2100 = day_count-early (pos 2100) 12099 1 1 refl (omega arith) (omega arith) (omega arith)

-- a date from 1969 to 2100, by its day number
date_since_1969-is : (date : Date) (days : ℕ) → epoch_day date +ℤ pos 365 ≡ pos days → days ≤ 48_211
    → date_since_1969 days ≡ record { month = date.month; day = date.day }
unfolding date_since_1969
date_since_1969-is date days e high =
    let counted : days + day_count (pos 1969) 1 1 ≡ day_count date.year date.month date.day =
    omega (arith, signed_arith, days_from_civil-day_count date.year date.month date.day, day_count-1969) in
    let last : date.year ≤ℤ pos 2100 = by_lt_z (pos 2100) date.year
    (λ lt. absurd (omega (arith, day_count-later_year (pos 2100) date.year (omega (arith, signed_arith)) lt, day_count-day_of_year date.year date.month date.day date.day_in.0, day_count-1969, day_count-2100)))
    (λ le. le) in
    date_from_year-is 131 1969 date.year date.month date.day days (civil date) last counted

-- the size of a number that isn't negative is the number
unsigned_abs-is : (z : ℤ) → pos 0 ≤ℤ z → pos (unsigned_abs z) ≡ z
unsigned_abs-is (pos n) h = refl
unsigned_abs-is (negsuc n) h = absurd (omega (arith, signed_arith))

-- the seconds of a local clock are the day number and the time of day that it shows
local_second-is : (moment : ℕ) (offset : ℤ) (shown : DateTime) → IsWithin 959 offset
    → civil_nanos shown ≡ nanos_of_seconds (pos moment +ℤ (offset *ℤ pos 60))
    → pos (local_second moment offset) ≡ epoch_day shown.date *ℤ pos 86_400 +ℤ pos (time_seconds shown.time + 31_536_000)
local_second-is moment offset shown within e =
    omega (arith, signed_arith, civil_nanos-parts shown, unsigned_abs-is (pos (moment + 365 * 86_400) +ℤ (offset *ℤ pos 60)) (omega (arith, signed_arith)))

-- what a clock shows at a moment, by `jiff_core`'s calendar, gives its timestamp
pub stamp_of-shown : (moment : ℕ) (offset : ℤ) (shown : DateTime) → moment ≤ 4_102_444_799 → IsWithin 959 offset
    → civil_nanos shown ≡ nanos_of_seconds (pos moment +ℤ (offset *ℤ pos 60))
    → stamp_of moment offset ≡ packed_fields (record { month = shown.date.month; day = shown.date.day }) shown.time.hour shown.time.minute (sign_bit offset) (unsigned_abs offset / 60) (unsigned_abs offset % 60)
unfolding stamp_of
stamp_of-shown moment offset shown last within e =
    let seconds : pos (local_second moment offset) ≡ epoch_day shown.date *ℤ pos 86_400 +ℤ pos (time_seconds shown.time + 31_536_000) =
    local_second-is moment offset shown within e in
    let day : epoch_day shown.date +ℤ pos 365 ≡ pos (local_second moment offset / 86_400) = omega (arith, signed_arith) in
    let high : local_second moment offset / 86_400 ≤ 48_211 = omega (arith, signed_arith, civil_nanos-parts shown) in
    let hour : local_second moment offset % 86_400 / 3_600 ≡ shown.time.hour = omega (arith, signed_arith) in
    let minute : local_second moment offset % 3_600 / 60 ≡ shown.time.minute = omega (arith, signed_arith) in
    rw (date_since_1969-is shown.date (local_second moment offset / 86_400) day high, hour, minute)

-- Dates fit their fields.

-- so many days after the beginning of a month, in what is left of its year
date_from_month-fits : (later year k month days : ℕ) → month ≡ k + 1 → k + later ≡ 11
    → days + days_of_months (pos year) k < days_of_year year
    → ((date_from_month later year month days).month ≤ 12) × ((date_from_month later year month days).day ≤ 31)
unfolding date_from_month
date_from_month-fits zero year k month days e last h =
    let same : k ≡ 11 = omega arith in
    let here = rw same at h in
    (omega arith, omega (arith, here, days_of_months_all (pos year), days_of_months_more (pos year) 12 (omega arith), days_in_month_bounds (pos year) 12))
date_from_month-fits (suc later) year k month days e last h =
    let length : days_of_months (pos year) month ≡ days_of_months (pos year) (month - 1) + days_of_month year month =
    days_of_months_more (pos year) month (omega arith) in
    let back : month - 1 ≡ k = omega arith in
    let more = rw back at length in
    elim (cases_lt days (days_of_month year month)) [
      | inl lt ↦ rw (lt-ltb days (days_of_month year month) lt) (omega arith, omega (arith, days_in_month_bounds (pos year) month))
      | inr ge ↦
          let next : days_of_months (pos year) (k + 1) ≡ days_of_months (pos year) month = rw e refl in
          rw (le-ltb days (days_of_month year month) ge)
          (date_from_month-fits later year (k + 1) (month + 1) (days - days_of_month year month) (omega arith) (omega arith) (omega arith))
    ]

-- so many days after the beginning of a year, in one of those up to the last
date_from_year-fits : (later year end days : ℕ) → end ≡ year + later + 1
    → days + day_count (pos year) 1 1 < day_count (pos end) 1 1
    → ((date_from_year later year days).month ≤ 12) × ((date_from_year later year days).day ≤ 31)
unfolding date_from_year
date_from_year-fits zero year end days e h =
    let next : day_count (pos end) 1 1 ≡ day_count (pos year) 1 1 + days_of_year year =
    day_count-next_year (pos year) (pos end) (omega (arith, signed_arith)) (omega (arith, signed_arith)) in
    date_from_month-fits 11 year 0 1 days (omega arith) (omega arith) (omega (arith, days_of_months-zero (pos year)))
date_from_year-fits (suc later) year end days e h =
    let next : day_count (pos (year + 1)) 1 1 ≡ day_count (pos year) 1 1 + days_of_year year =
    day_count-next_year (pos year) (pos (year + 1)) (omega (arith, signed_arith)) (omega (arith, signed_arith)) in
    elim (cases_lt days (days_of_year year)) [
      | inl lt ↦ rw (lt-ltb days (days_of_year year) lt)
          (date_from_month-fits 11 year 0 1 days (omega arith) (omega arith) (omega (arith, days_of_months-zero (pos year))))
      | inr ge ↦ rw (le-ltb days (days_of_year year) ge)
          (date_from_year-fits later (year + 1) end (days - days_of_year year) (omega arith) (omega arith))
    ]

date_since_1969-fits : (days : ℕ) → days ≤ 48_211 → ((date_since_1969 days).month ≤ 12) × ((date_since_1969 days).day ≤ 31)
unfolding date_since_1969
date_since_1969-fits days high =
    let end : day_count (pos 2101) 1 1 ≡ day_count (pos 2100) 1 1 + 365 =
    day_count-next_year (pos 2100) (pos 2101) (omega (arith, signed_arith)) (omega (arith, signed_arith)) in
    date_from_year-fits 131 1969 2101 days refl (omega (arith, day_count-1969, day_count-2100))

-- the bit of a sign
sign_bit-fits : (offset : ℤ) → sign_bit offset < 2
sign_bit-fits (pos n) = omega arith
sign_bit-fits (negsuc n) = omega arith

-- an offset's size
distance : (offset : ℤ) → IsWithin 959 offset → unsigned_abs offset ≤ 959
distance (pos n) within = omega (arith, signed_arith)
distance (negsuc n) within = omega (arith, signed_arith)

-- each moment has a timestamp of four octets
pub stamp_of-fits : (moment : ℕ) (offset : ℤ) → moment ≤ 4_102_444_799 → IsWithin 959 offset → stamp_of moment offset < 2 ^ 32
unfolding stamp_of
stamp_of-fits moment offset last within =
    let ahead : pos (local_second moment offset) ≡ pos (moment + 365 * 86_400) +ℤ (offset *ℤ pos 60) =
    unsigned_abs-is (pos (moment + 365 * 86_400) +ℤ (offset *ℤ pos 60)) (omega (arith, signed_arith)) in
    let second : ℕ = local_second moment offset in
    let high : second ≤ 4_165_516_799 = omega (arith, signed_arith) in
    let date = date_since_1969-fits (second / 86_400) (omega arith) in
    let minutes = distance offset within in
    omega (arith, date, sign_bit-fits offset)
