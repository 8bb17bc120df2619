-- The Gregorian calendar (ISO 8601-1, clause 4.2.1), by counting days on from the first day of a year.
use Rattle.std.specs.Prelude.{ℕ, zero, suc, ◌+◌, ◌-◌, ◌%◌, Bool, not, ◌&&◌, ◌||◌, ◌==◌, nat_lt, if◌then◌else◌}

-- every fourth year has a day more, but of the centuries only every fourth
abbrev pub is_leap : ℕ → Bool
is_leap year = (year % 4 == 0) && (not (year % 100 == 0) || (year % 400 == 0))

abbrev pub days_of_year : ℕ → ℕ
days_of_year year = if is_leap year then 366 else 365

-- thirty days have September, April, June and November
abbrev pub days_of_month : ℕ → ℕ → ℕ
days_of_month year month =
    if month == 2 then (if is_leap year then 29 else 28)
    else (if (month == 4) || (month == 6) || (month == 9) || (month == 11) then 30 else 31)

-- a month of a year and a day of that month, both from 1
pub record MonthDay : Type 0 where
  pub month : ℕ
  pub day : ℕ

-- the date that lies so many days after the first of a month, in that month or one of those `later` in its year
unfoldable pub date_from_month : ℕ → ℕ → ℕ → ℕ → MonthDay
date_from_month zero year month days = record { month = month; day = days + 1 }
date_from_month (suc later) year month days =
    if nat_lt days (days_of_month year month) then record { month = month; day = days + 1 }
    else date_from_month later year (month + 1) (days - days_of_month year month)

-- the date that lies so many days after 1 January of a year, in that year or one of the `later` ones
unfoldable pub date_from_year : ℕ → ℕ → ℕ → MonthDay
date_from_year zero year days = date_from_month 11 year 1 days
date_from_year (suc later) year days =
    if nat_lt days (days_of_year year) then date_from_month 11 year 1 days
    else date_from_year later (year + 1) (days - days_of_year year)

-- the date that lies so many days after 1 January 1969, up to the end of 2100
unfoldable pub date_since_1969 : ℕ → MonthDay
date_since_1969 days = date_from_year 131 1969 days
