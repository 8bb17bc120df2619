-- The timestamps of a CDR file (3GPP TS 32.297, clause 6.1.1).
use Rattle.std.specs.Prelude.{ℕ, ◌+◌, ◌*◌, ◌/◌, ◌%◌, ◌^◌, ◌<◌, ℤ, pos, negsuc, ◌+ℤ◌, ◌*ℤ◌, unsigned_abs}
use Rattle.cdr_file.specs.declared.stamp_fields.StampFields.{StampFields}
use Rattle.cdr_file.specs.Calendar.{MonthDay, date_since_1969}

-- the seconds that a local clock has counted since its 1 January 1969, 00:00:00, at a moment in seconds since
-- 1 January 1970 in UTC, where the clock is so many minutes ahead of UTC
abbrev pub local_second : ℕ → ℤ → ℕ
local_second moment offset = unsigned_abs (pos (moment + 365 * 86_400) +ℤ (offset *ℤ pos 60))

-- the bit for a clock that isn't behind UTC
abbrev pub sign_bit : ℤ → ℕ
sign_bit (pos _) = 1
sign_bit (negsuc _) = 0

-- from the top bit: month 4 bits, day 5, hour 5, minute 6, sign of the offset 1, its hours 5 and its minutes 6
abbrev pub packed_fields : MonthDay → ℕ → ℕ → ℕ → ℕ → ℕ → ℕ
packed_fields date hour minute sign offset_hours offset_minutes =
    (((((date.month * 32 + date.day) * 32 + hour) * 64 + minute) * 2 + sign) * 32 + offset_hours) * 64
    + offset_minutes

-- the fields of a timestamp, whatever they say
abbrev pub fields_of : ℕ → StampFields
fields_of stamp = record {
  month = stamp / 2 ^ 28;
  day = stamp / 2 ^ 23 % 32;
  hour = stamp / 2 ^ 18 % 32;
  minute = stamp / 2 ^ 12 % 64;
  sign = stamp / 2 ^ 11 % 2;
  offset_hours = stamp / 2 ^ 6 % 32;
  offset_minutes = stamp % 64;
}

-- the timestamp with these fields
abbrev pub packed : StampFields → ℕ
packed fields =
    packed_fields (record { month = fields.month; day = fields.day }) fields.hour fields.minute fields.sign
    fields.offset_hours fields.offset_minutes

-- each field has as many bits as it needs
pub record AreFields (fields : StampFields) : Type 0 where
  pub month : fields.month < 16
  pub day : fields.day < 32
  pub hour : fields.hour < 32
  pub minute : fields.minute < 64
  pub sign : fields.sign < 2
  pub offset_hours : fields.offset_hours < 32
  pub offset_minutes : fields.offset_minutes < 64

-- the timestamp that a clock so many minutes ahead of UTC gives so many seconds after its 1 January 1969, 00:00:00
abbrev pub stamp_at : ℕ → ℤ → ℕ
stamp_at second offset =
    packed_fields (date_since_1969 (second / 86_400)) (second % 86_400 / 3_600) (second % 3_600 / 60)
    (sign_bit offset) (unsigned_abs offset / 60) (unsigned_abs offset % 60)

-- the timestamp of a moment by a clock that is so many minutes ahead of UTC
unfoldable pub stamp_of : ℕ → ℤ → ℕ
stamp_of moment offset = stamp_at (local_second moment offset) offset
