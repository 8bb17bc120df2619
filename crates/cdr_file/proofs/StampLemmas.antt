-- The fields of a timestamp.
use Rattle.std.proofs.Common.{◌≡◌, ℕ, ◌/◌, ◌%◌, ◌<◌, ◌^◌, arith}
use Rattle.cdr_file.specs.Timestamp.{AreFields, fields_of, packed}
use Rattle.cdr_file.specs.declared.stamp_fields.StampFields.{StampFields}

pub stamp_again : (stamp : ℕ) → stamp < 2 ^ 32 → packed (fields_of stamp) ≡ stamp
stamp_again stamp fits = omega arith

pub fields_again : (fields : StampFields) → AreFields fields → fields_of (packed fields) ≡ fields
fields_again fields are =
    let s : ℕ = packed fields in
    let month : s / 2 ^ 28 ≡ fields.month = omega (arith, are.month, are.day, are.hour, are.minute, are.sign, are.offset_hours, are.offset_minutes) in
    let day : s / 2 ^ 23 % 32 ≡ fields.day = omega (arith, are.month, are.day, are.hour, are.minute, are.sign, are.offset_hours, are.offset_minutes) in
    let hour : s / 2 ^ 18 % 32 ≡ fields.hour = omega (arith, are.month, are.day, are.hour, are.minute, are.sign, are.offset_hours, are.offset_minutes) in
    let minute : s / 2 ^ 12 % 64 ≡ fields.minute = omega (arith, are.month, are.day, are.hour, are.minute, are.sign, are.offset_hours, are.offset_minutes) in
    let sign : s / 2 ^ 11 % 2 ≡ fields.sign = omega (arith, are.month, are.day, are.hour, are.minute, are.sign, are.offset_hours, are.offset_minutes) in
    let hours : s / 2 ^ 6 % 32 ≡ fields.offset_hours = omega (arith, are.month, are.day, are.hour, are.minute, are.sign, are.offset_hours, are.offset_minutes) in
    let minutes : s % 64 ≡ fields.offset_minutes = omega (arith, are.month, are.day, are.hour, are.minute, are.sign, are.offset_hours, are.offset_minutes) in
    λ i. record { month = month i; day = day i; hour = hour i; minute = minute i; sign = sign i; offset_hours = hours i; offset_minutes = minutes i }
