-- The file closure trigger reasons (3GPP TS 32.297, clause 6.1.1).
use Rattle.std.specs.Prelude.{ℕ}
use Rattle.cdr_file.specs.declared.closure.ClosureReason.{ClosureReason}
use Rattle.cdr_file.specs.declared.closure.ClosureReason.TheVariants.{Normal, SizeLimit, OpenTimeLimit, CountLimit, Manual, KindChange, Abnormal, FileSystemError, StorageExhausted, IntegrityError}

-- the octet that stands for a reason: those of a normal closing are below 128, those of an error are not
abbrev pub code_of : ClosureReason → ℕ
code_of Normal = 0
code_of SizeLimit = 1
code_of OpenTimeLimit = 2
code_of CountLimit = 3
code_of Manual = 4
code_of KindChange = 5
code_of Abnormal = 128
code_of FileSystemError = 129
code_of StorageExhausted = 130
code_of IntegrityError = 131
