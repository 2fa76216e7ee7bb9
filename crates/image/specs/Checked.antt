-- What was read of an image.
use Rattle.std.specs.Prelude.{ℕ, List, [], Ok, Err, Result}
use Rattle.format.specs.declared.before.Before.{Before}
use Rattle.format.specs.declared.fault.RecordFault.{RecordFault}
use Rattle.format.specs.Records.{Rec}
use Rattle.format.specs.Decode.{decode}

-- The records of what was read, and none where it was not.
abbrev pub read_or_none : Result (List Rec) RecordFault → List Rec
read_or_none (Ok rs) = rs
read_or_none (Err e) = []

-- The records of an image, and none where it is not read.
abbrev pub records_in : List ℕ → List Rec
records_in xs = read_or_none (decode xs)

-- What has come before the next record, or the fault of this one.
abbrev pub by_before : {X : Type 0} → Result (Before × X) RecordFault → Result Before RecordFault
by_before (Ok p) = Ok p.0
by_before (Err e) = Err e
