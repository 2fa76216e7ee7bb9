-- An image that was checked.
use Rattle.std.specs.Prelude.{List, Ok, Err, Result}
use Rattle.format.specs.declared.fault.RecordFault.{RecordFault}
use Rattle.format.specs.Records.{Rec}
use Rattle.image.specs.Checked.{records_in}
use Rattle.image.specs.declared.check.Checked.{Checked}

-- The records of a checked image.
abbrev pub records_of : Checked → List Rec
records_of c = records_in c.image.now

-- What checking answers, by plain numbers.
abbrev pub read_whole : Result Checked RecordFault → Result (List Rec) RecordFault
read_whole (Ok c) = Ok (records_of c)
read_whole (Err e) = Err e
