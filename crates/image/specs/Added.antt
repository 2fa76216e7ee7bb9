-- One record more of an image.
use Rattle.std.specs.Prelude.{◌≡◌, ◌+◌, [], ◌∷◌, ◌++◌, Ok, Err, Result}
use Rattle.loads.specs.Train.{frames_of}
use Rattle.format.specs.declared.fault.RecordFault.{RecordFault}
use Rattle.format.specs.Records.{frame_in}
use Rattle.format.specs.Decode.{passed, Piece, task_piece, frame_piece, rec_in}
use Rattle.format.specs.Parts.{offset}
use Rattle.image.specs.declared.records.Records.{Records}

-- `b` is `a` with what the part holds.
abbrev pub WithPart : Records → Piece → Records → Type 0
WithPart a (task_piece xs at) b = (b.tasks ≡ a.tasks + 1) × (frames_of b.train ≡ frames_of a.train)
WithPart a (frame_piece xs at) b = (b.tasks ≡ a.tasks) × (frames_of b.train ≡ frames_of a.train ++ (frame_in xs ∷ []))

-- Adding a part to `a`: it passes its checks and is in `b`, or its fault is told.
abbrev pub Added : Records → Piece → Result (Unit {0}) RecordFault → Records → Type 0
Added a p (Ok u) b = (Ok b.before ≡ passed a.before (offset p) (rec_in p)) × WithPart a p b
Added a p (Err e) b = Err e ≡ passed a.before (offset p) (rec_in p)
