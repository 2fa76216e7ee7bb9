-- The image, written: that of a ledger over the frames of a train.
use Rattle.std.specs.Prelude.{ℕ, suc, List, [], ◌∷◌, ◌++◌, Some, None, Option}
use Rattle.std.specs.List.{flat_map}
use Rattle.loads.specs.Params.{FrameParams}
use Rattle.loads.specs.Channels.{Content, Channels}
use Rattle.plan.specs.Admissions.{Placed}
use Rattle.format.specs.Records.{Rec, rec_bytes, in_order}

-- The image of records: their bytes one after another, then the end mark.
abbrev pub image : List Rec → List ℕ
image rs = flat_map rec_bytes rs ++ (0x45 ∷ 0x4E ∷ [])

-- The record of what stands in channel `c`.
abbrev pub placed_in : ℕ → Content → Placed
placed_in c k = record { channel = c; content = k }

-- The record of channel `c`, if it is filled, before other records.
abbrev pub put_rec : ℕ → Option Content → List Placed → List Placed
put_rec c None ts = ts
put_rec c (Some k) ts = placed_in c k ∷ ts

-- The records of the filled channels from `c` on, by rising channel.
abbrev pub tasks : ℕ → Channels → List Placed
tasks c [] = []
tasks c (o ∷ l) = put_rec c o (tasks (suc c) l)

-- The records of a ledger over frames: the tasks first, by rising channel, then the frames.
abbrev pub contents : Channels → List FrameParams → List Rec
contents l fs = in_order (tasks 0 l) fs

-- The image of a ledger over frames.
abbrev pub encode : Channels → List FrameParams → List ℕ
encode l fs = image (contents l fs)
