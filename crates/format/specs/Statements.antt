-- What is proved of the format.
use Rattle.std.specs.Prelude.{◌≡◌, ℕ, ◌^◌, ◌<◌, ◌≤◌, true, List, length, Some, None, Ok, Option}
use Rattle.theory.specs.Jobs.{All}
use Rattle.loads.specs.Params.{FrameParams, TaskRanges, FrameRanges}
use Rattle.theory.specs.Meaning.{Meaning}
use Rattle.loads.specs.Channels.{Content, Channels, blank}
use Rattle.plan.specs.Labels.{good_label}
use Rattle.format.specs.Bytes.{bytes, value, Bytes}
use Rattle.format.specs.Records.{Rec}
use Rattle.format.specs.Decode.{decode}
use Rattle.format.specs.Encode.{image, contents, encode}
use Rattle.format.specs.Fills.{taken, filled}

-- A channel's content that an image can hold: a good label of sixteen bytes, and parameters in range.
pub record WritableContent (k : Content) : Type 0 where
  pub label : good_label k.label ≡ true
  pub sixteen : length k.label ≡ 16
  pub ranges : TaskRanges k.params

-- A channel that an image can hold: an empty one, or one with such a content.
abbrev pub WritableChannel : Option Content → Type 0
WritableChannel None = Unit {0}
WritableChannel (Some k) = WritableContent k

-- Channels that an image can hold, each of them.
abbrev pub Writable : Channels → Type 0
Writable l = All WritableChannel l

-- Numbers are kept by their bytes, and bytes by their number.
abbrev pub NumbersKeep : Type 0
NumbersKeep = ((w n : ℕ) → n < 256 ^ w → value (bytes w n) ≡ n) × ((bs : List ℕ) → Bytes bs → bytes (length bs) (value bs) ≡ bs)

-- The image of channels over frames reads back as their records.
abbrev pub ReadsBack : Type 0
ReadsBack = (l : Channels) (fs : List FrameParams) → length l ≤ 64 → Writable l → length fs ≤ 16 → All FrameRanges fs → decode (encode l fs) ≡ Ok (contents l fs)

-- An image that is read is the image of what was read, byte for byte.
abbrev pub WritesBack : Type 0
WritesBack = (xs : List ℕ) (rs : List Rec) → Bytes xs → decode xs ≡ Ok rs → image rs ≡ xs

-- The image of a ledger over frames reads back: as its records, as the frames of any train that takes them, and as
-- the channels of a new plan over a guest that means `g`.
pub record ReadsAgain (g : Meaning) (l : Channels) (fs : List FrameParams) : Type 0 where
  pub records : decode (encode l fs) ≡ Ok (contents l fs)
  pub frames : (held : List FrameParams) → taken (decode (encode l fs)) held ≡ (Ok tt, fs)
  pub channels : filled g (decode (encode l fs)) blank ≡ (Ok tt, l)

-- An image that fills a new plan, over a train that has taken its frames, is written again byte for byte.
abbrev pub WritesAgain : Meaning → List ℕ → Type 0
WritesAgain g xs = (l : Channels) (held fs : List FrameParams) → filled g (decode xs) blank ≡ (Ok tt, l) → taken (decode xs) held ≡ (Ok tt, fs) → encode l fs ≡ xs
