-- The numbers of the refusals, and the refusals that verdicts stand for.
use Rattle.std.specs.Prelude.{ℕ, Some, None, Option}
use Rattle.theory.specs.declared.verdict.Unfit.{Unfit}
use Rattle.theory.specs.declared.verdict.Unfit.TheVariants as unfit
use Rattle.loads.specs.declared.refusal.Refusal.{Refusal}
use Rattle.loads.specs.declared.refusal.Refusal.TheVariants as is

-- The number of each refusal.
abbrev pub number : Refusal → ℕ
number is.Cost = 1
number is.Period = 2
number is.Deadline = 3
number is.Jitter = 4
number is.Section = 5
number is.TrainFull = 6
number is.NoChannel = 7
number is.ChannelFilled = 8
number is.ChannelEmpty = 9
number is.NotClosed = 10
number (is.Late late) = 11
number is.UnknownMark = 12
number is.Cut = 13
number is.Trailing = 14
number is.BadLabel = 15
number is.OutOfOrder = 16
number is.OutputShort = 17

-- The mark and claim of a late refusal, as a pair; no other refusal has one.
abbrev pub late_pair : Refusal → Option (ℕ × ℕ)
late_pair is.Cost = None
late_pair is.Period = None
late_pair is.Deadline = None
late_pair is.Jitter = None
late_pair is.Section = None
late_pair is.TrainFull = None
late_pair is.NoChannel = None
late_pair is.ChannelFilled = None
late_pair is.ChannelEmpty = None
late_pair is.NotClosed = None
late_pair (is.Late late) = Some late
late_pair is.UnknownMark = None
late_pair is.Cut = None
late_pair is.Trailing = None
late_pair is.BadLabel = None
late_pair is.OutOfOrder = None
late_pair is.OutputShort = None

-- The refusal that a verdict other than yes stands for: 10, or 11 with mark and claim.
abbrev pub refusal_of : Unfit → Refusal
refusal_of unfit.NotClosed = is.NotClosed
refusal_of (unfit.Late late) = is.Late late
