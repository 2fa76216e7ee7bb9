-- The refusal and the byte offset that each fault stands for.
use Rattle.std.specs.Prelude.{ℕ}
use Rattle.loads.specs.declared.refusal.Refusal.{Refusal}
use Rattle.loads.specs.declared.refusal.Refusal.TheVariants as refusal
use Rattle.format.specs.declared.fault.ImageFault.{ImageFault}
use Rattle.format.specs.declared.fault.ImageFault.TheVariants.{UnknownMark, Cut, Trailing}
use Rattle.format.specs.declared.fault.RecordFault.{RecordFault}
use Rattle.format.specs.declared.fault.RecordFault.TheVariants as in_record
use Rattle.format.specs.declared.fault.PlanFault.{PlanFault}
use Rattle.format.specs.declared.fault.PlanFault.TheVariants as in_plan

-- Of a fault in the bytes: 12, 13 or 14.
abbrev pub image_fault : ImageFault → Refusal × ℕ
image_fault (UnknownMark at) = (refusal.UnknownMark, at)
image_fault (Cut at) = (refusal.Cut, at)
image_fault (Trailing at) = (refusal.Trailing, at)

-- Of a fault in a record: that of its bytes, or the check that it fails.
abbrev pub record_fault : RecordFault → Refusal × ℕ
record_fault (in_record.Image e) = image_fault e
record_fault (in_record.Refused r at) = (r, at)

-- Of a fault in filling a plan: that of a record, or the plan's refusal.
abbrev pub plan_fault : PlanFault → Refusal × ℕ
plan_fault (in_plan.Record e) = record_fault e
plan_fault (in_plan.Refused r at) = (r, at)
