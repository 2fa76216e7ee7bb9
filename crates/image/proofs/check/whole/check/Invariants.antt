use Rattle.loads.specs.Train.{frames_of}
use Rattle.image.specs.Parts.{rest}
use Rattle.image.proofs.Adding.{SoFar}
use Rattle.image.proofs.check.whole.check.Given as goal

-- The records that were read, with those that are left, are those of the image.
abbrev pub invariant-loop-part : goal.invariant-loop-part
invariant-loop-part l = SoFar l.image l.records.before l.records.tasks (frames_of l.records.train) (rest l.part-iterator)
