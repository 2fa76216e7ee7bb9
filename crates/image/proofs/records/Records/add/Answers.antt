-- The bytes of a whole part are those of its record.
use Rattle.std.proofs.Common.{◌≡◌, List, ℕ, length, ◌∙◌, subst, arith, take_all}
use Rattle.format.specs.declared.part.Part.{Part}
use Rattle.format.specs.Decode.{task_piece, frame_piece}
use Rattle.format.specs.Parts.{piece, Whole}
use Rattle.image.specs.Added.{Added}
use Rattle.image.proofs.records.Records.add.Goals as goal

pub returns-in-Task : goal.returns-in-Task
returns-in-Task c =
    let n : length c.in-Task.bytes.now ≡ 37 = subst (λ (p : Part). Whole (piece p)) c.in-Task.is c.requires in
    let e = c.chunk.ensures ∙ take_all 37 c.in-Task.bytes.now (omega (arith, n)) in
    rw c.in-Task.is (subst (λ (xs : List ℕ). Added c.args.self.now (task_piece xs c.in-Task.at) c.add_task.result c.add_task.new.self) e c.add_task.ensures)

pub returns-in-Frame : goal.returns-in-Frame
returns-in-Frame c =
    let n : length c.in-Frame.bytes.now ≡ 14 = subst (λ (p : Part). Whole (piece p)) c.in-Frame.is c.requires in
    let e = c.chunk-in-Frame.ensures ∙ take_all 14 c.in-Frame.bytes.now (omega (arith, n)) in
    rw c.in-Frame.is (subst (λ (xs : List ℕ). Added c.args.self.now (frame_piece xs c.in-Frame.at) c.add_frame.result c.add_frame.new.self) e c.add_frame.ensures)
