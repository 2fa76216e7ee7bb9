-- The frame's last deadline below t: none yet, or by whether `off` is within the rest.
use Rattle.std.proofs.Common.{arith}
use Rattle.loads.proofs.TrainMarks.{last_hit_none, last_early, last_late}
use Rattle.loads.proofs.train.marks.Rounds.last_hit.Goals as goal

pub returns-then-self-off : goal.returns-then-self-off
returns-then-self-off c = last_hit_none c.args.self.now.round c.args.self.now.t c.args.off c.args.f.now.frame.deadline (omega arith)

pub returns-then-off-rest : goal.returns-then-off-rest
returns-then-off-rest c =
    let s = c.args.self.now in
    last_early s.round s.t c.args.off c.args.f.now.frame.deadline c.args.f.now.rest c.requires.within (omega arith) c.requires.left (omega arith)

pub returns-else-off-rest : goal.returns-else-off-rest
returns-else-off-rest c =
    let s = c.args.self.now in
    last_late s.round s.t c.args.off c.args.f.now.frame.deadline c.args.f.now.rest c.requires.within (omega arith) c.requires.left (omega arith)
