use Rattle.std.proofs.lemmas.Result.{IfOk-weaker}
use Rattle.plancheck.proofs.Cuts.{left_tells}
use Rattle.plancheck.proofs.tests.judge_pieces.Goals as goal

pub returns : goal.returns
returns c = IfOk-weaker c.judge_first.result _ _ (λ o h. h (λ p. p.left.now) (left_tells (λ p. p.left.now))) c.judge_first.ensures.says
