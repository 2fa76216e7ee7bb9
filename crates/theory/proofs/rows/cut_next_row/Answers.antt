use Rattle.std.proofs.Common.{arith}
use Rattle.theory.proofs.RowPlaces.{next_uncut}
use Rattle.theory.proofs.rows.cut_next_row.Goals as goal

pub returns-else-from-eq0-clause-row : goal.returns-else-from-eq0-clause-row
returns-else-from-eq0-clause-row c = λ f z e. c.cut_row.ensures.row f (next_uncut f c.args.from c.args.answers.now (omega (arith, c.if-from-eq0.false)) e)
