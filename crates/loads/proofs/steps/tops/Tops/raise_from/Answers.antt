use Rattle.std.proofs.Common.{inl, inr, arith}
use Rattle.std.proofs.lemmas.Bool.{cases_lt, le-leb, lt-leb}
use Rattle.loads.proofs.Topping.{topped_before, topped_after}
use Rattle.loads.proofs.steps.tops.Tops.raise_from.Goals as goal

pub returns : goal.returns
returns c = λ i h.
    let xs = c.args.self.now.at in
    let j = c.args.first in
    let v = c.args.v in
    elim (cases_lt i j) [
      | inl y ↦ (let a = topped_before xs j c.max.result i y in rw (lt-leb j i y) (omega arith))
      | inr y ↦ (let a = topped_after xs j v c.max.result i (omega (arith, c.args.self.now.full)) y c.max.ensures in rw (le-leb j i y) (omega arith))
    ]
