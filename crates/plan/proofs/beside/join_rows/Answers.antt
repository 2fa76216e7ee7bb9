-- Each turn writes one place more, and at the end all of them are written.
use Rattle.std.proofs.Common.{◌≡◌, ◌+◌, get_or, ap, ◌∙◌, arith, length-set}
use Rattle.theory.specs.Meaning.{answered}
use Rattle.theory.proofs.RowPlaces.{row_place, written_more, written_whole}
use Rattle.plan.proofs.beside.join_rows.Goals as goal

pub loop-i-preserved : goal.loop-i-preserved
loop-i-preserved g c =
    let i = c.loop-i.i in
    record {
      places = omega (arith, length-set c.loop-i.joined i c.join.result, c.loop-i.invariant.places);
      written = λ f k h w joins p q.
          let x : get_or c.args.a.now i 0 ≡ answered f (w + i) = ap (λ xs. get_or xs i 0) p ∙ row_place f w i 0 c.loop-i-test.true in
          let y : get_or c.args.b.now i 0 ≡ answered k (w + i) = ap (λ xs. get_or xs i 0) q ∙ row_place k w i 0 c.loop-i-test.true in
          let z : goal.F-post g c.args.join (get_or c.args.a.now i 0) (get_or c.args.b.now i 0) c.join.result = c.join.ensures in
          written_more h w c.loop-i.joined i c.join.result (omega (arith, c.loop-i.invariant.places))
          (joins (w + i) c.join.result (rw (x, y) at z)) (c.loop-i.invariant.written f k h w joins p q);
    }

pub returns : goal.returns
returns g c = λ f k h w joins p q. written_whole h w c.loop-i.joined c.loop-i.i (omega arith) c.loop-i.invariant.places (c.loop-i.invariant.written f k h w joins p q)
