use Rattle.std.proofs.Common.{◌≡◌, ◌+◌, ◌<◌, ◌^◌, min, take, length, refl, arith, add-one, length-set}
use Rattle.loads.specs.Steps.{topped}
use Rattle.loads.proofs.Stepping.{row_more, row_whole}
use Rattle.loads.proofs.Topping.{top_more, top_here}
use Rattle.loads.proofs.steps.tops.Tops.row.Goals as goal

pub loop-i-init : goal.loop-i-init
unfolding topped
loop-i-init c = record { places = refl; so_far = refl; written = refl }

pub loop-i-preserved : goal.loop-i-preserved
loop-i-preserved c =
    let xs = c.args.self.now.at in
    let i = c.loop-i.i in
    let l : i < length xs = omega (arith, c.args.self.now.full) in
    let m : topped (take (i + 1) xs) (i + 1) ≡ c.max-top.result = rw add-one (omega (arith, top_more xs i l)) in
    let r : topped xs i ≡ c.max-top.result = omega (arith, top_here xs i, top_more xs i l) in
    record {
      places = omega (arith, length-set c.loop-i.row i c.min.result);
      so_far = omega arith;
      written = row_more (λ k. min (topped xs k) (2 ^ 40)) c.loop-i.row i c.min.result (omega arith) (omega arith) c.loop-i.invariant.written;
    }

pub returns : goal.returns
returns c = row_whole (λ k. min (topped c.args.self.now.at k) (2 ^ 40)) c.loop-i.row c.loop-i.i 256 (omega arith) c.loop-i.invariant.places c.loop-i.invariant.written
