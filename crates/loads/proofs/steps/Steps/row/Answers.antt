use Rattle.std.proofs.Common.{◌≡◌, ◌+◌, ◌<◌, ◌^◌, min, take, length, get_or, arith, add-one, length-set}
use Rattle.std.specs.List.{sum_by}
use Rattle.std.proofs.lemmas.List.Sums.{sum_by_more}
use Rattle.loads.specs.Steps.{reached}
use Rattle.loads.proofs.Stepping.{reached_sum, row_more, row_whole}
use Rattle.loads.proofs.steps.Steps.row.Goals as goal

pub loop-i-preserved : goal.loop-i-preserved
loop-i-preserved c =
    let xs = c.args.self.now.added in
    let i = c.loop-i.i in
    let l : i < length xs = omega (arith, c.args.self.now.full) in
    let m = sum_by_more (λ x. x) xs i 0 l in
    let s : c.loop-i.sum + get_or xs i 0 ≡ sum_by (λ x. x) (take (i + 1) xs) = omega arith in
    let r : reached xs i ≡ sum_by (λ x. x) (take (i + 1) xs) = rw add-one (reached_sum xs i) in
    record {
      places = omega (arith, length-set c.loop-i.row i c.min.result);
      near = omega (arith, c.args.self.now.cut i);
      so_far = s;
      written = row_more (λ k. min (reached xs k) (2 ^ 40)) c.loop-i.row i c.min.result (omega arith) (omega arith) c.loop-i.invariant.written;
    }

pub returns : goal.returns
returns c = row_whole (λ k. min (reached c.args.self.now.added k) (2 ^ 40)) c.loop-i.row c.loop-i.i 256 (omega arith) c.loop-i.invariant.places c.loop-i.invariant.written
