use Rattle.std.proofs.Common.{◌≡◌, ◌-◌, ◌^◌, min, get_or, ap, ◌∙◌, arith, length-set}
use Rattle.std.proofs.lemmas.List.FromFn.{get_or-map-range_with_len}
use Rattle.loads.specs.Steps.{topped}
use Rattle.loads.proofs.Stepping.{row_more, row_whole}
use Rattle.loads.proofs.steps.tops.Tops.row_back.Goals as goal

pub loop-i-preserved : goal.loop-i-preserved
loop-i-preserved c =
    let xs = c.args.self.now.at in
    let i = c.loop-i.i in
    let x = get_or c.row-tops.result (255 - i) 0 in
    let e : x ≡ min (topped xs (255 - i)) (2 ^ 40) =
    ap (λ ys. get_or ys (255 - i) 0) c.row-tops.ensures ∙ get_or-map-range_with_len (λ k. min (topped xs k) (2 ^ 40)) 0 256 (255 - i) (255 - i) 0 (omega arith) (omega arith) in
    record {
      places = omega (arith, length-set c.loop-i.row i x, c.loop-i.invariant.places);
      written = row_more (λ k. min (topped xs (255 - k)) (2 ^ 40)) c.loop-i.row i x (omega (arith, c.loop-i.invariant.places)) e c.loop-i.invariant.written;
    }

pub returns : goal.returns
returns c = row_whole (λ k. min (topped c.args.self.now.at (255 - k)) (2 ^ 40)) c.loop-i.row c.loop-i.i 256 (omega arith) c.loop-i.invariant.places c.loop-i.invariant.written
