use Rattle.std.proofs.Common.{◌≡◌, ◌+◌, ◌<◌, take, length, get_or, refl, ap, ◌∙◌, arith, length-take, get_or-take}
use Rattle.std.specs.List.{sum_by}
use Rattle.std.proofs.lemmas.List.Sums.{sum_by_more}
use Rattle.loads.specs.Steps.{reached, topped}
use Rattle.loads.proofs.Topping.{raise_more, reached_flat}
use Rattle.loads.proofs.steps.tops.Tops.raise.Goals as goal

pub loop-i-init : goal.loop-i-init
unfolding reached
loop-i-init c = record { near = omega arith; so_far = refl; raised = λ k h. omega arith }

pub loop-i-preserved : goal.loop-i-preserved
loop-i-preserved c =
    let xs = c.args.steps.now.added in
    let n = c.args.steps.now.last + 1 in
    let i = c.loop-i.i in
    let l : i < n = omega (arith, length-take n xs) in
    let h : i < length xs = omega (arith, length-take n xs) in
    let e : get_or (take n xs) i 0 ≡ get_or xs i 0 = get_or-take n xs i 0 l in
    let s : c.loop-i.sum + get_or (take n xs) i 0 ≡ sum_by (λ x. x) (take (i + 1) xs) = omega (arith, sum_by_more (λ x. x) xs i 0 h) in
    record {
      near = omega (arith, c.args.steps.now.cut i);
      so_far = s;
      raised = λ k m.
          raise_more xs c.loop-i.self.at i (c.loop-i.sum + get_or (take n xs) i 0) c.max.result k (topped c.args.self.now.at k) h (omega arith) s c.max.ensures (c.loop-i.invariant.raised k m);
    }

pub returns : goal.returns
returns c = λ k h.
    let s = c.args.steps.now in
    let n : c.loop-i.i ≡ s.last + 1 = omega (arith, length-take (s.last + 1) s.added) in
    let e : reached (take c.loop-i.i s.added) k ≡ reached s.added k = ap (λ m. reached (take m s.added) k) n ∙ reached_flat s.added (s.last + 1) k (λ j m. s.flat j (omega arith)) in
    omega (arith, c.loop-i.invariant.raised k h)
