use Rattle.std.proofs.Common.{◌≡◌, ◌-◌, ◌^◌, min, arith, length-set}
use Rattle.std.proofs.lemmas.List.FromFn.{fill_by_all}
use Rattle.loads.proofs.Stepping.{filled_more}
use Rattle.loads.proofs.steps.repeat.repeat.Goals as goal

pub loop-i-preserved : goal.loop-i-preserved
loop-i-preserved c = record {
  places = omega (arith, length-set c.loop-i.row c.loop-i.i c.min.result);
  filled = λ f a b j h l.
      let e : c.min.result ≡ min (f c.loop-i.i) (2 ^ 40) = omega (arith, c.loop-i.invariant.filled f a b (c.loop-i.i - c.args.round) (omega arith) (omega arith), b c.loop-i.i (omega arith) (omega arith)) in
      filled_more (λ i. min (f i) (2 ^ 40)) c.loop-i.row c.loop-i.i c.min.result (omega arith) e (λ i m. c.loop-i.invariant.filled f a b i m (omega arith)) j h;
}

pub returns : goal.returns
returns c = λ f a b. fill_by_all (λ i. min (f i) (2 ^ 40)) c.loop-i.row 256 0 c.loop-i.invariant.places (λ i h. c.loop-i.invariant.filled f a b i (omega arith) h)
