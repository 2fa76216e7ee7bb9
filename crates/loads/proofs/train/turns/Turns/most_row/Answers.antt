use Rattle.std.proofs.Common.{◌≡◌, ℕ, ◌+◌, ◌-◌, ◌^◌, min, length, get_or, sym, ap, ◌∙◌, arith}
use Rattle.std.proofs.lemmas.List.FromFn.{get_or-map-range_with_len}
use Rattle.loads.specs.Train.{circle_from, largest_of}
use Rattle.loads.specs.Steps.{topped}
use Rattle.loads.specs.TrainRests.{counts}
use Rattle.loads.proofs.TrainRows.{largest_next}
use Rattle.loads.proofs.TrainTurns.{place_round}
use Rattle.loads.proofs.train.turns.Turns.most_row.Goals as goal

pub loop-k-init : goal.loop-k-init
unfolding largest_of
loop-k-init c = λ i h. omega (arith, c.new-tops.ensures i (omega arith))

pub loop-k-preserved : goal.loop-k-preserved
loop-k-preserved c = λ i h.
    let s = c.args.self.now in
    let n = largest_next (λ k. s.base + counts s.round (s.from + i) 0 (circle_from k s.frames.now)) c.loop-k.k in
    omega (arith, c.loop-k.invariant i h, c.raise_at.ensures i h)

pub returns : goal.returns
returns c =
    let s = c.args.self.now in
    let fs = s.frames.now in
    let most = λ (i : ℕ). largest_of (λ k. s.base + counts s.round (s.from + i) 0 (circle_from k fs)) (length fs) in
    let n : c.loop-k.k ≡ length fs = omega arith in
    c.repeat.ensures most
    (λ i h l.
    let r = ap (λ ys. get_or ys i 0) c.row-row.ensures ∙ get_or-map-range_with_len (λ i. min (topped c.loop-k.tops.at i) (2 ^ 40)) 0 256 i i 0 l (omega arith) in
    let e = ap (λ k. largest_of (λ k. s.base + counts s.round (s.from + i) 0 (circle_from k fs)) k) n in
    omega (arith, c.loop-k.invariant i h))
    (λ i h l. place_round s.base s.round s.from c.growth-still.result.0 i fs (omega arith) s.whole c.requires (omega arith) l c.growth-still.ensures.settled ∙ ap (λ w. most (i - s.round) + w) (sym c.growth-still.ensures.grown))
