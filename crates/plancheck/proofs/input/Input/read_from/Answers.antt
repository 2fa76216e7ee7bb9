use Rattle.std.proofs.Common.{◌≡◌, ◌≤◌, ◌∙◌, length, arith}
use Rattle.plancheck.specs.Input.{received}
use Rattle.plancheck.proofs.Pieces.{counted, count_grows}
use Rattle.plancheck.proofs.Held.{one_more, full, at_end}
use Rattle.plancheck.proofs.Known.{known_more, known_full, known_end}
use Rattle.plancheck.proofs.input.Input.read_from.Goals as goal

pub loop-input-smaller : goal.loop-input-smaller
loop-input-smaller g c =
    omega (arith, count_grows g.S.Source.gave c.loop-input.source c.loop-input.input c.in_ok-n.n c.pull.new.source c.pull.new.self c.in_ok-n.ensures)

pub loop-input-preserved : goal.loop-input-preserved
loop-input-preserved g c =
    let a = c.in_ok-n.ensures in
    record {
      told = one_more g.S.Source.gave c.args.source.now c.loop-input.source c.pull.new.source (received c.loop-input.input) a.piece (received c.pull.new.self)
          c.loop-input.invariant.told a.given a.after;
      known = known_more g.S.Source.gave c.args.source.now c.loop-input.source c.pull.new.source (received c.loop-input.input) a.piece (received c.pull.new.self)
          c.loop-input.invariant.known a.given a.after;
    }

pub returns-after-loop-input : goal.returns-after-loop-input
returns-after-loop-input g c =
    let size : length (received c.loop-input.input) ≡ 4096 = omega (arith, counted c.loop-input.input) in
    record {
      first = full g.S.Source.gave c.args.source.now c.loop-input.source (received c.loop-input.input) c.loop-input.invariant.told size;
      known = known_full g.S.Source.gave c.args.source.now c.loop-input.source (received c.loop-input.input) c.loop-input.invariant.known size;
    }

pub returns-then-n-eq0 : goal.returns-then-n-eq0
returns-then-n-eq0 g c =
    let a = c.in_ok-n.ensures in
    let few : length (received c.pull.new.self) ≤ 4096 = omega (arith, counted c.pull.new.self, c.pull.new.self.room) in
    record {
      first = at_end g.S.Source.gave c.args.source.now c.loop-input.source c.pull.new.source (received c.loop-input.input) a.piece (received c.pull.new.self)
          c.loop-input.invariant.told a.given (a.size ∙ c.if-n-eq0.true) a.after few;
      known = known_end g.S.Source.gave c.args.source.now c.loop-input.source c.pull.new.source (received c.loop-input.input) a.piece (received c.pull.new.self)
          c.loop-input.invariant.known a.given (a.size ∙ c.if-n-eq0.true) a.after few;
    }
