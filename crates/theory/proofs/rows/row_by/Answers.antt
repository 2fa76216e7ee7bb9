-- Each turn writes one more place, and at the end all of them are written.
use Rattle.std.proofs.Common.{◌≡◌, ◌+◌, min, ap, ◌∙◌, arith, length-set}
use Rattle.theory.specs.Meaning.{answered}
use Rattle.theory.proofs.RowPlaces.{written_more, written_whole, answered_cut}
use Rattle.theory.proofs.rows.row_by.Goals as goal

pub loop-i-preserved : goal.loop-i-preserved
loop-i-preserved g c =
    let i = c.loop-i.i in
    let places = c.loop-i.invariant.places in
    record {
      places = omega (arith, length-set c.loop-i.answers i c.question.result);
      written = λ f asks.
          let s : c.saturating_add.result ≡ min (c.args.from + i) 18446744073709551615 = c.saturating_add.ensures in
          let r : c.question.result ≡ answered f (c.args.from + i) =
          asks c.saturating_add.result c.question.result (omega arith) c.question.ensures ∙ ap (answered f) s ∙ answered_cut f (c.args.from + i) in
          written_more f c.args.from c.loop-i.answers i c.question.result (omega arith) r (c.loop-i.invariant.written f asks);
    }

pub returns : goal.returns
returns g c = λ f asks. written_whole f c.args.from c.loop-i.answers c.loop-i.i (omega arith) c.loop-i.invariant.places (c.loop-i.invariant.written f asks)
