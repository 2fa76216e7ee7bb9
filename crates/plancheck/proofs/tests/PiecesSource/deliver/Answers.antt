use Rattle.std.proofs.Common.{drop, arith, length-append, length-drop, length-take}
use Rattle.plancheck.proofs.Cuts.{cut_at}
use Rattle.plancheck.proofs.tests.PiecesSource.deliver.Goals as goal

pub returns : goal.returns
returns c =
    let n = c.min-n.result in
    let buf = c.args.buf.now in
    let copied = c.copy_from_slice.new.self in
    cut_at n c.args.self.now.left.now copied (drop n buf) (omega arith)
    (λ some z. omega (arith, length-append copied (drop n buf), length-take n buf, length-drop n buf)) c.copy_from_slice.ensures.after
