-- The theorems over amounts, for those of this load.
use Rattle.theory.proofs.Walk.{walk_is_look}
use Rattle.theory.proofs.Verdicts.{yes_exactly}
use Rattle.judge.proofs.theorems.verdicts_agree.Goals as goal

pub returns : goal.returns
returns g c =
    let m = (g.L.Load.meaning c.args.load.now).amounts in
    let l = (g.met.L.Load.lawful c.args.load.now).rules in
    record { same = walk_is_look m l; yes = yes_exactly m l }
