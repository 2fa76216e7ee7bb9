-- The bytes looked at are the first 4,096.
use Rattle.std.proofs.Common.{refl}
use Rattle.std.proofs.lemmas.List.{take_min}
use Rattle.std.proofs.Math.Nat.{min_comm}
use Rattle.image.proofs.verdict.lukwaizo_check.Goals as goal

pub returns : goal.returns
returns c = rw (c.code.ensures, c.verdict.ensures.says, c.min.ensures, min_comm, take_min) refl
