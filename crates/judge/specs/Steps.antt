-- One step of the walk, with its end.
use Rattle.std.specs.Prelude.{ℕ, cond, nat_lt, Ok, Err, Option, Result}
use Rattle.theory.specs.declared.verdict.Unfit.{Unfit}
use Rattle.theory.specs.declared.verdict.Unfit.TheVariants.{Late}
use Rattle.theory.specs.Meaning.{Amounts, claim}
use Rattle.theory.specs.Verdict.{step}

-- The tick and its claim where that exceeds the tick, and else where the walk goes from there.
abbrev pub stepped : Amounts → ℕ → Result (Option ℕ) Unfit
stepped m t = cond (nat_lt t (claim m t)) (Err (Late (t, claim m t))) (Ok (step m t))
