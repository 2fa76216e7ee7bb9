-- The busy period, and the two verdicts on a load: the judge's walk and the audit's look.
use Rattle.std.specs.Prelude.{◌≡◌, ℕ, zero, suc, ◌+◌, ◌≤◌, Bool, true, false, ◌&&◌, List, [], ◌∷◌, Some, None, Ok, Err, Option, Result, ◌==◌, nat_lt}
use Rattle.theory.specs.declared.verdict.Unfit.{Unfit}
use Rattle.theory.specs.declared.verdict.Unfit.TheVariants.{NotClosed, Late}
use Rattle.theory.specs.Meaning.{Amounts, claim, last_mark}

-- The first of the n ticks w, w + 1, w + 2, .. at which f stands still.
unfoldable pub first_fixed : (ℕ → ℕ) → ℕ → ℕ → Option ℕ
first_fixed f zero w = None
first_fixed f (suc n) w = elim (f w == w) [ true ↦ Some w | false ↦ first_fixed f n (w + 1) ]

-- The busy period, if it closes: 0 where nothing is ready within 1 tick, else the least w of 1 to
-- 100,000,000 with ready(w) = w.
unfoldable pub busy : Amounts → Option ℕ
busy m = elim (m.ready 1 == 0) [ true ↦ Some 0 | false ↦ first_fixed m.ready 100000000 1 ]

-- Where the walk goes from a tick that its claim does not exceed: to the claim if that is below it, else to
-- the last mark below it.
unfoldable pub step : Amounts → ℕ → Option ℕ
step m t = elim (nat_lt (claim m t) t) [ true ↦ Some (claim m t) | false ↦ last_mark m.mark t ]

-- The walk from a tick downwards, ended by a claim that exceeds its tick: that tick and its claim, if any.
-- It has n steps, and every step goes lower, so that n above the tick is enough.
unfoldable pub walk_down : Amounts → ℕ → Option ℕ → Option (ℕ × ℕ)
walk_down m n None = None
walk_down m zero (Some t) = None
walk_down m (suc n) (Some t) = elim (nat_lt t (claim m t)) [ true ↦ Some (t, claim m t) | false ↦ walk_down m n (step m t) ]

-- The ticks at which that walk stands.
unfoldable pub walk_ticks : Amounts → ℕ → Option ℕ → List ℕ
walk_ticks m n None = []
walk_ticks m zero (Some t) = []
walk_ticks m (suc n) (Some t) = t ∷ elim (nat_lt t (claim m t)) [ true ↦ [] | false ↦ walk_ticks m n (step m t) ]

-- t is a mark, and its claim exceeds it.
unfoldable pub exceeded : Amounts → ℕ → Bool
exceeded m t = m.mark t && nat_lt t (claim m t)

-- The look at every tick below t: the greatest of them that is an exceeded mark, with its claim, if any.
unfoldable pub look_below : Amounts → ℕ → Option (ℕ × ℕ)
look_below m zero = None
look_below m (suc t) = elim (exceeded m t) [ true ↦ Some (t, claim m t) | false ↦ look_below m t ]

-- The verdict over a busy period that closed at w, from the mark and claim found, if any.
abbrev pub found : ℕ → Option (ℕ × ℕ) → Result ℕ Unfit
found w None = Ok w
found w (Some late) = Err (Late late)

-- The verdict of a way to seek an exceeded mark below the busy period, which may not close.
abbrev pub over : Option ℕ → (ℕ → Option (ℕ × ℕ)) → Result ℕ Unfit
over None seek = Err NotClosed
over (Some w) seek = found w (seek w)

-- The judge's verdict: the walk from the last mark below the busy period.
unfoldable pub walk : Amounts → Result ℕ Unfit
walk m = over (busy m) (λ w. walk_down m w (last_mark m.mark w))

-- The audit's verdict: the look at every tick below the busy period.
unfoldable pub look : Amounts → Result ℕ Unfit
look m = over (busy m) (λ w. look_below m w)

-- A load is accepted when its busy period closes and no claim exceeds its tick, however far out.
abbrev pub Accepted : Amounts → Type 0
Accepted m = ((w : ℕ) × (busy m ≡ Some w)) × ((t : ℕ) → claim m t ≤ t)
