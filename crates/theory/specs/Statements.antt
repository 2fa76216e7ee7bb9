-- What is proved of every load.
use Rattle.std.specs.Prelude.{◌≡◌, ℕ, ◌<◌, ◌≤◌, true, ◌⊎◌, ◌↔◌, List, Some, Ok, Err, ◌≢◌}
use Rattle.theory.specs.declared.verdict.Unfit.TheVariants.{Late as UnfitLate}
use Rattle.theory.specs.Jobs.{Job, All, Proper}
use Rattle.theory.specs.Dispatch.{Late}
use Rattle.theory.specs.Meaning.{Meaning, Amounts, Rules, claim}
use Rattle.theory.specs.Verdict.{busy, walk, look, Accepted}

-- w is the busy period: 0 where nothing is ready within 1 tick, else the least w of 1 or more with ready(w) = w.
abbrev pub Busy : Amounts → ℕ → Type 0
Busy m w = ((w ≡ 0) × (m.ready 1 ≡ 0)) ⊎ ((1 ≤ w) × (m.ready 1 ≢ 0) × (m.ready w ≡ w) × ((v : ℕ) → 1 ≤ v → v < w → m.ready v ≢ v))

-- The busy period closes exactly when it exists and is at most 100,000,000.
abbrev pub ClosesExactly : Type 0
ClosesExactly = (m : Amounts) (w : ℕ) → (busy m ≡ Some w) ↔ (Busy m w × (w ≤ 100000000))

-- Walk and look give the same verdict.
abbrev pub WalkIsLook : Type 0
WalkIsLook = (m : Amounts) → Rules m → walk m ≡ look m

-- No tick, however far out, is exceeded by its claim.
abbrev pub NoClaimExceeds : Amounts → Type 0
NoClaimExceeds m = (t : ℕ) → claim m t ≤ t

-- Where the busy period closes, the verdict is yes exactly when no tick, however far out, is exceeded by its claim.
abbrev pub YesExactly : Type 0
YesExactly = (m : Amounts) → Rules m → (w : ℕ) → busy m ≡ Some w → (walk m ≡ Ok w) ↔ NoClaimExceeds m

-- t is the greatest mark below w that its claim c exceeds.
pub record Worst (m : Amounts) (w t c : ℕ) : Type 0 where
  pub below : t < w
  pub mark : m.mark t ≡ true
  pub is_claim : c ≡ claim m t
  pub exceeds : t < c
  pub greatest : (u : ℕ) → t < u → u < w → m.mark u ≡ true → claim m u ≤ u

-- Where the busy period closes, the verdict is late with t and c exactly when they are the greatest exceeded
-- mark below it and the claim there.
abbrev pub LateExactly : Type 0
LateExactly = (m : Amounts) → Rules m → (w : ℕ) → busy m ≡ Some w → (t c : ℕ) → (walk m ≡ Err (UnfitLate (t, c))) ↔ Worst m w t c

-- All of this together: what the verdicts say, for all amounts under the rules.
pub record OneVerdict : Type 0 where
  pub same : WalkIsLook
  pub yes : YesExactly
  pub late : LateExactly
  pub closes : ClosesExactly

-- Of the permitted lists of proper jobs, run by the dispatcher, none has a late job.
abbrev pub NeverLate : Meaning → Type 0
NeverLate m = (js : List Job) → All Proper js → m.Permits js → (i : ℕ) → Late js i → ⊥

-- a is at most b, amount by amount.
pub record Lower (a b : Amounts) : Type 0 where
  pub due : (t : ℕ) → a.due t ≤ b.due t
  pub held : (t : ℕ) → a.held t ≤ b.held t
  pub ready : (s : ℕ) → a.ready s ≤ b.ready s

-- A load whose amounts are at most those of an accepted one is accepted.
abbrev pub LowerAccepted : Type 0
LowerAccepted = (a b : Amounts) → Rules a → Rules b → Lower a b → Accepted b → Accepted a
