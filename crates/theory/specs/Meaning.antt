-- What a load means, and the laws that every kind of load keeps.
use Rattle.std.specs.Prelude.{◌≡◌, ℕ, zero, suc, ◌+◌, ◌^◌, ◌<◌, ◌≤◌, min, max, Bool, true, false, cond, List, Some, None, Option, ◌==◌}
use Rattle.theory.specs.Jobs.{Job, All, Among, Proper, work_in}

-- What a load's four questions speak of, without any limit on arguments or amounts.
--   due t    the work that can be released and fall due within t ticks
--   held t   the longest section that work not due within t can occupy
--   ready s  the work that can be released within s ticks
--   mark t   whether t is a mark: a tick at which due or held may change
pub record Amounts : Type 0 where
  pub due : ℕ → ℕ
  pub held : ℕ → ℕ
  pub ready : ℕ → ℕ
  pub mark : ℕ → Bool

-- The laws of the amounts alone.
--   1: nothing is due within 0 ticks, and neither due nor ready falls
--   2: marks are 1 or more, and due and held change at marks only
--   3: due and held together never fall
--   4: what is due or held within s + t ticks is ready within s or due within t
pub record Rules (m : Amounts) : Type 0 where
  pub due_zero : m.due 0 ≡ 0
  pub due_mono : (s t : ℕ) → s ≤ t → m.due s ≤ m.due t
  pub ready_mono : (s t : ℕ) → s ≤ t → m.ready s ≤ m.ready t
  pub mark_zero : m.mark 0 ≡ false
  pub due_still : (t : ℕ) → m.mark (t + 1) ≡ false → m.due (t + 1) ≡ m.due t
  pub held_still : (t : ℕ) → m.mark (t + 1) ≡ false → m.held (t + 1) ≡ m.held t
  pub sum_mono : (s t : ℕ) → s ≤ t → m.due s + m.held s ≤ m.due t + m.held t
  pub shift : (s t : ℕ) → 1 ≤ s → m.due (s + t) + m.held (s + t) ≤ m.ready s + m.due t

-- A load's meaning: its amounts, and the job lists that it permits.
pub record Meaning : Type 1 where
  pub amounts : Amounts
  pub Permits : List Job → Type 0

-- The laws of a load: those of its amounts, and law 5 on permitted lists of proper jobs.
--   within       the jobs released at u or later and due by u + t have work of at most due t
--   beside_held  if moreover a job released before u and due after u + t has a piece of z ticks, z at
--                least 2, that work and z together are at most due t and held t
pub record Laws (m : Meaning) : Type 0 where
  pub rules : Rules m.amounts
  pub within : (js : List Job) → All Proper js → m.Permits js → (u t : ℕ) → work_in u (u + t) js ≤ m.amounts.due t
  pub beside_held : (js : List Job) → All Proper js → m.Permits js → (u t z : ℕ) (k : Job) → Among k js
      → k.release < u → u + t < k.deadline → Among z k.pieces → 2 ≤ z
      → work_in u (u + t) js + z ≤ m.amounts.due t + m.amounts.held t

-- What the load claims within t ticks: nothing where nothing is due, else the work due and the section that
-- may stand in its way.
unfoldable pub claim : Amounts → ℕ → ℕ
claim m t = cond (m.due t == 0) 0 (m.due t + m.held t)

-- An amount as a question answers it: an argument above 100,000,000 counts as 100,000,000, and an amount
-- above 2^40 is answered as 2^40.
abbrev pub answered : (ℕ → ℕ) → ℕ → ℕ
answered f t = min (f (min t 100000000)) (2 ^ 40)

-- The last mark below a tick, if there is one.
unfoldable pub last_mark : (ℕ → Bool) → ℕ → Option ℕ
last_mark mark zero = None
last_mark mark (suc t) = elim (mark t) [ true ↦ Some t | false ↦ last_mark mark t ]

-- The later of two ticks, each of which may be absent.
abbrev pub later : Option ℕ → Option ℕ → Option ℕ
later None b = b
later (Some a) None = Some a
later (Some a) (Some b) = Some (max a b)
