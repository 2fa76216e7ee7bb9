-- Jobs, their pieces and their work.
use Rattle.std.specs.Prelude.{◌≡◌, ℕ, ◌+◌, ◌≤◌, Bool, cond, ◌&&◌, ◌⊎◌, List, [], ◌∷◌, length, ℤ, pos, nat_le, slice_index_or}

-- One job: when it arrives (which may lie before tick 0), when the dispatcher may first run it, by which
-- tick it is to be done, and the pieces of work that run without interruption.
pub record Job : Type 0 where
  pub arrival : ℤ
  pub release : ℕ
  pub deadline : ℕ
  pub pieces : List ℕ

-- The sum of numbers.
abbrev pub sum : List ℕ → ℕ
sum [] = 0
sum (x ∷ xs) = x + sum xs

-- The work of a job, in ticks.
abbrev pub work : Job → ℕ
work j = sum j.pieces

-- P holds of each element.
abbrev pub All : {X : Type 0} → (X → Type 0) → List X → Type 0
All P [] = Unit {0}
All P (x ∷ xs) = P x × All P xs

-- x stands in the list.
abbrev pub Among : {X : Type 0} → X → List X → Type 0
Among x [] = ⊥
Among x (y ∷ ys) = (x ≡ y) ⊎ Among x ys

-- A proper job has at least one piece, and each of its pieces is 1 tick or more.
abbrev pub Proper : Job → Type 0
Proper j = (1 ≤ length j.pieces) × All (λ p. 1 ≤ p) j.pieces

-- The job at a place of a list; past its end, a job with no work.
abbrev pub no_job : Job
no_job = record { arrival = pos 0; release = 0; deadline = 0; pieces = [] }

abbrev pub job : List Job → ℕ → Job
job js i = slice_index_or js i no_job

-- The job is released at `u` or later and due by `e`.
abbrev pub falls_in : ℕ → ℕ → Job → Bool
falls_in u e j = nat_le u j.release && nat_le j.deadline e

-- The work of the jobs released at `u` or later and due by `e`.
abbrev pub work_in : ℕ → ℕ → List Job → ℕ
work_in u e [] = 0
work_in u e (j ∷ js) = cond (falls_in u e j) (work j) 0 + work_in u e js
