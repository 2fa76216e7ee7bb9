-- The ticks served to the jobs that are released at u or later and due by e.
use Rattle.std.proofs.Common.{◌≡◌, ℕ, zero, suc, ◌+◌, ◌<◌, ◌≤◌, Bool, true, false, cond, List, [], ◌∷◌, length, get_or, set, refl, ap, arith}
use Rattle.theory.specs.Jobs.{Job, job, work, falls_in, work_in}

pub given : ℕ → ℕ → List Job → List ℕ → ℕ
given u e [] ss = 0
given u e (j ∷ js) [] = 0
given u e (j ∷ js) (s ∷ ss) = cond (falls_in u e j) s 0 + given u e js ss

pub given_zero : (u e : ℕ) (js : List Job) (ss : List ℕ) → ((i : ℕ) → falls_in u e (job js i) ≡ true → get_or ss i 0 ≡ 0) → given u e js ss ≡ 0
unfolding given
given_zero u e [] ss h = refl
given_zero u e (j ∷ js) [] h = refl
given_zero u e (j ∷ js) (s ∷ ss) h = go (falls_in u e j) refl (given_zero u e js ss (λ i. h (suc i)))
  where
    go : (b : Bool) → falls_in u e j ≡ b → given u e js ss ≡ 0 → cond b s 0 + given u e js ss ≡ 0
    go true f ih = let g : s ≡ 0 = h 0 f in omega arith
    go false f ih = omega arith

-- Ticks served to another job do not count, and one tick served to such a job counts.
pub given_same : (u e : ℕ) (js : List Job) (ss : List ℕ) (i x : ℕ) → falls_in u e (job js i) ≡ false → given u e js (set ss i x) ≡ given u e js ss
unfolding given
given_same u e [] ss i x h = refl
given_same u e (j ∷ js) [] i x h = refl
given_same u e (j ∷ js) (s ∷ ss) zero x h = go (falls_in u e j) h
  where
    go : (b : Bool) → b ≡ false → cond b x 0 + given u e js ss ≡ cond b s 0 + given u e js ss
    go b f = rw f
given_same u e (j ∷ js) (s ∷ ss) (suc i) x h = ap (λ n. cond (falls_in u e j) s 0 + n) (given_same u e js ss i x h)

pub given_more : (u e : ℕ) (js : List Job) (ss : List ℕ) (i : ℕ) → i < length js → length ss ≡ length js → falls_in u e (job js i) ≡ true
    → given u e js (set ss i (get_or ss i 0 + 1)) ≡ given u e js ss + 1
unfolding given
given_more u e [] ss i l q h = omega arith
given_more u e (j ∷ js) [] i l q h = omega arith
given_more u e (j ∷ js) (s ∷ ss) zero l q h = go (falls_in u e j) h
  where
    go : (b : Bool) → b ≡ true → cond b (s + 1) 0 + given u e js ss ≡ cond b s 0 + given u e js ss + 1
    go b f = rw f (omega arith)
given_more u e (j ∷ js) (s ∷ ss) (suc i) l q h =
    let ih = given_more u e js ss i (omega arith) (omega arith) h in omega arith

-- It is at most the work of these jobs, and less where one of them is unfinished.
pub given_le : (u e : ℕ) (js : List Job) (ss : List ℕ) → ((i : ℕ) → get_or ss i 0 ≤ work (job js i)) → given u e js ss ≤ work_in u e js
unfolding given
given_le u e [] ss h = omega arith
given_le u e (j ∷ js) [] h = omega arith
given_le u e (j ∷ js) (s ∷ ss) h = go (falls_in u e j) (given_le u e js ss (λ i. h (suc i)))
  where
    go : (b : Bool) → given u e js ss ≤ work_in u e js → cond b s 0 + given u e js ss ≤ cond b (work j) 0 + work_in u e js
    go true ih = let g : s ≤ work j = h 0 in omega arith
    go false ih = omega arith

pub given_lt : (u e : ℕ) (js : List Job) (ss : List ℕ) (i : ℕ) → i < length js → length ss ≡ length js
    → ((k : ℕ) → get_or ss k 0 ≤ work (job js k)) → falls_in u e (job js i) ≡ true → get_or ss i 0 < work (job js i)
    → given u e js ss < work_in u e js
unfolding given
given_lt u e [] ss i l q h f g = omega arith
given_lt u e (j ∷ js) [] i l q h f g = omega arith
given_lt u e (j ∷ js) (s ∷ ss) zero l q h f g = go (falls_in u e j) f (given_le u e js ss (λ k. h (suc k)))
  where
    go : (b : Bool) → b ≡ true → given u e js ss ≤ work_in u e js → cond b s 0 + given u e js ss < cond b (work j) 0 + work_in u e js
    go b f ih = rw f (omega arith)
given_lt u e (j ∷ js) (s ∷ ss) (suc i) l q h f g = go (falls_in u e j) (given_lt u e js ss i (omega arith) (omega arith) (λ k. h (suc k)) f g)
  where
    go : (b : Bool) → given u e js ss < work_in u e js → cond b s 0 + given u e js ss < cond b (work j) 0 + work_in u e js
    go true ih = let g : s ≤ work j = h 0 in omega arith
    go false ih = omega arith
