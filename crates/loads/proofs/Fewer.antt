-- A table with emptied channels has smaller amounts.
use Rattle.std.proofs.Common.{◌≡◌, ℕ, zero, suc, ◌≤◌, List, [], ◌∷◌, ◌++◌, length, set, replicate, Some, None, Option, refl, ap, arith}
use Rattle.loads.specs.Params.{TaskParams}
use Rattle.loads.specs.Tasks.{task_due, task_held, task_ready, total, largest, tasks_meaning, tasks_amounts}
use Rattle.loads.specs.Channels.{Content, Channels, filled, put_before, table}
use Rattle.theory.specs.Statements.{Lower}

pub none_filled : (n : ℕ) → filled (replicate {A = Option Content} n None) ≡ []
none_filled zero = refl
none_filled (suc n) = none_filled n

-- An amount that a task in front never lowers, and for which the same task in front of two lists keeps the order.
record Rising (g : List TaskParams → ℕ) : Type 0 where
  adds : (x : TaskParams) (xs : List TaskParams) → g xs ≤ g (x ∷ xs)
  keeps : (x : TaskParams) (xs ys : List TaskParams) → g xs ≤ g ys → g (x ∷ xs) ≤ g (x ∷ ys)

module _ (g : List TaskParams → ℕ) (r : Rising g) where
  least : (xs : List TaskParams) → g [] ≤ g xs
  least [] = omega arith
  least (x ∷ xs) = omega (arith, r.adds x xs, least xs)

  -- The same for a channel in front, which may be empty.
  channel_keeps : (o : Option Content) (xs ys : List TaskParams) → g xs ≤ g ys → g (put_before o xs) ≤ g (put_before o ys)
  channel_keeps None xs ys h = h
  channel_keeps (Some e) xs ys h = r.keeps e.params xs ys h

  channel_adds : (o : Option Content) (xs : List TaskParams) → g xs ≤ g (put_before o xs)
  channel_adds None xs = omega arith
  channel_adds (Some e) xs = r.adds e.params xs

  one_emptied : (l : Channels) (c : ℕ) → g (filled (set l c None)) ≤ g (filled l)
  one_emptied [] c = omega arith
  one_emptied (s ∷ l) zero = channel_adds s (filled l)
  one_emptied (s ∷ l) (suc c) = channel_keeps s (filled (set l c None)) (filled l) (one_emptied l c)

  -- The channels after `pre`, all of them emptied.
  rest_emptied : (pre after : Channels) → g (filled (pre ++ replicate (length after) None)) ≤ g (filled (pre ++ after))
  rest_emptied [] after = omega (arith, ap g (none_filled (length after)), least (filled after))
  rest_emptied (o ∷ pre) after = channel_keeps o (filled (pre ++ replicate (length after) None)) (filled (pre ++ after)) (rest_emptied pre after)

total_rises : (f : TaskParams → ℕ) → Rising (total f)
total_rises f = record { adds = λ x xs. omega arith; keeps = λ x xs ys h. omega arith }

largest_rises : (f : TaskParams → ℕ) → Rising (largest f)
largest_rises f = record { adds = λ x xs. omega arith; keeps = λ x xs ys h. omega arith }

-- One channel emptied.
pub fewer : (l : Channels) (c : ℕ) → Lower (table (set l c None)).amounts (table l).amounts
unfolding tasks_meaning tasks_amounts
fewer l c = record {
  due = λ t. one_emptied _ (total_rises (λ x. task_due x t)) l c;
  held = λ t. one_emptied _ (largest_rises (λ x. task_held x t)) l c;
  ready = λ s. one_emptied _ (total_rises (λ x. task_ready x s)) l c;
}

-- All channels emptied from a place on.
pub cut_lower : (pre r : Channels) → Lower (table (pre ++ replicate (length r) None)).amounts (table (pre ++ r)).amounts
unfolding tasks_meaning tasks_amounts
cut_lower pre r = record {
  due = λ t. rest_emptied _ (total_rises (λ x. task_due x t)) pre r;
  held = λ t. rest_emptied _ (largest_rises (λ x. task_held x t)) pre r;
  ready = λ s. rest_emptied _ (total_rises (λ x. task_ready x s)) pre r;
}
