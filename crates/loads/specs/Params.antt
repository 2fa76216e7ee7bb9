-- The parameters of a task and of a frame as plain numbers, and their ranges.
use Rattle.std.specs.Prelude.{ℕ, ◌<◌, ◌≤◌}

-- A task: cost C, period T, deadline D, jitter J and longest bus section S, in ticks.
pub record TaskParams : Type 0 where
  pub cost : ℕ
  pub period : ℕ
  pub deadline : ℕ
  pub jitter : ℕ
  pub section : ℕ

abbrev pub task : ℕ → ℕ → ℕ → ℕ → ℕ → TaskParams
task c t d j s = record { cost = c; period = t; deadline = d; jitter = j; section = s }

-- A frame of a ramp train: cost, deadline counted from its release, and gap to the next release, in ticks.
pub record FrameParams : Type 0 where
  pub cost : ℕ
  pub deadline : ℕ
  pub gap : ℕ

abbrev pub frame : ℕ → ℕ → ℕ → FrameParams
frame c d g = record { cost = c; deadline = d; gap = g }

-- The ranges that every task record keeps.
pub record TaskRanges (p : TaskParams) : Type 0 where
  pub cost_least : 1 ≤ p.cost
  pub cost_most : p.cost ≤ 10000000
  pub period_least : 1 ≤ p.period
  pub period_most : p.period ≤ 10000000
  pub deadline_least : 1 ≤ p.deadline
  pub deadline_most : p.deadline ≤ 100000000
  pub jitter_period : p.jitter < p.period
  pub jitter_deadline : p.jitter < p.deadline
  pub section_cost : p.section ≤ p.cost
  pub section_most : p.section ≤ 65535

-- The ranges that every frame record keeps.
pub record FrameRanges (p : FrameParams) : Type 0 where
  pub cost_least : 1 ≤ p.cost
  pub cost_most : p.cost ≤ 10000000
  pub deadline_least : 1 ≤ p.deadline
  pub deadline_most : p.deadline ≤ 100000000
  pub gap_least : 1 ≤ p.gap
  pub gap_most : p.gap ≤ 10000000
