-- The worked cases: all but the busy period that never closes come by computing the definitions.
use Rattle.std.proofs.Common.{◌≡◌, ℕ, ◌<◌, ◌≤◌, false, eqb, None, sym, refl, arith}
use Rattle.std.proofs.lemmas.Bool.{ne_eqb}
use Rattle.std.proofs.lemmas.Bool.Decides.{nat_tests}
use Rattle.theory.specs.Meaning.{claim, last_mark}
use Rattle.theory.specs.Beside.{both, beside}
use Rattle.theory.specs.Verdict.{first_fixed, busy, step, walk_down, walk_ticks, exceeded, look_below, walk, look}
use Rattle.theory.proofs.BusyPeriod.{busy_none}
use Rattle.theory.proofs.Claims.{claim_cases}
use Rattle.theory.proofs.Verdicts.{walk_open, look_open}
use Rattle.loads.specs.Tasks.{tasks_amounts, tasks_meaning}
use Rattle.loads.specs.Train.{cycle, circle_from, sum_along, mark_from, largest_of, any_of, train_amounts}
use Rattle.loads.specs.Cases.{with_jitter}
use Rattle.loads.proofs.theorems.worked_cases_hold.Goals as goal

-- More is always ready than the tick says, so the busy period never closes.
more_ready : (v : ℕ) → 1 ≤ v → v < with_jitter.ready v
unfolding tasks_amounts
more_ready v h = let e : eqb v 0 ≡ false = ne_eqb v 0 (λ z. omega arith) in rw e (omega arith)

never_closes : busy with_jitter ≡ None
never_closes = busy_none with_jitter (λ z. omega (arith, more_ready 1 (omega arith))) (λ v a b e. omega (arith, more_ready v a))

within_due : (t : ℕ) → with_jitter.due t ≤ t
unfolding tasks_amounts
within_due t = grind (arith, nat_tests)

none_held : (t : ℕ) → with_jitter.held t ≡ 0
unfolding tasks_amounts
none_held t = grind (arith, nat_tests)

within_claim : (t : ℕ) → claim with_jitter t ≤ t
within_claim t = omega (arith, claim_cases with_jitter t, within_due t, none_held t)

pub returns : goal.returns
unfolding claim last_mark both beside first_fixed busy step walk_down walk_ticks exceeded look_below walk look
    tasks_amounts tasks_meaning cycle circle_from sum_along mark_from largest_of any_of train_amounts
returns c = record {
  no_task = (refl, refl, refl);
  one_task = (refl, refl, refl);
  section_fits = (refl, refl, refl);
  section_fits_visits = refl;
  section_fits_claims = (refl, refl);
  section_late = (refl, refl, refl);
  whole_fits = (refl, refl, refl);
  whole_late = (refl, refl, refl);
  unclosed = (never_closes, sym (walk_open with_jitter (sym never_closes)), sym (look_open with_jitter (sym never_closes)));
  unclosed_claims = within_claim;
  six_fit = (refl, refl, refl);
  six_fit_visits = refl;
  train_fits = (refl, refl, refl);
  beside_late = (refl, refl, refl);
  beside_fits = (refl, refl, refl);
}
