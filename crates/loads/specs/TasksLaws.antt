-- Tasks are the first of them beside the others, and so they keep the laws of a load; and a task's marks are kT + D − J.
use Rattle.std.specs.Prelude.{◌≡◌, ℕ, ◌+◌, ◌-◌, ◌*◌, ◌/◌, ◌%◌, true, List, [], ◌∷◌, ◌==◌, nat_le, refl}
use Rattle.std.proofs.Common.{subst, sym, ap, ◌∙◌, arith, div-add-mod'}
use Rattle.std.proofs.lemmas.Bool.{and_parts, and_from, leb-true, eqb-true, le-leb, eq-eqb}
use Rattle.std.proofs.lemmas.Nat.{mod-mul-add}
use Rattle.loads.specs.Params.{TaskParams, TaskRanges}
use Rattle.theory.specs.Meaning.{Meaning, Laws}
use Rattle.theory.specs.Beside.{both, beside, nothing}
use Rattle.loads.specs.Tasks.{task_meaning, tasks_meaning, tasks_amounts, task_mark}
use Rattle.loads.specs.Statements.{Same, TasksLawful, NoTasks, TasksBeside, MarksAre}
use Rattle.theory.proofs.BesideLaws.{beside_laws, nothing_laws}
use Rattle.loads.specs.TaskJobs.{task_laws}

pub no_tasks : tasks_meaning [] ≡ nothing
unfolding tasks_meaning tasks_amounts nothing
no_tasks = refl

pub more_tasks : (x : TaskParams) (xs : List TaskParams) → tasks_meaning (x ∷ xs) ≡ beside (task_meaning x) (tasks_meaning xs)
unfolding tasks_meaning tasks_amounts beside both task_meaning
more_tasks x xs = refl

pub tasks_laws : TasksLawful
tasks_laws [] h = subst Laws (sym no_tasks) nothing_laws
tasks_laws (x ∷ xs) h = subst Laws (sym (more_tasks x xs)) (beside_laws (task_meaning x) (tasks_meaning xs) (task_laws x h.0) (tasks_laws xs h.1))

-- The marks are kT + D − J, k from 0.
mark_is : (x : TaskParams) → TaskRanges x → (t : ℕ) → task_mark x t ≡ true → (k : ℕ) × (t ≡ k * x.period + (x.deadline - x.jitter))
mark_is x ok t h =
    let p = and_parts (nat_le (x.deadline - x.jitter) t) ((t + x.jitter - x.deadline) % x.period == 0) h in
    let a = leb-true (x.deadline - x.jitter) t p.0 in
    let b = eqb-true ((t + x.jitter - x.deadline) % x.period) 0 p.1 in
    ((t + x.jitter - x.deadline) / x.period, omega (arith, div-add-mod' (t + x.jitter - x.deadline) x.period))

is_mark : (x : TaskParams) → TaskRanges x → (k : ℕ) → task_mark x (k * x.period + (x.deadline - x.jitter)) ≡ true
is_mark x ok k =
    let e : k * x.period + (x.deadline - x.jitter) + x.jitter - x.deadline ≡ k * x.period + 0 = omega arith in
    let m : (k * x.period + (x.deadline - x.jitter) + x.jitter - x.deadline) % x.period ≡ 0 = ap (λ y. y % x.period) e ∙ mod-mul-add k x.period 0 (omega arith) in
    and_from (nat_le (x.deadline - x.jitter) (k * x.period + (x.deadline - x.jitter))) _ (le-leb _ _ (omega arith)) (eq-eqb _ 0 m)

pub marks_are : MarksAre
marks_are x ok t = (mark_is x ok t, λ p. rw p.1 (is_mark x ok p.0))

same : (m n : Meaning) → m ≡ n → Same m n
same m n e = subst (Same m) e (record { due = λ t. refl; held = λ t. refl; ready = λ s. refl; mark = λ t. refl; Permits = λ js. (λ p. p, λ p. p) })

pub none_same : NoTasks
none_same = same (tasks_meaning []) nothing no_tasks

pub more_same : TasksBeside
more_same x xs = same (tasks_meaning (x ∷ xs)) (beside (task_meaning x) (tasks_meaning xs)) (more_tasks x xs)
