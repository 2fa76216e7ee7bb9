-- The new plan has no tasks, and the train for its guest.
use Rattle.std.proofs.Common.{◌≡◌, [], ap, ◌∙◌, subst}
use Rattle.loads.specs.Train.{frames_of, train_meaning}
use Rattle.loads.specs.Channels.{Channels, blank}
use Rattle.loads.specs.declared.train.RampTrain.{RampTrain}
use Rattle.plan.specs.Ledger.{ledger}
use Rattle.format.specs.Fills.{AdmittedTo, admitted_to, KeptAgain}
use Rattle.image.specs.Whole.{records_of}
use Rattle.image.proofs.verdict.admit_over.Goals as goal
use Rattle.image.proofs.verdict.admit_over.Goals.{After-admit_to}

-- What was admitted, by the train and without the plan.
told : (c : After-admit_to) → ◌≡◌ {A = AdmittedTo} (c.admit_to.result, ledger c.admit_to.new.plan) (admitted_to (train_meaning (frames_of c.args.train)) (records_of c.args.checked.now) blank)
told c = c.admit_to.ensures.says ∙ (λ i. admitted_to (train_meaning (frames_of (c.make-plan.ensures.guest i))) (records_of c.args.checked.now) (c.make-plan.ensures.channels i))

pub returns-clause-says : goal.returns-clause-says
returns-clause-says c = ap (λ (x : AdmittedTo). x.0) (told (goal.at.returns-clause-says c).After-admit_to)

pub returns-clause-kept : goal.returns-clause-kept
returns-clause-kept c =
    let at = (goal.at.returns-clause-kept c).After-admit_to in
    subst (λ (l : Channels). KeptAgain (train_meaning (frames_of c.args.train)) [] l) (ap (λ (x : AdmittedTo). x.1) (told at))
    (subst (λ (g : RampTrain). KeptAgain (train_meaning (frames_of g)) [] (ledger c.admit_to.new.plan)) c.make-plan.ensures.guest (c.admit_to.ensures.kept [] c.make-plan.ensures.channels))
