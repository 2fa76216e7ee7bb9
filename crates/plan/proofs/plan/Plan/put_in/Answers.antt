-- Each turn puts one more in, up to the first that is kept out.
use Rattle.std.proofs.Common.{◌≡◌, ℕ, Ok, Err, Result, ◌∙◌, rules}
use Rattle.std.specs.Result.{MatchResult}
use Rattle.std.proofs.lemmas.Result.{err_from_is_err_and}
use Rattle.loads.specs.declared.refusal.Refusal.{Refusal}
use Rattle.plan.proofs.MapErr.{ok_kept, err_told}
use Rattle.plan.proofs.PutTogether.{one_more_in, one_kept_out}
use Rattle.plan.proofs.plan.Plan.put_in.Goals as goal

pub returns-in_err-map_err-clause-says : goal.returns-in_err-map_err-clause-says
returns-in_err-map_err-clause-says g c =
    let i = c.loop-n.invariant in
    let q = c.in_err-map_err.field-0.0 in
    let p = err_from_is_err_and c.from_residual.result c.from_residual.ensures.1 in
    let f : MatchResult c.put_one.result (λ x. ◌≡◌ {A = Result (Unit {0}) (ℕ × Refusal)} (Err q) (Ok x)) (λ e. q ≡ (c.loop-n.n-counter, e)) = search rules in
    let t = err_told c.put_one.result (λ e. (c.loop-n.n-counter, e)) q f in
    rw (p.1, p.2, t.2) (one_kept_out _ _ _ c.args.entries.now c.loop-n.n-counter c.index-entries-n.result c.loop-n-test.true c.index-entries-n.is i.vacant i.put c.put_one.result c.put_one.ensures.says c.put_one.ensures.channels t.0 t.1)

pub loop-n-preserved : goal.loop-n-preserved
loop-n-preserved g c =
    let i = c.loop-n.invariant in
    let o = ok_kept (ℕ × Refusal) c.put_one.result c.in_ok-map_err.field-0 (search rules) in
    let s = one_more_in _ _ _ c.args.entries.now c.loop-n.n-counter c.index-entries-n.result c.loop-n-test.true c.index-entries-n.is i.vacant i.put c.put_one.result c.put_one.ensures.says c.put_one.ensures.channels o in
    record { same = c.put_one.ensures.guest ∙ i.same; vacant = s.0; put = s.1 }
