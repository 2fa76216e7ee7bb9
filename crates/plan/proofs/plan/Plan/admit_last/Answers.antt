-- All but the last are put in, and the last is admitted.
use Rattle.std.proofs.Common.{◌-◌, sym, ◌∙◌, rules, length, arith}
use Rattle.std.proofs.lemmas.Result.{err_from_is_err_and}
use Rattle.loads.specs.Ranged.{slots_ranged}
use Rattle.std.proofs.lemmas.List.{get_or_default}
use Rattle.loads.specs.Channels.{content}
use Rattle.plan.specs.declared.call.Call.TheVariants.{Admit}
use Rattle.plan.specs.Ledger.{ledger, guest, admitted, next}
use Rattle.plan.proofs.AtOnce.{stopped_early, tried_all}
use Rattle.plan.proofs.plan.Plan.admit_last.Goals as goal

pub returns-in_err-put_in-clause-says : goal.returns-in_err-put_in-clause-says
returns-in_err-put_in-clause-says g c =
    let p = err_from_is_err_and c.from_residual.result c.from_residual.ensures.1 in
    rw (p.1, p.2) (stopped_early (g.G.Load.meaning (guest c.args.self.now)) (ledger c.args.self.now) (ledger c.put_in.new.self) c.args.entries.now (length c.args.entries.now - 1) c.in_err-put_in.field-0.0 c.in_err-put_in.ensures.says)

pub returns : goal.returns
returns g c =
    let same = c.put_in.ensures.guest in
    let es = c.args.entries.now in
    let last = length es - 1 in
    let e = c.index-entries-last.result in
    let is = sym c.index-entries-last.is in
    let is-2 = get_or_default es last c.index-entries-last-2.result e (omega (arith, c.requires.some)) ∙ is in
    record {
      says = tried_all (g.G.Load.meaning (guest c.args.self.now)) (g.met.G.Load.lawful (guest c.args.self.now)) (ledger c.args.self.now) (ledger c.put_in.new.self) (ledger c.admit.new.self)
          es last e (omega (arith, c.requires.some)) c.index-entries-last.is (slots_ranged c.args.self.now.loads.first.slots)
          c.in_ok-put_in.ensures.says c.admit.result
          (c.admit.ensures.says ∙ (λ i. admitted (g.G.Load.meaning (same i)) (ledger c.put_in.new.self) (is i).0 (content (is-2 i).1)))
          (c.admit.ensures.channels ∙ (λ i. next (g.G.Load.meaning (same i)) (ledger c.put_in.new.self) (Admit (is i).0 (is-2 i).1)))
          c.map_err.result (search rules);
      guest = c.admit.ensures.guest ∙ same;
    }
