-- The iterator over the channels counts the filled ones, of 37 bytes each.
use Rattle.std.proofs.Common.{◌≡◌, ap, refl, Ok, Err, Result, length, arith, rules, tests}
use Rattle.std.specs.List.{filter, range_with_len}
use Rattle.std.specs.Result.{is_ok}
use Rattle.std.proofs.lemmas.Iterator.{YieldsList-from_range}
use Rattle.std.proofs.lemmas.Iterator.Consumers.{YieldsList-from_filter, count_from_yields_List}
use Rattle.loads.specs.declared.entry.Entry.{Entry}
use Rattle.loads.specs.declared.refusal.Refusal.{Refusal}
use Rattle.loads.specs.Channels.{Content}
use Rattle.plan.specs.Ledger.{read_entry}
use Rattle.format.proofs.WriteTurns.{is_filled, few_filled, counted_all}
use Rattle.image.proofs.write.tasks_len.Given as given
use Rattle.image.proofs.write.tasks_len.Goals as goal
use Rattle.image.proofs.write.tasks_len.Goals.{After-count-filled}

-- An entry that is read is a value exactly where the reading by plain numbers is.
is_ok_read : (r : Result Entry Refusal) (x : Result Content Refusal) → read_entry r ≡ x → is_ok r ≡ is_ok x
is_ok_read (Ok e) x p = ap is_ok p
is_ok_read (Err e) x p = ap is_ok p

counted : (g : given.Over) (c : After-count-filled g) → c.count-filled.result ≡ length (filter (is_filled c.args.plan.now.loads.first) (range_with_len 0 64))
counted g c =
    count_from_yields_List c.filter.result c.count-filled.result c.count-filled.ensures.ran
    (YieldsList-from_filter _ (is_filled c.args.plan.now.loads.first) (YieldsList-from_range 0 64 64 (cc) refl) c.filter.ensures.closure (λ x b q k. search (rules, tests, is_ok_read)))

pub overflow_mul-result : goal.overflow_mul-result
overflow_mul-result g c = omega (arith, counted g (goal.at.overflow_mul-result g c).After-count-filled, few_filled c.args.plan.now.loads.first)

pub returns : goal.returns
returns g c =
    let e = counted g (goal.at.returns g c).After-count-filled in
    record { value = omega (arith, e, counted_all c.args.plan.now.loads.first); bound = omega (arith, e, few_filled c.args.plan.now.loads.first) }
