-- What the checks say of a record that passes them.
use Rattle.std.proofs.Common.{◌≡◌, ℕ, ◌≤◌, Bool, true, false, cond, ◌&&◌, eqb, leb, Some, None, Ok, Err, Option, Result, sym, refl, arith}
use Rattle.std.proofs.lemmas.Bool.{leb-true, eqb-true}
use Rattle.loads.specs.declared.refusal.Refusal.{Refusal}
use Rattle.loads.specs.declared.refusal.Refusal.TheVariants.{NoChannel, BadLabel, OutOfOrder}
use Rattle.loads.specs.Making.{task_refusal}
use Rattle.plan.specs.Labels.{good_label}
use Rattle.plan.specs.Admissions.{Placed}
use Rattle.format.specs.declared.before.Before.{Before}
use Rattle.format.specs.declared.fault.RecordFault.{RecordFault}
use Rattle.format.specs.declared.fault.RecordFault.TheVariants.{Refused}
use Rattle.format.specs.Records.{Rec, task_rec, after, fault, out_of_range}
use Rattle.format.specs.Decode.{passed}
use Rattle.format.proofs.Front.{clash}

-- A record with a fault does not pass.
pub faulty : {A : Type 0} (e : RecordFault) → ◌≡◌ {A = Option RecordFault} (Some e) None → A
faulty e p = let z : ◌≡◌ {A = ℕ} 0 1 = cc in absurd (omega arith)

pub in_range : (at : ℕ) (o : Option Refusal) → out_of_range at o ≡ None → o ≡ None
in_range at None p = refl
in_range at (Some e) p = cc

-- A record that passes has no fault, and what has come before the next one is told by it.
pub passed_is : (b c : Before) (at : ℕ) (r : Rec) → Ok c ≡ passed b at r → (fault b at r ≡ None) × (c ≡ after b r)
passed_is b c at r e = go (fault b at r) e
  where
    go : (o : Option RecordFault) → ◌≡◌ {A = Result Before RecordFault} (Ok c) (elim o [ Some f ↦ Err f | None ↦ Ok (after b r) ]) → (o ≡ None) × (c ≡ after b r)
    go None q = (refl, cc)
    go (Some f) q = clash f c (sym q)

-- A task.
pub record Passes (b : Before) (t : Placed) : Type 0 where
  pub label : good_label t.content.label ≡ true
  pub rising : b.least ≤ t.channel
  pub channel : t.channel ≤ 63
  pub first : b.frames ≡ 0
  pub ranged : task_refusal t.content.params ≡ None

pub task_passes : (b : Before) (at : ℕ) (t : Placed) → fault b at (task_rec t) ≡ None → Passes b t
task_passes b at t p = go (good_label t.content.label) (leb t.channel 63) (leb b.least t.channel) (eqb b.frames 0) refl refl refl refl p
  where
    go : (x y z w : Bool) → good_label t.content.label ≡ x → leb t.channel 63 ≡ y → leb b.least t.channel ≡ z → eqb b.frames 0 ≡ w
        → cond x (cond y (cond (z && w) (out_of_range at (task_refusal t.content.params)) (Some (Refused OutOfOrder at))) (Some (Refused NoChannel at))) (Some (Refused BadLabel at)) ≡ None
        → Passes b t
    go false y z w e₀ e₁ e₂ e₃ q = faulty (Refused BadLabel at) q
    go true false z w e₀ e₁ e₂ e₃ q = faulty (Refused NoChannel at) q
    go true true false w e₀ e₁ e₂ e₃ q = faulty (Refused OutOfOrder at) q
    go true true true false e₀ e₁ e₂ e₃ q = faulty (Refused OutOfOrder at) q
    go true true true true e₀ e₁ e₂ e₃ q = record {
      label = e₀;
      rising = leb-true b.least t.channel e₂;
      channel = leb-true t.channel 63 e₁;
      first = eqb-true b.frames 0 e₃;
      ranged = in_range at (task_refusal t.content.params) q;
    }
