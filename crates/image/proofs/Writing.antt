-- What is written part by part is written at once.
use Rattle.std.proofs.Common.{◌≡◌, ℕ, List, ◌++◌, length, refl, ◌∙◌, subst, arith, length-append}
use Rattle.format.specs.Writes.{placed}
use Rattle.format.proofs.Places.{placed_more}
use Rattle.image.specs.declared.write.Writer.{Writer}
use Rattle.image.specs.Writer.{Wrote}

-- One writing after another.
pub wrote_then : {a b c : Writer} {xs ys : List ℕ} → Wrote a xs b → Wrote b ys c → Wrote a (xs ++ ys) c
wrote_then {a} {b} {c} {xs} {ys} p q = record {
  at = omega (arith, p.at, q.at, length-append xs ys);
  bytes = q.bytes ∙ (λ i. placed (p.bytes i) (p.at i) ys) ∙ placed_more a.out.now a.at (length xs) xs ys refl (omega (arith, p.at, p.same_length, p.room));
  same_length = q.same_length ∙ p.same_length;
  room = q.room;
}

-- What was written, told as other bytes that are the same.
pub wrote_as : {a b : Writer} {xs ys : List ℕ} → Wrote a xs b → xs ≡ ys → Wrote a ys b
wrote_as {a} {b} p e = subst (λ (zs : List ℕ). Wrote a zs b) e p
