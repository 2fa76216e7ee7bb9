-- What rows of ticks say of the search and of the walk.
use Rattle.std.proofs.Common.{◌≡◌, ℕ, ◌+◌, ◌-◌, ◌^◌, ◌<◌, ◌≤◌, ◌≢◌, ◌⊎◌, min, List, get_or, ap, ◌∙◌, inl, inr, arith}
use Rattle.std.proofs.lemmas.Bool.{cases_lt, cases_eq}
use Rattle.theory.specs.Meaning.{Amounts, Rules, claim, answered}
use Rattle.theory.specs.Rows.{row}
use Rattle.theory.proofs.RowPlaces.{row_place, row_at}
use Rattle.judge.proofs.Questions.{answered_at, claim_nothing, claim_something}

-- Upwards from w: `ready` is not below tick u, and it has no fixed point from w on below u.
abbrev pub Open : Amounts → ℕ → ℕ → Type 0
Open m w u = (u ≤ 100000000) × (u ≤ m.ready u) × ((v : ℕ) → w ≤ v → v < u → m.ready v ≢ v)

pub open_more : (m : Amounts) → Rules m → (w i at : ℕ) (rs : List ℕ) → rs ≡ row m.ready w → i < 256 → at ≡ w + i
    → Open m w at → (get_or rs i 0 ≡ at → ⊥) → (at ≡ 100000000 → ⊥) → Open m w (at + 1)
open_more m l w i at rs e k p inv n d =
    let s : w + i ≡ at = omega arith in
    let r : get_or rs i 0 ≡ min (m.ready at) (2 ^ 40) =
    ap (λ xs. get_or xs i 0) e ∙ row_place m.ready w i 0 k ∙ ap (answered m.ready) s ∙ answered_at m.ready at inv.0 in
    let z : m.ready at ≡ at → ⊥ = λ f. n (omega (arith, r, inv.0)) in (
      omega (arith, inv.0),
      omega (arith, inv.1, l.ready_mono at (at + 1)),
      λ v b c f. elim (cases_lt v at) [
        | inl y ↦ inv.2 v b y f
        | inr y ↦ (let q : v ≡ at = omega arith in z (omega (arith, ap m.ready q)))
      ],
    )

-- Downwards from t: where nothing is due at tick v, or due and held are at most v together, the claim does not exceed v.
pub kept_at : (m : Amounts) → Rules m → (t from v : ℕ) (ds hs : List ℕ) → ds ≡ row m.due from → hs ≡ row m.held from
    → t < 100000000 → m.ready t ≤ 2 ^ 40 → from ≤ v → v ≤ t → v < from + 256
    → (get_or ds (v - from) 0 ≡ 0) ⊎ (get_or ds (v - from) 0 + get_or hs (v - from) 0 ≤ v) → claim m v ≤ v
kept_at m l t from v ds hs e b k c f g r o =
    let d = row_at m.due from v ds e f r in
    let h = row_at m.held from v hs b f r in
    let u : m.ready v ≤ 2 ^ 40 = omega (arith, l.ready_mono v t g) in
    elim (cases_eq (get_or ds (v - from) 0) 0) [
      | inl z ↦ (let q = claim_nothing m v (get_or ds (v - from) 0) (omega arith) d z in omega arith)
      | inr z ↦ (let q = claim_something m l v (get_or ds (v - from) 0) (get_or hs (v - from) 0) (omega arith) u d h z in omega (arith, o))
    ]
