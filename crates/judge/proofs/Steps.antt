-- Each step of the walk, by steps or by rows, and of the look keeps the verdict on what is left to look at, so both end with theirs.
use Rattle.std.proofs.Common.{◌≡◌, ℕ, suc, ◌+◌, ◌-◌, ◌^◌, ◌<◌, ◌≤◌, min, Bool, true, false, cond, ltb, Some, None, Ok, Err, Option, sym, refl, ap, ◌∙◌, subst, inl, inr, arith}
use Rattle.std.proofs.lemmas.Bool.{ltb-true, ltb-false, lt-ltb, le-ltb}
use Rattle.theory.specs.declared.verdict.Unfit.{Unfit}
use Rattle.theory.specs.declared.verdict.Unfit.TheVariants.{Late}
use Rattle.theory.specs.Meaning.{Amounts, Rules, claim, last_mark}
use Rattle.theory.specs.Verdict.{busy, step, look_below, found, walk, look}
use Rattle.theory.proofs.LastMark.{Last, last_says}
use Rattle.theory.proofs.BusyPeriod.{closed}
use Rattle.theory.proofs.Claims.{claim_mono}
use Rattle.theory.proofs.Look.{onward, no_claim, look_skip, look_last, look_late, look_jump, look_still, look_quiet}
use Rattle.theory.proofs.Walk.{Stands, walk_is_look}
use Rattle.theory.proofs.Verdicts.{look_at}
use Rattle.judge.specs.Steps.{stepped}

-- Where the walk stands: at no tick, or at one below the busy period that it may stand at.
abbrev pub Placed : Amounts → ℕ → Option ℕ → Type 0
Placed m w None = Unit {0}
Placed m w (Some t) = (t < w) × Stands m t

-- The walk goes on from `o`: it may stand there, and the look from there on finds what the whole look does.
abbrev pub Going : Amounts → ℕ → Option ℕ → Type 0
Going m w o = Placed m w o × (look_below m w ≡ onward m o)

-- How many ticks the walk has still below it, its own among them: the loop's measure.
abbrev pub left : Option ℕ → ℕ
left None = 0
left (Some t) = t + 1

left_last : (k : ℕ → Bool) (t n : ℕ) (o : Option ℕ) → n ≤ t → Last k n o → left o < t + 1
left_last k t n None h says = omega arith
left_last k t n (Some s) h says = omega arith

-- The two ways of a step that does not end the walk.
module _ (m : Amounts) (t c : ℕ) (e : c ≡ claim m t) where
  at_most : c ≤ t → Ok (step m t) ≡ stepped m t
  at_most h = let d : claim m t ≤ t = omega arith in sym (rw (le-ltb t (claim m t) d))

  pub step_down : c < t → Ok (Some c) ≡ stepped m t
  unfolding step
  step_down h =
      let n : claim m t < t = omega arith in
      let s : Some (claim m t) ≡ step m t = sym (rw (lt-ltb (claim m t) t n, step)) in
      ap (λ x. Ok (Some x)) e ∙ ap Ok s ∙ at_most (omega arith)

  pub step_last : (o : Option ℕ) → t ≤ 100000000 → c ≤ t → t ≤ c → o ≡ last_mark m.mark (min t 100000000) → Ok o ≡ stepped m t
  unfolding step
  step_last o s h k q =
      let n : t ≤ claim m t = omega arith in
      let i : min t 100000000 ≡ t = omega arith in
      let r : last_mark m.mark t ≡ step m t = sym (rw (le-ltb (claim m t) t n, step)) in
      ap Ok (q ∙ ap (last_mark m.mark) i) ∙ ap Ok r ∙ at_most h

-- The busy period closes at w: up to there no argument of a question and no answer is cut.
module _ (m : Amounts) (l : Rules m) (w : ℕ) (b : Some w ≡ busy m) where
  pub short : w ≤ 100000000
  short = (closed m l w (sym b)).within

  pub uncut : (t : ℕ) → t < w → m.ready t ≤ 2 ^ 40
  uncut t h = omega (arith, closed m l w (sym b), l.ready_mono t w (omega arith))

  -- the walk: each way to go on keeps `Going`, and where it ends its verdict is given

  placed_last : (t : ℕ) → t ≤ w → (o : Option ℕ) → Last m.mark t o → Placed m w o
  placed_last t h None says = tt
  placed_last t h (Some s) says = (omega arith, inl says.1)

  last_is : (t : ℕ) → t ≤ w → (o : Option ℕ) → o ≡ last_mark m.mark (min t 100000000) → o ≡ last_mark m.mark t
  last_is t h o e = e ∙ ap (last_mark m.mark) (let n : min t 100000000 ≡ t = omega (arith, short) in n)

  go_last : (t : ℕ) → t ≤ w → (o : Option ℕ) → o ≡ last_mark m.mark (min t 100000000) → look_below m w ≡ look_below m t → Going m w o
  go_last t h o e s =
      let q : o ≡ last_mark m.mark t = last_is t h o e in (
        placed_last t h o (subst (λ x. Last m.mark t x) (sym q) (last_says m.mark t)),
        s ∙ (look_last m t ∙ ap (onward m) (sym q)),
      )

  pub go_start : (o : Option ℕ) → o ≡ last_mark m.mark (min w 100000000) → Going m w o
  go_start o e = go_last w (omega arith) o e refl

  -- where the next step goes, and that it is lower
  abbrev pub Lower : ℕ → Option ℕ → Type 0
  Lower t o = Going m w o × (left o < left (Some t))

  go_lower : (t : ℕ) → Going m w (Some t) → claim m t ≤ t → (b : Bool) → ltb (claim m t) t ≡ b → Lower t (elim b [ true ↦ Some (claim m t) | false ↦ last_mark m.mark t ])
  go_lower t g h true y =
      let c : claim m t < t = ltb-true (claim m t) t y in (
        ((omega arith, inr (claim_mono m l (claim m t) t (omega arith))), g.1 ∙ look_jump m l t c),
        omega arith,
      )
  go_lower t g h false y = (
    go_last t (omega (arith, g.0.0)) (last_mark m.mark t) (let n : min t 100000000 ≡ t = omega (arith, short, g.0.0) in ap (last_mark m.mark) (sym n)) (g.1 ∙ look_still m t h),
    left_last m.mark t t (last_mark m.mark t) (omega arith) (last_says m.mark t),
  )

  pub go_step : (t : ℕ) → Going m w (Some t) → (o : Option ℕ) → Ok o ≡ stepped m t → Lower t o
  unfolding step
  go_step t g o e = go (ltb t (claim m t)) refl e
    where
      go : (b : Bool) → ltb t (claim m t) ≡ b → Ok o ≡ cond b (Err (Late (t, claim m t))) (Ok (step m t)) → Lower t o
      go true y q = absurd (cc q)
      go false y q =
          let s : o ≡ step m t = cc q in
          subst (λ x. Going m w x × (left x < left (Some t))) (sym s) (go_lower t g (ltb-false t (claim m t) y) (ltb (claim m t) t) refl)

  pub go_late : (t : ℕ) → Going m w (Some t) → (u : Unfit) → Err u ≡ stepped m t → Err u ≡ walk m
  go_late t g u e = go (ltb t (claim m t)) refl e
    where
      at : Stands m t → t < claim m t → Some (t, claim m t) ≡ look_below m w
      at (inl k) c = sym (g.1 ∙ look_late m t k c)
      at (inr a) c = absurd (omega arith)

      go : (b : Bool) → ltb t (claim m t) ≡ b → Err u ≡ cond b (Err (Late (t, claim m t))) (Ok (step m t)) → Err u ≡ walk m
      go true y q =
          let late : u ≡ Late (t, claim m t) = cc q in
          let f : Err (Late (t, claim m t)) ≡ walk m = ap (found w) (at g.0.1 (ltb-true t (claim m t) y)) ∙ (sym (look_at m w (sym b)) ∙ sym (walk_is_look m l)) in
          ap Err late ∙ f
      go false y q = absurd (cc q)

  -- after a row of ticks of which no claim exceeds one
  pub go_kept : (t k : ℕ) → Going m w (Some t) → k ≤ t + 1 → ((v : ℕ) → k ≤ v → v ≤ t → claim m v ≤ v) → (o : Option ℕ) → o ≡ last_mark m.mark (min k 100000000)
      → Going m w o × (left o ≤ left (Some t))
  go_kept t k g h kept o e =
      let s : look_below m (suc t) ≡ look_below m k = look_skip m k (suc t) (omega arith) (λ v a c. no_claim m v (kept v a (omega arith))) in
      let d : left o < t + 1 + 1 = left_last m.mark (t + 1) (min k 100000000) o (omega arith) (subst (λ x. Last m.mark (min k 100000000) x) (sym e) (last_says m.mark (min k 100000000))) in
      (go_last k (omega (arith, g.0.0)) o e (g.1 ∙ s), omega arith)

  pub go_none : Going m w None → Ok w ≡ walk m
  go_none g = ap (found w) (sym g.1) ∙ (sym (look_at m w (sym b)) ∙ sym (walk_is_look m l))

  -- the look

  pub look_over : (o : Option (ℕ × ℕ)) → o ≡ look_below m w → found w o ≡ look m
  look_over o e = ap (found w) e ∙ sym (look_at m w (sym b))

-- the look from above: where the ticks below t are still ahead, it stands at t - 1
module _ (m : Amounts) (t : ℕ) (o : Option (ℕ × ℕ)) (p : look_below m t ≡ o) where
  pub look_ended : t ≤ 0 → None ≡ o
  unfolding look_below
  look_ended h = let z : 0 ≡ t = omega arith in ap (look_below m) z ∙ p

  module _ (h : 0 < t) where
    before : look_below m (suc (t - 1)) ≡ o
    before = let e : suc (t - 1) ≡ t = omega arith in ap (look_below m) e ∙ p

    pub look_worse : (c : ℕ) → true ≡ m.mark (t - 1) → c ≡ claim m (t - 1) → t - 1 < c → Some (t - 1, c) ≡ o
    look_worse c k e g = ap (λ x. Some (t - 1, x)) e ∙ sym (look_late m (t - 1) (sym k) (omega arith)) ∙ before

    pub look_same : (c : ℕ) → c ≡ claim m (t - 1) → c ≤ t - 1 → look_below m (t - 1) ≡ o
    look_same c e g = sym (look_still m (t - 1) (omega arith)) ∙ before

    pub look_unmarked : false ≡ m.mark (t - 1) → look_below m (t - 1) ≡ o
    look_unmarked k = sym (look_quiet m (t - 1) (sym k)) ∙ before
