-- The tasks of an image that was read stand at its front, 37 bytes each, and keep the ranges.
use Rattle.std.proofs.Common.{◌≡◌, ℕ, zero, suc, ◌+◌, ◌*◌, ◌<◌, ◌≤◌, List, [], ◌∷◌, length, get_or, take, drop, Some, None, Ok, Err, Option, sym, refl, ap, ◌∙◌, subst, arith, length-drop}
use Rattle.std.proofs.lemmas.Bool.Decides.{nat_tests}
use Rattle.loads.specs.Params.{TaskParams, FrameParams, TaskRanges}
use Rattle.loads.specs.Making.{task_refusal}
use Rattle.plan.specs.Admissions.{Placed}
use Rattle.format.specs.declared.before.Before.{Before}
use Rattle.format.specs.declared.fault.RecordFault.TheVariants.{Image}
use Rattle.format.specs.declared.fault.ImageFault.TheVariants.{Trailing}
use Rattle.format.specs.Records.{Rec, task_rec, size, in_order, start, after, params_in, task_in}
use Rattle.format.specs.Decode.{part, decode, Piece, rec_in}
use Rattle.format.specs.Parts.{pieces_from, behind}
use Rattle.format.proofs.Front.{Read, clash, part_cases}
use Rattle.format.proofs.Items.{checks, decode_checks, items_from, onward, first_passes}
use Rattle.format.proofs.Passing.{Passes, task_passes}
use Rattle.format.proofs.Rising.{Lawful, decoded_lawful}

-- A task at the front is read from 37 bytes.
abbrev Front : List ℕ → Option Piece → Type 0
Front ys None = Unit {0}
Front ys (Some p) = (t : Placed) → task_rec t ≡ rec_in p → (37 ≤ length ys) × (size (rec_in p) ≡ 37) × (t ≡ task_in (take 37 ys))

front : (at : ℕ) (ys : List ℕ) (o : Option Piece) → part at ys ≡ Ok o → Front ys o
front at ys o p = part_cases at ys (Front ys) (λ l m t q. (l, refl, cc)) (λ l m t q. cc) (λ l m. tt) o p

none_behind : (b : Before) (at : ℕ) (ys : List ℕ) (r : Rec) (rs : List Rec) → checks b (behind at ys) ≡ Ok (r ∷ rs) → ⊥
none_behind b at [] r rs e = cc
none_behind b at (y ∷ ys) r rs e = clash (Image (Trailing at)) (r ∷ rs) e

-- The tasks among the records from `at` on stand there one after another.
abbrev Stand : List ℕ → ℕ → List Placed → Type 0
Stand xs at ts = (i n : ℕ) (d : Placed) → i < length ts → n ≡ at + 37 * i → (n + 37 ≤ length xs) × (get_or ts i d ≡ task_in (take 37 (drop n xs)))

one_more : (xs : List ℕ) (at : ℕ) (t : Placed) (ts : List Placed) → 37 ≤ length (drop at xs) → t ≡ task_in (take 37 (drop at xs)) → Stand xs (at + 37) ts → Stand xs at (t ∷ ts)
one_more xs at t ts l e s zero n d h q =
    let j : at ≡ n = omega arith in
    (omega (arith, length-drop at xs), e ∙ ap (λ (k : ℕ). task_in (take 37 (drop k xs))) j)
one_more xs at t ts l e s (suc i) n d h q = s i n d (omega arith) (omega arith)

stand : (xs : List ℕ) (b : Before) (at : ℕ) (ts : List Placed) (fs : List FrameParams) → checks b (pieces_from xs (Some at)) ≡ Ok (in_order ts fs) → Stand xs at ts
stand xs b at [] fs e i n d h q = absurd (omega arith)
stand xs b at (t ∷ ts) fs e i n d h q = go (part at (drop at xs)) refl (ap (checks b) (sym (items_from xs at)) ∙ e) (λ c k. stand xs c k ts fs) i n d h q
  where
    go : (x : Read) → part at (drop at xs) ≡ x → checks b (onward xs at x) ≡ Ok (in_order (t ∷ ts) fs)
        → ((c : Before) (k : ℕ) → checks c (pieces_from xs (Some k)) ≡ Ok (in_order ts fs) → Stand xs k ts) → Stand xs at (t ∷ ts)
    go (Err f) q k ih = clash (Image f) (in_order (t ∷ ts) fs) k
    go (Ok None) q k ih = absurd (none_behind b (at + 2) (drop 2 (drop at xs)) (task_rec t) (in_order ts fs) k)
    go (Ok (Some p)) q k ih =
        let m = first_passes b p (pieces_from xs (Some (at + size (rec_in p)))) (in_order (t ∷ ts) fs) k in
        let w = front at (drop at xs) (Some p) q t (cc m.is_first) in
        let good : checks (after b (rec_in p)) (pieces_from xs (Some (at + size (rec_in p)))) ≡ Ok (in_order ts fs) = cc in
        one_more xs at t ts w.0 w.2 (subst (λ (n : ℕ). Stand xs (at + n) ts) w.1 (ih (after b (rec_in p)) (at + size (rec_in p)) good))

-- What is not refused is in range.
in_ranges : (p : TaskParams) → task_refusal p ≡ None → TaskRanges p
in_ranges p e = grind (arith, nat_tests)

-- Each task passes after those before it, and there are no more than channels.
passes : (b : Before) (ts : List Placed) (fs : List FrameParams) → Lawful b (in_order ts fs) → (i : ℕ) (d : Placed) → i < length ts → (c : Before) × Passes c (get_or ts i d)
passes b [] fs l i d h = absurd (omega arith)
passes b (t ∷ ts) fs l zero d h = (b, task_passes b l.0.0 t l.0.1)
passes b (t ∷ ts) fs l (suc i) d h = passes (after b (task_rec t)) ts fs l.1 i d (omega arith)

few : (b : Before) (ts : List Placed) (fs : List FrameParams) → b.least ≤ 64 → Lawful b (in_order ts fs) → b.least + length ts ≤ 64
few b [] fs m l = omega arith
few b (t ∷ ts) fs m l =
    let w = task_passes b l.0.0 t l.0.1 in
    omega (arith, w.rising, few (after b (task_rec t)) ts fs (omega (arith, w.channel)) l.1)

module _ (xs : List ℕ) (ts : List Placed) (fs : List FrameParams) (e : decode xs ≡ Ok (in_order ts fs)) where
  pub tasks_at : (i : ℕ) (d : Placed) → i < length ts → (37 * i + 37 ≤ length xs) × (get_or ts i d ≡ task_in (take 37 (drop (37 * i) xs)))
  tasks_at i d h = stand xs start 0 ts fs (sym (decode_checks xs) ∙ e) i (37 * i) d h (omega arith)

  passing : (i : ℕ) (d : Placed) → i < length ts → (c : Before) × Passes c (get_or ts i d)
  passing i d h = passes start ts fs (decoded_lawful xs (in_order ts fs) e) i d h

  pub ranges_at : (i : ℕ) (d : Placed) → i < length ts → TaskRanges (params_in (take 37 (drop (37 * i) xs)))
  ranges_at i d h = subst (λ (t : Placed). TaskRanges t.content.params) (tasks_at i d h).1 (in_ranges (get_or ts i d).content.params (passing i d h).1.ranged)

  pub tasks_few : length ts ≤ 64
  tasks_few = omega (arith, few start ts fs (omega arith) (decoded_lawful xs (in_order ts fs) e))
