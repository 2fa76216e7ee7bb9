-- One record reads back from its bytes, and what was read writes the same bytes back.
use Rattle.std.proofs.Common.{◌≡◌, ℕ, ◌+◌, ◌^◌, ◌<◌, ◌≤◌, List, [], ◌∷◌, ◌++◌, length, take, drop, sym, refl, ap, ◌∙◌, ap₂, append_assoc, arith, length-append}
use Rattle.std.proofs.lemmas.List.{take-append-drop, drop-drop, drop_at, take_at, drop-take, take-take, append-nil}
use Rattle.plan.specs.Admissions.{Placed}
use Rattle.format.specs.Bytes.{bytes, value, Bytes}
use Rattle.loads.specs.Params.{FrameParams}
use Rattle.format.specs.Records.{field, Rec, task_rec, frame_rec, task_bytes, frame_bytes, rec_bytes, size, task_in, frame_in}
use Rattle.format.proofs.BigEndian.{value_bytes, bytes_field}

chunk : (w i : ℕ) (xs : List ℕ) → take w (drop i xs) ++ drop (i + w) xs ≡ drop i xs
chunk w i xs = ap (λ (ys : List ℕ). take w (drop i xs) ++ ys) (sym (drop-drop w i xs)) ∙ take-append-drop w (drop i xs)

step : (i w : ℕ) (xs ys zs : List ℕ) → ys ≡ take w (drop i xs) → zs ≡ drop (i + w) xs → ys ++ zs ≡ drop i xs
step i w xs ys zs p q = ap₂ ◌++◌ p q ∙ chunk w i xs

-- A record that was read writes the bytes that it was read from.
pub task_written : (xs : List ℕ) → Bytes xs → 37 ≤ length xs → task_bytes (task_in xs) ++ drop 37 xs ≡ 0x54 ∷ 0x4B ∷ drop 2 xs
task_written xs h l =
    let f : (i w : ℕ) → i + w ≤ 37 → bytes w (field i w xs) ≡ take w (drop i xs) = λ i w k. bytes_field i w xs h (omega arith) in
    let s₇ = step 35 2 xs (bytes 2 (field 35 2 xs)) (drop 37 xs) (f 35 2 (omega arith)) refl in
    let s₆ = step 31 4 xs (bytes 4 (field 31 4 xs)) _ (f 31 4 (omega arith)) s₇ in
    let s₅ = step 27 4 xs (bytes 4 (field 27 4 xs)) _ (f 27 4 (omega arith)) s₆ in
    let s₄ = step 23 4 xs (bytes 4 (field 23 4 xs)) _ (f 23 4 (omega arith)) s₅ in
    let s₃ = step 19 4 xs (bytes 4 (field 19 4 xs)) _ (f 19 4 (omega arith)) s₄ in
    let s₂ = step 18 1 xs (bytes 1 (field 18 1 xs)) _ (f 18 1 (omega arith)) s₃ in
    ap (λ (ys : List ℕ). 0x54 ∷ 0x4B ∷ ys) (append_assoc (take 16 (drop 2 xs)) _ _ ∙ step 2 16 xs (take 16 (drop 2 xs)) _ refl s₂)

pub frame_written : (xs : List ℕ) → Bytes xs → 14 ≤ length xs → frame_bytes (frame_in xs) ++ drop 14 xs ≡ 0x52 ∷ 0x46 ∷ drop 2 xs
frame_written xs h l =
    let f : (i w : ℕ) → i + w ≤ 14 → bytes w (field i w xs) ≡ take w (drop i xs) = λ i w k. bytes_field i w xs h (omega arith) in
    let s₃ = step 10 4 xs (bytes 4 (field 10 4 xs)) (drop 14 xs) (f 10 4 (omega arith)) refl in
    let s₂ = step 6 4 xs (bytes 4 (field 6 4 xs)) _ (f 6 4 (omega arith)) s₃ in
    ap (λ (ys : List ℕ). 0x52 ∷ 0x46 ∷ ys) (step 2 4 xs (bytes 4 (field 2 4 xs)) _ (f 2 4 (omega arith)) s₂)

-- The numbers of a record fit their bytes.
pub record TaskFits (t : Placed) : Type 0 where
  pub label : length t.content.label ≡ 16
  pub channel : t.channel < 256 ^ 1
  pub cost : t.content.params.cost < 256 ^ 4
  pub period : t.content.params.period < 256 ^ 4
  pub deadline : t.content.params.deadline < 256 ^ 4
  pub jitter : t.content.params.jitter < 256 ^ 4
  pub section : t.content.params.section < 256 ^ 2

pub record FrameFits (f : FrameParams) : Type 0 where
  pub cost : f.cost < 256 ^ 4
  pub deadline : f.deadline < 256 ^ 4
  pub gap : f.gap < 256 ^ 4

abbrev pub Fits : Rec → Type 0
Fits (task_rec t) = TaskFits t
Fits (frame_rec f) = FrameFits f

-- Dropping the first list and `k` bytes more drops `k` bytes of the second.
past : (n k : ℕ) (xs ys : List ℕ) → length xs ≡ n → drop (n + k) (xs ++ ys) ≡ drop k ys
past n k xs ys e = sym (drop-drop k n (xs ++ ys)) ∙ ap (drop k) (drop_at xs ys n e)

same_task : (s t : Placed) → s.content.label ≡ t.content.label → s.channel ≡ t.channel → s.content.params.cost ≡ t.content.params.cost → s.content.params.period ≡ t.content.params.period
    → s.content.params.deadline ≡ t.content.params.deadline → s.content.params.jitter ≡ t.content.params.jitter → s.content.params.section ≡ t.content.params.section → s ≡ t
same_task s t a b c d e f g = λ i. record { channel = b i; content = record { label = a i; params = record { cost = c i; period = d i; deadline = e i; jitter = f i; section = g i } } }

same_frame : (s t : FrameParams) → s.cost ≡ t.cost → s.deadline ≡ t.deadline → s.gap ≡ t.gap → s ≡ t
same_frame s t a b c = λ i. record { cost = a i; deadline = b i; gap = c i }

-- A record is read back from its bytes.
pub task_back : (t : Placed) (xs : List ℕ) → TaskFits t → task_in (task_bytes t ++ xs) ≡ t
task_back t xs h =
    let numbers : List ℕ = bytes 1 t.channel ++ (bytes 4 t.content.params.cost ++ (bytes 4 t.content.params.period ++ (bytes 4 t.content.params.deadline ++ (bytes 4 t.content.params.jitter ++ bytes 2 t.content.params.section)))) in
    let all : List ℕ = numbers ++ xs in
    let a : (t.content.label ++ numbers) ++ xs ≡ t.content.label ++ all = append_assoc t.content.label numbers xs in
    let p : (k : ℕ) → drop (16 + k) ((t.content.label ++ numbers) ++ xs) ≡ drop k all = λ k. ap (drop (16 + k)) a ∙ past 16 k t.content.label all h.label in
    same_task (task_in (task_bytes t ++ xs)) t
    (ap (take 16) a ∙ take_at t.content.label all 16 h.label)
    (ap (λ (ys : List ℕ). value (take 1 ys)) (p 0) ∙ value_bytes 1 t.channel h.channel)
    (ap (λ (ys : List ℕ). value (take 4 ys)) (p 1) ∙ value_bytes 4 t.content.params.cost h.cost)
    (ap (λ (ys : List ℕ). value (take 4 ys)) (p 5) ∙ value_bytes 4 t.content.params.period h.period)
    (ap (λ (ys : List ℕ). value (take 4 ys)) (p 9) ∙ value_bytes 4 t.content.params.deadline h.deadline)
    (ap (λ (ys : List ℕ). value (take 4 ys)) (p 13) ∙ value_bytes 4 t.content.params.jitter h.jitter)
    (ap (λ (ys : List ℕ). value (take 2 ys)) (p 17) ∙ value_bytes 2 t.content.params.section h.section)

pub frame_back : (f : FrameParams) (xs : List ℕ) → FrameFits f → frame_in (frame_bytes f ++ xs) ≡ f
frame_back f xs h = same_frame (frame_in (frame_bytes f ++ xs)) f (value_bytes 4 f.cost h.cost) (value_bytes 4 f.deadline h.deadline) (value_bytes 4 f.gap h.gap)

pub length_rec : (r : Rec) → Fits r → length (rec_bytes r) ≡ size r
length_rec (task_rec t) h = simp length-append (omega (arith, h.label))
length_rec (frame_rec f) h = refl

-- A record is read from its own bytes alone.
inside : (i m w : ℕ) (xs : List ℕ) → w ≤ m → take w (drop i (take (i + m) xs)) ≡ take w (drop i xs)
inside i m w xs h = ap (take w) (drop-take i m xs) ∙ take-take w m (drop i xs) h

pub task_in_take : (xs : List ℕ) → task_in (take 37 xs) ≡ task_in xs
task_in_take xs =
    same_task (task_in (take 37 xs)) (task_in xs) (inside 2 35 16 xs (omega arith)) (ap value (inside 18 19 1 xs (omega arith)))
    (ap value (inside 19 18 4 xs (omega arith))) (ap value (inside 23 14 4 xs (omega arith))) (ap value (inside 27 10 4 xs (omega arith)))
    (ap value (inside 31 6 4 xs (omega arith))) (ap value (inside 35 2 2 xs (omega arith)))

pub frame_in_take : (xs : List ℕ) → frame_in (take 14 xs) ≡ frame_in xs
frame_in_take xs =
    same_frame (frame_in (take 14 xs)) (frame_in xs) (ap value (inside 2 12 4 xs (omega arith))) (ap value (inside 6 8 4 xs (omega arith))) (ap value (inside 10 4 4 xs (omega arith)))

pub task_own : (t : Placed) → TaskFits t → task_in (task_bytes t) ≡ t
task_own t h = ap task_in (sym (append-nil (task_bytes t))) ∙ task_back t [] h
