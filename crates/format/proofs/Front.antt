-- The part at the front of an image: the bytes of a record give that record, and what is read stands there.
use Rattle.std.proofs.Common.{◌≡◌, ℕ, suc, ◌+◌, ◌≤◌, Bool, true, false, cond, eqb, leb, List, [], ◌∷◌, ◌++◌, length, take, drop, Some, None, Ok, Err, Option, Result, sym, refl, ap, ◌∙◌, subst, ap₂, arith, length-append}
use Rattle.std.proofs.lemmas.List.{take_at}
use Rattle.std.proofs.lemmas.Bool.{le-leb, leb-true, and_parts, eqb-true, cond-true}
use Rattle.plan.specs.Admissions.{Placed}
use Rattle.format.specs.declared.fault.ImageFault.{ImageFault}
use Rattle.format.specs.declared.fault.ImageFault.TheVariants.{UnknownMark, Cut}
use Rattle.format.specs.declared.fault.RecordFault.{RecordFault}
use Rattle.format.specs.declared.fault.RecordFault.TheVariants.{Image}
use Rattle.format.specs.declared.before.Before.{Before}
use Rattle.format.specs.Bytes.{Bytes}
use Rattle.loads.specs.Params.{FrameParams}
use Rattle.format.specs.Records.{Rec, task_rec, frame_rec, rec_bytes, task_bytes, frame_bytes, size}
use Rattle.format.specs.Decode.{marked, whole, part, ended, with_rest, passed, records, Piece, task_piece, frame_piece, rec_in}
use Rattle.format.proofs.RecordBytes.{task_written, frame_written, frame_back, TaskFits, FrameFits, Fits, length_rec, task_own, task_in_take, frame_in_take}

-- What reading the part at the front answers.
abbrev pub Read : Type 0
Read = Result (Option Piece) ImageFault

-- What reading all records answers.
abbrev pub AllRead : Type 0
AllRead = Result (List Rec) RecordFault

-- No result is both a fault and a value.
pub clash : {X E A : Type 0} (e : E) (x : X) → ◌≡◌ {A = Result X E} (Err e) (Ok x) → A
clash e x p = let z : ◌≡◌ {A = ℕ} 0 1 = cc in absurd (omega arith)

-- The part of the image that a record is.
abbrev pub piece_of : ℕ → Rec → Piece
piece_of at (task_rec t) = task_piece (task_bytes t) at
piece_of at (frame_rec f) = frame_piece (frame_bytes f) at

pub rec_of_piece : (at : ℕ) (r : Rec) → Fits r → rec_in (piece_of at r) ≡ r
rec_of_piece at (task_rec t) h = ap task_rec (task_own t h)
rec_of_piece at (frame_rec f) h = ap frame_rec (frame_back f [] h)

part_task : (at : ℕ) (t : Placed) (xs : List ℕ) → TaskFits t → part at (task_bytes t ++ xs) ≡ Ok (Some (task_piece (task_bytes t) at))
unfolding part
part_task at t xs h =
    let ys : List ℕ = task_bytes t ++ xs in
    let l : length ys ≡ 37 + length xs = length-append (task_bytes t) xs ∙ ap (λ (n : ℕ). n + length xs) (length_rec (task_rec t) h) in
    let good : Read = Ok (Some (task_piece (take 37 ys) at)) in
    cond-true {A = Read} (leb 2 (length ys)) (whole at ys 37 (task_piece (take 37 ys) at)) (Err (Cut at)) (le-leb 2 (length ys) (omega arith))
    ∙ cond-true {A = Read} (leb 37 (length ys)) good (Err (Cut at)) (le-leb 37 (length ys) (omega arith))
    ∙ ap (λ (zs : List ℕ). let a : Read = Ok (Some (task_piece zs at)) in a) (take_at (task_bytes t) xs 37 (length_rec (task_rec t) h))

part_frame : (at : ℕ) (f : FrameParams) (xs : List ℕ) → FrameFits f → part at (frame_bytes f ++ xs) ≡ Ok (Some (frame_piece (frame_bytes f) at))
unfolding part
part_frame at f xs h =
    let ys : List ℕ = frame_bytes f ++ xs in
    let l : length ys ≡ 14 + length xs = length-append (frame_bytes f) xs in
    let good : Read = Ok (Some (frame_piece (take 14 ys) at)) in
    cond-true {A = Read} (leb 2 (length ys)) (whole at ys 14 (frame_piece (take 14 ys) at)) (Err (Cut at)) (le-leb 2 (length ys) (omega arith))
    ∙ cond-true {A = Read} (leb 14 (length ys)) good (Err (Cut at)) (le-leb 14 (length ys) (omega arith))
    ∙ ap (λ (zs : List ℕ). let a : Read = Ok (Some (frame_piece zs at)) in a) (take_at (frame_bytes f) xs 14 refl)

pub part_rec : (at : ℕ) (r : Rec) (xs : List ℕ) → Fits r → part at (rec_bytes r ++ xs) ≡ Ok (Some (piece_of at r))
part_rec at (task_rec t) xs h = part_task at t xs h
part_rec at (frame_rec f) xs h = part_frame at f xs h

-- Bytes that pass the test of a mark begin with it.
mark_stands : (a b : ℕ) (xs : List ℕ) → leb 2 (length xs) ≡ true → marked a b xs ≡ true → a ∷ b ∷ drop 2 xs ≡ xs
mark_stands a b [] l m = let k = leb-true 2 0 l in absurd (omega arith)
mark_stands a b (x ∷ []) l m = let k = leb-true 2 1 l in absurd (omega arith)
mark_stands a b (x ∷ y ∷ xs) l m =
    let p = and_parts (eqb x a) (eqb y b) m in
    ap₂ (λ (u v : ℕ). u ∷ v ∷ xs) (sym (eqb-true x a p.0)) (sym (eqb-true y b p.1))

-- What was read at the front stands there: its bytes and those after it are the bytes `xs`.
abbrev pub Stands : List ℕ → Option Piece → Type 0
Stands xs None = 0x45 ∷ 0x4E ∷ drop 2 xs ≡ xs
Stands xs (Some p) = rec_bytes (rec_in p) ++ drop (size (rec_in p)) xs ≡ xs

moved : (P : Option Piece → Type 0) (o q : Option Piece) → ◌≡◌ {A = Read} (Ok q) (Ok o) → P q → P o
moved P o q p h = let e : q ≡ o = cc in subst P e h

-- What holds of a task, a frame and an end mark at the front holds of whatever was read there.
pub part_cases : (at : ℕ) (xs : List ℕ) (P : Option Piece → Type 0)
    → (37 ≤ length xs → 0x54 ∷ 0x4B ∷ drop 2 xs ≡ xs → P (Some (task_piece (take 37 xs) at)))
    → (14 ≤ length xs → 0x52 ∷ 0x46 ∷ drop 2 xs ≡ xs → P (Some (frame_piece (take 14 xs) at)))
    → (2 ≤ length xs → 0x45 ∷ 0x4E ∷ drop 2 xs ≡ xs → P None)
    → (o : Option Piece) → part at xs ≡ Ok o → P o
unfolding part
part_cases at xs P pt pf pn o p = go (leb 2 (length xs)) (marked 0x54 0x4B xs) (leb 37 (length xs)) (marked 0x52 0x46 xs) (leb 14 (length xs)) (marked 0x45 0x4E xs) refl refl refl refl refl refl p
  where
    go : (b₁ b₂ b₃ b₄ b₅ b₆ : Bool) → leb 2 (length xs) ≡ b₁ → marked 0x54 0x4B xs ≡ b₂ → leb 37 (length xs) ≡ b₃ → marked 0x52 0x46 xs ≡ b₄
        → leb 14 (length xs) ≡ b₅ → marked 0x45 0x4E xs ≡ b₆
        → ◌≡◌ {A = Read} (cond b₁ (cond b₂ (cond b₃ (Ok (Some (task_piece (take 37 xs) at))) (Err (Cut at))) (cond b₄ (cond b₅ (Ok (Some (frame_piece (take 14 xs) at))) (Err (Cut at))) (cond b₆ (Ok None) (Err (UnknownMark at))))) (Err (Cut at))) (Ok o)
        → P o
    go false b₂ b₃ b₄ b₅ b₆ e₁ e₂ e₃ e₄ e₅ e₆ k = clash (Cut at) o k
    go true true false b₄ b₅ b₆ e₁ e₂ e₃ e₄ e₅ e₆ k = clash (Cut at) o k
    go true true true b₄ b₅ b₆ e₁ e₂ e₃ e₄ e₅ e₆ k = moved P o (Some (task_piece (take 37 xs) at)) k (pt (leb-true 37 (length xs) e₃) (mark_stands 0x54 0x4B xs e₁ e₂))
    go true false b₃ true false b₆ e₁ e₂ e₃ e₄ e₅ e₆ k = clash (Cut at) o k
    go true false b₃ true true b₆ e₁ e₂ e₃ e₄ e₅ e₆ k = moved P o (Some (frame_piece (take 14 xs) at)) k (pf (leb-true 14 (length xs) e₅) (mark_stands 0x52 0x46 xs e₁ e₄))
    go true false b₃ false b₅ true e₁ e₂ e₃ e₄ e₅ e₆ k = moved P o None k (pn (leb-true 2 (length xs) e₁) (mark_stands 0x45 0x4E xs e₁ e₆))
    go true false b₃ false b₅ false e₁ e₂ e₃ e₄ e₅ e₆ k = clash (UnknownMark at) o k

pub part_stands : (at : ℕ) (xs : List ℕ) (o : Option Piece) → Bytes xs → part at xs ≡ Ok o → Stands xs o
part_stands at xs o h p =
    part_cases at xs (Stands xs)
    (λ l m. ap (λ (t : Placed). task_bytes t ++ drop 37 xs) (task_in_take xs) ∙ task_written xs h l ∙ m)
    (λ l m. ap (λ (f : FrameParams). frame_bytes f ++ drop 14 xs) (frame_in_take xs) ∙ frame_written xs h l ∙ m)
    (λ l m. m)
    o p

-- The reading from a record on, by what its checks answer.
abbrev pub checked : ℕ → ℕ → List ℕ → Rec → Result Before RecordFault → AllRead
checked n at xs r x = elim x [ Err e ↦ Err e | Ok c ↦ with_rest r (records n c (at + size r) (drop (size r) xs)) ]

-- One step of the reading, by what stands at the front.
abbrev pub next : ℕ → Before → ℕ → List ℕ → Read → AllRead
next n b at xs x = elim x [ Err e ↦ Err (Image e) | Ok o ↦ elim o [ None ↦ ended (at + 2) (drop 2 xs) | Some p ↦ checked n at xs (rec_in p) (passed b at (rec_in p)) ] ]

pub records_next : (n : ℕ) (b : Before) (at : ℕ) (xs : List ℕ) → records (suc n) b at xs ≡ next n b at xs (part at xs)
unfolding records
records_next n b at xs = refl
