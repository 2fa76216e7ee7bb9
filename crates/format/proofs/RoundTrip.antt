-- The whole image: what is written reads back, and what is read writes back.
use Rattle.std.proofs.Common.{◌≡◌, ℕ, zero, suc, ◌+◌, ◌<◌, ◌≤◌, true, List, [], ◌∷◌, ◌++◌, map, length, drop, Some, None, Ok, Err, Option, Result, sym, refl, ap, ◌∙◌, append_assoc, arith, length-append}
use Rattle.std.specs.List.{flat_map}
use Rattle.std.proofs.ByRecursion.{All-drop}
use Rattle.std.proofs.lemmas.List.{drop_at}
use Rattle.std.proofs.lemmas.Bool.Decides.{nat_tests}
use Rattle.theory.specs.Jobs.{All}
use Rattle.loads.specs.Params.{FrameParams, TaskRanges, FrameRanges}
use Rattle.loads.specs.Channels.{Content, Channels}
use Rattle.plan.specs.Labels.{good_label}
use Rattle.format.specs.declared.fault.RecordFault.{RecordFault}
use Rattle.format.specs.declared.fault.RecordFault.TheVariants.{Image}
use Rattle.format.specs.declared.fault.ImageFault.TheVariants.{Cut, Trailing}
use Rattle.format.specs.declared.before.Before.{Before}
use Rattle.format.specs.Bytes.{Bytes}
use Rattle.format.specs.Records.{Rec, task_rec, frame_rec, rec_bytes, size, start, after, fault}
use Rattle.format.specs.Decode.{part, ended, with_rest, passed, records, decode, Piece, rec_in}
use Rattle.format.specs.Encode.{image, placed_in, tasks, contents, encode}
use Rattle.format.specs.Statements.{Writable}
use Rattle.format.proofs.RecordBytes.{Fits, length_rec}
use Rattle.format.proofs.Front.{Read, AllRead, clash, Stands, rec_of_piece, part_rec, part_stands, checked, next, records_next}

-- Reading back: records that fit their bytes and pass their checks one after another.
abbrev Readable : Before → List Rec → Type 0
Readable b [] = Unit {0}
Readable b (r ∷ rs) = Fits r × ((at : ℕ) → fault b at r ≡ None) × Readable (after b r) rs

image_more : (r : Rec) (rs : List Rec) → image (r ∷ rs) ≡ rec_bytes r ++ image rs
image_more r rs = append_assoc (rec_bytes r) (flat_map rec_bytes rs) (0x45 ∷ 0x4E ∷ [])

part_end : (at : ℕ) → part at (image []) ≡ Ok None
unfolding part
part_end at = refl

reads : (n : ℕ) (b : Before) (at : ℕ) (rs : List Rec) → Readable b rs → length rs < n → records n b at (image rs) ≡ Ok rs
reads zero b at rs g l = absurd (omega arith)
reads (suc n) b at [] g l = records_next n b at (image []) ∙ ap (next n b at (image [])) (part_end at)
reads (suc n) b at (r ∷ rs) g l =
    let xs : List ℕ = image rs in
    ap (λ (ys : List ℕ). records (suc n) b at ys) (image_more r rs)
    ∙ records_next n b at (rec_bytes r ++ xs)
    ∙ ap (next n b at (rec_bytes r ++ xs)) (part_rec at r xs g.0)
    ∙ ap (λ (q : Rec). checked n at (rec_bytes r ++ xs) q (passed b at q)) (rec_of_piece at r g.0)
    ∙ ap (λ (o : Option RecordFault). checked n at (rec_bytes r ++ xs) r (elim o [ Some e ↦ Err e | None ↦ Ok (after b r) ])) (g.1 at)
    ∙ ap (λ (ys : List ℕ). with_rest r (records n (after b r) (at + size r) ys)) (drop_at (rec_bytes r) xs (size r) (length_rec r g.0))
    ∙ ap (with_rest r) (reads n (after b r) (at + size r) rs g.2 (omega arith))

some_bytes : (r : Rec) → 0 < length (rec_bytes r)
some_bytes (task_rec t) = omega arith
some_bytes (frame_rec f) = omega arith

-- As many turns as bytes are enough.
image_longer : (rs : List Rec) → length rs < length (image rs)
image_longer [] = omega arith
image_longer (r ∷ rs) =
    let k = image_longer rs in
    let p : length (image (r ∷ rs)) ≡ length (rec_bytes r) + length (image rs) = ap length (image_more r rs) ∙ length-append (rec_bytes r) (image rs) in
    let q = some_bytes r in
    omega arith

no_task_fault : (b : Before) (c : ℕ) (k : Content) (at : ℕ) → b.least ≤ c → b.frames ≡ 0 → c < 64 → good_label k.label ≡ true → TaskRanges k.params → fault b at (task_rec (placed_in c k)) ≡ None
no_task_fault b c k at h z m q r = grind (arith, nat_tests)

no_frame_fault : (b : Before) (f : FrameParams) (at : ℕ) → b.frames < 16 → FrameRanges f → fault b at (frame_rec f) ≡ None
no_frame_fault b f at h r = grind (arith, nat_tests)

readable_frames : (b : Before) (fs : List FrameParams) → All FrameRanges fs → b.frames + length fs ≤ 16 → Readable b (map frame_rec fs)
readable_frames b [] r h = tt
readable_frames b (f ∷ fs) r h =
    let q = r.0 in
    (record { cost = omega arith; deadline = omega arith; gap = omega arith }, (λ at. no_frame_fault b f at (omega arith) q), readable_frames (after b (frame_rec f)) fs r.1 (omega arith))

readable_tasks : (b : Before) (c : ℕ) (l : Channels) (rest : List Rec) → b.least ≤ c → b.frames ≡ 0 → c + length l ≤ 64 → Writable l
    → ((d : Before) → d.frames ≡ 0 → Readable d rest) → Readable b (map task_rec (tasks c l) ++ rest)
readable_tasks b c [] rest h k m q g = g b k
readable_tasks b c (None ∷ l) rest h k m q g = readable_tasks b (suc c) l rest (omega arith) k (omega arith) q.1 g
readable_tasks b c (Some e ∷ l) rest h k m q g =
    let w = q.0 in
    let r = w.ranges in (
      record { label = w.sixteen; channel = omega arith; cost = omega arith; period = omega arith; deadline = omega arith; jitter = omega arith; section = omega arith },
      (λ at. no_task_fault b c e at h k (omega arith) w.label r),
      readable_tasks (after b (task_rec (placed_in c e))) (suc c) l rest (omega arith) k (omega arith) q.1 g,
    )

pub reads_back : (l : Channels) (fs : List FrameParams) → length l ≤ 64 → Writable l → length fs ≤ 16 → All FrameRanges fs → decode (encode l fs) ≡ Ok (contents l fs)
unfolding decode
reads_back l fs h q k r =
    reads (length (encode l fs)) start 0 (contents l fs)
    (readable_tasks start 0 l (map frame_rec fs) (omega arith) refl (omega arith) q (λ d e. readable_frames d fs r (omega arith)))
    (image_longer (contents l fs))

-- Writing back: what was read in `n` turns is the image of the records.
abbrev Written : ℕ → Type 0
Written n = (b : Before) (at : ℕ) (xs : List ℕ) (rs : List Rec) → Bytes xs → records n b at xs ≡ Ok rs → image rs ≡ xs

written_end : (at : ℕ) (ys : List ℕ) (rs : List Rec) → ended at ys ≡ Ok rs → image rs ≡ 0x45 ∷ 0x4E ∷ ys
written_end at [] rs p = let e : [] ≡ rs = cc in ap image (sym e)
written_end at (y ∷ ys) rs p = clash (Image (Trailing at)) rs p

written_rest : (r : Rec) (xs : List ℕ) (x : AllRead) (rs : List Rec) → with_rest r x ≡ Ok rs → rec_bytes r ++ drop (size r) xs ≡ xs
    → ((qs : List Rec) → x ≡ Ok qs → image qs ≡ drop (size r) xs) → image rs ≡ xs
written_rest r xs (Err e) rs p s ih = clash e rs p
written_rest r xs (Ok qs) rs p s ih =
    let e : rs ≡ r ∷ qs = cc in
    ap image e ∙ image_more r qs ∙ ap (λ (ys : List ℕ). rec_bytes r ++ ys) (ih qs refl) ∙ s

written_checked : (n : ℕ) → Written n → (at : ℕ) (xs : List ℕ) (r : Rec) (x : Result Before RecordFault) (rs : List Rec) → Bytes xs
    → checked n at xs r x ≡ Ok rs → rec_bytes r ++ drop (size r) xs ≡ xs → image rs ≡ xs
written_checked n ih at xs r (Err e) rs h p s = clash e rs p
written_checked n ih at xs r (Ok c) rs h p s =
    written_rest r xs (records n c (at + size r) (drop (size r) xs)) rs p s
    (λ qs e. ih c (at + size r) (drop (size r) xs) qs (All-drop (λ x. x < 256) (size r) xs h) e)

written_next : (n : ℕ) → Written n → (b : Before) (at : ℕ) (xs : List ℕ) (x : Read) (rs : List Rec) → Bytes xs
    → next n b at xs x ≡ Ok rs → ((o : Option Piece) → x ≡ Ok o → Stands xs o) → image rs ≡ xs
written_next n ih b at xs (Err e) rs h p s = clash (Image e) rs p
written_next n ih b at xs (Ok None) rs h p s = written_end (at + 2) (drop 2 xs) rs p ∙ s None refl
written_next n ih b at xs (Ok (Some q)) rs h p s = written_checked n ih at xs (rec_in q) (passed b at (rec_in q)) rs h p (s (Some q) refl)

writes : (n : ℕ) → Written n
unfolding records
writes zero b at xs rs h p = clash (Image (Cut at)) rs p
writes (suc n) b at xs rs h p = written_next n (writes n) b at xs (part at xs) rs h (sym (records_next n b at xs) ∙ p) (λ o e. part_stands at xs o h e)

pub writes_back : (xs : List ℕ) (rs : List Rec) → Bytes xs → decode xs ≡ Ok rs → image rs ≡ xs
unfolding decode
writes_back xs rs h p = writes (length xs) start 0 xs rs h p
