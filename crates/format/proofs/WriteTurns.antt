-- Writing record by record: what is written and what is left make up the whole image.
use Rattle.std.proofs.Common.{◌≡◌, ℕ, zero, suc, ◌+◌, ◌*◌, ◌<◌, ◌≤◌, false, ltb, leb, List, [], ◌∷◌, ◌++◌, map, length, get_or, take, drop, Bool, cond, Some, None, Ok, Err, Option, Result, sym, refl, ap, ◌∙◌, subst, append_assoc, add-zero, zero-add, add-one, arith, length-append}
use Rattle.std.specs.List.{filter, range_with_len}
use Rattle.std.proofs.lemmas.Bool.{le-leb, lt-leb, le-ltb, cond-true, cond-false}
use Rattle.std.proofs.lemmas.List.{append-nil, length-map, at_drop_all, at_drop_more}
use Rattle.std.proofs.lemmas.Grind.{flat_map-append}
use Rattle.std.proofs.lemmas.List.Sums.{length-filter, count_by-le-length}
use Rattle.std.specs.Result.{is_ok}
use Rattle.loads.specs.declared.refusal.Refusal.{Refusal}
use Rattle.loads.specs.declared.refusal.Refusal.TheVariants.{OutputShort, ChannelEmpty}
use Rattle.loads.specs.declared.entry.Entry.{Entry}
use Rattle.loads.specs.declared.frame.Frame.{Frame}
use Rattle.loads.specs.declared.table.Slot.{Slot}
use Rattle.loads.specs.declared.table.Table.{Table}
use Rattle.loads.specs.Params.{FrameParams}
use Rattle.loads.specs.Making.{frame_params}
use Rattle.loads.specs.Channels.{Content, Channels, content, held_content, slot_content, channels}
use Rattle.plan.specs.Ledger.{reading, by_content}
use Rattle.format.specs.Records.{task_rec, frame_rec, task_bytes, frame_bytes, rec_bytes}
use Rattle.format.specs.Encode.{placed_in, encode, tasks}
use Rattle.format.specs.Writes.{tasks_bytes, frames_bytes, written, placed}

-- A table has 64 channels.
pub channels_length : (t : Table Slot) → length (channels t) ≡ 64
channels_length t = length-map t.slots slot_content ∙ t.full

-- What a reading says of the channel.
module _ (l : Channels) (c : ℕ) (h : c ≤ 63) where
  reading_is : reading l c ≡ by_content (get_or l c None) (λ k. Ok k) (Err ChannelEmpty)
  reading_is = let b : ltb 63 c ≡ false = le-ltb 63 c h in rw b

  pub read_some : (k : Content) → Ok k ≡ reading l c → get_or l c None ≡ Some k
  read_some k e = go (get_or l c None) (e ∙ reading_is)
    where
      go : (o : Option Content) → ◌≡◌ {A = Result Content Refusal} (Ok k) (by_content o (λ k. Ok k) (Err ChannelEmpty)) → o ≡ Some k
      go (Some x) p = let q : k ≡ x = cc in ap {B = Option Content} Some (sym q)
      go None p = cc

  pub read_none : (e : Refusal) → Err e ≡ reading l c → get_or l c None ≡ None
  read_none e p = go (get_or l c None) (p ∙ reading_is)
    where
      go : (o : Option Content) → ◌≡◌ {A = Result Content Refusal} (Err e) (by_content o (λ k. Ok k) (Err ChannelEmpty)) → o ≡ None
      go (Some x) q = cc
      go None q = refl

-- A list of frames, by the code's records.
abbrev pub of_frames : List Frame → List ℕ
of_frames fs = frames_bytes (map frame_params fs)

pub frames_more : (fs : List Frame) (i : ℕ) (f : Frame) → i < length fs → f ≡ get_or fs i f → of_frames (take (suc i) fs) ≡ of_frames (take i fs) ++ frame_bytes (frame_params f)
frames_more [] i f h e = absurd (omega arith)
frames_more (g ∷ fs) zero f h e = append-nil (frame_bytes (frame_params g)) ∙ ap (λ (x : Frame). frame_bytes (frame_params x)) (sym e)
frames_more (g ∷ fs) (suc i) f h e =
    ap (λ (ys : List ℕ). frame_bytes (frame_params g) ++ ys) (frames_more fs i f (omega arith) e) ∙ sym (append_assoc (frame_bytes (frame_params g)) (of_frames (take i fs)) (frame_bytes (frame_params f)))

-- Past the last frame, or the last channel, nothing is left to write.
pub frames_end : (fs : List Frame) (i : ℕ) (pre all : List ℕ) → length fs ≤ i → pre ++ of_frames (drop i fs) ≡ all → pre ≡ all
frames_end fs i pre all h e = sym (append-nil pre) ∙ ap (λ (ys : List ℕ). pre ++ ys) (sym (at_drop_all of_frames fs i h)) ∙ e

pub tasks_end : (l : Channels) (i : ℕ) (pre all : List ℕ) → length l ≤ i → pre ++ tasks_bytes i (drop i l) ≡ all → pre ≡ all
tasks_end l i pre all h e = sym (append-nil pre) ∙ ap (λ (ys : List ℕ). pre ++ ys) (sym (at_drop_all (tasks_bytes i) l i h)) ∙ e

-- The bytes of what stands in a channel.
abbrev pub entry_bytes : ℕ → Option Content → List ℕ
entry_bytes c None = []
entry_bytes c (Some k) = task_bytes (placed_in c k)

tasks_first : (c : ℕ) (o : Option Content) (l : Channels) → tasks_bytes c (o ∷ l) ≡ entry_bytes c o ++ tasks_bytes (suc c) l
tasks_first c None l = refl
tasks_first c (Some k) l = refl

tasks_more : (c : ℕ) (l : Channels) (i : ℕ) → i < length l → tasks_bytes c (take (suc i) l) ≡ tasks_bytes c (take i l) ++ entry_bytes (c + i) (get_or l i None)
tasks_more c [] i h = absurd (omega arith)
tasks_more c (o ∷ l) zero h = tasks_first c o [] ∙ append-nil (entry_bytes c o) ∙ ap (λ (n : ℕ). entry_bytes n o) (sym (add-zero c))
tasks_more c (o ∷ l) (suc i) h =
    tasks_first c o (take (suc i) l)
    ∙ ap (λ (ys : List ℕ). entry_bytes c o ++ ys) (tasks_more (suc c) l i (omega arith))
    ∙ sym (append_assoc (entry_bytes c o) (tasks_bytes (suc c) (take i l)) (entry_bytes (suc c + i) (get_or l i None)))
    ∙ (λ j. sym (tasks_first c o (take i l)) j ++ entry_bytes (next_at j) (get_or l i None))
  where
    next_at : suc c + i ≡ c + suc i
    next_at = omega arith

-- The first channels take no more bytes than all.
tasks_front : (c : ℕ) (l : Channels) (i : ℕ) → length (tasks_bytes c (take i l)) ≤ length (tasks_bytes c l)
tasks_front c [] zero = omega arith
tasks_front c [] (suc i) = omega arith
tasks_front c (o ∷ l) zero = omega arith
tasks_front c (o ∷ l) (suc i) =
    omega (arith, ap length (tasks_first c o (take i l)), ap length (tasks_first c o l), length-append (entry_bytes c o) (tasks_bytes (suc c) (take i l)), length-append (entry_bytes c o) (tasks_bytes (suc c) l), tasks_front (suc c) l i)

-- One channel of a table more.
module _ (t : Table Slot) (i : ℕ) (h : i < 64) where
  more_is : (o : Option Content) → get_or (channels t) i None ≡ o → tasks_bytes 0 (take (i + 1) (channels t)) ≡ tasks_bytes 0 (take i (channels t)) ++ entry_bytes i o
  more_is o e =
      ap (λ (n : ℕ). tasks_bytes 0 (take n (channels t))) (add-one i)
      ∙ tasks_more 0 (channels t) i (omega (arith, channels_length t))
      ∙ (λ j. tasks_bytes 0 (take i (channels t)) ++ entry_bytes (zero-add i j) (e j))

  pub task_more : (k : Content) → Ok k ≡ reading (channels t) i → tasks_bytes 0 (take (i + 1) (channels t)) ≡ tasks_bytes 0 (take i (channels t)) ++ task_bytes (placed_in i k)
  task_more k e = more_is (Some k) (read_some (channels t) i (omega arith) k e)

  pub none_more : (e : Refusal) → Err e ≡ reading (channels t) i → tasks_bytes 0 (take (i + 1) (channels t)) ≡ tasks_bytes 0 (take i (channels t))
  none_more e p = more_is None (read_none (channels t) i (omega arith) e p) ∙ append-nil (tasks_bytes 0 (take i (channels t)))

  pub more_room : length (tasks_bytes 0 (take (i + 1) (channels t))) ≤ length (tasks_bytes 0 (channels t))
  more_room = tasks_front 0 (channels t) (i + 1)

pub length_task : (c : ℕ) (k : Content) → length k.label ≡ 16 → length (task_bytes (placed_in c k)) ≡ 37
length_task c k h = simp length-append (omega (arith, h))

pub encode_parts : (l : Channels) (fs : List FrameParams) → encode l fs ≡ (tasks_bytes 0 l ++ frames_bytes fs) ++ (0x45 ∷ 0x4E ∷ [])
encode_parts l fs = ap (λ (xs : List ℕ). xs ++ (0x45 ∷ 0x4E ∷ [])) (flat_map-append rec_bytes (map task_rec (tasks 0 l)) (map frame_rec fs))

pub length_frames : (fs : List FrameParams) → length (frames_bytes fs) ≡ 14 * length fs
length_frames [] = refl
length_frames (f ∷ fs) = let k = length_frames fs in omega arith

pub length_of_frames : (fs : List Frame) → length (of_frames fs) ≡ 14 * length fs
length_of_frames fs = length_frames (map frame_params fs) ∙ ap (λ (n : ℕ). 14 * n) (length-map fs frame_params)

pub length_encode : (l : Channels) (fs : List FrameParams) → length (encode l fs) ≡ length (tasks_bytes 0 l) + 14 * length fs + 2
length_encode l fs =
    ap length (encode_parts l fs) ∙ length-append (tasks_bytes 0 l ++ frames_bytes fs) (0x45 ∷ 0x4E ∷ [])
    ∙ ap (λ (n : ℕ). n + 2) (length-append (tasks_bytes 0 l) (frames_bytes fs) ∙ ap (λ (n : ℕ). length (tasks_bytes 0 l) + n) (length_frames fs))

-- The label in a slot has sixteen bytes.
labels : (ss : List Slot) (i : ℕ) (k : Content) → get_or (map slot_content ss) i None ≡ Some k → length k.label ≡ 16
labels [] i k e = cc
labels (s ∷ ss) zero k e = go s.held e
  where
    go : (o : Option Entry) → held_content o ≡ Some k → length k.label ≡ 16
    go None q = cc
    go (Some x) q = let z : content x ≡ k = cc in subst (λ (y : Content). length y.label ≡ 16) z x.sixteen
labels (s ∷ ss) (suc i) k e = labels ss i k e

-- How many channels of a table are filled.
module _ (t : Table Slot) where
  abbrev pub is_filled : ℕ → Bool
  is_filled i = is_ok (reading (channels t) i)

  -- The filled ones among the last `n` channels take 37 bytes each.
  counted : (n c : ℕ) → c + n ≡ 64 → 37 * length (filter is_filled (range_with_len c n)) ≡ length (tasks_bytes c (drop c (channels t)))
  counted zero c e = ap length (sym (at_drop_all (tasks_bytes c) (channels t) c (omega (arith, channels_length t))))
  counted (suc n) c e =
      go (get_or (channels t) c None) refl (counted n (c + 1) (omega arith) ∙ ap (λ (m : ℕ). length (tasks_bytes m (drop (c + 1) (channels t)))) (add-one c))
      ∙ ap length (sym (at_drop_more (tasks_bytes c) (channels t) c None (omega (arith, channels_length t))))
    where
      rest : List ℕ
      rest = filter is_filled (range_with_len (c + 1) n)

      is : (o : Option Content) → get_or (channels t) c None ≡ o → is_filled c ≡ is_ok (by_content o (λ k. let r : Result Content Refusal = Ok k in r) (Err ChannelEmpty))
      is o q = ap is_ok (reading_is (channels t) c (omega arith) ∙ ap (λ (x : Option Content). by_content x (λ k. let r : Result Content Refusal = Ok k in r) (Err ChannelEmpty)) q)

      go : (o : Option Content) → get_or (channels t) c None ≡ o → 37 * length rest ≡ length (tasks_bytes (suc c) (drop (c + 1) (channels t)))
          → 37 * length (cond (is_filled c) (c ∷ rest) rest) ≡ length (tasks_bytes c (o ∷ drop (c + 1) (channels t)))
      go None q ih = rw (is None q) ih
      go (Some k) q ih =
          let n = length_task c k (labels t.slots c k q) in
          let m = length-append (task_bytes (placed_in c k)) (tasks_bytes (suc c) (drop (c + 1) (channels t))) in
          rw (is (Some k) q) (omega (arith, n, m, ih))

  pub few_filled : length (filter is_filled (range_with_len 0 64)) ≤ 64
  few_filled = omega (arith, length-filter is_filled (range_with_len 0 64), count_by-le-length is_filled (range_with_len 0 64))

  pub counted_all : 37 * length (filter is_filled (range_with_len 0 64)) ≡ length (tasks_bytes 0 (channels t))
  counted_all = counted 64 0 refl

abbrev Answer : Type 0
Answer = Result ℕ Refusal × List ℕ

pub written_short : (xs out : List ℕ) → length out < length xs → ◌≡◌ {A = Result ℕ Refusal × List ℕ} (Err OutputShort, out) (written xs out)
written_short xs out h = sym (cond-false {A = Answer} (leb (length xs) (length out)) (Ok (length xs), placed out 0 xs) (Err OutputShort, out) (lt-leb (length xs) (length out) h))

pub written_all : (xs out to : List ℕ) (n : ℕ) → n ≡ length xs → to ≡ placed out 0 xs → n ≤ length out → ◌≡◌ {A = Result ℕ Refusal × List ℕ} (Ok n, to) (written xs out)
written_all xs out to n e p h =
    (λ i. (Ok (e i), p i))
    ∙ sym (cond-true {A = Answer} (leb (length xs) (length out)) (Ok (length xs), placed out 0 xs) (Err OutputShort, out) (le-leb (length xs) (length out) (omega arith)))
