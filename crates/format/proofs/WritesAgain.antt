-- An image that fills a new plan is written again, byte for byte.
use Rattle.std.proofs.Common.{◌≡◌, ℕ, suc, ◌<◌, List, [], ◌∷◌, ◌++◌, length, get_or, drop, set, Some, None, Ok, Err, Option, Result, sym, refl, ap, ◌∙◌, ap₂, append_assoc, zero-add, arith, length-set}
use Rattle.std.proofs.lemmas.List.{append-nil}
use Rattle.theory.specs.Meaning.{Meaning}
use Rattle.loads.specs.declared.refusal.Refusal.{Refusal}
use Rattle.loads.specs.Params.{FrameParams}
use Rattle.loads.specs.Channels.{Channels, blank}
use Rattle.plan.specs.Ledger.{admitted}
use Rattle.plan.specs.Admissions.{Placed, in_turn}
use Rattle.format.specs.declared.before.Before.{Before}
use Rattle.format.specs.declared.fault.RecordFault.{RecordFault}
use Rattle.format.specs.declared.fault.PlanFault.TheVariants.{Record, Refused}
use Rattle.format.specs.Bytes.{Bytes}
use Rattle.format.specs.Records.{Rec, task_rec, frame_rec, in_order, start, after}
use Rattle.format.specs.Decode.{decode, tasks_in, frames_in}
use Rattle.format.specs.Encode.{image, placed_in, tasks, encode}
use Rattle.format.specs.Fills.{Filled, Taken, taken, task_offset, filled}
use Rattle.format.specs.Statements.{WritesAgain}
use Rattle.format.proofs.Front.{clash}
use Rattle.format.proofs.Reading.{entering}
use Rattle.format.proofs.RoundTrip.{writes_back}
use Rattle.format.proofs.Passing.{task_passes}
use Rattle.format.proofs.Rising.{Lawful, decoded_lawful, no_tasks, Empty, empty_blank, empty_from, empty_above, tasks_set}

-- Tasks come first, and then the frames.
pub sorted : (b : Before) (rs : List Rec) → Lawful b rs → in_order (tasks_in rs) (frames_in rs) ≡ rs
sorted b [] k = refl
sorted b (task_rec t ∷ rs) k = ap (λ (qs : List Rec). task_rec t ∷ qs) (sorted (after b (task_rec t)) rs k.1)
sorted b (frame_rec f ∷ rs) k =
    let e = no_tasks (after b (frame_rec f)) rs (omega arith) k.1 in
    ap (λ (ts : List Placed). in_order ts (f ∷ frames_in rs)) e
    ∙ ap (λ (ts : List Placed). frame_rec f ∷ in_order ts (frames_in rs)) (sym e)
    ∙ ap (λ (qs : List Rec). frame_rec f ∷ qs) (sorted (after b (frame_rec f)) rs k.1)

module _ (g : Meaning) (qs : List Rec) where
  -- Where all tasks are entered, the first is, and then the others.
  granted : (n : ℕ) (o : Option ℕ) (t : Placed) (ts : List Placed) (l m : Channels) → entering qs (in_turn g n o (t ∷ ts) l) ≡ (Ok tt, m)
      → (w : ℕ) × (entering qs (in_turn g (suc n) (Some w) ts (set l t.channel (Some t.content))) ≡ (Ok tt, m))
  unfolding in_turn
  granted n o t ts l m p = go (admitted g l t.channel t.content) p
    where
      go : (r : Result ℕ Refusal) → entering qs (elim r [ Err e ↦ (Err (n, e), l) | Ok w ↦ in_turn g (suc n) (Some w) ts (set l t.channel (Some t.content)) ]) ≡ (Ok tt, m)
          → (w : ℕ) × (entering qs (in_turn g (suc n) (Some w) ts (set l t.channel (Some t.content))) ≡ (Ok tt, m))
      go (Ok w) q = (w, q)
      go (Err e) q = clash (Refused e (task_offset 0 n qs)) tt (ap (λ (x : Filled). x.0) q)

  -- Where all tasks are entered, those of the ledger then are those before and those of the records.
  all_entered : (b : Before) (n : ℕ) (o : Option ℕ) (rs : List Rec) (l m : Channels) → Lawful b rs → length l ≡ 64 → Empty (drop b.least l)
      → entering qs (in_turn g n o (tasks_in rs) l) ≡ (Ok tt, m) → tasks 0 m ≡ tasks 0 l ++ tasks_in rs
  unfolding in_turn
  all_entered b n o [] l m k s h p = ap (λ (x : Filled). tasks 0 x.1) (sym p) ∙ sym (append-nil (tasks 0 l))
  all_entered b n o (frame_rec f ∷ rs) l m k s h p = all_entered (after b (frame_rec f)) n o rs l m k.1 s h p
  all_entered b n o (task_rec t ∷ rs) l m k s h p =
      let w = task_passes b k.0.0 t k.0.1 in
      let c = t.channel in
      let e = t.content in
      let q = granted n o t (tasks_in rs) l m p in
      let now : Empty (drop c l) = empty_from b.least c l w.rising h in
      let then : Empty (drop (suc c) (set l c (Some e))) = empty_above b.least c l e w.rising h in
      all_entered (after b (task_rec t)) (suc n) (Some q.0) rs (set l c (Some e)) m k.1 (length-set l c (Some e) ∙ s) then q.1
      ∙ ap (λ (ts : List Placed). ts ++ tasks_in rs) (tasks_set 0 c l e (omega (arith, w.channel)) now ∙ ap (λ (i : ℕ). tasks 0 l ++ (placed_in i e ∷ [])) (zero-add c))
      ∙ append_assoc (tasks 0 l) (t ∷ []) (tasks_in rs)

-- The statement, by what was read.
again : (g : Meaning) (xs : List ℕ) (l : Channels) (fs before : List FrameParams) (x : Result (List Rec) RecordFault) → decode xs ≡ x → Bytes xs
    → filled g x blank ≡ (Ok tt, l) → taken x before ≡ (Ok tt, fs) → encode l fs ≡ xs
unfolding decode
again g xs l fs before (Err e) d h p q = clash (Record e) tt (ap (λ (y : Filled). y.0) p)
again g xs l fs before (Ok rs) d h p q =
    let k = decoded_lawful xs rs d in
    let t : tasks 0 l ≡ tasks_in rs = all_entered g rs start 0 None rs blank l k refl (empty_blank 64) p in
    let f : fs ≡ frames_in rs = ap (λ (y : Taken). y.1) (sym q) in
    ap image (ap₂ in_order t f ∙ sorted start rs k) ∙ writes_back xs rs h d

-- What is in every place holds of each element.
bytes_all : (xs : List ℕ) → ((i : ℕ) → get_or xs i 0 < 256) → Bytes xs
bytes_all [] h = tt
bytes_all (x ∷ xs) h = (h 0, bytes_all xs (λ i. h (suc i)))

pub writes_again : (g : Meaning) (xs : List ℕ) → ((i : ℕ) → get_or xs i 0 < 256) → WritesAgain g xs
writes_again g xs h l held fs p q = again g xs l fs held (decode xs) refl (bytes_all xs h) p q
