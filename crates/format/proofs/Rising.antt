-- Records that pass one after another: tasks by rising channel, so that the channels from the next one on are empty.
use Rattle.std.proofs.Common.{◌≡◌, ℕ, zero, suc, ◌+◌, ◌-◌, ◌<◌, ◌≤◌, List, [], ◌∷◌, ◌++◌, length, drop, set, replicate, Some, None, Ok, Err, sym, refl, ap, ◌∙◌, subst, ap₂, add-zero, add-suc, suc-add, arith}
use Rattle.std.proofs.lemmas.List.{drop-drop, drop-set-lt}
use Rattle.loads.specs.Channels.{Content, Channels}
use Rattle.plan.specs.Admissions.{Placed}
use Rattle.format.specs.declared.before.Before.{Before}
use Rattle.format.specs.declared.fault.RecordFault.TheVariants as in_record
use Rattle.format.specs.Records.{Rec, task_rec, frame_rec, start, after, fault}
use Rattle.format.specs.Decode.{decode, tasks_in, rec_in}
use Rattle.format.specs.Encode.{placed_in, tasks}
use Rattle.format.specs.Parts.{offset, pieces_from}
use Rattle.format.proofs.Front.{clash}
use Rattle.format.proofs.Items.{Item, checks, decode_checks, first_passes}
use Rattle.format.proofs.Passing.{task_passes}

-- Each record passes after those before it.
abbrev pub Lawful : Before → List Rec → Type 0
Lawful b [] = Unit {0}
Lawful b (r ∷ rs) = ((at : ℕ) × (fault b at r ≡ None)) × Lawful (after b r) rs

pub lawful : (b : Before) (is : List Item) (rs : List Rec) → checks b is ≡ Ok rs → Lawful b rs
lawful b [] rs e = let q : [] ≡ rs = cc in subst (Lawful b) q tt
lawful b (Err f ∷ is) rs e = clash (in_record.Image f) rs e
lawful b (Ok p ∷ is) rs e = let m = first_passes b p is rs e in subst (Lawful b) (sym m.is_first) ((offset p, m.passes), lawful (after b (rec_in p)) is m.rest m.good)

-- The records of an image that was read pass one after another.
pub decoded_lawful : (xs : List ℕ) (rs : List Rec) → decode xs ≡ Ok rs → Lawful start rs
decoded_lawful xs rs e = lawful start (pieces_from xs (Some 0)) rs (sym (decode_checks xs) ∙ e)

-- After a frame there are no tasks.
pub no_tasks : (b : Before) (rs : List Rec) → 0 < b.frames → Lawful b rs → tasks_in rs ≡ []
no_tasks b [] h k = refl
no_tasks b (task_rec t ∷ rs) h k = let w = task_passes b k.0.0 t k.0.1 in absurd (omega (arith, w.first))
no_tasks b (frame_rec f ∷ rs) h k = no_tasks (after b (frame_rec f)) rs (omega arith) k.1

-- These channels are empty.
abbrev pub Empty : Channels → Type 0
Empty [] = Unit {0}
Empty (None ∷ l) = Empty l
Empty (Some e ∷ l) = ⊥

no_entries : (k : ℕ) (l : Channels) → Empty l → tasks k l ≡ []
no_entries k [] h = refl
no_entries k (None ∷ l) h = no_entries (suc k) l h
no_entries k (Some e ∷ l) h = absurd h

empty_drop : (n : ℕ) (l : Channels) → Empty l → Empty (drop n l)
empty_drop zero l h = h
empty_drop (suc n) [] h = tt
empty_drop (suc n) (None ∷ l) h = empty_drop n l h
empty_drop (suc n) (Some e ∷ l) h = absurd h

pub empty_blank : (n : ℕ) → Empty (replicate n None)
empty_blank zero = tt
empty_blank (suc n) = empty_blank n

pub empty_from : (a c : ℕ) (l : Channels) → a ≤ c → Empty (drop a l) → Empty (drop c l)
empty_from a c l h m =
    let e : a + (c - a) ≡ c = omega arith in
    subst (λ (n : ℕ). Empty (drop n l)) e (subst Empty (drop-drop (c - a) a l) (empty_drop (c - a) (drop a l) m))

-- Above a channel that is filled now the channels are as empty as before.
pub empty_above : (a c : ℕ) (l : Channels) (e : Content) → a ≤ c → Empty (drop a l) → Empty (drop (suc c) (set l c (Some e)))
empty_above a c l e h m = subst Empty (sym (drop-set-lt (suc c) l c (Some e) (omega arith))) (empty_from a (suc c) l (omega arith) m)

-- A task in the first of the empty channels, or above it, comes last.
pub tasks_set : (k c : ℕ) (l : Channels) (e : Content) → c < length l → Empty (drop c l) → tasks k (set l c (Some e)) ≡ tasks k l ++ (placed_in (k + c) e ∷ [])
tasks_set k c [] e h m = absurd (omega arith)
tasks_set k zero (None ∷ l) e h m =
    let q = no_entries (suc k) l m in
    ap₂ (λ (n : ℕ) (ts : List Placed). placed_in n e ∷ ts) (sym (add-zero k)) q ∙ ap (λ (ts : List Placed). ts ++ (placed_in (k + 0) e ∷ [])) (sym q)
tasks_set k zero (Some x ∷ l) e h m = absurd m
tasks_set k (suc c) (None ∷ l) e h m =
    tasks_set (suc k) c l e (omega arith) m ∙ ap (λ (n : ℕ). tasks (suc k) l ++ (placed_in n e ∷ [])) (suc-add k c ∙ sym (add-suc k c))
tasks_set k (suc c) (Some x ∷ l) e h m =
    ap (λ (ts : List Placed). placed_in k x ∷ ts) (tasks_set (suc k) c l e (omega arith) m ∙ ap (λ (n : ℕ). tasks (suc k) l ++ (placed_in n e ∷ [])) (suc-add k c ∙ sym (add-suc k c)))
