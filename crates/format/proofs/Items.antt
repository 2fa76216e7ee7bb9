-- The parts that an image gives one after another, and the records in them.
use Rattle.std.proofs.Common.{◌≡◌, ℕ, zero, suc, ◌+◌, ◌<◌, ◌≤◌, List, [], ◌∷◌, length, drop, Some, None, Ok, Err, Option, Result, sym, refl, ap, ◌∙◌, subst, arith, length-drop, length-take}
use Rattle.std.proofs.lemmas.List.{drop-drop}
use Rattle.format.specs.declared.before.Before.{Before}
use Rattle.format.specs.declared.fault.ImageFault.{ImageFault}
use Rattle.format.specs.declared.fault.ImageFault.TheVariants.{Trailing}
use Rattle.format.specs.declared.fault.RecordFault.{RecordFault}
use Rattle.format.specs.declared.fault.RecordFault.TheVariants.{Image}
use Rattle.format.specs.Records.{Rec, size, start, after, fault}
use Rattle.format.specs.Decode.{part, ended, with_rest, passed, records, decode, Piece, rec_in}
use Rattle.format.specs.Parts.{offset, Whole, behind, pieces, pieces_from}
use Rattle.format.proofs.Front.{Read, AllRead, clash, next, part_cases}

-- An item of the iterator over the parts, by plain bytes.
abbrev pub Item : Type 0
Item = Result Piece ImageFault

-- What was read at the front lies within the bytes, and a part begins at `at` and is not empty.
abbrev pub Within : ℕ → List ℕ → Option Piece → Type 0
Within at xs None = 2 ≤ length xs
Within at xs (Some p) = (offset p ≡ at) × (size (rec_in p) ≤ length xs) × (0 < size (rec_in p))

pub within : (at : ℕ) (xs : List ℕ) (o : Option Piece) → part at xs ≡ Ok o → Within at xs o
within at xs o p = part_cases at xs (Within at xs) (λ l m. (refl, l, omega arith)) (λ l m. (refl, l, omega arith)) (λ l m. l) o p

-- A part lies within the image, and the end mark too.
pub part_within : (at : ℕ) (xs : List ℕ) (p : Piece) → Ok (Some p) ≡ part at (drop at xs) → at + size (rec_in p) ≤ length xs
part_within at xs p e = let k = within at (drop at xs) (Some p) (sym e) in omega (arith, k.1, k.2, length-drop at xs)

pub end_within : (at : ℕ) (xs : List ℕ) → Ok None ≡ part at (drop at xs) → at + 2 ≤ length xs
end_within at xs e = omega (arith, within at (drop at xs) None (sym e), length-drop at xs)

-- One turn, by what stands at the front.
abbrev turn : ℕ → ℕ → List ℕ → Read → List Item
turn n at xs x = elim x [ Err e ↦ Err e ∷ [] | Ok o ↦ elim o [ None ↦ behind (at + 2) (drop 2 xs) | Some p ↦ Ok p ∷ pieces n (at + size (rec_in p)) (drop (size (rec_in p)) xs) ] ]

-- More turns than bytes change nothing.
pieces_more : (n m at : ℕ) (xs : List ℕ) → length xs ≤ n → length xs ≤ m → pieces n at xs ≡ pieces m at xs
unfolding pieces part
pieces_more zero zero at xs h k = refl
pieces_more zero (suc m) at [] h k = refl
pieces_more zero (suc m) at (x ∷ xs) h k = absurd (omega arith)
pieces_more (suc n) zero at [] h k = refl
pieces_more (suc n) zero at (x ∷ xs) h k = absurd (omega arith)
pieces_more (suc n) (suc m) at xs h k = go (part at xs) refl (pieces_more n m)
  where
    go : (x : Read) → part at xs ≡ x → ((i : ℕ) (ys : List ℕ) → length ys ≤ n → length ys ≤ m → pieces n i ys ≡ pieces m i ys) → turn n at xs x ≡ turn m at xs x
    go (Err e) q ih = refl
    go (Ok None) q ih = refl
    go (Ok (Some p)) q ih =
        let w = within at xs (Some p) q in
        let l = length-drop (size (rec_in p)) xs in
        ap (λ (is : List Item). Ok p ∷ is) (ih (at + size (rec_in p)) (drop (size (rec_in p)) xs) (omega (arith, w.1, w.2, l)) (omega (arith, w.1, w.2, l)))

-- The items from a place on, by what was read there.
abbrev pub onward : List ℕ → ℕ → Read → List Item
onward xs at (Err e) = Err e ∷ []
onward xs at (Ok None) = behind (at + 2) (drop 2 (drop at xs))
onward xs at (Ok (Some p)) = Ok p ∷ pieces_from xs (Some (at + size (rec_in p)))

pub items_from : (xs : List ℕ) (at : ℕ) → pieces_from xs (Some at) ≡ onward xs at (part at (drop at xs))
unfolding pieces
items_from xs at =
    let l = length-drop at xs in
    pieces_more (length xs) (suc (length xs)) at (drop at xs) (omega (arith, l)) (omega (arith, l)) ∙ go (part at (drop at xs))
  where
    go : (x : Read) → turn (length xs) at (drop at xs) x ≡ onward xs at x
    go (Err e) = refl
    go (Ok None) = refl
    go (Ok (Some p)) = ap (λ (ys : List ℕ). Ok p ∷ pieces (length xs) (at + size (rec_in p)) ys) (drop-drop (size (rec_in p)) at xs)

-- Each part that an image gives is whole.
abbrev IfWhole : Option Piece → Type 0
IfWhole None = Unit {0}
IfWhole (Some p) = Whole p

part_whole : (at : ℕ) (xs : List ℕ) (o : Option Piece) → part at xs ≡ Ok o → IfWhole o
part_whole at xs o e = part_cases at xs IfWhole (λ l m. simp length-take (omega arith)) (λ l m. simp length-take (omega arith)) (λ l m. tt) o e

pub whole_given : (xs : List ℕ) (at : Option ℕ) (p : Piece) (is : List Item) → pieces_from xs at ≡ Ok p ∷ is → Whole p
whole_given xs None p is e = absurd (omega (arith, ap length e))
whole_given xs (Some at) p is e = go (part at (drop at xs)) refl (sym (items_from xs at) ∙ e)
  where
    no_part : {A : Type 0} (f : ImageFault) (js : List Item) → ◌≡◌ {A = List Item} (Err f ∷ js) (Ok p ∷ is) → A
    no_part f js q = let z : ◌≡◌ {A = ℕ} 0 1 = cc in absurd (omega arith)

    at_last : (i : ℕ) (ys : List ℕ) → behind i ys ≡ Ok p ∷ is → Whole p
    at_last i [] q = absurd (omega (arith, ap length q))
    at_last i (y ∷ ys) q = no_part (Trailing i) [] q

    go : (x : Read) → part at (drop at xs) ≡ x → onward xs at x ≡ Ok p ∷ is → Whole p
    go (Err f) q k = no_part f [] k
    go (Ok None) q k = at_last (at + 2) (drop 2 (drop at xs)) k
    go (Ok (Some r)) q k = let s : r ≡ p = cc in subst Whole s (part_whole at (drop at xs) (Some r) q)

-- Nothing behind the end mark, or something.
pub nothing_behind : (at : ℕ) (xs : List ℕ) → length xs ≤ at + 2 → behind (at + 2) (drop 2 (drop at xs)) ≡ []
nothing_behind at xs h = go (drop 2 (drop at xs)) (simp length-drop (omega arith))
  where
    go : (ys : List ℕ) → length ys ≤ 0 → behind (at + 2) ys ≡ []
    go [] k = refl
    go (y ∷ ys) k = absurd (omega arith)

pub some_behind : (at : ℕ) (xs : List ℕ) → at + 2 < length xs → behind (at + 2) (drop 2 (drop at xs)) ≡ Err (Trailing (at + 2)) ∷ []
some_behind at xs h = go (drop 2 (drop at xs)) (simp length-drop (omega arith))
  where
    go : (ys : List ℕ) → 0 < length ys → behind (at + 2) ys ≡ Err (Trailing (at + 2)) ∷ []
    go [] k = absurd (omega arith)
    go (y ∷ ys) k = refl

-- The records in the items, each checked after those before it, or the first fault.
abbrev pub by_check : Rec → (Before → AllRead) → Result Before RecordFault → AllRead
by_check r f x = elim x [ Err e ↦ Err e | Ok c ↦ with_rest r (f c) ]

abbrev pub checks : Before → List Item → AllRead
checks b [] = Ok []
checks b (Err e ∷ is) = Err (Image e)
checks b (Ok p ∷ is) = by_check (rec_in p) (λ c. checks c is) (passed b (offset p) (rec_in p))

pub records_checks : (n : ℕ) (b : Before) (at : ℕ) (xs : List ℕ) → records n b at xs ≡ checks b (pieces n at xs)
unfolding records pieces
records_checks zero b at xs = refl
records_checks (suc n) b at xs = go (part at xs) refl (records_checks n)
  where
    go : (x : Read) → part at xs ≡ x → ((c : Before) (i : ℕ) (ys : List ℕ) → records n c i ys ≡ checks c (pieces n i ys)) → next n b at xs x ≡ checks b (turn n at xs x)
    go (Err e) q ih = refl
    go (Ok None) q ih = at_last (drop 2 xs)
      where
        at_last : (ys : List ℕ) → ended (at + 2) ys ≡ checks b (behind (at + 2) ys)
        at_last [] = refl
        at_last (y ∷ ys) = refl
    go (Ok (Some p)) q ih =
        let r = rec_in p in
        let w = within at xs (Some p) q in
        ap (λ (f : Before → AllRead). by_check r f (passed b at r)) (λ i c. ih c (at + size r) (drop (size r) xs) i)
        ∙ ap (λ (i : ℕ). by_check r (λ c. checks c (pieces n (at + size r) (drop (size r) xs))) (passed b i r)) (sym w.0)

pub decode_checks : (xs : List ℕ) → decode xs ≡ checks start (pieces_from xs (Some 0))
unfolding decode
decode_checks xs = records_checks (length xs) start 0 xs

-- Where all records are read: the first of them passes its checks, and those after it are read.
pub record FirstPasses (b : Before) (p : Piece) (is : List Item) (rs : List Rec) : Type 0 where
  pub rest : List Rec
  pub is_first : rs ≡ rec_in p ∷ rest
  pub passes : fault b (offset p) (rec_in p) ≡ None
  pub good : checks (after b (rec_in p)) is ≡ Ok rest

pub first_passes : (b : Before) (p : Piece) (is : List Item) (rs : List Rec) → checks b (Ok p ∷ is) ≡ Ok rs → FirstPasses b p is rs
first_passes b p is rs e = go (fault b (offset p) (rec_in p)) refl e
  where
    rest_of : (x : AllRead) → with_rest (rec_in p) x ≡ Ok rs → (qs : List Rec) × (rs ≡ rec_in p ∷ qs) × (x ≡ Ok qs)
    rest_of (Ok qs) q = (qs, cc, refl)
    rest_of (Err f) q = clash f rs q

    go : (o : Option RecordFault) → fault b (offset p) (rec_in p) ≡ o → by_check (rec_in p) (λ c. checks c is) (elim o [ Some f ↦ Err f | None ↦ Ok (after b (rec_in p)) ]) ≡ Ok rs → FirstPasses b p is rs
    go (Some f) q k = clash f rs k
    go None q k = let r = rest_of (checks (after b (rec_in p)) is) k in record { rest = r.0; is_first = r.1; passes = q; good = r.2 }
