-- Tasks put into empty channels one after another: what stands then, and that taking out the last undoes it.
use Rattle.std.proofs.Common.{◌≡◌, ℕ, zero, suc, ◌+◌, ◌<◌, ◌≤◌, Bool, true, false, cond, ltb, List, [], ◌∷◌, ◌++◌, map, length, get_or, take, set, Some, None, Ok, Err, Option, Result, sym, refl, ap, ◌∙◌, subst, arith}
use Rattle.std.proofs.lemmas.Bool.{ltb-false}
use Rattle.std.proofs.lemmas.List.{set-set, set-get_or, take_more, length-map, get_or-map}
use Rattle.loads.specs.declared.refusal.Refusal.{Refusal}
use Rattle.loads.specs.declared.refusal.Refusal.TheVariants.{BadLabel, NoChannel, ChannelFilled}
use Rattle.loads.specs.Channels.{Content, content}
use Rattle.plan.specs.Labels.{good_label}
use Rattle.theory.specs.Meaning.{Meaning}
use Rattle.plan.specs.Ledger.{Ledger, by_content, weighed, admitted, if_ok}
use Rattle.loads.specs.declared.entry.Entry.{Entry}
use Rattle.plan.specs.Admissions.{Placed, placed}
use Rattle.plan.specs.Together.{vacant, put_one, put_all, EachVacant, PutIn}

-- The checks of admit before `r`, over what they look at.
abbrev checks : {X : Type 0} → Bool → Bool → Option Content → Result X Refusal → Result X Refusal
checks good above held r = cond good (cond above (Err NoChannel) (by_content held (λ _. Err ChannelFilled) r)) (Err BadLabel)

passing : (good above : Bool) (held : Option Content) → checks {X = Unit {0}} good above held (Ok tt) ≡ Ok tt → (good ≡ true) × (above ≡ false) × (held ≡ None)
passing true false None q = (refl, refl, refl)
passing true false (Some k) q = cc
passing true true held q = cc
passing false above held q = cc

passed_on : {X : Type 0} (good above : Bool) (held : Option Content) (r : Result X Refusal) → checks {X = Unit {0}} good above held (Ok tt) ≡ Ok tt → checks good above held r ≡ r
passed_on true false None r q = refl
passed_on true false (Some k) r q = cc
passed_on true true held r q = cc
passed_on false above held r q = cc

kept_out : {X : Type 0} (good above : Bool) (held : Option Content) (r : Result X Refusal) (e : Refusal) → checks {X = Unit {0}} good above held (Ok tt) ≡ Err e → checks good above held r ≡ Err e
kept_out true false None r e q = cc
kept_out true false (Some k) r e q = let p : ChannelFilled ≡ e = cc in ap (λ (x : Refusal). Err x) p
kept_out true true held r e q = let p : NoChannel ≡ e = cc in ap (λ (x : Refusal). Err x) p
kept_out false above held r e q = let p : BadLabel ≡ e = cc in ap (λ (x : Refusal). Err x) p

granted_in : {X : Type 0} (good above : Bool) (held : Option Content) (r : Result X Refusal) (x : X) → checks good above held r ≡ Ok x → checks {X = Unit {0}} good above held (Ok tt) ≡ Ok tt
granted_in true false None r x q = refl
granted_in true false (Some k) r x q = cc
granted_in true true held r x q = cc
granted_in false above held r x q = cc

-- What the checks of a vacant channel say.
record Vacant (l : Ledger) (c : ℕ) (k : Content) : Type 0 where
  pub label : good_label k.label ≡ true
  pub channel : c ≤ 63
  pub empty : get_or l c None ≡ None

vacant_says : (l : Ledger) (c : ℕ) (k : Content) → vacant l c k ≡ Ok tt → Vacant l c k
vacant_says l c k q = let p = passing (good_label k.label) (ltb 63 c) (get_or l c None) q in record { label = p.0; channel = omega (arith, ltb-false 63 c p.1); empty = p.2 }

-- After them the verdict decides, and a refusal of theirs is that of admit.
pub vacant_weighed : (g : Meaning) (l : Ledger) (c : ℕ) (k : Content) → vacant l c k ≡ Ok tt → admitted g l c k ≡ weighed g l c k
vacant_weighed g l c k q = passed_on (good_label k.label) (ltb 63 c) (get_or l c None) (weighed g l c k) q

pub not_vacant : (g : Meaning) (l : Ledger) (c : ℕ) (k : Content) (e : Refusal) → vacant l c k ≡ Err e → admitted g l c k ≡ Err e
not_vacant g l c k e q = kept_out (good_label k.label) (ltb 63 c) (get_or l c None) (weighed g l c k) e q

pub granted_vacant : (g : Meaning) (l : Ledger) (c : ℕ) (k : Content) (w : ℕ) → admitted g l c k ≡ Ok w → vacant l c k ≡ Ok tt
granted_vacant g l c k w q = granted_in (good_label k.label) (ltb 63 c) (get_or l c None) (weighed g l c k) w q

pub put_all_join : (l : Ledger) (xs ys : List Placed) → put_all l (xs ++ ys) ≡ put_all (put_all l xs) ys
put_all_join l [] ys = refl
put_all_join l (x ∷ xs) ys = put_all_join (put_one l x) xs ys

each_more : (l : Ledger) (xs : List Placed) (x : Placed) → EachVacant l xs → vacant (put_all l xs) x.channel x.content ≡ Ok tt → EachVacant l (xs ++ (x ∷ []))
each_more l [] x h v = (v, tt)
each_more l (y ∷ xs) x h v = (h.0, each_more (put_one l y) xs x h.1 v)

each_before : (l : Ledger) (xs : List Placed) (x : Placed) → EachVacant l (xs ++ (x ∷ [])) → EachVacant l xs × (vacant (put_all l xs) x.channel x.content ≡ Ok tt)
each_before l [] x h = (tt, h.0)
each_before l (y ∷ xs) x h = let r = each_before (put_one l y) xs x h.1 in ((h.0, r.0), r.1)

each_take : (n : ℕ) (l : Ledger) (xs : List Placed) → EachVacant l xs → EachVacant l (take n xs)
each_take zero l xs h = tt
each_take (suc n) l [] h = tt
each_take (suc n) l (x ∷ xs) h = (h.0, each_take n (put_one l x) xs h.1)

-- One more of them, by its place.
pub take_at : (xs : List Placed) (n : ℕ) (x : Placed) → n < length xs → x ≡ get_or xs n x → take (n + 1) xs ≡ take n xs ++ (x ∷ [])
take_at xs n x h e = take_more xs n x h ∙ ap (λ (y : Placed). take n xs ++ (y ∷ [])) (sym e)

put_at_place : (l : Ledger) (xs : List Placed) (n : ℕ) (x : Placed) → n < length xs → x ≡ get_or xs n x → put_all l (take (n + 1) xs) ≡ put_one (put_all l (take n xs)) x
put_at_place l xs n x h e = ap (put_all l) (take_at xs n x h e) ∙ put_all_join l (take n xs) (x ∷ [])

-- Emptying the channel undoes the putting in.
pub emptied : (l : Ledger) (x : Placed) → vacant l x.channel x.content ≡ Ok tt → set (put_one l x) x.channel None ≡ l
emptied l x v =
    let e = (vacant_says l x.channel x.content v).empty in
    set-set l x.channel (Some x.content) None ∙ ap (λ (o : Option Content). set l x.channel o) (sym e) ∙ set-get_or l x.channel None

pub taken_out : (l : Ledger) (xs : List Placed) (n : ℕ) (x : Placed) → n < length xs → x ≡ get_or xs n x → EachVacant l xs → set (put_all l (take (n + 1) xs)) x.channel None ≡ put_all l (take n xs)
taken_out l xs n x h e v =
    let w = each_before l (take n xs) x (subst (EachVacant l) (take_at xs n x h e) (each_take (n + 1) l xs v)) in
    ap (λ (m : Ledger). set m x.channel None) (put_at_place l xs n x h e) ∙ emptied (put_all l (take n xs)) x w.1

-- An entry of the code at its place, by plain numbers.
pub placed_at : (es : List (ℕ × Entry)) (n : ℕ) (r : ℕ × Entry) → n < length es → r ≡ get_or es n r → (n < length (map placed es)) × (placed r ≡ get_or (map placed es) n (placed r))
placed_at es n r h e = (omega (arith, h, length-map es placed), ap placed e ∙ sym (get_or-map placed es n r (placed r) h))

-- One more is put in, or kept out.
module _ (l m m' : Ledger) (es : List (ℕ × Entry)) (n : ℕ) (x : ℕ × Entry) (h : n < length es) (is : x ≡ get_or es n x)
    (each : EachVacant l (take n (map placed es))) (in-it : m ≡ put_all l (take n (map placed es))) (r : Result (Unit {0}) Refusal)
    (says : r ≡ vacant m x.0 (content x.1)) (then : m' ≡ if_ok r (set m x.0 (Some (content x.1))) m) where
  pub one_more_in : r ≡ Ok tt → EachVacant l (take (n + 1) (map placed es)) × (m' ≡ put_all l (take (n + 1) (map placed es)))
  one_more_in o =
      let xs = map placed es in
      let at = placed_at es n x h is in
      let v : vacant (put_all l (take n xs)) x.0 (content x.1) ≡ Ok tt = ap (λ (k : Ledger). vacant k x.0 (content x.1)) (sym in-it) ∙ sym says ∙ o in (
        subst (EachVacant l) (sym (take_at xs n (placed x) at.0 at.1)) (each_more l (take n xs) (placed x) each v),
        then ∙ ap (λ (q : Result (Unit {0}) Refusal). if_ok q (set m x.0 (Some (content x.1))) m) o ∙ ap (λ (k : Ledger). put_one k (placed x)) in-it ∙ sym (put_at_place l xs n (placed x) at.0 at.1),
      )

  pub one_kept_out : (e : Refusal) → r ≡ Err e → PutIn l (map placed es) (Err (n, e)) m'
  one_kept_out e o =
      let s : m' ≡ m = then ∙ ap (λ (q : Result (Unit {0}) Refusal). if_ok q (set m x.0 (Some (content x.1))) m) o in
      (each, s ∙ in-it, (placed x, placed_at es n x h is, ap (λ (k : Ledger). vacant k x.0 (content x.1)) s ∙ sym says ∙ o))
