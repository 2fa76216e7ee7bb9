-- A plan that calls can reach comes back from its own image.
use Rattle.std.proofs.Common.{◌≡◌, ℕ, zero, suc, ◌≤◌, true, false, ltb, ◌⊎◌, List, [], ◌∷◌, ◌++◌, length, get_or, set, replicate, Some, None, Ok, Err, Option, Result, sym, refl, ap, ◌∙◌, subst, inl, inr, append_assoc, arith, length-append, length-set}
use lib.ListN.{length-replicate}
use Rattle.std.proofs.lemmas.Bool.{le-ltb}
use Rattle.std.proofs.lemmas.List.{get_or_at}
use Rattle.std.proofs.Math.Seq.{set-append_seam}
use Rattle.theory.specs.Jobs.{All}
use Rattle.theory.specs.Meaning.{Meaning, Laws}
use Rattle.theory.specs.Verdict.{look, Accepted}
use Rattle.theory.proofs.Verdicts.{accepted_yes}
use Rattle.theory.proofs.Lower.{accepted_lower}
use Rattle.theory.proofs.BesideLaws.{beside_lower}
use Rattle.loads.specs.declared.refusal.Refusal.{Refusal}
use Rattle.loads.specs.Params.{FrameParams, FrameRanges}
use Rattle.loads.specs.Channels.{Content, Channels, table, blank, content}
use Rattle.loads.proofs.Fewer.{cut_lower}
use Rattle.loads.specs.Ranged.{Ranged, cut_ranged, task_ranged}
use Rattle.plan.specs.declared.call.Call.{Call}
use Rattle.plan.specs.Labels.{good_label}
use Rattle.plan.specs.Ledger.{plan, by_verdict, weighed, admitted, after}
use Rattle.plan.specs.Admissions.{Placed, InTurn, in_turn}
use Rattle.plan.proofs.Reach.{Keeps, after_keeps, after_ranged, plan_laws, after_stands}
use Rattle.format.specs.Decode.{decode}
use Rattle.format.specs.Encode.{placed_in, tasks, contents, encode}
use Rattle.format.specs.Records.{Rec}
use Rattle.format.specs.Fills.{Filled, filled}
use Rattle.format.specs.Statements.{WritableChannel, Writable, ReadsAgain}
use Rattle.format.proofs.Reading.{taken_is, tasks_in_order, entering}
use Rattle.format.proofs.RoundTrip.{reads_back}

-- Every ledger that calls can reach can be written.
all_set : (l : Channels) (c : ℕ) (o : Option Content) → WritableChannel o → Writable l → Writable (set l c o)
all_set [] c o p h = tt
all_set (x ∷ l) zero o p h = (p, h.1)
all_set (x ∷ l) (suc c) o p h = (h.0, all_set l c o p h.1)

blank_writable : (n : ℕ) → Writable (replicate n None)
blank_writable zero = tt
blank_writable (suc n) = (tt, blank_writable n)

after_writable : (g : Meaning) (ks : List Call) → Writable (after g blank ks)
after_writable g ks = after_keeps g Writable keeps blank ks (blank_writable 64)
  where
    keeps : Keeps g Writable
    keeps = record {
      fills = λ l c e u h p q. all_set l c (Some (content e)) (record { label = p; sixteen = e.sixteen; ranges = task_ranged e.task }) h;
      empties = λ l c h. all_set l c None tt h;
    }

abbrev SixtyFour : Channels → Type 0
SixtyFour l = length l ≡ 64

after_length : (g : Meaning) (ks : List Call) → length (after g blank ks) ≡ 64
after_length g ks = after_keeps g SixtyFour keeps blank ks (length-replicate {A = Option Content} 64 None)
  where
    keeps : Keeps g SixtyFour
    keeps = record {
      fills = λ l c e u h p q. length-set l c (Some (content e)) ∙ h;
      empties = λ l c h. length-set l c None ∙ h;
    }

-- The place after the first part of a list.
set_at : (pre : Channels) (c : ℕ) (x y : Option Content) (ys : Channels) → length pre ≡ c → set (pre ++ (x ∷ ys)) c y ≡ pre ++ (y ∷ ys)
set_at pre c x y ys e = ap (λ (i : ℕ). set (pre ++ (x ∷ ys)) i y) (sym e) ∙ set-append_seam pre x ys y

writable_at : (pre : Channels) (x : Option Content) (ys : Channels) → Writable (pre ++ (x ∷ ys)) → WritableChannel x
writable_at [] x ys h = h.0
writable_at (p ∷ pre) x ys h = writable_at pre x ys h.1

-- A task that is granted is entered, and then the others.
entered_ok : (g : Meaning) (n w : ℕ) (o : Option ℕ) (t : Placed) (ts : List Placed) (l : Channels) → admitted g l t.channel t.content ≡ Ok w
    → in_turn g n o (t ∷ ts) l ≡ in_turn g (suc n) (Some w) ts (set l t.channel (Some t.content))
unfolding in_turn
entered_ok g n w o t ts l e =
    ap (λ (r : Result ℕ Refusal). let x : InTurn = elim r [ Err f ↦ (Err (n, f), l) | Ok v ↦ in_turn g (suc n) (Some v) ts (set l t.channel (Some t.content)) ] in x) e

module _ (g : Meaning) (lg : Laws g) (l : Channels) (w : Writable l) (sixty-four : length l ≡ 64) (r : Ranged l) (a : Accepted (plan g l).amounts) (qs : List Rec) where
  -- As many empty channels.
  none : Channels → Channels
  none rest = replicate (length rest) None

  -- With some of an accepted plan's tasks the plan is accepted.
  part_fits : (pre rest : Channels) → pre ++ rest ≡ l → (v : ℕ) × (look (plan g (pre ++ none rest)).amounts ≡ Ok v)
  unfolding none
  part_fits pre rest e =
      let x = (plan_laws g lg (pre ++ replicate (length rest) None) (cut_ranged pre rest (subst Ranged (sym e) r))).rules in
      let low = beside_lower (table (pre ++ replicate (length rest) None)) (table (pre ++ rest)) g (cut_lower pre rest) in
      let b : Accepted (plan g (pre ++ rest)).amounts = subst (λ (y : Channels). Accepted (plan g y).amounts) (sym e) a in
      let s = (plan_laws g lg (pre ++ rest) (subst Ranged (sym e) r)).rules in
      accepted_yes (plan g (pre ++ replicate (length rest) None)).amounts x (accepted_lower (plan g (pre ++ replicate (length rest) None)).amounts (plan g (pre ++ rest)).amounts x s low b)

  -- The next task is admitted.
  admits : (c : ℕ) (pre rest : Channels) (k : Content) → pre ++ (Some k ∷ rest) ≡ l → length pre ≡ c → (v : ℕ) × (admitted g (pre ++ (None ∷ none rest)) c k ≡ Ok v)
  unfolding none
  admits c pre rest k e q =
      let full : (pre ++ (Some k ∷ [])) ++ rest ≡ l = append_assoc pre (Some k ∷ []) rest ∙ e in
      let v = part_fits (pre ++ (Some k ∷ [])) rest full in
      let m = length-append pre (Some k ∷ rest) in
      let b : ltb 63 c ≡ false = le-ltb 63 c (omega (arith, ap length e, m)) in
      let o : get_or (pre ++ (None ∷ replicate (length rest) None)) c None ≡ None = get_or_at pre None (replicate (length rest) None) None c q in
      let y : good_label k.label ≡ true = (writable_at pre (Some k) rest (subst Writable (sym e) w)).label in
      let z : weighed g (pre ++ (None ∷ replicate (length rest) None)) c k ≡ Ok v.0 =
      ap (λ (x : Channels). by_verdict (look (plan g x).amounts)) (set_at pre c None (Some k) (replicate (length rest) None) q ∙ sym (append_assoc pre (Some k ∷ []) (replicate (length rest) None)))
      ∙ ap by_verdict v.1 in
      (v.0, rw (y, b, o) z)

  -- With the first tasks back in their channels, the other tasks are admitted too.
  refill : (c n : ℕ) (o : Option ℕ) (pre rest : Channels) → pre ++ rest ≡ l → length pre ≡ c → entering qs (in_turn g n o (tasks c rest) (pre ++ none rest)) ≡ (Ok tt, l)
  unfolding none in_turn
  refill c n o pre [] e q = ap (λ (x : Channels). let d : Filled = (Ok tt, x) in d) e
  refill c n o pre (None ∷ rest) e q =
      ap (λ (x : Channels). entering qs (in_turn g n o (tasks (suc c) rest) x)) (sym (append_assoc pre (None ∷ []) (replicate (length rest) None)))
      ∙ refill (suc c) n o (pre ++ (None ∷ [])) rest (append_assoc pre (None ∷ []) rest ∙ e) (length-append pre (None ∷ []) ∙ omega arith)
  refill c n o pre (Some k ∷ rest) e q =
      let v = admits c pre rest k e q in
      ap (entering qs) (entered_ok g n v.0 o (placed_in c k) (tasks (suc c) rest) (pre ++ (None ∷ replicate (length rest) None)) v.1)
      ∙ ap (λ (x : Channels). entering qs (in_turn g (suc n) (Some v.0) (tasks (suc c) rest) x)) (set_at pre c None (Some k) (replicate (length rest) None) q ∙ sym (append_assoc pre (Some k ∷ []) (replicate (length rest) None)))
      ∙ refill (suc c) (suc n) (Some v.0) (pre ++ (Some k ∷ [])) rest (append_assoc pre (Some k ∷ []) rest ∙ e) (length-append pre (Some k ∷ []) ∙ omega arith)

  refilled : entering qs (in_turn g 0 None (tasks 0 l) blank) ≡ (Ok tt, l)
  unfolding none
  refilled = ap (λ (i : ℕ). entering qs (in_turn g 0 None (tasks 0 l) (replicate i None))) (sym sixty-four) ∙ refill 0 0 None [] l refl refl

tasks_blank : (n c : ℕ) → tasks c (replicate n None) ≡ []
tasks_blank zero c = refl
tasks_blank (suc n) c = tasks_blank n (suc c)

reached_back : (g : Meaning) → Laws g → (qs : List Rec) (ks : List Call) → entering qs (in_turn g 0 None (tasks 0 (after g blank ks)) blank) ≡ (Ok tt, after g blank ks)
unfolding in_turn
reached_back g lg qs ks = go (after_stands g lg ks)
  where
    go : Accepted (plan g (after g blank ks)).amounts ⊎ (after g blank ks ≡ blank) → entering qs (in_turn g 0 None (tasks 0 (after g blank ks)) blank) ≡ (Ok tt, after g blank ks)
    go (inl a) = refilled g lg (after g blank ks) (after_writable g ks) (after_length g ks) (after_ranged g ks) a qs
    go (inr e) =
        ap (λ (x : Channels). entering qs (in_turn g 0 None (tasks 0 x) blank)) e
        ∙ ap (λ (ts : List Placed). entering qs (in_turn g 0 None ts blank)) (tasks_blank 64 0)
        ∙ ap (λ (x : Channels). let d : Filled = (Ok tt, x) in d) (sym e)

pub reads_again : (g : Meaning) → Laws g → (before : List Call) (l : Channels) (fs : List FrameParams) → l ≡ after g blank before → length fs ≤ 16 → All FrameRanges fs → ReadsAgain g l fs
reads_again g lg before l fs e h r =
    let d : decode (encode l fs) ≡ Ok (contents l fs) =
    subst (λ (x : Channels). decode (encode x fs) ≡ Ok (contents x fs)) (sym e)
    (reads_back (after g blank before) fs (omega (arith, after_length g before)) (after_writable g before) h r) in
    record {
      records = d;
      frames = taken_is (encode l fs) (tasks 0 l) fs d;
      channels = ap (λ x. filled g x blank) d
          ∙ ap (λ (ts : List Placed). entering (contents l fs) (in_turn g 0 None ts blank)) (tasks_in_order (tasks 0 l) fs)
          ∙ subst (λ (x : Channels). entering (contents l fs) (in_turn g 0 None (tasks 0 x) blank) ≡ (Ok tt, x)) (sym e) (reached_back g lg (contents l fs) before);
    }
