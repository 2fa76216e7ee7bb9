-- A loop over places in which tasks can stand: what is found so far, and what the tasks ahead add to it, make the whole.
use Rattle.std.proofs.Common.{◌≡◌, refl, ℕ, ◌+◌, ◌<◌, ◌≤◌, min, max, List, [], ◌∷◌, length, get_or, drop, Some, None, Option, option_map, filter_map, sym, ap, ◌∙◌, arith}
use Rattle.std.specs.Borrow.{Bor}
use Rattle.std.specs.List.{cons_option}
use Rattle.std.proofs.lemmas.List.{at_drop_more, at_drop_all}
use Rattle.theory.specs.Meaning.{last_mark, later}
use Rattle.theory.proofs.LastMark.{last_none, later_none, later_assoc}
use Rattle.loads.specs.declared.task.Task.{Task}
use Rattle.loads.specs.Params.{TaskParams}
use Rattle.loads.specs.declared.entry.Entry.{Entry}
use Rattle.loads.specs.declared.table.Slot.{Slot}
use Rattle.loads.specs.Making.{task_params}
use Rattle.loads.specs.Channels.{put_before, held_content, held_params, slot_params}
use Rattle.loads.specs.Ranged.{tasks_in}
use Rattle.loads.specs.Places.{params_behind}
use Rattle.loads.specs.Tasks.{total, largest, any, task_mark}
use Rattle.loads.specs.TaskMarks.{last_cons}

-- The last mark of the tasks below t.
abbrev pub last_of : List TaskParams → ℕ → Option ℕ
last_of xs t = last_mark (λ u. any (λ x. task_mark x u) xs) t

module _ {P : Type 0} (held : P → Option TaskParams) (ps : List P) (i : ℕ) where
  -- the tasks from place i on
  abbrev pub ahead : List TaskParams
  ahead = filter_map held (drop i ps)

  -- and from the next place on
  abbrev pub after : List TaskParams
  after = filter_map held (drop (i + 1) ps)

  -- the tasks of all places
  abbrev pub all : List TaskParams
  all = filter_map held ps

  pub none_ahead : length ps ≤ i → ahead ≡ []
  none_ahead h = at_drop_all (filter_map held) ps i h

  -- at the end: a sum cut at 2^40, which is 1099511627776, the largest, and the last mark
  pub total_end : (f : TaskParams → ℕ) (a : ℕ) → length ps ≤ i → a ≤ 1099511627776 → min (a + total f ahead) 1099511627776 ≡ min (total f all) 1099511627776 → a ≡ min (total f all) 1099511627776
  total_end f a h l v = omega (arith, ap (total f) (none_ahead h))

  pub largest_end : (f : TaskParams → ℕ) (a : ℕ) → length ps ≤ i → max a (largest f ahead) ≡ largest f all → a ≡ largest f all
  largest_end f a h v = omega (arith, ap (largest f) (none_ahead h))

  pub last_end : (t : ℕ) (a : Option ℕ) → length ps ≤ i → later a (last_of ahead t) ≡ last_of all t → a ≡ last_of all t
  last_end t a h v = sym (later_none a) ∙ ap (later a) (sym (last_none t)) ∙ ap (λ xs. later a (last_of xs t)) (sym (none_ahead h)) ∙ v

  module _ (p : P) (h : i < length ps) (e : p ≡ get_or ps i p) where
    pub one_ahead : (o : Option (Bor Task)) → option_map params_behind o ≡ held p → ahead ≡ cons_option (option_map params_behind o) after
    one_ahead o q = at_drop_more (filter_map held) ps i p h ∙ ap (λ x. cons_option (held x) after) (sym e) ∙ ap (λ x. cons_option x after) (sym q)

    -- a place without a task
    pub skip : option_map params_behind None ≡ held p → ahead ≡ after
    skip q = one_ahead None q

    -- a place with a task: what it adds is cut at the largest u64, and then at 2^40
    module _ (x : Bor Task) (q : option_map params_behind (Some x) ≡ held p) where
      pub total_turn : (f : TaskParams → ℕ) (a n w : ℕ) → n ≡ f (params_behind x) → min (a + total f ahead) 1099511627776 ≡ w → min (min (min (a + n) 18446744073709551615) 1099511627776 + total f after) 1099511627776 ≡ w
      total_turn f a n w k v = omega (arith, ap (total f) (one_ahead (Some x) q))

      pub largest_turn : (f : TaskParams → ℕ) (a n w : ℕ) → n ≡ f (params_behind x) → max a (largest f ahead) ≡ w → max (max a n) (largest f after) ≡ w
      largest_turn f a n w k v = omega (arith, ap (largest f) (one_ahead (Some x) q))

      pub last_turn : (t : ℕ) (a n w : Option ℕ) → n ≡ last_mark (task_mark (params_behind x)) t → later a (last_of ahead t) ≡ w → later (later a n) (last_of after t) ≡ w
      last_turn t a n w k v =
          ap (λ (o : Option ℕ). later (later a o) (last_of after t)) k
          ∙ sym (later_assoc a (last_mark (task_mark (params_behind x)) t) (last_of after t))
          ∙ ap (later a) (sym (last_cons (params_behind x) after t))
          ∙ ap (λ (xs : List TaskParams). later a (last_of xs t)) (sym (one_ahead (Some x) q))
          ∙ v

-- The tasks of slots in their places are those of the filled ones.
slot_stands : (o : Option Entry) (ps qs : List TaskParams) → ps ≡ qs → cons_option (held_params o) ps ≡ put_before (held_content o) qs
slot_stands None ps qs e = e
slot_stands (Some k) ps qs e = ap (λ (xs : List TaskParams). task_params k.task ∷ xs) e

pub slots_stand : (ss : List Slot) → filter_map slot_params ss ≡ tasks_in ss
slots_stand [] = refl
slots_stand (s ∷ ss) = slot_stands s.held (filter_map slot_params ss) (tasks_in ss) (slots_stand ss)
