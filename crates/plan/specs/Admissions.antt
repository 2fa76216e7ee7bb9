-- Several tasks admitted one after another.
use Rattle.std.specs.Prelude.{ℕ, suc, List, [], ◌∷◌, map, length, take, Some, Ok, Err, Option, Result, slice_set}
use Rattle.theory.specs.Meaning.{Meaning}
use Rattle.loads.specs.declared.refusal.Refusal.{Refusal}
use Rattle.loads.specs.declared.entry.Entry.{Entry}
use Rattle.loads.specs.Channels.{Content, content}
use Rattle.plan.specs.declared.call.Call.{Call}
use Rattle.plan.specs.declared.call.Call.TheVariants.{Admit}
use Rattle.plan.specs.Ledger.{Ledger, admitted}

-- A task for a channel: the channel, and the label and task that are to stand there.
pub record Placed : Type 0 where
  pub channel : ℕ
  pub content : Content

-- Channel and entry of the code, by plain numbers.
abbrev pub placed : ℕ × Entry → Placed
placed p = record { channel = p.0; content = content p.1 }

-- What admitting several tasks answers, and the ledger then. The answer is the busy period of the plan with all of them,
-- or the place among them of the first that is refused, and why.
abbrev pub InTurn : Type 0
InTurn = Result (Option ℕ) (ℕ × Refusal) × Ledger

-- The tasks are admitted one after another, up to the first that is refused; those before it stay. The first of them has
-- place n, and `last` is the answer where there are none.
unfoldable pub in_turn : Meaning → ℕ → Option ℕ → List Placed → Ledger → InTurn
in_turn g n last [] l = (Ok last, l)
in_turn g n last (x ∷ xs) l = elim (admitted g l x.channel x.content) [
  | Err r ↦ (Err (n, r), l)
  | Ok w ↦ in_turn g (suc n) (Some w) xs (slice_set l x.channel (Some x.content))
]

-- How many of `all` tasks were tried: all, or those up to the refused one.
abbrev pub tried : {X : Type 0} → ℕ → Result X (ℕ × Refusal) → ℕ
tried all (Ok x) = all
tried all (Err p) = suc p.0

-- The calls that admit the entries, one call each.
abbrev pub admits : List (ℕ × Entry) → List Call
admits xs = map (λ x. Admit x.0 x.1) xs

-- Those that were tried, where the answer was `r`.
abbrev pub tried_calls : {X : Type 0} → Result X (ℕ × Refusal) → List (ℕ × Entry) → List Call
tried_calls r xs = admits (take (tried (length xs) r) xs)
