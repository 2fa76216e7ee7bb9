-- Several tasks put into their channels at once, which is how they are admitted. Only private contracts name these words.
use Rattle.std.specs.Prelude.{◌≡◌, ℕ, ◌<◌, List, [], ◌∷◌, ◌++◌, ◌+◌, length, take, get_or, Some, Ok, Err, Option, Result, slice_set}
use Rattle.theory.specs.Meaning.{Meaning}
use Rattle.loads.specs.declared.refusal.Refusal.{Refusal}
use Rattle.loads.specs.declared.refusal.Refusal.TheVariants.{ChannelFilled}
use Rattle.loads.specs.Channels.{Content}
use Rattle.plan.specs.Ledger.{Ledger, labelled, at_channel, admitted}
use Rattle.plan.specs.Admissions.{Placed, in_turn}

-- The checks of admit before its verdict: 15, 7, 8.
abbrev pub vacant : Ledger → ℕ → Content → Result (Unit {0}) Refusal
vacant l c k = labelled k (at_channel l c (λ old. Err ChannelFilled) (Ok tt))

-- The ledger with one task more, and with several.
abbrev pub put_one : Ledger → Placed → Ledger
put_one l x = slice_set l x.channel (Some x.content)

abbrev pub put_all : Ledger → List Placed → Ledger
put_all l [] = l
put_all l (x ∷ xs) = put_all (put_one l x) xs

-- Each of them passes those checks, after those before it were put in.
abbrev pub EachVacant : Ledger → List Placed → Type 0
EachVacant l [] = Unit {0}
EachVacant l (x ∷ xs) = (vacant l x.channel x.content ≡ Ok tt) × EachVacant (put_one l x) xs

-- `x` stands at place n.
abbrev pub At : List Placed → ℕ → Placed → Type 0
At xs n x = (n < length xs) × (x ≡ get_or xs n x)

-- All are put in; or those before the first that its checks keep out.
abbrev pub PutIn : Ledger → List Placed → Result (Unit {0}) (ℕ × Refusal) → Ledger → Type 0
PutIn l xs (Ok u) m = EachVacant l xs × (m ≡ put_all l xs)
PutIn l xs (Err p) m = EachVacant l (take p.0 xs) × (m ≡ put_all l (take p.0 xs)) × ((x : Placed) × At xs p.0 x × (vacant m x.channel x.content ≡ Err p.1))

-- All are admitted one after another, and `w` is the answer to the last.
abbrev pub AllGranted : Meaning → Ledger → List Placed → ℕ → Ledger → Type 0
AllGranted g l xs w m = (m ≡ put_all l xs) × ((n : ℕ) (o : Option ℕ) (ys : List Placed) → in_turn g n o (xs ++ ys) l ≡ in_turn g (n + length xs) (Some w) ys m)

-- All are admitted; or those before the task at place p.0 are in, which is refused.
abbrev pub Tried : Meaning → Ledger → List Placed → Result ℕ (ℕ × Refusal) → Ledger → Type 0
Tried g l xs (Ok w) m = AllGranted g l xs w m
Tried g l xs (Err p) m = EachVacant l (take p.0 xs) × (m ≡ put_all l (take p.0 xs)) × ((x : Placed) × At xs p.0 x × (admitted g m x.channel x.content ≡ Err p.1))

-- All are admitted; or the ledger is as before, and the task at place p.0 is refused after those before it.
abbrev pub Together : Meaning → Ledger → List Placed → Result ℕ (ℕ × Refusal) → Ledger → Type 0
Together g l xs (Ok w) m = AllGranted g l xs w m
Together g l xs (Err p) m = (m ≡ l) × ((x : Placed) × At xs p.0 x × (admitted g (put_all l (take p.0 xs)) x.channel x.content ≡ Err p.1))
