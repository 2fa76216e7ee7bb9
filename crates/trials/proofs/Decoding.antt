-- Hexadecimal as the library reads it, part by part.
use Rattle.std.proofs.Common.{◌≡◌, ◌≢◌, ℕ, ◌+◌, ◌*◌, ◌/◌, ◌%◌, List, [], ◌∷◌, ◌++◌, length, length-append, Some, None, Option, Ok, Err, true, false, inl, inr, sym, refl, ap, ◌∙◌, append_assoc, arith}
use Rattle.std.specs.Prelude.{min, if◌then◌else◌, Result, MatchResult}
use Rattle.std.specs.Option.{option_map}
use Rattle.std.specs.Result.{is_err, result_ok}
use Rattle.std.proofs.lemmas.Bool.{cases_eq}
use Rattle.hex.specs.Hex.{decode_pairs, decode_sized, digit_or_error, hex_digit_value, ◌>>=◌}
use Rattle.hex.specs.declared.error.FromHexError.{FromHexError}
use Rattle.hex.proofs.HexLemmas.{decode_of-even, decode_sized-odd, decode_sized-twice}
use Rattle.trials.specs.Hex.{digit, pair, after, unhex}

-- The library's digits are these.
same_digit : (c : ℕ) → hex_digit_value c ≡ digit c
same_digit c = grind arith

-- What the library makes of two digits and the bytes behind them.
abbrev joined : ℕ → ℕ → ℕ → Option ℕ → Option ℕ → Result (List ℕ) FromHexError → Result (List ℕ) FromHexError
joined i a b high low rest =
    (digit_or_error a i high >>= λ h. digit_or_error b (i + 1) low >>= λ l. Ok (h * 16 + l)) >>= λ byte. rest >>= λ bytes. Ok (byte ∷ bytes)

joined_after : (i a b : ℕ) (high low : Option ℕ) (rest : Result (List ℕ) FromHexError)
    → result_ok (joined i a b high low rest) ≡ after (pair high low) (result_ok rest)
joined_after i a b None low rest = refl
joined_after i a b (Some h) None rest = refl
joined_after i a b (Some h) (Some l) (Ok bytes) = refl
joined_after i a b (Some h) (Some l) (Err e) = refl

-- The library's pairs of digits write these bytes.
by_pairs : (i : ℕ) (text : List ℕ) → result_ok (decode_pairs i text) ≡ unhex text
unfolding decode_pairs
by_pairs i [] = refl
by_pairs i (a ∷ []) = refl
by_pairs i (a ∷ b ∷ rest) =
    joined_after i a b (hex_digit_value a) (hex_digit_value b) (decode_pairs (i + 2) rest)
    ∙ rw (same_digit a, same_digit b, by_pairs (i + 2) rest) refl

after_none : (p : Option ℕ) → after p None ≡ None
after_none None = refl
after_none (Some b) = refl

-- A digit is left over.
left_over : (text : List ℕ) → length text % 2 ≢ 0 → unhex text ≡ None
left_over [] h = absurd (h refl)
left_over (a ∷ []) h = refl
left_over (a ∷ b ∷ rest) h =
    let odd : length rest % 2 ≢ 0 = omega arith in
    ap (after (pair (digit a) (digit b))) (left_over rest odd) ∙ after_none (pair (digit a) (digit b))

-- With room for half as many bytes, the library reads these.
by_library : (text : List ℕ) (n : ℕ) → n ≡ length text / 2 → result_ok (decode_sized text n) ≡ unhex text
by_library text n half =
    elim (cases_eq (length text % 2) 0) [
      | inl even ↦ ap result_ok (decode_sized-twice text n (omega arith) ∙ decode_of-even text even) ∙ by_pairs 0 text
      | inr odd ↦ ap result_ok (decode_sized-odd text n (omega arith)) ∙ sym (left_over text odd)
    ]

-- The bytes of two texts, one behind the other.
abbrev both : Option (List ℕ) → Option (List ℕ) → Option (List ℕ)
both None more = None
both (Some bs) more = option_map (λ cs. bs ++ cs) more

after_both : (p : Option ℕ) (o more : Option (List ℕ)) → after p (both o more) ≡ both (after p o) more
after_both None o more = refl
after_both (Some b) None more = refl
after_both (Some b) (Some bs) None = refl
after_both (Some b) (Some bs) (Some cs) = refl

none_before : (o : Option (List ℕ)) → both (Some []) o ≡ o
none_before None = refl
none_before (Some bs) = refl

by_both : (part rest : List ℕ) → length part % 2 ≡ 0 → unhex (part ++ rest) ≡ both (unhex part) (unhex rest)
by_both [] rest even = sym (none_before (unhex rest))
by_both (a ∷ []) rest even = absurd (omega arith)
by_both (a ∷ b ∷ part) rest even =
    ap (after (pair (digit a) (digit b))) (by_both part rest (omega arith)) ∙ after_both (pair (digit a) (digit b)) (unhex part) (unhex rest)

-- A part of an even length, or the last one.
unhex-append : (part rest : List ℕ) (n : ℕ) → length part ≡ min (2 * n) (length (part ++ rest)) → unhex (part ++ rest) ≡ both (unhex part) (unhex rest)
unhex-append part rest n cut =
    elim (cases_eq (length part % 2) 0) [
      | inl even ↦ by_both part rest even
      | inr odd ↦
          let len = length-append part rest in
          let left : length (part ++ rest) % 2 ≢ 0 = omega (arith, len) in
          left_over (part ++ rest) left ∙ ap (λ o. both o (unhex rest)) (sym (left_over part odd))
    ]

-- The bytes read so far, and then those of the text that is left.
abbrev pub whole : List ℕ → List ℕ → Option (List ℕ)
whole bs text = option_map (λ cs. bs ++ cs) (unhex text)

pub begun : (text : List ℕ) → whole [] text ≡ unhex text
begun text = none_before (unhex text)

-- Bytes moved from the text that is left to those that were read.
moved : (bs read : List ℕ) (o : Option (List ℕ)) → option_map (λ cs. (bs ++ read) ++ cs) o ≡ option_map (λ cs. bs ++ cs) (both (Some read) o)
moved bs read None = refl
moved bs read (Some cs) = ap (λ ds. Some ds) (append_assoc bs read cs)

-- What the library answers and writes.
abbrev pub Reads : Result (List ℕ) FromHexError → Result Unit FromHexError → List ℕ → Type 0
Reads d r read = MatchResult d (λ bytes. (r ≡ Ok tt) × (read ≡ bytes)) (λ e. r ≡ Err e)

some_read : (d : Result (List ℕ) FromHexError) (r : Result Unit FromHexError) (read : List ℕ)
    → Reads d r read → result_ok d ≡ (if is_err r then None else Some read)
some_read (Ok bytes) r read h = rw (h.0, h.1) refl
some_read (Err e) r read h = rw h refl

module _ (bs part rest read : List ℕ) (n most : ℕ) (r : Result Unit FromHexError) (half : n ≡ length part / 2)
    (reads : Reads (decode_sized part n) r read) (cut : length part ≡ min (2 * most) (length (part ++ rest))) where
  says : unhex (part ++ rest) ≡ both (if is_err r then None else Some read) (unhex rest)
  says = unhex-append part rest most cut ∙ ap (λ o. both o (unhex rest)) (sym (by_library part n half) ∙ some_read (decode_sized part n) r read reads)

  -- A part was read.
  pub read_on : is_err r ≡ false → whole (bs ++ read) rest ≡ whole bs (part ++ rest)
  read_on ok = moved bs read (unhex rest) ∙ ap (option_map (λ cs. bs ++ cs)) (sym (rw ok at says))

  -- A part was refused.
  pub stopped : is_err r ≡ true → None ≡ whole bs (part ++ rest)
  stopped bad = ap (option_map (λ cs. bs ++ cs)) (sym (rw bad at says))
