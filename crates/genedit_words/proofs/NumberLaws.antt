-- The number that an option's value spells.
use Rattle.std.specs.Option.{option_map_or}
use Rattle.std.specs.Str.{bytes_eq}
use Rattle.std.proofs.Common.{Bool, None, codes, true, false, inl, inr, ◌≡◌, ◌∙◌, ◌≤◌, ◌<◌, ◌^◌, ℕ, List, Option, Some, ap, sym, arith}
use Rattle.std.specs.Prelude.{IfSome, option_map, unwrap_or, Ok, Result, pos, ◌≤ℤ◌}
use Rattle.std.proofs.lemmas.Int.{ints}
use Rattle.std.specs.Str.Parse.{ParsesUnsigned, digits_value, signed_digits_value, without_leading_plus}
use Rattle.clap.proofs.CallerReads.{signed_reads}
use Rattle.clap.specs.Lexer.{without_minus}
use Rattle.clap.specs.Matches.{ReadsOne}
use Rattle.clap.specs.Walk.{Row, Text, one_of}
use Rattle.genedit_words.specs.Given.{HasFlag, HasNumber, MayHaveNumber}
use Rattle.genedit_words.specs.Words.{is_set, number_of}

module _ {E : Type 0} (k : ℕ) (G : List ℕ → Result ℕ E → Type 0) (only : (u : List ℕ) (x : Result ℕ E) → G u x → ParsesUnsigned k 10 u x) where
  -- what a getter of k bits reads of an option
  abbrev pub Reads : Text → List Row → Option ℕ → Type 0
  Reads id rows r = (t : List ℕ) → one_of id rows ≡ Some t → ReadsOne G t r

  pub is_within : (low high : ℕ) (id : Text) (rows : List Row) (r : Option ℕ) → Reads id rows r → high < 2 ^ k → HasNumber low high id rows
      → (n : ℕ) × (r ≡ Some n) × (low ≤ n) × (n ≤ high)
  is_within low high id rows r reads small has =
      signed_reads E G k low high has.text r (reads (without_minus has.text) has.read) only small has.within

  value_of : (t : List ℕ) (r : Option ℕ) (n : ℕ) → r ≡ Some n → ReadsOne G t r → n ≡ digits_value 10 (without_leading_plus t)
  value_of t r n is read = (only t (Ok n) (rw is at read)).1

  pub is_number : (id : Text) (rows : List Row) (r : Option ℕ) (n : ℕ) {low high : ℕ} → Reads id rows r → HasNumber low high id rows → r ≡ Some n → number_of id rows ≡ Some n
  is_number id rows r n reads has is =
      let t = without_minus has.text in
      ap (option_map (λ (u : List ℕ). digits_value 10 (without_leading_plus u))) has.read ∙ ap (λ (m : ℕ). Some m) (sym (value_of t r n is (reads t has.read)))

  -- a number that may be missing
  pub is_number_if : (low high : ℕ) (id : Text) (rows : List Row) (r : Option ℕ) → (one_of id rows ≡ None → r ≡ None) → Reads id rows r → high < 2 ^ k → MayHaveNumber low high id rows
      → number_of id rows ≡ r
  is_number_if low high id rows r none reads small (inl missing) = ap (option_map (λ (u : List ℕ). digits_value 10 (without_leading_plus u))) missing ∙ sym (none missing)
  is_number_if low high id rows r none reads small (inr has) =
      let got = is_within low high id rows r reads small has in
      is_number id rows r got.0 reads has got.1 ∙ sym got.1

  -- it, or what stands for it where it is missing, is in its range
  pub is_within_or : (low high other : ℕ) (id : Text) (rows : List Row) (r : Option ℕ) → (one_of id rows ≡ None → r ≡ None) → Reads id rows r → high < 2 ^ k
      → low ≤ other → other ≤ high → MayHaveNumber low high id rows → (low ≤ unwrap_or r other) × (unwrap_or r other ≤ high)
  is_within_or low high other id rows r none reads small least most (inl missing) = rw (none missing) (least, most)
  is_within_or low high other id rows r none reads small least most (inr has) =
      let got = is_within low high id rows r reads small has in rw got.1 (got.2, got.3)

  -- it is in its range, where it is not missing
  pub is_within_if : (low high : ℕ) (id : Text) (rows : List Row) (r : Option ℕ) → (one_of id rows ≡ None → r ≡ None) → Reads id rows r → high < 2 ^ k
      → MayHaveNumber low high id rows → IfSome r (λ n. (low ≤ n) × (n ≤ high))
  is_within_if low high id rows r none reads small (inl missing) = rw (none missing) tt
  is_within_if low high id rows r none reads small (inr has) =
      let got = is_within low high id rows r reads small has in rw got.1 (got.2, got.3)

-- ---- flags

-- what a flag's getter reads
pub is_flag : (id : Text) (rows : List Row) (r : Bool) → (one_of id rows ≡ None → r ≡ false) → (one_of id rows ≡ Some (codes "true") → r ≡ true)
    → (one_of id rows ≡ Some (codes "false") → r ≡ false) → HasFlag id rows → is_set id rows ≡ r
is_flag id rows r none value other (inl is) = ap (λ (o : Option (List ℕ)). option_map_or (λ text. bytes_eq text (codes "true")) o false) is ∙ sym (value is)
is_flag id rows r none value other (inr (inl is)) = ap (λ (o : Option (List ℕ)). option_map_or (λ text. bytes_eq text (codes "true")) o false) is ∙ sym (other is)
is_flag id rows r none value other (inr (inr is)) = ap (λ (o : Option (List ℕ)). option_map_or (λ text. bytes_eq text (codes "true")) o false) is ∙ sym (none is)

-- a narrower range
pub is_wider : (low high : ℕ) (id : Text) (rows : List Row) → high ≤ 65535 → HasNumber low high id rows → HasNumber 0 65535 id rows
is_wider low high id rows small has = record {
  text = has.text;
  read = has.read;
  within = (has.within.0, has.within.1, below low has.within.2, above high small has.within.3);
}
  where
    below : (n : ℕ) → pos n ≤ℤ signed_digits_value 10 has.text → pos 0 ≤ℤ signed_digits_value 10 has.text
    below n h = omega (arith, ints)

    above : (n : ℕ) → n ≤ 65535 → signed_digits_value 10 has.text ≤ℤ pos n → signed_digits_value 10 has.text ≤ℤ pos 65535
    above n k h = omega (arith, ints)
