-- A rule, by the text that it is printed as.
use Rattle.std.proofs.Common.{◌≡◌, ℕ, zero, suc, ◌<◌, Bool, true, false, List, [], ◌∷◌, ◌++◌, refl, sym, ◌∙◌, ap, arith, append_assoc, append-nil, map, cond, ◌+◌, ◌≤◌, length}
use Rattle.std.specs.Prelude.{Result, Ok, Err, OnOk, decimal, ◌==◌, not}
use Rattle.std.specs.Result.{is_ok}
use Rattle.std.proofs.lemmas.Fmt.{length-decimal-le}
use Rattle.std.specs.List.{list_any}
use Rattle.generations_rule.specs.Rule.{GenerationsRule, IsRule, has}
use Rattle.generations_rule.specs.RuleText.{glyph, set_of, text_of_set, is_misfit, parsed}
use Rattle.generations_rule.proofs.TextLaws.{reads_back, no_birth}
use Rattle.generations_rule.proofs.SetLaws.{text_below, text_more}

-- a count is in the set of some digits if its digit is one of them
pub has_count : (digits : List ℕ) (n : ℕ) → n < 9 → has (set_of digits) n ≡ list_any (λ byte. byte == glyph n) digits
has_count digits zero h = refl
has_count digits (suc zero) h = refl
has_count digits (suc (suc zero)) h = refl
has_count digits (suc (suc (suc zero))) h = refl
has_count digits (suc (suc (suc (suc zero)))) h = refl
has_count digits (suc (suc (suc (suc (suc zero))))) h = refl
has_count digits (suc (suc (suc (suc (suc (suc zero)))))) h = refl
has_count digits (suc (suc (suc (suc (suc (suc (suc zero))))))) h = refl
has_count digits (suc (suc (suc (suc (suc (suc (suc (suc zero)))))))) h = refl
has_count digits (suc (suc (suc (suc (suc (suc (suc (suc (suc n))))))))) h = absurd (omega arith)

abbrev is_among : List ℕ → ℕ → Bool
is_among digits byte = list_any (λ y. y == byte) digits

-- one count more of those that are printed, where its digit is among them
pub count_pushed : (old text pushed digits : List ℕ) (n : ℕ) → n < 9 → is_among digits (glyph n) ≡ true →
    text ≡ old ++ text_below (set_of digits) n → pushed ≡ text ++ glyph n ∷ [] → pushed ≡ old ++ text_below (set_of digits) (n + 1)
count_pushed old text pushed digits n small among so_far push =
    push ∙ ap (λ t. t ++ glyph n ∷ []) so_far ∙ append_assoc old (text_below (set_of digits) n) (glyph n ∷ [])
    ∙ ap (λ t. old ++ t) (sym (text_more (set_of digits) n small ∙ ap (λ b. text_below (set_of digits) n ++ map glyph (cond b (n ∷ []) [])) (has_count digits n small ∙ among)))

-- and where it is not
pub count_passed : (old text digits : List ℕ) (n : ℕ) → n < 9 → is_among digits (glyph n) ≡ false →
    text ≡ old ++ text_below (set_of digits) n → text ≡ old ++ text_below (set_of digits) (n + 1)
count_passed old text digits n small none so_far =
    so_far ∙ ap (λ t. old ++ t) (sym (text_more (set_of digits) n small
    ∙ ap (λ b. text_below (set_of digits) n ++ map glyph (cond b (n ∷ []) [])) (has_count digits n small ∙ none) ∙ append-nil (text_below (set_of digits) n)))

abbrev pub rule_of_digits : List ℕ → List ℕ → ℕ → GenerationsRule
rule_of_digits survival birth states = record { survival = set_of survival; birth = set_of birth; states = states }

is_rule : (survival birth : List ℕ) (states : ℕ) → list_any (is_misfit 1 8) birth ≡ false → 2 ≤ states → states ≤ 256 → IsRule (rule_of_digits survival birth states)
is_rule survival birth states fits least most = record { survival = refl; birth = refl; no_birth_on_none = no_birth birth fits; least = least; most = most }

-- what it is printed as is read as it
pub reads_digits : (survival birth : List ℕ) (states : ℕ) → list_any (is_misfit 1 8) birth ≡ false → 2 ≤ states → states ≤ 256 →
    parsed (text_of_set (set_of survival) ++ 47 ∷ [] ++ text_of_set (set_of birth) ++ 47 ∷ [] ++ decimal states) ≡ Ok (rule_of_digits survival birth states)
reads_digits survival birth states fits least most = reads_back (rule_of_digits survival birth states) (is_rule survival birth states fits least most)

-- and there are few digits of states
pub few_digits : (states : ℕ) → states ≤ 256 → length (decimal states) ≤ 3
few_digits states most = length-decimal-le 3 states (omega arith) (omega arith) (omega arith)

-- counts have no misfit
pub counted : (any : Bool) → not any ≡ true → any ≡ false
counted true h = absurd (cc)
counted false h = refl

-- what holds once it went well
pub went_well : {A E : Type 0} (r : Result A E) (P : Type 0) → is_ok r ≡ true → OnOk r P → P
went_well (Ok x) P ok h = h
went_well (Err e) P ok h = absurd (cc)
