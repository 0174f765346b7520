-- Entries whose numbers fit: levels from 1 to 63, and at level 1 states of a byte.
use Rattle.std.proofs.Common.{◌≡◌, ℕ, zero, suc, ◌+◌, ◌-◌, ◌<◌, ◌≤◌, arith, Bool, true, false, List, [], ◌∷◌, ◌++◌, refl, sym, ap, ◌∙◌, length, get_or}
use Rattle.std.specs.Prelude.{◌&&◌, ◌==◌, nat_le, if◌then◌else◌}
use Rattle.std.specs.List.{list_all}
use Rattle.std.proofs.lemmas.Bool.{and_parts, and_from, eqb-true, eq-eqb}
use Rattle.std.proofs.lemmas.Bool.Decides.{nat_tests}
use Rattle.std.proofs.lemmas.List.Folds.{list_all-append}
use Rattle.macrocell_text.specs.declared.entry.Entry.{Entry}
use Rattle.macrocell_text.specs.declared.entry.Entry.TheVariants as entries
use Rattle.macrocell_text.specs.Macrocells.{are_entries, is_entry}

le_true : (m n : ℕ) → m ≤ n → nat_le m n ≡ true
le_true m n h = grind (arith, nat_tests)

le_from : (m n : ℕ) → nat_le m n ≡ true → m ≤ n
le_from m n h = grind (arith, nat_tests)

pub entry_if : (level nw ne sw se : ℕ) → 1 ≤ level → level ≤ 63 → (level - 1 ≡ 0 → nw ≤ 255) → (level - 1 ≡ 0 → ne ≤ 255) → (level - 1 ≡ 0 → sw ≤ 255) → (level - 1 ≡ 0 → se ≤ 255) →
    is_entry (entries.Four level nw ne sw se) ≡ true
entry_if level nw ne sw se some few a b c d = and_from _ _ (and_from _ _ (le_true 1 level some) (le_true level 63 few)) (by (level == 1) refl)
  where
    by : (b : Bool) → (level == 1) ≡ b → (if b then (nat_le nw 255 && nat_le ne 255) && (nat_le sw 255 && nat_le se 255) else true) ≡ true
    by true e =
        let zero_is : level - 1 ≡ 0 = omega (arith, eqb-true level 1 e) in
        and_from _ _ (and_from _ _ (le_true nw 255 (a zero_is)) (le_true ne 255 (b zero_is))) (and_from _ _ (le_true sw 255 (c zero_is)) (le_true se 255 (d zero_is)))
    by false e = refl

pub entries_push : (es : List Entry) (e : Entry) → are_entries es ≡ true → is_entry e ≡ true → are_entries (es ++ e ∷ []) ≡ true
entries_push es e all one = list_all-append is_entry es (e ∷ []) ∙ and_from _ _ all (and_from _ true one refl)

pub entry_got : (es : List Entry) (i : ℕ) (d : Entry) → are_entries es ≡ true → i < length es → is_entry (get_or es i d) ≡ true
entry_got [] i d all within = absurd (omega arith)
entry_got (e ∷ es) zero d all within = (and_parts (is_entry e) (are_entries es) all).0
entry_got (e ∷ es) (suc i) d all within = entry_got es i d (and_parts (is_entry e) (are_entries es) all).1 (omega (arith, within))

-- what is known of such an entry
pub record FitsBytes (level nw ne sw se : ℕ) : Type 0 where
  pub some : 1 ≤ level
  pub few : level ≤ 63
  pub nw_is : level - 1 ≡ 0 → nw ≤ 255
  pub ne_is : level - 1 ≡ 0 → ne ≤ 255
  pub sw_is : level - 1 ≡ 0 → sw ≤ 255
  pub se_is : level - 1 ≡ 0 → se ≤ 255

pub entry_fits : (level nw ne sw se : ℕ) → is_entry (entries.Four level nw ne sw se) ≡ true → FitsBytes level nw ne sw se
entry_fits level nw ne sw se is =
    let both = and_parts (nat_le 1 level && nat_le level 63) _ is in
    let low = and_parts (nat_le 1 level) (nat_le level 63) both.0 in
    let some = le_from 1 level low.0 in
    let bytes : level - 1 ≡ 0 → ((nat_le nw 255 && nat_le ne 255) && (nat_le sw 255 && nat_le se 255)) ≡ true = λ e. (
    let one : level ≡ 1 = omega (arith, e, some) in
    let told : (if level == 1 then (nat_le nw 255 && nat_le ne 255) && (nat_le sw 255 && nat_le se 255) else true) ≡ true = both.1 in
    rw (eq-eqb level 1 one) at told) in
    record {
      some = some;
      few = le_from level 63 low.1;
      nw_is = λ e. le_from nw 255 (and_parts (nat_le nw 255) (nat_le ne 255) (and_parts (nat_le nw 255 && nat_le ne 255) _ (bytes e)).0).0;
      ne_is = λ e. le_from ne 255 (and_parts (nat_le nw 255) (nat_le ne 255) (and_parts (nat_le nw 255 && nat_le ne 255) _ (bytes e)).0).1;
      sw_is = λ e. le_from sw 255 (and_parts (nat_le sw 255) (nat_le se 255) (and_parts (nat_le nw 255 && nat_le ne 255) _ (bytes e)).1).0;
      se_is = λ e. le_from se 255 (and_parts (nat_le sw 255) (nat_le se 255) (and_parts (nat_le nw 255 && nat_le ne 255) _ (bytes e)).1).1;
    }
