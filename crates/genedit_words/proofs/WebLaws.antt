-- A text that is cut at its last colon.
use Rattle.std.proofs.Common.{◌≡◌, ◌∙◌, ◌++◌, ◌||◌, Bool, true, false, true≢false, List, [], ◌∷◌, Option, Some, None, ℕ, refl, sym, ap, arith, take, drop, get_or, take-append-drop}
use Rattle.std.specs.Prelude.{MatchOption, option_map, ◌==◌}
use Rattle.std.specs.Borrow.{Bor}
use Rattle.std.specs.List.{list_any}
use Rattle.std.specs.Str.{NoCharPasses}
use Rattle.std.specs.Str.Pattern.{RFindsChar, SplitsAroundMatch}
use Rattle.std.proofs.lemmas.Bool.{ne_eqb}
use Rattle.std.proofs.lemmas.List.Recursion.{or_from_places}
use Rattle.std.proofs.lemmas.Str.Pattern.{NoCharPasses-char, drop_at_char}
use Rattle.clap.specs.Walk.{Text}
use Rattle.genedit_words.specs.WebWords.{cut_at_last_colon, cut_behind}

abbrev is_colon : ℕ → Bool
is_colon c = c == 58

neither : (a b : Bool) → (a || b) ≡ false → (a ≡ false) × (b ≡ false)
neither true b h = absurd (true≢false h)
neither false b h = (refl, h)

no_colon : (bs : Text) → NoCharPasses is_colon bs → list_any is_colon bs ≡ false
no_colon bs none = or_from_places (list_any is_colon) is_colon refl (λ x xs. refl) bs 0 (λ i within. ne_eqb (get_or bs i 0) 58 (NoCharPasses-char 58 bs i none (omega arith) within))

not_cut : (bs : Text) → list_any is_colon bs ≡ false → cut_at_last_colon bs ≡ None
not_cut [] h = refl
not_cut (c ∷ rest) h = let both = neither (is_colon c) (list_any is_colon rest) h in rw (not_cut rest both.1, both.0) refl

cut_there : (front behind : Text) → list_any is_colon behind ≡ false → cut_at_last_colon (front ++ 58 ∷ behind) ≡ Some (front, behind)
cut_there [] behind h = rw (not_cut behind h) refl
cut_there (c ∷ front) behind h = ap (cut_behind c (front ++ 58 ∷ behind)) (cut_there front behind h)

-- what std says of a cut at the last colon
pub is_cut : (bs : Text) (r : Option (Bor (List ℕ) × Bor (List ℕ))) → MatchOption r (RFindsChar 58 bs None) (λ x. SplitsAroundMatch (RFindsChar 58) bs x.0.now x.1.now)
    → option_map (λ x. (x.0.now, x.1.now)) r ≡ cut_at_last_colon bs
is_cut bs None h = sym (not_cut bs (no_colon bs h))
is_cut bs (Some x) h =
    let parted : bs ≡ take h.0 bs ++ 58 ∷ drop h.1 bs = sym (take-append-drop h.0 bs) ∙ ap (λ (l : Text). take h.0 bs ++ l) (drop_at_char 58 bs h.0 h.1 h.2.1 (omega arith)) in
    let cut : cut_at_last_colon bs ≡ Some (take h.0 bs, drop h.1 bs) = ap cut_at_last_colon parted ∙ cut_there (take h.0 bs) (drop h.1 bs) (no_colon (drop h.1 bs) h.2.0) in
    sym (cut ∙ (ap (λ (l : Text). Some (l, drop h.1 bs)) (sym h.3) ∙ ap (λ (l : Text). Some (x.0.now, l)) (sym h.4)))
