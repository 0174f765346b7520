-- The laws of records.
use Rattle.std.specs.Prelude.{set}
use Rattle.std.proofs.Common.{◌≡◌, ◌≤◌, ℕ, zero, suc, List, [], ◌∷◌, ◌++◌, length, get_or, refl, sym, ap, subst, ◌∙◌, append_assoc, arith, inl, inr}
use mathlib.Core.List.{IsPrefix}
use Rattle.std.proofs.lemmas.List.{append-nil, nil_from_length, length-append}
use Rattle.std.proofs.lemmas.Bool.{cases_lt}
use Rattle.kept_records.specs.Records.{AreBodies, AreRead, BeginsNone, IsBody, record_text, head_text, records_text}
use Rattle.kept_records.specs.Laws.{IsLowered, AreRecordLaws}
use Rattle.kept_records.proofs.Lowered.{same_bytes, behind_same, shorter}
use Rattle.kept_records.proofs.FrontLaws.{same_record, head_length}

as_same : (xs ys : List ℕ) → xs ≡ ys → IsLowered xs ys
as_same xs ys e = subst (λ (l : List ℕ). IsLowered xs l) e (same_bytes xs)

-- no record's text begins another's
pub apart : (a b more rest : List ℕ) → IsBody a → IsBody b → record_text a ++ more ≡ record_text b ++ rest → (a ≡ b) × (more ≡ rest)
apart a b more rest is_a is_b e =
    let there = same_record a b more rest is_a is_b (as_same _ _ e) in
    let same : a ≡ b = there.0 in
    (same, cancel (record_text b) more rest (ap (λ (l : List ℕ). record_text l ++ more) (sym same) ∙ e))
  where
    cancel : (front xs ys : List ℕ) → front ++ xs ≡ front ++ ys → xs ≡ ys
    cancel [] xs ys e = e
    cancel (x ∷ front) xs ys e = cancel front xs ys (ap (λ (l : List ℕ). drop_one l) e)
      where
        drop_one : List ℕ → List ℕ
        drop_one [] = []
        drop_one (x ∷ l) = l

begins : (body : List ℕ) (bodies : List (List ℕ)) (rest : List ℕ) → records_text (body ∷ bodies) ++ rest ≡ record_text body ++ (records_text bodies ++ rest)
begins body bodies rest = append_assoc (record_text body) (records_text bodies) rest

pub one_way : (bytes : List ℕ) (bodies others : List (List ℕ)) (rest left : List ℕ) → bytes ≡ records_text bodies ++ rest → bytes ≡ records_text others ++ left
    → AreBodies bodies → AreBodies others → BeginsNone rest → BeginsNone left → (bodies ≡ others) × (rest ≡ left)
one_way bytes [] [] rest left e f are also ends stops = (refl, sym e ∙ f)
one_way bytes [] (b ∷ others) rest left e f are also ends stops = absurd (ends b (records_text others ++ left) also.0 (sym e ∙ f ∙ begins b others left))
one_way bytes (b ∷ bodies) [] rest left e f are also ends stops = absurd (stops b (records_text bodies ++ rest) are.0 (sym f ∙ e ∙ begins b bodies rest))
one_way bytes (b ∷ bodies) (c ∷ others) rest left e f are also ends stops =
    let there = apart b c (records_text bodies ++ rest) (records_text others ++ left) are.0 also.0 (sym (begins b bodies rest) ∙ sym e ∙ f ∙ begins c others left) in
    let more = one_way (records_text bodies ++ rest) bodies others rest left refl there.1 are.1 also.1 ends stops in
    let head : b ≡ c = there.0 in
    let tail : bodies ≡ others = more.0 in
    (λ i. head i ∷ tail i, more.1)

pub texts_append : (xs ys : List (List ℕ)) → records_text (xs ++ ys) ≡ records_text xs ++ records_text ys
texts_append [] ys = refl
texts_append (x ∷ xs) ys = ap (λ (l : List ℕ). record_text x ++ l) (texts_append xs ys) ∙ sym (append_assoc (record_text x) (records_text xs) (records_text ys))

pub both_bodies : (xs ys : List (List ℕ)) → AreBodies xs → AreBodies ys → AreBodies (xs ++ ys)
both_bodies [] ys are also = also
both_bodies (x ∷ xs) ys are also = (are.0, both_bodies xs ys are.1 also)

pub again : (bodies : List (List ℕ)) (more : List ℕ) (others : List (List ℕ)) (rest : List ℕ) → AreBodies bodies → AreRead more others rest → AreRead (records_text bodies ++ more) (bodies ++ others) rest
again bodies more others rest are read = record {
  spelt = ap (λ (l : List ℕ). records_text bodies ++ l) read.spelt ∙ sym (append_assoc (records_text bodies) (records_text others) rest) ∙ ap (λ (l : List ℕ). l ++ rest) (sym (texts_append bodies others));
  are = both_bodies bodies others are read.are;
  ends = read.ends;
}

no_room : (g : List ℕ) (got : List (List ℕ)) (rest : List ℕ) → length (records_text (g ∷ got) ++ rest) ≤ 0 → ⊥
no_room g got rest short =
    absurd (omega (arith, short, ap length (begins g got rest), length-append (record_text g) (records_text got ++ rest), length-append (head_text g) g, head_length g))

-- bytes that got less
pub less : (bodies got : List (List ℕ)) (rest : List ℕ) → AreBodies bodies → AreBodies got → IsLowered (records_text got ++ rest) (records_text bodies) → IsPrefix got bodies
less bodies [] rest are also low = (bodies, refl)
less [] (g ∷ got) rest are also low = absurd (no_room g got rest (shorter (records_text (g ∷ got) ++ rest) [] low))
less (b ∷ bodies) (g ∷ got) rest are also low =
    let there = same_record g b (records_text got ++ rest) (records_text bodies) also.0 are.0 (subst (λ (l : List ℕ). IsLowered l (records_text (b ∷ bodies))) (begins g got rest) low) in
    let more = less bodies got rest are.1 also.1 there.1 in
    let head : g ≡ b = there.0 in
    let tail : got ++ more.0 ≡ bodies = more.1 in
    (more.0, λ i. head i ∷ tail i)

-- bytes that got greater
pub greater : (bodies got : List (List ℕ)) (rest : List ℕ) → AreBodies bodies → AreBodies got → IsLowered (records_text bodies) (records_text got ++ rest)
    → length (records_text got ++ rest) ≤ length (records_text bodies) → IsPrefix got bodies
greater bodies [] rest are also low long = (bodies, refl)
greater [] (g ∷ got) rest are also low long = absurd (no_room g got rest long)
greater (b ∷ bodies) (g ∷ got) rest are also low long =
    let there = same_record b g (records_text bodies) (records_text got ++ rest) are.0 also.0 (subst (λ (l : List ℕ). IsLowered (records_text (b ∷ bodies)) l) (begins g got rest) low) in
    let same : record_text b ≡ record_text g = ap record_text there.0 in
    let shorter_rest : length (records_text got ++ rest) ≤ length (records_text bodies) =
    omega (arith, long, ap length same, ap length (begins g got rest), length-append (record_text g) (records_text got ++ rest), length-append (record_text b) (records_text bodies)) in
    let more = greater bodies got rest are.1 also.1 there.1 shorter_rest in
    let head : g ≡ b = sym there.0 in
    let tail : got ++ more.0 ≡ bodies = more.1 in
    (more.0, λ i. head i ∷ tail i)

-- what is whole in front is read
pub keeps : (kept got : List (List ℕ)) (left rest : List ℕ) → AreBodies kept → AreBodies got → BeginsNone rest → records_text kept ++ left ≡ records_text got ++ rest → IsPrefix kept got
keeps [] got left rest are also ends e = (got, refl)
keeps (k ∷ kept) [] left rest are also ends e = absurd (ends k (records_text kept ++ left) are.0 (sym e ∙ begins k kept left))
keeps (k ∷ kept) (g ∷ got) left rest are also ends e =
    let there = apart k g (records_text kept ++ left) (records_text got ++ rest) are.0 also.0 (sym (begins k kept left) ∙ e ∙ begins g got rest) in
    let more = keeps kept got left rest are.1 also.1 ends there.1 in
    let head : k ≡ g = there.0 in
    let tail : kept ++ more.0 ≡ got = more.1 in
    (more.0, λ i. head i ∷ tail i)

set_low : (xs : List ℕ) (i x : ℕ) → x ≤ get_or xs i 0 → IsLowered (set xs i x) xs
set_low [] i x le = tt
set_low (y ∷ xs) zero x le = (le, same_bytes xs)
set_low (y ∷ xs) (suc i) x le = (omega arith, set_low xs i x le)

set_high : (xs : List ℕ) (i x : ℕ) → get_or xs i 0 ≤ x → IsLowered xs (set xs i x)
set_high [] i x le = tt
set_high (y ∷ xs) zero x le = (le, same_bytes xs)
set_high (y ∷ xs) (suc i) x le = (omega arith, set_high xs i x le)

set_long : (xs : List ℕ) (i x : ℕ) → length (set xs i x) ≡ length xs
set_long [] i x = refl
set_long (y ∷ xs) zero x = refl
set_long (y ∷ xs) (suc i) x = ap suc (set_long xs i x)

lowered_prefix : (kept later : List (List ℕ)) (left : List ℕ) (got : List (List ℕ)) (rest : List ℕ) → AreBodies kept → AreBodies later → IsLowered left (records_text later)
    → AreRead (records_text kept ++ left) got rest → IsPrefix got (kept ++ later)
lowered_prefix kept later left got rest are also low read =
    let whole : IsLowered (records_text kept ++ left) (records_text (kept ++ later)) =
    subst (λ (l : List ℕ). IsLowered (records_text kept ++ left) l) (sym (texts_append kept later)) (behind_same (records_text kept) left (records_text later) low) in
    less (kept ++ later) got rest (both_bodies kept later are also) read.are (subst (λ (l : List ℕ). IsLowered l (records_text (kept ++ later))) read.spelt whole)

raised_prefix : (bodies : List (List ℕ)) (bytes : List ℕ) (got : List (List ℕ)) (rest : List ℕ) → AreBodies bodies → IsLowered (records_text bodies) bytes → length bytes ≡ length (records_text bodies)
    → AreRead bytes got rest → IsPrefix got bodies
raised_prefix bodies bytes got rest are low long read =
    greater bodies got rest are read.are (subst (λ (l : List ℕ). IsLowered (records_text bodies) l) read.spelt low) (omega (arith, long, ap length read.spelt))

changed_prefix : (bodies : List (List ℕ)) (i x : ℕ) (got : List (List ℕ)) (rest : List ℕ) → AreBodies bodies
    → AreRead (set (records_text bodies) i x) got rest → IsPrefix got bodies
changed_prefix bodies i x got rest are read = elim (cases_lt x (get_or (records_text bodies) i 0)) [
  | inl less_now ↦ lowered_prefix [] bodies (set (records_text bodies) i x) got rest tt are (set_low (records_text bodies) i x (omega (arith, less_now))) read
  | inr no_less ↦ raised_prefix bodies (set (records_text bodies) i x) got rest are (set_high (records_text bodies) i x (omega (arith, no_less))) (set_long (records_text bodies) i x) read
]

-- a text that is as long as that of what is read of it is that text
all_read : (bodies : List (List ℕ)) (bytes rest : List ℕ) → length bytes ≡ length (records_text bodies) → bytes ≡ records_text bodies ++ rest → bytes ≡ records_text bodies
all_read bodies bytes rest long e =
    let none : rest ≡ [] = nil_from_length rest (omega (arith, long, ap length e, length-append (records_text bodies) rest)) in
    e ∙ ap (λ (l : List ℕ). records_text bodies ++ l) none ∙ append-nil (records_text bodies)

pub record_laws_hold : AreRecordLaws
record_laws_hold = record {
  one = λ bytes bodies others rest left read also. one_way bytes bodies others rest left read.spelt also.spelt read.are also.are read.ends also.ends;
  again = again;
  lowered = λ kept later left got rest are also low read. (keeps kept got left rest are read.are read.ends read.spelt, lowered_prefix kept later left got rest are also low read);
  raised = raised_prefix;
  changed = λ bodies i x got rest are other read. (
    changed_prefix bodies i x got rest are read,
    λ same. other (all_read bodies (set (records_text bodies) i x) rest (set_long (records_text bodies) i x) (read.spelt ∙ ap (λ (l : List (List ℕ)). records_text l ++ rest) same)),
  );
}
