-- Reading records one by one.
use Rattle.std.proofs.Common.{◌≡◌, ◌≤◌, ◌<◌, ◌+◌, ◌-◌, ℕ, List, [], ◌∷◌, ◌++◌, length, take, drop, refl, sym, ap, subst, ◌∙◌, append_assoc, arith}
use Rattle.std.proofs.Common.{inl, inr}
use Rattle.std.proofs.lemmas.Bool.{cases_lt}
use Rattle.std.proofs.lemmas.List.{append-nil, length-append, length-drop, take_at, drop_at}
use Rattle.kept_records.specs.Records.{AreBodies, AreRead, BeginsNone, IsBody, IsNextWhole, record_text, records_text, head_text}
use Rattle.kept_records.proofs.FrontLaws.{head_length, parts}
use Rattle.kept_records.proofs.LawProofs.{texts_append, both_bodies}

-- some bodies are read, and this is left
pub record IsReadTo (bytes : List ℕ) (bodies : List (List ℕ)) (rest : List ℕ) : Type 0 where
  pub spelt : bytes ≡ records_text bodies ++ rest
  pub are : AreBodies bodies

pub none_yet : (bytes : List ℕ) (bodies : List (List ℕ)) → bodies ≡ [] → IsReadTo bytes bodies bytes
none_yet bytes bodies none = subst (λ (l : List (List ℕ)). IsReadTo bytes l bytes) (sym none) (record { spelt = refl; are = tt })

pub one_more : (bytes : List ℕ) (bodies more : List (List ℕ)) (rest body behind : List ℕ) → IsReadTo bytes bodies rest → IsBody body → rest ≡ record_text body ++ behind → more ≡ bodies ++ body ∷ [] → IsReadTo bytes more behind
one_more bytes bodies more rest body behind so_far is e is_more =
    let text : records_text (bodies ++ body ∷ []) ≡ records_text bodies ++ record_text body = texts_append bodies (body ∷ []) ∙ ap (λ (l : List ℕ). records_text bodies ++ l) (append-nil (record_text body)) in
    let spelt : bytes ≡ records_text (bodies ++ body ∷ []) ++ behind =
    so_far.spelt ∙ ap (λ (l : List ℕ). records_text bodies ++ l) e ∙ sym (append_assoc (records_text bodies) (record_text body) behind) ∙ ap (λ (l : List ℕ). l ++ behind) (sym text) in
    subst (λ (l : List (List ℕ)). IsReadTo bytes l behind) (sym is_more) (record { spelt = spelt; are = both_bodies bodies (body ∷ []) so_far.are (is, tt) })

pub gets_shorter : (rest body behind : List ℕ) → rest ≡ record_text body ++ behind → length behind < length rest
gets_shorter rest body behind e =
    omega (arith, ap length e, length-append (record_text body) behind, length-append (head_text body) body, head_length body)

pub all_read : (bytes : List ℕ) (bodies : List (List ℕ)) (rest : List ℕ) (whole : ℕ) → IsReadTo bytes bodies rest → BeginsNone rest → whole ≡ length bytes - length rest
    → AreRead bytes bodies (drop whole bytes) × (whole ≤ length bytes) × (records_text bodies ≡ take whole bytes)
all_read bytes bodies rest whole so_far none is =
    let long : length (records_text bodies) ≡ whole = omega (arith, is, ap length so_far.spelt, length-append (records_text bodies) rest) in
    let behind : drop whole bytes ≡ rest = ap (λ (l : List ℕ). drop whole l) so_far.spelt ∙ drop_at (records_text bodies) rest whole long in
    let front : take whole bytes ≡ records_text bodies = ap (λ (l : List ℕ). take whole l) so_far.spelt ∙ take_at (records_text bodies) rest whole long in (
      subst (λ (l : List ℕ). AreRead bytes bodies l) (sym behind) (record { spelt = so_far.spelt; are = so_far.are; ends = none }),
      omega (arith, is),
      sym front,
    )

-- ---- records wherever they begin

none_in_few : (bytes : List ℕ) → length bytes < 20 → BeginsNone bytes
none_in_few bytes few body rest is e = absurd (omega (arith, few, (parts bytes body rest is e).long))

pub none_past : (bytes : List ℕ) (n : ℕ) → length bytes ≤ n → BeginsNone (drop n bytes)
none_past bytes n past = none_in_few (drop n bytes) (omega (arith, past, length-drop n bytes))

-- no record begins at a place from one on, up to another
abbrev pub BeginNone : List ℕ → ℕ → ℕ → Type 0
BeginNone bytes from to = (n : ℕ) → from ≤ n → n < to → BeginsNone (drop n bytes)

pub none_at_one_more : (bytes : List ℕ) (from to : ℕ) → BeginNone bytes from to → BeginsNone (drop to bytes) → BeginNone bytes from (to + 1)
none_at_one_more bytes from to none here n behind before = elim (cases_lt n to) [
  | inl less ↦ none n behind less
  | inr no_less ↦ (let same : to ≡ n = omega (arith, no_less, before) in subst (λ (m : ℕ). BeginsNone (drop m bytes)) same here)
]

pub none_from : (bytes : List ℕ) (from to : ℕ) → BeginNone bytes from to → length bytes ≤ to → (n : ℕ) → from ≤ n → BeginsNone (drop n bytes)
none_from bytes from to none all n behind = elim (cases_lt n to) [
  | inl less ↦ none n behind less
  | inr no_less ↦ none_past bytes n (omega (arith, no_less, all))
]

pub next_found : (bytes : List ℕ) (from start : ℕ) (body behind : List ℕ) → from ≤ start → BeginNone bytes from start → IsBody body → drop start bytes ≡ record_text body ++ behind
    → IsNextWhole bytes from start body
next_found bytes from start body behind later none is e = record { behind = later; begins = record { is = is; behind = behind; spelt = e }; first = none }

pub found_within : (bytes : List ℕ) (start : ℕ) (body behind : List ℕ) → start ≤ length bytes → drop start bytes ≡ record_text body ++ behind → start + 20 + length body ≤ length bytes
found_within bytes start body behind inside e =
    omega (arith, inside, length-drop start bytes, ap length e, length-append (record_text body) behind, length-append (head_text body) body, head_length body)
