-- The records of some bodies, put one behind another.
use Rattle.std.proofs.Common.{◌≡◌, ◌≤◌, ◌+◌, ℕ, List, [], ◌∷◌, ◌++◌, length, take, map, sym, ap, subst, ◌∙◌, Vec, Global}
use Rattle.std.proofs.lemmas.List.{append-nil, map_push, take_all}
use Rattle.kept_records.specs.Records.{AreBodies, IsBody, record_text, records_text}
use Rattle.kept_records.proofs.LawProofs.{texts_append, both_bodies}

pub record ArePut (text : List ℕ) (index : ℕ) (vs : List (Vec ℕ Global)) : Type 0 where
  pub spelt : text ≡ records_text (map (λ v. v.items) (take index vs))
  pub are : AreBodies (map (λ v. v.items) (take index vs))

pub one_put : (text more : List ℕ) (index : ℕ) (vs : List (Vec ℕ Global)) (v : Vec ℕ Global) → ArePut text index vs → take (index + 1) vs ≡ take index vs ++ v ∷ []
    → IsBody v.items → more ≡ text ++ record_text v.items → ArePut more (index + 1) vs
one_put text more index vs v so_far step is e =
    let bodies : map (λ v. v.items) (take (index + 1) vs) ≡ map (λ v. v.items) (take index vs) ++ v.items ∷ [] =
    ap (λ l. map (λ v. v.items) l) step ∙ map_push (λ v. v.items) (take index vs) v in
    record {
      spelt = e ∙ ap (λ (l : List ℕ). l ++ record_text v.items) so_far.spelt ∙ ap (λ (l : List ℕ). records_text (map (λ v. v.items) (take index vs)) ++ l) (sym (append-nil (record_text v.items)))
          ∙ sym (texts_append (map (λ v. v.items) (take index vs)) (v.items ∷ [])) ∙ ap records_text (sym bodies);
      are = subst AreBodies (sym bodies) (both_bodies (map (λ v. v.items) (take index vs)) (v.items ∷ []) so_far.are (is, tt));
    }

pub none_put : (text : List ℕ) (vs : List (Vec ℕ Global)) → text ≡ [] → ArePut text 0 vs
none_put text vs none = record { spelt = none; are = tt }

pub all_put : (text : List ℕ) (index : ℕ) (vs : List (Vec ℕ Global)) → ArePut text index vs → length vs ≤ index → (text ≡ records_text (map (λ v. v.items) vs)) × AreBodies (map (λ v. v.items) vs)
all_put text index vs put all =
    let same : take index vs ≡ vs = take_all index vs all in (
      put.spelt ∙ ap (λ l. records_text (map (λ v. v.items) l)) same,
      subst (λ l. AreBodies (map (λ v. v.items) l)) same put.are,
    )
