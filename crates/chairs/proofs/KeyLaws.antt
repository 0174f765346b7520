-- Each key is at one chair at most, whatever a chair becomes.
use Rattle.std.proofs.Common.{◌≡◌, ◌≢◌, ◌⊎◌, ◌<◌, ◌∙◌, ℕ, zero, suc, List, [], ◌∷◌, Some, None, ap, refl, sym, subst, inl, inr, length, length-set, arith, slice_get, slice_set}
use Rattle.std.proofs.lemmas.Bool.{cases_eq}
use Rattle.std.proofs.lemmas.Option.{slice_get_within}
use Rattle.chairs.specs.declared.chair.Chair.{Chair}
use Rattle.chairs.specs.declared.chair.Chair.TheVariants.{Taken, Left}
use Rattle.chairs.specs.declared.leaving.Leaving.{Leaving}
use Rattle.chairs.specs.declared.page.PagePlace.{PagePlace}
use Rattle.chairs.specs.declared.page.PagePlace.TheVariants.{Free, Own}
use Rattle.chairs.specs.Turns.{Sits}
use Rattle.chairs.specs.Pages.{AreApart, HasKey, IsFor, IsOnlyAt, chair_of, key_of}

-- what was put at a place
get_set_here : {A : Type 0} (xs : List A) (i : ℕ) (x : A) → i < length xs → slice_get (slice_set xs i x) i ≡ Some x
get_set_here [] i x h = absurd (omega arith)
get_set_here (y ∷ ys) zero x h = refl
get_set_here (y ∷ ys) (suc i) x h = get_set_here ys i x (omega arith)

-- every other element stays
get_set_elsewhere : {A : Type 0} (xs : List A) (i j : ℕ) (x : A) → i ≢ j → slice_get (slice_set xs i x) j ≡ slice_get xs j
get_set_elsewhere [] i j x h = refl
get_set_elsewhere (y ∷ ys) zero zero x h = absurd (h refl)
get_set_elsewhere (y ∷ ys) zero (suc j) x h = refl
get_set_elsewhere (y ∷ ys) (suc i) zero x h = refl
get_set_elsewhere (y ∷ ys) (suc i) (suc j) x h = get_set_elsewhere ys i j x (λ e. h (ap suc e))

module _ (chairs : List Chair) (at : ℕ) (chair : Chair) where
  -- once a chair has become another one, a key is at it, or where it was
  key_in_set : (key : List ℕ) (other : ℕ) → HasKey (slice_set chairs at chair) other key → ((other ≡ at) × (key_of chair ≡ Some key)) ⊎ HasKey chairs other key
  key_in_set key other has = elim (cases_eq at other) [
    | inl same ↦ inl (sym same, here same)
    | inr apart ↦ inr (has.0, sym (get_set_elsewhere chairs at other chair apart) ∙ has.1, has.2)
  ]
    where
      here : at ≡ other → key_of chair ≡ Some key
      here same = (let within : other < length (slice_set chairs at chair) = slice_get_within (slice_set chairs at chair) other has.0 has.1 in
          let below : at < length chairs = omega (arith, same, within, length-set chairs at chair) in
          let got : slice_get (slice_set chairs at chair) at ≡ Some chair = get_set_here chairs at chair below in
          let is : chair ≡ has.0 = (let both : slice_get (slice_set chairs at chair) other ≡ Some chair = subst (λ n. slice_get (slice_set chairs at chair) n ≡ Some chair) same got in cc (both, has.1)) in
          ap key_of is ∙ has.2)

  -- the keys stay apart where the key that the chair has then is at no other one
  pub apart_set : ((key : List ℕ) → key_of chair ≡ Some key → (other : ℕ) → HasKey chairs other key → other ≡ at) → AreApart chairs → AreApart (slice_set chairs at chair)
  apart_set alone apart key one other has also = elim (key_in_set key one has) [
    | inl new ↦ elim (key_in_set key other also) [
      | inl same ↦ new.0 ∙ sym same.0
      | inr old ↦ new.0 ∙ sym (alone key new.1 other old)
    ]
    | inr was ↦ elim (key_in_set key other also) [
      | inl new ↦ alone key new.1 one was ∙ sym new.0
      | inr old ↦ apart key one other was old
    ]
  ]

-- a connection has no key
pub apart_taken : (chairs : List Chair) (at : ℕ) → AreApart chairs → AreApart (slice_set chairs at (Taken None))
apart_taken chairs at = apart_set chairs at (Taken None) (λ key none. absurd (clash key none))
  where
    clash : (key : List ℕ) → None ≡ Some key → ⊥
    clash key e = cc

-- a page's key stays where the page sat
pub apart_left : (chairs : List Chair) (at : ℕ) (leaving : Leaving) → Sits chairs at leaving.page → AreApart chairs → AreApart (slice_set chairs at (Left leaving))
apart_left chairs at leaving sits apart =
    apart_set chairs at (Left leaving) (λ key is other has. apart key other at has (Taken leaving.page, sits, is)) apart

-- a page's place is the only chair at which its key may be
only_place : (now : ℕ) (chairs : List Chair) (key : List ℕ) (place : PagePlace) → AreApart chairs → IsFor now chairs key place → (other : ℕ) → HasKey chairs other key → other ≡ chair_of place
only_place now chairs key (Own at) apart sits other has = apart key other at has (Taken (Some key), sits, refl)
only_place now chairs key (Free at) apart (inl left) other has = apart key other at has (Left left.0, left.1, left.2)
only_place now chairs key (Free at) apart (inr nowhere) other has = absurd (nowhere.0 other has)

place_within : (now : ℕ) (chairs : List Chair) (key : List ℕ) (place : PagePlace) → IsFor now chairs key place → chair_of place < length chairs
place_within now chairs key (Own at) sits = slice_get_within chairs at (Taken (Some key)) sits
place_within now chairs key (Free at) (inl left) = slice_get_within chairs at (Left left.0) left.1
place_within now chairs key (Free at) (inr nowhere) = slice_get_within chairs at nowhere.1.has.0 nowhere.1.has.1

module _ (now : ℕ) (chairs : List Chair) (key : List ℕ) (place : PagePlace) (apart : AreApart chairs) (is : IsFor now chairs key place) where
  -- a page that was given its place
  pub apart_page : AreApart (slice_set chairs (chair_of place) (Taken (Some key)))
  apart_page = apart_set chairs (chair_of place) (Taken (Some key)) (λ own same. subst (λ (k : List ℕ). (other : ℕ) → HasKey chairs other k → other ≡ chair_of place) (one same) (only_place now chairs key place apart is)) apart
    where
      one : {own : List ℕ} → Some key ≡ Some own → key ≡ own
      one same = cc

  pub page_only : IsOnlyAt (slice_set chairs (chair_of place) (Taken (Some key))) (chair_of place) key
  page_only = record { has = has; only = λ other also. apart_page key other (chair_of place) also has }
    where
      has : HasKey (slice_set chairs (chair_of place) (Taken (Some key))) (chair_of place) key
      has = (Taken (Some key), get_set_here chairs (chair_of place) (Taken (Some key)) (place_within now chairs key place is), refl)
