-- Pages, which come back by their keys.
use Rattle.std.specs.Prelude.{◌≡◌, ◌⊎◌, ℕ, List, Option, Some, None, slice_get}
use Rattle.chairs.specs.declared.chair.Chair.{Chair}
use Rattle.chairs.specs.declared.chair.Chair.TheVariants.{Fresh, Taken, Left}
use Rattle.chairs.specs.declared.leaving.Leaving.{Leaving}
use Rattle.chairs.specs.declared.page.PagePlace.{PagePlace}
use Rattle.chairs.specs.declared.page.PagePlace.TheVariants.{Free, Own}
use Rattle.chairs.specs.Turns.{IsNext, Sits}

-- the key at a chair: that of the page which sits there, or was the last to leave it; none for a connection
abbrev pub key_of : Chair → Option (List ℕ)
key_of Fresh = None
key_of (Taken page) = page
key_of (Left leaving) = leaving.page

-- the key is at this chair
abbrev pub HasKey : List Chair → ℕ → List ℕ → Type 0
HasKey chairs at key = (chair : Chair) × (slice_get chairs at ≡ Some chair) × (key_of chair ≡ Some key)

-- the key is at no chair
abbrev pub IsNowhere : List Chair → List ℕ → Type 0
IsNowhere chairs key = (at : ℕ) → HasKey chairs at key → ⊥

-- the key is at this chair and at no other
pub record IsOnlyAt (chairs : List Chair) (at : ℕ) (key : List ℕ) : Type 0 where
  pub has : HasKey chairs at key
  pub only : (other : ℕ) → HasKey chairs other key → other ≡ at

-- each key is at one chair at most
abbrev pub AreApart : List Chair → Type 0
AreApart chairs = (key : List ℕ) (one other : ℕ) → HasKey chairs one key → HasKey chairs other key → one ≡ other

-- the page with this key was the last to leave the chair
abbrev pub WasLeftBy : List Chair → ℕ → List ℕ → Type 0
WasLeftBy chairs at key = (leaving : Leaving) × (slice_get chairs at ≡ Some (Left leaving)) × (leaving.page ≡ Some key)

-- the chair of a place
abbrev pub chair_of : PagePlace → ℕ
chair_of (Free at) = at
chair_of (Own at) = at

-- the place that the rules give a page with this key: its own chair, at which it sits or which it left, or, where its
-- key is at none, the chair whose turn comes first
abbrev pub IsFor : ℕ → List Chair → List ℕ → PagePlace → Type 0
IsFor now chairs key (Own at) = Sits chairs at (Some key)
IsFor now chairs key (Free at) = WasLeftBy chairs at key ⊎ (IsNowhere chairs key × IsNext now chairs at)
