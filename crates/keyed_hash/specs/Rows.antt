-- Worked values of the definitions.
use Rattle.std.specs.Prelude.{◌≡◌, ◌+◌, ◌^◌, [], ◌∷◌, refl}
use Rattle.keyed_hash.specs.Keyed.{product, word_of}

-- to 1 and 2 are added 3 and 4
pub adds_the_key : product 3 1 4 2 ≡ 24
unfolding product
adds_the_key = refl

-- each wraps by itself
pub wraps : product 2 (2 ^ 64 + 3) 0 5 ≡ 25
unfolding product
wraps = refl

pub lowest_first : word_of (1 ∷ 2 ∷ []) ≡ 513
lowest_first = refl
