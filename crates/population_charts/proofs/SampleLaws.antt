-- Samples, one after another.
use Rattle.std.proofs.Common.{◌≡◌, ℕ, ◌+◌, ◌<◌, List, [], ◌∷◌, ◌++◌, length, take, map, get_or, ap, sym, ◌∙◌, arith}
use Rattle.std.specs.Prelude.{max}
use Rattle.std.proofs.lemmas.List.{take_more, map-append}
use Rattle.population_charts.specs.Sample.{SampleValue, greatest, most_cells}

max_one_more : (n m y : ℕ) → max n (max m y) ≡ max (max n m) y
max_one_more n m y = omega arith

greatest-append : (ns : List ℕ) (y : ℕ) → greatest (ns ++ y ∷ []) ≡ max (greatest ns) y
greatest-append [] y = omega arith
greatest-append (n ∷ ns) y = ap (λ m. max n m) (greatest-append ns y) ∙ max_one_more n (greatest ns) y

-- the greatest of some numbers and one more
pub greatest_more : (ns : List ℕ) (i d : ℕ) → i < length ns → greatest (take (i + 1) ns) ≡ max (greatest (take i ns)) (get_or ns i d)
greatest_more ns i d below = ap greatest (take_more ns i d below) ∙ greatest-append (take i ns) (get_or ns i d)

most_of : SampleValue → ℕ
most_of s = greatest s.counts

-- the most cells of some samples and one more
pub most_more : (samples : List SampleValue) (i : ℕ) (d : SampleValue) → i < length samples → d ≡ get_or samples i d →
    most_cells (take (i + 1) samples) ≡ max (most_cells (take i samples)) (greatest d.counts)
most_more samples i d below is =
    ap most_cells (take_more samples i d below)
    ∙ ap greatest (map-append (λ (s : SampleValue). greatest s.counts) (take i samples) (get_or samples i d ∷ []))
    ∙ greatest-append (map (λ (s : SampleValue). greatest s.counts) (take i samples)) (greatest (get_or samples i d).counts)
    ∙ ap (λ (s : SampleValue). max (most_cells (take i samples)) (greatest s.counts)) (sym is)
