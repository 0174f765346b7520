-- What is said of a rule of another family: which one, and what this program has.
use Rattle.std.specs.Prelude.{ℕ, List, codes}
use Rattle.header_rules.specs.declared.family.OtherFamily.{OtherFamily}
use Rattle.header_rules.specs.declared.family.OtherFamily.TheVariants.{BirthOnNone, Bounded, LargerThanLife, Map, Neighbours, NonTotalistic, Table, Wolfram}

abbrev pub family_words : OtherFamily → List ℕ
family_words BirthOnNone = codes "of another family (birth on 0 neighbours): this program has Golly's Generations without B0 alone"
family_words Neighbours = codes "of another family (another neighbourhood, V or H): this program has Golly's Generations of all 8 neighbours alone"
family_words NonTotalistic = codes "of another family (letters behind counts): this program has Golly's Generations without letters alone"
family_words Bounded = codes "of another family (a bounded grid): this program has Golly's Generations on a plane without bounds alone"
family_words Map = codes "of another family (a MAP rule): this program has Golly's Generations, told by counts, alone"
family_words LargerThanLife = codes "of another family (Larger than Life): this program has Golly's Generations of the 8 nearest neighbours alone"
family_words Wolfram = codes "of another family (Wolfram's elementary rules): this program has Golly's Generations, of two dimensions, alone"
family_words Table = codes "of another family (Golly runs it by a table): this program has Golly's Generations, told by counts, alone"
