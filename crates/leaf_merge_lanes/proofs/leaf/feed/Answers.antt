use Rattle.std.proofs.Common.{◌≡◌, ◌∙◌, ℕ, ◌+◌, ◌<◌, List, length, drop, get_or, sym, ap}
use Rattle.std.proofs.lemmas.List.{drop_more}
use Rattle.std.specs.Hash.{u64}
use Rattle.std.specs.List.{flat_map, fold}
use Rattle.leaf_merge_lanes.proofs.leaf.feed.Goals as goal

-- a number is fed, and then those behind it
one_fed : {S : Type 0} (write : S → List ℕ → S) (old new : S) (numbers : List ℕ) (i : ℕ) → i < length numbers → new ≡ fold write old (u64 (get_or numbers i 0))
    → fold write new (flat_map u64 (drop (i + 1) numbers)) ≡ fold write old (flat_map u64 (drop i numbers))
one_fed write old new numbers i within fed =
    ap (λ s. fold write s (flat_map u64 (drop (i + 1) numbers))) fed ∙ ap (λ rest. fold write old (flat_map u64 rest)) (sym (drop_more numbers i 0 within))

pub loop-number-preserved : goal.loop-number-preserved
loop-number-preserved g c = one_fed g.H.Hasher.write c.loop-number.state c.write_u64.new.self c.args.numbers.now c.loop-number.number-index c.loop-number-test.true c.write_u64.ensures ∙ c.loop-number.invariant
