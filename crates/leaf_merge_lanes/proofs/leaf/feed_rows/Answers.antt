use Rattle.std.proofs.Common.{◌≡◌, ℕ, ◌+◌, ◌-◌, ◌*◌, List, ◌++◌, ◌∙◌, sym, ap, arith, refl}
use Rattle.std.proofs.Math.Seq.{take-add}
use Rattle.std.proofs.lemmas.Grind.{flat_map-append}
use Rattle.std.specs.Prelude.{take, drop}
use Rattle.std.specs.Hash.{fed_then, fed_along, u64}
use Rattle.std.specs.List.{flat_map, fold}
use Rattle.leaf_merge_lanes.proofs.leaf.feed_rows.Goals as goal

-- one row more
one_more : {S : Type 0} (write : S → List ℕ → S) (s t u : S) (row : ℕ) (stamps : List ℕ) → t ≡ fold write s (flat_map u64 (take (8 * row) stamps))
    → u ≡ fold write t (flat_map u64 (take (8 * row + 8 - 8 * row) (drop (8 * row) stamps))) → u ≡ fold write s (flat_map u64 (take (8 * (row + 1)) stamps))
one_more write s t u row stamps before here =
    let eight : 8 * row + 8 - 8 * row ≡ 8 = omega arith in
    let far : 8 * (row + 1) ≡ 8 * row + 8 = omega arith in
    let both = fed_then write s t u (flat_map u64 (take (8 * row) stamps)) (flat_map u64 (take 8 (drop (8 * row) stamps))) before (rw eight at here) in
    fed_along write s u (sym (flat_map-append u64 (take (8 * row) stamps) (take 8 (drop (8 * row) stamps))) ∙ ap (flat_map u64) (sym (take-add (8 * row) 8 stamps) ∙ ap (λ n. take n stamps) (sym far))) both

pub loop-row-preserved : goal.loop-row-preserved
loop-row-preserved g c = one_more g.H.Hasher.write c.args.state.now c.loop-row.state c.feed.new.state c.loop-row.row c.args.stamps.now c.loop-row.invariant c.feed.ensures
