use Rattle.std.proofs.Common.{◌≡◌, ◌≤◌, ◌^◌, ◌-◌, ◌+◌, ℕ, ◌∙◌, ap, arith, subst}
use Rattle.macrocell_text.specs.declared.block.Block.{Block}
use Rattle.macrocell_text.specs.LiveCells.{population}
use Rattle.macrocell_text.proofs.FoundLists.{block_of, block_population, cell_population, four_powers, most_four}
use Rattle.macrocell_text.proofs.block.+block_count.Goals as goal

-- what is known of the count of a quarter
at_most : (n : ℕ) (k k' : Block) → k ≡ k' → n ≤ 4 ^ k.level → n ≤ 4 ^ k'.level
at_most n k k' e h = subst (λ (b : Block). n ≤ 4 ^ b.level) e h

counted : (n rows : ℕ) (k k' : Block) → k ≡ k' → n ≡ population (block_of rows k.level k.column k.row) → n ≡ population (block_of rows k'.level k'.column k'.row)
counted n rows k k' e h = subst (λ (b : Block). n ≡ population (block_of rows b.level b.column b.row)) e h

-- the counts of four quarters fit
few : (level a b c d : ℕ) → 1 ≤ level → level ≤ 3 → a ≤ 4 ^ (level - 1) → b ≤ 4 ^ (level - 1) → c ≤ 4 ^ (level - 1) → d ≤ 4 ^ (level - 1) → (a + b) + (c + d) ≤ 64
few level a b c d some most ha hb hc hd = (let e = most_four level a b c d some ha hb hc hd in let f = four_powers level most in omega (arith, e, f))

pub returns-then-block-eq0-clause-count : goal.returns-then-block-eq0-clause-count
returns-then-block-eq0-clause-count t c = c.from.ensures ∙ c.state_of_bit.ensures ∙ cell_population c.args.rows c.args.block.level c.args.block.column c.args.block.row c.if-block-eq0.true

pub returns-clause-count : goal.returns-clause-count
returns-clause-count t c = block_population c.args.rows c.args.block.level c.args.block.column c.args.block.row c.half-half.result _ _ _ _ (omega (arith, c.if-block-eq0.false)) c.half-half.ensures.half
    (counted _ c.args.rows _ _ c.quarter.ensures c.block_count-nw.ensures.count) (counted _ c.args.rows _ _ c.quarter-2.ensures c.block_count-ne.ensures.count)
    (counted _ c.args.rows _ _ c.quarter-3.ensures c.block_count-sw.ensures.count) (counted _ c.args.rows _ _ c.quarter-4.ensures c.block_count-se.ensures.count)

pub returns-clause-most : goal.returns-clause-most
returns-clause-most t c = most_four c.args.block.level _ _ _ _ (omega (arith, c.if-block-eq0.false))
    (at_most _ _ _ c.quarter.ensures c.block_count-nw.ensures.most) (at_most _ _ _ c.quarter-2.ensures c.block_count-ne.ensures.most)
    (at_most _ _ _ c.quarter-3.ensures c.block_count-sw.ensures.most) (at_most _ _ _ c.quarter-4.ensures c.block_count-se.ensures.most)

pub overflow_add-result : goal.overflow_add-result
overflow_add-result t c = (let h = few c.args.block.level _ _ _ _ (omega (arith, c.if-block-eq0.false)) c.requires.level
    (at_most _ _ _ c.quarter.ensures c.block_count-nw.ensures.most) (at_most _ _ _ c.quarter-2.ensures c.block_count-ne.ensures.most)
    (at_most _ _ _ c.quarter-3.ensures c.block_count-sw.ensures.most) (at_most _ _ _ c.quarter-4.ensures c.block_count-se.ensures.most) in omega (arith, h))

pub overflow_add-result-2 : goal.overflow_add-result-2
overflow_add-result-2 t c = (let h = few c.args.block.level _ _ _ _ (omega (arith, c.if-block-eq0.false)) c.requires.level
    (at_most _ _ _ c.quarter.ensures c.block_count-nw.ensures.most) (at_most _ _ _ c.quarter-2.ensures c.block_count-ne.ensures.most)
    (at_most _ _ _ c.quarter-3.ensures c.block_count-sw.ensures.most) (at_most _ _ _ c.quarter-4.ensures c.block_count-se.ensures.most) in omega (arith, h))

pub overflow_add-result-3 : goal.overflow_add-result-3
overflow_add-result-3 t c = (let h = few c.args.block.level _ _ _ _ (omega (arith, c.if-block-eq0.false)) c.requires.level
    (at_most _ _ _ c.quarter.ensures c.block_count-nw.ensures.most) (at_most _ _ _ c.quarter-2.ensures c.block_count-ne.ensures.most)
    (at_most _ _ _ c.quarter-3.ensures c.block_count-sw.ensures.most) (at_most _ _ _ c.quarter-4.ensures c.block_count-se.ensures.most) in omega (arith, h))
