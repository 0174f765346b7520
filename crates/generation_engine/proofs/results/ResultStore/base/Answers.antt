use Rattle.std.proofs.Common.{◌*◌, ◌^◌, ◌%◌, subst}
use Rattle.bitplane_kernel.specs.Advance.{Advances}
use Rattle.generation_engine.specs.Kept.{RuledSquares}
use Rattle.generation_engine.proofs.Blocks.{block_later, is_worth}
use Rattle.generation_engine.proofs.results.ResultStore.base.Goals as goal

pub advance-requires : goal.advance-requires
advance-requires c = (is_worth c.args.exponent c.requires.exponent).0

pub returns-clause-later : goal.returns-clause-later
returns-clause-later c =
    let worth = is_worth c.args.exponent c.requires.exponent in
    let run : Advances c.self.inside.rule (1 * 2 ^ c.args.exponent % 256) c.block-block.result c.advance.new.self = c.advance.ensures.states in
    let ruled : Advances c.args.self.now.rule (1 * 2 ^ c.args.exponent % 256) c.block-block.result c.advance.new.self = subst (λ (v : RuledSquares). Advances v.rule (1 * 2 ^ c.args.exponent % 256) c.block-block.result c.advance.new.self) c.self.view_is run in
    block_later c.args.self.now.rule _ _ _ _ c.block-block.result c.advance.new.self _ c.block-block.ensures.states c.centre.ensures.states c.in_ok-later.ensures.draws _ worth.2
    (subst (λ n. Advances c.args.self.now.rule n c.block-block.result c.advance.new.self) worth.1 ruled)
