use Rattle.std.proofs.Common.{◌≡◌, ◌∙◌, ◌++◌, ◌≤◌, Bool, true, false, ap, subst, arith}
use Rattle.std.specs.Prelude.{◌==◌, flat_map}
use Rattle.generation_engine.specs.Universe.{states_of}
use Rattle.macrocell_lines.specs.Lines.{line_text, lines_of}
use Rattle.macrocell_lines.specs.Macrocell.{head_text, least_level}
use Rattle.macrocell_lines.specs.Roots.{IsRootLevel}
use Rattle.macrocell_lines.proofs.Levels.{universe_reach, universe_root}
use Rattle.macrocell_lines.proofs.macrocell.write_macrocell.Goals as goal

some_least : (b : Bool) → 1 ≤ least_level b
some_least true = omega arith
some_least false = omega arith

pub returns : goal.returns
returns c =
    let e = c.args.engine.now in
    let r = c.args.rule.now in
    let level = c.root_level-level.result in
    let two : (c.states-of_two.result == 2) ≡ (r.states == 2) = ap (λ n. n == 2) c.states-of_two.ensures.value in
    let least : c.least_level.result ≡ least_level (r.states == 2) = c.least_level.ensures ∙ ap least_level two in
    let some : 1 ≤ level = omega (arith, least, some_least (r.states == 2), c.root_level-level.ensures.least) in
    let text = c.in_ok-text.ensures in
    let lines = c.as_slice.ensures.keys ∙ c.in_ok-lines.ensures in
    let root = universe_root e level some c.root_level-level.ensures.most in
    record {
      level = level;
      root = subst (λ l. IsRootLevel l (states_of e) level) least (c.root_level-level.ensures.level (states_of e) c.extent.ensures (universe_reach e c.universe_laws.ensures.engine));
      is = c.in_ok-push_lines.ensures ∙ (λ i. text i ++ flat_map line_text (lines i)) ∙ (λ i. head_text r c.args.generation ++ flat_map line_text (lines_of (two i) (root i)));
    }
