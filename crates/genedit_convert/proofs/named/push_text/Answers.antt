use Rattle.std.proofs.Common.{◌≡◌, ℕ, ◌+◌, ◌≤◌, List, ◌++◌, ◌∙◌, ap, sym, subst, length}
use Rattle.std.specs.Prelude.{OnOk}
use Rattle.generations_rule.specs.RuleText.{text_of}
use Rattle.multistate_rle.specs.Writing.{text_of_cells}
use Rattle.genedit_convert.specs.Names.{name_place, renamed, text_named}
use Rattle.macrocell_lines.specs.Macrocell.{rule_name}
use Rattle.genedit_convert.proofs.NameLaws.{name_within, named_is}
use Rattle.genedit_convert.proofs.named.push_text.Goals as goal

pub push_renamed-requires : goal.push_renamed-requires
push_renamed-requires c =
    let r = c.args.rule.now in
    let is : c.deref-2.result.now ≡ text_of_cells r c.args.generation c.args.cells.now = c.deref-2.ensures.value ∙ c.in_ok-text.ensures in
    let count : c.len.result ≡ length (text_of r) = c.len.ensures ∙ c.in_ok-old.old.ok.0 ∙ ap length c.in_ok-old.ensures.printed in
    let P : List ℕ → ℕ → Type 0 = λ t n. name_place t + n ≤ length t in
    subst (λ (n : ℕ). P c.deref-2.result.now n) (sym count) (subst (λ (t : List ℕ). P t (length (text_of r))) (sym is) (name_within r c.args.generation c.args.cells.now))

pub returns : goal.returns
returns c =
    let r = c.args.rule.now in
    let is : c.deref-2.result.now ≡ text_of_cells r c.args.generation c.args.cells.now = c.deref-2.ensures.value ∙ c.in_ok-text.ensures in
    let count : c.len.result ≡ length (text_of r) = c.len.ensures ∙ c.in_ok-old.old.ok.0 ∙ ap length c.in_ok-old.ensures.printed in
    let name : c.deref.result.now ≡ rule_name r = c.deref.ensures.value ∙ c.in_ok-name.ensures in
    let whole : renamed c.len.result c.deref.result.now c.deref-2.result.now ≡ text_named (rule_name r) r c.args.generation c.args.cells.now =
    (λ i. renamed (count i) (name i) (is i)) ∙ named_is (rule_name r) r c.args.generation c.args.cells.now in
    subst (λ (t : List ℕ). OnOk c.push_renamed.result (c.push_renamed.new.out.items ≡ c.args.out.now.items ++ t)) whole c.push_renamed.ensures
