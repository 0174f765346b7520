use Rattle.std.proofs.Common.{rules, ◌≡◌, ◌∙◌, ap, ℕ, Bool, List, true, bytes_eq}
use Rattle.std.specs.Prelude.{cond}
use Rattle.std.proofs.lemmas.Map.Text.{is_eq-slice_cmp}
use Rattle.typed_commands.specs.Files.{is_own}
use Rattle.typed_commands.proofs.own_files.OwnFiles.add.Goals as goal

pub returns-in_ok-of-clause-own : goal.returns-in_ok-of-clause-own
returns-in_ok-of-clause-own c other =
    let same : c.extend_from_slice.new.self.items ≡ c.args.name.now = search rules in
    c.in_ok-insert.ensures.updates.0 other ∙ ap (λ (b : Bool). cond b true (is_own c.args.self.now other.items)) (is_eq-slice_cmp _ other.items ∙ ap (λ (xs : List ℕ). bytes_eq xs other.items) same)

pub returns-else-saves-clause-own : goal.returns-else-saves-clause-own
returns-else-saves-clause-own c other =
    let same : c.extend_from_slice.new.self.items ≡ c.args.name.now = search rules in
    c.in_ok-insert.ensures.updates.0 other ∙ ap (λ (b : Bool). cond b true (is_own c.args.self.now other.items)) (is_eq-slice_cmp _ other.items ∙ ap (λ (xs : List ℕ). bytes_eq xs other.items) same)
