use Rattle.std.proofs.Common.{◌≡◌, Bool, true, false, refl}
use Rattle.std.specs.Bool.{Decides}
use Rattle.std.proofs.lemmas.Slice.Eq.{slice_eq-Decides}
use mathlib.Core.Bool.{beq}
use Rattle.generations_rule.proofs.rule.same_counts.Goals as goal

beq-Decides : (a b : Bool) → Decides (beq a b) (a ≡ b)
beq-Decides true true = (λ _. refl, λ _. refl)
beq-Decides true false = (λ e. (cc), λ e. (cc))
beq-Decides false true = (λ e. (cc), λ e. (cc))
beq-Decides false false = (λ _. refl, λ _. refl)

pub returns : goal.returns
returns c = slice_eq-Decides beq-Decides c.args.a.now c.args.b.now c.eq.result c.eq.ensures
