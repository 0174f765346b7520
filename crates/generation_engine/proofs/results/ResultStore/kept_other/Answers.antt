use Rattle.std.proofs.Common.{◌∙◌, sym}
use Rattle.generation_engine.proofs.KeptLaws.{some_right}
use Rattle.generation_engine.proofs.results.ResultStore.kept_other.Goals as goal

pub returns : goal.returns
returns c = rw (← c.self.view_is) (some_right c.copied.result _ (λ p e. (c.self.invariant.other (record { level = c.args.level; part = c.args.part; exponent = c.args.exponent }) p (sym (c.copied.ensures ∙ c.get.ensures.value) ∙ e)).later))
