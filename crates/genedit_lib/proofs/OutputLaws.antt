-- A script has one output; and where its run stops for want of room, it stopped at an event.
use Rattle.std.proofs.Common.{◌≡◌, ℕ, List, Result, Ok, sym, ◌∙◌, ap, subst, inl, inr}
use Rattle.std.specs.Prelude.{Err}
use Rattle.genedit_script.specs.Script.{ScriptValue, script_of}
use Rattle.replica_core.proofs.ReplyLaws.{has_one_list_of_replies}
use Rattle.replica_core.specs.World.{IsStopOf, IsStoppedAt}
use Rattle.replica_core.specs.declared.event.Stop.TheVariants as stops
use Rattle.genedit_lib.specs.Laws.{HasOneOutput}
use Rattle.genedit_lib.specs.Output.{IsScriptOutput, no_patterns, printed, steps}
use Rattle.genedit_lib.specs.Run.{PrintsAs, script_events, script_opening}

one_script : (a b : ScriptValue) (read : Result ScriptValue ℕ) → read ≡ Ok a → read ≡ Ok b → a ≡ b
one_script a b read x y = cc (sym x ∙ y)

one_output : (script : ScriptValue) (a b : List ℕ) → IsScriptOutput script a → IsScriptOutput script b → a ≡ b
one_output script a b x y =
    x.printed_so ∙ ap (printed (steps no_patterns script.commands)) (has_one_list_of_replies (script_opening script) (script_events script) x.replies y.replies x.answered y.answered) ∙ sym y.printed_so

pub has_one_output : HasOneOutput
has_one_output text a b x y = one_output y.script a b (subst (λ script. IsScriptOutput script a) (one_script x.script y.script (script_of text) x.read y.read) x.printed) y.printed

pub stopped_at : (nodes : ℕ) (script : ScriptValue) → IsStopOf nodes (script_opening script) (script_events script) stops.StoreFull
    → IsStoppedAt nodes (script_opening script) (script_events script) stops.StoreFull
stopped_at nodes script (inl at) = at
stopped_at nodes script (inr memory) = absurd (cc)
