-- A plan is made command by command.
use Rattle.std.proofs.Common.{◌≡◌, List, ℕ, [], ◌∷◌, ◌++◌, map, sym, ◌∙◌, ap, subst, append_assoc}
use Rattle.std.proofs.lemmas.List.{map-append}
use Rattle.generations_rule.specs.Rule.{GenerationsRule}
use Rattle.replica_core.specs.World.{opening, AreReplies}
use Rattle.genedit_script.specs.Script.{ScriptValue}
use Rattle.genedit_script.specs.declared.command.Command.{Command}
use Rattle.replica_events.specs.declared.event.Event.{Event}
use Rattle.replica_core.specs.declared.event.Reply.{Reply}
use Rattle.genedit_lib.specs.declared.plan.PlannedLine.{PlannedLine}
use Rattle.genedit_lib.specs.Output.{ScriptStep, Happens, Says, OutputLine, IsScriptOutput, NamedPatterns, after_command, command_step, events_among, filled, no_patterns, step_line, steps}
use Rattle.genedit_lib.specs.Plan.{line_of}

-- ---- plans

-- the steps of commands are the first one's, and then those of the rest under the names behind it
pub steps_on : (f g : NamedPatterns) (left rest : List Command) (c : Command) (s : ScriptStep) → left ≡ c ∷ rest → s ≡ command_step f c
    → ((name : List ℕ) → g name ≡ after_command f c name) → steps f left ≡ s ∷ steps g rest
steps_on f g left rest c s left_is s_is same = ap (steps f) left_is ∙ (λ i. sym s_is i ∷ steps (λ name. sym (same name) i) rest)

-- one more at the end of what is done is one fewer at the head of what is left
moved_on : {A : Type 0} (done new more all : List A) (x : A) → all ≡ done ++ (x ∷ more) → new ≡ done ++ x ∷ [] → all ≡ new ++ more
moved_on done new more all x all_is new_is = all_is ∙ sym (append_assoc done (x ∷ []) more) ∙ ap (λ d. d ++ more) (sym new_is)

pub event_planned : (done new all : List Event) (now then : List ScriptStep) (event : Event) → all ≡ done ++ events_among now → now ≡ Happens event ∷ then
    → new ≡ done ++ event ∷ [] → all ≡ new ++ events_among then
event_planned done new all now then event all_is now_is new_is =
    moved_on done new (events_among then) all event (all_is ∙ ap (λ s. done ++ events_among s) now_is) new_is

pub no_event_planned : (done all : List Event) (now then : List ScriptStep) (text : List ℕ) → all ≡ done ++ events_among now → now ≡ Says text ∷ then
    → all ≡ done ++ events_among then
no_event_planned done all now then text all_is now_is = all_is ∙ ap (λ s. done ++ events_among s) now_is

pub line_planned : (done new : List PlannedLine) (all : List OutputLine) (now then : List ScriptStep) (s : ScriptStep) (line : PlannedLine)
    → all ≡ map line_of done ++ map step_line now → now ≡ s ∷ then → new ≡ done ++ line ∷ [] → line_of line ≡ step_line s
    → all ≡ map line_of new ++ map step_line then
line_planned done new all now then s line all_is now_is new_is line_is =
    moved_on (map line_of done) (map line_of new) (map step_line then) all (step_line s) (all_is ∙ ap (λ s. map line_of done ++ map step_line s) now_is)
    (ap (map line_of) new_is ∙ map-append line_of done (line ∷ []) ∙ ap (λ l. map line_of done ++ l ∷ []) line_is)

-- ---- scripts

-- what is printed of a script, by its plan and the replies to the plan's events
pub outputs : (script : ScriptValue) (rule : GenerationsRule) (replicas : ℕ) (commands : List Command) (events : List Event) (plan given : List PlannedLine) (replies said : List Reply) (out : List ℕ)
    → rule ≡ script.rule → replicas ≡ script.replicas → commands ≡ script.commands → events ≡ events_among (steps no_patterns commands)
    → map line_of plan ≡ map step_line (steps no_patterns commands) → given ≡ plan → said ≡ replies → AreReplies (opening rule replicas) events replies → out ≡ filled (map line_of given) said
    → IsScriptOutput script out
outputs script rule replicas commands events plan given replies said out rule_is replicas_is commands_are events_are plan_is given_is said_is answered out_is = record {
  replies = replies;
  answered = subst (λ r. AreReplies (opening r script.replicas) (events_among (steps no_patterns script.commands)) replies) rule_is
      (subst (λ n. AreReplies (opening rule n) (events_among (steps no_patterns script.commands)) replies) replicas_is
      (subst (λ es. AreReplies (opening rule replicas) es replies) (events_are ∙ ap (λ cs. events_among (steps no_patterns cs)) commands_are) answered));
  printed_so = out_is ∙ ap (λ l. filled l said) (ap (map line_of) given_is ∙ plan_is ∙ ap (λ cs. map step_line (steps no_patterns cs)) commands_are)
      ∙ ap (filled (map step_line (steps no_patterns script.commands))) said_is;
}
