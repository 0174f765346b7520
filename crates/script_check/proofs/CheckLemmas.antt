-- What is told where there are faults, and where there are none.
use Rattle.std.proofs.Common.{◌≡◌, ap, ℕ, List, [], ◌∷◌, refl, sym, subst, inl, inr, arith, length, ◌++◌, append-nil, append_assoc, ◌∙◌}
use Rattle.std.proofs.lemmas.Bool.{eqb-true}
use Rattle.std.specs.Prelude.{true, false, ◌⊎◌, Result, Ok, Err}
use Rattle.std.specs.Prelude.{◌==◌}
use Rattle.std.specs.List.{list_any}
use Rattle.devices.specs.Sink.{KnownSink, IsPush}
use Rattle.genedit_io.specs.declared.fault.RunFault.{RunFault}
use Rattle.genedit_io.specs.RunFault.{IsWant}
use Rattle.square_store.specs.Limits.{usual_room}
use Rattle.genedit_lib.specs.Run.{IsUnprinted, IsStopped}
use Rattle.genedit_script.specs.Script.{ScriptValue, script_of}
use Rattle.script_faults.specs.declared.note.Note.{Note}
use Rattle.script_faults.specs.declared.note.Note.TheVariants.{Fault, Warning}
use Rattle.script_faults.specs.Faults.{is_fault, fault_lines}
use Rattle.script_faults.specs.Laws.{Begin}
use Rattle.script_check.specs.declared.refusals.Refusal.{Refusal}
use Rattle.script_check.specs.declared.check.CheckOutcome.{CheckOutcome}
use Rattle.script_check.specs.Check.{AreRefused, IsRefusedRun, outcome_of}
use Rattle.script_check.specs.declared.check.CheckOutcome.TheVariants.{Clean, Told}

pub no_lines : (notes : List Note) → list_any is_fault notes ≡ false → fault_lines notes ≡ []
no_lines [] none = refl
no_lines (Fault place reason ∷ notes) none = absurd (cc)
no_lines (Warning place warning ∷ notes) none = no_lines notes none

-- faults are told, and no refusals
pub told_with_faults : (text : List ℕ) (notes : List Note) (refusals : List Refusal) → list_any is_fault notes ≡ true → refusals ≡ [] → AreRefused text (fault_lines notes) refusals
told_with_faults text [] refusals some none = absurd (cc)
told_with_faults text (Fault place reason ∷ notes) refusals some none = none
told_with_faults text (Warning place warning ∷ notes) refusals some none = told_with_faults text notes refusals some none

-- no fault, and what is refused
pub told_without : (text : List ℕ) (notes : List Note) (refusals : List Refusal) → list_any is_fault notes ≡ false → IsRefusedRun text refusals →
    AreRefused text (fault_lines notes) refusals
told_without text notes refusals none run = subst (λ (lines : List ℕ). AreRefused text lines refusals) (sym (no_lines notes none)) run

no_fault : (text : List ℕ) (line : ℕ) (read : Result ScriptValue ℕ) → Begin [] read → read ≡ Err line → ⊥
no_fault text line (Ok script) first is = cc
no_fault text line (Err n) first is = cc

-- a text of which no fault is told is refused for none
pub not_faulty : (text : List ℕ) (notes : List Note) (fault : RunFault) → Begin (fault_lines notes) (script_of text) → list_any is_fault notes ≡ false →
    IsUnprinted usual_room text fault ⊎ IsWant fault → IsStopped usual_room text fault ⊎ IsWant fault
not_faulty text notes fault first none (inl (inl faulty)) =
    let begins : Begin [] (script_of text) = subst (λ (lines : List ℕ). Begin lines (script_of text)) (no_lines notes none) first in
    absurd (no_fault text faulty.line (script_of text) begins faulty.first)
not_faulty text notes fault first none (inl (inr stopped)) = inl stopped
not_faulty text notes fault first none (inr want) = inr want

-- a push that was made, told with another value
pub push_made : (old new : KnownSink) (pushed : Result (Unit {0}) RunFault) (made : Unit {0}) (outcome : CheckOutcome) (out : List ℕ) → pushed ≡ Ok made → IsPush old new pushed out →
    IsPush {A = CheckOutcome} {E = RunFault} old new (Ok outcome) out
push_made old new (Ok u) made outcome out is push = record { added = push.added; pushes = push.pushes; failures = push.failures }
push_made old new (Err fault) made outcome out is push = absurd (cc)

-- and one that failed
pub push_failed : (old new : KnownSink) (pushed : Result (Unit {0}) RunFault) (fault : RunFault) (out : List ℕ) → pushed ≡ Err fault → IsPush old new pushed out →
    IsPush {A = CheckOutcome} {E = RunFault} old new (Err fault) out
push_failed old new (Ok u) fault out is push = absurd (cc)
push_failed old new (Err other) fault out is push = record { added = push.added; pushes = push.pushes; failures = push.failures }

-- ---- what comes of it

pub told_outcome : (notes : List Note) (refusals : List Refusal) → list_any is_fault notes ≡ true → Told ≡ outcome_of (fault_lines notes) refusals
told_outcome [] refusals some = absurd (cc)
told_outcome (Fault place reason ∷ notes) refusals some = refl
told_outcome (Warning place warning ∷ notes) refusals some = told_outcome notes refusals some

pub clean_outcome : (notes : List Note) (refusals : List Refusal) → list_any is_fault notes ≡ false → (length refusals == 0) ≡ true → Clean ≡ outcome_of (fault_lines notes) refusals
clean_outcome notes [] fine none = ap (λ (lines : List ℕ). outcome_of lines []) (sym (no_lines notes fine))
clean_outcome notes (refusal ∷ refusals) fine none = absurd (omega (arith, eqb-true (length (refusal ∷ refusals)) 0 none))

pub refused_outcome : (notes : List Note) (refusals : List Refusal) → list_any is_fault notes ≡ false → (length refusals == 0) ≡ false → Told ≡ outcome_of (fault_lines notes) refusals
refused_outcome notes [] fine some = absurd (cc)
refused_outcome notes (refusal ∷ refusals) fine some = ap (λ (lines : List ℕ). outcome_of lines (refusal ∷ refusals)) (sym (no_lines notes fine))

-- ---- the refusals of one command after another

-- there are no more
pub no_more : (told more total : List Refusal) → more ≡ [] → told ++ more ≡ total → told ≡ total
no_more told more total none so_far = sym (append-nil told) ∙ sym (ap (λ (t : List Refusal). told ++ t) none) ∙ so_far

-- those of one command are told
pub one_more_told : (told here more all total new : List Refusal) → new ≡ told ++ here → all ≡ here ++ more → told ++ all ≡ total → new ++ more ≡ total
one_more_told told here more all total new is_new is_all so_far =
    ap (λ (t : List Refusal). t ++ more) is_new ∙ append_assoc told here more ∙ sym (ap (λ (t : List Refusal). told ++ t) is_all) ∙ so_far
