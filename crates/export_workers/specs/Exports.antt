-- Exports of one plane at many generations, and how workers share them.
use Rattle.std.specs.Prelude.{◌≡◌, ⊤, ℕ, ◌+◌, ◌<◌, ◌≤◌, List, [], ◌∷◌, Result, Ok, Err, IfOk, slice_index}
use Rattle.square_store.specs.Limits.{usual_room}
use Rattle.generations_rule.specs.Rule.{GenerationsRule}
use Rattle.generation_engine.specs.Universe.{states_in_writes}
use Rattle.stamped_tree.specs.Plane.{StampedPlane, map_of}
use Rattle.export.specs.declared.fault.ExportFault.{ExportFault}
use Rattle.export.specs.declared.fault.ExportFault.TheVariants.{GenRange, TooManyCells, StoreFull, Memory}
use Rattle.export.specs.Export.{IsExport, IsExportRefused, IsRoomWanted, most_cells}

-- room is told as wanted only where an export wants it
abbrev pub TellsRoom : GenerationsRule → StampedPlane → ℕ → ExportFault → Type 0
TellsRoom r p g StoreFull = IsRoomWanted r p g usual_room
TellsRoom r p g GenRange = ⊤
TellsRoom r p g TooManyCells = ⊤
TellsRoom r p g Memory = ⊤

-- the answer of one export of a plane: its text, its refusal, or a want
abbrev pub IsExportAnswer : GenerationsRule → StampedPlane → ℕ → Result (List ℕ) ExportFault → Type 0
IsExportAnswer r p g (Ok text) = IsExport r (states_in_writes (map_of p)) g most_cells (Ok text)
IsExportAnswer r p g (Err fault) = IsExportRefused r (states_in_writes (map_of p)) g most_cells fault × TellsRoom r p g fault

-- an answer for each generation, in their order
abbrev pub AreExportAnswers : GenerationsRule → StampedPlane → List ℕ → List (Result (List ℕ) ExportFault) → Type 0
AreExportAnswers r p [] [] = ⊤
AreExportAnswers r p (g ∷ gs) (answer ∷ answers) = IsExportAnswer r p g answer × AreExportAnswers r p gs answers
AreExportAnswers r p [] (answer ∷ answers) = ⊥
AreExportAnswers r p (g ∷ gs) [] = ⊥

-- ---- jobs, counted from 0, one for each generation

-- the answer of a job
abbrev pub IsJobAnswer : GenerationsRule → StampedPlane → List ℕ → ℕ → Result (List ℕ) ExportFault → Type 0
IsJobAnswer r p gs job answer = IsExportAnswer r p (slice_index gs job) answer

-- the answers of the jobs first, first + w and so on, up to before the job next, each below n
abbrev pub AreAnswered : {A : Type 0} → (ℕ → A → Type 0) → ℕ → ℕ → ℕ → ℕ → List A → Type 0
AreAnswered IsFor n w next first [] = next ≡ first
AreAnswered IsFor n w next first (answer ∷ answers) = (first < n) × IsFor first answer × AreAnswered IsFor n w next (first + w) answers

-- the answers of all jobs first, first + w and so on below n
abbrev pub AreOfWorker : {A : Type 0} → (ℕ → A → Type 0) → ℕ → ℕ → ℕ → List A → Type 0
AreOfWorker IsFor n w first [] = n ≤ first
AreOfWorker IsFor n w first (answer ∷ answers) = (first < n) × IsFor first answer × AreOfWorker IsFor n w (first + w) answers

-- the answers of workers whose next jobs are job, job + 1 and so on
abbrev pub AreQueued : {A : Type 0} → (ℕ → A → Type 0) → ℕ → ℕ → ℕ → List (List A) → Type 0
AreQueued IsFor n w job [] = ⊤
AreQueued IsFor n w job (share ∷ shares) = AreOfWorker IsFor n w job share × AreQueued IsFor n w (job + 1) shares

-- the same, where a worker may have found no memory
abbrev pub AreQueuedOks : {A E : Type 0} → (ℕ → A → Type 0) → ℕ → ℕ → ℕ → List (Result (List A) E) → Type 0
AreQueuedOks IsFor n w job [] = ⊤
AreQueuedOks IsFor n w job (share ∷ shares) = IfOk share (λ answers. AreOfWorker IsFor n w job answers) × AreQueuedOks IsFor n w (job + 1) shares
