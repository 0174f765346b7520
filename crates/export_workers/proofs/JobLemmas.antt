-- Jobs that workers share, answered one by one and put in order.
use Rattle.std.proofs.Common.{◌≡◌, ℕ, suc, ◌+◌, ◌<◌, ◌≤◌, List, [], ◌∷◌, ◌++◌, length, drop, Result, Ok, IfOk, refl, sym, ap, ◌∙◌, subst, arith, get_or, drop-cons, length-append}
use Rattle.std.proofs.lemmas.List.{drop_all}
use Rattle.generations_rule.specs.Rule.{GenerationsRule}
use Rattle.stamped_tree.specs.Plane.{StampedPlane}
use Rattle.export.specs.declared.fault.ExportFault.{ExportFault}
use Rattle.export_workers.specs.Exports.{AreAnswered, AreExportAnswers, AreOfWorker, AreQueued, AreQueuedOks, IsJobAnswer}

-- one more job is answered
pub one_more : {A : Type 0} (P : ℕ → A → Type 0) (n w next first : ℕ) (answers : List A) (answer : A)
    → AreAnswered P n w next first answers → next < n → P next answer → AreAnswered P n w (next + w) first (answers ++ answer ∷ [])
one_more P n w next first [] answer e below is = let F : ℕ → Type 0 = λ k. (k < n) × P k answer × (next + w ≡ k + w) in subst F e (below, is, refl)
one_more P n w next first (a ∷ answers) answer e below is = (e.0, e.1, one_more P n w next (first + w) answers answer e.2 below is)

-- no job is left
pub all_done : {A : Type 0} (P : ℕ → A → Type 0) (n w next first : ℕ) (answers : List A)
    → AreAnswered P n w next first answers → n ≤ next → AreOfWorker P n w first answers
all_done P n w next first [] e past = omega (arith, e, past)
all_done P n w next first (a ∷ answers) e past = (e.0, e.1, all_done P n w next (first + w) answers e.2 past)

-- a worker whose next job comes last stands behind the others
pub behind : {A : Type 0} (P : ℕ → A → Type 0) (n w job at : ℕ) (shares : List (List A)) (share : List A)
    → AreQueued P n w job shares → at ≡ job + length shares → AreOfWorker P n w at share → AreQueued P n w job (shares ++ share ∷ [])
behind {A} P n w job at [] share q e is = let F : ℕ → Type 0 = λ k. AreOfWorker P n w k share in let same : at ≡ job = omega (arith, e) in (subst F same is, tt)
behind P n w job at (s ∷ shares) share q e is = (q.0, behind P n w (job + 1) at shares share q.1 (omega (arith, e)) is)

-- the first worker gives an answer, and stands behind the others
pub takes_turn : {A : Type 0} (P : ℕ → A → Type 0) (n w job : ℕ) (shares : List (List A)) (left : List A) (answer : A)
    → AreQueued P n w job ((answer ∷ left) ∷ shares) → length shares + 1 ≡ w
    → (job < n) × P job answer × AreQueued P n w (job + 1) (shares ++ left ∷ [])
takes_turn P n w job shares left answer q e = (q.0.0, q.0.1, behind P n w (job + 1) (job + w) shares left q.1 (omega (arith, e)) q.0.2)

-- the workers' answers, by their numbers
pub by_number : {A E : Type 0} (P : ℕ → A → Type 0) (n w job : ℕ) (shares : List (Result (List A) E))
    → ((i : ℕ) (d : Result (List A) E) → i < length shares → IfOk (get_or shares i d) (λ answers. AreOfWorker P n w (job + i) answers))
    → AreQueuedOks P n w job shares
by_number P n w job [] each = tt
by_number {A} {E} P n w job (share ∷ shares) each = (
  let F : ℕ → Type 0 = λ k. IfOk share (λ answers. AreOfWorker P n w k answers) in let same : job + 0 ≡ job = omega arith in subst F same (each 0 share (omega arith)),
  by_number P n w (job + 1) shares (λ i d below.
      let F : ℕ → Type 0 = λ k. IfOk (get_or shares i d) (λ answers. AreOfWorker P n w k answers) in
      let same : job + suc i ≡ job + 1 + i = omega arith in
      let within : suc i < length (share ∷ shares) = omega arith in
      subst F same (each (suc i) d within)),
)

-- all jobs in order are the list of answers
pub in_order : (r : GenerationsRule) (p : StampedPlane) (gs : List ℕ) (first : ℕ) (answers : List (Result (List ℕ) ExportFault))
    → AreAnswered (IsJobAnswer r p gs) (length gs) 1 (length gs) first answers → AreExportAnswers r p (drop first gs) answers
in_order r p gs first [] all =
    let F : List ℕ → Type 0 = λ s. AreExportAnswers r p s [] in
    let none : drop first gs ≡ [] = drop_all first gs (omega (arith, all)) in
    subst F (sym none) tt
in_order r p gs first (answer ∷ answers) all =
    let F : List ℕ → Type 0 = λ s. AreExportAnswers r p s (answer ∷ answers) in
    let one : drop first gs ≡ get_or gs first 0 ∷ drop (suc first) gs = drop-cons gs first 0 all.0 in
    let next : AreExportAnswers r p (drop (first + 1) gs) answers = in_order r p gs (first + 1) answers all.2 in
    let N : ℕ → Type 0 = λ k. AreExportAnswers r p (drop k gs) answers in
    let same : first + 1 ≡ suc first = omega arith in
    subst F (sym one) (all.1, subst N same next)

-- what one step adds to a queue of workers, and what it leaves
pub adds : {A E : Type 0} (P : ℕ → A → Type 0) (n w total : ℕ) (queue longer : List (List A)) (share : List A) (first : Result (List A) E) (left rest : List (Result (List A) E))
    → AreQueued P n w 0 queue → AreQueuedOks P n w (length queue) left → length queue + length left ≡ total
    → left ≡ first ∷ rest → first ≡ Ok share → longer ≡ queue ++ share ∷ []
    → AreQueued P n w 0 longer × AreQueuedOks P n w (length longer) rest × (length longer + length rest ≡ total)
adds {A} {E} P n w total queue longer share first left rest q r e at ok is =
    let F : List (Result (List A) E) → Type 0 = λ l. AreQueuedOks P n w (length queue) l in
    let G : Result (List A) E → Type 0 = λ s. IfOk s (λ answers. AreOfWorker P n w (length queue) answers) × AreQueuedOks P n w (length queue + 1) rest in
    let one : IfOk first (λ answers. AreOfWorker P n w (length queue) answers) × AreQueuedOks P n w (length queue + 1) rest = subst F at r in
    let both : AreOfWorker P n w (length queue) share × AreQueuedOks P n w (length queue + 1) rest = subst G ok one in
    let more : length longer ≡ length queue + 1 = ap length is ∙ length-append queue (share ∷ []) in
    let fewer : length left ≡ length rest + 1 = ap length at ∙ omega arith in
    let K : ℕ → Type 0 = λ k. AreQueuedOks P n w k rest in
    let Q : List (List A) → Type 0 = λ l. AreQueued P n w 0 l in
    let zero_add : length queue ≡ 0 + length queue = omega arith in
    (subst Q (sym is) (behind P n w 0 (length queue) queue share q zero_add both.0), subst K (sym more) both.1, omega (arith, e, more, fewer))

-- one job more is in order
pub turn : {A : Type 0} (P : ℕ → A → Type 0) (n w job : ℕ) (answers longer : List A) (queue next rest : List (List A)) (share left : List A) (answer : A)
    → AreAnswered P n 1 job 0 answers → AreQueued P n w job queue → length queue ≡ w
    → queue ≡ share ∷ rest → share ≡ answer ∷ left → longer ≡ answers ++ answer ∷ [] → next ≡ rest ++ left ∷ []
    → AreAnswered P n 1 (job + 1) 0 longer × AreQueued P n w (job + 1) next × (length next ≡ w)
turn {A} P n w job answers longer queue next rest share left answer all q e at is more put =
    let F : List (List A) → Type 0 = λ l. AreQueued P n w job l in
    let G : List A → Type 0 = λ s. AreQueued P n w job (s ∷ rest) in
    let first : AreQueued P n w job ((answer ∷ left) ∷ rest) = subst G is (subst F at q) in
    let count : length rest + 1 ≡ w = sym (ap length at ∙ omega arith) ∙ e in
    let turned : (job < n) × P job answer × AreQueued P n w (job + 1) (rest ++ left ∷ []) = takes_turn P n w job rest left answer first count in
    let L : List A → Type 0 = λ l. AreAnswered P n 1 (job + 1) 0 l in
    let Q : List (List A) → Type 0 = λ l. AreQueued P n w (job + 1) l in
    (subst L (sym more) (one_more P n 1 job 0 answers answer all turned.0 turned.1), subst Q (sym put) turned.2, ap length put ∙ length-append rest (left ∷ []) ∙ count)

-- the same from the first worker on
pub by_number_from_first : {A E : Type 0} (P : ℕ → A → Type 0) (n w : ℕ) (shares : List (Result (List A) E))
    → ((i : ℕ) (d : Result (List A) E) → i < length shares → IfOk (get_or shares i d) (λ answers. AreOfWorker P n w i answers))
    → AreQueuedOks P n w 0 shares
by_number_from_first {A} {E} P n w shares each =
    by_number P n w 0 shares (λ i d below.
    let F : ℕ → Type 0 = λ k. IfOk (get_or shares i d) (λ answers. AreOfWorker P n w k answers) in
    let same : i ≡ 0 + i = omega arith in
    subst F same (each i d below))

-- the first worker has the answer of a job that is there
pub has_answer : {A : Type 0} (P : ℕ → A → Type 0) (n w job : ℕ) (queue rest : List (List A)) (share : List A)
    → AreQueued P n w job queue → queue ≡ share ∷ rest → job < n → share ≡ [] → ⊥
has_answer {A} P n w job queue rest share q at there none =
    let F : List (List A) → Type 0 = λ l. AreQueued P n w job l in
    let G : List A → Type 0 = λ s. AreQueued P n w job (s ∷ rest) in
    let first : AreQueued P n w job ([] ∷ rest) = subst G none (subst F at q) in
    omega (arith, first.0, there)
