-- Each step of the board keeps its rule.
use Rattle.std.proofs.Common.{◌≡◌, ◌≢◌, ℕ, true, true≢false, List, [], ◌∷◌, ◌++◌, Option, None, Some, length, length-append, arith, fold, set, sym, refl, ap, ◌∙◌, subst, ⊎_elim}
use Rattle.std.proofs.lemmas.List.{append-nil}
use mathlib.Core.Option.{some}
use mathlib.Core.List.{IsPrefix}
use lib.ListN.{get_elem?}
use Rattle.crossbeam_utils.specs.Register.{Admits, TurnsAt, Turns, Forks, Merges}
use Rattle.atomic_table.proofs.Lists.{at_set, at_snoc}
use Rattle.board.specs.declared.entry.Entry.{Entry}
use Rattle.board.specs.declared.value.Publication.{Publication}
use Rattle.board.specs.declared.front.Front.{Front}
use Rattle.board.specs.declared.rule.Sight.{Sight}
use Rattle.board.specs.Content.{published}
use Rattle.board.specs.Origins.{origin, list_of}
use Rattle.board.specs.Showing.{Showing}
use Rattle.board.specs.Sights.{sight, stranger, Fits, IsWhole, Keeps, Tells}
use Rattle.board.specs.Resting.{IsNext, Rests}
use Rattle.board.proofs.Fronts.{prefix_self, prefix_trans}

-- what holds of each view
abbrev All : (Sight → Type 0) → List Sight → Type 0
All F views = (seat : ℕ) (v : Sight) → get_elem? views seat ≡ some v → F v

all_set : (F : Sight → Type 0) (views : List Sight) (seat : ℕ) (w : Sight) → F w → All F views → All F (set views seat w)
all_set F views seat w mine others j u e = ⊎_elim (λ (t : (j ≡ seat) × (w ≡ u)). subst F t.1 mine) (λ (t : (j ≢ seat) × (get_elem? views j ≡ some u)). others j u t.1) (at_set views seat j w u e)

all_snoc : (F : Sight → Type 0) (views : List Sight) (w : Sight) → F w → All F views → All F (views ++ w ∷ [])
all_snoc F views w mine others j u e = ⊎_elim (others j u) (λ (same : w ≡ u). subst F same mine) (at_snoc views w u j e)

pub fits_stranger : (x : Showing) → Fits x stranger
fits_stranger x = ((λ no. absurd (true≢false (sym no))), (x.list, refl))

pub admits : Admits Keeps stranger
admits x views h = record { whole = h.whole; each = all_snoc (Fits x) views stranger (fits_stranger x) h.each }

pub begins : (x : Showing) → IsWhole x → Keeps x (stranger ∷ [])
begins x whole = record { whole = whole; each = all_snoc (Fits x) [] stranger (fits_stranger x) (λ seat v e. absurd cc) }

fits_now : (x : Showing) → Fits x (sight true x.list x.origin)
fits_now x = ((λ yes. refl), prefix_self x.list)

pub enters : (seat : ℕ) (v : Sight) → Turns Keeps seat v (λ x. x) Tells
enters seat v x views h at = (
  sight true x.list x.origin,
  record { whole = h.whole; each = all_set (Fits x) views seat (sight true x.list x.origin) (fits_now x) h.each },
  record { now = refl; before = h.each seat v at; whole = h.whole },
)

-- the board goes from x to y by publications, of the same history
pub grows : (seat : ℕ) (v : Sight) (x y : Showing) → (IsWhole x → IsWhole y) → IsPrefix x.list y.list → y.origin ≡ x.origin → TurnsAt Keeps seat v x y Tells
grows seat v x y whole pre origin views h at =
    let along : (u : Sight) → Fits x u → Fits y u = λ u f. ((λ yes. f.0 yes ∙ sym origin), prefix_trans u.seen x.list y.list f.1 pre) in (
      sight true y.list y.origin,
      record { whole = whole h.whole; each = all_set (Fits y) views seat (sight true y.list y.origin) (fits_now y) (λ j u e. along u (h.each j u e)) },
      record { now = refl; before = h.each seat v at; whole = whole h.whole },
    )

pub forks : (seat : ℕ) (v : Sight) → Forks Keeps seat v v v
forks seat v x views h at = record { whole = h.whole; each = all_snoc (Fits x) (set views seat v) v (h.each seat v at) (all_set (Fits x) views seat v (h.each seat v at) h.each) }

pub merges : (seat : ℕ) (v : Sight) (other : ℕ) (w : Sight) → Merges Keeps seat v other w w stranger
merges seat v other w x views h at apart there =
    let f : Fits x w = ⊎_elim (λ (t : (other ≡ seat) × (w ≡ w)). absurd (apart t.0)) (λ (t : (other ≢ seat) × (get_elem? views other ≡ some w)). h.each other w t.1) (at_set views seat other w w there) in
    record { whole = h.whole; each = all_set (Fits x) (set views seat w) other stranger (fits_stranger x) (all_set (Fits x) views seat w f h.each) }

whole_same : (x y : Showing) → y ≡ x → IsWhole x → IsWhole y
whole_same x y e w = subst IsWhole (sym e) w

whole_next : (f : Front) (p : Publication) (x y : Showing) → IsNext f p x.list → y ≡ published x p → IsWhole y
whole_next f p x y n e = record { front = ap (λ (s : Showing). s.log) e ∙ (ap list_of n.0 ∙ (n.1 ∙ sym (ap (λ (s : Showing). s.list) e))) }

-- what is pending becomes the list of the front
pub shows : (seat : ℕ) (v : Sight) (f : Front) (ps : List Publication) (x y : Showing) → Rests f None ps x.list → x.origin ≡ origin f → y ≡ fold published x ps → TurnsAt Keeps seat v x y Tells
shows seat v f [] x y r at e = grows seat v x y (whole_same x y e) ([], append-nil x.list ∙ sym (ap (λ (s : Showing). s.list) e)) (ap (λ (s : Showing). s.origin) e)
shows seat v f (p ∷ []) x y r at e = grows seat v x y (λ w. whole_next f p x y r e) (p.entry ∷ [], sym (ap (λ (s : Showing). s.list) e)) (ap (λ (s : Showing). s.origin) e ∙ (ap origin r.0 ∙ sym at))
shows seat v f (p ∷ q ∷ ps) x y r at e = absurd r

-- afterwards nothing is pending
pub shown_rests : (f : Front) (ps : List Publication) (x y : Showing) → Rests f None ps x.list → x.origin ≡ origin f → y ≡ fold published x ps → (list_of f ≡ y.list) × (y.origin ≡ origin f)
shown_rests f [] x y r at e = (r ∙ sym (ap (λ (s : Showing). s.list) e), ap (λ (s : Showing). s.origin) e ∙ at)
shown_rests f (p ∷ []) x y r at e = (r.1 ∙ sym (ap (λ (s : Showing). s.list) e), ap (λ (s : Showing). s.origin) e ∙ ap origin r.0)
shown_rests f (p ∷ q ∷ ps) x y r at e = absurd r

-- one entry is announced, where none was
pub announces : (f g : Front) (w : Option Publication) (ps : List Publication) (list : List Entry) (p : Publication) → Rests f w ps list → list_of f ≡ list → IsNext g p list → Rests g (Some p) ps list
announces f g None [] list p r same next = next
announces f g None (q ∷ []) list p r same next = absurd (omega (arith, ap length (sym same ∙ r.1), length-append list (q.entry ∷ [])))
announces f g None (q ∷ o ∷ ps) list p r same next = absurd r
announces f g (Some q) [] list p r same next = next
announces f g (Some q) (o ∷ ps) list p r same next = absurd r

pub same_origin : (f g : Front) → g.prefix.seen.book ≡ f.prefix.seen.book → g.states ≡ f.states → origin g ≡ origin f
same_origin f g a b = λ i. record { book = a i; states = b i }
