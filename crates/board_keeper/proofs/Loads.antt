-- Bodies that are loaded, one after another.
use Rattle.std.proofs.Common.{◌≡◌, ◌+◌, ◌<◌, ◌≤◌, ℕ, zero, suc, List, [], ◌∷◌, ◌++◌, length, get_or, map, take, drop, set, Vec, Global, Ok, None, Some, slice_get, refl, sym, ap, subst, ◌∙◌, arith}
use Rattle.std.proofs.lemmas.List.{append-nil, drop_all, length-map, map_push, take_all}
use mathlib.Core.List.{IsPrefix}
use Rattle.board.proofs.Fronts.{prefix_get}
use Rattle.generations_rule.specs.Rule.{GenerationsRule}
use Rattle.edit_stamps.specs.Edit.{PlaneEdit}
use Rattle.edit_stamps.specs.Stamp.{counter_in, replica_in}
use Rattle.board.specs.declared.entry.Entry.{Entry}
use Rattle.board.specs.Entries.{edits_of}
use Rattle.document_bodies.specs.Bodies.{edit_bodies, edit_body}
use Rattle.document_bodies.specs.Counters.{AreNewestOf, HaveSeen, counter_of}
use Rattle.document_bodies.specs.Reading.{edit_of}
use Rattle.document_bodies.proofs.NewestLaws.{are_counter_laws, are_newest_laws}
use Rattle.relay_board.specs.Seating.{AllFresh, IsSame, Seating}
use Rattle.relay_board.proofs.Keeping.{take_next}
use Rattle.board_keeper.specs.declared.loading.LoadFault.{LoadFault}
use Rattle.board_keeper.specs.declared.loading.LoadFault.TheVariants as fault
use Rattle.board_keeper.specs.Loading.{AreGood, IsBodyFault, IsLoadFault}

-- a body that tells no edit is why the file is not loaded
pub edit_fault : (r : GenerationsRule) (bodies : List (List ℕ)) (at : ℕ) (body : List ℕ) (edits : List PlaneEdit) (f : LoadFault) → AreGood r bodies at edits → slice_get bodies at ≡ Some body → IsBodyFault r body at f
    → IsLoadFault r bodies f
edit_fault r bodies at body edits (fault.Body place why) good here h = (
  edits,
  body,
  subst (λ n. AreGood r bodies n edits) (sym h.0) good,
  subst (λ n. slice_get bodies n ≡ Some body) (sym h.0) here,
  h.1,
)
edit_fault r bodies at body edits (fault.OldStamp place stamp) good here h = absurd h
edit_fault r bodies at body edits (fault.Submit why) good here h = absurd h
edit_fault r bodies at body edits (fault.Turn why) good here h = absurd h
edit_fault r bodies at body edits fault.NotAlone good here h = absurd h
edit_fault r bodies at body edits fault.Memory good here h = tt

-- so is one whose stamp is not above the last of its replica
pub old_stamp : (r : GenerationsRule) (bodies : List (List ℕ)) (at : ℕ) (body : List ℕ) (edits : List PlaneEdit) (e : PlaneEdit) (stamp : ℕ) (counters : List ℕ) → AreGood r bodies at edits → slice_get bodies at ≡ Some body
    → edit_of r body ≡ Ok e → e.stamp ≡ stamp → AreNewestOf edits counters → (counter_of counters (replica_in e.stamp) < counter_in e.stamp → ⊥) → IsLoadFault r bodies (fault.OldStamp at stamp)
old_stamp r bodies at body edits e stamp counters good here is same newest old = (edits, body, e, good, here, is, same, λ may. old ((are_counter_laws.follows edits e counters newest).0 may))

-- one more is loaded
pub one_loaded : (r : GenerationsRule) (bodies : List (List ℕ)) (at : ℕ) (body : List ℕ) (edits : List PlaneEdit) (e : PlaneEdit) (counters after : List ℕ) → AreGood r bodies at edits → slice_get bodies at ≡ Some body → body ≡ edit_body r e
    → AreNewestOf edits counters → counter_of counters (replica_in e.stamp) < counter_in e.stamp → HaveSeen counters e.stamp after → AreGood r bodies (at + 1) (edits ++ e ∷ []) × AreNewestOf (edits ++ e ∷ []) after
one_loaded r bodies at body edits e counters after good here is newest less seen = (
  record {
    are = map_push (edit_body r) edits e ∙ ap (λ (l : List (List ℕ)). l ++ edit_body r e ∷ []) good.are ∙ ap (λ (b : List ℕ). take at bodies ++ b ∷ []) (sym is) ∙ take_next bodies at body here;
    rise = are_newest_laws.on edits e good.rise (omega (arith, less)) ((are_counter_laws.follows edits e counters newest).1 less);
  },
  are_counter_laws.seen edits e counters after newest seen,
)

-- the edits of a list with one entry more
pub edits_more : (list all : List Entry) (p : Entry) (e : PlaneEdit) → all ≡ list ++ p ∷ [] → p.edit ≡ e → edits_of all ≡ edits_of list ++ e ∷ []
edits_more list all p e is same = ap edits_of is ∙ map_push (λ (x : Entry). x.edit) list p ∙ ap (λ (x : PlaneEdit). edits_of list ++ x ∷ []) same

-- the text of the element at a place
pub text_at : (vs : List (Vec ℕ Global)) (at : ℕ) (v : Vec ℕ Global) → v ≡ get_or vs at v → at < length vs → slice_get (map (λ t. t.items) vs) at ≡ Some v.items
text_at [] at v is lt = absurd (omega (arith, lt))
text_at (w ∷ vs) zero v is lt = ap (λ (t : Vec ℕ Global). Some t.items) (sym is)
text_at (w ∷ vs) (suc at) v is lt = text_at vs at v is (omega (arith, lt))

-- what stays of a seat stays
pub seat_on : (a b c : Seating) → IsSame a b → IsSame b c → IsSame a c
seat_on a b c s t = record { place = t.place ∙ s.place; number = t.number ∙ s.number; rule = t.rule ∙ s.rule; floor = t.floor ∙ s.floor; room = t.room ∙ s.room }

-- the last of a list stands at its place
at_end : {A : Type 0} (xs : List A) (x : A) → slice_get (xs ++ x ∷ []) (length xs) ≡ Some x
at_end [] x = refl
at_end (y ∷ xs) x = at_end xs x

-- Where a list and another one begin what was seen, and the last of the one has the place in the other at which another
-- entry stands, it is that entry.
pub same_entry : (list seen other : List Entry) (e p : Entry) (at : ℕ) → IsPrefix (list ++ e ∷ []) seen → IsPrefix other seen → slice_get other at ≡ Some p → length list ≡ at → e ≡ p
same_entry list seen other e p at begins learnt here is =
    let one : slice_get seen (length list) ≡ Some e = prefix_get (list ++ e ∷ []) seen (length list) e begins (at_end list e) in
    let two : slice_get seen at ≡ Some p = prefix_get other seen at p learnt here in
    let both : Some e ≡ Some p = sym one ∙ (ap (λ (n : ℕ). slice_get seen n) is ∙ two) in cc

-- the next element of a list is changed
raise_at : {A : Type 0} (f : A → A) (old : List A) (i : ℕ) (x y : A) → i < length old → x ≡ get_or (map f (take i old) ++ drop i old) i x → y ≡ f x
    → set (map f (take i old) ++ drop i old) i y ≡ map f (take (i + 1) old) ++ drop (i + 1) old
raise_at f [] i x y lt is e = absurd (omega (arith, lt))
raise_at f (a ∷ old) zero x y lt is e = ap (λ z. z ∷ old) (e ∙ ap f is)
raise_at f (a ∷ old) (suc i) x y lt is e =
    let next : suc (i + 1) ≡ suc i + 1 = omega arith in
    ap (λ l. f a ∷ l) (raise_at f old i x y (omega (arith, lt)) is e) ∙ ap (λ m. map f (take m (a ∷ old)) ++ drop m (a ∷ old)) next

pub raise_next : {A : Type 0} (f : A → A) (old now : List A) (i : ℕ) (x y : A) → now ≡ map f (take i old) ++ drop i old → i < length old → x ≡ get_or now i x → y ≡ f x
    → set now i y ≡ map f (take (i + 1) old) ++ drop (i + 1) old
raise_next f old now i x y so_far lt is e = ap (λ l. set l i y) so_far ∙ raise_at f old i x y lt (is ∙ ap (λ l. get_or l i x) so_far) e

-- ---- seats with which nothing was done

-- the last of them rises from nowhere, and put nothing
pub fresh_last : (first : ℕ) (rule : GenerationsRule) (room n : ℕ) (xs : List Seating) (x : Seating) → AllFresh first rule room n (xs ++ x ∷ []) → (x.floor ≡ None) × (x.mine ≡ [])
fresh_last first rule room n [] x all = (ap (λ (s : Seating). s.floor) all.0, ap (λ (s : Seating). s.mine) all.0)
fresh_last first rule room n (y ∷ xs) x all = fresh_last first rule room (n + 1) xs x all.1

-- and the others put nothing
pub fresh_each : (first : ℕ) (rule : GenerationsRule) (room n : ℕ) (xs : List Seating) (x : Seating) → AllFresh first rule room n (xs ++ x ∷ []) → (k : ℕ) (d : Seating) → k < length xs → (get_or xs k d).mine ≡ []
fresh_each first rule room n [] x all k d lt = absurd (omega (arith, lt))
fresh_each first rule room n (y ∷ xs) x all zero d lt = ap (λ (s : Seating). s.mine) all.0
fresh_each first rule room n (y ∷ xs) x all (suc k) d lt = fresh_each first rule room (n + 1) xs x all.1 k d (omega (arith, lt))

-- what was changed in place is all there is
pub all_changed : (f : Seating → Seating) (before after : List Seating) (count : ℕ) → after ≡ map f before → length before ≤ count → take count (after ++ drop (length after) before) ≡ map f before
all_changed f before after count is most =
    let long : length after ≡ length before = ap length is ∙ length-map before f in
    let none : drop (length after) before ≡ [] = drop_all (length after) before (omega (arith, long)) in
    ap (λ (l : List Seating). take count (after ++ l)) none ∙ (ap (take count) (append-nil after) ∙ (take_all count after (omega (arith, long, most)) ∙ is))
