-- What is published, beside what was announced.
use Rattle.std.proofs.Common.{◌⊎◌, Bool, true, false, List, [], ◌∷◌, Option, Some, None, MatchBool, inl, sym, subst}
use mathlib.Core.List.{IsPrefix}
use Rattle.board.specs.declared.entry.Entry.{Entry}
use Rattle.board.specs.declared.front.Front.{Front}
use Rattle.board.specs.declared.value.Publication.{Publication}
use Rattle.board.specs.Origins.{list_of}
use Rattle.board.specs.Resting.{Rests}
use Rattle.board.proofs.Fronts.{prefix_either, prefix_self, prefix_trans}

-- the published list begins what was announced
pub rests_begins : (f : Front) (waiting : Option Publication) (pending : List Publication) (list : List Entry) → Rests f waiting pending list → IsPrefix list (list_of f)
rests_begins f None [] list h = subst (λ (l : List Entry). IsPrefix list l) (sym h) (prefix_self list)
rests_begins f None (p ∷ []) list h = (p.entry ∷ [], sym h.1)
rests_begins f None (p ∷ q ∷ ps) list h = absurd h
rests_begins f (Some p) [] list h = (p.entry ∷ [], sym h.1)
rests_begins f (Some p) (q ∷ ps) list h = absurd h

-- what begins a list begins each other of its history, or is begun by it
pub begins_either : (xs ys zs : List Entry) (shorter : Bool) → IsPrefix xs ys → MatchBool shorter (IsPrefix ys zs) (IsPrefix zs ys) → IsPrefix xs zs ⊎ IsPrefix zs xs
begins_either xs ys zs true p q = inl (prefix_trans xs ys zs p q)
begins_either xs ys zs false p q = prefix_either xs zs ys p q
