-- Edits that a replica takes, and that are drawn one by one.
use Rattle.std.proofs.Common.{◌≡◌, ◌∙◌, ap, inr, refl, sym, Err, ℕ, ◌<◌, ◌≤◌, List, [], ◌∷◌, length, take, drop, Option, Result, Ok, subst}
use Rattle.std.specs.Prelude.{IfSome}
use Rattle.std.proofs.Math.Seq.{take-append_seam}
use mathlib.Core.List.{IsPrefix}
use Rattle.generations_rule.specs.Rule.{GenerationsRule}
use Rattle.kept_log.specs.Kept.{Always, Leaves}
use Rattle.pattern_cells.specs.declared.cell.Cell.{Cell}
use Rattle.stamped_tree.specs.Plane.{StampedPlane, map_of}
use Rattle.edit_stamps.specs.Edit.{PlaneEdit, greatest, most_cells}
use Rattle.cell_changes.specs.Changes.{WatchesJoin}
use Rattle.drawing_history.specs.Makings.{AddsStroke, MakingState, NotesStroke}
use Rattle.drawing_history.proofs.Noting.{notes_stroke}
use Rattle.delta_exchange.specs.declared.message.Content.{Content}
use Rattle.delta_exchange.specs.declared.message.Content.TheVariants.{Edits}
use Rattle.replica_core.specs.Exchange.{TakesSome}
use Rattle.replica_core.specs.Replica.{IsUnchanged, MeetsWant, ReplicaState, Takes}
use Rattle.replica_core.specs.declared.fault.Fault.{Fault}
use Rattle.replica_core.specs.declared.fault.Fault.TheVariants as faults
use Rattle.document_pen.specs.declared.pen.Outcome.{Outcome}
use Rattle.document_pen.specs.declared.pen.Outcome.TheVariants.{Drawn}
use Rattle.document_pen.specs.declared.fault.PenFault.{PenFault}
use Rattle.document_pen.specs.declared.fault.PenFault.TheVariants as faults_of
use Rattle.document_pen.specs.Drawing.{FindsNoRoom, HoldsEdit, IsEditDrawn, IsKept, IsSafe, with_edit}
use Rattle.document_pen.specs.Opening.{DrawsAll, DrawsSome, IsStopped}
use Rattle.document_pen.specs.Opening.DrawsAll.{last, more, stops}
use Rattle.document_pen.specs.Pen.{PenState}

module _ (e : PlaneEdit) (q r s : ReplicaState) (edits : List PlaneEdit) (one : edits ≡ e ∷ []) (same : q ≡ r) where
  -- a replica takes the list of one edit
  pub holds : TakesSome q s (λ content. content ≡ Edits edits) → HoldsEdit e r s
  holds takes = subst (λ (x : ReplicaState). HoldsEdit e x s) same (subst (λ (xs : List PlaneEdit). TakesSome q s (λ content. content ≡ Edits xs)) one takes)

  -- or finds no room for it
  pub finds_no_room : (fault : Fault) → fault ≡ faults.StoreFull → MeetsWant q s (λ content. content ≡ Edits edits) fault → FindsNoRoom e r s
  finds_no_room fault full wants =
      subst (λ (x : ReplicaState). FindsNoRoom e x s) same
      (subst (λ (xs : List PlaneEdit). MeetsWant q s (λ content. content ≡ Edits xs) faults.StoreFull) one
      (subst (λ (f : Fault). MeetsWant q s (λ content. content ≡ Edits edits) f) full wants))

  -- behind any want it is as it was
  pub stays : (fault : Fault) → MeetsWant q s (λ content. content ≡ Edits edits) fault → IsUnchanged r s
  stays fault wants = subst (λ (x : ReplicaState). IsUnchanged x s) same wants.unchanged

module _ (e : PlaneEdit) (m n : PenState) (before after : StampedPlane) (seen copied : Option (List Cell)) (stamp : ℕ) (old new : MakingState)
    (first : before ≡ m.replica.plane) (last : after ≡ n.replica.plane) (same : copied ≡ seen) (by : stamp ≡ e.stamp) (was : old ≡ m.making) (is : new ≡ n.making) where
  -- what was added to the strokes, of what was watched before a replica took an edit, is the edit's stroke
  pub notes : IfSome seen (λ cells. WatchesJoin cells (map_of before) (greatest (e ∷ []))) → HoldsEdit e m.replica n.replica → AddsStroke copied stamp (map_of after) old new
      → NotesStroke (map_of m.replica.plane) e (map_of n.replica.plane) m.making n.making
  notes watches held adds = notes_stroke (map_of m.replica.plane) (map_of n.replica.plane) e seen watched takes.map m.making n.making added
    where
      takes : Takes m.replica n.replica (Edits (e ∷ []))
      takes = subst (λ (content : Content). Takes m.replica n.replica content) held.1 held.2

      watched : IfSome seen (λ cells. WatchesJoin cells (map_of m.replica.plane) (greatest (e ∷ [])))
      watched = subst (λ (p : StampedPlane). IfSome seen (λ cells. WatchesJoin cells (map_of p) (greatest (e ∷ [])))) first watches

      added : AddsStroke seen e.stamp (map_of n.replica.plane) m.making n.making
      added =
          subst (λ (x : MakingState). AddsStroke seen e.stamp (map_of n.replica.plane) x n.making) was
          (subst (λ (x : MakingState). AddsStroke seen e.stamp (map_of n.replica.plane) old x) is
          (subst (λ (x : ℕ). AddsStroke seen x (map_of n.replica.plane) old new) by
          (subst (λ (x : Option (List Cell)). AddsStroke x stamp (map_of n.replica.plane) old new) same
          (subst (λ (x : StampedPlane). AddsStroke copied stamp (map_of x) old new) last adds))))

-- what is cut back to the length of what stood there before is that
pub cut_back : (before after cut : List ℕ) (size : ℕ) → IsPrefix before after → size ≡ length before → cut ≡ take size after → cut ≡ before
cut_back before after cut size front long is = is ∙ (ap (λ (n : ℕ). take n after) long ∙ (ap (take (length before)) (sym front.1) ∙ take-append_seam before front.0))

-- what was noted of an edit that the replica holds, where its record is not kept: memory is wanting, or the file failed
pub unkept : (e : PlaneEdit) (m b k n : PenState) (fault : PenFault) → IsKept {A = Unit {0}} e b k (Err fault) → b ≡ record m { replica = k.replica; making = k.making }
    → HoldsEdit e m.replica k.replica → NotesStroke (map_of m.replica.plane) e (map_of k.replica.plane) m.making k.making → (k.patterns ≡ m.patterns) × (k.way ≡ m.way) → n ≡ record k { out = m.out }
    → IsEditDrawn e m n (Err fault)
unkept e m b k n fault kept was held noted rest is = subst (λ (x : PenState). IsEditDrawn e m x (Err fault)) (sym is) (by_fault fault (subst (λ (x : PenState). IsKept {A = Unit {0}} e x k (Err fault)) was kept))
  where
    before : PenState
    before = record m { replica = k.replica; making = k.making }

    after : PenState
    after = record k { out = m.out }

    of_rule : k.replica.rule ≡ m.replica.rule
    of_rule = held.2.one.rule

    safe : IsSafe e before k → IsSafe e m after
    safe always bodies keeps = subst (λ (r : GenerationsRule). Always (Leaves bodies (with_edit r bodies e)) m.file k.file) of_rule (always bodies keeps)

    by_fault : (fault : PenFault) → IsKept {A = Unit {0}} e before k (Err fault) → IsEditDrawn e m after (Err fault)
    by_fault faults_of.Memory left = inr (record { held = held; noted = noted; left = rw (left.file, left.takes, rest.0, rest.1) refl })
    by_fault faults_of.StoreFull none = absurd none
    by_fault faults_of.Write failed = record { held = held; failed = record { safe = safe failed.safe; stopped = failed.stopped }; noted = noted; told = refl; rest = rest }

module _ (after : ℕ) (cells rest : List Cell) (start m : PenState) (left : (n : PenState) (result : Result Outcome PenFault) → DrawsAll after rest m n result → DrawsAll after cells start n result) where
  pub drawn_last : (n : PenState) (result : Result Outcome PenFault) → length rest ≤ most_cells → DrawsSome after rest m n result → DrawsAll after cells start n result
  drawn_last n result few draws = left n result (last few draws)

  pub drawn_on : (some behind : List Cell) (mid : PenState) → most_cells < length rest → some ≡ take most_cells rest → behind ≡ drop most_cells rest → DrawsSome after some m mid (Ok Drawn)
      → (n : PenState) (result : Result Outcome PenFault) → DrawsAll after behind mid n result → DrawsAll after cells start n result
  drawn_on some behind mid many front back draws n result all =
      left n result (more many (subst (λ (xs : List Cell). DrawsSome after xs m mid (Ok Drawn)) front draws) (subst (λ (xs : List Cell). DrawsAll after xs mid n result) back all))

  pub drawn_not : (some : List Cell) (n : PenState) (result : Result Outcome PenFault) → most_cells < length rest → some ≡ take most_cells rest → DrawsSome after some m n result → IsStopped result
      → DrawsAll after cells start n result
  drawn_not some n result many front draws stopped = left n result (stops many (subst (λ (xs : List Cell). DrawsSome after xs m n result) front draws) stopped)
