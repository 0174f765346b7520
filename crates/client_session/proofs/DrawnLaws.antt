-- Drawings that were made, and what is told and noted of them.
use Rattle.std.proofs.Common.{◌≡◌, ◌∙◌, ℕ, List, [], ◌∷◌, length, Option, Ok, Err, sym, ap, subst}
use Rattle.std.specs.Prelude.{IfSome}
use Rattle.pattern_cells.specs.declared.cell.Cell.{Cell}
use Rattle.edit_stamps.specs.Edit.{PlaneEdit, greatest}
use Rattle.stamped_tree.specs.Plane.{StampedPlane, map_of}
use Rattle.cell_changes.specs.Changes.{WatchesJoin}
use Rattle.drawing_history.specs.Makings.{MakingState}
use Rattle.drawing_history.proofs.Noting.{notes_stroke}
use Rattle.delta_exchange.specs.declared.message.Content.TheVariants.{Edits}
use Rattle.replica_core.specs.Replica.{ReplicaState, Takes}
use Rattle.board_client.specs.declared.publishing.Drawing.{Drawing}
use Rattle.board_client.specs.declared.publishing.Drawing.TheVariants as drawings
use Rattle.board_client.specs.Client.{LineState}
use Rattle.board_client.specs.Drawing.{IsPublishingEnd}
use Rattle.board_client.specs.Pushed.{PushedEdit}
use Rattle.client_session.specs.declared.fault.CommandFault.{CommandFault}
use Rattle.client_session.specs.declared.fault.CommandFault.TheVariants.{Client, Refused, Memory, StoreFull}
use Rattle.client_session.specs.declared.outcome.Outcome.{Outcome}
use Rattle.client_session.specs.declared.workspace.Workspace.{Workspace}
use Rattle.client_session.specs.Drawing.{AddsDrawing, DrawingFindsNoRoom, DrawsAndTells, IsDrawingTold, IsDrawnUntold, NotesDrawing, TellsDrawing, outcome_of}
use Rattle.client_session.specs.Moment.{IsCutShort, IsWant, Moment}

-- what was added of what was watched, before a replica took an edit that was drawn, is that edit's stroke
noted_drawing : (e : PlaneEdit) (watched : Option (List Cell)) (drawing : Drawing) (a b : LineState) (r s : ReplicaState) (old new : MakingState)
    → IfSome watched (λ cells. WatchesJoin cells (map_of r.plane) (greatest (e ∷ []))) → IsPublishingEnd e a b r s (Ok drawing) → AddsDrawing drawing watched e.stamp (map_of s.plane) old new
    → NotesDrawing drawing e (map_of r.plane) (map_of s.plane) old new
noted_drawing e watched (drawings.Drawn counter) a b r s old new watches drawn adds =
    let takes : Takes r s (Edits (e ∷ [])) = subst (Takes r s) drawn.1.1.1 drawn.1.1.2 in
    notes_stroke (map_of r.plane) (map_of s.plane) e watched watches takes.map old new adds
noted_drawing e watched (drawings.Refused fault) a b r s old new watches drawn adds = adds
noted_drawing e watched (drawings.Unpublished number) a b r s old new watches drawn adds = adds

module _ (p : PushedEdit) (v m n : Moment) (took : ReplicaState) (known : ℕ) (drawing : Drawing) (is : m ≡ v) (drawn : IsPublishingEnd p.edit m.line n.line m.workspace.replica took (Ok drawing))
    (counted : known ≡ length m.workspace.replica.journal) (same : n.workspace.replica ≡ took) (doubt : Option PushedEdit) (still : doubt ≡ m.workspace.doubt) where
  made : IsPublishingEnd p.edit m.line n.line m.workspace.replica n.workspace.replica (Ok drawing)
  made = subst (λ (r : ReplicaState). IsPublishingEnd p.edit m.line n.line m.workspace.replica r (Ok drawing)) (sym same) drawn

  module _ (w : Workspace) (kept : n.workspace ≡ record w { making = n.workspace.making }) (making : w.making ≡ m.workspace.making) where
    -- what was told stands at the workspace behind the telling: but for what was noted since it is the last
    told_behind : TellsDrawing drawing known (record m.workspace { replica = took; doubt = doubt }) w m.out n.out
        → TellsDrawing drawing (length m.workspace.replica.journal) (record m.workspace { replica = n.workspace.replica }) (record n.workspace { making = m.workspace.making }) m.out n.out
    told_behind told =
        subst (λ (s : Workspace). TellsDrawing drawing (length m.workspace.replica.journal) (record m.workspace { replica = n.workspace.replica }) s m.out n.out)
        (ap (λ (k : MakingState). record w { making = k }) making ∙ sym (ap (λ (s : Workspace). record s { making = m.workspace.making }) kept))
        (subst (λ (r : ReplicaState). TellsDrawing drawing (length m.workspace.replica.journal) (record m.workspace { replica = r }) w m.out n.out) (sym same)
        (subst (λ (k : ℕ). TellsDrawing drawing k (record m.workspace { replica = took }) w m.out n.out) counted
        (subst (λ (d : Option PushedEdit). TellsDrawing drawing known (record m.workspace { replica = took; doubt = d }) w m.out n.out) still told)))

    module _ (watched : Option (List Cell)) (stamp : ℕ) (by : stamp ≡ p.edit.stamp) (before : StampedPlane) (first : before ≡ m.workspace.replica.plane) where
      noted_behind : IfSome watched (λ cells. WatchesJoin cells (map_of before) (greatest (p.edit ∷ []))) → AddsDrawing drawing watched stamp (map_of w.replica.plane) w.making n.workspace.making
          → NotesDrawing drawing p.edit (map_of m.workspace.replica.plane) (map_of n.workspace.replica.plane) m.workspace.making n.workspace.making
      noted_behind watches adds = noted_drawing p.edit watched drawing m.line n.line m.workspace.replica n.workspace.replica m.workspace.making n.workspace.making
          (subst (λ (q : StampedPlane). IfSome watched (λ cells. WatchesJoin cells (map_of q) (greatest (p.edit ∷ [])))) first watches) made
          (subst (λ (x : ℕ). AddsDrawing drawing watched x (map_of n.workspace.replica.plane) m.workspace.making n.workspace.making) by
          (subst (λ (x : MakingState). AddsDrawing drawing watched stamp (map_of n.workspace.replica.plane) x n.workspace.making) making
          (subst (λ (s : Workspace). AddsDrawing drawing watched stamp (map_of s.replica.plane) w.making n.workspace.making) (sym kept) adds)))

      pub drawn_told : (came : Outcome) → TellsDrawing drawing known (record m.workspace { replica = took; doubt = doubt }) w m.out n.out
          → IfSome watched (λ cells. WatchesJoin cells (map_of before) (greatest (p.edit ∷ []))) → AddsDrawing drawing watched stamp (map_of w.replica.plane) w.making n.workspace.making
          → came ≡ outcome_of drawing → DrawsAndTells p v n came
      drawn_told came told watches adds outcome = subst (λ (x : Moment). DrawsAndTells p x n came) is (record {
        drawing = drawing;
        drawn = made;
        told = told_behind told;
        noted = noted_behind watches adds;
        outcome_is = outcome;
      })

  lacks_telling : (fault : CommandFault) → IsWant (DrawingFindsNoRoom drawing known (record m.workspace { replica = took }) n.workspace m.out n.out) fault
      → IsCutShort (record m.workspace { replica = took }) n.workspace m.out n.out → IsDrawnUntold p fault v n
  lacks_telling fault want cut = subst (λ (x : Moment). IsDrawnUntold p fault x n) is (record {
    answer = drawing;
    done = made;
    want = subst (λ (r : ReplicaState). IsWant (DrawingFindsNoRoom drawing (length m.workspace.replica.journal) (record m.workspace { replica = r }) n.workspace m.out n.out) fault) (sym same)
        (subst (λ (k : ℕ). IsWant (DrawingFindsNoRoom drawing k (record m.workspace { replica = took }) n.workspace m.out n.out) fault) counted want);
    cut = subst (λ (r : ReplicaState). IsCutShort (record m.workspace { replica = r }) n.workspace m.out n.out) (sym same) cut;
  })

  pub drawn_untold : (fault : CommandFault) → IsWant (DrawingFindsNoRoom drawing known (record m.workspace { replica = took; doubt = doubt }) n.workspace m.out n.out) fault
      → IsCutShort (record m.workspace { replica = took; doubt = doubt }) n.workspace m.out n.out → IsDrawingTold p v n (Err fault)
  drawn_untold (Client fault) want cut = absurd want
  drawn_untold (Refused number) want cut = absurd want
  drawn_untold Memory want cut = lacks_telling Memory (subst (λ (d : Option PushedEdit). IsWant (DrawingFindsNoRoom drawing known (record m.workspace { replica = took; doubt = d }) n.workspace m.out n.out) Memory) still want)
      (subst (λ (d : Option PushedEdit). IsCutShort (record m.workspace { replica = took; doubt = d }) n.workspace m.out n.out) still cut)
  drawn_untold StoreFull want cut = lacks_telling StoreFull (subst (λ (d : Option PushedEdit). IsWant (DrawingFindsNoRoom drawing known (record m.workspace { replica = took; doubt = d }) n.workspace m.out n.out) StoreFull) still want)
      (subst (λ (d : Option PushedEdit). IsCutShort (record m.workspace { replica = took; doubt = d }) n.workspace m.out n.out) still cut)
