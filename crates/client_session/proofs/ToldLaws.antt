-- What is told of a board is what the replica holds.
use Rattle.std.proofs.Common.{◌≡◌, ℕ, true, List, [], ◌∷◌, ◌++◌, Option, Some, None, Result, Ok, Err, length, drop, refl, sym, ap, subst, ◌∙◌, inl, inr}
use Rattle.std.specs.Prelude.{is_some}
use Rattle.generations_rule.specs.Rule.{GenerationsRule}
use Rattle.edit_stamps.specs.Edit.{PlaneEdit, greatest}
use Rattle.stamped_writes.specs.Write.{Writes, AreSame, greater, joined, unwritten}
use Rattle.stamped_tree.specs.Plane.{StampedPlane, map_of}
use Rattle.delta_exchange.specs.declared.message.Content.{Content}
use Rattle.delta_exchange.specs.declared.message.Content.TheVariants as contents
use Rattle.delta_exchange.specs.MessageReading.{Told, ToldEdits, ToldMap, HasContentTold, begins_as_delta, message_of, told_as}
use Rattle.delta_exchange.specs.Reading.{delta_of}
use Rattle.delta_exchange.specs.declared.fault.ReadFault.{ReadFault}
use Rattle.stamped_tree.specs.Tree.{Tree}
use Rattle.generations_rule.specs.Refusal.{◌>>=◌}
use Rattle.replica_core.specs.Replica.{ReplicaState, IsReplica, Takes}
use Rattle.board_client.specs.Client.{LineState}
use Rattle.board_client.specs.Hearing.{AreDeltas, AreTaken, IsTaken}
use Rattle.board_client.specs.Polling.{IsFallenBack, IsNewsHeard, IsPoll, poll_request}
use Rattle.board_client.specs.declared.polling.Polling.TheVariants as polling
use Rattle.board_client.specs.declared.publishing.Drawing.{Drawing}
use Rattle.board_client.specs.declared.publishing.Drawing.TheVariants.{Drawn, Refused, Unpublished}
use Rattle.board_client.specs.Anew.{IsAnewSaid}
use Rattle.board_client.specs.Drawing.{IsPublishingBy, Pushes}
use Rattle.board_client.specs.Pushed.{PushedEdit}
use Rattle.board_client.specs.Pushing.{IsPushEnd}
use Rattle.board_client.specs.Saying.{IsDrawingSaid}
use Rattle.pattern_cells.specs.declared.cell.Cell.{Cell}
use Rattle.pattern_cells.specs.Cells.{place_of}
use Rattle.cell_changes.specs.Changes.{AreChanges}
use Rattle.client_session.specs.declared.outcome.Outcome.{Outcome}
use Rattle.client_session.specs.declared.joining.Telling.{Telling}
use Rattle.client_session.specs.declared.joining.Telling.TheVariants.{Edits, Changes, Nothing}
use Rattle.client_session.specs.declared.workspace.Workspace.{Workspace}
use Rattle.client_session.specs.Drawing.{DrawsBy, IsDrawingTold, Says, TellsDrawing, undoubted, unnoted}
use Rattle.client_session.specs.Joining.{IsBlank}
use Rattle.client_session.specs.Lines.{drawn_as, now_line}
use Rattle.client_session.specs.Moment.{Moment}
use Rattle.client_session.specs.Telling.{ShowsAll, TellsCame}
use Rattle.client_session.specs.Laws.{IsShown, IsShownAs, OfEach, ShowsWhatItHeard, ShowsWhatItHolds, TellsWhatChanged, TellsWhatTookItsPlace}
use Rattle.client_session.specs.News.{Comes, IsAwaited, IsReplyHeard, PollsBy}
use Rattle.client_session.proofs.FreshLaws.{Grows, HoldsAll, grows_by, grows_not, grows_on, joins_behind}

-- ---- what a replica takes

abbrev GrowsTo : ReplicaState → ReplicaState → Type 0
GrowsTo r s = Grows r.journal s.journal (map_of r.plane) (map_of s.plane)

took : (r s : ReplicaState) (content : Content) (edits : List PlaneEdit) → HoldsAll r.journal (map_of r.plane) → content ≡ contents.Edits edits → Takes r s content → GrowsTo r s
took r s content edits held is t =
    let taken : Takes r s (contents.Edits edits) = subst (Takes r s) is t in
    grows_by r.journal s.journal edits (map_of r.plane) (map_of s.plane) held taken.journal taken.map

never_map : (edits : Result (List PlaneEdit) ReadFault) (tree : Tree) → (edits >>= (λ es. Ok (ToldEdits es))) ≡ Ok (ToldMap tree) → ⊥
never_map (Ok edits) tree is = absurd cc
never_map (Err fault) tree is = absurd cc

-- a text that begins as a delta tells edits
told_edits : (rule : GenerationsRule) (text : List ℕ) (content : Content) (told : Told) → begins_as_delta text ≡ Ok true → message_of rule text ≡ Ok told → HasContentTold content told
    → (edits : List PlaneEdit) × (content ≡ contents.Edits edits)
told_edits rule text (contents.Edits edits) told begins means has = (edits, refl)
told_edits rule text (contents.State plane) (ToldEdits edits) begins means has = absurd has
told_edits rule text (contents.State plane) (ToldMap tree) begins means has = absurd (never_map (delta_of rule text) tree (subst (λ b. (b >>= told_as rule text) ≡ Ok (ToldMap tree)) begins means))

took_all : (texts : List (List ℕ)) (r s : ReplicaState) → HoldsAll r.journal (map_of r.plane) → AreDeltas texts → AreTaken r texts s → GrowsTo r s
took_all [] r s held deltas taken = grows_not r.journal s.journal (map_of r.plane) (map_of s.plane) held (ap (λ x. x.journal) taken) (λ c. ap (λ (x : ReplicaState). map_of x.plane c) taken)
took_all (text ∷ texts) r s held deltas taken =
    let one : IsTaken r text taken.0 = taken.1 in
    let edits = told_edits r.rule text one.told.2.0 one.told.0 deltas.0 one.told.1 one.told.2.1 in
    let first : GrowsTo r taken.0 = took r taken.0 one.told.2.0 edits.0 held edits.1 one.told.2.2 in
    grows_on r.journal taken.0.journal s.journal (map_of r.plane) (map_of taken.0.plane) (map_of s.plane) first (took_all texts taken.0 s first.held deltas.1 taken.2)

-- ---- what is told

shown_behind : (before after : Option StampedPlane) (p q : StampedPlane) (lines : List ℕ) (came : List PlaneEdit) (out told : List ℕ) → IsShownAs p before → AreSame (map_of q) (joined (map_of p) (greatest came))
    → TellsCame lines came before after out told → IsShownAs q after
shown_behind None None p q lines came out told shown grown tells = tt
shown_behind None (Some after) p q lines came out told shown grown tells = absurd tells
shown_behind (Some before) None p q lines came out told shown grown tells = absurd tells
shown_behind (Some before) (Some after) p q lines came out told shown grown tells = λ c. tells.shows.joins c ∙ ap (λ w. greater w (greatest came c)) (shown c) ∙ sym (grown c)

all_shown : (before after : Option StampedPlane) (p : StampedPlane) (cells : List Cell) → ShowsAll p before after cells → IsShownAs p after
all_shown None None p cells shows = tt
all_shown None (Some after) p cells shows = absurd shows
all_shown (Some before) None p cells shows = absurd shows
all_shown (Some before) (Some after) p cells shows = shows.shows.shows

still_shown : (s t : Workspace) → t.shown ≡ s.shown → t.replica ≡ s.replica → IsShown s → IsShown t
still_shown s t shown replica is = record { shown = subst (λ (x : Option StampedPlane). IsShownAs t.replica.plane x) (sym shown) (subst (λ (r : ReplicaState). IsShownAs r.plane s.shown) (sym replica) is.shown) }

blank_shown : (telling : Telling) (shown : Option StampedPlane) (p : StampedPlane) → AreSame (map_of p) (λ _. unwritten) → IsBlank telling shown → IsShownAs p shown
blank_shown Edits None p new blank = tt
blank_shown Edits (Some plane) p new blank = absurd blank
blank_shown Nothing None p new blank = tt
blank_shown Nothing (Some plane) p new blank = absurd blank
blank_shown Changes None p new blank = absurd blank
blank_shown Changes (Some plane) p new blank = λ c. blank.shows c ∙ sym (new c)

-- behind an edit that was to be published, by what came of it
published_shown : (P : Pushes) (drawing : Drawing) (e : PlaneEdit) (m n : Moment) → IsReplica m.workspace.replica → IsShown m.workspace → IsPublishingBy P e m.line n.line m.workspace.replica n.workspace.replica (Ok drawing)
    → TellsDrawing drawing (length m.workspace.replica.journal) (record m.workspace { replica = n.workspace.replica }) n.workspace m.out n.out → IsShown n.workspace
published_shown P (Drawn counter) e m n is shown d tells =
    let takes = d.1.1 in
    record {
      shown = shown_behind m.workspace.shown n.workspace.shown m.workspace.replica.plane n.workspace.replica.plane [] (drop (length m.workspace.replica.journal) n.workspace.replica.journal) (m.out ++ drawn_as m.workspace.way (is_some m.workspace.doubt) counter n.workspace.replica.number) n.out
          shown.shown (joins_behind m.workspace.replica.journal n.workspace.replica.journal (map_of m.workspace.replica.plane) (map_of n.workspace.replica.plane)
          (took m.workspace.replica n.workspace.replica takes.0 (e ∷ []) is.journal.held takes.1 takes.2)) tells.told;
    }
published_shown P (Refused fault) e m n is shown d tells = absurd d
published_shown P (Unpublished number) e m n is shown d tells = still_shown m.workspace n.workspace (ap (λ s. s.shown) tells.kept) d.1 shown

-- behind a push that was said
ended_shown : (pushed : PushedEdit) (outcome : Outcome) (m n : Moment) → IsReplica m.workspace.replica → IsShown m.workspace → IsDrawingTold pushed m n (Ok outcome) → IsShown n.workspace
ended_shown pushed outcome m n is shown d =
    let told = published_shown IsPushEnd d.drawing pushed.edit m (record n { workspace = unnoted m n }) is shown d.drawn d.told in
    record { shown = told.shown }

-- behind a drawing, or where there is no such edit
drawn_shown : (S : Says) (m base n : Moment) (outcome : Outcome) → base.workspace.shown ≡ m.workspace.shown → base.workspace.replica ≡ m.workspace.replica → IsReplica m.workspace.replica → IsShown m.workspace
    → DrawsBy S m base n (Ok outcome) → IsShown n.workspace
drawn_shown S m base n outcome same_shown same is shown (inl refused) =
    still_shown m.workspace n.workspace (ap (λ (s : Workspace). s.shown) refused.told.1.workspace ∙ same_shown) (ap (λ (s : Workspace). s.replica) refused.told.1.workspace ∙ same) shown
drawn_shown S m base n outcome same_shown same is shown (inr said) = ended_shown said.pushed outcome (record m { line = said.line }) n is (record { shown = shown.shown }) said.ends

pub shows_what_it_holds : ShowsWhatItHolds
shows_what_it_holds = record {
  joined = λ telling number rule s fresh. record { shown = blank_shown telling s.shown s.replica.plane fresh.replica.map fresh.shown };
  drawn = λ after spec outcome m n is shown d. drawn_shown (IsDrawingSaid after spec) m m n outcome refl refl is shown d;
  published = λ pushed outcome m n is shown d. ended_shown pushed outcome m n is shown d;
  anew = λ outcome m n is shown d.
      still_shown d.mid.workspace n.workspace (ap (λ (x : Moment). x.workspace.shown) d.rest) (ap (λ (x : Moment). x.workspace.replica) d.rest)
      (drawn_shown (IsAnewSaid d.draws.0) m (undoubted m) d.mid outcome refl refl is shown d.draws.2);
  returned = λ a before m n back.
      let t = back.seated.told in
      record {
        shown = subst (λ (s : Workspace). IsShownAs s.replica.plane s.shown) (sym t.seat) (all_shown m.workspace.shown t.told.shown back.seated.r.plane t.tells.cells t.tells.shows);
      };
}

-- texts of edits were taken, one after another
abbrev TakesTexts : ReplicaState → ReplicaState → Type 0
TakesTexts r s = (texts : List (List ℕ)) × AreDeltas texts × AreTaken r texts s

module _ (P : Comes) (texts_of : (count : ℕ) (a b : LineState) (r s : ReplicaState) → P a b r s (Ok (polling.Edits count)) → TakesTexts r s)
    (kept : (number : ℕ) (a b : LineState) (r s : ReplicaState) → P a b r s (Ok (polling.Refused number)) → s ≡ r) where
  edits_shown : (count : ℕ) (m n : Moment) → IsReplica m.workspace.replica → IsShown m.workspace → PollsBy P (polling.Edits count) m n → IsShown n.workspace
  edits_shown count m n is shown p =
      let taken = texts_of count m.line n.line m.workspace.replica n.workspace.replica p.polled in
      record {
        shown = shown_behind m.workspace.shown n.workspace.shown m.workspace.replica.plane n.workspace.replica.plane _ (drop (length m.workspace.replica.journal) n.workspace.replica.journal) m.out n.out shown.shown
            (joins_behind m.workspace.replica.journal n.workspace.replica.journal (map_of m.workspace.replica.plane) (map_of n.workspace.replica.plane)
            (took_all taken.0 m.workspace.replica n.workspace.replica is.journal.held taken.1 taken.2)) p.told.told;
      }

  shows_what_it_heard : ShowsWhatItHeard P
  shows_what_it_heard = record {
    edits = edits_shown;
    whole = λ m n p. record { shown = all_shown m.workspace.shown n.workspace.shown n.workspace.replica.plane p.told.cells p.told.shows };
    refused = λ number m n shown p. still_shown m.workspace n.workspace (ap (λ s. s.shown) p.told.0) (kept number m.line n.line m.workspace.replica n.workspace.replica p.polled) shown;
  }

-- a reply that is refused leaves a replica as it is, also where the plane in pieces is refused behind it
kept_refused : (said : List (List ℕ)) (number : ℕ) (a b : LineState) (old new : ReplicaState) → IsNewsHeard said a b old new (Ok (polling.Refused number)) → new ≡ old
kept_refused said number a b old new (inl once) = once.1.kept
kept_refused said number a b old new (inr back) = back.pieces.1.1.last.kept ∙ back.refused.kept

pub shows_each : OfEach ShowsWhatItHeard
shows_each = (
  shows_what_it_heard IsPoll (λ count a b r s p. (p.last.texts, p.last.deltas, p.last.taken)) (λ number a b r s p. kept_refused (poll_request ∷ []) number p.mid b r s p.last),
  shows_what_it_heard IsAwaited (λ count a b r s p. (p.texts, p.deltas, p.taken)) (λ number a b r s p. kept_refused [] number a b r s p),
  shows_what_it_heard IsReplyHeard (λ count a b r s p. (p.texts, p.deltas, p.taken)) (λ number a b r s p. p.kept),
  shows_what_it_heard IsFallenBack (λ count a b r s p. absurd p.last) (λ number a b r s p. p.1.1.last.kept),
)

-- ---- what changed

alike : (p q r s : Writes) (cells : List Cell) → AreSame p r → AreSame q s → AreChanges p q cells → AreChanges r s cells
alike p q r s cells first last changes = record {
  sorted = changes.sorted;
  changed = λ cell. (
    λ has. (sym (ap (λ w. w.state) (last (place_of cell))) ∙ ((changes.changed cell).0 has).0, λ e. ((changes.changed cell).0 has).1 (ap (λ w. w.state) (first (place_of cell)) ∙ e)),
    λ both. (changes.changed cell).1 (ap (λ w. w.state) (last (place_of cell)) ∙ both.0, λ e. both.1 (sym (ap (λ w. w.state) (first (place_of cell))) ∙ e)),
  );
}

told_as_changed : (before after : Option StampedPlane) (shown p q : StampedPlane) (lines : List ℕ) (came : List PlaneEdit) (out told : List ℕ) → before ≡ Some shown → IsShownAs p before → IsShownAs q after
    → TellsCame lines came before after out told → (cells : List Cell) × AreChanges (map_of p) (map_of q) cells × (told ≡ out ++ now_line cells)
told_as_changed (Some before) (Some after) shown p q lines came out told is first last tells =
    (tells.cells, alike (map_of before) (map_of after) (map_of p) (map_of q) tells.cells first last tells.shows.changes, tells.told)
told_as_changed (Some before) None shown p q lines came out told is first last tells = absurd tells
told_as_changed None after shown p q lines came out told is first last tells = absurd cc

tells_what_changed : (P : Comes) → TellsWhatChanged P
tells_what_changed P count m n shown is first last p =
    let t = told_as_changed m.workspace.shown n.workspace.shown shown m.workspace.replica.plane n.workspace.replica.plane _ (drop (length m.workspace.replica.journal) n.workspace.replica.journal) m.out n.out is first.shown last.shown p.told.told in
    record { cells = t.0; changes = t.1; told = t.2 }

changed_as_a_whole : (before after : Option StampedPlane) (shown p q : StampedPlane) (cells : List Cell) → before ≡ Some shown → IsShownAs p before → ShowsAll q before after cells → AreChanges (map_of p) (map_of q) cells
changed_as_a_whole (Some before) (Some after) shown p q cells is first shows = alike (map_of before) (map_of q) (map_of p) (map_of q) cells first (λ c. refl) shows.changes
changed_as_a_whole (Some before) None shown p q cells is first shows = absurd shows
changed_as_a_whole None after shown p q cells is first shows = absurd cc

tells_what_took_its_place : (P : Comes) → TellsWhatTookItsPlace P
tells_what_took_its_place P m n shown is first p = record {
  cells = p.told.cells;
  changes = changed_as_a_whole m.workspace.shown n.workspace.shown shown m.workspace.replica.plane n.workspace.replica.plane p.told.cells is first.shown p.told.shows;
  told = p.told.told;
}

pub changed_each : OfEach TellsWhatChanged
changed_each = (tells_what_changed IsPoll, tells_what_changed IsAwaited, tells_what_changed IsReplyHeard, tells_what_changed IsFallenBack)

pub replaced_each : OfEach TellsWhatTookItsPlace
replaced_each = (tells_what_took_its_place IsPoll, tells_what_took_its_place IsAwaited, tells_what_took_its_place IsReplyHeard, tells_what_took_its_place IsFallenBack)
