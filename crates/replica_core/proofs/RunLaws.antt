-- Running a world through events: what the loop keeps.
use Rattle.std.proofs.Common.{inl, inr, ◌≡◌, ℕ, suc, ◌+◌, List, [], ◌∷◌, ◌++◌, length, refl, sym, ◌∙◌, subst}
use Rattle.std.specs.Prelude.{Some, slice_get, slice_set}
use Rattle.std.proofs.Math.ListN.{replicate}
use Rattle.std.proofs.lemmas.Bool.{cases_eq}
use Rattle.std.proofs.lemmas.Option.{slice_get_within}
use Rattle.std.proofs.lemmas.List.{replicate_more}
use Rattle.generations_rule.specs.Rule.{GenerationsRule}
use Rattle.replica_events.specs.declared.event.Event.{Event}
use Rattle.replica_core.specs.declared.event.Reply.{Reply}
use Rattle.replica_core.specs.Replica.{ReplicaState, IsNew}
use Rattle.replica_core.specs.declared.event.Stop.{Stop}
use Rattle.replica_core.specs.World.{History, WorldState, AreEdits, AreReplies, HaveRoom, IsReply, IsStopOf, MayStop, StandSideBySide, StandsFor, StandsForWorld, after, after_all, beginner}
use Rattle.replica_core.proofs.HistoryLaws.{IsSound, sound_after}
use Rattle.replica_core.proofs.SideBySide.{get_pushed, get_set_elsewhere, get_set_here, side_push, some_is}

-- ---- new replicas

stands_new : (rule : GenerationsRule) (number nodes : ℕ) (r : ReplicaState) → IsNew rule number nodes r → StandsFor rule number beginner r
stands_new rule number nodes r new = record { same_rule = new.same_rule; same_number = new.same_number; map = new.map; journal = new.journal }

-- one more new replica, of the next number
pub one_more_stands : (rule : GenerationsRule) (n number nodes : ℕ) (rs : List ReplicaState) (r : ReplicaState) → number ≡ suc (length (replicate n beginner))
    → IsNew rule number nodes r → StandSideBySide (StandsFor rule) (replicate n beginner) rs
    → StandSideBySide (StandsFor rule) (replicate (n + 1) beginner) (rs ++ r ∷ [])
one_more_stands rule n number nodes rs r next new side =
    subst (λ hs. StandSideBySide (StandsFor rule) hs (rs ++ r ∷ [])) (replicate_more n beginner)
    (side_push (StandsFor rule) (replicate n beginner) rs beginner r side (subst (λ k. StandsFor rule k beginner r) next (stands_new rule number nodes r new)))

-- ---- room

-- what a replica comes to after an event has the room that it had
pub room_set : (nodes i : ℕ) (rs : List ReplicaState) (old new : ReplicaState) → slice_get rs i ≡ Some old → new.plane.store.room ≡ old.plane.store.room
    → HaveRoom nodes rs → HaveRoom nodes (slice_set rs i new)
room_set nodes i rs old new there same all j r at = elim (cases_eq i j) [
  | inl here ↦
      let is : slice_get (slice_set rs i new) j ≡ Some new = subst (λ k. slice_get (slice_set rs i new) k ≡ Some new) here (get_set_here rs i new (slice_get_within rs i old there)) in
      subst (λ x. x.plane.store.room ≡ nodes) (some_is (sym is ∙ at)) (same ∙ all i old there)
  | inr elsewhere ↦ all j r (sym (get_set_elsewhere rs i j new elsewhere) ∙ at)
]

pub room_push : (nodes : ℕ) (rs : List ReplicaState) (r : ReplicaState) → r.plane.store.room ≡ nodes → HaveRoom nodes rs → HaveRoom nodes (rs ++ r ∷ [])
room_push nodes rs r is all j x at = elim (get_pushed rs r j x at) [
  | inl old ↦ all j x old
  | inr last ↦ subst (λ y. y.plane.store.room ≡ nodes) (sym last.1) is
]

-- ---- events

pub along_both : (w : History) (events more : List Event) → after_all w (events ++ more) ≡ after_all (after_all w events) more
along_both w [] more = refl
along_both w (event ∷ events) more = along_both (after w event) events more

-- the replies to some events, and the reply to one more
replies_more : (w : History) (events : List Event) (told : List Reply) (event : Event) (reply : Reply) → AreReplies w events told → IsReply (after_all w events) event reply → AreReplies w (events ++ event ∷ []) (told ++ reply ∷ [])
replies_more w [] [] event reply are is = (is, tt)
replies_more w [] (r ∷ told) event reply are is = absurd are
replies_more w (e ∷ events) [] event reply are is = absurd are
replies_more w (e ∷ events) (r ∷ told) event reply are is = (are.0, replies_more (after w e) events told event reply are.1 is)

-- some events were run through: the world stands for the history behind them, and these are the replies to them
pub record IsRunning (start : History) (done : List Event) (told : List Reply) (state : WorldState) : Type 0 where
  pub sound : IsSound (after_all start done)
  pub stands : StandsForWorld (after_all start done) state
  pub edits : AreEdits (after_all start done)
  pub replies : AreReplies start done told

pub running_begins : (start : History) (state : WorldState) → IsSound start → AreEdits start → StandsForWorld start state → IsRunning start [] [] state
running_begins start state sound edits stands = record { sound = sound; stands = stands; edits = edits; replies = tt }

pub running_goes : (start : History) (done : List Event) (event : Event) (told : List Reply) (reply : Reply) (state new : WorldState) → IsRunning start done told state
    → ((w : History) → AreEdits w → StandsForWorld w state → IsReply w event reply × StandsForWorld (after w event) new)
    → ((w : History) → AreEdits w → StandsForWorld w state → AreEdits (after w event))
    → IsRunning start (done ++ event ∷ []) (told ++ reply ∷ []) new
running_goes start done event told reply state new run step keeps =
    let now : History = after_all start done in
    let next : after now event ≡ after_all start (done ++ event ∷ []) = sym (along_both start done (event ∷ [])) in
    let stepped = step now run.edits run.stands in
    record {
      sound = subst IsSound next (sound_after now event run.sound);
      stands = subst (λ w. StandsForWorld w new) next stepped.1;
      edits = subst AreEdits next (keeps now run.edits run.stands);
      replies = replies_more start done told event reply run.replies stepped.0;
    }

-- the event that comes next stops the list
pub running_stops : (nodes : ℕ) (start : History) (events done more : List Event) (event : Event) (told : List Reply) (state : WorldState) (stop : Stop) → events ≡ done ++ event ∷ more
    → IsRunning start done told state → HaveRoom nodes state.replicas
    → ((w : History) (n : ℕ) → AreEdits w → StandsForWorld w state → HaveRoom n state.replicas → MayStop n w stop event) → IsStopOf nodes start events stop
running_stops nodes start events done more event told state stop all run room may = inl (record {
  before = done;
  event = event;
  more = more;
  all = all;
  replies = told;
  replied = run.replies;
  may = may (after_all start done) nodes run.edits run.stands room;
})
