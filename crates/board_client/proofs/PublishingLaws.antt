-- Drawings in steps: a push that is said, and one that is answered.
use Rattle.std.proofs.Common.{◌≡◌, ℕ, List, [], ◌∷◌, Result, Ok, Err, subst, arith, inl, inr}
use Rattle.generations_rule.specs.Rule.{GenerationsRule}
use Rattle.edit_stamps.specs.Edit.{PlaneEdit}
use Rattle.replica_core.specs.declared.fault.Fault.{Fault}
use Rattle.replica_core.specs.Replica.{ReplicaState}
use Rattle.board_client.specs.declared.fault.ClientFault.{ClientFault}
use Rattle.board_client.specs.declared.fault.ClientFault.TheVariants.{Line, NoReply, Text, Memory}
use Rattle.board_client.specs.declared.publishing.Drawing.{Drawing}
use Rattle.board_client.specs.declared.publishing.Drawing.TheVariants.{Drawn, Refused, Unpublished}
use Rattle.board_client.specs.declared.pushing.Pushing.TheVariants as pushing
use Rattle.board_client.specs.Client.{LineState, IsTalk}
use Rattle.board_client.specs.Drawing.{Draws, IsOwnTaken, IsPublishing, IsPublishingEnd}
use Rattle.board_client.specs.Pushing.{IsMomentaryPushRefusal, IsPushEnd, push_bytes}
use Rattle.board_client.specs.Saying.{SaysPush}
use Rattle.board_client.proofs.PushingLaws.{pushed_first}
use Rattle.board_client.proofs.TryLaws.{never_refused}

-- ---- an answer

-- the board has the edit
pub published : (e : PlaneEdit) (request : List ℕ) (a b : LineState) (old new : ReplicaState) (result : Result Drawing ClientFault) → request ≡ push_bytes old.rule e → IsPushEnd request a b (Ok pushing.Done)
    → IsOwnTaken e old new result → IsPublishingEnd e a b old new result
published e request a b old new (Ok (Drawn counter)) is end taken = (taken.0, (subst (λ r. IsPushEnd r a b (Ok pushing.Done)) is end, taken.1))
published e request a b old new (Ok (Refused fault)) is end taken = absurd taken
published e request a b old new (Ok (Unpublished number)) is end taken = absurd taken
published e request a b old new (Err (Text fault)) is end taken = (subst (λ r. IsPushEnd r a b (Ok pushing.Done)) is end, taken)
published e request a b old new (Err (Line fault)) is end taken = absurd taken
published e request a b old new (Err NoReply) is end taken = absurd taken
published e request a b old new (Err Memory) is end taken = absurd taken

-- no answer came, or none that is one
pub unanswered_push : (e : PlaneEdit) (request : List ℕ) (a b : LineState) (old new : ReplicaState) (fault : ClientFault) → request ≡ push_bytes old.rule e → new ≡ old → IsPushEnd request a b (Err fault)
    → IsPublishingEnd e a b old new (Err fault)
unanswered_push e request a b old new (Line fault) is kept end = (subst (λ r. IsPushEnd r a b (Err (Line fault))) is end, kept)
unanswered_push e request a b old new NoReply is kept end = (subst (λ r. IsPushEnd r a b (Err NoReply)) is end, kept)
unanswered_push e request a b old new (Text fault) is kept (inl end) = absurd end.1
unanswered_push e request a b old new (Text fault) is kept (inr end) = absurd end.again.last
unanswered_push e request a b old new Memory is kept (inl end) = absurd end.1
unanswered_push e request a b old new Memory is kept (inr end) = absurd end.again.last

-- ---- what was said and answered

drawn_by : (e : PlaneEdit) (a m b : LineState) (old new : ReplicaState) (result : Result Drawing ClientFault) → IsTalk a m (push_bytes old.rule e ∷ []) [] → IsPublishingEnd e m b old new result
    → IsPublishing e a b old new result
drawn_by e a m b old new (Ok (Drawn counter)) talk p = (p.0, (pushed_first (push_bytes old.rule e) a m b (Ok pushing.Done) talk p.1.0, p.1.1))
drawn_by e a m b old new (Ok (Unpublished number)) talk p = (pushed_first (push_bytes old.rule e) a m b (Ok (pushing.Refused number)) talk p.0, p.1)
drawn_by e a m b old new (Ok (Refused fault)) talk p = absurd p
drawn_by e a m b old new (Err Memory) talk p = absurd p
drawn_by e a m b old new (Err (Text fault)) talk p = (pushed_first (push_bytes old.rule e) a m b (Ok pushing.Done) talk p.0, p.1)
drawn_by e a m b old new (Err (Line fault)) talk p = (pushed_first (push_bytes old.rule e) a m b (Err (Line fault)) talk p.0, p.1)
drawn_by e a m b old new (Err NoReply) talk p = (pushed_first (push_bytes old.rule e) a m b (Err NoReply) talk p.0, p.1)

pub draws_said : (meant : Result PlaneEdit Fault) (e : PlaneEdit) (a m b : LineState) (old new : ReplicaState) (result : Result Drawing ClientFault) → meant ≡ Ok e → IsTalk a m (push_bytes old.rule e ∷ []) []
    → IsPublishingEnd e m b old new result → Draws meant a b old new result
draws_said meant e a m b old new (Ok (Drawn counter)) is talk p = (e, is, drawn_by e a m b old new (Ok (Drawn counter)) talk p)
draws_said meant e a m b old new (Ok (Unpublished number)) is talk p = (e, is, drawn_by e a m b old new (Ok (Unpublished number)) talk p)
draws_said meant e a m b old new (Ok (Refused fault)) is talk p = absurd p
draws_said meant e a m b old new (Err Memory) is talk p = absurd p
draws_said meant e a m b old new (Err (Text fault)) is talk p = (e, is, drawn_by e a m b old new (Err (Text fault)) talk p)
draws_said meant e a m b old new (Err (Line fault)) is talk p = (e, is, drawn_by e a m b old new (Err (Line fault)) talk p)
draws_said meant e a m b old new (Err NoReply) is talk p = (e, is, drawn_by e a m b old new (Err NoReply) talk p)

-- what could not be said was not pushed
pub draws_nothing : (rule : GenerationsRule) (meant : Result PlaneEdit Fault) (a b : LineState) (old new : ReplicaState) (fault : ClientFault) → rule ≡ old.rule → new ≡ old → SaysPush rule meant a b (Err fault)
    → Draws meant a b old new (Err fault)
draws_nothing rule meant a b old new Memory same kept is = (is.0, (is.1, kept))
draws_nothing rule meant a b old new (Line fault) same kept is = (
  is.0,
  is.1,
  (
    record {
      times = 0;
      mid = a;
      refusals = never_refused IsMomentaryPushRefusal (push_bytes old.rule is.0) a;
      few = omega arith;
      last = inl is.2;
      patient = tt;
    },
    kept,
  ),
)
draws_nothing rule meant a b old new NoReply same kept is = absurd is.2
draws_nothing rule meant a b old new (Text fault) same kept is = absurd is.2
