-- What is told of a poll.
use Rattle.std.proofs.Common.{◌≡◌, ℕ, List, length, Ok, Err, refl, sym, ap, subst}
use Rattle.replica_core.specs.Replica.{ReplicaState}
use Rattle.board_client.specs.declared.polling.Polling.{Polling}
use Rattle.board_client.specs.declared.polling.Polling.TheVariants as polling
use Rattle.client_session.specs.declared.fault.CommandFault.{CommandFault}
use Rattle.client_session.specs.declared.fault.CommandFault.TheVariants.{Client, Refused, Memory, StoreFull}
use Rattle.client_session.specs.declared.workspace.Workspace.{Workspace}
use Rattle.client_session.specs.Moment.{IsCutShort, IsWant, Moment}
use Rattle.client_session.specs.News.{Comes, EndsPollingBy, IsPollToldBy, IsUntoldBy, PollsBy}
use Rattle.client_session.specs.Telling.{IsPollingTold, PollFindsNoRoom, TellsPoll}

same_replica : (heard : Polling) (known : ℕ) (old new : Workspace) (out told : List ℕ) → TellsPoll heard known old new out told → new.replica ≡ old.replica
same_replica (polling.Edits count) known old new out told tells = ap (λ (s : Workspace). s.replica) tells.kept
same_replica polling.Whole known old new out told tells = ap (λ (s : Workspace). s.replica) tells.kept
same_replica (polling.Refused number) known old new out told tells = ap (λ (s : Workspace). s.replica) tells.0

module _ (P : Comes) (v m n : Moment) (took : ReplicaState) (known : ℕ) (heard : Polling) (is : m ≡ v) (polled : P m.line n.line m.workspace.replica took (Ok heard))
    (counted : known ≡ length m.workspace.replica.journal) where
  polls : (x : Polling) → heard ≡ x → TellsPoll x known (record m.workspace { replica = took }) n.workspace m.out n.out → PollsBy P x m n
  polls x is_x tells =
      let same : n.workspace.replica ≡ took = same_replica x known (record m.workspace { replica = took }) n.workspace m.out n.out tells in
      record {
        polled = subst (λ (r : ReplicaState). P m.line n.line m.workspace.replica r (Ok x)) (sym same) (subst (λ (y : Polling). P m.line n.line m.workspace.replica took (Ok y)) is_x polled);
        told = subst (λ (r : ReplicaState). TellsPoll x (length m.workspace.replica.journal) (record m.workspace { replica = r }) n.workspace m.out n.out) (sym same)
            (subst (λ (k : ℕ). TellsPoll x k (record m.workspace { replica = took }) n.workspace m.out n.out) counted tells);
      }

  pub poll_told : IsPollingTold {A = Unit {0}} heard known (record m.workspace { replica = took }) n.workspace m.out n.out (Ok tt) → IsPollToldBy P v n (Ok heard)
  poll_told told = subst (λ (x : Moment). IsPollToldBy P x n (Ok heard)) is (told.0, polls heard refl told.1)

  lacks : (fault : CommandFault) → IsWant (PollFindsNoRoom heard known (record m.workspace { replica = took }) n.workspace m.out n.out) fault
      → IsCutShort (record m.workspace { replica = took }) n.workspace m.out n.out → IsUntoldBy P fault m n
  lacks fault want cut =
      let same : n.workspace.replica ≡ took = ap (λ (s : Workspace). s.replica) cut.kept in
      record {
        answer = heard;
        done = subst (λ (r : ReplicaState). P m.line n.line m.workspace.replica r (Ok heard)) (sym same) polled;
        want = subst (λ (r : ReplicaState). IsWant (PollFindsNoRoom heard (length m.workspace.replica.journal) (record m.workspace { replica = r }) n.workspace m.out n.out) fault) (sym same)
            (subst (λ (k : ℕ). IsWant (PollFindsNoRoom heard k (record m.workspace { replica = took }) n.workspace m.out n.out) fault) counted want);
        cut = subst (λ (r : ReplicaState). IsCutShort (record m.workspace { replica = r }) n.workspace m.out n.out) (sym same) cut;
      }

  ends : (fault : CommandFault) → IsPollingTold {A = Unit {0}} heard known (record m.workspace { replica = took }) n.workspace m.out n.out (Err fault) → EndsPollingBy P fault m n
  ends (Client fault) told = absurd told.0
  ends (Refused number) told = (told.0, polls (polling.Refused 21) told.1 (told.2, told.3))
  ends Memory told = lacks Memory told.0 told.1
  ends StoreFull told = lacks StoreFull told.0 told.1

  pub poll_untold : (fault : CommandFault) → IsPollingTold {A = Unit {0}} heard known (record m.workspace { replica = took }) n.workspace m.out n.out (Err fault) → IsPollToldBy P v n (Err fault)
  poll_untold fault told = subst (λ (x : Moment). EndsPollingBy P fault x n) is (ends fault told)
