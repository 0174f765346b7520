-- Texts that were heard and taken, one after another.
use Rattle.std.proofs.Common.{◌≡◌, ℕ, ◌+◌, List, [], ◌∷◌, ◌++◌, refl, ap, subst, ◌∙◌, length-append}
use Rattle.replica_core.specs.Replica.{ReplicaState}
use Rattle.board_client.specs.Client.{LineState}
use Rattle.board_client.specs.Hearing.{AreDeltas, AreHeard, AreTaken, HasHeard, IsAsAnnounced, IsTaken}
use Rattle.board_client.specs.declared.hearing.Announced.TheVariants.{Edits}
use Rattle.board_client.proofs.TryLaws.{both, nothing}

taken_on : (texts : List (List ℕ)) (text : List ℕ) (a b c : ReplicaState) → AreTaken a texts b → IsTaken b text c → AreTaken a (texts ++ text ∷ []) c
taken_on [] text a b c p q = (c, subst (λ r. IsTaken r text c) p q, refl)
taken_on (first ∷ texts) text a b c p q = (p.0, p.1, taken_on texts text p.0 b c p.2 q)

deltas_on : (texts : List (List ℕ)) (text : List ℕ) → AreDeltas texts → IsAsAnnounced Edits text → AreDeltas (texts ++ text ∷ [])
deltas_on [] text p q = (q, tt)
deltas_on (first ∷ texts) text p q = (p.0, deltas_on texts text p.1 q)

-- a replica that takes texts stays of its rule
pub rule_kept : (texts : List (List ℕ)) (old new : ReplicaState) → AreTaken old texts new → new.rule ≡ old.rule
rule_kept [] old new taken = ap (λ (r : ReplicaState). r.rule) taken
rule_kept (text ∷ texts) old new taken =
    let one : IsTaken old text taken.0 = taken.1 in
    rule_kept texts taken.0 new taken.2 ∙ one.told.2.2.one.rule

pub heard_none : (a : LineState) (old : ReplicaState) → AreHeard 0 a a old old
heard_none a old = record { texts = []; number = refl; talk = nothing a; deltas = tt; taken = refl }

-- one text more
pub heard_on : (count : ℕ) (a b c : LineState) (old between new : ReplicaState) → AreHeard count a b old between → HasHeard (λ text. IsAsAnnounced Edits text × IsTaken between text new) b c → AreHeard (count + 1) a c old new
heard_on count a b c old between new p q = record {
  texts = p.texts ++ q.text ∷ [];
  number = length-append p.texts (q.text ∷ []) ∙ ap (λ n. n + 1) p.number;
  talk = both a b c [] [] p.texts (q.text ∷ []) p.talk q.talk;
  deltas = deltas_on p.texts q.text p.deltas q.told.0;
  taken = taken_on p.texts q.text old between new p.taken q.told.1;
}
