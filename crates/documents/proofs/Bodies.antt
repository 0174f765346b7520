-- Records of edits, read one by one.
use Rattle.std.proofs.Common.{◌≡◌, ◌+◌, ◌-◌, ℕ, List, [], ◌∷◌, ◌++◌, length, map, refl, sym, ap, subst, ◌∙◌, append_assoc}
use Rattle.std.specs.Prelude.{Result, Ok}
use Rattle.std.proofs.lemmas.List.{length-map, map_push}
use Rattle.generations_rule.specs.Rule.{GenerationsRule, IsRule}
use Rattle.edit_stamps.specs.Edit.{PlaneEdit}
use Rattle.kept_records.specs.Records.{AreRead, BeginsNone, IsBody, record_text, records_text}
use Rattle.kept_records.proofs.LawProofs.{apart}
use Rattle.kept_records.proofs.Steps.{IsReadTo, all_read, none_yet, one_more}
use Rattle.document_bodies.specs.Bodies.{IsHead, head_body}
use Rattle.document_bodies.specs.Reading.{edit_of}
use Rattle.document_bodies.specs.declared.fault.BodyFault.{BodyFault}
use Rattle.documents.specs.declared.fault.DocumentFault.{DocumentFault}
use Rattle.documents.specs.declared.fault.DocumentFault.TheVariants.{StateRange, OtherRule, SameStamp, NoDocument, Body, Memory}
use Rattle.documents.specs.Reading.{AreEditsOf, AreToldIn, HasNoDocument, HasRecords, IsBodyRefused, IsFirstRefused}

-- ---- behind the head

-- some records are read, each tells an edit, and this is left
pub record AreToldTo (r : GenerationsRule) (bytes : List ℕ) (edits : List PlaneEdit) (rest : List ℕ) : Type 0 where
  pub bodies : List (List ℕ)
  pub read : IsReadTo bytes bodies rest
  pub told : AreEditsOf r bodies edits

pub none_told : (r : GenerationsRule) (bytes : List ℕ) (edits : List PlaneEdit) → edits ≡ [] → AreToldTo r bytes edits bytes
none_told r bytes edits none = subst (λ (l : List PlaneEdit). AreToldTo r bytes l bytes) (sym none) (record { bodies = []; read = none_yet bytes [] refl; told = refl })

-- one edit more is told by one body more
told_more : (r : GenerationsRule) (bodies : List (List ℕ)) (edits more : List PlaneEdit) (body : List ℕ) (e : PlaneEdit) → AreEditsOf r bodies edits → edit_of r body ≡ Ok e → more ≡ edits ++ e ∷ [] → AreEditsOf r (bodies ++ body ∷ []) more
told_more r bodies edits more body e so_far told pushed =
    map_push (edit_of r) bodies body
    ∙ ap (λ (l : List (Result PlaneEdit BodyFault)). l ++ edit_of r body ∷ []) so_far
    ∙ ap (λ (t : Result PlaneEdit BodyFault). map Ok edits ++ t ∷ []) told
    ∙ sym (map_push Ok edits e)
    ∙ sym (ap (map Ok) pushed)

pub one_told : (r : GenerationsRule) (bytes : List ℕ) (edits more : List PlaneEdit) (rest body behind : List ℕ) (e : PlaneEdit) → AreToldTo r bytes edits rest → IsBody body → rest ≡ record_text body ++ behind
    → edit_of r body ≡ Ok e → more ≡ edits ++ e ∷ [] → AreToldTo r bytes more behind
one_told r bytes edits more rest body behind e t is spelt told pushed = record {
  bodies = t.bodies ++ body ∷ [];
  read = one_more bytes t.bodies (t.bodies ++ body ∷ []) rest body behind t.read is spelt refl;
  told = told_more r t.bodies edits more body e t.told told pushed;
}

pub all_told : (r : GenerationsRule) (bytes : List ℕ) (edits : List PlaneEdit) (rest : List ℕ) → AreToldTo r bytes edits rest → BeginsNone rest → AreToldIn r bytes edits rest
all_told r bytes edits rest t none = record { bodies = t.bodies; read = record { spelt = t.read.spelt; are = t.read.are; ends = none }; told = t.told }

-- as many bodies as edits
same_count : (r : GenerationsRule) (bodies : List (List ℕ)) (edits : List PlaneEdit) → AreEditsOf r bodies edits → length bodies ≡ length edits
same_count r bodies edits told =
    sym (length-map bodies (edit_of r)) ∙ ap (λ (l : List (Result PlaneEdit BodyFault)). length l) told ∙ length-map edits Ok

pub first_refused : (r : GenerationsRule) (bytes : List ℕ) (edits : List PlaneEdit) (rest body behind : List ℕ) (fault : DocumentFault) → AreToldTo r bytes edits rest → IsBody body → rest ≡ record_text body ++ behind
    → IsBodyRefused r body (length edits + 1) fault → IsFirstRefused r bytes fault
first_refused r bytes edits rest body behind (Body fault place) t is spelt refused =
    let read : IsReadTo bytes (t.bodies ++ body ∷ []) behind = one_more bytes t.bodies (t.bodies ++ body ∷ []) rest body behind t.read is spelt refl in
    record {
      before = t.bodies;
      body = body;
      behind = behind;
      edits = edits;
      are = read.are;
      spelt = read.spelt;
      told = t.told;
      refused = refused.0;
      counted = refused.1 ∙ ap (λ (n : ℕ). n + 1) (sym (same_count r t.bodies edits t.told));
    }
first_refused r bytes edits rest body behind Memory t is spelt refused = tt
first_refused r bytes edits rest body behind StateRange t is spelt refused = absurd refused
first_refused r bytes edits rest body behind OtherRule t is spelt refused = absurd refused
first_refused r bytes edits rest body behind (SameStamp stamp) t is spelt refused = absurd refused
first_refused r bytes edits rest body behind NoDocument t is spelt refused = absurd refused

-- ---- the head

-- the record that stands in front is no head
pub no_head : (bytes body behind : List ℕ) → IsBody body → bytes ≡ record_text body ++ behind → (IsHead body → ⊥) → HasNoDocument bytes
no_head bytes body behind is spelt none other begins head =
    let same : body ≡ other = (apart body other behind begins.behind is begins.is (sym spelt ∙ begins.spelt)).0 in
    none (subst IsHead (sym same) head)

pub no_record : (bytes : List ℕ) → BeginsNone bytes → HasNoDocument bytes
no_record bytes none body begins head = none body begins.behind begins.is begins.spelt

pub some_record : (bytes body behind : List ℕ) → IsBody body → bytes ≡ record_text body ++ behind → BeginsNone bytes → ⊥
some_record bytes body behind is spelt none = none body behind is spelt

-- a head, and the records behind it
pub has_records : (r : GenerationsRule) (bytes head behind rest : List ℕ) (bodies : List (List ℕ)) (whole : ℕ) → IsRule r → head ≡ head_body r → IsBody head → bytes ≡ record_text head ++ behind → AreRead behind bodies rest
    → whole ≡ length bytes - length rest → HasRecords bytes r bodies whole
has_records r bytes head behind rest bodies whole is_rule is_head is spelt read counted =
    let front : bytes ≡ record_text (head_body r) ++ behind = subst (λ (h : List ℕ). bytes ≡ record_text h ++ behind) is_head spelt in
    let all : IsReadTo bytes (head_body r ∷ bodies) rest = record {
      spelt = front ∙ ap (λ (l : List ℕ). record_text (head_body r) ++ l) read.spelt ∙ sym (append_assoc (record_text (head_body r)) (records_text bodies) rest);
      are = (subst IsBody is_head is, read.are);
    } in
    let p = all_read bytes (head_body r ∷ bodies) rest whole all read.ends counted in
    record { is_rule = is_rule; read = p.0; within = p.1; spelt = p.2 }
