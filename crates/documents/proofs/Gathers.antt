-- Records that are found wherever they begin, one by one.
use Rattle.std.proofs.Common.{◌≡◌, ◌≢◌, ◌≤◌, ◌+◌, ℕ, List, [], ◌∷◌, ◌++◌, length, drop, refl, sym, ap, subst, ◌∙◌, append_assoc, append-nil, arith, length-append}
use Rattle.std.specs.Prelude.{Ok, Err}
use Rattle.generations_rule.specs.Rule.{GenerationsRule}
use Rattle.edit_stamps.specs.Edit.{PlaneEdit}
use Rattle.kept_records.specs.Records.{BeginsNone, IsNextWhole, head_text, record_text, records_text}
use Rattle.kept_records.proofs.FrontLaws.{head_length}
use Rattle.documents.specs.declared.fault.DocumentFault.{DocumentFault}
use Rattle.documents.specs.declared.fault.DocumentFault.TheVariants.{StateRange, OtherRule, SameStamp, NoDocument, Body, Memory}
use Rattle.documents.specs.Gathering.{AreFoundTo, AreGatheredIn, AreTold, HasNoRecord, IsGathered, IsLeftAt, IsToldRefused, edits_told}

-- some records are found and tell these edits; behind the last is a place, and so many bytes are theirs
pub record AreGatheredTo (r : GenerationsRule) (bytes : List ℕ) (edits : List PlaneEdit) (to read records : ℕ) : Type 0 where
  pub bodies : List (List ℕ)
  pub found : AreFoundTo bytes 0 bodies to
  pub told : AreTold r bodies edits
  pub read_is : read ≡ length (records_text bodies)
  pub records_are : records ≡ length bodies

pub none_gathered : (r : GenerationsRule) (bytes : List ℕ) (edits : List PlaneEdit) → edits ≡ [] → AreGatheredTo r bytes edits 0 0 0
none_gathered r bytes edits none = record { bodies = []; found = refl; told = none; read_is = refl; records_are = refl }

-- ---- one record more

found_more : (bytes : List ℕ) (from to start next : ℕ) (bodies : List (List ℕ)) (text : List ℕ) → AreFoundTo bytes from bodies to → IsNextWhole bytes to start text → next ≡ start + 20 + length text → AreFoundTo bytes from (bodies ++ text ∷ []) next
found_more bytes from to start next [] text is found counted = (start, subst (λ (n : ℕ). IsNextWhole bytes n start text) is found, counted)
found_more bytes from to start next (b ∷ bodies) text is found counted = (is.0, is.1, found_more bytes (is.0 + 20 + length b) to start next bodies text is.2 found counted)

told_more : (r : GenerationsRule) (bodies : List (List ℕ)) (edits : List PlaneEdit) (text : List ℕ) (told : List PlaneEdit) → AreTold r bodies edits → edits_told r text ≡ Ok told → AreTold r (bodies ++ text ∷ []) (edits ++ told)
told_more r [] edits text told is e = (told, [], e, refl, ap (λ (l : List PlaneEdit). l ++ told) is ∙ sym (append-nil told))
told_more r (b ∷ bodies) edits text told is e = (is.0, is.1 ++ told, is.2, told_more r bodies is.1 text told is.3 e, ap (λ (l : List PlaneEdit). l ++ told) is.4 ∙ append_assoc is.0 is.1 told)

text_more : (bodies : List (List ℕ)) (text : List ℕ) → length (records_text (bodies ++ text ∷ [])) ≡ length (records_text bodies) + (20 + length text)
text_more [] text = ap length (append-nil (record_text text)) ∙ length-append (head_text text) text ∙ ap (λ (n : ℕ). n + length text) (head_length text) ∙ omega arith
text_more (b ∷ bodies) text =
    length-append (record_text b) (records_text (bodies ++ text ∷ []))
    ∙ ap (λ (n : ℕ). length (record_text b) + n) (text_more bodies text)
    ∙ omega arith
    ∙ ap (λ (n : ℕ). n + (20 + length text)) (sym (length-append (record_text b) (records_text bodies)))

pub gathered_more : (r : GenerationsRule) (bytes : List ℕ) (edits more told : List PlaneEdit) (to read records start next read' records' : ℕ) (text : List ℕ) → AreGatheredTo r bytes edits to read records → IsNextWhole bytes to start text
    → edits_told r text ≡ Ok told → more ≡ edits ++ told → next ≡ start + 20 + length text → read' ≡ read + (20 + length text) → records' ≡ records + 1 → AreGatheredTo r bytes more next read' records'
gathered_more r bytes edits more told to read records start next read' records' text g found e pushed counted size one = record {
  bodies = g.bodies ++ text ∷ [];
  found = found_more bytes 0 to start next g.bodies text g.found found counted;
  told = subst (AreTold r (g.bodies ++ text ∷ [])) (sym pushed) (told_more r g.bodies edits text told g.told e);
  read_is = size ∙ ap (λ (n : ℕ). n + (20 + length text)) g.read_is ∙ sym (text_more g.bodies text);
  records_are = one ∙ ap (λ (n : ℕ). n + 1) g.records_are ∙ sym (length-append g.bodies (text ∷ []));
}

-- ---- the end

some_bodies : (bodies : List (List ℕ)) (records : ℕ) → records ≡ length bodies → records ≢ 0 → bodies ≢ []
some_bodies bodies records counted some none = some (counted ∙ ap length none)

pub all_gathered : (r : GenerationsRule) (bytes : List ℕ) (edits : List PlaneEdit) (to read records : ℕ) → AreGatheredTo r bytes edits to read records → records ≢ 0 → ((n : ℕ) → to ≤ n → BeginsNone (drop n bytes)) → AreGatheredIn r bytes edits read
all_gathered r bytes edits to read records g some none = record {
  bodies = g.bodies;
  some = some_bodies g.bodies records g.records_are some;
  found = record { to = to; found = g.found; none = none };
  told = g.told;
  count = g.read_is;
}

no_bodies : (bytes : List ℕ) (bodies : List (List ℕ)) (to : ℕ) → AreFoundTo bytes 0 bodies to → 0 ≡ length bodies → to ≡ 0
no_bodies bytes [] to found none = found
no_bodies bytes (b ∷ bodies) to found none = absurd (omega (arith, none))

-- where no record was found none stands anywhere
pub none_anywhere : (r : GenerationsRule) (bytes : List ℕ) (edits : List PlaneEdit) (to read records : ℕ) → AreGatheredTo r bytes edits to read records → records ≡ 0 → ((n : ℕ) → to ≤ n → BeginsNone (drop n bytes)) → HasNoRecord bytes
none_anywhere r bytes edits to read records g zero none n =
    let at_front : to ≡ 0 = no_bodies bytes g.bodies to g.found (sym zero ∙ g.records_are) in
    none n (omega (arith, at_front))

pub some_record_at : (bytes text : List ℕ) (from start : ℕ) → IsNextWhole bytes from start text → HasNoRecord bytes → ⊥
some_record_at bytes text from start next none = none start text next.begins.behind next.begins.is next.begins.spelt

-- ---- refusals

pub refused_among : (r : GenerationsRule) (bytes : List ℕ) (edits : List PlaneEdit) (to read records start : ℕ) (text : List ℕ) (fault : DocumentFault) → AreGatheredTo r bytes edits to read records → IsNextWhole bytes to start text
    → IsToldRefused r text (records + 1) fault → IsLeftAt r bytes fault
refused_among r bytes edits to read records start text (Body fault place) g next refused = record {
  before = g.bodies;
  to = to;
  found = g.found;
  start = start;
  text = text;
  next = next;
  edits = edits;
  told = g.told;
  refused = refused.0;
  counted = refused.1 ∙ ap (λ (n : ℕ). n + 1) g.records_are;
}
refused_among r bytes edits to read records start text Memory g next refused = some_record_at bytes text to start next
refused_among r bytes edits to read records start text StateRange g next refused = absurd refused
refused_among r bytes edits to read records start text OtherRule g next refused = absurd refused
refused_among r bytes edits to read records start text (SameStamp stamp) g next refused = absurd refused
refused_among r bytes edits to read records start text NoDocument g next refused = absurd refused

pub left_is_refused : (r : GenerationsRule) (bytes : List ℕ) (fault : DocumentFault) → IsLeftAt r bytes fault → IsGathered r bytes (Err fault)
left_is_refused r bytes (Body fault place) left = left
left_is_refused r bytes Memory left = left
left_is_refused r bytes NoDocument left = left
left_is_refused r bytes StateRange left = absurd left
left_is_refused r bytes OtherRule left = absurd left
left_is_refused r bytes (SameStamp stamp) left = absurd left
