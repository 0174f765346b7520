-- Each part is a codec where the parts that it is made of are.
use Rattle.std.proofs.Common.{◌≡◌, ℕ, zero, suc, ◌^◌, ◌<◌, ◌≤◌, Bool, true, false, ltb, List, [], ◌∷◌, ◌++◌, length, take, drop, Ok, refl, sym, ap, subst, ◌∙◌, append_assoc, arith}
use Rattle.std.specs.Prelude.{flat_map, ◌==◌, ◌&&◌, nat_lt, is_none}
use Rattle.std.specs.Int.{Width, w8, w16, w32, w64, byte_len, from_be_bytes, to_be_bytes}
use Rattle.std.proofs.lemmas.Bool.{and_parts, and_from, eqb-true, eq-eqb, lt-ltb, ltb-false, ltb-true, le-ltb}
use Rattle.std.proofs.lemmas.List.{take_at, drop_at, take-append-drop, length-append, length-take}
use Rattle.std.proofs.lemmas.Nat.{be_bytes_2, be_bytes_4, be_bytes_8, from_be_bytes-to_be_bytes_2, from_be_bytes-to_be_bytes_4, from_be_bytes-to_be_bytes_8}
use Rattle.byte_codec.specs.Reading.{Reading, onwards, number_at, pair_at, chosen_at, many_at, nested_at, unrefused}
use Rattle.byte_codec.specs.Codec.{AreBytes, BeginsWith, IsCodec, pass_in_turn}
use Rattle.byte_codec.specs.Laws.{AreNumberCodecs, AreBytesCodecs, MappedIsCodec, CheckedIsCodec, PairIsCodec, ChosenIsCodec, ManyAreCodec, NestedIsCodec, RetoldIsCodec}
use Rattle.byte_codec.proofs.Steps.{found, ok_is, onwards_ok, unrefused_ok, unrefused_none, refused_first, AreBytes-take, AreBytes-behind}

-- the value and the rest in other words
begins_as : {A : Type 0} (spell : A → List ℕ) (has_text : A → Bool) (bytes : List ℕ) (p q : A × List ℕ) → p ≡ q
    → BeginsWith spell has_text bytes p.0 p.1 → BeginsWith spell has_text bytes q.0 q.1
begins_as {A} spell has_text bytes p q e = subst (λ (r : A × List ℕ). BeginsWith spell has_text bytes r.0 r.1) e

-- what many values leave, in other words
many_as : {S A : Type 0} (spell : A → List ℕ) (has_text : S → A → Bool) (next : S → A → S) (count : ℕ) (state : S) (bytes : List ℕ) (p q : List A × List ℕ) → p ≡ q
    → (length p.0 ≡ count) × (pass_in_turn next has_text state p.0 ≡ true) × (bytes ≡ flat_map spell p.0 ++ p.1)
    → (length q.0 ≡ count) × (pass_in_turn next has_text state q.0 ≡ true) × (bytes ≡ flat_map spell q.0 ++ q.1)
many_as {S} {A} spell has_text next count state bytes p q e =
    subst (λ (r : List A × List ℕ). (length r.0 ≡ count) × (pass_in_turn next has_text state r.0 ≡ true) × (bytes ≡ flat_map spell r.0 ++ r.1)) e

-- ---- so many bytes

took : (count : ℕ) (bytes : List ℕ) → count ≤ length bytes → length (take count bytes) ≡ count
took count bytes long = omega (arith, length-take count bytes)

pub bytes_codec : {F : Type 0} → AreBytesCodecs F
bytes_codec {F} short count = record {
  takes = λ bytes value rest are e.
      let g : (ltb (length bytes) count ≡ false) × ((take count bytes, drop count bytes) ≡ (value, rest)) =
      refused_first (ltb (length bytes) count) short (take count bytes, drop count bytes) (value, rest) e in
      let long : count ≤ length bytes = ltb-false _ _ g.0 in
      let front : take count bytes ≡ value = ap (λ (p : List ℕ × List ℕ). p.0) g.1 in
      let end : drop count bytes ≡ rest = ap (λ (p : List ℕ × List ℕ). p.1) g.1 in
      let taken : length (take count bytes) ≡ count = took count bytes long in
      let size : length value ≡ count = rw (← front) taken in
      record { fits = eq-eqb _ _ size; spelt = rw (← front, ← end) (sym (take-append-drop count bytes)) };
  again = λ value rest fits.
      let size : length value ≡ count = eqb-true _ _ fits in
      let long : ltb (length (value ++ rest)) count ≡ false = le-ltb _ _ (omega (arith, length-append value rest)) in
      rw (long, take_at value rest count size, drop_at value rest count size) refl;
}

-- ---- numbers

-- numbers below a limit in so many bytes
record IsWide (width : Width) (limit : ℕ) : Type 0 where
  len : (n : ℕ) → length (to_be_bytes width n) ≡ byte_len width
  back : (bytes : List ℕ) → length bytes ≡ byte_len width → AreBytes bytes → to_be_bytes width (from_be_bytes width bytes) ≡ bytes
  again : (n : ℕ) → n < limit → from_be_bytes width (to_be_bytes width n) ≡ n
  below : (bytes : List ℕ) → AreBytes bytes → from_be_bytes width bytes < limit

one_byte : (n : ℕ) → n < 2 ^ 8 → from_be_bytes w8 (to_be_bytes w8 n) ≡ n
one_byte n below = omega arith

one_back : (bytes : List ℕ) → length bytes ≡ 1 → AreBytes bytes → to_be_bytes w8 (from_be_bytes w8 bytes) ≡ bytes
one_back [] len are = absurd (omega arith)
one_back (b ∷ []) len are = let small : b < 256 = are 0 in ap (λ (n : ℕ). n ∷ []) (omega arith)
one_back (b ∷ c ∷ bytes) len are = absurd (omega arith)

wide_1 : IsWide w8 (2 ^ 8)
wide_1 = record {
  len = λ n. refl;
  back = λ bytes len are. one_back bytes len are;
  again = λ n below. one_byte n below;
  below = λ bytes are. omega (arith, are 0);
}

wide_2 : IsWide w16 (2 ^ 16)
wide_2 = record {
  len = λ n. refl;
  back = λ bytes len are. be_bytes_2 bytes _ len are refl;
  again = λ n below. from_be_bytes-to_be_bytes_2 n below;
  below = λ bytes are. omega (arith, are 0, are 1);
}

wide_4 : IsWide w32 (2 ^ 32)
wide_4 = record {
  len = λ n. refl;
  back = λ bytes len are. be_bytes_4 bytes _ len are refl;
  again = λ n below. from_be_bytes-to_be_bytes_4 n below;
  below = λ bytes are. omega (arith, are 0, are 1, are 2, are 3);
}

wide_8 : IsWide w64 (2 ^ 64)
wide_8 = record {
  len = λ n. refl;
  back = λ bytes len are. be_bytes_8 bytes _ len are refl;
  again = λ n below. from_be_bytes-to_be_bytes_8 n below;
  below = λ bytes are. omega (arith, are 0, are 1, are 2, are 3, are 4, are 5, are 6, are 7);
}

number_codec : {F : Type 0} (width : Width) (limit : ℕ) → IsWide width limit → (short : F) → IsCodec (to_be_bytes width) (λ n. nat_lt n limit) (number_at short width)
number_codec {F} width limit wide short = record {
  takes = λ bytes value rest are e.
      let g : (ltb (length bytes) (byte_len width) ≡ false) × ((from_be_bytes width (take (byte_len width) bytes), drop (byte_len width) bytes) ≡ (value, rest)) =
      refused_first (ltb (length bytes) (byte_len width)) short (from_be_bytes width (take (byte_len width) bytes), drop (byte_len width) bytes) (value, rest) e in
      let long : byte_len width ≤ length bytes = ltb-false _ _ g.0 in
      let is : from_be_bytes width (take (byte_len width) bytes) ≡ value = ap (λ (p : ℕ × List ℕ). p.0) g.1 in
      let end : drop (byte_len width) bytes ≡ rest = ap (λ (p : ℕ × List ℕ). p.1) g.1 in
      let front_are : AreBytes (take (byte_len width) bytes) = AreBytes-take (byte_len width) bytes are in
      let taken : length (take (byte_len width) bytes) ≡ byte_len width = took (byte_len width) bytes long in
      let front : to_be_bytes width value ≡ take (byte_len width) bytes = ap (to_be_bytes width) (sym is) ∙ wide.back (take (byte_len width) bytes) taken front_are in
      let small : value < limit = subst (λ (n : ℕ). n < limit) is (wide.below (take (byte_len width) bytes) front_are) in
      record { fits = lt-ltb _ _ small; spelt = rw (front, ← end) (sym (take-append-drop (byte_len width) bytes)) };
  again = λ value rest fits.
      let len : length (to_be_bytes width value) ≡ byte_len width = wide.len value in
      let long : ltb (length (to_be_bytes width value ++ rest)) (byte_len width) ≡ false = le-ltb _ _ (omega (arith, len, length-append (to_be_bytes width value) rest)) in
      rw (long, take_at (to_be_bytes width value) rest (byte_len width) len, drop_at (to_be_bytes width value) rest (byte_len width) len, wide.again value (ltb-true _ _ fits)) refl;
}

pub number_codecs : {F : Type 0} → AreNumberCodecs F
number_codecs {F} = record {
  one = λ short. number_codec w8 (2 ^ 8) wide_1 short;
  two = λ short. number_codec w16 (2 ^ 16) wide_2 short;
  four = λ short. number_codec w32 (2 ^ 32) wide_4 short;
  eight = λ short. number_codec w64 (2 ^ 64) wide_8 short;
}

-- ---- other values, and values refused

pub mapped_codec : {F A B : Type 0} → MappedIsCodec F A B
mapped_codec {F} {A} {B} spell has_text read fits view back codec ways = record {
  takes = λ bytes value rest are e.
      let s : (x : A) × (after : List ℕ) × (read bytes ≡ Ok (x, after)) × (found {F = F} (view x, after) ≡ Ok (value, rest)) =
      onwards_ok (read bytes) (λ x after. Ok (view x, after)) (value, rest) e in
      let t : BeginsWith spell has_text bytes s.0 s.1 = codec.takes bytes s.0 s.1 are s.2 in
      let both : (view s.0, s.1) ≡ (value, rest) = ok_is {F = F} _ _ s.3 in
      let there : (fits (view s.0) ≡ true) × (back (view s.0) ≡ s.0) = ways.there s.0 t.fits in
      let spelt : bytes ≡ spell (back (view s.0)) ++ s.1 = rw there.1 t.spelt in
      begins_as (λ y. spell (back y)) fits bytes (view s.0, s.1) (value, rest) both (record { fits = there.0; spelt = spelt });
  again = λ value rest fit.
      let here : (has_text (back value) ≡ true) × (view (back value) ≡ value) = ways.here value fit in
      rw (codec.again (back value) rest here.0, here.1) refl;
}

pub checked_codec : {F A : Type 0} → CheckedIsCodec F A
checked_codec {F} {A} spell has_text read fault_of codec = record {
  takes = λ bytes value rest are e.
      let s : (x : A) × (after : List ℕ) × (read bytes ≡ Ok (x, after)) × (unrefused (fault_of x) (x, after) ≡ Ok (value, rest)) =
      onwards_ok (read bytes) (λ x after. unrefused (fault_of x) (x, after)) (value, rest) e in
      let t : BeginsWith spell has_text bytes s.0 s.1 = codec.takes bytes s.0 s.1 are s.2 in
      let free : (is_none (fault_of s.0) ≡ true) × ((s.0, s.1) ≡ (value, rest)) = unrefused_ok (fault_of s.0) (s.0, s.1) (value, rest) s.3 in
      begins_as spell (λ x. has_text x && is_none (fault_of x)) bytes (s.0, s.1) (value, rest) free.1
      (record { fits = and_from _ _ t.fits free.0; spelt = t.spelt });
  again = λ value rest fit.
      let parts : (has_text value ≡ true) × (is_none (fault_of value) ≡ true) = and_parts _ _ fit in
      rw (codec.again value rest parts.0, unrefused_none {A = A × List ℕ} (fault_of value) (value, rest) parts.1) refl;
}

-- ---- one behind another

pub pair_codec : {F A B : Type 0} → PairIsCodec F A B
pair_codec {F} {A} {B} spell has_text first spell_next has_text_next second codec next = record {
  takes = λ bytes value rest are e.
      let s : (x : A) × (after : List ℕ) × (first bytes ≡ Ok (x, after)) × (onwards (second x after) (λ y end. Ok ((x, y), end)) ≡ Ok (value, rest)) =
      onwards_ok (first bytes) (λ x after. onwards (second x after) (λ y end. Ok ((x, y), end))) (value, rest) e in
      let t : BeginsWith spell has_text bytes s.0 s.1 = codec.takes bytes s.0 s.1 are s.2 in
      let after_are : AreBytes s.1 = AreBytes-behind (spell s.0) s.1 bytes t.spelt are in
      let r : (y : B) × (end : List ℕ) × (second s.0 s.1 ≡ Ok (y, end)) × (found {F = F} ((s.0, y), end) ≡ Ok (value, rest)) =
      onwards_ok (second s.0 s.1) (λ y end. Ok ((s.0, y), end)) (value, rest) s.3 in
      let u : BeginsWith (spell_next s.0) (has_text_next s.0) s.1 r.0 r.1 = (next s.0 t.fits).takes s.1 r.0 r.1 after_are r.2 in
      let whole : bytes ≡ (spell s.0 ++ spell_next s.0 r.0) ++ r.1 =
      t.spelt ∙ ap (λ (l : List ℕ). spell s.0 ++ l) u.spelt ∙ sym (append_assoc (spell s.0) (spell_next s.0 r.0) r.1) in
      let both : ((s.0, r.0), r.1) ≡ (value, rest) = ok_is {F = F} _ _ r.3 in
      begins_as (λ (q : A × B). spell q.0 ++ spell_next q.0 q.1) (λ q. has_text q.0 && has_text_next q.0 q.1) bytes ((s.0, r.0), r.1) (value, rest) both
      (record { fits = and_from _ _ t.fits u.fits; spelt = whole });
  again = λ value rest fit.
      let parts : (has_text value.0 ≡ true) × (has_text_next value.0 value.1 ≡ true) = and_parts _ _ fit in
      let regrouped : (spell value.0 ++ spell_next value.0 value.1) ++ rest ≡ spell value.0 ++ (spell_next value.0 value.1 ++ rest) =
      append_assoc (spell value.0) (spell_next value.0 value.1) rest in
      ap (pair_at first second) regrouped
      ∙ rw (codec.again value.0 (spell_next value.0 value.1 ++ rest) parts.0, (next value.0 parts.0).again value.1 rest parts.1) refl;
}

pub chosen_codec : {F T A : Type 0} → ChosenIsCodec F T A
chosen_codec {F} {T} {A} spell_tag is_tag tag tag_of spell has_text branch codec branches tells = record {
  takes = λ bytes value rest are e.
      let s : (t : T) × (after : List ℕ) × (tag bytes ≡ Ok (t, after)) × (branch t after ≡ Ok (value, rest)) =
      onwards_ok (tag bytes) (λ t after. branch t after) (value, rest) e in
      let t : BeginsWith spell_tag is_tag bytes s.0 s.1 = codec.takes bytes s.0 s.1 are s.2 in
      let after_are : AreBytes s.1 = AreBytes-behind (spell_tag s.0) s.1 bytes t.spelt are in
      let u : BeginsWith (spell s.0) (has_text s.0) s.1 value rest = (branches s.0 t.fits).takes s.1 value rest after_are s.3 in
      let told : s.0 ≡ tag_of value = sym (tells s.0 value t.fits u.fits) in
      let whole : bytes ≡ (spell_tag s.0 ++ spell s.0 value) ++ rest =
      t.spelt ∙ ap (λ (l : List ℕ). spell_tag s.0 ++ l) u.spelt ∙ sym (append_assoc (spell_tag s.0) (spell s.0 value) rest) in
      let fits : (is_tag s.0 && has_text s.0 value) ≡ true = and_from _ _ t.fits u.fits in
      record {
        fits = subst (λ (k : T). (is_tag k && has_text k value) ≡ true) told fits;
        spelt = subst (λ (k : T). bytes ≡ (spell_tag k ++ spell k value) ++ rest) told whole;
      };
  again = λ value rest fit.
      let parts : (is_tag (tag_of value) ≡ true) × (has_text (tag_of value) value ≡ true) = and_parts _ _ fit in
      let regrouped : (spell_tag (tag_of value) ++ spell (tag_of value) value) ++ rest ≡ spell_tag (tag_of value) ++ (spell (tag_of value) value ++ rest) =
      append_assoc (spell_tag (tag_of value)) (spell (tag_of value) value) rest in
      ap (chosen_at tag branch) regrouped
      ∙ rw (codec.again (tag_of value) (spell (tag_of value) value ++ rest) parts.0, (branches (tag_of value) parts.0).again value rest parts.1) refl;
}

-- ---- so many, and one within another

many_takes : {F S A : Type 0} (spell : A → List ℕ) (has_text : S → A → Bool) (next : S → A → S) (read : S → Reading F A) → ((state : S) → IsCodec spell (has_text state) (read state))
    → (count : ℕ) (state : S) (bytes : List ℕ) (value : List A) (rest : List ℕ) → AreBytes bytes → many_at next read count state bytes ≡ Ok (value, rest)
    → (length value ≡ count) × (pass_in_turn next has_text state value ≡ true) × (bytes ≡ flat_map spell value ++ rest)
many_takes {F} {S} {A} spell has_text next read each zero state bytes value rest are e =
    let both : ([], bytes) ≡ (value, rest) = ok_is {F = F} {A = List A × List ℕ} _ _ e in
    many_as spell has_text next zero state bytes ([], bytes) (value, rest) both (refl, refl, refl)
many_takes {F} {S} {A} spell has_text next read each (suc count) state bytes value rest are e =
    let s : (x : A) × (after : List ℕ) × (read state bytes ≡ Ok (x, after)) × (onwards (many_at next read count (next state x) after) (λ xs end. Ok (x ∷ xs, end)) ≡ Ok (value, rest)) =
    onwards_ok (read state bytes) (λ x after. onwards (many_at next read count (next state x) after) (λ xs end. Ok (x ∷ xs, end))) (value, rest) e in
    let t : BeginsWith spell (has_text state) bytes s.0 s.1 = (each state).takes bytes s.0 s.1 are s.2 in
    let after_are : AreBytes s.1 = AreBytes-behind (spell s.0) s.1 bytes t.spelt are in
    let r : (xs : List A) × (end : List ℕ) × (many_at next read count (next state s.0) s.1 ≡ Ok (xs, end)) × (found {F = F} (s.0 ∷ xs, end) ≡ Ok (value, rest)) =
    onwards_ok (many_at next read count (next state s.0) s.1) (λ xs end. Ok (s.0 ∷ xs, end)) (value, rest) s.3 in
    let u : (length r.0 ≡ count) × (pass_in_turn next has_text (next state s.0) r.0 ≡ true) × (s.1 ≡ flat_map spell r.0 ++ r.1) =
    many_takes spell has_text next read each count (next state s.0) s.1 r.0 r.1 after_are r.2 in
    let whole : bytes ≡ flat_map spell (s.0 ∷ r.0) ++ r.1 =
    t.spelt ∙ ap (λ (l : List ℕ). spell s.0 ++ l) u.2 ∙ sym (append_assoc (spell s.0) (flat_map spell r.0) r.1) in
    let both : (s.0 ∷ r.0, r.1) ≡ (value, rest) = ok_is {F = F} _ _ r.3 in
    many_as spell has_text next (suc count) state bytes (s.0 ∷ r.0, r.1) (value, rest) both
    (ap suc u.0, and_from _ _ t.fits u.1, whole)

many_again : {F S A : Type 0} (spell : A → List ℕ) (has_text : S → A → Bool) (next : S → A → S) (read : S → Reading F A) → ((state : S) → IsCodec spell (has_text state) (read state))
    → (state : S) (value : List A) (rest : List ℕ) → pass_in_turn next has_text state value ≡ true
    → many_at next read (length value) state (flat_map spell value ++ rest) ≡ Ok (value, rest)
many_again spell has_text next read each state [] rest fit = refl
many_again spell has_text next read each state (x ∷ xs) rest fit =
    let parts : (has_text state x ≡ true) × (pass_in_turn next has_text (next state x) xs ≡ true) = and_parts _ _ fit in
    let regrouped : flat_map spell (x ∷ xs) ++ rest ≡ spell x ++ (flat_map spell xs ++ rest) = append_assoc (spell x) (flat_map spell xs) rest in
    ap (many_at next read (length (x ∷ xs)) state) regrouped
    ∙ rw ((each state).again x (flat_map spell xs ++ rest) parts.0, many_again spell has_text next read each (next state x) xs rest parts.1) refl

pub many_codec : {F S A : Type 0} → ManyAreCodec F S A
many_codec {F} {S} {A} spell has_text next read each count state = record {
  takes = λ bytes value rest are e.
      let t = many_takes spell has_text next read each count state bytes value rest are e in
      record { fits = and_from _ _ (eq-eqb _ _ t.0) t.1; spelt = t.2 };
  again = λ value rest fit.
      let parts : ((length value == count) ≡ true) × (pass_in_turn next has_text state value ≡ true) = and_parts _ _ fit in
      let len : length value ≡ count = eqb-true _ _ parts.0 in
      subst (λ (n : ℕ). many_at next read n state (flat_map spell value ++ rest) ≡ Ok (value, rest)) len (many_again spell has_text next read each state value rest parts.1);
}

pub nested_codec : {F A : Type 0} → NestedIsCodec F A
nested_codec spell has_text innermost around codec step zero = codec
nested_codec spell has_text innermost around codec step (suc depth) =
    step depth (nested_at innermost around depth) (nested_codec spell has_text innermost around codec step depth)

-- ---- in other words

pub retold_codec : {F A : Type 0} → RetoldIsCodec F A
retold_codec {F} {A} spell retold has_text suits read codec there here = record {
  takes = λ bytes value rest are e.
      let t : BeginsWith spell has_text bytes value rest = codec.takes bytes value rest are e in
      let suit : suits value ≡ true = there value t.fits in
      let same : retold value ≡ spell value = (here value suit).1 in
      record { fits = suit; spelt = rw same t.spelt };
  again = λ value rest suit.
      let both : (has_text value ≡ true) × (retold value ≡ spell value) = here value suit in
      rw both.1 (codec.again value rest both.0);
}
