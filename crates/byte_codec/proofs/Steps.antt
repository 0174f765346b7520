-- What a reading that found a value found on its way, and bytes behind bytes.
use Rattle.std.proofs.Common.{◌≡◌, ℕ, ◌+◌, Bool, true, false, cond, List, ◌++◌, length, take, drop, Option, Some, None, Result, Ok, Err, refl, arith, inl, inr, append_assoc}
use Rattle.std.specs.Prelude.{is_none}
use Rattle.std.proofs.lemmas.Bool.{cases_lt}
use Rattle.std.proofs.lemmas.List.{get_or-drop, get_or-take, get_or_past, length-take, drop_at}
use Rattle.byte_codec.specs.Reading.{leaving, onwards, unrefused}
use Rattle.byte_codec.specs.Codec.{AreBytes}

-- a value and what stands behind it, of the type of results
abbrev pub found : {F A : Type 0} → A → Result A F
found x = Ok x

-- two values that are read are one
pub ok_is : {F A : Type 0} (x y : A) → found {F = F} x ≡ found {F = F} y → x ≡ y
ok_is x y e = cc

-- no value that is read is a fault
pub ok_is_no_fault : {F A : Type 0} (x : A) (fault : F) → found {F = F} x ≡ Err fault → ⊥
ok_is_no_fault x fault e = cc

-- what goes on with a value has read one
pub onwards_ok : {F A B : Type 0} (r : Result (A × List ℕ) F) (next : A → List ℕ → Result B F) (y : B) → onwards r next ≡ Ok y
    → (x : A) × (rest : List ℕ) × (r ≡ Ok (x, rest)) × (next x rest ≡ Ok y)
onwards_ok (Ok x) next y e = (x.0, x.1, refl, e)
onwards_ok (Err fault) next y e = absurd cc

-- a value that is not refused has no fault
pub unrefused_ok : {F A : Type 0} (fault : Option F) (x y : A) → unrefused fault x ≡ Ok y → (is_none fault ≡ true) × (x ≡ y)
unrefused_ok {F} None x y e = (refl, ok_is {F = F} x y e)
unrefused_ok (Some fault) x y e = absurd cc

pub unrefused_none : {F A : Type 0} (fault : Option F) (x : A) → is_none fault ≡ true → unrefused fault x ≡ Ok x
unrefused_none None x e = refl
unrefused_none (Some fault) x e = absurd cc

-- a test that refuses, and did not
pub refused_first : {F A : Type 0} (b : Bool) (fault : F) (x y : A) → cond b (Err fault) (Ok x) ≡ Ok y → (b ≡ false) × (x ≡ y)
refused_first true fault x y e = absurd cc
refused_first {F} false fault x y e = (refl, ok_is {F = F} x y e)

pub refused_last : {F A : Type 0} (b : Bool) (fault : F) (x y : A) → cond b (Ok x) (Err fault) ≡ Ok y → (b ≡ true) × (x ≡ y)
refused_last {F} true fault x y e = (refl, ok_is {F = F} x y e)
refused_last false fault x y e = absurd cc

-- the ends of bytes are bytes
pub AreBytes-drop : (n : ℕ) (bytes : List ℕ) → AreBytes bytes → AreBytes (drop n bytes)
AreBytes-drop n bytes h i = rw get_or-drop (h (n + i))

pub AreBytes-take : (n : ℕ) (bytes : List ℕ) → AreBytes bytes → AreBytes (take n bytes)
AreBytes-take n bytes h i =
    elim (cases_lt i n) [
      | inl lt ↦ rw (get_or-take n bytes i 0 lt) (h i)
      | inr le ↦ rw (get_or_past (take n bytes) i 0 (omega (arith, length-take n bytes))) (omega arith)
    ]

-- what stands behind a text in bytes is bytes
pub AreBytes-behind : (text rest bytes : List ℕ) → bytes ≡ text ++ rest → AreBytes bytes → AreBytes rest
AreBytes-behind text rest bytes e h = rw (← drop_at text rest (length text) refl, ← e) (AreBytes-drop (length text) bytes h)

-- a value that may be refused, behind what was read
pub leaving_unrefused : {F A : Type 0} (fault : Option F) (x : A) (rest : List ℕ) → leaving (λ (y : A). y) (unrefused fault x) rest ≡ unrefused fault (x, rest)
leaving_unrefused None x rest = refl
leaving_unrefused (Some fault) x rest = refl

-- bytes behind bytes
pub four_behind : (text a b c d : List ℕ) → (((text ++ a) ++ b) ++ c) ++ d ≡ text ++ (a ++ (b ++ (c ++ d)))
four_behind text a b c d = simp append_assoc
