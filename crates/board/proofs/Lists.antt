-- Lists of entries with one more, and lists that are copied from a place on.
use Rattle.std.proofs.Common.{◌≡◌, ℕ, zero, suc, Some, slice_get, append_assoc, ◌+◌, ◌-◌, true, List, [], ◌∷◌, ◌++◌, length, drop, sym, refl, ap, ◌∙◌, arith, length-append, length-drop, drop-drop}
use Rattle.std.proofs.lemmas.List.{map-append, drop-append-le}
use Rattle.std.proofs.lemmas.Bool.{and_parts}
use Rattle.stamped_writes.specs.Write.{greater, Writes, AreSame, joined}
use Rattle.edit_stamps.specs.Edit.{greatest, has_states_below}
use Rattle.edit_stamps.proofs.WriteLaws.{joins_lists}
use Rattle.circular_buffer.specs.Buffer.{keep_last}
use Rattle.board.specs.declared.entry.Entry.{Entry}
use Rattle.board.specs.Entries.{edits_of, all_below, last_of}

-- the edits of one entry more
pub edits_more : (es : List Entry) (e : Entry) → edits_of (es ++ e ∷ []) ≡ edits_of es ++ e.edit ∷ []
edits_more es e = map-append (λ (x : Entry). x.edit) es (e ∷ [])

-- the writes of one edit more, joined into the greatest writes of a list, are those of the longer list
pub greatest_more : (es : List Entry) (e : Entry) (p q : Writes) → AreSame p (greatest (edits_of es)) → AreSame q (joined p (greatest (e.edit ∷ []))) → AreSame q (greatest (edits_of (es ++ e ∷ [])))
greatest_more es e p q is more c =
    more c
    ∙ (ap (λ w. greater w (greatest (e.edit ∷ []) c)) (is c)
    ∙ (sym (joins_lists (edits_of es) (e.edit ∷ []) c)
    ∙ ap (λ l. greatest l c) (sym (edits_more es e))))

-- the last of those that were kept and one more are the last of the longer list
pub keep_more : {A : Type 0} (n : ℕ) (xs : List A) (x : A) → keep_last n (keep_last n xs ++ x ∷ []) ≡ keep_last n (xs ++ x ∷ [])
keep_more n xs x =
    let k = length xs - n in
    let same : drop k xs ++ x ∷ [] ≡ drop k (xs ++ x ∷ []) = sym (drop-append-le k xs (x ∷ []) (omega arith)) in
    let a = length-append (drop k xs) (x ∷ []) in
    let b = length-drop k xs in
    let d = length-append xs (x ∷ []) in
    let j = length (drop k xs ++ x ∷ []) - n in
    ap (λ l. drop j l) same ∙ (drop-drop j k (xs ++ x ∷ []) ∙ ap (λ i. drop i (xs ++ x ∷ [])) (omega (arith, a, b, d)))

-- the last edits of one entry more
pub last_more : (es : List Entry) (e : Entry) → keep_last 1024 (last_of (edits_of es) ++ e.edit ∷ []) ≡ last_of (edits_of (es ++ e ∷ []))
last_more es e = keep_more 1024 (edits_of es) e.edit ∙ ap (λ l. keep_last 1024 l) (sym (edits_more es e))

-- states are below a number where those of one entry more are
pub below_more : (n : ℕ) (es : List Entry) (e : Entry) → all_below n es ≡ true → has_states_below n e.edit ≡ true → all_below n (es ++ e ∷ []) ≡ true
below_more n [] e all own = rw own refl
below_more n (x ∷ es) e all own =
    let parts = and_parts (has_states_below n x.edit) (all_below n es) all in
    rw parts.0 (below_more n es e parts.1 own)

-- from a place on stands the item there, and then what stands from the next place on
drop_is : {A : Type 0} (xs : List A) (k : ℕ) (x : A) → Some x ≡ slice_get xs k → drop k xs ≡ x ∷ drop (k + 1) xs
drop_is [] k x at = absurd cc
drop_is (y ∷ ys) zero x at = cc (at)
drop_is (y ∷ ys) (suc k) x at =
    let next : suc (k + 1) ≡ suc k + 1 = omega arith in
    drop_is ys k x at ∙ ap (λ n. x ∷ drop n (y ∷ ys)) next

-- one item more was copied
pub copied_more : {A : Type 0} (copies xs : List A) (k : ℕ) (x : A) (all : List A) → copies ++ drop k xs ≡ all → Some x ≡ slice_get xs k → (copies ++ x ∷ []) ++ drop (k + 1) xs ≡ all
copied_more copies xs k x all h at = append_assoc copies (x ∷ []) (drop (k + 1) xs) ∙ (ap (λ l. copies ++ l) (sym (drop_is xs k x at)) ∙ h)
