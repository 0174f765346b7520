-- What a relay keeps, with one entry more, and without the first.
use Rattle.std.proofs.Common.{◌≡◌, ℕ, zero, suc, ◌+◌, ◌-◌, ◌<◌, ◌≤◌, Bool, true, false, nat_lt, cond, List, [], ◌∷◌, ◌++◌, length, take, drop, Some, None, slice_get, refl, ap, subst, ◌∙◌, arith}
use Rattle.std.proofs.lemmas.List.{append-nil, map-append}
use Rattle.std.proofs.lemmas.Bool.{lt-ltb}
use Rattle.circular_buffer.specs.Buffer.{keep_last}
use Rattle.board.specs.declared.entry.Entry.{Entry}
use Rattle.board.specs.declared.rule.Label.{Label}
use Rattle.inbox.specs.declared.submission.Submission.{Submission}
use Rattle.inbox.specs.Books.{label_in}
use Rattle.relay_board.specs.Kept.{kept_of, AreFor, IsTold}

-- ---- lists

-- what has room is kept whole
pub keep_all : {A : Type 0} (n : ℕ) (xs : List A) → length xs ≤ n → keep_last n xs ≡ xs
keep_all n xs le = let none : length xs - n ≡ 0 = omega arith in ap (λ k. drop k xs) none

-- one item more is taken
pub take_next : {A : Type 0} (xs : List A) (n : ℕ) (x : A) → slice_get xs n ≡ Some x → take n xs ++ x ∷ [] ≡ take (n + 1) xs
take_next [] n x here = absurd (cc (here))
take_next (y ∷ ys) zero x here = let same : x ≡ y = cc (here) in ap (λ z. z ∷ []) same
take_next (y ∷ ys) (suc n) x here =
    let next : suc (n + 1) ≡ suc n + 1 = omega arith in
    ap (λ l. y ∷ l) (take_next ys n x here) ∙ ap (λ m. take m (y ∷ ys)) next

-- as many items as there are
pub take_whole : {A : Type 0} (n : ℕ) (xs : List A) → length xs ≡ n → take n xs ≡ xs
take_whole zero [] long = refl
take_whole (suc n) [] long = absurd (omega arith)
take_whole zero (x ∷ xs) long = absurd (omega arith)
take_whole (suc n) (x ∷ xs) long = ap (λ l. x ∷ l) (take_whole n xs (omega arith))

-- a list with just one item more
pub behind_one : {A : Type 0} (n : ℕ) (xs : List A) → n < length xs → length xs ≤ n + 1 → (x : A) × (xs ≡ take n xs ++ x ∷ [])
behind_one n [] lt le = absurd (omega arith)
behind_one zero (x ∷ []) lt le = (x, refl)
behind_one zero (x ∷ y ∷ xs) lt le = absurd (omega arith)
behind_one (suc n) (x ∷ xs) lt le = let rest = behind_one n xs (omega arith) (omega arith) in (rest.0, ap (λ l. x ∷ l) rest.1)

-- one item less, without the first
pub take_rest : {A : Type 0} (n : ℕ) (x : A) (xs : List A) → 0 < n → take n (x ∷ xs) ≡ x ∷ take (n - 1) xs
take_rest n x xs lt = let more : n ≡ suc (n - 1) = omega arith in ap (λ m. take m (x ∷ xs)) more

-- the first item of a list that has one
pub first_of : {A : Type 0} (xs : List A) → 0 < length xs → (x : A) × (xs ≡ x ∷ drop 1 xs)
first_of [] lt = absurd (omega arith)
first_of (x ∷ xs) lt = (x, refl)

-- a list from its first item on
pub first_is : {A : Type 0} (xs : List A) (x : A) → slice_get xs 0 ≡ Some x → xs ≡ x ∷ drop 1 xs
first_is [] x here = absurd (cc (here))
first_is (y ∷ ys) x here = let same : y ≡ x = cc (here) in ap (λ z. z ∷ ys) same

-- ---- submissions

-- the entries with one more
pub kept_more : (items : List Submission) (s : Submission) → kept_of (items ++ s ∷ []) ≡ kept_of items ++ s.entry ∷ []
kept_more items s = map-append (λ (x : Submission). x.entry) items (s ∷ [])

-- those for a board, with one more
pub for_more : (items : List Submission) (s : Submission) (b : Label) → AreFor items b → label_in s ≡ b → AreFor (items ++ s ∷ []) b
for_more [] s b are own = (own, tt)
for_more (x ∷ items) s b are own = (are.0, for_more items s b are.1 own)

some_is : {A : Type 0} (x y : A) → Some x ≡ Some y → x ≡ y
some_is x y e = cc (e)

none_is : {A : Type 0} (y : A) → None ≡ Some y → ⊥
none_is y e = cc (e)

-- those for a board, without the first
pub for_rest : (items : List Submission) (b : Label) → AreFor items b → AreFor (drop 1 items) b
for_rest [] b are = tt
for_rest (x ∷ items) b are = are.1

-- the first of those for a board
pub for_first : (items : List Submission) (s : Submission) (b : Label) → AreFor items b → slice_get items 0 ≡ Some s → label_in s ≡ b
for_first [] s b are here = absurd (none_is s here)
for_first (x ∷ items) s b are here = subst (λ (y : Submission). label_in y ≡ b) (some_is x s here) are.0

some_ready : (n : ℕ) → 0 < n → nat_lt 0 n ≡ true
some_ready n lt = lt-ltb 0 n lt

-- what was announced stays so as one more is kept behind it; where nothing was kept, nothing is announced
pub told_more : (told : Bool) (ready : ℕ) (kept : List Entry) (e : Entry) (announced list : List Entry) → length kept ≡ ready → IsTold told kept announced list → IsTold (cond told (nat_lt 0 ready) false) (kept ++ e ∷ []) announced list
told_more false ready kept e announced list long is = is
told_more true zero [] e announced list long is = is ∙ append-nil list
told_more true (suc ready) [] e announced list long is = absurd (omega arith)
told_more true zero (x ∷ kept) e announced list long is = absurd (omega arith)
told_more true (suc ready) (x ∷ kept) e announced list long is = rw (some_ready (suc ready) (omega arith)) is

-- where nothing is kept, nothing is announced
pub told_none : (told : Bool) (kept announced list : List Entry) → kept ≡ [] → IsTold told kept announced list → announced ≡ list
told_none false kept announced list none is = is
told_none true kept announced list none is = is ∙ (ap (λ l. list ++ take 1 l) none ∙ append-nil list)

-- the entries from the first on
pub kept_first : (items : List Submission) (s : Submission) → slice_get items 0 ≡ Some s → kept_of items ≡ s.entry ∷ kept_of (drop 1 items)
kept_first [] s here = absurd (none_is s here)
kept_first (x ∷ items) s here = ap (λ (y : Submission). y.entry ∷ kept_of items) (some_is x s here)
