-- What a crash leaves of a file in memory.
use Rattle.std.specs.Prelude.{IfOk}
use Rattle.std.proofs.Common.{◌≡◌, ◌≤◌, ◌<◌, ◌+◌, inl, inr, ℕ, zero, suc, List, [], ◌∷◌, ◌++◌, length, take, map, get_or, Result, Ok, Err, sym, ap, subst, ◌∙◌, arith, Vec, Global}
use Rattle.std.proofs.lemmas.List.{length-append, map_push, take_all}
use Rattle.kept_records.specs.Laws.{IsLowered}
use Rattle.kept_devices.specs.Standing.{Has, MayLeave, Standing}
use Rattle.kept_devices.specs.Standing.MayLeave.{Added, Cut, Replaced, Uncut}

-- ---- bytes that are less

more_lowered : (xs ys : List ℕ) (x y : ℕ) → length xs ≡ length ys → IsLowered xs ys → x ≤ y → IsLowered (xs ++ x ∷ []) (ys ++ y ∷ [])
more_lowered [] [] x y long low le = (le, tt)
more_lowered [] (z ∷ ys) x y long low le = absurd (omega (arith, long))
more_lowered (z ∷ xs) [] x y long low le = absurd low
more_lowered (a ∷ xs) (b ∷ ys) x y long low le = (low.0, more_lowered xs ys x y (omega (arith, long)) low.1 le)

-- the first bytes so far, each as it is or less
pub record AreLowered (left : List ℕ) (index : ℕ) (bytes : List ℕ) : Type 0 where
  pub low : IsLowered left (take index bytes)
  pub long : length left ≡ length (take index bytes)

pub one_lowered : (left more bytes : List ℕ) (index x y : ℕ) → AreLowered left index bytes → take (index + 1) bytes ≡ take index bytes ++ y ∷ [] → x ≤ y → more ≡ left ++ x ∷ [] → AreLowered more (index + 1) bytes
one_lowered left more bytes index x y so_far step le e = record {
  low = subst (λ (l : List ℕ). IsLowered more l) (sym step) (subst (λ (l : List ℕ). IsLowered l (take index bytes ++ y ∷ [])) (sym e) (more_lowered left (take index bytes) x y so_far.long so_far.low le));
  long = omega (arith, ap length e, ap length step, length-append left (x ∷ []), length-append (take index bytes) (y ∷ []), so_far.long);
}

front_lowered : (n : ℕ) (xs ys : List ℕ) → IsLowered xs (take n ys) → IsLowered xs ys
front_lowered n [] ys low = tt
front_lowered zero (x ∷ xs) ys low = absurd low
front_lowered (suc n) (x ∷ xs) [] low = absurd low
front_lowered (suc n) (x ∷ xs) (y ∷ ys) low = (low.0, front_lowered n xs ys low.1)

-- of a front, up to whatever place
pub all_lowered : (left front bytes : List ℕ) (index count : ℕ) → AreLowered left index front → front ≡ take count bytes → IsLowered left bytes
all_lowered left front bytes index count so_far e =
    front_lowered count left bytes (subst (λ (l : List ℕ). IsLowered left l) e (front_lowered index left front so_far.low))

-- ---- texts

abbrev pub AreCopied : List (Vec ℕ Global) → ℕ → List (Vec ℕ Global) → Type 0
AreCopied all index texts = map (λ t. t.items) all ≡ map (λ t. t.items) (take index texts)

pub one_copied : (all more texts : List (Vec ℕ Global)) (index : ℕ) (v text : Vec ℕ Global) → AreCopied all index texts → take (index + 1) texts ≡ take index texts ++ text ∷ [] → v.items ≡ text.items
    → more ≡ all ++ v ∷ [] → AreCopied more (index + 1) texts
one_copied all more texts index v text so_far step same e =
    ap (λ l. map (λ t. t.items) l) e ∙ map_push (λ t. t.items) all v
    ∙ ap (λ (l : List (List ℕ)). l ++ v.items ∷ []) so_far ∙ ap (λ (b : List ℕ). map (λ t. t.items) (take index texts) ++ b ∷ []) same
    ∙ sym (map_push (λ t. t.items) (take index texts) text) ∙ ap (λ l. map (λ t. t.items) l) (sym step)

pub all_copied : (all texts : List (Vec ℕ Global)) (index : ℕ) → AreCopied all index texts → length texts ≤ index → map (λ t. t.items) all ≡ map (λ t. t.items) texts
all_copied all texts index so_far past = so_far ∙ ap (λ l. map (λ t. t.items) l) (take_all index texts past)

-- the text at a place is one of them
pub has_at : (vs : List (Vec ℕ Global)) (i : ℕ) (v : Vec ℕ Global) → i < length vs → v ≡ get_or vs i v → Has (map (λ t. t.items) vs) v.items
has_at [] i v less e = absurd (omega (arith, less))
has_at (x ∷ vs) zero v less e = inl (ap (λ (t : Vec ℕ Global). t.items) e)
has_at (x ∷ vs) (suc i) v less e = inr (has_at vs i v (omega (arith, less)) e)

-- ---- what a crash leaves, where there was memory for it

pub may_be_added : {E : Type 0} (r : Result (Vec ℕ Global) E) (s : Standing) (front end : List ℕ) → front ≡ s.durable → IsLowered end s.pending → IfOk r (λ v. v.items ≡ front ++ end) → IfOk r (λ v. MayLeave s v.items)
may_be_added (Ok v) s front end e low is = Added end low (is ∙ ap (λ (l : List ℕ). l ++ end) e)
may_be_added (Err refused) s front end e low is = tt

pub may_be_cut : {E : Type 0} (r : Result (Vec ℕ Global) E) (s : Standing) (front back : List ℕ) (n : ℕ) → front ≡ s.durable → back ≡ take n s.cut_durable → IfOk r (λ v. v.items ≡ front ++ back) → IfOk r (λ v. MayLeave s v.items)
may_be_cut (Ok v) s front back n e f is = Cut n (is ∙ ap (λ (l : List ℕ). l ++ back) e ∙ ap (λ (l : List ℕ). s.durable ++ l) f)
may_be_cut (Err refused) s front back n e f is = tt

pub may_be_uncut : {E : Type 0} (r : Result (Vec ℕ Global) E) (s : Standing) (front back middle end : List ℕ) → front ≡ s.durable → back ≡ middle ++ end → middle ≡ s.cut_durable → IsLowered end s.cut_pending
    → IfOk r (λ v. v.items ≡ front ++ back) → IfOk r (λ v. MayLeave s v.items)
may_be_uncut (Ok v) s front back middle end e f g low is =
    Uncut end low (is ∙ ap (λ (l : List ℕ). l ++ back) e ∙ ap (λ (l : List ℕ). s.durable ++ l) (f ∙ ap (λ (l : List ℕ). l ++ end) g))
may_be_uncut (Err refused) s front back middle end e f g low is = tt

pub may_be_replaced : {E : Type 0} (r : Result (Vec ℕ Global) E) (s : Standing) (text : List ℕ) → Has s.others text → IfOk r (λ v. v.items ≡ text) → IfOk r (λ v. MayLeave s v.items)
may_be_replaced (Ok v) s text has is = Replaced (subst (λ (l : List ℕ). Has s.others l) (sym is) has)
may_be_replaced (Err refused) s text has is = tt
