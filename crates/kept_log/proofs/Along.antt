-- Histories, and what is known of them.
use Rattle.std.specs.Prelude.{IfErr, IfOk, IfSome, OnErr}
use Rattle.std.proofs.Common.{◌≡◌, ◌⊎◌, inl, inr, List, [], ◌∷◌, ◌++◌, Option, Some, None, Result, Ok, Err, sym, ap, subst, ◌∙◌, append_assoc}
use Rattle.std.proofs.lemmas.List.{append-nil}
use Rattle.kept_devices.specs.Standing.{Both, Each, History, Standing, Throughout, moves_to}

-- ---- moments

-- nothing was done
pub stays : (P : Standing → Type 0) (h : History) → P h.now → Throughout P h h
stays P h holds = record { between = []; past = sym (append-nil h.past); each = tt; now = holds }

each_more : (P : Standing → Type 0) (ss : List Standing) (s : Standing) → Each P ss → P s → Each P (ss ++ s ∷ [])
each_more P [] s each holds = (holds, tt)
each_more P (t ∷ ss) s each holds = (each.0, each_more P ss s each.1 holds)

-- one moment more
pub goes_on : (P : Standing → Type 0) (h k : History) (s : Standing) → Throughout P h k → P s → Throughout P h (moves_to k s)
goes_on P h k s so_far holds = record {
  between = so_far.between ++ k.now ∷ [];
  past = ap (λ (l : List Standing). l ++ k.now ∷ []) so_far.past ∙ append_assoc h.past so_far.between (k.now ∷ []);
  each = each_more P so_far.between k.now so_far.each so_far.now;
  now = holds;
}

each_both : (P : Standing → Type 0) (ss ts : List Standing) → Each P ss → Each P ts → Each P (ss ++ ts)
each_both P [] ts each also = also
each_both P (s ∷ ss) ts each also = (each.0, each_both P ss ts each.1 also)

-- one thing behind another
pub then_on : (P : Standing → Type 0) (h k l : History) → Throughout P h k → Throughout P k l → Throughout P h l
then_on P h k l first second = record {
  between = first.between ++ second.between;
  past = second.past ∙ ap (λ (p : List Standing). p ++ second.between) first.past ∙ append_assoc h.past first.between second.between;
  each = each_both P first.between second.between first.each second.each;
  now = second.now;
}

-- one move, or none
pub moved : (P : Standing → Type 0) (h k : History) (s : Standing) → P h.now → P s → k ≡ moves_to h s → Throughout P h k
moved P h k s before after e = subst (λ (l : History). Throughout P h l) (sym e) (goes_on P h h s (stays P h before) after)

pub stayed : (P : Standing → Type 0) (h k : History) → P h.now → k ≡ h → Throughout P h k
stayed P h k before e = subst (λ (l : History). Throughout P h l) (sym e) (stays P h before)

pub moved_or_stayed : (P : Standing → Type 0) (h k : History) (s : Standing) → P h.now → P s → (k ≡ h) ⊎ (k ≡ moves_to h s) → Throughout P h k
moved_or_stayed P h k s before after (inl same) = stayed P h k before same
moved_or_stayed P h k s before after (inr e) = moved P h k s before after e

pub moved_twice : (P : Standing → Type 0) (h k : History) (s t : Standing) → P h.now → P s → P t → k ≡ moves_to (moves_to h s) t → Throughout P h k
moved_twice P h k s t before midway after e =
    subst (λ (l : History). Throughout P h l) (sym e) (goes_on P h (moves_to h s) t (goes_on P h h s (stays P h before) midway) after)

-- ---- where a history is known

-- what a call did comes to something
pub along : (I : History → Type 0) (R S : History → History → Type 0) (o p : Option History) → ((h k : History) → I h → R h k → S h k) → IfSome o I → Both o p R → Both o p S
along I R S (Some h) (Some k) f i r = f h k i r
along I R S (Some h) None f i r = r
along I R S None (Some k) f i r = r
along I R S None None f i r = tt

-- so does how it leaves the file
pub behind : (I : History → Type 0) (R : History → History → Type 0) (J : History → Type 0) (o p : Option History) → ((h k : History) → I h → R h k → J k) → IfSome o I → Both o p R → IfSome p J
behind I R J (Some h) (Some k) f i r = f h k i r
behind I R J (Some h) None f i r = tt
behind I R J None (Some k) f i r = absurd r
behind I R J None None f i r = tt

-- and what the file was before
pub before : (I : History → Type 0) (R : History → History → Type 0) (J : History → Type 0) (o p : Option History) → ((h k : History) → I k → R h k → J h) → IfSome p I → Both o p R → IfSome o J
before I R J (Some h) (Some k) f i r = f h k i r
before I R J (Some h) None f i r = absurd r
before I R J None (Some k) f i r = absurd r
before I R J None None f i r = tt

pub if_all : (I J : History → Type 0) (o : Option History) → ((h : History) → I h → J h) → IfSome o I → IfSome o J
if_all I J (Some h) f i = f h i
if_all I J None f i = tt

pub if_both : (I J : History → Type 0) (o : Option History) → IfSome o I → IfSome o J → IfSome o (λ h. I h × J h)
if_both I J (Some h) i j = (i, j)
if_both I J None i j = tt

-- one call behind another
pub always_on : (P : Standing → Type 0) (o p q : Option History) → Both o p (Throughout P) → Both p q (Throughout P) → Both o q (Throughout P)
always_on P (Some h) (Some k) (Some l) first second = then_on P h k l first second
always_on P (Some h) (Some k) None first second = absurd second
always_on P (Some h) None q first second = absurd first
always_on P None (Some k) q first second = absurd first
always_on P None None (Some l) first second = absurd second
always_on P None None None first second = tt

pub always_still : (P : Standing → Type 0) (o : Option History) → IfSome o (λ h. P h.now) → Both o o (Throughout P)
always_still P (Some h) holds = stays P h holds
always_still P None holds = tt

-- what holds throughout holds in the end
pub in_the_end : (P : Standing → Type 0) (o p : Option History) → Both o p (Throughout P) → IfSome p (λ h. P h.now)
in_the_end P (Some h) (Some k) t = t.now
in_the_end P (Some h) None t = tt
in_the_end P None (Some k) t = absurd t
in_the_end P None None t = tt

-- ---- answers

pub if_ok_so : {A E : Type 0} (r : Result A E) (P Q : A → Type 0) → ((a : A) → P a → Q a) → IfOk r P → IfOk r Q
if_ok_so (Ok a) P Q f p = f a p
if_ok_so (Err e) P Q f p = p

pub if_ok_both : {A E : Type 0} (r : Result A E) (P Q : A → Type 0) → IfOk r P → IfOk r Q → IfOk r (λ a. P a × Q a)
if_ok_both (Ok a) P Q p q = (p, q)
if_ok_both (Err e) P Q p q = p

pub if_err_so : {A E : Type 0} (r : Result A E) (P Q : E → Type 0) → ((e : E) → P e → Q e) → IfErr r P → IfErr r Q
if_err_so (Ok a) P Q f p = p
if_err_so (Err e) P Q f p = f e p

pub when_err : {A E X : Type 0} (r : Result A E) → X → OnErr r X
when_err (Ok a) x = tt
when_err (Err e) x = x
