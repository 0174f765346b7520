-- Each step keeps the rule of a channel of answers.
use Rattle.std.proofs.Common.{◌≡◌, ◌≢◌, ℕ, zero, suc, true, false, true≢false, List, [], ◌∷◌, ◌++◌, length, set, sym, refl, ap, ◌∙◌, subst, ⊎_elim, arith}
use mathlib.Core.Option.{some, some-injective, some-ne-none}
use lib.ListN.{get_elem?}
use Rattle.crossbeam_channel.specs.Fifo.{Pushes, Pops, Forks}
use Rattle.atomic_table.proofs.Lists.{at_set, at_snoc}
use Rattle.receipts.specs.Topics.{Topic, no_topic}
use Rattle.receipts.specs.declared.rule.Answer.{Answer}
use Rattle.receipts.specs.declared.rule.About.{About}
use Rattle.receipts.specs.About.{told_by, known_by, about, unbound, after_sending, after_receipt, Fits, IsOfOne}

-- an empty list has nothing anywhere
at_none : {A : Type 0} (k : ℕ) (x : A) → get_elem? [] k ≢ some x
at_none k x e = some-ne-none x (sym e)

-- what a list of one has is that one
first_only : (a b : About) (j : ℕ) → get_elem? (a ∷ []) j ≡ some b → a ≡ b
first_only a b zero e = some-injective a b e
first_only a b (suc j) e = absurd (some-ne-none b (sym e))

-- a new channel is empty, and has one pass, which is not bound
pub begins : IsOfOne [] (unbound ∷ [])
begins = record {
  of = no_topic;
  all = λ k x e. absurd (at_none k x e);
  each = λ j v e. let same : unbound ≡ v = first_only unbound v j e in
      subst (λ (u : About). Fits [] (unbound ∷ []) no_topic u) same ((λ is_bound. absurd (true≢false (sym is_bound))), (λ is_free. (refl, refl)));
}

-- two places of a list of one are the same
only : (l : List About) (i j : ℕ) (a b : About) → length l ≡ 1 → get_elem? l i ≡ some a → get_elem? l j ≡ some b → i ≡ j
only [] i j a b n p q = absurd (at_none i a p)
only (x ∷ []) zero zero a b n p q = refl
only (x ∷ []) zero (suc j) a b n p q = absurd (at_none j b q)
only (x ∷ []) (suc i) j a b n p q = absurd (at_none i a p)
only (x ∷ y ∷ ys) i j a b n p q = absurd (omega arith)

-- a pass that is bound to a topic knows it
bound_fits : (items : List Answer) (views : List About) (e : Topic) → Fits items views e (about e)
bound_fits items views e = ((λ is_bound. refl), (λ is_free. absurd (true≢false is_free)))

-- the one pass is bound, and a second one is made that is bound too
pub binds : (port : ℕ) (v : About) (e : Topic) → v.bound ≡ false → Forks IsOfOne port v (about e) (about e)
binds port v e is_free items views h at =
    let alone = (h.each port v at).1 is_free in
    let vs : List About = set views port (about e) ++ about e ∷ [] in
    let one : (j : ℕ) (u : About) → get_elem? views j ≡ some u → j ≡ port = λ j u there. only views j port u v alone.1 there at in record {
      of = e;
      all = λ k x there. absurd (at_none k x (subst (λ (l : List Answer). get_elem? l k ≡ some x) alone.0 there));
      each = λ j u there. ⊎_elim
          (λ t. ⊎_elim
          (λ (s : (j ≡ port) × (about e ≡ u)). subst (Fits items vs e) s.1 (bound_fits items vs e))
          (λ (s : (j ≢ port) × (get_elem? views j ≡ some u)). absurd (s.0 (one j u s.1)))
          (at_set views port j (about e) u t))
          (λ (same : about e ≡ u). subst (Fits items vs e) same (bound_fits items vs e))
          (at_snoc (set views port (about e)) (about e) u j there);
    }

-- where one pass is bound, each is
no_unbound : (views : List About) (items : List Answer) (e : Topic) (port j : ℕ) (v u : About)
    → v.bound ≡ true → get_elem? views port ≡ some v → get_elem? views j ≡ some u → Fits items views e u → u.bound ≡ false → ⊥
no_unbound views items e port j v u is_bound at there f is_free =
    let here : j ≡ port = only views j port u v (f.1 is_free).1 there at in
    let same : u ≡ v = some-injective u v (sym there ∙ (ap (λ k. get_elem? views k) here ∙ at)) in
    true≢false (sym is_bound ∙ (ap (λ (a : About). a.bound) (sym same) ∙ is_free))

-- where a bound pass moves an answer, and knows the same topic then, each pass fits as before
stays : (views : List About) (items more : List Answer) (e : Topic) (port : ℕ) (v w : About)
    → v.bound ≡ true → w.bound ≡ true → known_by w ≡ known_by v → get_elem? views port ≡ some v
    → ((j : ℕ) (u : About) → get_elem? views j ≡ some u → Fits items views e u)
    → (j : ℕ) (u : About) → get_elem? (set views port w) j ≡ some u → Fits more (set views port w) e u
stays views items more e port v w is_bound stays_bound same at each j u there = ⊎_elim
    (λ (t : (j ≡ port) × (w ≡ u)). subst (λ (a : About). Fits more (set views port w) e a) t.1
    ((λ _. same ∙ (each port v at).0 is_bound), (λ is_free. absurd (true≢false (sym stays_bound ∙ is_free)))))
    (λ (t : (j ≢ port) × (get_elem? views j ≡ some u)).
    ((each j u t.1).0, (λ is_free. absurd (no_unbound views items e port j v u is_bound at t.1 (each j u t.1) is_free))))
    (at_set views port j w u there)

-- a bound pass sends an answer of what it knows
pub sends : (n port : ℕ) (v : About) (x : Answer)
    → v.bound ≡ true → told_by x ≡ known_by v → Pushes IsOfOne n port v x (λ w. (w ≡ after_sending v) × (told_by x ≡ known_by v))
sends n port v x is_bound is items views room h at =
    let mine = (h.each port v at).0 is_bound in (
      after_sending v,
      record {
        of = h.of;
        all = λ k y there. ⊎_elim (h.all k y) (λ (same : x ≡ y). subst (λ (z : Answer). told_by z ≡ h.of) same (is ∙ mine)) (at_snoc items x y k there);
        each = stays views items (items ++ x ∷ []) h.of port v (after_sending v) is_bound is_bound refl at h.each;
      },
      (refl, is),
    )

-- what a bound pass receives is an answer of what it knows
pub receives : (port : ℕ) (v : About)
    → v.bound ≡ true → Pops IsOfOne port v (λ x w. (w ≡ after_receipt v) × (told_by x ≡ known_by v))
receives port v is_bound x items views h at =
    let mine = (h.each port v at).0 is_bound in (
      after_receipt v,
      record {
        of = h.of;
        all = λ k y there. h.all (suc k) y there;
        each = stays views (x ∷ items) items h.of port v (after_receipt v) is_bound is_bound refl at h.each;
      },
      (refl, h.all 0 x refl ∙ sym mine),
    )
