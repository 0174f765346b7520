-- Texts added to a sink one behind another.
use Rattle.std.proofs.Common.{◌≡◌, ℕ, ◌+◌, List, [], ◌++◌, Ok, Err, refl, ap, subst, ◌∙◌, add-one}
use Rattle.std.specs.Prelude.{Result}
use Rattle.devices.specs.Count.{one_more}
use Rattle.std.proofs.KnownBytes.{Appends-nil, Appends-trans}
use Rattle.devices.specs.Sink.{KnownSink, IsPush}
use Rattle.cell_pictures.specs.Drawn.{IsAdded, IsDrawn}
use Rattle.cell_pictures.specs.Shown.{texts_below}

pub added_none : (s : KnownSink) → IsAdded s s []
added_none s = record { bytes = Appends-nil s.held; works = refl }

pub added_on : (a b c : KnownSink) (t u : List ℕ) → IsAdded a b t → IsAdded b c u → IsAdded a c (t ++ u)
added_on a b c t u p q = record { bytes = Appends-trans a.held b.held c.held t u p.bytes q.bytes; works = q.works ∙ p.works }

pub added_as : (a b : KnownSink) (t u : List ℕ) → t ≡ u → IsAdded a b t → IsAdded a b u
added_as a b t u same p = subst (IsAdded a b) same p

pub added_push : {A E : Type 0} (a b : KnownSink) (done : A) (t : List ℕ) → IsPush {A = A} {E = E} a b (Ok done) t → IsAdded a b t
added_push a b done t p = record { bytes = p.added; works = p.failures }

-- the text of one number more
pub text_more : (a b c : KnownSink) (n : ℕ) (text : ℕ → List ℕ) → IsAdded a b (texts_below n text) → IsAdded b c (text n) → IsAdded a c (texts_below (n + 1) text)
text_more a b c n text p q = rw add-one (added_on a b c (texts_below n text) (text n) p q)

-- one text, and then another
infixl 20 ◌⊕◌
pub ◌⊕◌ : {a b c : KnownSink} {t u : List ℕ} → IsAdded a b t → IsAdded b c u → IsAdded a c (t ++ u)
◌⊕◌ {a} {b} {c} {t} {u} p q = added_on a b c t u p q

-- a push that was made well
pub pushed : {A E : Type 0} {a b : KnownSink} {done : A} {t : List ℕ} → IsPush {A = A} {E = E} a b (Ok done) t → IsAdded a b t
pushed {a = a} {b = b} {done = done} {t = t} p = added_push a b done t p

-- a text, and then a last one, which may fail
pub drawn_on : {A E : Type 0} (a b c : KnownSink) (r : Result A E) (t u : List ℕ) → IsAdded a b t → IsDrawn b r u c → IsDrawn a r (t ++ u) c
drawn_on a b c (Ok x) t u p q = added_on a b c t u p q
drawn_on a b c (Err e) t u p q = q ∙ ap one_more p.works

pub drawn_as : {A E : Type 0} (a b : KnownSink) (r : Result A E) (t u : List ℕ) → t ≡ u → IsDrawn a r t b → IsDrawn a r u b
drawn_as a b r t u same p = subst (λ x. IsDrawn a r x b) same p

drawn_push : {A E : Type 0} (a b : KnownSink) (r : Result A E) (t : List ℕ) → IsPush a b r t → IsDrawn a r t b
drawn_push a b (Ok x) t p = added_push a b x t p
drawn_push a b (Err e) t p = p.failures

-- the last is a push
pub last_push : {A E : Type 0} {a b c : KnownSink} {r : Result A E} {t u : List ℕ} → IsAdded a b t → IsPush b c r u → IsDrawn a r (t ++ u) c
last_push {a = a} {b = b} {c = c} {r = r} {t = t} {u = u} p q = drawn_on a b c r t u p (drawn_push b c r u q)
