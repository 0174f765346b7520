use Rattle.std.proofs.Common.{◌≡◌, ℕ, ◌∷◌, List, [], ◌++◌, length, refl, sym, ◌∙◌, eq-eqb}
use borrow.Author.Tests.{eqb-true}
use Rattle.web_streams.proofs.frame.FrameInHand.is_given.Goals as goal

nothing_before : (front more : List ℕ) → front ++ more ≡ [] → length front ≡ 0
nothing_before [] more is = refl
nothing_before (b ∷ front) more is = absurd (cc is)

pub returns : goal.returns
returns c = (
  λ empty. c.next.ensures.none (eqb-true _ _ (sym c.is_empty.ensures ∙ empty)),
  λ given. c.is_empty.ensures ∙ eq-eqb _ 0 (nothing_before c.next.result.now c.next.ensures.front.0 (sym c.next.ensures.front.1 ∙ given)),
)
