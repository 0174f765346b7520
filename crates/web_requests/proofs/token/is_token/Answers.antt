use Rattle.std.proofs.Common.{◌<◌, get_or, ap, arith, eq-eqb}
use borrow.Author.Tests.{eqb-true}
use Rattle.std.proofs.lemmas.Bool.Decides.{same_from_decides}
use Rattle.std.proofs.lemmas.Grind.{same_number_lists}
use Rattle.std.proofs.lemmas.Slice.Eq.{bytes_eq-Decides}
use Rattle.web_requests.proofs.token.is_token.Goals as goal

-- no difference was added at any place just where all places are alike
pub returns : goal.returns
returns c =
    same_from_decides _ _ (
      (λ test. same_number_lists c.args.given.now c.args.token.now (omega arith)
          (λ k within. let passed : k < c.loop-place.place = omega arith in c.loop-place.invariant.alike k passed (eqb-true _ _ test))),
      (λ same. eq-eqb c.loop-place.difference 0 (c.loop-place.invariant.apart (λ k _. ap (λ xs. get_or xs k 0) same))),
    )
    (bytes_eq-Decides _ _)
