use Rattle.std.proofs.Common.{◌≡◌, ℕ, ◌+◌, ◌-◌, ◌≤◌, List, [], ◌++◌, length, take, drop, sym, ◌∙◌, ap, arith, rules, append-nil, length-drop}
use Rattle.std.proofs.Math.Seq.{drop-append-add}
use Rattle.std.proofs.lemmas.List.{take_all}
use Rattle.web_streams.proofs.frame.FrameInHand.next.Goals as goal

-- past the length stands the body alone
past_size : (size body : List ℕ) (given : ℕ) → length size ≡ 4 → 4 ≤ given → drop given (size ++ body) ≡ take (length body - (given - 4)) (drop (given - 4) body) ++ []
past_size size body given four past =
    let at : given ≡ length size + (given - 4) = omega arith in
    ap (λ n. drop n (size ++ body)) at ∙ drop-append-add size body (given - 4)
    ∙ sym (append-nil (take (length body - (given - 4)) (drop (given - 4) body)) ∙ take_all (length body - (given - 4)) (drop (given - 4) body) (omega (arith, length-drop (given - 4) body)))

pub returns-else-self-lt-LENGTH-clause-front : goal.returns-else-self-lt-LENGTH-clause-front
returns-else-self-lt-LENGTH-clause-front c =
    ([], rw c.as_slice.ensures (past_size c.args.self.now.size c.args.self.now.body c.args.self.now.given (search rules) c.if-self-lt-LENGTH.false))
