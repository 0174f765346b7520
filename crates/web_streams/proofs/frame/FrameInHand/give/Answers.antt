use Rattle.std.proofs.Common.{◌≡◌, ℕ, ◌+◌, ◌≤◌, List, ◌++◌, length, take, drop, sym, ◌∙◌, ap, arith, take-append-drop}
use Rattle.std.proofs.lemmas.List.{take-append-le}
use Rattle.tungstenite.proofs.SocketLemmas.{drop-drop}
use Rattle.web_streams.proofs.frame.FrameInHand.give.Goals as goal

-- what is copied from the front is gone
handed : (all : List ℕ) (given count : ℕ) (left more piece : List ℕ) → drop given all ≡ left ++ more → count ≤ length left → take count piece ≡ take count left
    → drop given all ≡ take count piece ++ drop (given + count) all
handed all given count left more piece rest short same =
    let front : take count (drop given all) ≡ take count piece = ap (λ xs. take count xs) rest ∙ take-append-le count left more short ∙ sym same in
    sym (take-append-drop count (drop given all)) ∙ ap (λ xs. xs ++ drop count (drop given all)) front ∙ ap (λ xs. take count piece ++ xs) (drop-drop given count all)

pub returns-clause-given : goal.returns-clause-given
returns-clause-given c = handed _ _ c.copied-count.result c.next.result.now c.next.ensures.front.0 c.copied-count.new.piece c.next.ensures.front.1 (omega arith) c.copied-count.ensures.same
