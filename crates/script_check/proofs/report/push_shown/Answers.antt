use Rattle.std.proofs.Common.{◌≡◌, ◌∙◌, ◌++◌, [], ◌∷◌, ap, append_assoc, arith, min, map, take, length, List, ℕ}
use Rattle.std.proofs.lemmas.List.{length-take, take_min}
use Rattle.script_check.specs.Shown.{shown_byte, shown_line}
use Rattle.script_check.proofs.report.push_shown.Goals as goal

pub returns : goal.returns
returns c =
    let line = c.args.line.now in
    let before = c.loop-byte-test.false in
    let within = c.loop-byte.auto.byte-index-end in
    let least = c.min.ensures in
    let end : c.loop-byte.byte-index ≡ min 100 (length line) = omega (arith, before, within, least, length-take c.min.result line) in
    let all : take c.loop-byte.byte-index line ≡ take 100 line = ap (λ (i : ℕ). take i line) end ∙ take_min 100 line in
    c.in_ok-push-2.ensures.items
    ∙ ap (λ (t : List ℕ). t ++ 10 ∷ []) c.loop-byte.invariant
    ∙ ap (λ (t : List ℕ). (c.args.out.now.items ++ map shown_byte t) ++ 10 ∷ []) all
    ∙ append_assoc c.args.out.now.items (shown_line line) (10 ∷ [])
