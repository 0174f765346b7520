use Rattle.std.proofs.Common.{◌≡◌, ◌∙◌, ◌+◌, ◌∷◌, [], ◌++◌, length, ap, sym, arith, append_assoc}
use Rattle.multistate_rle.specs.Letters.{letters_text}
use Rattle.multistate_rle.specs.Writing.{spelling}
use Rattle.multistate_rle.proofs.FillLemmas.{short_count, short_longer}
use Rattle.multistate_rle.proofs.lines.push_short.Goals as goal

pub push_letters-requires-2 : goal.push_letters-requires-2
push_letters-requires-2 c =
    let long : length (spelling c.args.count c.args.letters) ≡ 1 + length (letters_text c.args.letters) = short_longer c.args.count c.args.letters c.requires.count (sym c.if-is_left_out.ensures) in
    rw (c.push_reserved.ensures.len, c.push_reserved.ensures.capacity) (omega (arith, long, c.requires.room))

pub returns : goal.returns
returns c =
    let items = c.args.text.now.items in
    let letters = letters_text c.args.letters in
    c.push_letters-2.ensures
    ∙ ap (λ front. front ++ letters) c.push_reserved.ensures.items
    ∙ append_assoc items ((48 + c.args.count) ∷ []) letters
    ∙ ap (λ count. items ++ (count ++ letters)) (sym (short_count c.args.count c.requires.count (sym c.if-is_left_out.ensures)))
