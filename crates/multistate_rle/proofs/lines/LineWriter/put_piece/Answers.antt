use Rattle.std.proofs.Common.{◌≡◌, ◌∙◌, ◌+◌, ◌++◌, length, length-append, ap, sym, append_assoc}
use Rattle.multistate_rle.specs.Letters.{letters_text}
use Rattle.multistate_rle.proofs.FillLemmas.{piece_written}
use Rattle.multistate_rle.proofs.lines.LineWriter.put_piece.Goals as goal

pub returns : goal.returns
returns c =
    let digits = c.args.digits.now in
    let letters = letters_text c.args.letters in
    let long : length (c.args.digits.now ++ letters_text c.args.letters) ≡ length c.args.digits.now + c.len.result = length-append digits letters ∙ (λ i. length digits + sym c.len.ensures i) in
    piece_written c.args.self.now _ (digits ++ letters) (length digits + c.len.result) long
    (c.push_letters.ensures
    ∙ ap (λ front. front ++ letters) (c.in_ok-extend_from_slice.ensures.items ∙ ap (λ items. items ++ digits) c.in_ok-make_room.ensures.text)
    ∙ append_assoc _ digits letters)
    (ap (λ used. used + (length digits + c.len.result)) c.in_ok-make_room.ensures.used) c.in_ok-make_room.ensures.two_states
