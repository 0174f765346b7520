use Rattle.std.proofs.Common.{◌≡◌, ◌∙◌, ◌+◌, ◌++◌, length, length-append, ap, sym, arith}
use Rattle.multistate_rle.specs.Letters.{letters_text}
use Rattle.multistate_rle.specs.Writing.{spelling, count_text}
use Rattle.multistate_rle.proofs.FillLemmas.{piece_written}
use Rattle.multistate_rle.proofs.lines.LineWriter.put_short.Goals as goal

pub push_short-requires-clause-room : goal.push_short-requires-clause-room
push_short-requires-clause-room c =
    let long : length (spelling c.args.count c.args.letters) ≡ c.digits.result + c.len.result = length-append (count_text c.args.count) (letters_text c.args.letters) ∙ (λ i. sym c.digits.ensures.value i + sym c.len.ensures i) in
    omega (arith, long, c.in_ok-make_room.ensures.room)

pub returns : goal.returns
returns c =
    let long : length (spelling c.args.count c.args.letters) ≡ c.digits.result + c.len.result = length-append (count_text c.args.count) (letters_text c.args.letters) ∙ (λ i. sym c.digits.ensures.value i + sym c.len.ensures i) in
    piece_written c.args.self.now _ (spelling c.args.count c.args.letters) (c.digits.result + c.len.result) long
    (c.push_short.ensures ∙ ap (λ items. items ++ spelling c.args.count c.args.letters) c.in_ok-make_room.ensures.text)
    (ap (λ used. used + (c.digits.result + c.len.result)) c.in_ok-make_room.ensures.used) c.in_ok-make_room.ensures.two_states
