use Rattle.std.proofs.Common.{◌≡◌, ◌∙◌, ℕ, List, length, map, ap, subst, arith}
use Rattle.std.proofs.lemmas.List.{length-map}
use Rattle.board.specs.declared.entry.Entry.{Entry}
use Rattle.board_keeper.specs.Keeping.{Keeping}
use Rattle.relay_board.specs.Seating.{AllFresh, Seating}
use Rattle.genedit_serve.proofs.KeptLaws.{as_many_edits, kept_order, kept_seats}
use Rattle.genedit_serve.proofs.kept.made_ready.Goals as goal

pub returns-in-Ok-opened_log-clause-seats : goal.returns-in-Ok-opened_log-clause-seats
returns-in-Ok-opened_log-clause-seats g c =
    let l = c.in-Ok-load_board.ensures.loaded in
    let seats : List Seating = c.in-Ok.named.1.items in
    let fresh : AllFresh c.args.opened.first c.args.opened.rule 64 0 seats = subst (λ (room : ℕ). AllFresh c.args.opened.first c.args.opened.rule room 0 seats) c.requires.room c.in-Ok.ensures.seats.0 in
    kept_seats c.args.opened.first c.args.opened.rule c.args.opened.count l.0 seats c.in-Ok-load_board.loaded.seats.seats.items c.in-Ok-load_board.loaded.seats.file fresh c.in-Ok.ensures.seats.1 l.2
    c.in-Ok-load_board.loaded.relay.list l.1.mine l.1.rise l.1.counters

pub returns-in-Ok-opened_log-clause-order : goal.returns-in-Ok-opened_log-clause-order
returns-in-Ok-opened_log-clause-order g c =
    let l = c.in-Ok-load_board.ensures.loaded in
    let seats : List Seating = c.in-Ok.named.1.items in
    let fresh : AllFresh c.args.opened.first c.args.opened.rule 64 0 seats = subst (λ (room : ℕ). AllFresh c.args.opened.first c.args.opened.rule room 0 seats) c.requires.room c.in-Ok.ensures.seats.0 in
    kept_order c.args.opened.first c.args.opened.rule c.args.opened.count l.0 seats c.in-Ok-load_board.loaded.seats.seats.items c.in-Ok-load_board.loaded.seats.file fresh c.in-Ok.ensures.seats.1 l.2
    c.new-keeper.result.relay.made (ap (λ (k : Keeping). k.relay.made) c.new-keeper.ensures ∙ (c.in-Ok-load_board.ensures.same.made ∙ c.in-Ok.ensures.relay.3))

pub returns-in-Ok-opened_log-clause-edits : goal.returns-in-Ok-opened_log-clause-edits
returns-in-Ok-opened_log-clause-edits g c =
    let l = c.in-Ok-load_board.ensures.loaded in
    let list : List Entry = c.in-Ok-load_board.loaded.relay.list in
    let many : length list ≡ length c.deref.result.now = as_many_edits c.args.file.rule list (map (λ v. v.items) c.deref.result.now) l.1.are ∙ length-map c.deref.result.now (λ v. v.items) in
    let mine : length c.in-Ok-load_board.loaded.seats.file.mine ≡ length list = ap length l.1.mine in
    omega (arith, many, mine, c.len-edits.ensures, c.deref.ensures.len, ap length c.deref.ensures.value)
