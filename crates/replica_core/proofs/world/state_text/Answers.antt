use Rattle.std.proofs.Common.{◌∙◌, length, refl, subst, sym}
use Rattle.std.proofs.lemmas.Option.{slice_get_read, slice_get_within}
use Rattle.replica_core.specs.World.{IsStateOf}
use Rattle.replica_core.proofs.SideBySide.{some_is}
use Rattle.replica_core.proofs.world.state_text.Goals as goal

pub returns : goal.returns
returns c =
    let is = c.requires c.in-Some.place c.in-Some.is in
    let here = slice_get_read c.args.messages.now (length c.args.messages.now) c.in-Some.place c.in-Some-get.message.now refl
    (slice_get_within c.args.messages.now c.in-Some.place is.text is.there) c.in-Some-get.ensures.lookup.1 in
    subst (IsStateOf c.args.replica.now)
    (some_is (sym is.there ∙ here) ∙ sym c.as_slice.ensures ∙ sym (c.in_ok-text.ensures.items_if_clones_equal (λ x y h. h))) is.state
