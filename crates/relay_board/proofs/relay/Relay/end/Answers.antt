use Rattle.std.proofs.Common.{◌≡◌, ◌<◌, ◌++◌, List, [], length, map, sym, ap, ◌∙◌, subst}
use Rattle.std.proofs.lemmas.List.{append-nil}
use Rattle.board.specs.declared.entry.Entry.{Entry}
use Rattle.board.specs.Entries.{edits_of}
use Rattle.board.specs.Origins.{list_of, origin}
use Rattle.board.specs.Showing.{Origin}
use mathlib.Core.List.{IsPrefix}
use Rattle.edit_stamps.specs.Edit.{HaveStatesBelow}
use Rattle.edit_stamps.specs.PlaneMap.{HasStatesBelow}
use Rattle.stamped_tree.specs.Plane.{map_of}
use Rattle.inbox.specs.Settled.{HasAsMany, IsOf}
use Rattle.relay_board.specs.Relaying.{Relaying}
use Rattle.relay_board.specs.Seating.{Seating, mines_of, BeginsWithAll}
use Rattle.relay_board.specs.Closing.{AreCountable}
use Rattle.relay_board.proofs.relay.Relay.end.Goals as goal

pub closing-requires-clause-countable : goal.closing-requires-clause-countable
closing-requires-clause-countable g c = subst (λ (ss : List Seating). AreCountable (mines_of ss)) (sym c.as_slice.ensures.value) c.requires.countable

pub returns-in-Err-clause-unseen : goal.returns-in-Err-clause-unseen
returns-in-Err-clause-unseen g c h begun =
    c.in-Err.ensures.closed h (subst (λ (ss : List Seating). BeginsWithAll c.args.self.list ss) (sym c.as_slice.ensures.value) begun)

-- nothing is kept, so what was taken is the list
out_is : (a : Relaying) → a.out ≡ a.list ++ a.kept → a.kept ≡ [] → a.out ≡ a.list
out_is a out none = out ∙ (ap (λ (l : List Entry). a.list ++ l) none ∙ append-nil a.list)

pub retired-requires-clause-many : goal.retired-requires-clause-many
retired-requires-clause-many g c =
    subst (λ (l : List Entry). HasAsMany l (mines_of c.args.seats.items)) (sym (out_is c.args.self c.has_published_all-all.ensures.out c.requires.kept)) c.requires.many

pub returns-in-Ok-clause-whole : goal.returns-in-Ok-clause-whole
returns-in-Ok-clause-whole g c =
    let list : list_of c.in-Ok.account.front ≡ c.args.self.list = c.in-Ok.ensures.list in
    let out : c.args.self.out ≡ c.args.self.list = out_is c.args.self c.has_published_all-all.ensures.out c.requires.kept in
    let of : origin c.in-Ok.account.front ≡ c.args.self.origin = c.in-Ok.ensures.of in
    let seats = c.as_slice.ensures.value in record {
      of = of;
      below = subst (λ (o : Origin). HaveStatesBelow o.states (edits_of (list_of c.in-Ok.account.front))) of c.in-Ok.ensures.below;
      states = subst (λ (o : Origin). 0 < o.states → HasStatesBelow o.states (map_of c.in-Ok.account.plane)) of c.in-Ok.ensures.states;
      goes_on = subst (λ (l : List Entry). IsPrefix c.args.self.list l) (sym list) ([], append-nil c.args.self.list);
      seen = subst (λ (ss : List Seating). BeginsWithAll (list_of c.in-Ok.account.front) ss) seats c.in-Ok.ensures.seen;
      whole = subst (λ (l : List Entry). IsOf l (mines_of c.args.seats.items)) (out ∙ sym list) c.retired.ensures;
      account = c.in-Ok.ensures.account;
      accepted = c.in-Ok.ensures.accepted ∙ ap (map (λ (s : Seating). length s.mine)) seats;
    }
