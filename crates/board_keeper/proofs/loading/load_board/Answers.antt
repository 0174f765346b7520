use Rattle.std.proofs.Common.{◌≡◌, ◌<◌, [], ℕ, List, get_or, length, map, ap, subst, sym, ◌∙◌, arith}
use Rattle.relay_board.specs.Seating.{AllFresh, IsSame, Seating}
use Rattle.board_keeper.specs.Loading.{raised}
use Rattle.board_keeper.proofs.Loads.{all_changed, fresh_each, fresh_last}
use Rattle.board_keeper.proofs.loading.load_board.Goals as goal

pub of-file-requires : goal.of-file-requires
of-file-requires g c =
    let f = c.requires.fresh in
    (fresh_last f.0 f.1 f.2 0 c.pop.new.self.items c.in-Some.last (subst (AllFresh f.0 f.1 f.2 0) c.in-Some.ensures.items f.3)).0

pub load-requires-clause-mine : goal.load-requires-clause-mine
load-requires-clause-mine g c =
    let f = c.requires.fresh in
    ap (λ (s : Seating). s.mine) c.of-file.ensures ∙ (fresh_last f.0 f.1 f.2 0 c.pop.new.self.items c.in-Some.last (subst (AllFresh f.0 f.1 f.2 0) c.in-Some.ensures.items f.3)).1

pub raise_all-requires : goal.raise_all-requires
raise_all-requires g c =
    let f = c.requires.fresh in
    subst (λ (xs : List Seating). (k : ℕ) (d : Seating) → k < length xs → (get_or xs k d).mine ≡ []) (sym c.deref_mut.ensures.value)
    (fresh_each f.0 f.1 f.2 0 c.pop.new.self.items c.in-Some.last (subst (AllFresh f.0 f.1 f.2 0) c.in-Some.ensures.items f.3))

pub returns-in-Ok-clause-loaded : goal.returns-in-Ok-clause-loaded
returns-in-Ok-clause-loaded g c =
    let raise = c.raise_all.ensures ∙ ap (λ (l : List Seating). map (raised c.in-Ok.newest) l) c.deref_mut.ensures.value in (
      c.in-Ok.newest,
      c.in-Ok.ensures.loaded,
      record {
        first = c.pop.new.self.items;
        last = c.in-Some.last;
        all = c.in-Some.ensures.items;
        raised = all_changed (raised c.in-Ok.newest) c.pop.new.self.items c.raise_all.new.seats c.pop.new.self.len raise (omega (arith, c.pop.new.self.ok));
        same = subst (λ (s : Seating). IsSame s c.load.new.file) c.of-file.ensures c.in-Ok.ensures.same.1;
      },
    )
