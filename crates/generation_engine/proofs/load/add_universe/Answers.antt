use Rattle.std.proofs.Common.{ap, subst, refl, Err}
use Rattle.square_store.specs.Pieces.{AddsPiecesOfGrid}
use Rattle.square_store.specs.Store.{IsAbsent}
use Rattle.square_store.proofs.Made.{told}
use Rattle.stamped_tree.specs.PlaneSquare.{PlaneSquare}
use Rattle.generation_engine.specs.EngineLeaf.{leaf_grid}
use Rattle.generation_engine.specs.Loading.{IsBrought, states_of_square}
use Rattle.generation_engine.proofs.Pieces.{grown_itself, small_plane, small_whole, small_wider}
use Rattle.generation_engine.proofs.load.add_universe.Goals as goal

pub returns-in_err-middle-clause-small : goal.returns-in_err-middle-clause-small
returns-in_err-middle-clause-small c =
    λ h is one. small_plane c.args.plane.now c.args.target.now c.bring.new.target c.bring.new.target c.bring.new.target 0 0 c.requires (grown_itself c.bring.new.target) (grown_itself c.bring.new.target)
    (subst (λ (q : PlaneSquare). AddsPiecesOfGrid leaf_grid 8 c.args.target.now c.bring.new.target 28 (states_of_square q.store 28 q.part)) c.root.ensures.square c.in_err-middle.ensures.pieces)
    refl refl is one (c.in_err-middle.ensures.full (ap (λ e. Err e) (told _ _ _ c.from_residual.ensures.1 h)))
    (subst (λ (q : PlaneSquare). IsAbsent leaf_grid 8 c.bring.new.target 28 (states_of_square q.store 28 q.part)) c.root.ensures.square (c.in_err-middle.ensures.absent (ap (λ e. Err e) (told _ _ _ c.from_residual.ensures.1 h)) is))

pub returns-in_err-wider-clause-small : goal.returns-in_err-wider-clause-small
returns-in_err-wider-clause-small c =
    λ h is one. small_wider c.args.plane.now c.args.target.now c.bring.new.target c.padded.new.store c.padded.new.store c.in_ok-middle.middle 0 c.requires c.in_err-wider.ensures.grows (grown_itself c.padded.new.store)
    (subst (λ (q : PlaneSquare). AddsPiecesOfGrid leaf_grid 8 c.args.target.now c.bring.new.target 28 (states_of_square q.store 28 q.part)) c.root.ensures.square c.in_ok-middle.ensures.pieces)
    ((subst (λ (q : PlaneSquare). IsBrought q.store c.bring.new.target q.part c.in_ok-middle.middle) c.root.ensures.square c.in_ok-middle.ensures.part).draws 28 c.root.ensures.level)
    c.in_err-wider.ensures.pieces refl is one (c.in_err-wider.ensures.full (ap (λ e. Err e) (told _ _ _ c.from_residual-in_err-wider.ensures.1 h))) (c.in_err-wider.ensures.absent (ap (λ e. Err e) (told _ _ _ c.from_residual-in_err-wider.ensures.1 h)) is)

pub returns-in_err-root-clause-small : goal.returns-in_err-root-clause-small
returns-in_err-root-clause-small c =
    λ h is one. small_whole c.args.plane.now c.args.target.now c.bring.new.target c.padded.new.store c.padded-2.new.store c.in_ok-middle.middle c.in_ok-wider.wider c.requires c.in_ok-wider.ensures.grows c.in_err-root.ensures.grows
    (subst (λ (q : PlaneSquare). AddsPiecesOfGrid leaf_grid 8 c.args.target.now c.bring.new.target 28 (states_of_square q.store 28 q.part)) c.root.ensures.square c.in_ok-middle.ensures.pieces)
    ((subst (λ (q : PlaneSquare). IsBrought q.store c.bring.new.target q.part c.in_ok-middle.middle) c.root.ensures.square c.in_ok-middle.ensures.part).draws 28 c.root.ensures.level)
    c.in_ok-wider.ensures.pieces c.in_ok-wider.ensures.draws c.in_err-root.ensures.pieces is one (c.in_err-root.ensures.full (ap (λ e. Err e) (told _ _ _ c.from_residual-in_err-root.ensures.1 h))) (c.in_err-root.ensures.absent (ap (λ e. Err e) (told _ _ _ c.from_residual-in_err-root.ensures.1 h)) is)

pub returns-in_err-wider-clause-firsts : goal.returns-in_err-wider-clause-firsts
returns-in_err-wider-clause-firsts c = λ p x e. c.in_ok-middle.ensures.firsts p x (c.in_err-wider.ensures.firsts p x e)

pub returns-in_err-root-clause-firsts : goal.returns-in_err-root-clause-firsts
returns-in_err-root-clause-firsts c = λ p x e. c.in_ok-middle.ensures.firsts p x (c.in_ok-wider.ensures.firsts p x (c.in_err-root.ensures.firsts p x e))

pub returns-clause-firsts : goal.returns-clause-firsts
returns-clause-firsts c = λ p x e. c.in_ok-middle.ensures.firsts p x (c.in_ok-wider.ensures.firsts p x (c.in_ok-root.ensures.firsts p x e))
