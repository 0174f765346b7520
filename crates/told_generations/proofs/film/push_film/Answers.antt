use Rattle.stamped_tree.specs.Plane.{map_of}
use Rattle.std.proofs.Common.{refl}
use Rattle.generation_engine.specs.Universe.{states_in_writes}
use Rattle.told_generations.proofs.FilmLaws.{film_unbegun, on_err_so}
use Rattle.told_generations.proofs.film.push_film.Goals as goal

pub returns-then-last_generation-gt-LAST_GENERATION-clause-broken : goal.returns-then-last_generation-gt-LAST_GENERATION-clause-broken
returns-then-last_generation-gt-LAST_GENERATION-clause-broken g c =
    let frames = g.A.Album.frames c.args.album.now in
    on_err_so c.push_refusal.result _ _
    (λ part. film_unbegun c.args.plan c.args.replica.now.rule (states_in_writes (map_of c.args.replica.now.plane)) frames frames c.args.out.now.items c.push_refusal.new.out.items refl part)
    c.push_refusal.ensures.kept
