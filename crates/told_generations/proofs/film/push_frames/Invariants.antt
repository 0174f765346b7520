use Rattle.std.specs.Prelude.{IfSome}
use Rattle.stamped_tree.specs.Plane.{map_of}
use Rattle.generation_engine.specs.Universe.{states_in_writes}
use Rattle.export.specs.Kept.{IsListedOf, IsRunOf}
use Rattle.told_generations.proofs.FilmLaws.{TakesFirst}
use Rattle.told_generations.proofs.film.push_frames.Given as goal

abbrev pub invariant-loop-frame : goal.invariant-loop-frame
invariant-loop-frame g l =
    let frames = g.A.Album.frames in
    record {
      listed : IfSome l.reel.listed (IsListedOf l.replica.rule (states_in_writes (map_of l.replica.plane)));
      universe : IfSome l.reel.universe (IsRunOf l.replica.rule (states_in_writes (map_of l.replica.plane)));
      taken : TakesFirst l.plan l.replica.rule (states_in_writes (map_of l.replica.plane)) l.frame (frames l.fn.album) (frames l.album) l.fn.out.items l.out.items;
    }
