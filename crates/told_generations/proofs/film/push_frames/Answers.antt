use Rattle.std.proofs.Common.{◌≡◌, ◌≤◌, ◌<◌, ◌+◌, ◌∙◌, ℕ, Ok, Err, ap, arith, refl, rules, subst, sym}
use Rattle.std.specs.Prelude.{IfSome, option_map}
use Rattle.std.specs.Global.{Vec}
use Rattle.std.proofs.lemmas.Result.{err_from_is_err_and}
use Rattle.square_store.specs.Limits.{usual_room}
use Rattle.stamped_tree.specs.Plane.{map_of}
use Rattle.generation_engine.specs.Universe.{states_in_writes}
use Rattle.command_words.specs.Ranges.{steps_of}
use Rattle.export.specs.Export.{IsRoomWanted}
use Rattle.export.specs.Kept.{IsListedOf, IsRunOf}
use Rattle.replica_core.specs.declared.event.Stop.{Stop}
use Rattle.told_generations.specs.declared.album.Put.{Put}
use Rattle.told_generations.specs.declared.album.Put.TheVariants.{Taken, Refused}
use Rattle.told_generations.specs.Films.{IsFrameTold}
use Rattle.told_generations.specs.FilmTexts.{IsFilmAnswer}
use Rattle.told_generations.proofs.FilmLaws.{TakesFirst, film_broken, film_left, film_whole, frame_broken, same_want, takes_more, takes_none, whole_part}
use Rattle.told_generations.proofs.OutcomeLaws.{on_err}
use Rattle.told_generations.proofs.film.push_frames.Goals as goal

pub loop-frame-init : goal.loop-frame-init
loop-frame-init g c =
    let states = states_in_writes (map_of c.args.replica.now.plane) in
    record {
      listed = subst (λ o. IfSome o (IsListedOf c.args.replica.now.rule states)) (sym c.new-reel.ensures.listed) tt;
      universe = subst (λ o. IfSome o (IsRunOf c.args.replica.now.rule states)) (sym c.new-reel.ensures.universe) tt;
      taken = takes_none c.args.plan c.args.replica.now.rule states (g.A.Album.frames c.args.album.now) c.args.out.now.items;
    }

pub returns-in_err-text-clause-broken : goal.returns-in_err-text-clause-broken
returns-in_err-text-clause-broken g c =
    let frames = g.A.Album.frames in
    let within : c.loop-frame.frame ≤ steps_of c.args.plan.range + 1 = omega (arith, c.loop-frame-test.true, c.from-frames.ensures, c.steps.ensures) in
    on_err c.from_residual.result _
    (film_broken c.args.plan c.args.replica.now.rule (states_in_writes (map_of c.args.replica.now.plane)) (frames c.args.album.now) (frames c.loop-frame.album) (frames c.loop-frame.album)
    c.args.out.now.items c.loop-frame.out.items c.loop-frame.out.items c.loop-frame.frame c.loop-frame.invariant.taken within refl (whole_part c.loop-frame.out.items))

pub returns-in_err-text-clause-full : goal.returns-in_err-text-clause-full
returns-in_err-text-clause-full g c = λ is. (
    let told = err_from_is_err_and c.from_residual.result c.from_residual.ensures.1 in
    let want = same_want c.from_residual.result _ _ (told.1 ∙ ap (λ (e : Stop). Err e) told.2) is in
    let full = c.in_err-text.ensures.full (ap Err want) in
    record {
      within = c.requires;
      steps = c.loop-frame.frame;
      one = omega (arith, c.loop-frame-test.true, c.from-frames.ensures, c.steps.ensures);
      wanted = subst (λ (g : ℕ). IsRoomWanted c.args.replica.now.rule c.args.replica.now.plane g usual_room) c.at-generation.ensures full;
    })

pub returns-in_err-push_frame-clause-broken : goal.returns-in_err-push_frame-clause-broken
returns-in_err-push_frame-clause-broken g c =
    let frames = g.A.Album.frames in
    let within : c.loop-frame.frame ≤ steps_of c.args.plan.range + 1 = omega (arith, c.loop-frame-test.true, c.from-frames.ensures, c.steps.ensures) in
    let left = frame_broken c.at-generation.result (option_map (λ (t : Vec ℕ). t.items) c.in_ok-text.text) (frames c.loop-frame.album) (frames c.push_frame.new.album) c.loop-frame.out.items c.push_frame.new.out.items _ c.in_err-push_frame.ensures.told in
    on_err c.from_residual-in_err-push_frame.result _
    (film_broken c.args.plan c.args.replica.now.rule (states_in_writes (map_of c.args.replica.now.plane)) (frames c.args.album.now) (frames c.loop-frame.album) (frames c.push_frame.new.album)
    c.args.out.now.items c.loop-frame.out.items c.push_frame.new.out.items c.loop-frame.frame c.loop-frame.invariant.taken within left.0 left.1)

pub returns-then-eq-clause-told : goal.returns-then-eq-clause-told
returns-then-eq-clause-told g c =
    let frames = g.A.Album.frames in
    let states = states_in_writes (map_of c.args.replica.now.plane) in
    let text = option_map (λ (t : Vec ℕ). t.items) c.in_ok-text.text in
    let next : c.loop-frame.frame < steps_of c.args.plan.range + 1 = omega (arith, c.loop-frame-test.true, c.from-frames.ensures, c.steps.ensures) in
    let answer = subst (λ (g : ℕ). IsFilmAnswer c.args.plan.form c.args.replica.now.rule states g text) c.at-generation.ensures c.in_ok-text.ensures.text in
    let put : c.in_ok-push_frame.field-0 ≡ Refused = search rules in
    let told = subst (λ (p : Put). IsFrameTold {E = Stop} c.at-generation.result text (frames c.loop-frame.album) (frames c.push_frame.new.album) c.loop-frame.out.items c.push_frame.new.out.items (Ok p)) put c.in_ok-push_frame.ensures.told in
    let here = subst (λ (g : ℕ). IsFrameTold {E = Stop} g text (frames c.loop-frame.album) (frames c.push_frame.new.album) c.loop-frame.out.items c.push_frame.new.out.items (Ok Refused)) c.at-generation.ensures told in
    film_left c.args.plan c.args.replica.now.rule states (frames c.args.album.now) (frames c.loop-frame.album) (frames c.push_frame.new.album)
    c.args.out.now.items c.loop-frame.out.items c.push_frame.new.out.items c.loop-frame.frame c.loop-frame.invariant.taken text c.requires next answer here

pub loop-frame-preserved : goal.loop-frame-preserved
loop-frame-preserved g c =
    let frames = g.A.Album.frames in
    let states = states_in_writes (map_of c.args.replica.now.plane) in
    let text = option_map (λ (t : Vec ℕ). t.items) c.in_ok-text.text in
    let answer = subst (λ (g : ℕ). IsFilmAnswer c.args.plan.form c.args.replica.now.rule states g text) c.at-generation.ensures c.in_ok-text.ensures.text in
    let put : c.in_ok-push_frame.field-0 ≡ Taken = search rules in
    let told = subst (λ (p : Put). IsFrameTold {E = Stop} c.at-generation.result text (frames c.loop-frame.album) (frames c.push_frame.new.album) c.loop-frame.out.items c.push_frame.new.out.items (Ok p)) put c.in_ok-push_frame.ensures.told in
    let here = subst (λ (g : ℕ). IsFrameTold {E = Stop} g text (frames c.loop-frame.album) (frames c.push_frame.new.album) c.loop-frame.out.items c.push_frame.new.out.items (Ok Taken)) c.at-generation.ensures told in
    record {
      listed = c.in_ok-text.ensures.listed;
      universe = c.in_ok-text.ensures.universe;
      taken =
          takes_more c.args.plan c.args.replica.now.rule states (frames c.args.album.now) (frames c.loop-frame.album) (frames c.push_frame.new.album)
          c.args.out.now.items c.loop-frame.out.items c.push_frame.new.out.items c.loop-frame.frame c.loop-frame.invariant.taken text answer here;
    }

pub returns-clause-told : goal.returns-clause-told
returns-clause-told g c =
    let frames = g.A.Album.frames in
    let states = states_in_writes (map_of c.args.replica.now.plane) in
    let all : c.loop-frame.frame ≡ steps_of c.args.plan.range + 1 = omega (arith, c.loop-frame-test.false, c.loop-frame.auto.frame-end, c.from-frames.ensures, c.steps.ensures) in
    film_whole c.args.plan c.args.replica.now.rule states (frames c.args.album.now) (frames c.loop-frame.album) c.args.out.now.items c.loop-frame.out.items c.requires
    (subst (λ (n : ℕ). TakesFirst c.args.plan c.args.replica.now.rule states n (frames c.args.album.now) (frames c.loop-frame.album) c.args.out.now.items c.loop-frame.out.items) all c.loop-frame.invariant.taken)
