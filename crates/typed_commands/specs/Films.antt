-- What films are of.
use Rattle.client_commands.specs.declared.film.Film.{Film}
use Rattle.told_generations.specs.declared.film_form.FilmPlan.{FilmPlan}
use Rattle.told_generations.specs.FilmTexts.{form_of}

-- its generations, in the form of which its files' name is
abbrev pub plan_of : Film → FilmPlan
plan_of film = record { range = film.range; form = form_of film.files.name }
