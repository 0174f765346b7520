use Rattle.std.proofs.Common.{◌∙◌, ◌∷◌, ap, List, map}
use Rattle.std.specs.Option.{option_to_list}
use Rattle.genedit_lib.specs.Output.{OutputLine}
use Rattle.genedit_lib.specs.Plan.{line_of}
use Rattle.genedit_script.specs.Script.{NumberedLine, lines_from}
use Rattle.script_faults.specs.declared.note.Place.{Place}
use Rattle.script_check.specs.Check.{refusals_among}
use Rattle.script_check.proofs.CheckLemmas.{no_more, one_more_told}
use Rattle.script_check.proofs.refusals.refused.Goals as goal

pub returns-in_default-refusal_at : goal.returns-in_default-refusal_at
returns-in_default-refusal_at c =
    let all : List NumberedLine = lines_from c.args.script.number c.args.script.rest.now in
    let printed : List OutputLine = map line_of c.loop-place.lines.now in
    let place = c.in-Some.place.now in
    no_more c.loop-place.refusals.items (refusals_among all c.loop-place.places.now printed c.loop-place.replies.now) _
    (ap (λ (places : List Place). refusals_among all places printed c.loop-place.replies.now) c.in-Some.ensures.cases.0
    ∙ ap (λ lines. refusals_among all (place ∷ c.in-Some.more_places.now) (map line_of lines) c.loop-place.replies.now) c.in-Some-split_first.ensures.cases.0
    ∙ c.in_default-refusal_at.ensures c.in-Some.more_places.now (map line_of c.in-Some-split_first.more_lines.now))
    c.loop-place.invariant

pub loop-place-preserved : goal.loop-place-preserved
loop-place-preserved c =
    let all : List NumberedLine = lines_from c.args.script.number c.args.script.rest.now in
    let printed : List OutputLine = map line_of c.loop-place.lines.now in
    let place = c.in-Some.place.now in
    one_more_told c.loop-place.refusals.items (option_to_list c.in-Some-refusal_at.refusal)
    (refusals_among all c.in-Some.more_places.now (map line_of c.in-Some-split_first.more_lines.now) c.in-Some-refusal_at.more_replies.now)
    (refusals_among all c.loop-place.places.now printed c.loop-place.replies.now) _ c.push_told.new.refusals.items
    c.in_ok-push_told.ensures
    (ap (λ (places : List Place). refusals_among all places printed c.loop-place.replies.now) c.in-Some.ensures.cases.0
    ∙ ap (λ lines. refusals_among all (place ∷ c.in-Some.more_places.now) (map line_of lines) c.loop-place.replies.now) c.in-Some-split_first.ensures.cases.0
    ∙ c.in-Some-refusal_at.ensures c.in-Some.more_places.now (map line_of c.in-Some-split_first.more_lines.now))
    c.loop-place.invariant
