use Rattle.std.proofs.Common.{◌≡◌, ◌∙◌, Option, Some, Ok, codes, ap, sym, arith}
use Rattle.std.specs.Prelude.{Result, option_map}
use Rattle.clap.proofs.WalkLemmas.{first_value-rows}
use Rattle.clap.specs.Matches.{found_of}
use Rattle.clap.specs.Walk.{first_of, rows_of}
use Rattle.generations_rule.specs.Rule.{GenerationsRule}
use Rattle.genedit_words.specs.Told.{Serve, Served, or_misspelt, or_no_web, web_told}
use Rattle.genedit_words.specs.declared.misspelt.MisspeltRule.{MisspeltRule}
use Rattle.genedit_words.specs.declared.misspelt.MisspeltWeb.{MisspeltWeb}
use Rattle.genedit_words.specs.declared.task.WebTask.{WebTask}
use Rattle.genedit_words.specs.Words.{rule_if_given, web_asked}
use Rattle.genedit_words.proofs.TextLaws.{is_complete, is_ported, is_ruled, is_served, server_is}
use Rattle.genedit_words.proofs.words.serve.Goals as goal

pub returns-clause-asked : goal.returns-clause-asked
returns-clause-asked c =
    let rows = rows_of (found_of c.args.words.now) in
    let web = option_map web_told c.in_ok-web.web in
    let ruled : rule_if_given (first_of (codes "rule") rows) ≡ Ok c.in_ok-rule.rule =
    sym c.rule_if_given.ensures ∙ ap (λ (r : Result (Option GenerationsRule) MisspeltRule). or_misspelt r) c.in_ok-rule.was in
    let webbed : web_asked rows ≡ Ok web = sym c.web_if_given.ensures ∙ ap (λ (r : Result (Option WebTask) MisspeltWeb). or_no_web r) c.in_ok-web.was in
    let keep = c.get_str.ensures ∙ first_value-rows (found_of c.args.words.now) (codes "keep") in
    let same = is_served rows c.in_ok-rule.rule web c.number_if_given-port.result c.number_if_given.result c.number-sessions.result c.first_seat.result (option_map (λ s. s.now) c.get_str.result) c.is_set.result
    c.number_if_given-port.ensures.value c.first_seat.ensures.value keep c.is_set.ensures c.number_if_given.ensures.value in
    server_is rows c.number-sessions.result (Ok c.in_ok-rule.rule) (Ok web) c.requires.complete c.number-sessions.ensures.value ruled webbed ∙ ap (λ (server : Served). Some (Ok (Serve server))) same

pub returns-clause-range : goal.returns-clause-range
returns-clause-range c =
    let rows = rows_of (found_of c.args.words.now) in
    let complete = is_complete rows c.requires.complete in
    let ruled : rule_if_given (first_of (codes "rule") rows) ≡ Ok c.in_ok-rule.rule =
    sym c.rule_if_given.ensures ∙ ap (λ (r : Result (Option GenerationsRule) MisspeltRule). or_misspelt r) c.in_ok-rule.was in
    let webbed : web_asked rows ≡ Ok (option_map web_told c.in_ok-web.web) = sym c.web_if_given.ensures ∙ ap (λ (r : Result (Option WebTask) MisspeltWeb). or_no_web r) c.in_ok-web.was in
    let seats = c.number-sessions.ensures.within 1 64 (omega arith) c.requires.server.sessions in (
      is_ruled c.get_str.result rows c.in_ok-rule.rule complete (c.get_str.ensures ∙ first_value-rows (found_of c.args.words.now) (codes "keep")) ruled,
      seats.0,
      seats.1,
      c.first_seat.ensures.range.0,
      c.first_seat.ensures.range.1,
      is_ported rows c.number_if_given-port.result c.in_ok-web.web complete c.number_if_given-port.ensures.value webbed,
      c.number_if_given.ensures.within 1 1440 (omega arith) c.requires.server.until_idle,
    )
