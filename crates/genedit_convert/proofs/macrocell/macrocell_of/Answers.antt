use Rattle.std.proofs.Common.{◌≡◌, ◌∙◌, ℕ, ◌+◌, ◌<◌, ◌≤◌, ◌^◌, sym, ap, subst, List, inl, inr}
use Rattle.std.specs.Prelude.{◌⊎◌}
use Rattle.generations_rule.specs.Place.{Place}
use Rattle.generations_rule.specs.Evolution.{at}
use Rattle.generation_engine.specs.Universe.{states_of}
use Rattle.export.proofs.ExportLaws.{one_map}
use Rattle.genedit_view.specs.declared.fault.ViewFault.{ViewFault}
use Rattle.genedit_view.specs.Seeing.{IsNotSeen, IsWantAt}
use Rattle.genedit_view.specs.Universes.{universe_view}
use Rattle.genedit_view.proofs.SeenLaws.{at_end}
use Rattle.macrocell_lines.specs.Macrocell.{IsMacrocell}
use Rattle.genedit_convert.specs.declared.options.ConvertOptions.{ConvertOptions}
use Rattle.genedit_convert.specs.Converted.{asked, generation_of}
use Rattle.genedit_convert.specs.Macrocells.{IsNoMacrocell}
use Rattle.genedit_convert.proofs.macrocell.macrocell_of.Goals as goal

not_seen : (o : ConvertOptions) (count : ℕ) (text : List ℕ) (e : ViewFault) → count ≡ asked o.generation → IsNotSeen (universe_view o.rule count) text e ⊎ IsWantAt (universe_view o.rule count) text e
    → IsNoMacrocell o text e ⊎ IsWantAt (universe_view o.rule (asked o.generation)) text e
not_seen o count text e is (inl none) = inl (inl (subst (λ n. IsNotSeen (universe_view o.rule n) text e) is none))
not_seen o count text e is (inr want) = inr (subst (λ n. IsWantAt (universe_view o.rule n) text e) is want)

pub returns-in_err-seen-clause-fault : goal.returns-in_err-seen-clause-fault
returns-in_err-seen-clause-fault c =
    let o = c.args.options.now in
    let text = c.args.text.now in
    at_end c.from_residual.result _ _ c.from_residual.ensures.1
    (λ e told. subst (λ (x : ViewFault). IsNoMacrocell o text x ⊎ IsWantAt (universe_view o.rule (asked o.generation)) text x) (sym told) (not_seen o c.count_of.result text c.in_err-seen.field-0.0 c.count_of.ensures c.in_err-seen.ensures.fault))

pub returns-clause-made : goal.returns-clause-made
returns-clause-made c =
    let o = c.args.options.now in
    let text = c.args.text.now in
    let r = c.in_ok-seen.seen.rule in
    let e = c.in_ok-seen.seen.engine in
    let seen = c.in_ok-seen.ensures.seen in
    let count = c.count_of.ensures in
    let out = c.in_ok-macrocell.macrocell.items in
    let g : c.in-Some.generation ≡ generation_of o text = c.in-Some.ensures.0 ∙ ap (λ n. n + asked o.generation) c.in_ok-seen.ensures.generation in
    let later : e.generation ≡ asked o.generation = seen.at ∙ count in
    let same : states_of e ≡ at r seen.states (asked o.generation) = one_map (states_of e) (at e.rule seen.states e.generation) seen.run.shows ∙ (λ i. at (seen.run.rule i) seen.states (later i)) in
    record {
      rule = r;
      states = seen.states;
      read = seen.read;
      fits = subst (λ n. n < 2 ^ 64) g c.in-Some.ensures.1;
      is = subst (λ n. IsMacrocell r n (at r seen.states (asked o.generation)) out) g (subst (λ (h : Place → ℕ). IsMacrocell r c.in-Some.generation h out) same c.in_ok-macrocell.ensures);
    }

pub returns-in_default-clause-fault : goal.returns-in_default-clause-fault
returns-in_default-clause-fault c =
    let o = c.args.options.now in
    let seen = c.in_ok-seen.ensures.seen in
    inl (inr (record {
      rule = c.in_ok-seen.seen.rule;
      states = seen.states;
      read = seen.read;
      late = subst (λ n. 2 ^ 64 ≤ n + asked o.generation) c.in_ok-seen.ensures.generation c.in_default.ensures;
      told = c.from.ensures;
    }))
