use Rattle.std.proofs.Common.{ℕ, List, ◌∙◌, ap, subst, refl, Err}
use Rattle.std.specs.Prelude.{◌⊎◌}
use Rattle.std.proofs.lemmas.Result.{err_from_is_err_and}
use Rattle.cell_pictures.specs.Picture.{picture_text}
use Rattle.genedit_view.specs.declared.fault.ViewFault.{ViewFault}
use Rattle.genedit_view.specs.Reading.{bounds_told}
use Rattle.genedit_view.specs.Runs.IsView.{Drawn, Refused, Left}
use Rattle.genedit_view.specs.Seeing.{AreSeen, IsNotSeen, IsPictureOf, IsWantAt}
use Rattle.genedit_view.proofs.SeenLaws.{seen_sorted}
use Rattle.genedit_view.proofs.viewing.view_within.Goals as goal

pub returns-in_err-text : goal.returns-in_err-text
returns-in_err-text g c =
    let p = err_from_is_err_and c.from_residual.result c.from_residual.ensures.1 in
    Left c.in_err-text.field-0.0 (p.1 ∙ ap (λ (e : ViewFault). Err e) p.2) c.in_err-text.ensures.left refl

pub returns-in_err-seen : goal.returns-in_err-seen
returns-in_err-seen g c =
    let p = err_from_is_err_and c.from_residual-in_err-seen.result c.from_residual-in_err-seen.ensures.1 in
    let fault = c.in_err-seen.field-0.0 in
    let why : IsNotSeen c.args.options.now c.in_ok-text.text.items fault ⊎ IsWantAt c.args.options.now c.in_ok-text.text.items fault =
    subst (λ (text : List ℕ). IsNotSeen c.args.options.now text fault ⊎ IsWantAt c.args.options.now text fault) c.deref.ensures.value c.in_err-seen.ensures.fault in
    Refused c.in_ok-text.text.items fault (p.1 ∙ ap (λ (e : ViewFault). Err e) p.2) c.in_ok-text.ensures.all why refl

pub push_picture-requires : goal.push_picture-requires
push_picture-requires g c = seen_sorted c.args.options.now c.deref.result.now c.in_ok-seen.seen.rule c.in_ok-seen.seen.cells.items c.in_ok-seen.ensures.seen

pub returns-in-Ok : goal.returns-in-Ok
returns-in-Ok g c =
    let o = c.args.options.now in
    let r = c.in_ok-seen.seen.rule in
    let cells = c.in_ok-seen.seen.cells.items in
    let seen : AreSeen o c.in_ok-text.text.items r cells = subst (λ (text : List ℕ). AreSeen o text r cells) c.deref.ensures.value c.in_ok-seen.ensures.seen in
    let is : IsPictureOf o c.in_ok-text.text.items (picture_text o.form r.states cells o.window) = record { rule = r; cells = cells; seen = seen; drawn = refl } in
    Drawn c.in_ok-text.text.items (picture_text o.form r.states cells o.window) c.in_ok-text.ensures.all is c.in-Ok.ensures.drawn tt (c.in_ok-seen.ensures.bounds ∙ ap bounds_told c.deref.ensures.value)

pub returns : goal.returns
returns g c =
    let o = c.args.options.now in
    let r = c.in_ok-seen.seen.rule in
    let cells = c.in_ok-seen.seen.cells.items in
    let seen : AreSeen o c.in_ok-text.text.items r cells = subst (λ (text : List ℕ). AreSeen o text r cells) c.deref.ensures.value c.in_ok-seen.ensures.seen in
    let is : IsPictureOf o c.in_ok-text.text.items (picture_text o.form r.states cells o.window) = record { rule = r; cells = cells; seen = seen; drawn = refl } in
    Drawn c.in_ok-text.text.items (picture_text o.form r.states cells o.window) c.in_ok-text.ensures.all is c.in-Err.ensures.drawn c.in-Err.ensures.fault tt
