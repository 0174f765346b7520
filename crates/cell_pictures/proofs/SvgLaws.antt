-- Two SVGs with the same text show the same.
use Rattle.std.proofs.Common.{◌≡◌, ℕ, ◌<◌, ◌^◌, List, [], ◌∷◌, ◌++◌, refl, sym, ap, ◌∙◌, append_assoc}
use Rattle.std.specs.Prelude.{codes, decimal, ⊤}
use Rattle.std.proofs.lemmas.List.{append_cancel_left}
use Rattle.cell_pictures.specs.Colour.{colour_of}
use Rattle.cell_pictures.specs.Runs.{RunValue}
use Rattle.cell_pictures.specs.Svg.{hex_colour, path_begin, path_end, run_text, runs_text, svg_end}
use Rattle.cell_pictures.proofs.TextLaws.{FitsText, next_number, same_outline, tails}

-- ---- runs

-- each run is written with all its digits
unfoldable pub AllFit : List RunValue → Type 0
AllFit [] = ⊤
AllFit (r ∷ runs) = FitsText r.x r.y r.length 1 × AllFit runs

-- the text of a run, and of runs, not to be looked into
run_front : RunValue → List ℕ
run_front r = run_text r

run_fronts : List RunValue → List ℕ
run_fronts [] = []
run_fronts (r ∷ runs) = run_front r ++ run_fronts runs

fronts_are : (runs : List RunValue) → runs_text runs ≡ run_fronts runs
unfolding run_front run_fronts
fronts_are [] = refl
fronts_are (r ∷ runs) = ap (λ rest. run_text r ++ rest) (fronts_are runs)

same_run : (r s : RunValue) → r.x ≡ s.x → r.y ≡ s.y → r.length ≡ s.length → r ≡ s
same_run r s x y n = λ i. record { x = x i; y = y i; length = n i }

same_front : (r s : RunValue) (t u : List ℕ) → FitsText r.x r.y r.length 1 → FitsText s.x s.y s.length 1 → run_front r ++ t ≡ run_front s ++ u → (r ≡ s) × (t ≡ u)
unfolding run_front
same_front r s t u fits fits' e =
    let first = same_outline r.x r.y s.x s.y r.length 1 s.length 1 t u fits fits' e in
    (same_run r s first.left first.top first.wide, first.behind)

no_front : {A : Type 0} (r : RunValue) (t u : List ℕ) → 34 ∷ t ≡ run_front r ++ u → A
unfolding run_front
no_front r t u e = absurd (cc)

fronts_on : (r s : RunValue) (runs runs' : List RunValue) (t u : List ℕ) → run_fronts (r ∷ runs) ++ t ≡ run_fronts (s ∷ runs') ++ u →
    run_front r ++ (run_fronts runs ++ t) ≡ run_front s ++ (run_fronts runs' ++ u)
unfolding run_fronts
fronts_on r s runs runs' t u e = sym (append_assoc (run_front r) (run_fronts runs) t) ∙ e ∙ append_assoc (run_front s) (run_fronts runs') u

front_on : (r : RunValue) (runs : List RunValue) (t u : List ℕ) → t ≡ run_fronts (r ∷ runs) ++ u → t ≡ run_front r ++ (run_fronts runs ++ u)
unfolding run_fronts
front_on r runs t u e = e ∙ append_assoc (run_front r) (run_fronts runs) u

none_on : (t u : List ℕ) → run_fronts [] ++ t ≡ u → t ≡ u
unfolding run_fronts
none_on t u e = e

nothing_in_front : (t : List ℕ) → run_fronts [] ++ t ≡ t
unfolding run_fronts
nothing_in_front t = refl

same_fronts : (runs runs' : List RunValue) (t u : List ℕ) → AllFit runs → AllFit runs' → run_fronts runs ++ 34 ∷ t ≡ run_fronts runs' ++ 34 ∷ u → (runs ≡ runs') × (t ≡ u)
unfolding AllFit
same_fronts [] [] t u fits fits' e = (refl, tails 34 34 t u (none_on (34 ∷ t) (34 ∷ u) (e ∙ nothing_in_front (34 ∷ u))))
same_fronts [] (r ∷ runs) t u fits fits' e = no_front r t (run_fronts runs ++ 34 ∷ u) (front_on r runs (34 ∷ t) (34 ∷ u) (none_on (34 ∷ t) _ e))
same_fronts (r ∷ runs) [] t u fits fits' e = no_front r u (run_fronts runs ++ 34 ∷ t) (front_on r runs (34 ∷ u) (34 ∷ t) (none_on (34 ∷ u) _ (sym e)))
same_fronts (r ∷ runs) (s ∷ runs') t u fits fits' e =
    let first = same_front r s (run_fronts runs ++ 34 ∷ t) (run_fronts runs' ++ 34 ∷ u) fits.0 fits'.0 (fronts_on r s runs runs' (34 ∷ t) (34 ∷ u) e) in
    let rest = same_fronts runs runs' t u fits.1 fits'.1 first.1 in
    ((λ i. first.0 i ∷ rest.0 i), rest.1)

same_runs : (runs runs' : List RunValue) (t u : List ℕ) → AllFit runs → AllFit runs' → runs_text runs ++ 34 ∷ t ≡ runs_text runs' ++ 34 ∷ u → (runs ≡ runs') × (t ≡ u)
same_runs runs runs' t u fits fits' e =
    same_fronts runs runs' t u fits fits' (ap (λ text. text ++ 34 ∷ t) (sym (fronts_are runs)) ∙ e ∙ ap (λ text. text ++ 34 ∷ u) (fronts_are runs'))

-- ---- paths

pub record PathValue : Type 0 where
  pub state : ℕ
  pub runs : List RunValue

unfoldable pub whole_path : ℕ → PathValue → List ℕ
whole_path states p = path_begin states p.state ++ runs_text p.runs ++ path_end

unfoldable pub paths_text : ℕ → List PathValue → List ℕ
paths_text states [] = []
paths_text states (p ∷ paths) = whole_path states p ++ paths_text states paths

unfoldable pub PathsFit : List PathValue → Type 0
PathsFit [] = ⊤
PathsFit (p ∷ paths) = (p.state < 2 ^ 64) × AllFit p.runs × PathsFit paths

begin_then : (states state : ℕ) (rest : List ℕ) → path_begin states state ++ rest
    ≡ codes "<path class=\"s" ++ (decimal state ++ 34 ∷ (codes " fill=\"" ++ (hex_colour (colour_of states state) ++ (codes "\" d=\"" ++ rest))))
begin_then states state rest = regroup (codes "<path class=\"s") (decimal state) (codes "\" fill=\"") (hex_colour (colour_of states state)) (codes "\" d=\"") rest where
  regroup : (a b c d e rest : List ℕ) → a ++ b ++ c ++ d ++ e ++ rest ≡ a ++ (b ++ (c ++ (d ++ (e ++ rest))))
  regroup a b c d e rest = simp append_assoc

pub same_begin : (states states' s s' : ℕ) (t u : List ℕ) → s < 2 ^ 64 → s' < 2 ^ 64 → path_begin states s ++ t ≡ path_begin states' s' ++ u → (s ≡ s') × (t ≡ u)
same_begin states states' s s' t u fits fits' e =
    let whole = sym (begin_then states s t) ∙ e ∙ begin_then states' s' u in
    let number = next_number s s' 34 34 _ _ fits fits' refl refl (append_cancel_left (codes "<path class=\"s") _ _ whole) in
    let colour = append_cancel_left (codes " fill=\"") _ _ (tails 34 34 _ _ number.1) in
    let behind = tails _ _ _ _ (tails _ _ _ _ (tails _ _ _ _ (tails _ _ _ _ (tails _ _ _ _ (tails _ _ _ _ (tails _ _ _ _ colour)))))) in
    (number.0, append_cancel_left (codes "\" d=\"") _ _ behind)

same_path : (p q : PathValue) → p.state ≡ q.state → p.runs ≡ q.runs → p ≡ q
same_path p q s r = λ i. record { state = s i; runs = r i }

path_then : (states : ℕ) (p : PathValue) (rest : List ℕ) → whole_path states p ++ rest ≡ path_begin states p.state ++ (runs_text p.runs ++ 34 ∷ 47 ∷ 62 ∷ 10 ∷ rest)
unfolding whole_path
path_then states p rest = regroup (path_begin states p.state) (runs_text p.runs) path_end rest where
  regroup : (a b c rest : List ℕ) → a ++ b ++ c ++ rest ≡ a ++ (b ++ (c ++ rest))
  regroup a b c rest = simp append_assoc

pub same_paths : (states states' : ℕ) (ps qs : List PathValue) → PathsFit ps → PathsFit qs → paths_text states ps ++ svg_end ≡ paths_text states' qs ++ svg_end → ps ≡ qs
unfolding paths_text PathsFit whole_path
same_paths states states' [] [] fits fits' e = refl
same_paths states states' [] (q ∷ qs) fits fits' e = absurd (let next = tails _ _ _ _ e in cc)
same_paths states states' (p ∷ ps) [] fits fits' e = absurd (let next = tails _ _ _ _ e in cc)
same_paths states states' (p ∷ ps) (q ∷ qs) fits fits' e =
    let apart : whole_path states p ++ (paths_text states ps ++ svg_end) ≡ whole_path states' q ++ (paths_text states' qs ++ svg_end) =
    sym (append_assoc (whole_path states p) (paths_text states ps) svg_end) ∙ e ∙ append_assoc (whole_path states' q) (paths_text states' qs) svg_end in
    let first = same_begin states states' p.state q.state _ _ fits.0 fits'.0
    (sym (path_then states p (paths_text states ps ++ svg_end)) ∙ apart ∙ path_then states' q (paths_text states' qs ++ svg_end)) in
    let runs = same_runs p.runs q.runs _ _ fits.1 fits'.1 first.1 in
    let rest = same_paths states states' ps qs fits.2 fits'.2 (tails _ _ _ _ (tails _ _ _ _ (tails _ _ _ _ runs.1))) in
    λ i. same_path p q first.0 runs.0 i ∷ rest i
