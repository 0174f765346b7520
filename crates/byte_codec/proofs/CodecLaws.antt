-- What follows for each codec.
use Rattle.std.proofs.Common.{◌≡◌, ℕ, true, false, List, [], ◌++◌, length, Ok, refl, sym, ap, ◌∙◌}
use Rattle.std.specs.Prelude.{◌==◌}
use Rattle.std.proofs.lemmas.Bool.{eqb-true, ne_eqb}
use Rattle.std.proofs.lemmas.List.{append-nil, nil_from_length}
use Rattle.byte_codec.specs.Reading.{ended, whole_of}
use Rattle.byte_codec.specs.Codec.{BeginsWith}
use Rattle.byte_codec.specs.Laws.{KeepsTextsApart, HasOneText}
use Rattle.byte_codec.proofs.Steps.{found, ok_is, onwards_ok, refused_last}

pub keeps_texts_apart : {F A : Type 0} → KeepsTextsApart F A
keeps_texts_apart {F} {A} spell has_text read codec v w r s fits_v fits_w e =
    let both : found {F = F} (v, r) ≡ Ok (w, s) = sym (codec.again v r fits_v) ∙ ap read e ∙ codec.again w s fits_w in
    let pair : (v, r) ≡ (w, s) = ok_is {F = F} (v, r) (w, s) both in
    (ap (λ (p : A × List ℕ). p.0) pair, ap (λ (p : A × List ℕ). p.1) pair)

pub has_one_text : {F A : Type 0} → HasOneText F A
has_one_text {F} {A} spell has_text trailing read codec = record {
  takes = λ bytes value are e.
      let s : (x : A) × (rest : List ℕ) × (read bytes ≡ Ok (x, rest)) × (ended trailing x rest ≡ Ok value) =
      onwards_ok (read bytes) (λ x rest. ended trailing x rest) value e in
      let g : ((length s.1 == 0) ≡ true) × (s.0 ≡ value) = refused_last (length s.1 == 0) trailing s.0 value s.3 in
      let t : BeginsWith spell has_text bytes s.0 s.1 = codec.takes bytes s.0 s.1 are s.2 in
      let none : s.1 ≡ [] = nil_from_length s.1 (eqb-true _ _ g.0) in
      let whole : bytes ≡ spell s.0 = t.spelt ∙ ap (λ (l : List ℕ). spell s.0 ++ l) none ∙ append-nil (spell s.0) in
      (rw (← g.1) t.fits, rw (← g.1) whole);
  again = λ value fit. ap (whole_of trailing read) (sym (append-nil (spell value))) ∙ rw (codec.again value [] fit) refl;
  more = λ value rest fit some.
      let not_none : (length rest == 0) ≡ false = ne_eqb _ _ (λ none. some (nil_from_length rest none)) in
      rw (codec.again value rest fit, not_none) refl;
}
