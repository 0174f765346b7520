-- What pulls one after another come to.
use Rattle.std.proofs.Common.{◌≡◌, ℕ, ◌+◌, ◌<◌, ◌≤◌, ◌++◌, List, [], length, take, length-append, length-take, append-nil, Ok, false, refl, sym, ap, subst, ◌∙◌, arith}
use Rattle.std.specs.Prelude.{◌==◌}
use Rattle.std.proofs.lemmas.Bool.{ne_eqb}
use Rattle.std.specs.Io.KnownBytes.{Consumes}
use Rattle.std.proofs.KnownBytes.{Consumes-trans}
use Rattle.devices.specs.Count.{so_many_more, one_more}
use Rattle.devices.specs.Source.{KnownSource, IsPull, ends_met_after}
use Rattle.genedit_io.specs.Runs.{IsReadWhole}

-- so many pulls, each of which gave something, and what they gave
pub record IsPulledSo (turn : ℕ) (text : List ℕ) (old new : KnownSource) : Type 0 where
  pub bytes : Consumes old.left new.left text
  pub works : new.failures ≡ old.failures
  pub counted : new.pulls ≡ so_many_more turn old.pulls
  pub no_end : new.ends_met ≡ old.ends_met
  pub many : turn ≤ length text

-- ---- counts

one_more_of : (turn n : ℕ) → one_more (so_many_more turn n) ≡ so_many_more (turn + 1) n
one_more_of turn n = omega arith

more_of : (a b n : ℕ) → a ≤ b → so_many_more a n ≤ so_many_more b n
more_of a b n within = omega arith

counted_on : (turn n now new : ℕ) → now ≡ so_many_more turn n → new ≡ one_more now → new ≡ so_many_more (turn + 1) n
counted_on turn n now new counted pulls = pulls ∙ ap one_more counted ∙ one_more_of turn n

-- ---- pulls

-- nothing, pulled into a piece with room, is the end
end_of : (E : Type 0) (room n : ℕ) → 0 < room → ends_met_after {E = E} room (Ok 0) n ≡ one_more n
end_of E room n some = let is : (room == 0) ≡ false = ne_eqb room 0 (omega arith) in rw is refl

-- something is no end
no_end_of : (E : Type 0) (room count n : ℕ) → 0 < count → ends_met_after {E = E} room (Ok count) n ≡ n
no_end_of E room count n some = let is : (count == 0) ≡ false = ne_eqb count 0 (omega arith) in rw is refl

module _ {E : Type 0} (turn : ℕ) (text : List ℕ) (old now new : KnownSource) (so : IsPulledSo turn text old now) where
  -- a pull that gave something
  pub pulled_on : (count : ℕ) (piece text' : List ℕ) → IsPull {E = E} now new (Ok count) piece → 0 < count → count ≤ length piece
      → text' ≡ text ++ take count piece → IsPulledSo (turn + 1) text' old new
  pulled_on count piece text' pull some within more = record {
    bytes = subst (Consumes old.left new.left) (sym more) (Consumes-trans old.left now.left new.left text (take count piece) so.bytes pull.bytes.0);
    works = pull.failures ∙ so.works;
    counted = counted_on turn old.pulls now.pulls new.pulls so.counted pull.pulls;
    no_end = pull.ends_met ∙ no_end_of E (length piece) count now.ends_met some ∙ so.no_end;
    many = rw more (simp (length-append, length-take) (omega (arith, so.many)));
  }

  -- a pull that met the end
  pub pulled_all : (turns : ℕ) (piece : List ℕ) → IsPull {E = E} now new (Ok 0) piece → 0 < length piece → turn < turns
      → IsReadWhole turns text old new
  pulled_all turns piece pull room before =
      let pulls = counted_on turn old.pulls now.pulls new.pulls so.counted pull.pulls in
      record {
        all = record {
          bytes = subst (Consumes old.left new.left) (append-nil text) (Consumes-trans old.left now.left new.left text [] so.bytes pull.bytes.0);
          end = pull.bytes.1 refl room;
        };
        pulls = record {
          at_least = subst (λ n. so_many_more 1 old.pulls ≤ n) (sym pulls) (more_of 1 (turn + 1) old.pulls (omega arith));
          at_most = subst (λ n. n ≤ so_many_more turns old.pulls) (sym pulls) (more_of (turn + 1) turns old.pulls (omega arith));
        };
        end = pull.ends_met ∙ end_of E (length piece) now.ends_met room ∙ ap one_more so.no_end;
        works = pull.failures ∙ so.works;
      }
