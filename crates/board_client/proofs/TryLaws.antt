-- What was said, heard and refused, one after another.
use Rattle.std.proofs.Common.{◌≡◌, ℕ, ◌+◌, List, [], ◌∷◌, ◌++◌, length, map, replicate, refl, sym, ap, subst, ◌∙◌, length-append, arith}
use Rattle.std.proofs.lemmas.List.{map-append, replicate-append-replicate}
use Rattle.frame_line.proofs.TalkLaws.{talk_none, talk_on}
use Rattle.board_client.specs.Client.{LineState, IsTalk}
use Rattle.board_client.specs.Tries.{AreAll, AreRefused, IsRefused}

-- what was said and heard, and then more
pub both : (a b c : LineState) (said more heard next : List (List ℕ)) → IsTalk a b said heard → IsTalk b c more next → IsTalk a c (said ++ more) (heard ++ next)
both a b c said more heard next p q = talk_on a.frames b.frames c.frames a.source b.source c.source a.sink b.sink c.sink said more heard next p q

pub nothing : (a : LineState) → IsTalk a a [] []
nothing a = talk_none a.frames a.source a.sink

all_on : (P : ℕ → Type 0) (xs : List ℕ) (x : ℕ) → AreAll P xs → P x → AreAll P (xs ++ x ∷ [])
all_on P [] x p q = (q, tt)
all_on P (y ∷ xs) x p q = (p.0, all_on P xs x p.1 q)

abbrev alone : ℕ → List ℕ
alone number = number ∷ []

said_on : (request : List ℕ) (xs : List ℕ) (x : ℕ) → replicate (length xs) request ++ request ∷ [] ≡ replicate (length (xs ++ x ∷ [])) request
said_on request xs x = replicate-append-replicate (length xs) 1 request ∙ ap (λ n. replicate n request) (sym (length-append xs (x ∷ [])))

heard_on : (xs : List ℕ) (x : ℕ) → map alone xs ++ (x ∷ []) ∷ [] ≡ map alone (xs ++ x ∷ [])
heard_on xs x = sym (map-append alone xs (x ∷ []))

refused_on : (P : ℕ → Type 0) (request : List ℕ) (xs : List ℕ) (x : ℕ) (a b c : LineState) → AreRefused P request xs a b → P x → IsTalk b c (request ∷ []) ((x ∷ []) ∷ [])
    → AreRefused P request (xs ++ x ∷ []) a c
refused_on P request xs x a b c p brief talk = record {
  each = all_on P xs x p.each brief;
  talk = subst (λ said. IsTalk a c said (map alone (xs ++ x ∷ []))) (said_on request xs x)
      (subst (IsTalk a c (replicate (length xs) request ++ request ∷ [])) (heard_on xs x)
      (both a b c (replicate (length xs) request) (request ∷ []) (map alone xs) ((x ∷ []) ∷ []) p.talk talk));
}

pub never_refused : (P : ℕ → Type 0) (request : List ℕ) (a : LineState) → IsRefused P request 0 a a
never_refused P request a = record { numbers = []; often = refl; refused = record { each = tt; talk = nothing a } }

-- once more
pub refused_again : (P : ℕ → Type 0) (request : List ℕ) (times x : ℕ) (a b c : LineState) → IsRefused P request times a b → P x → IsTalk b c (request ∷ []) ((x ∷ []) ∷ []) → IsRefused P request (times + 1) a c
refused_again P request times x a b c p brief talk = record {
  numbers = p.numbers ++ x ∷ [];
  often = length-append p.numbers (x ∷ []) ∙ ap (λ n. n + 1) p.often;
  refused = refused_on P request p.numbers x a b c p.refused brief talk;
}

-- once before
pub refused_before : (P : ℕ → Type 0) (request : List ℕ) (times x : ℕ) (a b c : LineState) → P x → IsTalk a b (request ∷ []) ((x ∷ []) ∷ []) → IsRefused P request times b c → IsRefused P request (times + 1) a c
refused_before P request times x a b c brief talk p = record {
  numbers = x ∷ p.numbers;
  often = omega (arith, p.often);
  refused = record {
    each = (brief, p.refused.each);
    talk = both a b c (request ∷ []) (replicate (length p.numbers) request) ((x ∷ []) ∷ []) (map alone p.numbers) talk p.refused.talk;
  };
}
