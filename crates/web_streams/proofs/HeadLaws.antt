-- What was heard of a visitor.
use Rattle.std.proofs.Common.{◌≡◌, ℕ, ◌≤◌, Bool, true, List, [], ◌++◌, length, Option, refl, sym, subst, ◌∙◌, ap, inl, inr, arith, append-nil}
use Rattle.std.specs.Io.KnownBytes.{Consumes}
use Rattle.tungstenite.proofs.SocketLemmas.{consumes-chain}
use Rattle.web_requests.specs.Routes.{IsWanted}
use Rattle.web_requests.specs.declared.house.House.{House}
use Rattle.web_requests.specs.declared.refusal.Refusal.TheVariants.{TooLong}
use Rattle.web_requests.specs.declared.visit.Visit.TheVariants.{Waits, Refused}
use Rattle.web_streams.specs.Behind.{behind_of, ReadsMore}
use Rattle.web_streams.specs.Head.{Hears}
use Rattle.web_streams.specs.declared.head.HeardHead.{HeardHead}

module _ (before after : Option (List ℕ)) (house : House) (came seen : List ℕ) (heard : HeardHead) where
  pub hears_clear : Consumes before after came → length came ≤ 8192 → seen ≡ came → IsWanted seen house heard.visit → heard.behind.items ≡ behind_of came heard.visit → ¬ (heard.visit ≡ Waits) → Hears before after house heard
  hears_clear bytes few same row behind clear = record {
    came = came;
    bytes = bytes;
    answer = inl (record {
      wanted = subst (λ xs. IsWanted xs house heard.visit) same row;
      few = few;
      behind = behind;
      ended = λ waits. absurd (clear waits);
    });
  }

  pub hears_too_long : Consumes before after came → length came ≤ 8192 → 8192 ≤ length came → seen ≡ came → IsWanted seen house Waits → heard.visit ≡ Refused TooLong → heard.behind.items ≡ [] → Hears before after house heard
  hears_too_long bytes few many same row refused behind = record {
    came = came;
    bytes = bytes;
    answer = inr (record { unclear = subst (λ xs. IsWanted xs house Waits) same row; many = omega arith; refused = refused; behind = behind });
  }

  pub hears_end : (last : Option (List ℕ)) (more : List ℕ) → Consumes before after came → length came ≤ 8192 → seen ≡ came → IsWanted seen house Waits → heard.visit ≡ Waits → heard.behind.items ≡ [] → ReadsMore after last came more true → Hears before last house heard
  hears_end last more bytes few same row waits behind reads =
      let ends = reads.ends refl in
      record {
        came = came;
        bytes = subst (λ xs. Consumes before last xs) (ap (λ xs. came ++ xs) ends.0 ∙ append-nil came) (consumes-chain before after last came reads.came bytes reads.bytes);
        answer = inl (record {
          wanted = subst (λ xs. IsWanted xs house heard.visit) same (subst (λ v. IsWanted seen house v) (sym waits) row);
          few = few;
          behind = behind ∙ sym (ap (λ v. behind_of came v) waits);
          ended = λ _. ends.1;
        });
      }

-- reading on
pub reads_on : (before mid after : Option (List ℕ)) (came more : List ℕ) (ended : Bool) → Consumes before mid came → ReadsMore mid after came more ended → Consumes before after more
reads_on before mid after came more ended bytes reads = subst (λ xs. Consumes before after xs) (sym reads.stands) (consumes-chain before mid after came reads.came bytes reads.bytes)
