-- What stands at the front of bytes that got less, or greater.
use Rattle.std.proofs.Common.{◌≡◌, ◌≤◌, ◌<◌, ◌-◌, ◌^◌, ℕ, List, ◌++◌, length, take, drop, refl, ap, ◌∙◌, append_assoc, arith}
use Rattle.std.specs.List.{sum}
use Rattle.std.proofs.lemmas.List.{take_at, drop_at, length-append}
use Rattle.std.proofs.lemmas.Nat.{from_be_bytes-to_be_bytes_4}
use Rattle.kept_records.specs.Records.{IsBody, record_text, head_text, full, lack_at, size_at}
use Rattle.kept_records.specs.Laws.{IsLowered}
use Rattle.kept_records.proofs.Lowered.{parted, sum_small, same_sum, number_lowered}

-- A record at the front of bytes that are no greater than those of another record and what stands behind it is that
-- record.
pub same_record : (a b more rest : List ℕ) → IsBody a → IsBody b → IsLowered (record_text a ++ more) (record_text b ++ rest) → (a ≡ b) × IsLowered more rest
unfolding head_text
same_record a b more rest is_a is_b low =
    let sum_a = sum_small a is_a.bytes in
    let sum_b = sum_small b is_b.bytes in
    let shorter : length a ≤ length b = number_lowered (length a) (length b) (omega (arith, is_a.small)) (omega (arith, is_b.small)) low.0 low.1.0 low.1.1.0 low.1.1.1.0 in
    let second = low.1.1.1.1 in
    let longer : full - length a ≤ full - length b = number_lowered (full - length a) (full - length b) (omega arith) (omega arith) second.0 second.1.0 second.1.1.0 second.1.1.1.0 in
    let long : length a ≡ length b = omega (arith, shorter, longer, is_a.small, is_b.small) in
    let third = second.1.1.1.1 in
    let sums : full - sum a ≤ full - sum b = number_lowered (full - sum a) (full - sum b) (omega arith) (omega arith) third.0 third.1.0 third.1.1.0 third.1.1.1.0 in
    let bodies : IsLowered (a ++ more) (b ++ rest) = third.1.1.1.1.1.1.1.1.1.1.1.1 in
    let p = parted a b more rest long bodies in
    let least : sum b ≤ sum a = omega (arith, sums, sum_a, sum_b, is_a.small, is_b.small) in
    (same_sum a b long p.0 least, p.1)

-- ---- what the code compares

pub head_length : (b : List ℕ) → length (head_text b) ≡ 20
unfolding head_text
head_length b = refl

size_is : (b : List ℕ) → length b < 2 ^ 32 → size_at (head_text b) ≡ length b
unfolding size_at head_text
size_is b small = from_be_bytes-to_be_bytes_4 (length b) small

lack_is : (b : List ℕ) → lack_at (head_text b) ≡ full - length b
unfolding lack_at head_text
lack_is b = from_be_bytes-to_be_bytes_4 (full - length b) (omega arith)

-- a record at the front, as the code parts it
pub record Parts (bytes b rest : List ℕ) : Type 0 where
  pub long : 20 ≤ length bytes
  pub head : take 20 bytes ≡ head_text b
  pub behind : drop 20 bytes ≡ b ++ rest
  pub size : size_at (take 20 bytes) ≡ length b
  pub lack : lack_at (take 20 bytes) ≡ full - length b
  pub fits : length b ≤ length (drop 20 bytes)
  pub body : take (length b) (drop 20 bytes) ≡ b

pub parts : (bytes b rest : List ℕ) → IsBody b → bytes ≡ record_text b ++ rest → Parts bytes b rest
parts bytes b rest is e =
    let spelt : bytes ≡ head_text b ++ (b ++ rest) = e ∙ append_assoc (head_text b) b rest in
    let head : take 20 bytes ≡ head_text b = ap (λ (l : List ℕ). take 20 l) spelt ∙ take_at (head_text b) (b ++ rest) 20 (head_length b) in
    let behind : drop 20 bytes ≡ b ++ rest = ap (λ (l : List ℕ). drop 20 l) spelt ∙ drop_at (head_text b) (b ++ rest) 20 (head_length b) in
    record {
      long = omega (arith, ap length spelt, head_length b, length-append (head_text b) (b ++ rest));
      head = head;
      behind = behind;
      size = ap size_at head ∙ size_is b (omega (arith, is.small));
      lack = ap lack_at head ∙ lack_is b;
      fits = omega (arith, ap length behind, length-append b rest);
      body = ap (λ (l : List ℕ). take (length b) l) behind ∙ take_at b rest (length b) refl;
    }
