use Rattle.std.proofs.Common.{◌≡◌, ◌≤◌, ◌-◌, ℕ, List, length, take, sym, ap, ◌∙◌, arith, ⊎_elim}
use Rattle.kept_records.specs.Records.{full, head_text, lack_at, size_at}
use Rattle.kept_records.proofs.FrontLaws.{parts}
use Rattle.kept_records.proofs.reading.next_record.Goals as goal

pub returns-then-bytes-lt-HEAD_BYTES-clause-none : goal.returns-then-bytes-lt-HEAD_BYTES-clause-none
returns-then-bytes-lt-HEAD_BYTES-clause-none c none b rest is e = absurd (omega (arith, (parts c.args.bytes.now b rest is e).long, c.if-bytes-lt-HEAD_BYTES.true))

pub returns-then-size-gt-MOST_BODY-clause-none : goal.returns-then-size-gt-MOST_BODY-clause-none
returns-then-size-gt-MOST_BODY-clause-none c none b rest is e =
    let p = parts c.args.bytes.now b rest is e in
    let size : c.size_at-size.result ≡ length b = c.size_at-size.ensures ∙ ap size_at c.split_at.ensures.front ∙ p.size in
    let fits : length b ≤ length c.split_at.result.1.now = omega (arith, p.fits, ap length c.split_at.ensures.back) in
    ⊎_elim (λ large. absurd (omega (arith, large, size, is.small))) (λ short. absurd (omega (arith, short.1, size, fits))) c.then-size-gt-MOST_BODY.either

pub returns-then-not-tells_lack-clause-none : goal.returns-then-not-tells_lack-clause-none
returns-then-not-tells_lack-clause-none c none b rest is e =
    let p = parts c.args.bytes.now b rest is e in
    let size : c.size_at-size.result ≡ length b = c.size_at-size.ensures ∙ ap size_at c.split_at.ensures.front ∙ p.size in
    let lack : lack_at c.split_at.result.0.now ≡ full - c.size_at-size.result = ap lack_at c.split_at.ensures.front ∙ p.lack ∙ ap (λ (n : ℕ). full - n) (sym size) in
    let told = c.tells_lack.ensures.1 lack in
    absurd (cc (told, c.if-not-tells_lack.true))

pub returns-then-not-is_head-clause-none : goal.returns-then-not-is_head-clause-none
returns-then-not-is_head-clause-none c none b rest is e =
    let p = parts c.args.bytes.now b rest is e in
    let size : c.size_at-size.result ≡ length b = c.size_at-size.ensures ∙ ap size_at c.split_at.ensures.front ∙ p.size in
    let body : c.split_at-2.result.0.now ≡ b =
    c.split_at-2.ensures.front ∙ ap (λ (n : ℕ). take n c.split_at.result.1.now) size ∙ ap (λ (l : List ℕ). take (length b) l) c.split_at.ensures.back ∙ p.body in
    let head : c.split_at.result.0.now ≡ head_text c.split_at-2.result.0.now = c.split_at.ensures.front ∙ p.head ∙ ap head_text (sym body) in
    let told = c.is_head.ensures.1 head in
    absurd (cc (told, c.if-not-is_head.true))
