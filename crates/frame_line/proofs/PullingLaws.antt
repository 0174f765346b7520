-- Pulls one after another.
use Rattle.std.proofs.Common.{◌≡◌, ◌⊎◌, inl, inr, ℕ, ◌+◌, ◌<◌, ◌≤◌, true, false, List, [], ◌∷◌, ◌++◌, length, take, Some, None, Result, Ok, Err, refl, sym, ap, subst, ◌∙◌, arith, append-nil, append_assoc, length-append}
use Rattle.std.specs.Prelude.{◌==◌, ◌≢◌, zero, suc, IsOk}
use Rattle.std.proofs.lemmas.Bool.{ne_eqb}
use Rattle.std.proofs.lemmas.Grind.{flat_map-append}
use Rattle.std.specs.Io.KnownBytes.{Consumes, Keeps}
use Rattle.std.proofs.KnownBytes.{Consumes-nil, Consumes-trans, Consumes-kept}
use Rattle.devices.specs.Count.{so_many_more}
use Rattle.devices.specs.Source.{KnownSource, IsPull, ends_met_after}
use Rattle.message_frames.specs.Frames.{FrameStream, frame_at, unfinished}
use Rattle.frame_line.specs.declared.fault.LineFault.{LineFault}
use Rattle.frame_line.specs.declared.fault.LineFault.TheVariants.{FrameTooLong, Ended, Cut, Turns, Read, Write, Memory}
use Rattle.frame_line.specs.Receiving.{IsUsed, HasCome, IsPulled, IsNext, AreNeeded, bytes_in, EndsAs, IsReceived, StandsNext}

no_more : (n : ℕ) → n ≡ so_many_more 0 n
no_more n = omega arith

taken_some : (count : ℕ) (piece : List ℕ) → count ≤ length piece → 0 < count → take count piece ≢ []
taken_some zero piece h k e = absurd (omega arith)
taken_some (suc n) [] h k e = absurd (omega arith)
taken_some (suc n) (x ∷ piece) h k e = absurd cc

no_end_of : (E : Type 0) (room count n : ℕ) → 0 < count → ends_met_after {E = E} room (Ok count) n ≡ n
no_end_of E room count n some = let is : (count == 0) ≡ false = ne_eqb count 0 (omega arith) in rw is refl

-- what a pull gave
pub come_of : {E : Type 0} (old new : KnownSource) (count : ℕ) (piece : List ℕ) → IsPull {E = E} old new (Ok count) piece → count ≤ length piece → 0 < count → HasCome (take count piece) old new
come_of {E} old new count piece pull within some = record {
  some = taken_some count piece within some;
  bytes = pull.bytes.0;
  used = record { pulls_on = pull.pulls; failures_on = pull.failures ∙ no_more old.failures; ends_on = pull.ends_met ∙ no_end_of E (length piece) count old.ends_met some ∙ no_more old.ends_met };
}

-- ---- pieces

bytes_on : (xs : List (List ℕ)) (piece : List ℕ) → bytes_in (xs ++ piece ∷ []) ≡ bytes_in xs ++ piece
bytes_on xs piece = flat_map-append (λ (p : List ℕ). p) xs (piece ∷ []) ∙ ap (λ l. bytes_in xs ++ l) (append-nil piece)

needed_on : (pending : List ℕ) (xs : List (List ℕ)) (piece : List ℕ) → AreNeeded pending xs → frame_at (pending ++ bytes_in xs) ≡ Err unfinished → piece ≢ [] → AreNeeded pending (xs ++ piece ∷ [])
needed_on pending [] piece p waits some = (subst (λ l. frame_at l ≡ Err unfinished) (append-nil pending) waits, some, tt)
needed_on pending (x ∷ xs) piece p waits some = (p.0, p.1, needed_on (pending ++ x) xs piece p.2 (subst (λ l. frame_at l ≡ Err unfinished) (sym (append_assoc pending x (bytes_in xs))) waits) some)

length_on : (xs : List (List ℕ)) (piece : List ℕ) → length (xs ++ piece ∷ []) ≡ length xs + 1
length_on xs piece = length-append xs (piece ∷ [])

-- ---- use of a source

used_none : (s : KnownSource) → IsUsed 0 0 0 s s
used_none s = record { pulls_on = no_more s.pulls; failures_on = no_more s.failures; ends_on = no_more s.ends_met }

more_on : (a b n m k : ℕ) → m ≡ so_many_more a n → k ≡ so_many_more b m → k ≡ so_many_more (a + b) n
more_on a b n m k p q = omega arith

none_more : (b n m k : ℕ) → m ≡ so_many_more 0 n → k ≡ so_many_more b m → k ≡ so_many_more b n
none_more b n m k p q = omega arith

used_on : (a b c : KnownSource) (n failures ends : ℕ) → IsUsed n 0 0 a b → IsUsed 1 failures ends b c → IsUsed (n + 1) failures ends a c
used_on a b c n failures ends p q = record {
  pulls_on = more_on n 1 a.pulls b.pulls c.pulls p.pulls_on q.pulls_on;
  failures_on = none_more failures a.failures b.failures c.failures p.failures_on q.failures_on;
  ends_on = none_more ends a.ends_met b.ends_met c.ends_met p.ends_on q.ends_on;
}

-- ---- so many pulls

-- so many pieces came, each where it was needed, and stand behind what was pending
pub record IsOn (turn : ℕ) (old now : FrameStream) (from to : KnownSource) : Type 0 where
  pub pieces : List (List ℕ)
  pub needed : AreNeeded old.pending pieces
  pub bytes : Consumes from.left to.left (bytes_in pieces)
  pub count : length pieces ≡ turn
  pub used : IsUsed (length pieces) 0 0 from to
  pub all : now.pending ≡ old.pending ++ bytes_in pieces
  pub spent : now.is_spent ≡ true → old.is_spent ≡ true

pub on_start : (old : FrameStream) (from : KnownSource) → IsOn 0 old old from from
on_start old from = record {
  pieces = [];
  needed = tt;
  bytes = Consumes-nil from.left;
  count = refl;
  used = used_none from;
  all = sym (append-nil old.pending);
  spent = λ e. e;
}

module _ {B : Type 0} (bytes_of : B → List ℕ) (turn : ℕ) (old now : FrameStream) (from to : KnownSource) (on : IsOn turn old now from to) where
  -- what stands next ends it
  ended : (turns : ℕ) (new : FrameStream) (result : Result B LineFault) → turn ≤ turns → EndsAs bytes_of turns (length on.pieces) (old.pending ++ bytes_in on.pieces) old new from to result
      → IsReceived bytes_of turns old new from to result
  ended turns new result within ends = record { pieces = on.pieces; needed = on.needed; bytes = on.bytes; within = subst (λ n. n ≤ turns) (sym on.count) within; ends = ends }

  pub ends_body : (turns : ℕ) (new : FrameStream) (body : B) → turn ≤ turns → IsNext bytes_of now new (Ok (Some body)) → IsReceived bytes_of turns old new from to (Ok body)
  ends_body turns new body within next = ended turns new (Ok body) within (subst (λ l. StandsNext l (bytes_of body) new.pending) on.all next.0, on.used)

  pub ends_next : (turns : ℕ) (new : FrameStream) (fault : LineFault) → turn ≤ turns → IsNext bytes_of now new (Err fault) → IsReceived bytes_of turns old new from to (Err fault)
  ends_next turns new FrameTooLong within next = ended turns new (Err FrameTooLong) within (ap frame_at (sym on.all) ∙ next.0, ap (λ (s : FrameStream). s.pending) next.1 ∙ on.all, on.used)
  ends_next turns new Memory within next = ended turns new (Err Memory) within (wants next, on.used) where
    wants : (now.is_spent ≡ true) ⊎ IsOk (frame_at now.pending) → (old.is_spent ≡ true) ⊎ ((0 < length on.pieces) ⊎ IsOk (frame_at (old.pending ++ bytes_in on.pieces)))
    wants (inl spent) = inl (on.spent spent)
    wants (inr body) = inr (inr (subst (λ l. IsOk (frame_at l)) on.all body))
  ends_next turns new Ended within next = absurd next
  ends_next turns new Cut within next = absurd next
  ends_next turns new Turns within next = absurd next
  ends_next turns new Read within next = absurd next
  ends_next turns new Write within next = absurd next

  pub ends_turned : (new : FrameStream) → IsNext bytes_of now new (Ok None) → IsReceived bytes_of turn old new from to (Err Turns)
  ends_turned new next = ended turn new (Err Turns) (omega arith) (ap frame_at (sym on.all) ∙ next.0, on.count, next.1 ∙ on.all, on.used)

  module _ (mid : FrameStream) (next : IsNext bytes_of now mid (Ok None)) (new : FrameStream) (then : KnownSource) where
    waits : frame_at (old.pending ++ bytes_in on.pieces) ≡ Err unfinished
    waits = ap frame_at (sym on.all) ∙ next.0

    pub on_pulled : (D : Type 0) (done : D) → IsPulled {D = D} mid new to then (Ok done) → IsOn (turn + 1) old new from then
    on_pulled D done pull = record {
      pieces = on.pieces ++ pull.0 ∷ [];
      needed = needed_on old.pending on.pieces pull.0 on.needed waits pull.1.some;
      bytes = subst (Consumes from.left then.left) (sym (bytes_on on.pieces pull.0)) (Consumes-trans from.left to.left then.left (bytes_in on.pieces) pull.0 on.bytes pull.1.bytes);
      count = length_on on.pieces pull.0 ∙ ap (λ n. n + 1) on.count;
      used = subst (λ n. IsUsed n 0 0 from then) (sym (length_on on.pieces pull.0)) (used_on from to then (length on.pieces) 0 0 on.used pull.1.used);
      all = ap (λ (s : FrameStream). s.pending) pull.2 ∙ ap (λ l. l ++ pull.0) (next.1 ∙ on.all) ∙ append_assoc old.pending (bytes_in on.pieces) pull.0 ∙ ap (λ l. old.pending ++ l) (sym (bytes_on on.pieces pull.0));
      spent = λ e. absurd cc;
    }

    -- the pull ended it
    left : (source : KnownSource) → (new ≡ mid) → new.pending ≡ old.pending ++ bytes_in on.pieces
    left source same = ap (λ (s : FrameStream). s.pending) same ∙ next.1 ∙ on.all

    still : mid.pending ≡ old.pending ++ bytes_in on.pieces
    still = next.1 ∙ on.all

    closes : (turns : ℕ) (result : Result B LineFault) → turn ≤ turns → Keeps to.left then.left → EndsAs bytes_of turns (length on.pieces) (old.pending ++ bytes_in on.pieces) old new from then result
        → IsReceived bytes_of turns old new from then result
    closes turns result within kept ends = record {
      pieces = on.pieces;
      needed = on.needed;
      bytes = Consumes-kept from.left to.left then.left (bytes_in on.pieces) on.bytes kept;
      within = subst (λ n. n ≤ turns) (sym on.count) within;
      ends = ends;
    }

    pub ends_pulled : (D : Type 0) (turns : ℕ) (fault : LineFault) → turn < turns → IsPulled {D = D} mid new to then (Err fault) → IsReceived bytes_of turns old new from then (Err fault)
    ends_pulled D turns Read within pull =
        closes turns (Err Read) (omega arith) pull.0.kept (waits, left then pull.1, used_on from to then (length on.pieces) 1 0 on.used pull.0.used)
    ends_pulled D turns Ended within pull =
        closes turns (Err Ended) (omega arith) pull.0.kept (sym still ∙ pull.1, left then pull.2 ∙ sym still ∙ pull.1, pull.0.at_end, used_on from to then (length on.pieces) 0 1 on.used pull.0.used)
    ends_pulled D turns Cut within pull =
        closes turns (Err Cut) (omega arith) pull.0.kept (waits, (λ e. pull.1 (still ∙ e)), left then pull.2, pull.0.at_end, used_on from to then (length on.pieces) 0 1 on.used pull.0.used)
    ends_pulled D turns Memory within pull = record {
      pieces = on.pieces ++ pull.0 ∷ [];
      needed = needed_on old.pending on.pieces pull.0 on.needed waits pull.1.some;
      bytes = subst (Consumes from.left then.left) (sym (bytes_on on.pieces pull.0)) (Consumes-trans from.left to.left then.left (bytes_in on.pieces) pull.0 on.bytes pull.1.bytes);
      within = subst (λ n. n ≤ turns) (sym (length_on on.pieces pull.0 ∙ ap (λ n. n + 1) on.count)) (omega arith);
      ends = (inr (inl (subst (λ n. 0 < n) (sym (length_on on.pieces pull.0)) (omega arith))), subst (λ n. IsUsed n 0 0 from then) (sym (length_on on.pieces pull.0)) (used_on from to then (length on.pieces) 0 0 on.used pull.1.used));
    }
    ends_pulled D turns FrameTooLong within pull = absurd pull.1
    ends_pulled D turns Turns within pull = absurd pull.1
    ends_pulled D turns Write within pull = absurd pull.1
