-- What is read adds few squares: at most as many as bytes are read.
use Rattle.std.proofs.Common.{◌≡◌, ℕ, zero, suc, ◌+◌, ◌-◌, ◌*◌, ◌≤◌, List, [], ◌∷◌, Option, Result, Ok, Err, length, take, drop, refl, sym, ap, arith}
use Rattle.std.specs.Prelude.{◌==◌, ◌&&◌, ◌||◌, not, nat_le, nat_lt}
use Rattle.std.specs.Int.{Width, w8, w32, w64, byte_len, from_be_bytes}
use Rattle.std.proofs.lemmas.Bool.{ltb-false}
use Rattle.std.proofs.lemmas.List.{length-drop}
use Rattle.generations_rule.specs.Refusal.{when}
use Rattle.byte_codec.specs.Reading.{Reading, bytes_at, checked_at, chosen_at, many_at, mapped_at, number_at, onwards, pair_at, unrefused}
use Rattle.byte_codec.proofs.Steps.{ok_is, onwards_ok, refused_first, unrefused_ok}
use Rattle.stamped_writes.specs.declared.write.Write.{Write}
use Rattle.square_store.specs.Grid.{Grid}
use Rattle.square_store.specs.Squares.{Held}
use Rattle.square_store.specs.Store.{IsAdded, Stood, Added}
use Rattle.stamped_tree.specs.declared.leaf_kind.PlaneLeaf.{PlaneLeaf}
use Rattle.stamped_tree.specs.LeafKind.{plane_grid}
use Rattle.delta_exchange.specs.declared.fault.ReadFault.{ReadFault}
use Rattle.delta_exchange.specs.declared.fault.ReadFault.TheVariants.{NotCanonical, Short, StoreFull}
use Rattle.generations_rule.specs.Rule.{GenerationsRule}
use Rattle.delta_exchange.specs.Reading.{byte_at, flag_at, head_at, magic_at, rule_at, version_at}
use Rattle.delta_exchange.specs.StateReading.{as_before, register_at, register_fault, registers_at, tag_at, write_of_words}
use Rattle.delta_exchange.specs.EntryReading.{level_at}
use Rattle.delta_exchange.specs.Room.{AddsFew}
use Rattle.delta_exchange.proofs.SquareSteps.{same_fault}

-- ---- bytes that are read

-- a reading takes at least so many bytes
abbrev Takes : {A : Type 0} → ℕ → Reading ReadFault A → Type 0
Takes {A} least read = (value : A) (text rest : List ℕ) → read text ≡ Ok (value, rest) → least + length rest ≤ length text

number_takes : (width : Width) → Takes (byte_len width) (number_at Short width)
number_takes width value text rest e =
    let cut = refused_first (nat_lt (length text) (byte_len width)) Short (from_be_bytes width (take (byte_len width) text), drop (byte_len width) text) (value, rest) e in
    omega (arith, ltb-false _ _ cut.0, length-drop (byte_len width) text, ap (λ (p : ℕ × List ℕ). length p.1) cut.1)

checked_takes : {A : Type 0} (fault_of : A → Option ReadFault) (read : Reading ReadFault A) (least : ℕ) → Takes least read → Takes least (checked_at fault_of read)
checked_takes {A} fault_of read least takes value text rest e =
    let step = onwards_ok (read text) (λ x rest. unrefused (fault_of x) (x, rest)) (value, rest) e in
    let same = unrefused_ok (fault_of step.0) (step.0, step.1) (value, rest) step.3 in
    omega (arith, takes step.0 text step.1 step.2, ap (λ (p : A × List ℕ). length p.1) same.1)

mapped_takes : {A B : Type 0} (view : A → B) (read : Reading ReadFault A) (least : ℕ) → Takes least read → Takes least (mapped_at view read)
mapped_takes {A} {B} view read least takes value text rest e =
    let step = onwards_ok (read text) (λ x rest. Ok (view x, rest)) (value, rest) e in
    let same = ok_is (view step.0, step.1) (value, rest) step.3 in
    omega (arith, takes step.0 text step.1 step.2, ap (λ (p : B × List ℕ). length p.1) same)

pair_takes : {A B : Type 0} (first : Reading ReadFault A) (second : A → Reading ReadFault B) (one other : ℕ) → Takes one first → ((x : A) → Takes other (second x)) → Takes (one + other) (pair_at first second)
pair_takes {A} {B} first second one other takes then value text rest e =
    let step = onwards_ok (first text) (λ x rest. onwards (second x rest) (λ y end. Ok ((x, y), end))) (value, rest) e in
    let next = onwards_ok (second step.0 step.1) (λ y end. Ok ((step.0, y), end)) (value, rest) step.3 in
    let same = ok_is ((step.0, next.0), next.1) (value, rest) next.3 in
    omega (arith, takes step.0 text step.1 step.2, then step.0 next.0 step.1 next.1 next.2, ap (λ (p : (A × B) × List ℕ). length p.1) same)

many_take : {S A : Type 0} (next : S → A → S) (read : S → Reading ReadFault A) (least : ℕ) → ((s : S) → Takes least (read s)) → (count : ℕ) (s : S) → Takes (count * least) (many_at next read count s)
many_take {S} {A} next read least takes zero s value text rest e =
    let same = ok_is ([], text) (value, rest) e in
    omega (arith, ap (λ (p : List A × List ℕ). length p.1) same)
many_take {S} {A} next read least takes (suc count) s value text rest e =
    let step = onwards_ok (read s text) (λ x rest. onwards (many_at next read count (next s x) rest) (λ xs end. Ok (x ∷ xs, end))) (value, rest) e in
    let more = onwards_ok (many_at next read count (next s step.0) step.1) (λ xs end. Ok (step.0 ∷ xs, end)) (value, rest) step.3 in
    let same = ok_is (step.0 ∷ more.0, more.1) (value, rest) more.3 in
    omega (arith, takes s step.0 text step.1 step.2, many_take next read least takes count (next s step.0) more.0 step.1 more.1 more.2, ap (λ (p : List A × List ℕ). length p.1) same)

bytes_take : (count : ℕ) → Takes count (bytes_at Short count)
bytes_take count value text rest e =
    let cut = refused_first (nat_lt (length text) count) Short (take count text, drop count text) (value, rest) e in
    omega (arith, ltb-false _ _ cut.0, length-drop count text, ap (λ (p : List ℕ × List ℕ). length p.1) cut.1)

chosen_takes : {T A : Type 0} (tag : Reading ReadFault T) (branch : T → Reading ReadFault A) (one other : ℕ) → Takes one tag → ((t : T) → Takes other (branch t)) → Takes (one + other) (chosen_at tag branch)
chosen_takes tag branch one other takes then value text rest e =
    let step = onwards_ok (tag text) (λ t rest. branch t rest) (value, rest) e in
    omega (arith, takes step.0 text step.1 step.2, then step.0 value step.1 rest step.3)

-- a head
pub head_takes : (magic : List ℕ) (wanted : ℕ) (r : GenerationsRule) (text rest : List ℕ) → mapped_at (λ head. tt {0}) (head_at magic wanted r) text ≡ Ok (tt {0}, rest) → length rest ≤ length text
head_takes magic wanted r text rest e = omega (arith, mapped_takes (λ head. tt {0}) (head_at magic wanted r) 6 all (tt {0}) text rest e)
  where
    -- the printed rule behind its length
    rule_takes : Takes 1 (rule_at r)
    rule_takes = checked_takes _ (chosen_at byte_at (λ size. bytes_at Short size)) 1
        (chosen_takes byte_at (λ size. bytes_at Short size) 1 0 (number_takes w8) (λ size value text rest e. omega (arith, bytes_take size value text rest e)))

    all : Takes 6 (head_at magic wanted r)
    all = pair_takes (magic_at magic) (λ bytes. pair_at (version_at wanted) (λ version. rule_at r)) 4 2 (checked_takes _ (bytes_at Short 4) 4 (bytes_take 4))
        (λ bytes. pair_takes (version_at wanted) (λ version. rule_at r) 1 1 (checked_takes _ byte_at 1 (number_takes w8)) (λ version. rule_takes))

pub stamp_takes : (stamp : ℕ) (text rest : List ℕ) → Ok (stamp, rest) ≡ number_at Short w64 text → 8 + length rest ≤ length text
stamp_takes stamp text rest e = number_takes w64 stamp text rest (sym e)

pub word_takes : (word : ℕ) (text rest : List ℕ) → Ok (word, rest) ≡ number_at Short w32 text → 4 + length rest ≤ length text
word_takes word text rest e = number_takes w32 word text rest (sym e)

pub tag_takes : (spelt tag : ℕ) (text rest : List ℕ) → Ok (tag, rest) ≡ tag_at spelt text → 1 + length rest ≤ length text
tag_takes spelt tag text rest e = checked_takes (λ tag. when (not (tag == 0 || tag == spelt)) NotCanonical) byte_at 1 (number_takes w8) tag text rest (sym e)

pub flag_takes : (flag : ℕ) (text rest : List ℕ) → Ok (flag, rest) ≡ flag_at text → 1 + length rest ≤ length text
flag_takes flag text rest e = checked_takes (λ flag. when (not (nat_lt flag 2)) NotCanonical) byte_at 1 (number_takes w8) flag text rest (sym e)

pub level_takes : (above : ℕ) (text rest : List ℕ) → Ok (above, rest) ≡ level_at text → 1 + length rest ≤ length text
level_takes above text rest e =
    mapped_takes (λ level. level - 3) (checked_at (λ level. when (not (nat_le 3 level && nat_le level 31)) NotCanonical) byte_at) 1
    (checked_takes (λ level. when (not (nat_le 3 level && nat_le level 31)) NotCanonical) byte_at 1 (number_takes w8)) above text rest (sym e)

pub registers_take : (states : ℕ) (writes : List Write) (text rest : List ℕ) → Ok (writes, rest) ≡ registers_at states 64 text → 1 + length rest ≤ length text
unfolding registers_at
registers_take states writes text rest e = omega (arith, many_take as_before (λ state. register_at states) 9 (λ state. register_takes) 64 tt writes text rest (sym e))
  where
    register_takes : Takes 9 (register_at states)
    register_takes = checked_takes (register_fault states) (mapped_at write_of_words (pair_at (number_at Short w64) (λ stamp. byte_at))) 9
        (mapped_takes write_of_words (pair_at (number_at Short w64) (λ stamp. byte_at)) 9 (pair_takes (number_at Short w64) (λ stamp. byte_at) 8 1 (number_takes w64) (λ stamp. number_takes w8)))

-- ---- squares that are added

-- one square at most
one_added : (s t : Held PlaneLeaf) (k : ℕ) (f : Grid) (p : ℕ) → IsAdded plane_grid 8 s t k f p → length t.squares ≤ suc (length s.squares)
one_added s t k f p (Stood same) = omega (arith, ap (λ (x : Held PlaneLeaf). length x.squares) same)
one_added s t k f p (Added absent at more) = omega (arith, more)

-- one square behind bytes that were read
pub few_added : {A : Type 0} (x : A) (s t : Held PlaneLeaf) (k : ℕ) (f : Grid) (p a n : ℕ) → IsAdded plane_grid 8 s t k f p → 1 + n ≤ a → AddsFew (Ok x) s t a n
few_added x s t k f p a n added fewer = record { few = omega (arith, one_added s t k f p added, fewer); full = λ e. absurd (cc) }

-- a call behind others, which have added few
pub few_behind : {A : Type 0} (r : Result A ReadFault) (s t u : Held PlaneLeaf) (a b n : ℕ) → length t.squares + b ≤ length s.squares + a → t.room ≡ s.room → AddsFew r t u b n → AddsFew r s u a n
few_behind (Ok x) s t u a b n few same adds = record { few = omega (arith, few, adds.few); full = λ e. absurd (cc) }
few_behind (Err f) s t u a b n few same adds = record { few = tt; full = λ e. omega (arith, few, same, adds.full e) }

-- one that adds nothing, and wants no room
pub few_kept : {A : Type 0} (r : Result A ReadFault) (s t : Held PlaneLeaf) (a n : ℕ) → length t.squares + n ≤ length s.squares + a → (r ≡ Err StoreFull → ⊥) → AddsFew r s t a n
few_kept (Ok x) s t a n few room = record { few = few; full = λ e. absurd (cc) }
few_kept (Err f) s t a n few room = record { few = tt; full = λ e. absurd (room e) }

-- the same with a byte more before and now for each that is left
pub few_and_left : {A : Type 0} (r : Result A ReadFault) (s t : Held PlaneLeaf) (n : ℕ) → AddsFew r s t 1 0 → AddsFew r s t (suc n) n
few_and_left (Ok x) s t n adds = record { few = omega (arith, adds.few); full = λ e. absurd (cc) }
few_and_left (Err f) s t n adds = record { few = tt; full = λ e. omega (arith, adds.full e) }

-- a fault that is passed on
few_passed : {A B : Type 0} (r : Result A ReadFault) (q : Result B ReadFault) (f : ReadFault) (s t u : Held PlaneLeaf) (a n m : ℕ) → r ≡ Err f → q ≡ Err f → AddsFew q s t a n → AddsFew r s u a m
few_passed (Ok x) q f s t u a n m e h adds = absurd (cc)
few_passed (Err g) q f s t u a n m e h adds = record { few = tt; full = λ full. adds.full (cc) }

-- a fault that is passed on behind others, which have added few
pub few_stops : {A B : Type 0} (r : Result A ReadFault) (f : ReadFault) (s t u v : Held PlaneLeaf) (a b n m : ℕ) → r ≡ Err f → length t.squares + b ≤ length s.squares + a → t.room ≡ s.room → AddsFew {A = B} (Err f) t u b n → AddsFew r s v a m
few_stops {A} {B} r f s t u v a b n m e few same adds = let stopped : Result B ReadFault = Err f in few_passed r stopped f s u v a n m e refl (few_behind stopped s t u a b n few same adds)

-- one that is none of room
pub few_refused : {A : Type 0} (r : Result A ReadFault) (f : ReadFault) (s u : Held PlaneLeaf) (a m : ℕ) → r ≡ Err f → (f ≡ StoreFull → s.room ≤ length s.squares + a) → AddsFew r s u a m
few_refused (Ok x) f s u a m e room = absurd (cc)
few_refused (Err g) f s u a m e room = record { few = tt; full = λ full. room (same_fault (Err g) f StoreFull e full) }
