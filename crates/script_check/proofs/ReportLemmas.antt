-- Texts that grow, entry by entry.
use Rattle.std.proofs.Common.{◌≡◌, ℕ, List, [], ◌∷◌, ◌++◌, sym, ◌∙◌, ap, subst, append_assoc, append-nil, map, take}
use Rattle.std.specs.Prelude.{length}
use Rattle.std.proofs.Common.{◌+◌, ◌<◌, get_or}
use Rattle.std.proofs.lemmas.List.{take_more, map-append}
use Rattle.script_check.specs.Report.{AppendEntries, AreEntries, Entry, entry_text, one_more}

-- what an entry is made of, pushed one behind the other
pub pushed : (old place told line carets a b c d e : List ℕ) → a ≡ old ++ place → b ≡ a ++ told → c ≡ b ++ 10 ∷ [] → d ≡ c ++ (line ++ 10 ∷ []) → e ≡ d ++ (carets ++ 10 ∷ []) →
    e ≡ old ++ ((place ++ told) ++ (10 ∷ (((line ++ 10 ∷ []) ++ carets) ++ 10 ∷ [])))
pushed old place told line carets a b c d e is_a is_b is_c is_d is_e =
    let shown : List ℕ = (line ++ 10 ∷ []) ++ (carets ++ 10 ∷ []) in
    is_e
    ∙ ap (λ (t : List ℕ). t ++ (carets ++ 10 ∷ [])) is_d
    ∙ append_assoc c (line ++ 10 ∷ []) (carets ++ 10 ∷ [])
    ∙ ap (λ (t : List ℕ). t ++ shown) is_c
    ∙ append_assoc b (10 ∷ []) shown
    ∙ ap (λ (t : List ℕ). t ++ (10 ∷ shown)) is_b
    ∙ append_assoc a told (10 ∷ shown)
    ∙ ap (λ (t : List ℕ). t ++ (told ++ (10 ∷ shown))) is_a
    ∙ append_assoc old place (told ++ (10 ∷ shown))
    ∙ ap (λ (t : List ℕ). old ++ t) (sym (append_assoc place told (10 ∷ shown)))
    ∙ ap (λ (t : List ℕ). old ++ ((place ++ told) ++ (10 ∷ t))) (sym (append_assoc (line ++ 10 ∷ []) carets (10 ∷ [])))

-- the words behind what begins a refusal
pub words_behind : (will refusal colon words : List ℕ) → will ++ (refusal ++ (colon ++ words)) ≡ will ++ refusal ++ colon ++ words
words_behind will refusal colon words = sym (append_assoc (will ++ refusal) colon words ∙ append_assoc will refusal (colon ++ words))

pub no_more_entries : (name script old : List ℕ) → AppendEntries name script [] old old
no_more_entries name script old before entries = subst (λ (all : List Entry). AreEntries name script all old) (sym (append-nil before)) entries

pub one_more_entry : (name script old middle new words : List ℕ) (entries : List Entry) (entry : Entry) → AppendEntries name script entries old middle
    → new ≡ middle ++ entry_text name script entry words → AppendEntries name script (entries ++ entry ∷ []) old new
one_more_entry name script old middle new words entries entry so_far is before are =
    let behind : AreEntries name script ((before ++ entries) ++ entry ∷ []) (middle ++ entry_text name script entry words) =
    one_more (before ++ entries) middle entry words (so_far before are) in
    let there : AreEntries name script (before ++ (entries ++ entry ∷ [])) (middle ++ entry_text name script entry words) =
    subst (λ (all : List Entry). AreEntries name script all (middle ++ entry_text name script entry words)) (append_assoc before entries (entry ∷ [])) behind in
    subst (λ (t : List ℕ). AreEntries name script (before ++ (entries ++ entry ∷ [])) t) (sym is) there

-- the entry of one thing more of a list
pub entry_at : {X : Type 0} (entry_of : X → Entry) (name script old middle new words : List ℕ) (xs : List X) (i : ℕ) (d : X) → i < length xs →
    AppendEntries name script (map entry_of (take i xs)) old middle → new ≡ middle ++ entry_text name script (entry_of (get_or xs i d)) words →
    AppendEntries name script (map entry_of (take (i + 1) xs)) old new
entry_at entry_of name script old middle new words xs i d within so_far is =
    let entries : map entry_of (take (i + 1) xs) ≡ map entry_of (take i xs) ++ entry_of (get_or xs i d) ∷ [] =
    ap (map entry_of) (take_more xs i d within) ∙ map-append entry_of (take i xs) (get_or xs i d ∷ []) in
    subst (λ (all : List Entry). AppendEntries name script all old new) (sym entries)
    (one_more_entry name script old middle new words (map entry_of (take i xs)) (entry_of (get_or xs i d)) so_far is)
