-- Each step keeps the rule of the inbox: that it delivers what was put (`Moves`), and that it is for one board.
use Rattle.std.proofs.Common.{◌≡◌, ◌≢◌, ℕ, zero, suc, true, false, true≢false, List, [], ◌∷◌, ◌++◌, length, set, sym, refl, ap, ◌∙◌, subst, ⊎_elim}
use mathlib.Core.Option.{some, some-injective, some-ne-none}
use lib.ListN.{get_elem?}
use Rattle.crossbeam_queue.specs.Fifo.{Pushes, Pops, Forks, Merges, Learns}
use Rattle.crossbeam_queue.proofs.Lists.{at_set, at_snoc}
use Rattle.board.specs.declared.rule.Label.{Label}
use Rattle.inbox.specs.declared.submission.Submission.{Submission}
use Rattle.inbox.specs.declared.rule.Hand.{Hand}
use Rattle.inbox.specs.Counts.{HasLast}
use Rattle.receipts.specs.Ends.{channel_to}
use Rattle.inbox.specs.Hands.{entries_of, receiver, sender, nobody, IsSender, IsReceiver, after_put, after_take, after_hire, after_retire, after_bind, Fits, Delivers, IsAll}
use Rattle.inbox.specs.Books.{label_in, Books, Holds}
use Rattle.inbox.proofs.Moves as moves
use Rattle.inbox.proofs.Moves.{at_end, all_set, All}

-- an empty list has nothing anywhere
nothing_at : {A : Type 0} (k : ℕ) (x : A) → get_elem? [] k ≢ some x
nothing_at k x e = some-ne-none x (sym e)

-- where a bound pass keeps its board, each bound pass knows the same board as before
each_set : (views : List Hand) (pass : ℕ) (v w : Hand) (b : Label)
    → get_elem? views pass ≡ some v → v.bound ≡ true → w.label ≡ v.label
    → ((j : ℕ) (u : Hand) → get_elem? views j ≡ some u → u.bound ≡ true → u.label ≡ b)
    → (j : ℕ) (u : Hand) → get_elem? (set views pass w) j ≡ some u → u.bound ≡ true → u.label ≡ b
each_set views pass v w b at vb wb each j u e bd =
    ⊎_elim (λ (x : (j ≡ pass) × (w ≡ u)). ap (λ (h : Hand). h.label) (sym x.1) ∙ (wb ∙ each pass v at vb))
    (λ (x : (j ≢ pass) × (get_elem? views j ≡ some u)). each j u x.1 bd) (at_set views pass j w u e)

-- where one pass is bound, no receiver is unbound
not_early : (items : List Submission) (views : List Hand) (pass : ℕ) (v w : Hand)
    → Books items views → get_elem? views pass ≡ some v → v.bound ≡ true → w.bound ≡ true
    → (j : ℕ) (u : Hand) → get_elem? (set views pass w) j ≡ some u → u.gets ≡ true → u.bound ≡ false → ⊥
not_early items views pass v w h at vb wb j u e gets free =
    ⊎_elim (λ (x : (j ≡ pass) × (w ≡ u)). true≢false (sym wb ∙ (ap (λ (h : Hand). h.bound) x.1 ∙ free)))
    (λ (x : (j ≢ pass) × (get_elem? views j ≡ some u)). true≢false (sym vb ∙ (h.early j u x.1 gets free).1 pass v at)) (at_set views pass j w u e)

-- what a list of one has is that one
only_is : (a b : Hand) (j : ℕ) → get_elem? (a ∷ []) j ≡ some b → a ≡ b
only_is a b zero e = some-injective a b e
only_is a b (suc j) e = absurd (some-ne-none b (sym e))

-- a new inbox is empty, and has one pass, which receives and is not bound
pub begins : Holds [] (receiver [] 0 [] ∷ [])
begins = (
  moves.begins,
  record {
    label = (receiver [] 0 []).label;
    same = λ k s e. absurd (nothing_at k s e);
    each = λ j v e bd. ap (λ (h : Hand). h.label) (sym (only_is (receiver [] 0 []) v j e));
    early = λ j v e gets free. (refl, λ i u there. ap (λ (h : Hand). h.bound) (sym (only_is (receiver [] 0 []) u i there)));
  },
)

-- a sender puts an entry of its seat, for its board
pub puts : (n pass : ℕ) (v : Hand) (s : Submission)
    → IsSender s.entry.seat v → label_in s ≡ v.label → Pushes Holds n pass v s (λ w. w ≡ after_put v s.entry (channel_to s.answering))
puts n pass v s may sb items views room h at =
    let w : Hand = after_put v s.entry (channel_to s.answering) in
    let vb : v.bound ≡ true = may.3 in
    let p = moves.puts n pass v s may items views room h.0 at in
    let b = h.1 in (
      w,
      (
        subst (λ (u : Hand). Delivers (items ++ s ∷ []) (set views pass u)) p.2 p.1,
        record {
          label = b.label;
          same = λ k y e. ⊎_elim (b.same k y) (λ (eq : s ≡ y). ap label_in (sym eq) ∙ (sb ∙ b.each pass v at vb)) (at_snoc items s y k e);
          each = each_set views pass v w b.label at vb refl b.each;
          early = λ j u e gets free. absurd (not_early items views pass v w b at vb vb j u e gets free);
        },
      ),
      refl,
    )

-- the receiver takes an entry, which is for its board
pub takes : (pass : ℕ) (v : Hand)
    → IsReceiver v → Pops Holds pass v (λ x w. (w ≡ after_take v x.entry) × (label_in x ≡ v.label))
takes pass v may s items views h at =
    let w : Hand = after_take v s.entry in
    let vb : v.bound ≡ true = may.2 in
    let p = moves.takes pass v may s items views h.0 at in
    let b = h.1 in (
      w,
      (
        subst (λ (u : Hand). Delivers items (set views pass u)) p.2 p.1,
        record {
          label = b.label;
          same = λ k y e. b.same (suc k) y e;
          each = each_set views pass v w b.label at vb refl b.each;
          early = λ j u e gets free. absurd (not_early (s ∷ items) views pass v w b at vb vb j u e gets free);
        },
      ),
      (refl, b.same 0 s refl ∙ sym (b.each pass v at vb)),
    )

-- the receiver makes the next sender, for its board
pub hires : (pass : ℕ) (v : Hand) → IsReceiver v → Forks Holds pass v (after_hire v) (sender v.label v.made)
hires pass v may items views h at =
    let w : Hand = after_hire v in
    let vb : v.bound ≡ true = may.2 in
    let new : Hand = sender v.label v.made in
    let b = h.1 in (
      moves.hires pass v may items views h.0 at,
      record {
        label = b.label;
        same = b.same;
        each = λ j u e bd. ⊎_elim (λ t. each_set views pass v w b.label at vb refl b.each j u t bd) (λ (eq : new ≡ u). ap (λ (h : Hand). h.label) (sym eq) ∙ b.each pass v at vb) (at_snoc (set views pass w) new u j e);
        early = λ j u e gets free. absurd (⊎_elim (λ t. not_early items views pass v w b at vb vb j u t gets free) (λ (eq : new ≡ u). true≢false (ap (λ (h : Hand). h.bound) eq ∙ free)) (at_snoc (set views pass w) new u j e));
      },
    )

-- the receiver is bound, while the inbox is empty and no pass is bound
pub binds : (pass : ℕ) (v : Hand) (l : Label)
    → v.gets ≡ true → v.bound ≡ false → Forks Holds pass v (after_bind l v) nobody
binds pass v l may free items views h at =
    let w : Hand = after_bind l v in
    let vs : List Hand = set views pass w in
    let d = h.0 in
    let b = h.1 in
    let old = b.early pass v at may free in
    let F : ℕ → Hand → Type 0 = Fits d.reader d.seat d.sent d.out in
    let f = d.each pass v at in
    let mine : F pass w = (f.0, (λ yes. let r = f.1 yes in record { here = r.here; took = r.took; later = r.later; ended = r.ended; fewer = r.fewer })) in
    let stays : All F vs = all_set F views pass w mine (λ j u other e. d.each j u e) in
    let unbound : (j : ℕ) (u : Hand) → nobody ≡ u → u.bound ≡ true → ⊥ = λ j u eq bd. true≢false (sym bd ∙ ap (λ (h : Hand). h.bound) (sym eq)) in (
      record {
        reader = d.reader;
        seat = d.seat;
        sent = d.sent;
        out = d.out;
        all = d.all;
        each = λ j u e. ⊎_elim (stays j u) (λ (t : (j ≡ length vs) × (nobody ≡ u)). subst (λ (y : ℕ × Hand). F y.0 y.1) (λ i. (sym t.0 i, t.1 i)) ((λ yes. absurd (true≢false (sym yes))), (λ yes. absurd (true≢false (sym yes))))) (at_end vs nobody u j e);
      },
      record {
        label = l;
        same = λ k s e. absurd (nothing_at k s (subst (λ (xs : List Submission). get_elem? xs k ≡ some s) old.0 e));
        each = λ j u e bd. ⊎_elim
            (λ t. ⊎_elim (λ (x : (j ≡ pass) × (w ≡ u)). ap (λ (h : Hand). h.label) (sym x.1)) (λ (x : (j ≢ pass) × (get_elem? views j ≡ some u)). absurd (true≢false (sym bd ∙ old.1 j u x.1))) (at_set views pass j w u t))
            (λ (eq : nobody ≡ u). absurd (unbound j u eq bd)) (at_snoc vs nobody u j e);
        early = λ j u e gets no. absurd (⊎_elim
            (λ t. ⊎_elim (λ (x : (j ≡ pass) × (w ≡ u)). true≢false (ap (λ (h : Hand). h.bound) x.1 ∙ no))
            (λ (x : (j ≢ pass) × (get_elem? views j ≡ some u)). x.0 (((d.each j u x.1).1 gets).here ∙ sym ((d.each pass v at).1 may).here)) (at_set views pass j w u t))
            (λ (eq : nobody ≡ u). true≢false (sym gets ∙ ap (λ (h : Hand). h.gets) (sym eq))) (at_snoc vs nobody u j e));
      },
    )

-- the receiver takes the next sender in
pub retires : (pass : ℕ) (v : Hand) (other : ℕ) (w : Hand) (seat : ℕ)
    → IsReceiver v → IsSender seat w → seat ≡ length v.known → Merges Holds pass v other w (after_retire v w) nobody
retires pass v other w seat may sends next items views h at two at' =
    let both : Hand = after_retire v w in
    let vb : v.bound ≡ true = may.2 in
    let vs : List Hand = set views pass both in
    let b = h.1 in (
      moves.retires pass v other w may sends.0 (sends.2 ∙ next) items views h.0 at two at',
      record {
        label = b.label;
        same = b.same;
        each = λ j u e bd. ⊎_elim (λ (x : (j ≡ other) × (nobody ≡ u)). absurd (true≢false (sym bd ∙ ap (λ (h : Hand). h.bound) (sym x.1))))
            (λ (x : (j ≢ other) × (get_elem? vs j ≡ some u)). each_set views pass v both b.label at vb refl b.each j u x.1 bd) (at_set vs other j nobody u e);
        early = λ j u e gets free. absurd (⊎_elim (λ (x : (j ≡ other) × (nobody ≡ u)). true≢false (sym gets ∙ ap (λ (h : Hand). h.gets) (sym x.1)))
            (λ (x : (j ≢ other) × (get_elem? vs j ≡ some u)). not_early items views pass v both b at vb vb j u x.1 gets free) (at_set vs other j nobody u e));
      },
    )

-- what the receiver learns of an inbox at any moment
pub learns : (pass : ℕ) (v : Hand) → IsReceiver v → Learns Holds pass v (λ items. IsAll v (entries_of items))
learns pass v may items views h at = moves.learns pass v may.0 items views h.0 at

-- what a sender learns of an inbox at any moment
pub learns_put : (pass : ℕ) (v : Hand) (seat : ℕ) → IsSender seat v → Learns Holds pass v (λ items. HasLast v (entries_of items))
learns_put pass v seat may items views h at = moves.learns_put pass v may.0 items views h.0 at
