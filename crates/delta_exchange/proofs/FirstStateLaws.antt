-- What texts of states obey.
use Rattle.std.proofs.Common.{◌≡◌, ℕ, true, List, ◌++◌, Result, Ok, Err, refl, sym, ap, subst, ◌∙◌, append_assoc, arith}
use Rattle.std.specs.Prelude.{IfOk}
use Rattle.generations_rule.specs.Refusal.{AnswersAs}
use Rattle.generations_rule.specs.Rule.{GenerationsRule, IsRule}
use Rattle.edit_stamps.specs.PlaneMap.{HasStampedWrites, LiesInPlane}
use Rattle.stamped_writes.specs.Write.{Writes, AreSame}
use Rattle.stamped_tree.specs.Plane.{StampedPlane, map_of}
use Rattle.stamped_tree.specs.Tree.{Tree, IsPlaneTree, plane_corner}
use Rattle.stamped_tree.proofs.TreeLaws.{one_tree, one_map}
use Rattle.byte_codec.specs.Codec.{AreBytes}
use Rattle.byte_codec.proofs.CodecLaws.{keeps_texts_apart, has_one_text}
use Rattle.delta_exchange.specs.declared.fault.ReadFault.{ReadFault}
use Rattle.delta_exchange.specs.declared.fault.ReadFault.TheVariants.{Trailing}
use Rattle.delta_exchange.specs.Fault.{IsWantOrFull}
use Rattle.delta_exchange.specs.Spelling.{head_text}
use Rattle.delta_exchange.specs.State.{IsTellableMap, StandsForTree}
use Rattle.delta_exchange.specs.Versions.{HasOneFirstText, HasOwnFirstTexts}
use Rattle.delta_exchange.specs.StateReading.{state_text_at, state_tree_of, tree_at}
use Rattle.delta_exchange.specs.FirstStateText.{IsFirstStateText, tree_state_text, tree_text}
use Rattle.delta_exchange.specs.StateText.{state_magic}
use Rattle.delta_exchange.proofs.DeltaCodec.{head_of, head_spelt}
use Rattle.delta_exchange.proofs.DeltaLaws.{heads_apart}
use Rattle.delta_exchange.proofs.SquareSteps.{answered}
use Rattle.delta_exchange.proofs.TreeCodec.{state_codec, tree_codec, tree_suits}
use Rattle.delta_exchange.proofs.TreeSuits.{below_of_suits, same_maps, tree_of_map_suits}

pub has_one_first_text : HasOneFirstText
has_one_first_text r p q a b s t same = s.spelt ∙ ap (tree_state_text r) (one_tree p q 28 plane_corner s.tree t.tree s.of_map t.of_map (λ c h. same c)) ∙ sym t.spelt

pub has_own_first_texts : HasOwnFirstTexts
unfolding head_text
has_own_first_texts q r m n a b x y is_q is_r are_m are_n s t e =
    let regrouped : head_spelt (head_of state_magic 1 q) ++ (tree_text s.tree ++ x) ≡ head_spelt (head_of state_magic 1 r) ++ (tree_text t.tree ++ y) =
    sym (append_assoc (head_spelt (head_of state_magic 1 q)) (tree_text s.tree) x) ∙ ap (λ l. l ++ x) (sym s.spelt) ∙ e ∙ ap (λ l. l ++ y) t.spelt ∙ append_assoc (head_spelt (head_of state_magic 1 r)) (tree_text t.tree) y in
    let heads : (q ≡ r) × (tree_text s.tree ++ x ≡ tree_text t.tree ++ y) = heads_apart state_magic 1 q r (tree_text s.tree ++ x) (tree_text t.tree ++ y) refl refl is_q is_r regrouped in
    let suits_s : tree_suits r.states 28 s.tree ≡ true = subst (λ (z : GenerationsRule). tree_suits z.states 28 s.tree ≡ true) heads.0 (tree_of_map_suits q.states m are_m 28 plane_corner s.tree s.of_map) in
    let rest : (s.tree ≡ t.tree) × (x ≡ y) =
    keeps_texts_apart tree_text (tree_suits r.states 28) (tree_at r.states 28) (tree_codec r.states is_r.most 28) s.tree t.tree x y suits_s (tree_of_map_suits r.states n are_n 28 plane_corner t.tree t.of_map) heads.1 in
    (heads.0, (same_maps m n are_m.inside are_n.inside (one_map m n 28 plane_corner t.tree (subst (λ tree. IsPlaneTree m tree) rest.0 s.of_map) t.of_map), rest.1))

-- ---- whole texts

found_in_state : (r : GenerationsRule) (text : List ℕ) (plane : StampedPlane) (tree : Tree) → IsRule r → AreBytes text → HasStampedWrites (map_of plane) → LiesInPlane (map_of plane)
    → state_tree_of r text ≡ Ok tree → IsPlaneTree (map_of plane) tree → IsTellableMap r.states (map_of plane) × IsFirstStateText r (map_of plane) text
found_in_state r text plane tree is are stamped lies e of_map =
    let t = (has_one_text (tree_state_text r) (tree_suits r.states 28) Trailing (state_text_at r) (state_codec r is)).takes text tree are e in
    let least = is.least in (
      record { below = below_of_suits r.states (map_of plane) tree (omega (arith, least)) lies of_map t.0; stamped = stamped; inside = lies },
      record { tree = tree; of_map = of_map; spelt = t.1 },
    )

-- a plane that is answered where a text is read is what the text tells
pub state_found : (r : GenerationsRule) (text : List ℕ) (plane : StampedPlane) → IsRule r → AreBytes text → HasStampedWrites (map_of plane) → LiesInPlane (map_of plane)
    → AnswersAs StandsForTree IsWantOrFull (Ok plane) (state_tree_of r text) → IsTellableMap r.states (map_of plane) × IsFirstStateText r (map_of plane) text
state_found r text plane is are stamped lies exact =
    let a = answered StandsForTree IsWantOrFull plane (state_tree_of r text) exact in
    found_in_state r text plane a.0 is are stamped lies a.1.0 a.1.1

pub read_state_again : (r : GenerationsRule) (p : Writes) (text : List ℕ) → IsRule r → IsTellableMap r.states p → (s : IsFirstStateText r p text) → state_tree_of r text ≡ Ok s.tree
read_state_again r p text is are s =
    ap (state_tree_of r) s.spelt
    ∙ (has_one_text (tree_state_text r) (tree_suits r.states 28) Trailing (state_text_at r) (state_codec r is)).again s.tree (tree_of_map_suits r.states p are 28 plane_corner s.tree s.of_map)

-- a map that a text tells is answered
pub state_only : (r : GenerationsRule) (text : List ℕ) (result : Result StampedPlane ReadFault) → IsRule r → AnswersAs StandsForTree IsWantOrFull result (state_tree_of r text)
    → IfOk result (λ plane. LiesInPlane (map_of plane)) → (meant : Writes) → IsTellableMap r.states meant → IsFirstStateText r meant text
    → AnswersAs (λ (plane : StampedPlane) (p : Writes). AreSame (map_of plane) p) IsWantOrFull result (Ok meant)
state_only r text (Ok plane) is exact lies meant are s =
    let again = read_state_again r meant text is are s in
    let of_map : IsPlaneTree (map_of plane) s.tree = subst (λ (m : Result Tree ReadFault). AnswersAs StandsForTree IsWantOrFull (Ok plane) m) again exact in
    same_maps (map_of plane) meant lies are.inside (one_map (map_of plane) meant 28 plane_corner s.tree of_map s.of_map)
state_only r text (Err fault) is exact lies meant are s =
    subst (λ (m : Result Tree ReadFault). AnswersAs StandsForTree IsWantOrFull (Err fault) m) (read_state_again r meant text is are s) exact
