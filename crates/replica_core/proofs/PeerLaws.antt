-- What a replica holds is what it took, and two that took the same agree.
use Rattle.std.proofs.Common.{List, ◌++◌, sym, ◌∙◌, ap, subst}
use Rattle.generations_rule.specs.Rule.{GenerationsRule}
use Rattle.edit_stamps.specs.Edit.{PlaneEdit, greatest, writes_of}
use Rattle.edit_stamps.proofs.WriteLaws.{depends_on_members, joins_lists, joins_one_more}
use Rattle.stamped_tree.specs.Plane.{map_of}
use Rattle.stamped_writes.specs.Write.{Writes, AreSame, greater, joined}
use Rattle.delta_exchange.specs.declared.message.Content.{Content}
use Rattle.delta_exchange.specs.declared.message.Content.TheVariants as contents
use Rattle.delta_exchange.specs.MessageReading.{HasMap}
use Rattle.delta_exchange.specs.Message.{writes_in}
use Rattle.delta_exchange.specs.State.{IsTellableMap}
use Rattle.delta_exchange.specs.StateText.{IsStateText}
use Rattle.delta_exchange.proofs.StateLaws.{has_one_state_text}
use Rattle.generation_engine.specs.Universe.{states_in_writes}
use Rattle.export.specs.Export.{IsExport, most_cells}
use Rattle.export.proofs.ExportLaws.{has_one_export}
use Rattle.replica_core.specs.Replica.{ReplicaState, Takes}
use Rattle.replica_core.specs.Peers.{HoldsEdits, HoldsWhatItTook, PeersAgree}
use Rattle.replica_core.proofs.SameMaps.{same_tellable, same_text}

-- a map that is joined with what more edits write
joins_more : (E F : List PlaneEdit) (p q added : Writes) → AreSame p (greatest E) → AreSame added (greatest F) → AreSame q (joined p added) → AreSame q (greatest (E ++ F))
joins_more E F p q added is more whole c =
    whole c ∙ ap (λ w. greater w (added c)) (is c) ∙ ap (greater (greatest E c)) (more c) ∙ sym (joins_lists E F c)

-- the writes of a content that is a map
map_written : (content : Content) (p : Writes) → HasMap content p → AreSame (writes_in content) p
map_written (contents.Edits edits) p has = absurd has
map_written (contents.State plane) p has = has

takes_more : (rule : GenerationsRule) (E F : List PlaneEdit) (r s : ReplicaState) (content : Content) → HoldsEdits rule E r → AreSame (writes_in content) (greatest F) → Takes r s content → HoldsEdits rule (E ++ F) s
takes_more rule E F r s content holds more takes = record {
  same_rule = takes.one.rule ∙ holds.same_rule;
  map = joins_more E F (map_of r.plane) (map_of s.plane) (writes_in content) holds.map more takes.map;
}

pub holds_what_it_took : HoldsWhatItTook
holds_what_it_took = record {
  new = λ rule number nodes r is. record { same_rule = is.same_rule; map = is.map };
  drawn = λ rule E r s e holds draws. record {
    same_rule = draws.one.rule ∙ holds.same_rule;
    map = λ c. draws.map c ∙ ap (λ w. greater w (writes_of e c)) (holds.map c) ∙ sym (joins_one_more E e c);
  };
  edits = λ rule E F r s holds takes. takes_more rule E F r s takes.0 holds (λ c. ap (λ content. writes_in content c) takes.1) takes.2;
  map = λ rule E F r s p holds same takes. takes_more rule E F r s takes.0 holds (λ c. map_written takes.0 p takes.1 c ∙ same c) takes.2;
  refused = λ rule E r s holds is. record { same_rule = is.one.rule ∙ holds.same_rule; map = λ c. is.map c ∙ holds.map c };
  snapshot = λ rule E r m holds is. sent m.content (map_of r.plane) (greatest E) holds.map is.map;
  state = λ rule E r text holds is. subst (λ g. IsStateText g (greatest E) text) holds.same_rule (same_text r.rule (map_of r.plane) (greatest E) text holds.map is);
  tellable = λ rule E r holds is. subst (λ (g : GenerationsRule). IsTellableMap g.states (greatest E)) holds.same_rule (same_tellable r.rule.states (map_of r.plane) (greatest E) holds.map is);
}
  where
    sent : (content : Content) (p q : Writes) → AreSame p q → HasMap content p → HasMap content q
    sent (contents.Edits edits) p q same has = has
    sent (contents.State plane) p q same has = λ c. has c ∙ same c

pub peers_agree : PeersAgree
peers_agree = record {
  maps = λ rule other E F r s one two same. agree E F (map_of r.plane) (map_of s.plane) one.map two.map (depends_on_members E F same);
  bytes = λ rule E F r s a b one two same first second. has_one_state_text rule (map_of r.plane) (map_of s.plane) a b
      (subst (λ g. IsStateText g (map_of r.plane) a) one.same_rule first) (subst (λ g. IsStateText g (map_of s.plane) b) two.same_rule second)
      (agree E F (map_of r.plane) (map_of s.plane) one.map two.map (depends_on_members E F same));
  exports = λ rule E F r s g a b one two same first second. has_one_export rule (states_in_writes (map_of r.plane)) (states_in_writes (map_of s.plane)) g most_cells a b
      (λ c. ap (λ w. w.state) (agree E F (map_of r.plane) (map_of s.plane) one.map two.map (depends_on_members E F same) c))
      (subst (λ t. IsExport t (states_in_writes (map_of r.plane)) g most_cells a) one.same_rule first) (subst (λ t. IsExport t (states_in_writes (map_of s.plane)) g most_cells b) two.same_rule second);
}
  where
    agree : (E F : List PlaneEdit) (p q : Writes) → AreSame p (greatest E) → AreSame q (greatest F) → AreSame (greatest E) (greatest F) → AreSame p q
    agree E F p q one two same c = one c ∙ same c ∙ sym (two c)
