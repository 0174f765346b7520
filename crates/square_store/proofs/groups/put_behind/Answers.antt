use Rattle.std.proofs.Common.{refl, ap, ◌∙◌}
use Rattle.std.proofs.lemmas.Option.{slice_get_read}
use Rattle.square_store.specs.declared.group.Group.{Group}
use Rattle.square_store.proofs.Chains.{empty_next}
use Rattle.square_store.proofs.groups.put_behind.Goals as goal

pub returns : goal.returns
returns c = record {
  group = c.index_mut.result.now;
  was = slice_get_read c.args.groups.now.items _ c.args.last c.index_mut.result.now refl c.requires.last c.index_mut.ensures.value;
  made = c.put.new.self;
  holds = c.put.ensures.written;
  ends = c.put.ensures.next ∙ ap (λ (g : Group). g.next) c.empty-group.ensures ∙ empty_next;
  whole = c.push_reserved.ensures.items ∙ rw (c.go_on_to.ensures, c.len-next.ensures ∙ c.args.groups.now.ok.0) refl;
}
