use Rattle.std.proofs.Common.{◌≡◌, ◌++◌, List, sym, ap, subst, ◌∙◌, arith}
use Rattle.std.proofs.lemmas.List.{append-nil}
use mathlib.Core.List.{IsPrefix}
use Rattle.board.specs.declared.entry.Entry.{Entry}
use Rattle.kept_log.specs.Kept.{Keeps}
use Rattle.board_keeper.specs.Keeping.{bodies_in}
use Rattle.board_keeper.proofs.Doing.{none_made}
use Rattle.board_keeper.proofs.Files.{begins_itself, keeps_leaves}
use Rattle.board_keeper.proofs.keeper.Keeper.new.Goals as goal

pub invariant_of-result : goal.invariant_of-result
invariant_of-result g c =
    let a = c.args.relay in
    let bodies = bodies_in c.args.rule a.list in
    let out : a.out ≡ a.list = c.has_published_all-all.ensures.out ∙ ap (λ (l : List Entry). a.list ++ l) c.requires.kept ∙ append-nil a.list in record {
      out = c.has_published_all-all.ensures.out;
      ready = c.has_published_all-all.ensures.ready;
      within = omega arith;
      in_file = λ takes. subst (λ (l : List Entry). Keeps (bodies_in c.args.rule l) (g.K.Keep.known c.args.log.keep)) (sym (append-nil a.list)) c.requires.file;
      takes = λ more. absurd (omega (arith, more));
      begun = λ empty. absurd (cc (empty, c.requires.open));
      failed = λ f. absurd (cc (f, c.requires.open));
      safe = keeps_leaves bodies bodies (bodies_in c.args.rule a.out) (g.K.Keep.known c.args.log.keep) (begins_itself bodies)
          (subst (λ (l : List Entry). IsPrefix bodies (bodies_in c.args.rule l)) (sym out) (begins_itself bodies)) c.requires.file;
      made = none_made c.args.rule a.kept a.ready c.new.result.items c.new.ensures.items;
      none = λ more. c.new.ensures.items;
    }
