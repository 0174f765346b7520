use Rattle.std.proofs.Common.{◌%◌}
use Rattle.std.proofs.lemmas.Bool.{ne_eqb, lt-ltb, le-ltb}
use Rattle.keyed_hash.specs.Keyed.{taken}
use Rattle.keyed_hash.proofs.hasher.KeyedHasher.take.Goals as goal

pub returns-then-column-eq0 : goal.returns-then-column-eq0
unfolding taken
returns-then-column-eq0 c = rw c.if-column-eq0.true

pub returns-then-column-lt7 : goal.returns-then-column-lt7
unfolding taken
returns-then-column-lt7 c = rw (c.with_second-sum.ensures, ne_eqb (c.args.self.now.column % 8 % 2) 0 c.if-column-eq0.false, lt-ltb (c.args.self.now.column % 8) 7 c.if-column-lt7.true)

pub returns : goal.returns
unfolding taken
returns c = rw (c.with_row-self.ensures, c.with_second-sum.ensures, ne_eqb (c.args.self.now.column % 8 % 2) 0 c.if-column-eq0.false, le-ltb (c.args.self.now.column % 8) 7 c.if-column-lt7.false)
