-- Worked values of the definitions.
use Rattle.std.specs.Prelude.{◌≡◌, [], ◌∷◌, codes, refl}
use Rattle.script_faults.specs.Faults.{faulty_lines}

pub none : faulty_lines (codes "rule /2/3\nreplicas 1\npattern a\nbo!\nend\ncopy 1 a 0 0\n") ≡ []
none = refl

pub all_of_them : faulty_lines (codes "rule B3/S23\n# a\nreplicas 99\nshow 1\n\ncells 1 0 0 1\nstat 1\n") ≡ 1 ∷ 3 ∷ 4 ∷ 7 ∷ []
all_of_them = refl

-- `rule` is due, and then too late
pub replicas_first : faulty_lines (codes "replicas 2\nrule 23/3/2\nstate 1\n") ≡ 1 ∷ 2 ∷ []
replicas_first = refl

pub neither : faulty_lines (codes "# a\n\n") ≡ 3 ∷ []
neither = refl

-- told at its first line, and read on behind the line that nearly is its `end`
pub nearly_closed : faulty_lines (codes "rule /2/3\nreplicas 1\npattern a\nstat\n end\nstat 1\n") ≡ 3 ∷ 6 ∷ []
nearly_closed = refl

-- the lines of a block are no commands, whatever its name
pub wrong_name : faulty_lines (codes "rule /2/3\nreplicas 1\npattern my-gun\nbo!\nend\nstat 1") ≡ 3 ∷ 6 ∷ []
wrong_name = refl

pub open_block : faulty_lines (codes "rule /2/3\nreplicas 1\nstat\npattern a\nbo!\n") ≡ 3 ∷ 4 ∷ []
open_block = refl

pub no_block : faulty_lines (codes "rule /2/3\nreplicas 1\nend\nend\n") ≡ 3 ∷ 4 ∷ []
no_block = refl
