-- What a server lacks, and what is said of it.
use Rattle.std.specs.Prelude.{ℕ, Bool, false, ◌||◌, List, [], ◌++◌, codes, if◌then◌else◌}
use Rattle.genedit_words.specs.declared.needs.Needs.{Needs}

-- nothing
abbrev pub no_needs : Needs
no_needs = record { rule = false; port = false; web = false }

-- something
abbrev pub needs_some : Needs → Bool
needs_some needs = needs.rule || (needs.port || needs.web)

-- a text, where it is called for
abbrev pub if_needed : Bool → List ℕ → List ℕ
if_needed is_needed text = if is_needed then text else []

-- what the program says, as `clap` says it of options that have to be given
abbrev pub needs_text : Needs → List ℕ
needs_text needs = codes "the following required arguments were not provided:"
    ++ (if_needed needs.rule (codes " --rule <TEXT>") ++ (if_needed needs.port (codes " --port <P>") ++ (if_needed needs.web (codes " --web <[ADDRESS:]Q>")
    ++ (codes "; as" ++ (if_needed needs.rule (codes " --rule 23/3/2") ++ (if_needed needs.port (codes " --port 7020") ++ if_needed needs.web (codes " --web 7080")))))))
