-- The subcommands by their names.
use Rattle.std.specs.Prelude.{Option, Some, None, if◌then◌else◌, codes}
use Rattle.std.specs.Str.{bytes_eq}
use Rattle.clap.specs.Words.{Text}
use Rattle.genedit_words.specs.declared.subcommand.Subcommand.{Subcommand}
use Rattle.genedit_words.specs.declared.subcommand.Subcommand.TheVariants.{Run, Check, Rle, View, Convert, Serve, Join, New, Draw, Merge, Diff, Log, Export, Follow, Feed, Number}

abbrev pub subcommand_named : Text → Option Subcommand
subcommand_named name =
    if bytes_eq name (codes "run") then Some Run
    else if bytes_eq name (codes "check") then Some Check
    else if bytes_eq name (codes "rle") then Some Rle
    else if bytes_eq name (codes "view") then Some View
    else if bytes_eq name (codes "convert") then Some Convert
    else if bytes_eq name (codes "serve") then Some Serve
    else if bytes_eq name (codes "join") then Some Join
    else if bytes_eq name (codes "new") then Some New
    else if bytes_eq name (codes "draw") then Some Draw
    else if bytes_eq name (codes "merge") then Some Merge
    else if bytes_eq name (codes "diff") then Some Diff
    else if bytes_eq name (codes "log") then Some Log
    else if bytes_eq name (codes "export") then Some Export
    else if bytes_eq name (codes "follow") then Some Follow
    else if bytes_eq name (codes "feed") then Some Feed
    else if bytes_eq name (codes "number") then Some Number
    else None
