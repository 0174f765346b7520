-- What a parse reads of a command with one more argument or subcommand.
use Rattle.std.proofs.Common.{◌≡◌, ◌∙◌, ◌||◌, Bool, false, refl, ap}
use Rattle.clap.specs.Built.{AddsArg, AddsSubcommand}
use Rattle.clap.specs.Simple.{App, Shape, app_of, shape_of, with_rule, with_subcommand}
use Rattle.clap.specs.Walk.{Rule, rule_of}
use Rattle.clap.specs.declared.builder.arg.Arg.{Arg}
use Rattle.clap.specs.declared.builder.command.Command.{Command}
use Rattle.clap.specs.declared.builder.command.Command.TheViews.{out-Command}

-- a command of this shape, with no argument for all its subcommands
pub record IsShape (command : Command) (app : App) : Type 0 where
  pub is : app_of command ≡ app
  pub local : (out-Command command).has_globals ≡ false

or_false : (a b : Bool) → a ≡ false → b ≡ false → (a || b) ≡ false
or_false a b h k = rw (h, k) refl

pub with_argument : (old new : Command) (arg : Arg) (app : App) (rule : Rule) → IsShape old app → rule_of arg ≡ rule → arg.global ≡ false → AddsArg old arg new
    → IsShape new (with_rule app rule)
with_argument old new arg app rule shape is local added = record {
  is = added.shape local ∙ (ap (λ (a : App). with_rule a (rule_of arg)) shape.is ∙ ap (with_rule app) is);
  local = added.globals ∙ or_false (out-Command old).has_globals arg.global shape.local local;
}

pub with_command : (old new sub : Command) (app : App) (shape : Shape) → IsShape old app → shape_of sub ≡ shape → (out-Command sub).has_globals ≡ false → AddsSubcommand old sub new
    → IsShape new (with_subcommand app shape)
with_command old new sub app shape above is local added = record {
  is = added.shape local ∙ (ap (λ (a : App). with_subcommand a (shape_of sub)) above.is ∙ ap (with_subcommand app) is);
  local = added.globals ∙ or_false (out-Command old).has_globals (out-Command sub).has_globals above.local local;
}
