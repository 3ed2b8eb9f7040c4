-- What a command is after one more subcommand.
use Rattle.std.proofs.Common.{◌≡◌, ◌∙◌, ap₂, false}
use Rattle.clap.specs.Words.{AddsSubcommand, App, app_of, with_subcommand}
use Rattle.clap.specs.declared.builder.command.Command.{Command}
use Rattle.clap.specs.declared.builder.command.Command.TheViews.{out-Command}

pub app_with : (old sub new : Command) (a b : App) → AddsSubcommand old sub new → app_of old ≡ a → (out-Command sub).has_globals ≡ false → app_of sub ≡ b
    → app_of new ≡ with_subcommand a b.top
app_with old sub new a b added is own sub_is = added.shape own ∙ ap₂ (λ (x y : App). with_subcommand x y.top) is sub_is
