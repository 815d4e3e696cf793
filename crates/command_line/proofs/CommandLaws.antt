-- Commands with a row of a table more.
use Rattle.std.proofs.Common.{◌≡◌, ◌<◌, ◌+◌, ℕ, Bool, false, List, length, take, sym, ap, ◌∙◌}
use Rattle.std.specs.Prelude.{◌||◌, fold, get_or}
use Rattle.std.proofs.lemmas.List.Sums.{fold_more}
use Rattle.clap.specs.Words.{AddsArg, AddsSubcommand, App, app_of, rule_of, shape_of, with_rule, with_subcommand}
use Rattle.clap.specs.declared.builder.arg.Arg.{Arg}
use Rattle.clap.specs.declared.builder.command.Command.{Command}
use Rattle.clap.specs.declared.builder.command.Command.TheViews.{out-Command}
use Rattle.command_line.specs.Tables.{rule_at, shape_at, with_argument, with_command}
use Rattle.command_line.specs.declared.command_table.Argument.{Argument}
use Rattle.command_line.specs.declared.command_table.Usage.{Usage}

pub one_argument_more : (first : App) (rows : List Argument) (i : ℕ) (d : Argument) (old new : Command) (a : Arg) → i < length rows → app_of old ≡ fold with_argument first (take i rows)
    → AddsArg old a new → a.global ≡ false → rule_of a ≡ rule_at (get_or rows i d) → app_of new ≡ fold with_argument first (take (i + 1) rows)
one_argument_more first rows i d old new a below was adds local rule =
    adds.shape local ∙ ap (with_rule (app_of old)) rule ∙ ap (λ (app : App). with_argument app (get_or rows i d)) was ∙ sym (fold_more with_argument first rows i d below)

-- no argument of a command is global
pub no_globals : (old new : Command) (a : Arg) → AddsArg old a new → a.global ≡ false → (out-Command old).has_globals ≡ false → (out-Command new).has_globals ≡ false
no_globals old new a adds local was = adds.globals ∙ ap (λ (b : Bool). b || a.global) was ∙ local

pub one_command_more : (first : App) (rows : List Usage) (i : ℕ) (d : Usage) (old sub new : Command) → i < length rows → app_of old ≡ fold with_command first (take i rows)
    → AddsSubcommand old sub new → (out-Command sub).has_globals ≡ false → shape_of sub ≡ shape_at (get_or rows i d) → app_of new ≡ fold with_command first (take (i + 1) rows)
one_command_more first rows i d old sub new below was adds local shape =
    adds.shape local ∙ ap (with_subcommand (app_of old)) shape ∙ ap (λ (app : App). with_command app (get_or rows i d)) was ∙ sym (fold_more with_command first rows i d below)
