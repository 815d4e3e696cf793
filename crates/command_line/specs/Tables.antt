-- What the rows of the code's tables tell clap.
use Rattle.std.specs.Prelude.{Option, Some, None, fold}
use Rattle.clap.specs.Words.{App, Rule, Shape, Text, new_app, new_rule, with_rule, with_subcommand}
use Rattle.clap.specs.declared.builder.value_parser.ValueParser.{ValueParser}
use Rattle.clap.specs.declared.builder.value_parser.ValueParser.TheVariants.{Unsigned}
use Rattle.clap.specs.declared.builder.action.ArgAction.{ArgAction}
use Rattle.clap.specs.declared.builder.action.ArgAction.TheVariants.{Set, SetTrue}
use Rattle.command_line.specs.declared.command_table.Argument.{Argument}
use Rattle.command_line.specs.declared.command_table.Form.{Form}
use Rattle.command_line.specs.declared.command_table.Form.TheVariants.{Word, Flag, Value, Number}
use Rattle.command_line.specs.declared.command_table.Usage.{Usage}

-- its long name: all but a word by itself are written behind it
abbrev pub long_of : Form → Text → Option Text
long_of Word name = None
long_of Flag name = Some name
long_of Value name = Some name
long_of (Number least most) name = Some name

-- a flag is given or not, and any other has one value
abbrev pub action_at : Form → ArgAction
action_at Word = Set
action_at Flag = SetTrue
action_at Value = Set
action_at (Number least most) = Set

-- which values are taken
abbrev pub parser_at : Form → Option ValueParser
parser_at Word = None
parser_at Flag = None
parser_at Value = None
parser_at (Number least most) = Some (Unsigned least most)

-- an argument, as clap keeps it
abbrev pub rule_at : Argument → Rule
rule_at a = record (new_rule a.name.now) {
  long = long_of a.form a.name.now;
  action = Some (action_at a.form);
  required = a.required;
  parser = parser_at a.form;
}

-- with the argument of one row more
abbrev pub with_argument : App → Argument → App
with_argument app a = with_rule app (rule_at a)

-- a command with its arguments, as clap keeps it
abbrev pub shape_at : Usage → Shape
shape_at u = (fold with_argument (new_app u.name.now) u.arguments.now).top

-- with the command of one row more
abbrev pub with_command : App → Usage → App
with_command app u = with_subcommand app (shape_at u)
