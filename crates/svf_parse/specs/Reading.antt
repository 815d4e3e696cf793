-- What a whole text says: its statements, or its first refusal.
use Rattle.std.specs.Prelude.{ℕ, ◌+◌, List, [], ◌∷◌, length, nat_lt, if◌then◌else◌, Option, Some, None, Result, Ok, Err}
use Rattle.jt_limits.specs.Limits.{limits}
use Rattle.svf_lex.specs.declared.LexFault.{LexFault}
use Rattle.svf_lex.specs.declared.LexFault.TheVariants as fault
use Rattle.svf_lex.specs.Cutting.{items_of}
use Rattle.svf_words.specs.declared.fault.Code.{Code}
use Rattle.svf_words.specs.declared.fault.Code.TheVariants as code
use Rattle.svf_words.specs.declared.fault.SvfFault.{SvfFault}
use Rattle.svf_words.specs.declared.keywords.Command.{Command}
use Rattle.svf_words.specs.Words.{Word, Groups, last, group, groups_of}
use Rattle.svf_words.specs.Keywords.{command_of}
use Rattle.svf_parse.specs.Forms.{form_of}
use Rattle.svf_parse.specs.Judging.{◌>>=◌, Said, form_says}

-- the value, or this refusal
abbrev pub or_refuse : {A : Type 0} → Code → Option A → Result A Code
or_refuse code None = Err code
or_refuse code (Some x) = Ok x

-- what the words after a command say
abbrev pub command_says : Command → List Word → Result Said Code
command_says k ws = or_refuse code.BadForm (form_of k ws) >>= form_says

-- what the words of a statement say
unfoldable pub statement_says : List Word → Result Said Code
statement_says [] = Err code.UnknownCommand
statement_says (w ∷ ws) = or_refuse code.UnknownCommand (command_of w) >>= λ k. command_says k ws

-- a text has at most so many bytes, and so many statements
abbrev pub text_limit : ℕ
text_limit = limits.text_bytes

abbrev pub statement_limit : ℕ
statement_limit = limits.statements

abbrev pub lex_code : LexFault → Code
lex_code (fault.BadByte place) = code.BadByte place
lex_code (fault.Unclosed place) = code.Unclosed place

-- the refusal of statement n
abbrev pub at_statement : {A : Type 0} → ℕ → Result A Code → Result A SvfFault
at_statement n (Ok x) = Ok x
at_statement n (Err c) = Err (record { statement = n; code = c })

-- a statement past the limit is refused, unless it has a lower refusal of its own
abbrev pub within_limit : ℕ → Result Said Code → Result Said Code
within_limit n says = says >>= λ s. if nat_lt statement_limit n then Err code.TooLarge else Ok s

-- what the groups say from statement n on: a group without words is no statement
unfoldable pub groups_say : ℕ → Groups → Result (List Said) SvfFault
groups_say n (last ws None) = Ok []
groups_say n (last ws (Some e)) = Err (record { statement = n; code = lex_code e })
groups_say n (group [] groups) = groups_say n groups
groups_say n (group (w ∷ ws) groups) =
    at_statement n (within_limit n (statement_says (w ∷ ws))) >>= λ s. groups_say (n + 1) groups >>= λ ss. Ok (s ∷ ss)

-- what a text says
unfoldable pub text_says : List ℕ → Result (List Said) SvfFault
text_says text =
    if nat_lt text_limit (length text) then Err (record { statement = 0; code = code.TooLarge })
    else groups_say 1 (groups_of (items_of text))
