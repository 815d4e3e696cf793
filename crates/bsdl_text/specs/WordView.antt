-- What a word of the code stands for.
use Rattle.bsdl_text.specs.declared.tokens.Kind.TheVariants as kind
use Rattle.bsdl_text.specs.Cutting.{Lexeme}
use Rattle.bsdl_text.specs.declared.names.Word.{Word}

abbrev pub word_lexeme : Word → Lexeme
word_lexeme w = record { kind = kind.Word; text = w.text.now; start = w.start }
