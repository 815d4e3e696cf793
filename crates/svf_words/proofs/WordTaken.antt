-- One word taken from a statement.
use Rattle.std.proofs.Common.{◌≡◌, ◌≢◌, List, [], ◌∷◌, Result, Ok, Err, refl, ap, ◌∙◌}
use Rattle.svf_lex.specs.declared.Kind.{Kind}
use Rattle.svf_lex.specs.declared.Kind.TheVariants as kind
use Rattle.svf_lex.specs.declared.LexFault.{LexFault}
use Rattle.svf_lex.specs.declared.Lexer.{Lexer}
use Rattle.svf_lex.specs.declared.Token.{Token}
use Rattle.svf_lex.specs.Cutting.{Lexeme}
use Rattle.svf_lex.specs.Left.{left}
use Rattle.svf_lex.specs.Scanning.{lexeme}
use Rattle.svf_lex.specs.Statements.{IsOver}
use Rattle.svf_words.specs.Words.{Word, Groups, last, group, with_word, with_token, groups_of, first_words, words_left}

of_token : (k : Kind) (text : Word) (groups : Groups) → k ≢ kind.Semi → with_token k text groups ≡ with_word text groups
of_token kind.Semi text groups other = absurd (other refl)
of_token kind.Run text groups other = refl
of_token kind.Open text groups other = refl
of_token kind.Close text groups other = refl

pub taken : (old new : List (Result Lexeme LexFault)) (t : Token) → old ≡ Ok (lexeme t) ∷ new → t.kind ≢ kind.Semi → groups_of old ≡ with_word t.text.now (groups_of new)
taken old new t split other = ap groups_of split ∙ of_token t.kind t.text.now (groups_of new) other

first_of : (w : Word) (groups : Groups) → first_words (with_word w groups) ≡ w ∷ first_words groups
first_of w (last ws fault) = refl
first_of w (group ws groups) = refl

pub word_taken : (l m : Lexer) (w : Word) → groups_of (left l) ≡ with_word w (groups_of (left m)) → words_left l ≡ w ∷ words_left m
unfolding words_left
word_taken l m w split = ap first_words split ∙ first_of w (groups_of (left m))

closed : (k : Kind) (text : Word) (groups : Groups) → k ≡ kind.Semi → first_words (with_token k text groups) ≡ []
closed kind.Semi text groups is = refl
closed kind.Run text groups is = absurd cc
closed kind.Open text groups is = absurd cc
closed kind.Close text groups is = absurd cc

none_at : (items : List (Result Lexeme LexFault)) → IsOver items → first_words (groups_of items) ≡ []
none_at [] over = refl
none_at (Err e ∷ items) over = refl
none_at (Ok t ∷ items) over = closed t.kind t.text (groups_of items) over

pub none_left : (l : Lexer) → IsOver (left l) → words_left l ≡ []
unfolding words_left
none_left l over = none_at (left l) over
