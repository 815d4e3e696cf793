-- The statements of a text, one group after another.
use Rattle.std.proofs.Common.{◌≡◌, ℕ, suc, ◌+◌, ◌<◌, ◌≤◌, nat_lt, true, false, List, [], ◌∷◌, ◌++◌, length, map, drop, unwrap_or, Option, Some, None, Result, Ok, Err, refl, sym, ap, ◌∙◌, subst, append_assoc, arith}
use Rattle.std.proofs.lemmas.List.{append-nil, map-append}
use Rattle.std.proofs.lemmas.Bool.Decides.{nat_tests}
use Rattle.svf_lex.specs.declared.Kind.{Kind}
use Rattle.svf_lex.specs.declared.Kind.TheVariants as kind
use Rattle.svf_lex.specs.declared.LexFault.{LexFault}
use Rattle.svf_lex.specs.Cutting.{Lexeme, Cut, piece, bad, cut, begun_after, items, items_of}
use Rattle.svf_lex.specs.declared.Lexer.{Lexer}
use Rattle.svf_lex.specs.Left.{left}
use Rattle.svf_words.specs.declared.fault.Code.TheVariants as code
use Rattle.svf_words.specs.declared.fault.SvfFault.{SvfFault}
use Rattle.svf_words.specs.Words.{Word, Groups, last, group, with_word, with_token, groups_of, first_words}
use Rattle.svf_parse.specs.Behind.{with_words, Behind}
use Rattle.svf_words.specs.declared.fault.Code.{Code}
use Rattle.svf_words.specs.declared.keywords.Command.{Command}
use Rattle.svf_words.specs.Keywords.{command_of}
use Rattle.svf_parse.specs.declared.fault.Refusal.{Refusal}
use Rattle.svf_parse.specs.declared.fault.Stop.{Stop}
use Rattle.svf_parse.specs.declared.fault.Stop.TheVariants as stop
use Rattle.svf_parse.specs.declared.statement.Statement.{Statement}
use Rattle.svf_parse.specs.View.{said_of, Adds, Stops, IsOpen}
use Rattle.svf_parse.specs.Judging.{◌>>=◌, Said}
use Rattle.svf_parse.specs.Reading.{or_refuse, command_says, statement_says, groups_say, text_says, at_statement, within_limit, lex_code}

abbrev Items : Type 0
Items = List (Result Lexeme LexFault)

pub with_words-push : (ws : List Word) (w : Word) (groups : Groups) → with_words (ws ++ w ∷ []) groups ≡ with_words ws (with_word w groups)
with_words-push [] w groups = refl
with_words-push (x ∷ ws) w groups = ap (with_word x) (with_words-push ws w groups)

pub with_words-last : (ws rest : List Word) (fault : Option LexFault) → with_words ws (last rest fault) ≡ last (ws ++ rest) fault
with_words-last [] rest fault = refl
with_words-last (w ∷ ws) rest fault = ap (with_word w) (with_words-last ws rest fault)

pub with_words-group : (ws rest : List Word) (groups : Groups) → with_words ws (group rest groups) ≡ group (ws ++ rest) groups
with_words-group [] rest groups = refl
with_words-group (w ∷ ws) rest groups = ap (with_word w) (with_words-group ws rest groups)

-- what stands behind words of a statement, seen from before them
pub last_from : (from to : Items) (ws : List Word) (fault : Option LexFault) → Behind from to → groups_of to ≡ last ws fault → (xs : List Word) × (groups_of from ≡ last xs fault)
last_from from to ws fault b is = (b.0 ++ ws, b.1 ∙ ap (with_words b.0) is ∙ with_words-last b.0 ws fault)

pub group_from : (from to : Items) (ws : List Word) (after : Groups) → Behind from to → groups_of to ≡ group ws after → (xs : List Word) × (groups_of from ≡ group xs after)
group_from from to ws after b is = (b.0 ++ ws, b.1 ∙ ap (with_words b.0) is ∙ with_words-group b.0 ws after)

pub open_from : (from to : Items) → Behind from to → IsOpen (groups_of from) → IsOpen (groups_of to)
open_from from to b opens = λ ws is. let whole = last_from from to ws None b is in opens whole.0 whole.1

-- statements that were read, before those that are read next
abbrev pub in_front : List Said → Result (List Said) SvfFault → Result (List Said) SvfFault
in_front front says = says >>= λ ss. Ok (front ++ ss)

regroup : (front : List Said) (s : Said) (says : Result (List Said) SvfFault) → in_front front (says >>= λ ss. Ok (s ∷ ss)) ≡ in_front (front ++ s ∷ []) says
regroup front s (Err e) = refl
regroup front s (Ok ss) = ap (λ (x : List Said). Ok x) (sym (append_assoc front (s ∷ []) ss))

pub in_front-nil : (says : Result (List Said) SvfFault) → in_front [] says ≡ says
in_front-nil (Err e) = refl
in_front-nil (Ok ss) = refl

-- the statement that a group with words says
abbrev pub group_says : ℕ → List Word → Result Said SvfFault
group_says n ws = at_statement n (within_limit n (statement_says ws))

pub empty_group : (n : ℕ) (ws : List Word) (groups : Groups) → ws ≡ [] → groups_say n (group ws groups) ≡ groups_say n groups
unfolding groups_say
empty_group n ws groups e = rw e refl

opened : (n : ℕ) (ws : List Word) (groups : Groups) → (ws ≡ [] → ⊥) → groups_say n (group ws groups) ≡ (group_says n ws >>= λ s. groups_say (n + 1) groups >>= λ ss. Ok (s ∷ ss))
unfolding groups_say
opened n [] groups some = absurd (some refl)
opened n (w ∷ ws) groups some = refl

pub said_group : (front : List Said) (n : ℕ) (ws : List Word) (groups : Groups) (s : Said) → (ws ≡ [] → ⊥) → group_says n ws ≡ Ok s
    → in_front front (groups_say n (group ws groups)) ≡ in_front (front ++ s ∷ []) (groups_say (n + 1) groups)
said_group front n ws groups s some says =
    ap (in_front front) (opened n ws groups some ∙ ap (λ (r : Result Said SvfFault). r >>= λ s. groups_say (n + 1) groups >>= λ ss. Ok (s ∷ ss)) says) ∙ regroup front s (groups_say (n + 1) groups)

pub at_last : (front : List Said) (n : ℕ) (ws : List Word) → in_front front (groups_say n (last ws None)) ≡ Ok front
unfolding groups_say
at_last front n ws = ap (λ (x : List Said). Ok x) (append-nil front)

pub at_broken : (front : List Said) (n : ℕ) (ws : List Word) (e : LexFault) → in_front front (groups_say n (last ws (Some e))) ≡ Err (record { statement = n; code = lex_code e })
unfolding groups_say
at_broken front n ws e = refl

-- ---- limits

is_above : (a b : ℕ) → a < b → nat_lt a b ≡ true
is_above a b h = grind (arith, nat_tests)

is_within : (a b : ℕ) → b ≤ a → nat_lt a b ≡ false
is_within a b h = grind (arith, nat_tests)

-- ---- what a statement says, by its form

-- a statement whose first word is no command, or this one, says what its words say
abbrev pub says_of : List Word → Option Command → Result Said Code
says_of ws o = or_refuse code.UnknownCommand o >>= λ k. command_says k ws

pub is_unknown : (w : Word) (ws : List Word) → command_of w ≡ None → statement_says (w ∷ ws) ≡ Err code.UnknownCommand
unfolding statement_says
is_unknown w ws none = ap (says_of ws) none

pub is_of : (w : Word) (ws : List Word) (k : Command) → command_of w ≡ Some k → statement_says (w ∷ ws) ≡ command_says k ws
unfolding statement_says
is_of w ws k some = ap (says_of ws) some

-- what was added as some words say, or refused, is told of what is the same
pub adds_so : {X : Type 0} (r : Result X Refusal) (old new : List Statement) (one other : Result Said Code) → other ≡ one → Adds r old new one → Adds r old new other
adds_so r old new one other same adds = subst (λ (says : Result Said Code). Adds r old new says) (sym same) adds

pub past_limit : (n : ℕ) (ws : List Word) (s : Said) → statement_says ws ≡ Ok s → 200000 < n → group_says n ws ≡ Err (record { statement = n; code = code.TooLarge })
past_limit n ws s says h = ap (λ (r : Result Said Code). at_statement n (within_limit n r)) says ∙ rw (is_above 200000 n h) refl

pub inside_limit : (n : ℕ) (ws : List Word) (s : Said) → statement_says ws ≡ Ok s → n ≤ 200000 → group_says n ws ≡ Ok s
inside_limit n ws s says h = ap (λ (r : Result Said Code). at_statement n (within_limit n r)) says ∙ rw (is_within 200000 n h) refl

-- ---- a statement that begins with a word before these groups

pub broken_behind : (n : ℕ) (w : Word) (groups : Groups) (ws : List Word) (e : LexFault) → groups ≡ last ws (Some e) → groups_say n (with_word w groups) ≡ Err (record { statement = n; code = lex_code e })
unfolding groups_say
broken_behind n w groups ws e is = ap (λ (p : Groups). groups_say n (with_word w p)) is

pub taken_behind : (n : ℕ) (w : Word) (groups : Groups) (ws : List Word) (after : Groups) (s : Said) → groups ≡ group ws after → group_says n (w ∷ first_words groups) ≡ Ok s → group_says n (w ∷ ws) ≡ Ok s
taken_behind n w groups ws after s is says = ap (λ (p : Groups). group_says n (w ∷ first_words p)) (sym is) ∙ says

pub refused_behind : (n : ℕ) (w : Word) (groups : Groups) (ws : List Word) (after : Groups) (e : Stop) → groups ≡ group ws after → Stops e (group_says n (w ∷ first_words groups)) → Stops e (groups_say n (with_word w groups))
refused_behind n w groups ws after stop.Memory is stops = tt
refused_behind n w groups ws after (stop.Fault f) is stops =
    let says : group_says n (w ∷ ws) ≡ Err f = ap (λ (p : Groups). group_says n (w ∷ first_words p)) (sym is) ∙ stops in
    ap (λ (p : Groups). groups_say n (with_word w p)) is ∙ opened n (w ∷ ws) after (λ e. cc)
    ∙ ap (λ (r : Result Said SvfFault). r >>= λ s. groups_say (n + 1) after >>= λ ss. Ok (s ∷ ss)) says

-- ---- one token more of a group that began at `start`

pub at_fault : (start items more : Items) (ws : List Word) (item : Result Lexeme LexFault) (e : LexFault) → groups_of start ≡ with_words ws (groups_of items) → items ≡ item ∷ more → item ≡ Err e
    → (xs : List Word) × (groups_of start ≡ last xs (Some e))
at_fault start items more ws item e so_far split is =
    (ws ++ [], so_far ∙ ap (λ (xs : Items). with_words ws (groups_of xs)) (split ∙ ap (λ (i : Result Lexeme LexFault). i ∷ more) is) ∙ with_words-last ws [] (Some e))

pub at_over : (start items : Items) (ws : List Word) → groups_of start ≡ with_words ws (groups_of items) → items ≡ [] → (xs : List Word) × (groups_of start ≡ last xs None)
at_over start items ws so_far split = (ws ++ [], so_far ∙ ap (λ (xs : Items). with_words ws (groups_of xs)) split ∙ with_words-last ws [] None)

pub at_semi : (start items more : Items) (ws : List Word) (k : Kind) (text : List ℕ) (place : ℕ) → groups_of start ≡ with_words ws (groups_of items) → items ≡ Ok (record { kind = k; text = text; start = place }) ∷ more → k ≡ kind.Semi
    → groups_of start ≡ group ws (groups_of more)
at_semi start items more ws k text place so_far split is =
    so_far ∙ ap (λ (xs : Items). with_words ws (groups_of xs)) split ∙ ap (λ (j : Kind). with_words ws (with_token j text (groups_of more))) is ∙ with_words-group ws [] (groups_of more) ∙ ap (λ (xs : List Word). group xs (groups_of more)) (append-nil ws)

pub other_token : (k : Kind) (text : List ℕ) (groups : Groups) → (k ≡ kind.Semi → ⊥) → with_token k text groups ≡ with_word text groups
other_token kind.Semi text groups other = absurd (other refl)
other_token kind.Run text groups other = refl
other_token kind.Open text groups other = refl
other_token kind.Close text groups other = refl

pub at_word : (start items more : Items) (ws : List Word) (k : Kind) (text : List ℕ) (place : ℕ) → groups_of start ≡ with_words ws (groups_of items) → items ≡ Ok (record { kind = k; text = text; start = place }) ∷ more → (k ≡ kind.Semi → ⊥)
    → groups_of start ≡ with_words (ws ++ text ∷ []) (groups_of more)
at_word start items more ws k text place so_far split other =
    so_far ∙ ap (λ (xs : Items). with_words ws (groups_of xs)) split ∙ ap (with_words ws) (other_token k text (groups_of more) other) ∙ sym (with_words-push ws text (groups_of more))

-- ---- a statement that is open does not end with the text

word_ends : (w : Word) (groups : Groups) (ws : List Word) → with_word w groups ≡ last ws None → (xs : List Word) × (groups ≡ last xs None)
word_ends w (last xs None) ws e = (xs, refl)
word_ends w (last xs (Some fault)) ws e = absurd cc
word_ends w (group xs groups) ws e = absurd cc

-- a text that has no fault ends behind a `;`
abbrev EndsClosed : Option ℕ → List Cut → Type 0
EndsClosed begun cuts = (ws : List Word) → groups_of (items begun cuts) ≡ last ws None → (ws ≡ []) × (begun ≡ None)

after_word : (w : Word) (start : ℕ) (begun : Option ℕ) (cuts : List Cut) (ws : List Word) → EndsClosed (Some start) cuts
    → with_word w (groups_of (items (Some start) cuts)) ≡ last ws None → (ws ≡ []) × (begun ≡ None)
after_word w start begun cuts ws later e =
    let inner = word_ends w (groups_of (items (Some start) cuts)) ws e in
    absurd (let some : Some start ≡ None = (later inner.0 inner.1).1 in cc)

after_token : (k : Kind) (w : Word) (start : ℕ) (begun : Option ℕ) (cuts : List Cut) (ws : List Word) → EndsClosed (begun_after k begun start) cuts
    → with_token k w (groups_of (items (begun_after k begun start) cuts)) ≡ last ws None → (ws ≡ []) × (begun ≡ None)
after_token kind.Semi w start begun cuts ws later e = absurd cc
after_token kind.Run w start begun cuts ws later e = after_word w (unwrap_or begun start) begun cuts ws later e
after_token kind.Open w start begun cuts ws later e = after_word w (unwrap_or begun start) begun cuts ws later e
after_token kind.Close w start begun cuts ws later e = after_word w (unwrap_or begun start) begun cuts ws later e

ends_closed : (begun : Option ℕ) (cuts : List Cut) → EndsClosed begun cuts
ends_closed None [] ws e = (sym (ap first_words e), refl)
ends_closed (Some first) [] ws e = absurd cc
ends_closed begun (bad at ∷ cuts) ws e = absurd cc
ends_closed begun (piece t ∷ cuts) ws e = after_token t.kind t.text t.start begun cuts ws (ends_closed (begun_after t.kind begun t.start) cuts) e

pub open_behind : (l m : Lexer) (w : Word) → groups_of (left l) ≡ with_word w (groups_of (left m)) → IsOpen (groups_of (left m))
open_behind l m w e = λ ws is.
    let none : w ∷ ws ≡ [] = (ends_closed l.begun (cut 0 l.at (drop l.at l.source.now)) (w ∷ ws) (e ∙ ap (with_word w) is)).0 in
    cc

-- ---- one group more of a text, where `all` was read before it

-- how many groups are closed
abbrev pub group_count : Groups → ℕ
group_count (last ws fault) = 0
group_count (group ws groups) = suc (group_count groups)

module _ (all : List Statement) (n : ℕ) (groups : Groups) (total : Result (List Said) SvfFault) (so_far : in_front (map said_of all) (groups_say n groups) ≡ total) where
  pub told_over : (ws : List Word) → groups ≡ last ws None → total ≡ Ok (map said_of all)
  told_over ws is = sym so_far ∙ ap (λ (p : Groups). in_front (map said_of all) (groups_say n p)) is ∙ at_last (map said_of all) n ws

  pub told_broken : (ws : List Word) (e : LexFault) → groups ≡ last ws (Some e) → total ≡ Err (record { statement = n; code = lex_code e })
  told_broken ws e is = sym so_far ∙ ap (λ (p : Groups). in_front (map said_of all) (groups_say n p)) is ∙ at_broken (map said_of all) n ws e

  pub told_empty : (after : Groups) → groups ≡ group [] after → in_front (map said_of all) (groups_say n after) ≡ total
  told_empty after is = sym (ap (λ (p : Groups). in_front (map said_of all) (groups_say n p)) is ∙ ap (in_front (map said_of all)) (empty_group n [] after refl)) ∙ so_far

  -- the same of what stands behind a statement's first word
  module _ (w : Word) (rest : Groups) (opens : groups ≡ with_word w rest) where
    pub told_said : (ws : List Word) (after : Groups) (x : Statement) → rest ≡ group ws after → group_says n (w ∷ ws) ≡ Ok (said_of x)
        → in_front (map said_of (all ++ x ∷ [])) (groups_say (n + 1) after) ≡ total
    told_said ws after x is says =
        ap (λ (front : List Said). in_front front (groups_say (n + 1) after)) (map-append said_of all (x ∷ []))
        ∙ sym (said_group (map said_of all) n (w ∷ ws) after (said_of x) (λ e. cc) says)
        ∙ ap (λ (p : Groups). in_front (map said_of all) (groups_say n p)) (sym (opens ∙ ap (with_word w) is)) ∙ so_far

    pub told_stop : (e : Stop) → Stops e (groups_say n (with_word w rest)) → Stops e total
    told_stop stop.Memory stops = tt
    told_stop (stop.Fault f) stops =
        sym so_far ∙ ap (λ (p : Groups). in_front (map said_of all) (groups_say n p)) opens ∙ ap (in_front (map said_of all)) stops

-- ---- the limit of a text

pub long_text : (text : List ℕ) → 16777216 < length text → text_says text ≡ Err (record { statement = 0; code = code.TooLarge })
unfolding text_says
long_text text h = rw (is_above 16777216 (length text) h) refl

pub short_text : (text : List ℕ) → length text ≤ 16777216 → text_says text ≡ groups_say 1 (groups_of (items_of text))
unfolding text_says
short_text text h = rw (is_within 16777216 (length text) h) refl
