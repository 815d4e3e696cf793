use Rattle.std.proofs.Common.{◌≡◌, true, [], List, Result, Ok, Err, map, refl, sym, ap, subst, ◌∙◌}
use Rattle.std.specs.Prelude.{IsErrAnd}
use Rattle.clap.specs.Simple.{HasMatchesOf, is_simple}
use Rattle.clap.specs.Words.{App, FailsBy, HasKind, Kinds, Text, fault_of, is_simple_and_free}
use Rattle.clap.specs.declared.error.Error.{Error}
use Rattle.command_line.specs.Asking.{asked_by, jt_tool}
use Rattle.command_line.proofs.request.parse.Goals as goal

-- an error is handed on with its kind
fails-with : {T : Type 0} (kinds : Kinds) (e : Error) (r : Result T Error) → IsErrAnd r (λ x. x ≡ e) → HasKind kinds e → FailsBy kinds r
fails-with kinds e (Ok x) is has = absurd is
fails-with kinds e (Err x) is has = subst (HasKind kinds) (sym is) has

is-simple : is_simple jt_tool ≡ true
is-simple = refl

is-free : is_simple_and_free jt_tool ≡ true
is-free = refl

pub returns-clause-refused : goal.returns-clause-refused
returns-clause-refused c =
    subst (λ (a : App). fault_of a (map (λ w. w.now) c.args.words.now) ≡ []) c.in_ok-command.ensures
    (c.in_ok-matches.ensures.kinds (subst (λ (a : App). is_simple_and_free a ≡ true) (sym c.in_ok-command.ensures) is-free))

pub returns-in_err-matches-clause-refused : goal.returns-in_err-matches-clause-refused
returns-in_err-matches-clause-refused c =
    let words : List Text = map (λ w. w.now) c.args.words.now in
    fails-with (fault_of jt_tool words) c.in_err-matches.field-0.0 c.from_residual-in_err-matches.result c.from_residual-in_err-matches.ensures.1
    (subst (λ (a : App). HasKind (fault_of a words) c.in_err-matches.field-0.0) c.in_ok-command.ensures
    (c.in_err-matches.ensures.kinds (subst (λ (a : App). is_simple_and_free a ≡ true) (sym c.in_ok-command.ensures) is-free)))

pub returns-clause-asked : goal.returns-clause-asked
returns-clause-asked c =
    let words : List Text = map (λ w. w.now) c.args.words.now in
    c.request_of.ensures
    ∙ ap asked_by (subst (λ (a : App). HasMatchesOf a words c.in_ok-matches.matches) c.in_ok-command.ensures c.in_ok-matches.ensures.matches is-simple).1
