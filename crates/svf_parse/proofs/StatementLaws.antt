-- What the words of a statement say is what they spell, or the refusal that they have.
use Rattle.std.proofs.Common.{◌≡◌, List, [], ◌∷◌, Option, Some, None, Result, Ok, Err, refl, sym, ap, subst, ◌∙◌}
use Rattle.svf_words.specs.declared.fault.Code.{Code}
use Rattle.svf_words.specs.declared.fault.Code.TheVariants as code
use Rattle.svf_words.specs.declared.keywords.Command.{Command}
use Rattle.svf_words.specs.Words.{Word}
use Rattle.svf_words.specs.Keywords.{command_of}
use Rattle.svf_parse.specs.Forms.{Form, form_of}
use Rattle.svf_parse.specs.Judging.{◌>>=◌, Said, form_says}
use Rattle.svf_parse.specs.Reading.{or_refuse, command_says, statement_says}
use Rattle.svf_parse.specs.Grammar.{IsForm, HasCommand}
use Rattle.svf_parse.specs.Spelling.{Spells, Refuses, unknown, misfit, of_form}
use Rattle.svf_words.proofs.KeywordLaws.{command_found, command_read}
use Rattle.svf_parse.proofs.FormLaws.{form_found, form_read}

-- what is spelled in a form says what the form says
pub says_form : (ws : List Word) (f : Form) → IsForm ws f → statement_says ws ≡ form_says f
unfolding statement_says
says_form ws f h =
    let r = form_read ws f h in
    ap statement_says r.split ∙ rw (r.known, r.form) refl

abbrev said_by : Option Form → Result Said Code
said_by o = or_refuse code.BadForm o >>= form_says

abbrev says_by : Option Command → List Word → Result Said Code
says_by o xs = or_refuse code.UnknownCommand o >>= λ k. command_says k xs

ok_form : (o : Option Form) (s : Said) → said_by o ≡ Ok s → (f : Form) × (o ≡ Some f) × (form_says f ≡ Ok s)
ok_form None s e = absurd cc
ok_form (Some f) s e = (f, refl, e)

ok_by : (w : Word) (xs : List Word) (s : Said) (o : Option Command) → command_of w ≡ o → says_by o xs ≡ Ok s → Spells (w ∷ xs) s
ok_by w xs s None is e = absurd cc
ok_by w xs s (Some k) is e = let f = ok_form (form_of k xs) s e in (f.0, form_found w xs k f.0 (command_found w k is) f.1, f.2)

pub spelled : (ws : List Word) (s : Said) → statement_says ws ≡ Ok s → Spells ws s
unfolding statement_says
spelled [] s e = absurd cc
spelled (w ∷ xs) s e = ok_by w xs s (command_of w) refl e

pub read_again : (ws : List Word) (s : Said) → Spells ws s → statement_says ws ≡ Ok s
read_again ws s h = says_form ws h.0 h.1 ∙ h.2

-- ---- refusals

abbrev refusing : Code → Result Said Code
refusing c = Err c

same_code : (c d : Code) → refusing c ≡ refusing d → c ≡ d
same_code c d e = cc

-- the words of a form begin with its command, whose form they are
read_there : (w : Word) (xs : List Word) (f : Form) → IsForm (w ∷ xs) f → (k : Command) × (command_of w ≡ Some k) × (form_of k xs ≡ Some f)
read_there w xs f h =
    let r = form_read (w ∷ xs) f h in
    let first : r.word ≡ w = sym (ap head r.split) in
    let rest : r.rest ≡ xs = sym (ap behind r.split) in
    (r.command, ap command_of (sym first) ∙ r.known, ap (form_of r.command) (sym rest) ∙ r.form)
  where
    head : List Word → Word
    head [] = []
    head (w ∷ ws) = w

    behind : List Word → List Word
    behind [] = []
    behind (w ∷ ws) = ws

no_form : (w : Word) (xs : List Word) (k : Command) → command_of w ≡ Some k → form_of k xs ≡ None → (f : Form) → IsForm (w ∷ xs) f → ⊥
no_form w xs k is none f h =
    let r = read_there w xs f h in
    let same : k ≡ r.0 = cc (is, r.1) in
    let found : form_of k xs ≡ Some f = subst (λ (c : Command). form_of c xs ≡ Some f) (sym same) r.2 in
    cc

refused_form : (w : Word) (xs : List Word) (k : Command) (c : Code) (o : Option Form) → command_of w ≡ Some k → form_of k xs ≡ o → said_by o ≡ Err c → Refuses (w ∷ xs) c
refused_form w xs k c None is there e = misfit (k, command_found w k is) (no_form w xs k is there) (sym (same_code code.BadForm c e))
refused_form w xs k c (Some f) is there e = of_form f (form_found w xs k f (command_found w k is) there) e

refused_by : (w : Word) (xs : List Word) (c : Code) (o : Option Command) → command_of w ≡ o → says_by o xs ≡ Err c → Refuses (w ∷ xs) c
refused_by w xs c None is e = unknown (λ has. let known : command_of w ≡ Some has.0 = command_read w has.0 has.1 in cc) (sym (same_code code.UnknownCommand c e))
refused_by w xs c (Some k) is e = refused_form w xs k c (form_of k xs) is refl e

pub refused : (w : Word) (xs : List Word) (c : Code) → statement_says (w ∷ xs) ≡ Err c → Refuses (w ∷ xs) c
unfolding statement_says
refused w xs c e = refused_by w xs c (command_of w) refl e

unknown_by : (w : Word) (xs : List Word) (o : Option Command) → command_of w ≡ o → (HasCommand (w ∷ xs) → ⊥) → says_by o xs ≡ Err code.UnknownCommand
unknown_by w xs None is none = refl
unknown_by w xs (Some k) is none = absurd (none (k, command_found w k is))

misfit_form : (w : Word) (xs : List Word) (k : Command) (o : Option Form) → command_of w ≡ Some k → form_of k xs ≡ o → ((f : Form) → IsForm (w ∷ xs) f → ⊥) → said_by o ≡ Err code.BadForm
misfit_form w xs k None is there none = refl
misfit_form w xs k (Some f) is there none = absurd (none f (form_found w xs k f (command_found w k is) there))

misfit_by : (w : Word) (xs : List Word) (o : Option Command) → command_of w ≡ o → HasCommand (w ∷ xs) → ((f : Form) → IsForm (w ∷ xs) f → ⊥) → says_by o xs ≡ Err code.BadForm
misfit_by w xs None is some none = absurd (let known : command_of w ≡ Some some.0 = command_read w some.0 some.1 in cc)
misfit_by w xs (Some k) is some none = misfit_form w xs k (form_of k xs) is refl none

pub refused_again : (w : Word) (xs : List Word) (c : Code) → Refuses (w ∷ xs) c → statement_says (w ∷ xs) ≡ Err c
unfolding statement_says
refused_again w xs c (unknown none is) = unknown_by w xs (command_of w) refl none ∙ ap refusing (sym is)
refused_again w xs c (misfit some none is) = misfit_by w xs (command_of w) refl some none ∙ ap refusing (sym is)
refused_again w xs c (of_form f form says) = says_form (w ∷ xs) f form ∙ says
