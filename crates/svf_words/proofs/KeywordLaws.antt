-- A word reads one keyword of each kind at most, and a search of all finds it.
use Rattle.std.proofs.Common.{◌≡◌, ℕ, Bool, true, false, cond, List, [], ◌∷◌, find, IfSome, Option, Some, None, refl, sym, ap, ◌∙◌}
use Rattle.std.specs.Prelude.{codes}
use Rattle.std.specs.Str.{bytes_eq}
use Rattle.std.proofs.lemmas.Slice.Eq.{bytes_eq-Decides}
use Rattle.jt_tap.specs.declared.State.{State}
use Rattle.jt_tap.specs.Words as states
use Rattle.jt_tap.proofs.WordLaws.{find-word}
use Rattle.svf_words.specs.declared.keywords.TrstWord.{TrstWord}
use Rattle.svf_words.specs.declared.keywords.TrstWord.TheVariants as trst
use Rattle.svf_words.specs.declared.keywords.Which.TheVariants as scan
use Rattle.svf_words.specs.declared.keywords.Command.{Command}
use Rattle.svf_words.specs.declared.keywords.Command.TheVariants as command
use Rattle.svf_words.specs.declared.keywords.FieldName.{FieldName}
use Rattle.svf_words.specs.declared.keywords.FieldName.TheVariants as field
use Rattle.svf_words.specs.declared.keywords.Clock.{Clock}
use Rattle.svf_words.specs.declared.keywords.Clock.TheVariants as clock
use Rattle.svf_words.specs.declared.keywords.TheConstants.{FREQUENT, STABLE}
use Rattle.svf_words.specs.Words.{Word, lower, reads}
use Rattle.svf_words.specs.Keywords.{command_word, field_word, clock_word, trst_word, commands, fields, clocks, trst_words}
use Rattle.svf_words.specs.Keywords.{command_of, field_of, clock_of, trst_of, all_states, state_of}

pub lowered : (w k : List ℕ) → reads w k ≡ true → lower w ≡ lower k
lowered w k h = (bytes_eq-Decides (lower w) (lower k)).0 h

-- the search by a word in lower case
abbrev found_by : {A : Type 0} → (A → List ℕ) → List A → List ℕ → Option A
found_by word all low = find (λ a. bytes_eq low (lower (word a))) all

-- what one test of a search says of what it finds
here_or_later : {A : Type 0} (P : A → Bool) (x y : A) (b : Bool) (later : Option A) → P x ≡ b → (later ≡ Some y → P y ≡ true) → cond b (Some x) later ≡ Some y → P y ≡ true
here_or_later P x y true later is more e = let same : x ≡ y = cc in ap P (sym same) ∙ is
here_or_later P x y false later is more e = more e

-- what a search finds passes
found_passes : {A : Type 0} (P : A → Bool) (xs : List A) (y : A) → find P xs ≡ Some y → P y ≡ true
found_passes P [] y e = absurd cc
found_passes P (x ∷ xs) y e = here_or_later P x y (P x) (find P xs) refl (found_passes P xs y) e

command_known : (c : Command) → found_by command_word commands (lower (command_word c)) ≡ Some c
command_known command.EndDr = refl
command_known command.EndIr = refl
command_known command.Frequency = refl
command_known (command.Scan scan.Hdr) = refl
command_known (command.Scan scan.Hir) = refl
command_known (command.Scan scan.Tdr) = refl
command_known (command.Scan scan.Tir) = refl
command_known (command.Scan scan.Sdr) = refl
command_known (command.Scan scan.Sir) = refl
command_known command.RunTest = refl
command_known command.State = refl
command_known command.Trst = refl
command_known command.Pio = refl
command_known command.PioMap = refl

pub command_read : (w : Word) (c : Command) → reads w (command_word c) ≡ true → command_of w ≡ Some c
unfolding command_of
command_read w c h = ap (found_by command_word commands) (lowered w (command_word c) h) ∙ command_known c

pub command_found : (w : Word) (c : Command) → command_of w ≡ Some c → reads w (command_word c) ≡ true
unfolding command_of
command_found w c e = found_passes (λ c. reads w (command_word c)) commands c e

-- what is spelled as a keyword reads it
spelt_reads : (w k : Word) → bytes_eq w k ≡ true → reads w k ≡ true
spelt_reads w k h = (bytes_eq-Decides (lower w) (lower k)).1 (ap lower ((bytes_eq-Decides w k).0 h))

pub command_spelt : (w : Word) (c : Command) → find (λ c. bytes_eq w (command_word c)) FREQUENT ≡ Some c → Some c ≡ command_of w
command_spelt w c e = sym (command_read w c (spelt_reads w (command_word c) (found_passes (λ c. bytes_eq w (command_word c)) FREQUENT c e)))

field_known : (f : FieldName) → found_by field_word fields (lower (field_word f)) ≡ Some f
field_known field.Tdi = refl
field_known field.Tdo = refl
field_known field.Mask = refl
field_known field.Smask = refl

pub field_read : (w : Word) (f : FieldName) → reads w (field_word f) ≡ true → field_of w ≡ Some f
unfolding field_of
field_read w f h = ap (found_by field_word fields) (lowered w (field_word f) h) ∙ field_known f

pub field_spelt : (w : Word) (f : FieldName) → find (λ f. bytes_eq w (field_word f)) fields ≡ Some f → Some f ≡ field_of w
field_spelt w f e = sym (field_read w f (spelt_reads w (field_word f) (found_passes (λ f. bytes_eq w (field_word f)) fields f e)))

pub field_found : (w : Word) (f : FieldName) → field_of w ≡ Some f → reads w (field_word f) ≡ true
unfolding field_of
field_found w f e = found_passes (λ f. reads w (field_word f)) fields f e

clock_known : (c : Clock) → found_by clock_word clocks (lower (clock_word c)) ≡ Some c
clock_known clock.Tck = refl
clock_known clock.Sck = refl

pub clock_read : (w : Word) (c : Clock) → reads w (clock_word c) ≡ true → clock_of w ≡ Some c
unfolding clock_of
clock_read w c h = ap (found_by clock_word clocks) (lowered w (clock_word c) h) ∙ clock_known c

pub clock_found : (w : Word) (c : Clock) → clock_of w ≡ Some c → reads w (clock_word c) ≡ true
unfolding clock_of
clock_found w c e = found_passes (λ c. reads w (clock_word c)) clocks c e

-- seconds are no clock
pub seconds_are_no_clock : (u : Word) → reads u (codes "SEC") ≡ true → clock_of u ≡ None
unfolding clock_of
seconds_are_no_clock u h = ap (found_by clock_word clocks) (lowered u (codes "SEC") h)

trst_known : (t : TrstWord) → found_by trst_word trst_words (lower (trst_word t)) ≡ Some t
trst_known trst.On = refl
trst_known trst.Off = refl
trst_known trst.Z = refl
trst_known trst.Absent = refl

pub trst_read : (w : Word) (t : TrstWord) → reads w (trst_word t) ≡ true → trst_of w ≡ Some t
unfolding trst_of
trst_read w t h = ap (found_by trst_word trst_words) (lowered w (trst_word t) h) ∙ trst_known t

pub trst_found : (w : Word) (t : TrstWord) → trst_of w ≡ Some t → reads w (trst_word t) ≡ true
unfolding trst_of
trst_found w t e = found_passes (λ t. reads w (trst_word t)) trst_words t e

pub state_read : (w : Word) (s : State) → reads w (states.word s) ≡ true → state_of w ≡ Some s
unfolding state_of
state_read w s h = find-word w s (lowered w (states.word s) h)

pub state_found : (w : Word) (s : State) → state_of w ≡ Some s → reads w (states.word s) ≡ true
unfolding state_of
state_found w s e = found_passes (λ s. reads w (states.word s)) all_states s e

pub state_spelt : (w : Word) (s : State) → find (λ s. bytes_eq w (states.word s)) STABLE ≡ Some s → Some s ≡ state_of w
state_spelt w s e = sym (state_read w s (spelt_reads w (states.word s) (found_passes (λ s. bytes_eq w (states.word s)) STABLE s e)))

-- what a reader of state words answers, by what it ensures
pub same_state : (w : Word) (r : Option State) → IfSome r (λ s. states.IsWordOf s w) → ((s : State) → states.IsWordOf s w → r ≡ Some s) → r ≡ state_of w
same_state w (Some s) found only = sym (state_read w s ((bytes_eq-Decides (lower w) (lower (states.word s))).1 found))
same_state w None found only = by (state_of w) refl
  where
    by : (o : Option State) → state_of w ≡ o → None ≡ o
    by None e = refl
    by (Some s) e = only s ((bytes_eq-Decides (lower w) (lower (states.word s))).0 (state_found w s e))
