-- Boards in use have no circle of strings, and their strings fit.
use Rattle.std.proofs.Common.{◌≡◌, ◌<◌, ◌||◌, ◌==◌, ℕ, suc, Bool, true, false, List, [], ◌∷◌, ◌++◌, length, map, refl, sym, ap, subst, ◌∙◌, inl, inr, if◌then◌else◌}
use Rattle.std.specs.Prelude.{Option, Some, None}
use Rattle.std.specs.List.{AllByRecursion, list_any}
use Rattle.std.proofs.lemmas.Bool.{eq-eqb, false≢true}
use Rattle.bitbang_protocol.specs.declared.Message.{Message}
use Rattle.bitbang_protocol.specs.declared.Message.TheVariants.{Write, Lines}
use Rattle.bitbang_protocol.specs.Protocol.{decode}
use Rattle.jt_tap.specs.declared.State.TheVariants.{Reset}
use Rattle.pin_nets.specs.declared.Follow.{Follow}
use Rattle.pin_nets.specs.Wired.{Net}
use Rattle.board_plan.specs.Planned.{HasCore}
use Rattle.board_plan.specs.Planned as planned
use Rattle.board_parts.specs.Strings.{HasStrings, HaveOneEach, IsStringOf, has_cell}
use Rattle.board_model.specs.Cells.{Member, Told}
use Rattle.board_model.specs.Chain.{BoardState, ChipState, after_byte, after_bytes, after_levels, after_message, assert_trst, fall, is_held, members, rise, rise_all, tdi_before}
use Rattle.board_model.specs.Following.{AreFit, HasNoCircle, HasOneEach, InOtherRegisters, IsAmong}
use Rattle.board_model.specs.Nets.{told}
use Rattle.board_model.specs.Planned.{members_of, powered_up}
use Rattle.board_model.specs.Resting.{chip_at_rest}
use Rattle.board_model.proofs.Following.{every_string_holds, no_loop, only_in_force}
use Rattle.board_model.proofs.OtherRegisters.{circles_stand}
use Rattle.board_chain.proofs.NetLaws.{are_found}
use Rattle.board_chain.specs.Ready.{IsReady}
use Rattle.board_file.proofs.FitLaws.{board_fits, board_said}
use Rattle.jt_board.specs.FromText.{said_device}
use Rattle.jt_board.specs.InUse.{IsMade, bare, described}
use Rattle.jt_board.specs.Made.{board_of}
use Rattle.jt_board.specs.Bares.{bare_wiring}
use Rattle.jt_board.specs.Strings.{EveryBoardInUseHasItsStrings, HasItsStrings}
use Rattle.jt_board.proofs.Bares.{bare_is, bare_ready}
use Rattle.jt_board.proofs.PathLaws.{no_loop_over_nets}
use Rattle.jt_board.proofs.TextLaws.{ready_wiring}

-- ---- strings of a plan

any-kept : {X : Type 0} (test : X → Bool) (xs : List X) (x : X) → list_any test xs ≡ true → list_any test (xs ++ x ∷ []) ≡ true
any-kept test [] x e = absurd (false≢true e)
any-kept test (y ∷ xs) x e = by (test y) e (any-kept test xs x)
  where
    by : (b : Bool) → (b || list_any test xs) ≡ true → (list_any test xs ≡ true → list_any test (xs ++ x ∷ []) ≡ true)
        → (b || list_any test (xs ++ x ∷ [])) ≡ true
    by true h more = refl
    by false h more = more h

any-last : {X : Type 0} (test : X → Bool) (xs : List X) (x : X) → test x ≡ true → list_any test (xs ++ x ∷ []) ≡ true
any-last test [] x e = ap (λ (b : Bool). b || false) e
any-last test (y ∷ xs) x e = by (test y) (any-last test xs x e)
  where
    by : (b : Bool) → list_any test (xs ++ x ∷ []) ≡ true → (b || list_any test (xs ++ x ∷ [])) ≡ true
    by true h = refl
    by false h = h

apart-from : (c : ℕ) (before fs : List Follow) → has_cell c before ≡ true → HaveOneEach before fs → (g : Follow) → IsAmong g fs → g.cell ≡ c → ⊥
apart-from c before [] has one g among same = among
apart-from c before (f ∷ fs) has one g (inl e) same =
    false≢true (sym one.0 ∙ ap (λ (x : ℕ). has_cell x before) (ap (λ (h : Follow). h.cell) e ∙ same) ∙ has)
apart-from c before (f ∷ fs) has one g (inr later) same =
    apart-from c (before ++ f ∷ []) fs (any-kept (λ (h : Follow). c == h.cell) before f has) one.1 g later same

one-each : (before fs : List Follow) → HaveOneEach before fs → HasOneEach fs
one-each before [] one = tt
one-each before (f ∷ fs) one = (
  λ g among same.
      apart-from f.cell (before ++ f ∷ []) fs (any-last (λ (h : Follow). f.cell == h.cell) before f (eq-eqb f.cell f.cell refl)) one.1 g among same,
  one-each (before ++ f ∷ []) fs one.1,
)

within : (m : planned.Member) → HasCore m → (fs : List Follow) → AllByRecursion (IsStringOf m.device) fs → (f : Follow) → IsAmong f fs → f.cell < length m.core
within m core [] each f among = absurd among
within m core (g ∷ fs) each f (inl e) =
    subst (λ (h : Follow). h.cell < length m.core) e (subst (λ (n : ℕ). g.cell < n) (sym core) each.0.cell)
within m core (g ∷ fs) each f (inr later) = within m core fs each.1 f later

fit-members : (ms : List planned.Member) → AllByRecursion HasCore ms → AllByRecursion HasStrings ms → AllByRecursion (λ (m : Member). AreFit m) (map powered_up ms)
fit-members [] cores strings = tt
fit-members (m ∷ ms) cores strings = (
  record { one = one-each [] m.follows strings.0.one; there = within m cores.0 m.follows strings.0.each },
  fit-members ms cores.1 strings.1,
)

-- ---- the same devices in other registers

abbrev Keeps : Member → Member → Type 0
Keeps m n = n ≡ record m { registers = n.registers }

either : (which : Bool) (c d : ChipState) (m : Member) → Keeps m c.member → Keeps m d.member → Keeps m (if which then c else d).member
either true c d m first second = first
either false c d m first second = second

rises : (trst tms tdi : Bool) (about : ℕ → Told) (k : ℕ) (cs : List ChipState) → InOtherRegisters (members cs) (members (rise_all trst tms tdi about k cs))
rises trst tms tdi about k [] = tt
rises trst tms tdi about k (c ∷ cs) =
    (either (is_held trst c.member) c _ c.member refl refl, rises trst tms tdi about (suc k) cs)

falls : (cs : List ChipState) → InOtherRegisters (members cs) (members (map fall cs))
falls [] = tt
falls (c ∷ cs) = (refl, falls cs)

asserts : (cs : List ChipState) → InOtherRegisters (members cs) (members (map assert_trst cs))
asserts [] = tt
asserts (c ∷ cs) = (either c.member.device.has_trst _ c c.member refl refl, asserts cs)

same : (ms : List Member) → InOtherRegisters ms ms
same [] = tt
same (m ∷ ms) = (refl, same ms)

chained : (xs ys zs : List Member) → InOtherRegisters xs ys → InOtherRegisters ys zs → InOtherRegisters xs zs
chained [] [] [] first second = tt
chained (x ∷ xs) (y ∷ ys) (z ∷ zs) first second =
    (second.0 ∙ ap (λ (m : Member). record m { registers = z.registers }) first.0, chained xs ys zs first.1 second.1)
chained [] [] (z ∷ zs) first second = absurd second
chained [] (y ∷ ys) zs first second = absurd first
chained (x ∷ xs) [] zs first second = absurd first
chained (x ∷ xs) (y ∷ ys) [] first second = absurd second

abbrev Stays : BoardState → BoardState → Type 0
Stays b c = (c.nets ≡ b.nets) × InOtherRegisters (members b.chips) (members c.chips)

written : (was tck tms tdi : Bool) (b : BoardState) → InOtherRegisters (members b.chips) (members (after_levels was tck tms tdi b))
written false true tms tdi b = rises b.trst tms tdi (told b.nets (members b.chips)) 0 b.chips
written true false tms tdi b = falls b.chips
written false false tms tdi b = same (members b.chips)
written true true tms tdi b = same (members b.chips)

stays-told : (message : Message) (b : BoardState) → Stays b (after_message message b)
stays-told (Write tck tms tdi) b = (refl, written b.tck tck tms tdi b)
stays-told (Lines true srst) b = (refl, asserts b.chips)
stays-told (Lines false srst) b = (refl, same (members b.chips))
stays-told _ b = (refl, same (members b.chips))

stays-heard : (said : Option Message) (b : BoardState) → Stays b (elim said [ Some m ↦ after_message m b | None ↦ b ])
stays-heard (Some m) b = stays-told m b
stays-heard None b = (refl, same (members b.chips))

stays : (bytes : List ℕ) (b : BoardState) → Stays b (after_bytes bytes b)
stays [] b = (refl, same (members b.chips))
stays (byte ∷ bytes) b =
    let one = stays-heard (decode byte) b in
    let more = stays bytes (after_byte byte b) in
    (more.0 ∙ one.0, chained (members b.chips) (members (after_byte byte b).chips) (members (after_bytes bytes (after_byte byte b)).chips) one.1 more.1)

fit-stays : (ms ns : List Member) → InOtherRegisters ms ns → AllByRecursion (λ (m : Member). AreFit m) ms → AllByRecursion (λ (m : Member). AreFit m) ns
fit-stays [] [] are fit = tt
fit-stays [] (n ∷ ns) are fit = absurd are
fit-stays (m ∷ ms) [] are fit = absurd are
fit-stays (m ∷ ms) (n ∷ ns) are fit =
    (subst (λ (x : Member). AreFit x) (sym are.0) (record { one = fit.0.one; there = fit.0.there }), fit-stays ms ns are.1 fit.1)

-- ---- a board that is made of a plan, and after bytes

stand-so : (ms : List Member) → members (map (chip_at_rest Reset) ms) ≡ ms
stand-so [] = refl
stand-so (m ∷ ms) = ap (λ (rest : List Member). m ∷ rest) (stand-so ms)

has-strings : (b : BoardState) → HasNoCircle b.nets (members b.chips) → AllByRecursion (λ (m : Member). AreFit m) (members b.chips) → HasItsStrings b
has-strings b free fit = record {
  free = free;
  fit = fit;
  holds = every_string_holds b.nets (members b.chips) free fit;
  only = λ held holds. only_in_force b.nets (members b.chips) held free holds;
}

made : (w : planned.Wiring) → IsReady w → HasItsStrings (board_of w)
made w ready =
    let free : HasNoCircle w.nets (members_of w) =
    no_loop w.nets (members_of w) (are_found w.nets ready.apart) ready.controls (no_loop_over_nets w ready.no_loop) in
    has-strings (board_of w) (subst (HasNoCircle w.nets) (sym (stand-so (members_of w))) free)
    (subst (AllByRecursion (λ (m : Member). AreFit m)) (sym (stand-so (members_of w))) (fit-members w.members ready.chips.cores ready.strings))

at-first : (b : BoardState) → IsMade b → HasItsStrings b
at-first _ (described board_file table files w reads makes free) =
    made w (ready_wiring w (board_fits said_device files table w makes) (board_said said_device files table w makes) free)
at-first _ (bare n some most) = subst HasItsStrings (bare_is n) (made (bare_wiring n) (bare_ready n))

after : (bytes : List ℕ) (b : BoardState) → HasItsStrings b → HasItsStrings (after_bytes bytes b)
after bytes b its =
    let after = after_bytes bytes b in
    let kept = stays bytes b in
    has-strings after
    (subst (λ (nets : List Net). HasNoCircle nets (members after.chips)) (sym kept.0) (circles_stand b.nets (members b.chips) (members after.chips) kept.1 its.free))
    (fit-stays (members b.chips) (members after.chips) kept.1 its.fit)

pub every_board_has_its_strings : EveryBoardInUseHasItsStrings
every_board_has_its_strings b met = subst HasItsStrings (sym met.now) (after met.taken met.at_first (at-first met.at_first met.made))
