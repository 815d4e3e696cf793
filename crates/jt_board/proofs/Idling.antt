-- Bytes with TMS low do nothing to a board that rests but move TCK.
use Rattle.std.proofs.Common.{◌≡◌, ℕ, zero, suc, length-take, ◌+◌, ◌<◌, ◌≤◌, Bool, true, false, ◌&&◌, not, List, [], ◌∷◌, ◌++◌, map, length, take, get_or, refl, sym, ap, ◌∙◌, subst, arith}
use Rattle.std.specs.Prelude.{Option, Some, None, drop, slice_get, unwrap_or}
use Rattle.std.specs.List.{list_all, prefix_len}
use Rattle.std.proofs.lemmas.List.{take_more, get_or-take}
use Rattle.std.proofs.lemmas.List.Elements.{All-from_get_or}
use Rattle.std.proofs.lemmas.List.Sums.{list_all-from_AllPass, prefix_len_is}
use Rattle.jt_tap.specs.declared.State.{State}
use Rattle.jt_tap.specs.declared.State.TheVariants.{Idle, DrPause, IrPause}
use Rattle.bitbang_protocol.specs.declared.Message.{Message}
use Rattle.bitbang_protocol.specs.declared.Message.TheVariants.{Write}
use Rattle.bitbang_protocol.specs.Protocol.{decode}
use Rattle.board_model.specs.Cells.{Member, Told}
use Rattle.board_model.specs.Nets as nets
use Rattle.board_model.specs.Chain.{BoardState, ChipState, after_byte, after_bytes, after_levels, after_message, fall, members, rise, rise_all, tdi_before}
use Rattle.jt_board.specs.Idling.{Moved, idles, is_idle_byte, level, rests, writes_idle}

pub both : (x y : Bool) → (x && y) ≡ true → (x ≡ true) × (y ≡ true)
both true true h = (refl, refl)
both true false h = cc
both false y h = cc

-- ---- one device

fell : (s : State) (o : Option Bool) (m : Member) → rests s o ≡ true → fall (record { member = m; state = s; tdo = o }) ≡ record { member = m; state = s; tdo = o }
fell Idle None m h = refl
fell DrPause None m h = refl
fell IrPause None m h = refl
fell _ _ m h = cc

rose : (s : State) (o : Option Bool) (m : Member) (tdi : Bool) (about : Told) → rests s o ≡ true
    → rise false false tdi about (record { member = m; state = s; tdo = o }) ≡ record { member = m; state = s; tdo = o }
rose Idle None m tdi about h = refl
rose DrPause None m tdi about h = refl
rose IrPause None m tdi about h = refl
rose _ _ m tdi about h = cc

-- ---- all devices

fell_all : (cs : List ChipState) → list_all (λ c. rests c.state c.tdo) cs ≡ true → map fall cs ≡ cs
fell_all [] h = refl
fell_all (c ∷ cs) h =
    let parts = both (rests c.state c.tdo) (list_all (λ c. rests c.state c.tdo) cs) h in
    λ i. fell c.state c.tdo c.member parts.0 i ∷ fell_all cs parts.1 i

rose_all : (cs : List ChipState) (tdi : Bool) (about : ℕ → Told) (k : ℕ) → list_all (λ c. rests c.state c.tdo) cs ≡ true
    → rise_all false false tdi about k cs ≡ cs
rose_all [] tdi about k h = refl
rose_all (c ∷ cs) tdi about k h =
    let parts = both (rests c.state c.tdo) (list_all (λ c. rests c.state c.tdo) cs) h in
    λ i. rose c.state c.tdo c.member (tdi_before tdi cs) (about k) parts.0 i ∷ rose_all cs tdi about (suc k) parts.1 i

low : (b : Bool) → not b ≡ true → b ≡ false
low true h = cc
low false h = refl

levels_keep : (was tck tdi : Bool) (b : BoardState) → idles b ≡ true → after_levels was tck false tdi b ≡ b.chips
levels_keep false true tdi b h =
    let parts = both (not b.trst) (list_all (λ c. rests c.state c.tdo) b.chips) h in
    ap (λ t. rise_all t false tdi (nets.told b.nets (members b.chips)) 0 b.chips) (low b.trst parts.0)
    ∙ rose_all b.chips tdi (nets.told b.nets (members b.chips)) 0 parts.1
levels_keep true false tdi b h =
    fell_all b.chips (both (not b.trst) (list_all (λ c. rests c.state c.tdo) b.chips) h).1
levels_keep false false tdi b h = refl
levels_keep true true tdi b h = refl

-- ---- a byte, and many

told : (o : Option Message) (b : BoardState) → writes_idle o ≡ true → idles b ≡ true
    → (elim o [ Some m ↦ after_message m b | None ↦ b ]) ≡ record b { tck = level o b.tck }
told (Some (Write tck false tdi)) b idle h =
    ap (λ (cs : List ChipState). record b { tck = tck; chips = cs }) (levels_keep b.tck tck tdi b h)
told _ b idle h = cc

pub byte_moves_tck : (byte : ℕ) (b : BoardState) → is_idle_byte byte ≡ true → idles b ≡ true
    → after_byte byte b ≡ record b { tck = level (decode byte) b.tck }
byte_moves_tck byte b idle h = told (decode byte) b idle h

after_both : (xs : List ℕ) (byte : ℕ) (b : BoardState) → after_bytes (xs ++ byte ∷ []) b ≡ after_byte byte (after_bytes xs b)
after_both [] byte b = refl
after_both (x ∷ xs) byte b = after_both xs byte (after_byte x b)

pub moved_none : (was : Bool) → Moved [] was was
moved_none was b h e = ap (λ t. record b { tck = t }) e

pub moved_more : (bytes : List ℕ) (i : ℕ) (was tck : Bool) → i < length bytes → is_idle_byte (get_or bytes i 0) ≡ true
    → Moved (take i bytes) was tck → Moved (take (i + 1) bytes) was (level (decode (get_or bytes i 0)) tck)
moved_more bytes i was tck inside idle moved b h e =
    ap (λ l. after_bytes l b) (take_more bytes i 0 inside)
    ∙ after_both (take i bytes) (get_or bytes i 0) b
    ∙ ap (after_byte (get_or bytes i 0)) (moved b h e)
    ∙ byte_moves_tck (get_or bytes i 0) (record b { tck = tck }) idle h

-- ---- the run at the front

pub level_any : (o : Option Message) (was : Bool) → writes_idle o ≡ true → level o was ≡ level o false
level_any (Some (Write tck tms tdi)) was h = refl
level_any _ was h = cc

pub idle_front : (bytes : List ℕ) (i : ℕ) → i ≤ length bytes → ((k : ℕ) → k < i → is_idle_byte (get_or bytes k 0) ≡ true)
    → list_all is_idle_byte (take i bytes) ≡ true
idle_front bytes i within h =
    list_all-from_AllPass is_idle_byte (take i bytes) (All-from_get_or (λ x. is_idle_byte x ≡ true) (take i bytes) 0
    (λ k inside.
    let lt : k < i = omega (arith, length-take i bytes) in
    subst (λ x. is_idle_byte x ≡ true) (sym (get_or-take i bytes k 0 lt)) (h k lt)))

pub idle_len : (bytes : List ℕ) (i : ℕ) → i ≤ length bytes → ((k : ℕ) → k < i → is_idle_byte (get_or bytes k 0) ≡ true)
    → (i < length bytes → is_idle_byte (get_or bytes i 0) ≡ false) → i ≡ prefix_len is_idle_byte bytes
idle_len bytes i within h stops = sym (prefix_len_is is_idle_byte bytes i 0 within h stops)

-- ---- the devices, one by one

some_same : (x y : ChipState) → Some x ≡ Some y → x ≡ y
some_same x y e = ap (λ (o : Option ChipState). unwrap_or o x) e

rest_at : (cs : List ChipState) (i : ℕ) (c : ChipState) → slice_get cs i ≡ Some c
    → list_all (λ c. rests c.state c.tdo) (drop i cs) ≡ (rests c.state c.tdo && list_all (λ c. rests c.state c.tdo) (drop (suc i) cs))
rest_at [] i c e = cc
rest_at (x ∷ xs) zero c e = ap (λ y. rests y.state y.tdo && list_all (λ c. rests c.state c.tdo) xs) (some_same x c e)
rest_at (x ∷ xs) (suc i) c e = rest_at xs i c e

pub rest_next : (cs : List ChipState) (i : ℕ) (c : ChipState) → slice_get cs i ≡ Some c
    → list_all (λ c. rests c.state c.tdo) (drop i cs) ≡ (rests c.state c.tdo && list_all (λ c. rests c.state c.tdo) (drop (i + 1) cs))
rest_next cs i c e =
    let next : suc i ≡ i + 1 = omega arith in
    rest_at cs i c e ∙ ap (λ n. rests c.state c.tdo && list_all (λ c. rests c.state c.tdo) (drop n cs)) next
