-- A message that is drawn: what it writes, and the pen behind it.
use Rattle.std.proofs.Common.{◌≡◌, ◌≤◌, ◌-◌, ◌^◌, ℕ, Bool, true, false, ◌&&◌, List, [], ◌++◌, length, min, is_none, Some, None, sym, ap, ◌∙◌, arith}
use Rattle.std.specs.Prelude.{if◌then◌else◌}
use Rattle.jt_limits.specs.Limits.{limits}
use Rattle.pin_nets.specs.Wired.{Net}
use Rattle.bitbang_protocol.specs.declared.Message.{Message}
use Rattle.bitbang_protocol.specs.Protocol.{encode}
use Rattle.board_model.specs.Chain.{BoardState, ChipState, after_byte, after_message}
use Rattle.board_model.proofs.SoundEdges.{count-told}
use Rattle.play_drawing.specs.declared.marks.Marks.{Marks}
use Rattle.play_drawing.specs.Drawing.{after_mark, between, is_drawn, lasting, lasts, later, mark, marks_behind, shown, taken}
use Rattle.wave_files.specs.declared.extras.Extras.{Extras}
use Rattle.wave_files.specs.Changes.{board_changes, line_changes, stamp}
use Rattle.wave_files.specs.Extras.{all_extra_changes}
use Rattle.play_drawing.specs.Pens.{Pen, begun}
use Rattle.play_drawing.proofs.Messages.{by_byte, same_nets}

-- a pen by its parts
abbrev pub pen : Extras → Marks → BoardState → Pen
pen x marks b = record { marks = marks; extras = x; board = b }

pub begins : (x : Extras) (a b : BoardState) (tck : Bool) → a ≡ b → tck ≡ a.tck
    → pen x (record { tck = Some tck; tms = None; tdi = None; time = 0; rested = 0 }) a ≡ begun x b
begins x a b tck same level =
    ap (λ (l : Bool). pen x (record { tck = Some l; tms = None; tdi = None; time = 0; rested = 0 }) a) level ∙ ap (begun x) same

-- ---- what is written between two pens

module _ (p q : Pen) where
  abbrev all : List ℕ
  all =
      stamp p.marks.time
      ++ (line_changes (shown p) (shown q)
      ++ (board_changes p.board.nets p.board.chips q.board.chips
      ++ all_extra_changes p.extras p.board.nets p.board.chips q.board.chips))

  pub silent : (still : Bool) → still ≡ (is_none p.marks.tck && is_none q.marks.tck) → still ≡ true → [] ≡ between p q
  silent still is so = sym (ap (λ (x : Bool). if x then [] else all) (sym is ∙ so))

  pub told : (still : Bool) → still ≡ (is_none p.marks.tck && is_none q.marks.tck) → still ≡ false → all ≡ between p q
  told still is so = sym (ap (λ (x : Bool). if x then [] else all) (sym is ∙ so))

-- ---- a message

pub heard : (m : Message) (n : ℕ) (b c : BoardState) → n ≡ encode m → c ≡ after_byte n b → c ≡ after_message m b
heard m n b c code at = at ∙ ap (λ (k : ℕ). after_byte k b) code ∙ by_byte m b

pub is_taken : (e : Extras) (m : Message) (marks after : Marks) (b c : BoardState) (tck : Bool) (chips : List ChipState) → c ≡ after_message m b → tck ≡ c.tck → chips ≡ c.chips
    → after ≡ marks_behind m marks tck chips → pen e after c ≡ taken m (pen e marks b)
is_taken e m marks after b c tck chips at level there is =
    ap (λ (x : Marks). pen e x c) is
    ∙ ap (λ (x : Bool). pen e (marks_behind m marks x chips) c) level
    ∙ ap (λ (x : List ChipState). pen e (marks_behind m marks c.tck x) c) there
    ∙ ap (λ (x : BoardState). pen e (marks_behind m marks x.tck x.chips) x) at

pub is_mark : (m : Message) (p before after : Pen) → is_drawn m ≡ true → before ≡ p → after ≡ taken m p → between before after ≡ mark m p
is_mark m p before after drawn at next =
    ap (λ (x : Pen). between x after) at ∙ ap (between p) next
    ∙ sym (ap (λ (x : Bool). if x then between p (taken m p) else []) drawn)

pub is_after : (period : ℕ) (m : Message) (p after : Pen) (time : ℕ) → is_drawn m ≡ true → after ≡ taken m p → time ≡ later after.marks.time (lasts period m)
    → pen after.extras (record after.marks { time = time }) after.board ≡ after_mark period m p
is_after period m p after time drawn next is =
    ap (λ (t : ℕ). pen after.extras (record after.marks { time = t }) after.board) is
    ∙ ap (lasting (lasts period m)) next
    ∙ sym (ap (λ (x : Bool). if x then lasting (lasts period m) (taken m p) else p) drawn)

-- ---- what two boards keep that take the same messages

abbrev pub AreAlike : (ahead behind : BoardState) → Type 0
AreAlike a b = (a ≡ b) × (length a.chips ≤ limits.devices) × (length a.nets ≤ limits.nets)

pub still_alike : (m : Message) (a b c d : BoardState) → AreAlike a b → c ≡ after_message m a → d ≡ after_message m b → AreAlike c d
still_alike m a b c d is ahead behind = (
  ahead ∙ ap (after_message m) is.0 ∙ sym behind,
  omega (arith, is.1, ap (λ (x : BoardState). length x.chips) ahead, count-told m a),
  omega (arith, is.2, ap (λ (x : BoardState). length x.nets) ahead, ap (λ (ns : List Net). length ns) (same_nets m a)),
)

-- ---- time

pub later_most : (t n : ℕ) → later t (min n (2 ^ 64 - 1)) ≡ later t n
later_most t n = omega arith
