-- A scan by edges is a scan of whole registers.
use Rattle.std.proofs.Common.{◌≡◌, Bool, true, suc, ◌<◌, List, [], ◌∷◌, ◌++◌, length, take, drop, refl, sym, ap, ◌∙◌, map, subst, append_assoc, arith}
use Rattle.jt_tap.specs.declared.Column.{Column}
use Rattle.jt_tap.specs.declared.Column.TheVariants.{Dr, Ir}
use Rattle.jt_tap.specs.declared.State.{State}
use Rattle.jt_tap.specs.declared.State.TheVariants.{Reset, Idle, DrPause, IrPause}
use Rattle.jt_tap.specs.Controller.{next, is_stable}
use Rattle.board_model.specs.Cells.{Member}
use Rattle.pin_nets.specs.Wired.{Net}
use Rattle.board_model.specs.Chain.{hear}
use Rattle.board_model.specs.Whole.{AtRest, joined_bits, cut_back, capture, settle, out, shift}
use Rattle.scan_vectors.specs.Vector.{VectorBit, tdis}
use Rattle.bitbang.specs.Steps.{Scan}
use Rattle.play_model.specs.Meaning.{after_step, scan_end}
use Rattle.jt_tap.specs.Paths.{to_shift, from_exit1, last_of}
use Rattle.bitbang_protocol.specs.declared.Cycle.{Cycle}
use Rattle.bitbang_protocol.specs.Cycles.{entering, closed_messages}
use Rattle.bitbang.specs.StepMessages.{step_messages}
use Rattle.bitbang.specs.Cycles.{scan_cycles}
use Rattle.board_model.specs.Resting.{board_at_rest}
use Rattle.board_model.proofs.OneCycle.{low, Free, Ran, ran, heard_of, tail, hear-tail, asked, cycled}
use Rattle.board_model.proofs.Shift.{shift_state, Full}
use Rattle.play_model.proofs.Vectors.{vector, shifted, picked}
use Rattle.board_model.proofs.Walks.{IsWalk, walked, ran-walk, ends_at, at_rest, low-resting, stable-quiet}

-- one run after another
abbrev and_then : Ran → Ran → Ran
and_then a b = record { answers = a.answers ++ b.answers; state = b.state; members = b.members }

pub ran-append : (nets : List Net) (xs ys : List Cycle) (s : State) (ms : List Member)
    → ran nets (xs ++ ys) s ms ≡ and_then (ran nets xs s ms) (ran nets ys (ran nets xs s ms).state (ran nets xs s ms).members)
ran-append nets [] ys s ms = refl
ran-append nets (c ∷ xs) ys s ms =
    let e = ran-append nets xs ys (next s c.tms) (cycled s c.tms c.tdi nets ms) in
    let a = ran nets xs (next s c.tms) (cycled s c.tms c.tdi nets ms) in
    let b = ran nets ys a.state a.members in
    (λ i. record { answers = asked c.read s ms ++ (e i).answers; state = (e i).state; members = (e i).members })
    ∙ (λ i. record { answers = sym (append_assoc (asked c.read s ms) a.answers b.answers) i; state = b.state; members = b.members })

-- what the path to Shift is: a walk, to Shift, whose effect is settle and capture
pub record IsStart (place : State) (column : Column) : Type 0 where
  pub legal : IsWalk place (to_shift place column)
  pub ends : last_of place (to_shift place column) ≡ shift_state column
  pub effect : (trst : Bool) (nets : List Net) (ms : List Member)
      → at_rest place trst nets (walked nets place (to_shift place column) ms) ≡ capture column (settle (at_rest place trst nets ms))
  pub closes : (body last : List Cycle)
      → closed_messages (map entering (to_shift place column) ++ body ++ last) ≡ tail (map entering (to_shift place column) ++ body ++ last)

start-path : (place : State) (column : Column) → is_stable place ≡ true → IsStart place column
start-path Reset Dr sp = record { legal = (refl, refl, (refl, refl, (refl, refl, (refl, refl, tt)))); ends = refl; effect = λ trst nets ms. refl; closes = λ body last. refl }
start-path Reset Ir sp = record { legal = (refl, refl, (refl, refl, (refl, refl, (refl, refl, (refl, refl, tt))))); ends = refl; effect = λ trst nets ms. refl; closes = λ body last. refl }
start-path Idle Dr sp = record { legal = (refl, refl, (refl, refl, (refl, refl, tt))); ends = refl; effect = λ trst nets ms. refl; closes = λ body last. refl }
start-path Idle Ir sp = record { legal = (refl, refl, (refl, refl, (refl, refl, (refl, refl, tt)))); ends = refl; effect = λ trst nets ms. refl; closes = λ body last. refl }
start-path DrPause Dr sp = record { legal = (refl, refl, (refl, refl, (refl, refl, (refl, refl, (refl, refl, tt))))); ends = refl; effect = λ trst nets ms. refl; closes = λ body last. refl }
start-path DrPause Ir sp = record { legal = (refl, refl, (refl, refl, (refl, refl, (refl, refl, (refl, refl, (refl, refl, tt)))))); ends = refl; effect = λ trst nets ms. refl; closes = λ body last. refl }
start-path IrPause Dr sp = record { legal = (refl, refl, (refl, refl, (refl, refl, (refl, refl, (refl, refl, tt))))); ends = refl; effect = λ trst nets ms. refl; closes = λ body last. refl }
start-path IrPause Ir sp = record { legal = (refl, refl, (refl, refl, (refl, refl, (refl, refl, (refl, refl, (refl, refl, tt)))))); ends = refl; effect = λ trst nets ms. refl; closes = λ body last. refl }
start-path _ column sp = absurd (cc)

-- what the path from Exit1 is: a walk, to the end, whose effect is the scan's end
pub record IsFinish (column : Column) (end : State) : Type 0 where
  pub legal : IsWalk (next (shift_state column) true) (from_exit1 column end)
  pub ends : last_of (next (shift_state column) true) (from_exit1 column end) ≡ end
  pub effect : (place : State) (trst : Bool) (nets : List Net) (ms : List Member)
      → at_rest end trst nets (walked nets (next (shift_state column) true) (from_exit1 column end) ms) ≡ scan_end column end (at_rest place trst nets ms)

finish-path : (column : Column) (end : State) → is_stable end ≡ true → IsFinish column end
finish-path Dr Reset se = record { legal = (refl, refl, (refl, refl, (refl, refl, (refl, refl, tt)))); ends = refl; effect = λ place trst nets ms. refl }
finish-path Dr Idle se = record { legal = (refl, refl, (refl, refl, tt)); ends = refl; effect = λ place trst nets ms. refl }
finish-path Dr DrPause se = record { legal = (refl, refl, tt); ends = refl; effect = λ place trst nets ms. refl }
finish-path Dr IrPause se = record { legal = (refl, refl, (refl, refl, (refl, refl, (refl, refl, (refl, refl, (refl, refl, tt)))))); ends = refl; effect = λ place trst nets ms. refl }
finish-path Dr _ se = absurd (cc)
finish-path Ir Reset se = record { legal = (refl, refl, (refl, refl, (refl, refl, (refl, refl, tt)))); ends = refl; effect = λ place trst nets ms. refl }
finish-path Ir Idle se = record { legal = (refl, refl, (refl, refl, tt)); ends = refl; effect = λ place trst nets ms. refl }
finish-path Ir DrPause se = record { legal = (refl, refl, (refl, refl, (refl, refl, (refl, refl, (refl, refl, tt))))); ends = refl; effect = λ place trst nets ms. refl }
finish-path Ir IrPause se = record { legal = (refl, refl, tt); ends = refl; effect = λ place trst nets ms. refl }
finish-path Ir _ se = absurd (cc)

vector-nonempty : (column : Column) (nets : List Net) (v : VectorBit) (vs : List VectorBit) (ms : List Member) → 0 < length ms → Full column ms
    → ran nets (scan_cycles (v ∷ vs)) (shift_state column) ms ≡ shifted column (v ∷ vs) (joined_bits column ms ++ tdis (v ∷ vs)) ms
vector-nonempty column nets v vs [] some full = absurd (omega arith)
vector-nonempty column nets v vs (m ∷ ms) some full = vector column nets v vs m ms full

length-tdis : (v : List VectorBit) → length v ≡ length (tdis v)
length-tdis [] = refl
length-tdis (v ∷ vs) = ap (λ n. suc n) (length-tdis vs)

append-nil : (xs : List Bool) → xs ++ [] ≡ xs
append-nil [] = refl
append-nil (x ∷ xs) = ap (λ r. x ∷ r) (append-nil xs)

-- the devices as the scan's shift finds them
abbrev pub ready : Column → State → Bool → List Net → List Member → AtRest
ready column place trst nets ms = capture column (settle (at_rest place trst nets ms))

-- From rest, the bytes of a scan are its capture, its shift by the whole vector and its end; the answers are the
-- wanted bits of the out.
pub scan-law : (column : Column) (v : VectorBit) (vs : List VectorBit) (place end : State) (trst : Bool) (nets : List Net) (ms : List Member)
    → is_stable place ≡ true → is_stable end ≡ true → Free trst ms
    → 0 < length (ready column place trst nets ms).members → Full column (ready column place trst nets ms).members
    → hear (step_messages place (Scan column (v ∷ vs) end)) (board_at_rest (at_rest place trst nets ms))
    ≡ record {
      answers = picked (v ∷ vs) (out column (tdis (v ∷ vs)) (ready column place trst nets ms));
      board = board_at_rest (after_step (Scan column (v ∷ vs) end) (at_rest place trst nets ms));
    }
scan-law column v vs place end trst nets ms sp se free some full =
    let start = start-path place column sp in
    let finish = finish-path column end se in
    let first = map entering (to_shift place column) in
    let body = scan_cycles (v ∷ vs) in
    let last = map entering (from_exit1 column end) in
    let S = shift_state column in
    let E = next S true in
    let C = walked nets place (to_shift place column) ms in
    let same : at_rest place trst nets C ≡ ready column place trst nets ms = start.effect trst nets ms in
    let some_here : 0 < length C = subst (λ (m : AtRest). 0 < length m.members) (sym same) some in
    let full_here : Full column C = subst (λ (m : AtRest). Full column m.members) (sym same) full in
    let ts = tdis (v ∷ vs) in
    let line = joined_bits column C ++ ts in
    let A = picked (v ∷ vs) (take (length (v ∷ vs)) line) in
    let D = cut_back column (drop (length (v ∷ vs)) line) C in
    let after = walked nets E (from_exit1 column end) D in
    let to_there : ran nets first place ms ≡ ends_at S C =
    ran-walk nets (to_shift place column) place ms start.legal ∙ (λ i. ends_at (start.ends i) C) in
    let through : ran nets body S C ≡ shifted column (v ∷ vs) line C = vector-nonempty column nets v vs C some_here full_here in
    let back : ran nets last E D ≡ ends_at end after =
    ran-walk nets (from_exit1 column end) E D finish.legal ∙ (λ i. ends_at (finish.ends i) after) in
    let forth : ran nets (first ++ body) place ms ≡ record { answers = A; state = E; members = D } =
    ran-append nets first body place ms
    ∙ (λ i. and_then (to_there i) (ran nets body (to_there i).state (to_there i).members))
    ∙ (λ i. and_then (ends_at S C) (through i)) in
    let whole : ran nets (first ++ body ++ last) place ms ≡ record { answers = A; state = end; members = after } =
    ran-append nets (first ++ body) last place ms
    ∙ (λ i. and_then (forth i) (ran nets last (forth i).state (forth i).members))
    ∙ (λ i. and_then (record { answers = A; state = E; members = D }) (back i))
    ∙ (λ i. record { answers = append-nil A i; state = end; members = after }) in
    ap (λ b. hear (step_messages place (Scan column (v ∷ vs) end)) b) (sym (low-resting place trst nets ms (stable-quiet place sp)))
    ∙ ap (λ ask. hear ask (low place trst nets ms)) (start.closes body last)
    ∙ hear-tail trst nets (first ++ body ++ last) place ms free
    ∙ ap (heard_of trst nets) whole
    ∙ (λ i. record { answers = A; board = low-resting end trst nets after (stable-quiet end se) i })
    ∙ (λ i. record { answers = A; board = board_at_rest (finish.effect place trst nets D i) })
    ∙ (λ i. record {
      answers = picked (v ∷ vs) (take (length-tdis (v ∷ vs) i) line);
      board = board_at_rest (scan_end column end (at_rest place trst nets (cut_back column (drop (length-tdis (v ∷ vs) i) line) C)));
    })
    ∙ (λ i. record {
      answers = picked (v ∷ vs) (out column ts (same i));
      board = board_at_rest (scan_end column end (shift column ts (same i)));
    })
