-- Stated paths and runs by edges are those of whole registers.
use Rattle.std.specs.Prelude.{⊤}
use Rattle.std.proofs.Common.{◌≡◌, Bool, true, false, ℕ, zero, suc, List, [], ◌∷◌, ◌++◌, length, drop, replicate, refl, sym, ap, ◌∙◌, map, subst, arith, length-append, length-drop}
use Rattle.jt_tap.specs.declared.Column.{Column}
use Rattle.jt_tap.specs.declared.Column.TheVariants.{Dr, Ir}
use Rattle.jt_tap.specs.declared.State.{State}
use Rattle.jt_tap.specs.declared.State.TheVariants.{Reset, Idle, DrSelect, DrCapture, DrShift, DrExit1, DrPause, DrExit2, DrUpdate, IrSelect, IrCapture, IrShift, IrExit1, IrPause, IrExit2, IrUpdate}
use Rattle.jt_tap.specs.declared.Work.{Work}
use Rattle.jt_tap.specs.declared.Work.TheVariants.{Resets, Captures, Shifts, Updates, Waits}
use Rattle.jt_tap.specs.Controller.{next, work, entered_by, is_stable}
use Rattle.board_model.specs.Cells.{Member}
use Rattle.pin_nets.specs.Wired.{Net}
use Rattle.board_model.specs.Nets.{told}
use Rattle.board_model.specs.Chain.{hear}
use Rattle.board_model.specs.Whole.{joined_bits, cut_back, capture_all, reset_member, pass, along}
use Rattle.bitbang.specs.Steps.{Path, Run}
use Rattle.play_model.specs.Meaning.{after_step, move_unless_there}
use Rattle.bitbang_protocol.specs.Cycles.{entering, closed_messages}
use Rattle.bitbang.specs.Cycles.{cycles, go_unless_there}
use Rattle.bitbang.specs.StepMessages.{step_messages}
use Rattle.jt_tap.specs.Paths.{last_of}
use Rattle.board_model.specs.Resting.{board_at_rest}
use Rattle.board_model.proofs.OneCycle.{low, Free, cycled, ran, heard_of, hear-tail}
use Rattle.board_model.proofs.ShiftCycles.{cycled-shift}
use Rattle.board_model.proofs.Resets.{reset-twice}
use Rattle.board_model.specs.Sound.{AllSound}
use Rattle.board_model.proofs.Sound.{Sound-Full, Sound-capture_all, Sound-cut_back, Sound-update, Sound-reset}
use Rattle.board_model.proofs.Walks.{fall_whole, cycled-whole, ends_at, at_rest, low-resting, stable-quiet, IsWalk, walked, closed-walk}

-- what the devices do on the rising edge that leaves a state of this work, TDI being 0
abbrev pub leave : Work → List Net → List Member → List Member
leave (Captures column) nets ms = capture_all column (told nets ms) 0 ms
leave (Shifts column) nets ms = cut_back column (drop 1 (joined_bits column ms ++ false ∷ [])) ms
leave _ nets ms = ms

cycled-leave : (s : State) (tms : Bool) (nets : List Net) (ms : List Member) → AllSound ms
    → cycled s tms false nets ms ≡ fall_whole (work (next s tms)) (leave (work s) nets ms)
cycled-leave DrShift true nets ms sound = cycled-shift Dr true false nets ms (Sound-Full Dr ms sound)
cycled-leave DrShift false nets ms sound = cycled-shift Dr false false nets ms (Sound-Full Dr ms sound)
cycled-leave IrShift true nets ms sound = cycled-shift Ir true false nets ms (Sound-Full Ir ms sound)
cycled-leave IrShift false nets ms sound = cycled-shift Ir false false nets ms (Sound-Full Ir ms sound)
cycled-leave Reset tms nets ms sound = cycled-whole Reset tms false nets ms refl
cycled-leave Idle tms nets ms sound = cycled-whole Idle tms false nets ms refl
cycled-leave DrSelect tms nets ms sound = cycled-whole DrSelect tms false nets ms refl
cycled-leave DrCapture tms nets ms sound = cycled-whole DrCapture tms false nets ms refl
cycled-leave DrExit1 tms nets ms sound = cycled-whole DrExit1 tms false nets ms refl
cycled-leave DrPause tms nets ms sound = cycled-whole DrPause tms false nets ms refl
cycled-leave DrExit2 tms nets ms sound = cycled-whole DrExit2 tms false nets ms refl
cycled-leave DrUpdate tms nets ms sound = cycled-whole DrUpdate tms false nets ms refl
cycled-leave IrSelect tms nets ms sound = cycled-whole IrSelect tms false nets ms refl
cycled-leave IrCapture tms nets ms sound = cycled-whole IrCapture tms false nets ms refl
cycled-leave IrExit1 tms nets ms sound = cycled-whole IrExit1 tms false nets ms refl
cycled-leave IrPause tms nets ms sound = cycled-whole IrPause tms false nets ms refl
cycled-leave IrExit2 tms nets ms sound = cycled-whole IrExit2 tms false nets ms refl
cycled-leave IrUpdate tms nets ms sound = cycled-whole IrUpdate tms false nets ms refl

shifted-length : (column : Column) (ms : List Member) → length (drop 1 (joined_bits column ms ++ false ∷ [])) ≡ length (joined_bits column ms)
shifted-length column ms =
    let J = joined_bits column ms in
    omega (arith, length-drop 1 (J ++ false ∷ []), length-append J (false ∷ []))

Sound-leave : (w : Work) (nets : List Net) (ms : List Member) → AllSound ms → AllSound (leave w nets ms)
Sound-leave (Captures column) nets ms sound = Sound-capture_all column (told nets ms) 0 ms sound
Sound-leave (Shifts column) nets ms sound = Sound-cut_back column _ ms sound (shifted-length column ms)
Sound-leave Resets nets ms sound = sound
Sound-leave (Updates column) nets ms sound = sound
Sound-leave Waits nets ms sound = sound

Sound-fall : (w : Work) (ms : List Member) → AllSound ms → AllSound (fall_whole w ms)
Sound-fall (Updates column) ms sound = Sound-update column ms sound
Sound-fall Resets ms sound = Sound-reset ms sound
Sound-fall (Captures column) ms sound = sound
Sound-fall (Shifts column) ms sound = sound
Sound-fall Waits ms sound = sound

abbrev travelled : List Net → State → List State → List Member → List Member
travelled nets s [] ms = ms
travelled nets s (t ∷ path) ms = travelled nets t path (fall_whole (work t) (leave (work s) nets ms))

-- each state one cycle from the one before
abbrev pub IsTrip : State → List State → Type 0
IsTrip s [] = ⊤
IsTrip s (t ∷ path) = (next s (entered_by t) ≡ t) × IsTrip t path

ran-travel : (nets : List Net) (path : List State) (s : State) (ms : List Member) → IsTrip s path → AllSound ms
    → ran nets (map entering path) s ms ≡ ends_at (last_of s path) (travelled nets s path ms)
ran-travel nets [] s ms legal sound = refl
ran-travel nets (t ∷ path) s ms legal sound =
    (λ i. ran nets (map entering path) (legal.0 i) (cycled s (entered_by t) false nets ms))
    ∙ ap (λ r. ran nets (map entering path) t r)
    (cycled-leave s (entered_by t) nets ms sound ∙ ap (λ u. fall_whole (work u) (leave (work s) nets ms)) legal.0)
    ∙ ran-travel nets path t _ legal.1 (Sound-fall (work t) _ (Sound-leave (work s) nets ms sound))

-- naming a state is its falling edge's work and, as one, its rising edge's
pass-leave : (w : Work) (s t : State) (trst : Bool) (nets : List Net) (ms : List Member)
    → at_rest t trst nets (leave w nets (fall_whole w ms)) ≡ record (pass w (at_rest s trst nets ms)) { place = t }
pass-leave Resets s t trst nets ms = refl
pass-leave (Captures column) s t trst nets ms = refl
pass-leave (Shifts column) s t trst nets ms = refl
pass-leave (Updates column) s t trst nets ms = refl
pass-leave Waits s t trst nets ms = refl

travelled-along : (path : List State) (s : State) (trst : Bool) (nets : List Net) (ms : List Member)
    → at_rest (last_of s path) trst nets (leave (work (last_of s path)) nets (travelled nets s path ms))
    ≡ along path (at_rest s trst nets (leave (work s) nets ms))
travelled-along [] s trst nets ms = refl
travelled-along (t ∷ path) s trst nets ms =
    travelled-along path t trst nets (fall_whole (work t) (leave (work s) nets ms))
    ∙ ap (along path) (pass-leave (work t) s t trst nets (leave (work s) nets ms))

stable-leave : (s : State) (nets : List Net) (ms : List Member) → is_stable s ≡ true → leave (work s) nets ms ≡ ms
stable-leave Reset nets ms stable = refl
stable-leave Idle nets ms stable = refl
stable-leave DrPause nets ms stable = refl
stable-leave IrPause nets ms stable = refl
stable-leave _ nets ms stable = absurd (cc)

closed-travel : (path : List State) (s : State) (trst : Bool) (nets : List Net) (ms : List Member) → IsTrip s path → AllSound ms → Free trst ms
    → hear (closed_messages (map entering path)) (low s trst nets ms) ≡ heard_of trst nets (ends_at (last_of s path) (travelled nets s path ms))
closed-travel [] s trst nets ms legal sound free = refl
closed-travel (t ∷ path) s trst nets ms legal sound free =
    hear-tail trst nets (map entering (t ∷ path)) s ms free ∙ ap (heard_of trst nets) (ran-travel nets (t ∷ path) s ms legal sound)

-- From rest, the bytes of a stated path do what its named states do, shifts included.
pub path-law : (path : List State) (place : State) (trst : Bool) (nets : List Net) (ms : List Member)
    → is_stable place ≡ true → is_stable (last_of place path) ≡ true → IsTrip place path → AllSound ms → Free trst ms
    → hear (step_messages place (Path path)) (board_at_rest (at_rest place trst nets ms))
    ≡ record { answers = []; board = board_at_rest (after_step (Path path) (at_rest place trst nets ms)) }
path-law path place trst nets ms sp se legal sound free =
    let end = last_of place path in
    let T = travelled nets place path ms in
    ap (λ b. hear (step_messages place (Path path)) b) (sym (low-resting place trst nets ms (stable-quiet place sp)))
    ∙ closed-travel path place trst nets ms legal sound free
    ∙ (λ i. record { answers = []; board = low-resting end trst nets T (stable-quiet end se) i })
    ∙ (λ i. record { answers = []; board = board_at_rest (at_rest end trst nets (sym (stable-leave end nets T se) i)) })
    ∙ (λ i. record { answers = []; board = board_at_rest (travelled-along path place trst nets ms i) })
    ∙ (λ i. record { answers = []; board = board_at_rest (along path (at_rest place trst nets (stable-leave place nets ms sp i))) })

-- a move that is none where the place is already reached
pub record IsMaybeMove (from to : State) : Type 0 where
  pub legal : IsWalk from (go_unless_there from to)
  pub ends : last_of from (go_unless_there from to) ≡ to
  pub effect : (trst : Bool) (nets : List Net) (ms : List Member)
      → at_rest to trst nets (walked nets from (go_unless_there from to) ms) ≡ move_unless_there to (at_rest from trst nets ms)

maybe-move : (from to : State) → is_stable from ≡ true → is_stable to ≡ true → IsMaybeMove from to
maybe-move Reset Reset sf st = record { legal = tt; ends = refl; effect = λ trst nets ms. refl }
maybe-move Reset Idle sf st = record { legal = (refl, refl, tt); ends = refl; effect = λ trst nets ms. refl }
maybe-move Reset DrPause sf st = record { legal = (refl, refl, (refl, refl, (refl, refl, (refl, refl, (refl, refl, tt))))); ends = refl; effect = λ trst nets ms. refl }
maybe-move Reset IrPause sf st = record { legal = (refl, refl, (refl, refl, (refl, refl, (refl, refl, (refl, refl, (refl, refl, tt)))))); ends = refl; effect = λ trst nets ms. refl }
maybe-move Reset _ sf st = absurd (cc)
maybe-move Idle Reset sf st = record { legal = (refl, refl, (refl, refl, (refl, refl, tt))); ends = refl; effect = λ trst nets ms. refl }
maybe-move Idle Idle sf st = record { legal = tt; ends = refl; effect = λ trst nets ms. refl }
maybe-move Idle DrPause sf st = record { legal = (refl, refl, (refl, refl, (refl, refl, (refl, refl, tt)))); ends = refl; effect = λ trst nets ms. refl }
maybe-move Idle IrPause sf st = record { legal = (refl, refl, (refl, refl, (refl, refl, (refl, refl, (refl, refl, tt))))); ends = refl; effect = λ trst nets ms. refl }
maybe-move Idle _ sf st = absurd (cc)
maybe-move DrPause Reset sf st = record { legal = (refl, refl, (refl, refl, (refl, refl, (refl, refl, (refl, refl, tt))))); ends = refl; effect = λ trst nets ms. refl }
maybe-move DrPause Idle sf st = record { legal = (refl, refl, (refl, refl, (refl, refl, tt))); ends = refl; effect = λ trst nets ms. refl }
maybe-move DrPause DrPause sf st = record { legal = tt; ends = refl; effect = λ trst nets ms. refl }
maybe-move DrPause IrPause sf st = record { legal = (refl, refl, (refl, refl, (refl, refl, (refl, refl, (refl, refl, (refl, refl, (refl, refl, tt))))))); ends = refl; effect = λ trst nets ms. refl }
maybe-move DrPause _ sf st = absurd (cc)
maybe-move IrPause Reset sf st = record { legal = (refl, refl, (refl, refl, (refl, refl, (refl, refl, (refl, refl, tt))))); ends = refl; effect = λ trst nets ms. refl }
maybe-move IrPause Idle sf st = record { legal = (refl, refl, (refl, refl, (refl, refl, tt))); ends = refl; effect = λ trst nets ms. refl }
maybe-move IrPause DrPause sf st = record { legal = (refl, refl, (refl, refl, (refl, refl, (refl, refl, (refl, refl, (refl, refl, tt)))))); ends = refl; effect = λ trst nets ms. refl }
maybe-move IrPause IrPause sf st = record { legal = tt; ends = refl; effect = λ trst nets ms. refl }
maybe-move IrPause _ sf st = absurd (cc)
maybe-move _ to sf st = absurd (cc)

map-append : (xs ys : List State) → map entering xs ++ map entering ys ≡ map entering (xs ++ ys)
map-append [] ys = refl
map-append (x ∷ xs) ys = ap (λ r. entering x ∷ r) (map-append xs ys)

map-replicate : (n : ℕ) (s : State) → replicate n (entering s) ≡ map entering (replicate n s)
map-replicate zero s = refl
map-replicate (suc n) s = ap (λ r. entering s ∷ r) (map-replicate n s)

walk-append : (xs ys : List State) (s : State) → IsWalk s xs → IsWalk (last_of s xs) ys → IsWalk s (xs ++ ys)
walk-append [] ys s a b = b
walk-append (x ∷ xs) ys s a b = (a.0, a.1, walk-append xs ys x a.2 b)

last-append : (xs ys : List State) (s : State) → last_of s (xs ++ ys) ≡ last_of (last_of s xs) ys
last-append [] ys s = refl
last-append (x ∷ xs) ys s = last-append xs ys x

walked-append : (nets : List Net) (xs ys : List State) (s : State) (ms : List Member) → walked nets s (xs ++ ys) ms ≡ walked nets (last_of s xs) ys (walked nets s xs ms)
walked-append nets [] ys s ms = refl
walked-append nets (x ∷ xs) ys s ms = walked-append nets xs ys x _

stay-walk : (n : ℕ) (s : State) → is_stable s ≡ true → IsWalk s (replicate n s)
stay-walk zero s stable = tt
stay-walk (suc n) Reset stable = (refl, refl, stay-walk n Reset stable)
stay-walk (suc n) Idle stable = (refl, refl, stay-walk n Idle stable)
stay-walk (suc n) DrPause stable = (refl, refl, stay-walk n DrPause stable)
stay-walk (suc n) IrPause stable = (refl, refl, stay-walk n IrPause stable)
stay-walk (suc n) _ stable = absurd (cc)

stay-last : (n : ℕ) (s : State) → last_of s (replicate n s) ≡ s
stay-last zero s = refl
stay-last (suc n) s = stay-last n s

abbrev pub StaysReset : State → List Member → Type 0
StaysReset s ms = s ≡ Reset → map reset_member ms ≡ ms

stay-walked : (n : ℕ) (s : State) (nets : List Net) (ms : List Member) → is_stable s ≡ true → StaysReset s ms → walked nets s (replicate n s) ms ≡ ms
stay-walked zero s nets ms stable kept = refl
stay-walked (suc n) Reset nets ms stable kept = ap (λ r. walked nets Reset (replicate n Reset) r) (kept refl) ∙ stay-walked n Reset nets ms stable kept
stay-walked (suc n) Idle nets ms stable kept = stay-walked n Idle nets ms stable kept
stay-walked (suc n) DrPause nets ms stable kept = stay-walked n DrPause nets ms stable kept
stay-walked (suc n) IrPause nets ms stable kept = stay-walked n IrPause nets ms stable kept
stay-walked (suc n) _ nets ms stable kept = absurd (cc)

pub reset-all-twice : (ms : List Member) → map reset_member (map reset_member ms) ≡ map reset_member ms
reset-all-twice [] = refl
reset-all-twice (m ∷ ms) = λ i. reset-twice m i ∷ reset-all-twice ms i

stays-after : (place run : State) (nets : List Net) (ms : List Member) → is_stable place ≡ true → is_stable run ≡ true → StaysReset place ms
    → StaysReset run (walked nets place (go_unless_there place run) ms)
stays-after Reset Reset nets ms sp sr kept e = kept refl
stays-after Idle Reset nets ms sp sr kept e = reset-all-twice ms
stays-after DrPause Reset nets ms sp sr kept e = reset-all-twice _
stays-after IrPause Reset nets ms sp sr kept e = reset-all-twice _
stays-after place Idle nets ms sp sr kept e = absurd (cc)
stays-after place DrPause nets ms sp sr kept e = absurd (cc)
stays-after place IrPause nets ms sp sr kept e = absurd (cc)
stays-after place run nets ms sp sr kept e = absurd (cc)

-- From rest, the bytes of a RUNTEST move to its run state, stay there, and move to its end.
pub run-law : (run end : State) (n : ℕ) (place : State) (trst : Bool) (nets : List Net) (ms : List Member)
    → is_stable place ≡ true → is_stable run ≡ true → is_stable end ≡ true → StaysReset place ms → Free trst ms
    → hear (step_messages place (Run run n end)) (board_at_rest (at_rest place trst nets ms))
    ≡ record { answers = []; board = board_at_rest (after_step (Run run n end) (at_rest place trst nets ms)) }
run-law run end n place trst nets ms sp sr se kept free =
    let first = maybe-move place run sp sr in
    let second = maybe-move run end sr se in
    let p1 = go_unless_there place run in
    let stay = replicate n run in
    let p2 = go_unless_there run end in
    let path = p1 ++ stay ++ p2 in
    let W = walked nets place p1 ms in
    let same : cycles place (Run run n end) ≡ map entering path =
    (λ i. map entering p1 ++ map-replicate n run i ++ map entering p2)
    ∙ ap (λ r. r ++ map entering p2) (map-append p1 stay)
    ∙ map-append (p1 ++ stay) p2 in
    let there : last_of place (p1 ++ stay) ≡ run =
    last-append p1 stay place ∙ ap (λ s. last_of s stay) first.ends ∙ stay-last n run in
    let legal : IsWalk place path =
    walk-append (p1 ++ stay) p2 place
    (walk-append p1 stay place first.legal (subst (λ (s : State). IsWalk s stay) (sym first.ends) (stay-walk n run sr)))
    (subst (λ (s : State). IsWalk s p2) (sym there) second.legal) in
    let ends : last_of place path ≡ end = last-append (p1 ++ stay) p2 place ∙ ap (λ s. last_of s p2) there ∙ second.ends in
    let middle : walked nets place (p1 ++ stay) ms ≡ W =
    walked-append nets p1 stay place ms
    ∙ ap (λ s. walked nets s stay W) first.ends
    ∙ stay-walked n run nets W sr (stays-after place run nets ms sp sr kept) in
    let over : walked nets place path ms ≡ walked nets run p2 W =
    walked-append nets (p1 ++ stay) p2 place ms ∙ (λ i. walked nets (there i) p2 (middle i)) in
    ap (λ b. hear (closed_messages (cycles place (Run run n end))) b) (sym (low-resting place trst nets ms (stable-quiet place sp)))
    ∙ ap (λ cs. hear (closed_messages cs) (low place trst nets ms)) same
    ∙ closed-walk path place trst nets ms legal free
    ∙ (λ i. record { answers = []; board = low (ends i) trst nets (over i) })
    ∙ (λ i. record { answers = []; board = low-resting end trst nets (walked nets run p2 W) (stable-quiet end se) i })
    ∙ (λ i. record { answers = []; board = board_at_rest (second.effect trst nets W i) })
    ∙ (λ i. record { answers = []; board = board_at_rest (move_unless_there end (first.effect trst nets ms i)) })
