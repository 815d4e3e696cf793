-- Progress: unless a play has ended or was lost, some event moves a byte; the full play bounds how often; so a fair driver ends it.
use Rattle.std.proofs.Common.{◌≡◌, Bool, true, false, not, ◌||◌, ℕ, zero, suc, ◌+◌, ◌*◌, ◌-◌, ◌<◌, ◌≤◌, min, List, [], ◌∷◌, ◌++◌, map, length, take, refl, sym, ap, ◌∙◌, subst, arith, append-nil, length-append, length-drop, length-take, Option, Some, None}
use Rattle.std.proofs.lemmas.Bool.{ltb-true, ltb-false, lt-ltb}
use Rattle.std.specs.Prelude.{nat_lt, if◌then◌else◌}
use Rattle.std.specs.List.{AllByRecursion, list_any}
use Rattle.bitbang_protocol.specs.declared.Message.{Message}
use Rattle.bitbang_protocol.specs.declared.Message.TheVariants.{Write, Ask, Quit, Light, Lines}
use Rattle.bitbang_protocol.specs.Protocol.{decode, encode}
use Rattle.board_model.specs.Chain.{BoardState}
use Rattle.play_model.specs.Events.{Event, Put, Serve, Take, Lose, World, Known, has_room, after_byte_taken, served, put_bytes, take_answers, happens, run, bytes_moved, moving}
use Rattle.play_model.proofs.Asks.{asks, hear-asks}
use Rattle.play_model.specs.Fair.{IsFair, HasNoLose, in_a_row, loses, puts, serves, takes}
use Rattle.play_model.specs.Fronts.{IsPrefix}
use Rattle.play_model.proofs.Fronts.{front-left, front-length, front-trans}
use Rattle.play_model.proofs.InsideFullPlay.{Inside, IsPlay, side_of, inside-happens, length-encoded, reaches, sends-front}
use Rattle.play_model.proofs.MovingEvents.{is-served, still, taken-down, total, total-moves}
use Rattle.play_model.proofs.Quits.{has_quit}
use Rattle.play_model.proofs.Runs.{or-parts, run-append, run-kept, run-over}

-- the number of events that move something is at most what they move
abbrev counted : Bool → ℕ
counted b = if b then 1 else 0

step-count : (n : ℕ) → counted (nat_lt 0 n) ≤ n
step-count n = one (nat_lt 0 n) refl
  where
    one : (b : Bool) → nat_lt 0 n ≡ b → counted b ≤ n
    one true e = omega (arith, ltb-true 0 n e)
    one false e = omega arith

none-counted : (n : ℕ) → counted (nat_lt 0 n) ≡ 0 → n ≡ 0
none-counted n e = one (nat_lt 0 n) refl e
  where
    one : (b : Bool) → nat_lt 0 n ≡ b → counted b ≡ 0 → n ≡ 0
    one true e c = absurd (omega arith)
    one false e c = omega (arith, ltb-false 0 n e)

take-some : (n : ℕ) (bytes : List ℕ) → 0 < n → 0 < length bytes → 0 < length (take n bytes)
take-some zero bytes p q = absurd (omega arith)
take-some (suc n) [] p q = absurd (omega arith)
take-some (suc n) (b ∷ bytes) p q = omega arith

take-some-bits : (n : ℕ) (bits : List Bool) → 0 < n → 0 < length bits → 0 < length (take n bits)
take-some-bits zero bits p q = absurd (omega arith)
take-some-bits (suc n) [] p q = absurd (omega arith)
take-some-bits (suc n) (b ∷ bits) p q = omega arith

-- there is room for every answer in an empty up pipe
roomy : {P : Type 0} (up_room : ℕ) → 0 < up_room → (w : World P) → w.up ≡ [] → (o : Option Message) → has_room up_room w o ≡ true
roomy up_room some w none None = refl
roomy up_room some w none (Some Ask) = lt-ltb (length w.up) up_room (omega (arith, ap length none))
roomy up_room some w none (Some Quit) = refl
roomy up_room some w none (Some (Write tck tms tdi)) = refl
roomy up_room some w none (Some (Light l)) = refl
roomy up_room some w none (Some (Lines t s)) = refl

serve-some : {P : Type 0} (up_room n : ℕ) (bytes : List ℕ) (w : World P) → 0 < n → 0 < up_room → w.up ≡ [] → w.quit ≡ false → bytes ≡ w.down → 0 < length bytes
    → length (served up_room n bytes w).down < length w.down
serve-some up_room zero bytes w p room none q e some = absurd (omega arith)
serve-some up_room (suc n) [] w p room none q e some = absurd (omega arith)
serve-some {P = P} up_room (suc n) (b ∷ bytes) w p room none q e some =
    let fewer = is-served up_room n bytes (after_byte_taken bytes (decode b) w) (omega (arith, ap length (taken-down bytes (decode b) w))) in
    let down = ap length (taken-down bytes (decode b) w) in
    let whole = ap length e in
    subst (λ (v : World P). length v.down < length w.down)
    (sym (λ i. if q i || not (roomy up_room room w none (decode b) i) then w else served up_room n bytes (after_byte_taken bytes (decode b) w)))
    (omega (arith, fewer.down))

module _ (sends : List Bool → List Message) (b after : BoardState) (messages : List Message) (all : List Bool) (down_room up_room : ℕ) where
  abbrev run_on : List Event → World Known → World Known
  run_on es w = run (side_of sends) down_room up_room es w

  abbrev move_by : Event → World Known → ℕ
  move_by e w = bytes_moved (side_of sends) down_room up_room e w

  abbrev In : List Message → List Message → World Known → Type 0
  In took queued w = Inside sends b after messages all down_room up_room took queued w

  counts : (took queued : List Message) (w : World Known) → In took queued w
      → (w.player.given ≡ length took + length queued) × (length w.down ≡ length queued)
  counts took queued w i = (i.given ∙ length-append took queued, ap length i.down ∙ length-encoded queued)

  -- One of the three moves something.
  pub one-moves : (eager : (got : List Bool) → has_quit (sends got) ≡ false → length got < asks (sends got))
      → 0 < down_room → 0 < up_room → (k n m : ℕ) → 0 < k → 0 < n → 0 < m
      → (took queued : List Message) (w : World Known) → In took queued w → w.quit ≡ false → w.lost ≡ false
      → move_by (Put k) w ≡ 0 → move_by (Serve n) w ≡ 0 → move_by (Take m) w ≡ 0 → ⊥
  one-moves eager down_some up_some k n m kp np mp took queued w i quit lost put serve take_none =
      up_empty w.up refl
    where
      going : (w.quit || w.lost) ≡ false
      going = (λ j. quit j || w.lost) ∙ lost

      put_now : length (take (min k (down_room - length w.down)) ((side_of sends).waiting w.player)) ≡ 0
      put_now = omega (
        arith,
        ap (λ (o : Bool). length (if o then w else put_bytes (side_of sends) down_room up_room k w).down - length w.down) going,
        put,
        length-append w.down (take (min k (down_room - length w.down)) ((side_of sends).waiting w.player)),
      )

      serve_now : length w.down - length (served up_room n w.down w).down ≡ 0
      serve_now = sym (ap (λ (o : Bool). length w.down - length (if o then w else served up_room n w.down w).down) going) ∙ serve

      take_now : length (take m w.up) ≡ 0
      take_now = omega (
        arith,
        ap (λ (o : Bool). length w.up - length (if o then w else take_answers (side_of sends) down_room up_room m w).up) going,
        take_none,
        length-take m w.up,
        length-drop m w.up,
      )

      put_moves : w.up ≡ [] → length queued ≡ 0 → ⊥
      put_moves none empty =
          let took_front : IsPrefix took (sends w.player.got) = front-left took queued (sends w.player.got) i.sent in
          let more : length took < length (sends w.player.got) = longer took_front none in
          let waits : 0 < length ((side_of sends).waiting w.player) =
          omega (arith, length-drop w.player.given (map encode (sends w.player.got)), length-encoded (sends w.player.got), (counts took queued w i).0, more) in
          let room : 0 < min k (down_room - length w.down) = omega (arith, (counts took queued w i).1) in
          let some = take-some (min k (down_room - length w.down)) ((side_of sends).waiting w.player) room waits in
          omega (arith, some, put_now)
        where
          longer : (p : IsPrefix took (sends w.player.got)) → w.up ≡ [] → length took < length (sends w.player.got)
          longer p none = one p.0 p.1
            where
              one : (rest : List Message) → took ++ rest ≡ sends w.player.got → length took < length (sends w.player.got)
              one (r ∷ rest) e = omega (arith, length-append took (r ∷ rest), ap length e)
              one [] e =
                  let same : took ≡ sends w.player.got = sym (append-nil took) ∙ e in
                  let no_quit : has_quit (sends w.player.got) ≡ false = ap has_quit (sym same) ∙ sym i.quit ∙ quit in
                  let owed = eager w.player.got no_quit in
                  let asked : asks (sends w.player.got) ≡ length (w.player.got ++ w.up) =
                  ap asks (sym same) ∙ sym (hear-asks took b) ∙ ap (λ h. length h.answers) i.told in
                  absurd (omega (arith, owed, asked, length-append w.player.got w.up, ap length none))

      queue_empty : w.up ≡ [] → (d : List ℕ) → w.down ≡ d → ⊥
      queue_empty none [] e = put_moves none (omega (arith, (counts took queued w i).1, ap length e))
      queue_empty none (x ∷ d) e =
          let fewer = serve-some up_room n w.down w np up_some none quit refl (omega (arith, ap length e)) in
          omega (arith, fewer, serve_now)

      up_empty : (u : List Bool) → w.up ≡ u → ⊥
      up_empty [] e = queue_empty e w.down refl
      up_empty (x ∷ u) e = let some = take-some-bits m w.up mp (omega (arith, ap length e)) in omega (arith, some, take_now)

  module _ (play : IsPlay sends b after messages all) where
    abbrev bound : ℕ
    bound = 2 * length messages + length all

    -- the sum that grows with every event that moves is bounded by the full play
    pub total-bound : (took queued : List Message) (w : World Known) → In took queued w → total w ≤ bound
    total-bound took queued w i =
        let out = front-trans _ _ _ i.sent (sends-front sends b after messages all down_room up_room play w.player.got (front-left w.player.got w.up all i.answers)) in
        omega (
          arith,
          front-length (took ++ queued) messages out,
          front-length (w.player.got ++ w.up) all i.answers,
          length-append w.player.got w.up,
          i.given,
          length-append took queued,
          (counts took queued w i).1,
        )

    -- and short of it while the board has not taken `Quit`
    pub total-short : (took queued : List Message) (w : World Known) → In took queued w → w.quit ≡ false → total w < bound
    total-short took queued w i quit =
        let out = front-trans _ _ _ i.sent (sends-front sends b after messages all down_room up_room play w.player.got (front-left w.player.got w.up all i.answers)) in
        let fewer : length took < length messages = shorter (front-left took queued messages out) in
        omega (
          arith,
          fewer,
          front-length (took ++ queued) messages out,
          front-length (w.player.got ++ w.up) all i.answers,
          length-append w.player.got w.up,
          i.given,
          length-append took queued,
          (counts took queued w i).1,
        )
      where
        shorter : IsPrefix took messages → length took < length messages
        shorter p = one p.0 p.1
          where
            one : (rest : List Message) → took ++ rest ≡ messages → length took < length messages
            one (r ∷ rest) e = omega (arith, length-append took (r ∷ rest), ap length e)
            one [] e = absurd (clash (sym quit ∙ i.quit ∙ ap has_quit (sym (append-nil took) ∙ e) ∙ play.quits))
              where
                clash : false ≡ true → ⊥
                clash p = cc

    pub moving-total : (es : List Event) (took queued : List Message) (w : World Known) → In took queued w
        → moving (side_of sends) down_room up_room es w + total w ≤ total (run_on es w)
    moving-total [] took queued w i = omega arith
    moving-total (e ∷ es) took queued w i =
        let h = inside-happens sends b after messages all down_room up_room play e took queued w i in
        let rest = moving-total es (took ++ h.0) h.1 (happens (side_of sends) down_room up_room e w) h.3 in
        let grows = total-moves (λ got. map encode (sends got)) down_room up_room e w (omega (arith, (counts took queued w i).0, (counts took queued w i).1)) in
        omega (arith, rest, grows, step-count (move_by e w))

    -- where no event moves anything, each stands alone at the same world
    all-still : (es : List Event) (w : World Known) → HasNoLose es → moving (side_of sends) down_room up_room es w ≡ 0
        → AllByRecursion (λ e. move_by e w ≡ 0) es
    all-still [] w kept none = tt
    all-still (e ∷ es) w kept none =
        let parts = or-parts (loses e) (list_any loses es) kept in
        let here : move_by e w ≡ 0 = none-counted (move_by e w) (omega arith) in
        let there : happens (side_of sends) down_room up_room e w ≡ w = still (λ got. map encode (sends got)) down_room up_room e w parts.0 here in
        (here, all-still es w parts.1 (ap (moving (side_of sends) down_room up_room es) (sym there) ∙ zero-right (counted (nat_lt 0 (move_by e w))) _ none))
      where
        zero-right : (a b : ℕ) → a + b ≡ 0 → b ≡ 0
        zero-right a b e = omega arith

    some-put : (es : List Event) (w : World Known) → list_any puts es ≡ true → AllByRecursion (λ e. move_by e w ≡ 0) es
        → (n : ℕ) × (0 < n) × (move_by (Put n) w ≡ 0)
    some-put [] w any still = absurd (cc)
    some-put (Put n ∷ es) w any still = one (nat_lt 0 n) refl any (λ a. some-put es w a still.1)
      where
        one : (p : Bool) → nat_lt 0 n ≡ p → (p || list_any puts es) ≡ true
            → (list_any puts es ≡ true → (n : ℕ) × (0 < n) × (move_by (Put n) w ≡ 0))
            → (n : ℕ) × (0 < n) × (move_by (Put n) w ≡ 0)
        one true p any rest = (n, ltb-true 0 n p, still.0)
        one false p any rest = rest any
    some-put (Serve n ∷ es) w any still = some-put es w any still.1
    some-put (Take n ∷ es) w any still = some-put es w any still.1
    some-put (Lose ∷ es) w any still = some-put es w any still.1

    some-serve : (es : List Event) (w : World Known) → list_any serves es ≡ true → AllByRecursion (λ e. move_by e w ≡ 0) es
        → (n : ℕ) × (0 < n) × (move_by (Serve n) w ≡ 0)
    some-serve [] w any still = absurd (cc)
    some-serve (Serve n ∷ es) w any still = one (nat_lt 0 n) refl any (λ a. some-serve es w a still.1)
      where
        one : (p : Bool) → nat_lt 0 n ≡ p → (p || list_any serves es) ≡ true
            → (list_any serves es ≡ true → (n : ℕ) × (0 < n) × (move_by (Serve n) w ≡ 0))
            → (n : ℕ) × (0 < n) × (move_by (Serve n) w ≡ 0)
        one true p any rest = (n, ltb-true 0 n p, still.0)
        one false p any rest = rest any
    some-serve (Put n ∷ es) w any still = some-serve es w any still.1
    some-serve (Take n ∷ es) w any still = some-serve es w any still.1
    some-serve (Lose ∷ es) w any still = some-serve es w any still.1

    some-take : (es : List Event) (w : World Known) → list_any takes es ≡ true → AllByRecursion (λ e. move_by e w ≡ 0) es
        → (n : ℕ) × (0 < n) × (move_by (Take n) w ≡ 0)
    some-take [] w any still = absurd (cc)
    some-take (Take n ∷ es) w any still = one (nat_lt 0 n) refl any (λ a. some-take es w a still.1)
      where
        one : (p : Bool) → nat_lt 0 n ≡ p → (p || list_any takes es) ≡ true
            → (list_any takes es ≡ true → (n : ℕ) × (0 < n) × (move_by (Take n) w ≡ 0))
            → (n : ℕ) × (0 < n) × (move_by (Take n) w ≡ 0)
        one true p any rest = (n, ltb-true 0 n p, still.0)
        one false p any rest = rest any
    some-take (Put n ∷ es) w any still = some-take es w any still.1
    some-take (Serve n ∷ es) w any still = some-take es w any still.1
    some-take (Lose ∷ es) w any still = some-take es w any still.1

    module _ (eager : (got : List Bool) → has_quit (sends got) ≡ false → length got < asks (sends got)) (down_some : 0 < down_room) (up_some : 0 < up_room) where
      -- A fair round moves something, unless the play has ended or was lost.
      pub fair-moves : (es : List Event) (took queued : List Message) (w : World Known) → In took queued w → w.quit ≡ false → w.lost ≡ false → IsFair es
          → 0 < moving (side_of sends) down_room up_room es w
      fair-moves es took queued w i quit lost fair = one (moving (side_of sends) down_room up_room es w) refl
        where
          one : (n : ℕ) → moving (side_of sends) down_room up_room es w ≡ n → 0 < n
          one (suc n) e = omega arith
          one zero e =
              let still_all = all-still es w fair.kept e in
              let put = some-put es w fair.put still_all in
              let serve = some-serve es w fair.serve still_all in
              let take = some-take es w fair.take still_all in
              absurd (one-moves eager down_some up_some put.0 serve.0 take.0 put.1 serve.1 take.1 took queued w i quit lost put.2 serve.2 take.2)

      -- While it goes on, each fair round adds to the sum.
      pub rounds-move : (rounds : List (List Event)) (took queued : List Message) (w : World Known) → In took queued w → w.lost ≡ false
          → AllByRecursion (λ es. IsFair es) rounds → (run_on (in_a_row rounds) w).quit ≡ false
          → length rounds + total w ≤ total (run_on (in_a_row rounds) w)
      rounds-move [] took queued w i lost fair going = omega arith
      rounds-move (es ∷ rounds) took queued w i lost fair going =
          let v = run_on es w in
          let split : run_on (es ++ in_a_row rounds) w ≡ run_on (in_a_row rounds) v = run-append (side_of sends) down_room up_room es (in_a_row rounds) w in
          let here : w.quit ≡ false = was_going w.quit refl in
          let reached = reaches sends b after messages all down_room up_room play es took queued w i in
          let moves = fair-moves es took queued w i here lost fair.0 in
          let kept : v.lost ≡ false = run-kept (side_of sends) down_room up_room es w fair.0.kept ∙ lost in
          let rest = rounds-move rounds reached.took reached.queued v reached.inside kept fair.1 (ap (λ u. u.quit) (sym split) ∙ going) in
          let grown = moving-total es took queued w i in
          omega (arith, rest, moves, grown, ap total split)
        where
          was_going : (q : Bool) → w.quit ≡ q → w.quit ≡ false
          was_going false e = e
          was_going true e = absurd (clash (sym e ∙ sym (ap (λ u. u.quit) (run-over (side_of sends) down_room up_room (es ++ in_a_row rounds) w e)) ∙ going))
            where
              clash : true ≡ false → ⊥
              clash p = cc

      -- As many fair rounds as the full play has bytes, twice, and answers, end the play.
      pub fair-ends : (rounds : List (List Event)) (took queued : List Message) (w : World Known) → In took queued w → w.lost ≡ false
          → AllByRecursion (λ es. IsFair es) rounds → bound ≤ length rounds → (run_on (in_a_row rounds) w).quit ≡ true
      fair-ends rounds took queued w i lost fair enough = one (run_on (in_a_row rounds) w).quit refl
        where
          one : (q : Bool) → (run_on (in_a_row rounds) w).quit ≡ q → q ≡ true
          one true e = refl
          one false e =
              let reached = reaches sends b after messages all down_room up_room play (in_a_row rounds) took queued w i in
              let short = total-short reached.took reached.queued (run_on (in_a_row rounds) w) reached.inside e in
              let moved_all = rounds-move rounds took queued w i lost fair e in
              absurd (omega (arith, short, moved_all))
