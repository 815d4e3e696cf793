-- Where two ends read what the other wrote, every turn fits.
use Rattle.std.proofs.Common.{◌≡◌, Bool, true, false, ◌&&◌, ◌||◌, ℕ, suc, ◌+◌, ◌-◌, ◌<◌, List, [], ◌∷◌, ◌++◌, map, length, take, drop, refl, sym, ap, ◌∙◌, subst, arith, length-append, length-take, count_by, Option, Some, None, Result}
use Rattle.std.specs.Prelude.{◌==◌, is_some, if◌then◌else◌}
use Rattle.std.specs.List.{list_any}
use Rattle.std.proofs.lemmas.Bool.{eq-eqb, eqb-true}
use Rattle.std.proofs.lemmas.List.{drop_all}
use Rattle.bitbang_protocol.specs.declared.Message.{Message}
use Rattle.bitbang_protocol.specs.declared.Message.TheVariants.{Write, Ask, Quit, Light, Lines}
use Rattle.bitbang_protocol.specs.Protocol.{encode}
use Rattle.board_model.specs.Chain.{BoardState, after_message, hear}
use Rattle.byte_streams.specs.Counts.{CountedView}
use Rattle.svf_programs.specs.Steps.{Program}
use Rattle.play_model.specs.Fronts.{IsPrefix}
use Rattle.play_model.proofs.BothPlayers.{no-quit-for}
use Rattle.play_model.proofs.Fronts.{front-take}
use Rattle.play_model.proofs.Quits.{has_quit, quit-append, quit-last}
use Rattle.play_model.specs.declared.ending.Ending.{Ending}
use Rattle.play_model.specs.Play.{sent}
use Rattle.play_model.specs.Playing.{PlayerState, has_bad_answer, new_player}
use Rattle.play_model.specs.declared.kind.Kind.{Kind}
use Rattle.play_model.specs.PlayingOn.{turns_for}
use Rattle.play_model.proofs.Asks.{asks, hear-asks}
use Rattle.play_model.specs.Histories as history
use Rattle.play_model.specs.Histories.{bits_told}
use Rattle.play_model.proofs.Agree.{ask-count, counts, quit-byte}
use Rattle.play_links.specs.declared.serving.Served.{Served}
use Rattle.play_links.specs.declared.serving.Served.TheVariants as stopping
use Rattle.play_links.specs.Honest.{AreLinked, CountsWhereLinked}
use Rattle.play_links.specs.Links.{count_of, owed_by, sent_by, waiting}
use Rattle.play_links.specs.Loops.{Counts, HearsAll, LoopRuns, LoopsOver, Loss, Sends, fits, is_loss, loss_of, no_fit, no_loss, at_board, at_player, stop_fits}
use Rattle.play_links.specs.Loops.{a_turn, answer_lost, arrival_lost, no_turn, quit_turn, return_lost, send_lost, unfit}
use Rattle.play_links.specs.Serves.{ServedBytes, serve_bytes}
use Rattle.play_links.proofs.Histories.{Stands, heard-stands, put-stands, stands-new}
use Rattle.play_model.proofs.HonestWindow.{take-encoded}
use Rattle.play_links.proofs.HonestLink.{encoded-one, ends_whole, length-answers, linked_honest, same-length, serve-encoded}
use Rattle.play_links.proofs.LoopHonest.{all-read, all-taken, one-turn}
use Rattle.play_links.proofs.LoopSo.{fits-none}
use Rattle.play_links.proofs.ServeSteps.{serve-more, then_served}
use Rattle.play_links.proofs.WholeEnds.{is_whole, sent-ends}

and-left : (a b : Bool) → (a && b) ≡ true → a ≡ true
and-left true b e = refl
and-left false b e = absurd (cc)

and-right : (a b : Bool) → (a && b) ≡ true → b ≡ true
and-right true b e = e
and-right false b e = absurd (cc)

and-both : (a b : Bool) → a ≡ true → b ≡ true → (a && b) ≡ true
and-both true b e f = f
and-both false b e f = absurd (cc)

or-none : (a b : Bool) → a ≡ false → (a || b) ≡ b
or-none true b e = absurd (cc)
or-none false b e = refl

some-of : {A : Type 0} (o : Option A) → is_some o ≡ true → (x : A) × (o ≡ Some x)
some-of None e = absurd (cc)
some-of (Some x) e = (x, refl)

-- what a board does with messages of which none is `Quit`
served-messages : (ms : List Message) (b : BoardState) → has_quit ms ≡ false
    → (length (serve_bytes (map encode ms) b).answers ≡ asks ms) × ((serve_bytes (map encode ms) b).stop ≡ None)
served-messages [] b none = (refl, refl)
served-messages (Quit ∷ ms) b none = absurd (cc)
served-messages (Ask ∷ ms) b none =
    let r = served-messages ms b none in
    let one = encoded-one Ask (map encode ms) b in
    (ap (λ (s : ServedBytes). length s.answers) one ∙ ap (λ n. suc n) r.0, ap (λ (s : ServedBytes). s.stop) one ∙ r.1)
served-messages (Write tck tms tdi ∷ ms) b none =
    let r = served-messages ms (after_message (Write tck tms tdi) b) none in
    let one = encoded-one (Write tck tms tdi) (map encode ms) b in
    (ap (λ (s : ServedBytes). length s.answers) one ∙ r.0, ap (λ (s : ServedBytes). s.stop) one ∙ r.1)
served-messages (Light l ∷ ms) b none =
    let r = served-messages ms b none in
    let one = encoded-one (Light l) (map encode ms) b in
    (ap (λ (s : ServedBytes). length s.answers) one ∙ r.0, ap (λ (s : ServedBytes). s.stop) one ∙ r.1)
served-messages (Lines t s ∷ ms) b none =
    let r = served-messages ms (after_message (Lines t s) b) none in
    let one = encoded-one (Lines t s) (map encode ms) b in
    (ap (λ (o : ServedBytes). length o.answers) one ∙ r.0, ap (λ (o : ServedBytes). o.stop) one ∙ r.1)

abbrev quit_stop : Bool → Option Served
quit_stop over = if over then Some stopping.Quit else None

module _ (kind : Kind) where
  -- the messages that a player gave out
  abbrev out : PlayerState → List Message
  out p = take p.given (sent 256 (turns_for kind p.program.steps) (bits_told p.got))

  out-sent : (p : PlayerState) → sent_by kind p ≡ map encode (out p)
  out-sent p = take-encoded p.given (sent 256 (turns_for kind p.program.steps) (bits_told p.got))

  served-out : (p : PlayerState) (b : BoardState) → (length (serve_bytes (sent_by kind p) b).answers ≡ asks (out p))
      × ((serve_bytes (sent_by kind p) b).stop ≡ quit_stop (has_quit (out p)))
  served-out p b =
      let r = by (has_quit (out p)) refl in
      (ap (λ l. length (serve_bytes l b).answers) (out-sent p) ∙ r.0, ap (λ l. (serve_bytes l b).stop) (out-sent p) ∙ r.1)
    where
      by : (quit : Bool) → has_quit (out p) ≡ quit
          → (length (serve_bytes (map encode (out p)) b).answers ≡ asks (out p)) × ((serve_bytes (map encode (out p)) b).stop ≡ quit_stop (has_quit (out p)))
      by false e = let r = served-messages (out p) b e in (r.0, r.1 ∙ ap quit_stop (sym e))
      by true e =
          let S = sent 256 (turns_for kind p.program.steps) (bits_told p.got) in
          let more = front-take p.given S in
          let sent_quit : has_quit S ≡ true = ap has_quit (sym more.1) ∙ quit-append (out p) more.0 ∙ ap (λ q. q || has_quit more.0) e in
          let ends = sent-ends (turns_for kind p.program.steps) (bits_told p.got) (no-quit-for kind p.program.steps) sent_quit in
          let none : more.0 ≡ [] = quit-last (out p) more.0 ends.0 (more.1 ∙ sym ends.1) ends.2 e in
          let all : out p ≡ ends.0 ++ Quit ∷ [] =
          sym (Rattle.std.proofs.Common.append-nil (out p)) ∙ ap (λ l. out p ++ l) (sym none) ∙ more.1 ∙ sym ends.1 in
          let served = ap (λ ms. serve_bytes (map encode ms) b) all ∙ serve-encoded ends.0 b ends.2 in (
            ap (λ (s : ServedBytes). length s.answers) served ∙ length-answers (hear (ends.0 ++ Quit ∷ []) b).answers
                ∙ hear-asks (ends.0 ++ Quit ∷ []) b ∙ ap asks (sym all),
            ap (λ (s : ServedBytes). s.stop) served ∙ ap quit_stop (sym e),
          )

  -- a play over a link that hands on what is written ends where its `Q` is out
  ends-out : (q : PlayerState) (b : BoardState) (read : List ℕ) → AreLinked kind q b read → has_bad_answer q ≡ false
      → is_some (history.ending_of_history kind 256 q) ≡ has_quit (out q)
  ends-out q b read linked good = by (has_quit (out q)) refl
    where
      over-is : history.has_ended kind 256 q ≡ has_quit (out q)
      over-is = or-none (has_bad_answer q) (list_any (λ b. b == 81) (sent_by kind q)) good ∙ ap (list_any (λ b. b == 81)) (out-sent q) ∙ quit-byte (out q)

      by : (quit : Bool) → has_quit (out q) ≡ quit → is_some (history.ending_of_history kind 256 q) ≡ has_quit (out q)
      by true e =
          ap is_some (ends_whole kind q b (linked_honest kind q b read linked) (over-is ∙ e)).ending ∙ sym e
      by false e = ap (λ (o : Bool). is_some (if o then history.verdict kind 256 q else None)) (over-is ∙ e) ∙ sym e

stop-is : (over : Bool) → stop_fits over (quit_stop over) ≡ true
stop-is true = refl
stop-is false = refl

module _ {P B E : Type 0} (kind : Kind) (puts : P → List ℕ → Result ℕ E → P → Type 0) (hears : P → List ℕ → Result ℕ E → P → Type 0)
    (board_puts : B → List ℕ → Result ℕ E → B → Type 0) (board_hears : B → List ℕ → Result ℕ E → B → Type 0) (start : BoardState) where
  -- where a turn begins
  record Fitting (p : PlayerState) (read : List ℕ) : Type 0 where
    stands : Stands kind p
    many : length read ≡ p.given
    stop : (serve_bytes read start).stop ≡ None
    answers : length (serve_bytes read start).answers ≡ length p.got

  waits-good : (p : PlayerState) (piece : List ℕ) → IsPrefix piece (waiting kind p) → 0 < length piece → has_bad_answer p ≡ false
  waits-good p piece front some = by (has_bad_answer p) refl
    where
      by : (bad : Bool) → has_bad_answer p ≡ bad → has_bad_answer p ≡ false
      by false e = e
      by true e =
          let none : waiting kind p ≡ [] = ap (λ (q : Bool). if q then [] else drop p.given (history.bytes_of kind 256 p)) e in
          absurd (omega (arith, some, ap length (front.1 ∙ none), length-append piece front.0))

  module _ (p : PlayerState) (read : List ℕ) (f : Fitting p read) (x x' : P) (q : PlayerState) (size : ℕ) (s : Sends kind puts x x' p q size true) (y y' : B) (bytes : List ℕ)
      (heard : HearsAll board_hears y size bytes true y') where
    abbrev T : ServedBytes
    T = serve_bytes bytes (serve_bytes read start).board

    abbrev Q : PlayerState
    Q = record p { given = p.given + s.taken }

    good : has_bad_answer p ≡ false
    good = waits-good p s.piece s.front s.some

    both : serve_bytes (read ++ bytes) start ≡ then_served (serve_bytes read start) T
    both = serve-more read bytes start f.stop

    as-many : length (read ++ bytes) ≡ Q.given
    as-many =
        one-turn kind puts hears board_puts board_hears start x x' y y' p q read bytes size s heard f.many
        ∙ ap (λ (o : PlayerState). o.given) s.given

    stands-Q : Stands kind Q
    stands-Q =
        put-stands kind p f.stands s.piece s.front s.taken (omega (arith, s.some, all-taken puts x x' s.piece s.taken true s.calls refl))
        (omega (arith, all-taken puts x x' s.piece s.taken true s.calls refl))

    linked-fits : AreLinked kind Q start (read ++ bytes) → fits kind Q T ≡ true
    linked-fits linked =
        let all : read ++ bytes ≡ sent_by kind Q =
        same-length (read ++ bytes) (sent_by kind Q) linked.down (omega (arith, as-many, length-take Q.given (history.bytes_of kind 256 Q))) in
        let served : then_served (serve_bytes read start) T ≡ serve_bytes (sent_by kind Q) start = sym both ∙ ap (λ l. serve_bytes l start) all in
        let r = served-out kind Q start in
        let total : length (serve_bytes read start).answers + length T.answers ≡ asks (out kind Q) =
        sym (length-append (serve_bytes read start).answers T.answers) ∙ ap (λ (o : ServedBytes). length o.answers) served ∙ r.0 in
        let asked : count_by (λ b. b == 82) (sent_by kind Q) ≡ asks (out kind Q) = ap (count_by (λ b. b == 82)) (out-sent kind Q) ∙ counts (map encode (out kind Q)) ∙ ask-count (out kind Q) in
        let owes : owed_by kind Q ≡ count_by (λ b. b == 82) (sent_by kind Q) - length p.got =
        ap (λ (e : Bool). if e then 0 else count_by (λ b. b == 82) (sent_by kind Q) - length p.got) good in
        let over = ends-out kind Q start (read ++ bytes) linked good in
        and-both (length T.answers == owed_by kind Q) (stop_fits (is_some (history.ending_of_history kind 256 Q)) T.stop)
        (eq-eqb (length T.answers) (owed_by kind Q) (omega (arith, total, asked, owes, f.answers)))
        ((λ i. stop_fits (over i) ((ap (λ (o : ServedBytes). o.stop) served ∙ r.1) i)) ∙ stop-is (has_quit (out kind Q)))

    -- after its answers came back
    next : fits kind Q T ≡ true → history.ending_of_history kind 256 Q ≡ None → (back : List ℕ) → length back ≡ owed_by kind Q
        → Fitting (record Q { got = Q.got ++ back }) (read ++ bytes)
    next fit on back long = record {
      stands = heard-stands kind Q stands-Q back (omega (arith, long));
      many = as-many;
      stop = ap (λ (o : ServedBytes). o.stop) both ∙ fits-none T.stop
          (ap (λ (o : Option Ending). stop_fits (is_some o) T.stop) (sym on)
          ∙ and-right (length T.answers == owed_by kind Q) (stop_fits (is_some (history.ending_of_history kind 256 Q)) T.stop) fit);
      answers =
          let same : length T.answers ≡ owed_by kind Q = eqb-true (length T.answers) (owed_by kind Q)
          (and-left (length T.answers == owed_by kind Q) (stop_fits (is_some (history.ending_of_history kind 256 Q)) T.stop) fit) in
          ap (λ (o : ServedBytes). length o.answers) both
          ∙ omega (arith, length-append (serve_bytes read start).answers T.answers, same, long, f.answers, length-append p.got back);
    }

    -- nothing waits once the play has ended
    over-waits : is_some (history.ending_of_history kind 256 Q) ≡ true → waiting kind Q ≡ []
    over-waits over =
        let e = some-of (history.ending_of_history kind 256 Q) over in
        let whole : sent_by kind Q ≡ history.bytes_of kind 256 Q = is_whole kind Q e.0 good e.1 in
        ap (λ (b : Bool). if b then [] else drop Q.given (history.bytes_of kind 256 Q)) good
        ∙ drop_all Q.given (history.bytes_of kind 256 Q) (omega (arith, ap length whole, length-take Q.given (history.bytes_of kind 256 Q)))

  abbrev Runs : P → B → PlayerState → List ℕ → Bool → P → B → PlayerState → List ℕ → Type 0
  Runs = LoopRuns kind puts hears board_puts board_hears start

  -- nothing is sent where nothing waits
  none-sent : (x x' : P) (p q : PlayerState) (size : ℕ) (whole : Bool) → waiting kind p ≡ [] → Sends kind puts x x' p q size whole → ⊥
  none-sent x x' p q size whole none s = absurd (omega (arith, s.some, ap length (s.front.1 ∙ none), length-append s.piece s.front.0))

  none-waits : (x : P) (y : B) (p : PlayerState) (read : List ℕ) (lost : Bool) (v : P) (w : B) (o : PlayerState) (all : List ℕ) → waiting kind p ≡ []
      → (runs : Runs x y p read lost v w o all) → loss_of runs ≡ no_fit → ⊥
  none-waits _ _ _ _ _ _ _ _ _ none (no_turn x y p read) e = absurd (cc)
  none-waits _ _ _ _ _ _ _ _ _ none (send_lost x x' y p q read size s) e = none-sent x x' p q size false none s
  none-waits _ _ _ _ _ _ _ _ _ none (arrival_lost x x' y y' p q read bytes size s h) e = none-sent x x' p q size true none s
  none-waits _ _ _ _ _ _ _ _ _ none (unfit x x' y y' p q read bytes size s h f) e = none-sent x x' p q size true none s
  none-waits _ _ _ _ _ _ _ _ _ none (answer_lost x x' y y' y'' p q read bytes size s h f a) e = none-sent x x' p q size true none s
  none-waits _ _ _ _ _ _ _ _ _ none (return_lost x x' x'' y y' y'' p q read bytes back size s h f a on g) e = none-sent x x' p q size true none s
  none-waits _ _ _ _ _ _ _ _ _ none (quit_turn x x' y y' y'' p q read bytes size lost v w o all s h f a over rest) e = none-sent x x' p q size true none s
  none-waits _ _ _ _ _ _ _ _ _ none (a_turn x x' x'' y y' y'' p q read bytes back size lost v w o all s h f a on g rest) e = none-sent x x' p q size true none s

  differ : {c : Bool} → c ≡ true → c ≡ false → ⊥
  differ e f = absurd (cc)

  always-fits : (x : P) (y : B) (p : PlayerState) (read : List ℕ) (lost : Bool) (v : P) (w : B) (o : PlayerState) (all : List ℕ) → Fitting p read
      → AreLinked kind o start all → (runs : Runs x y p read lost v w o all) → loss_of runs ≡ no_fit → ⊥
  always-fits _ _ _ _ _ _ _ _ _ t linked (no_turn x y p read) e = absurd (cc)
  always-fits _ _ _ _ _ _ _ _ _ t linked (send_lost x x' y p q read size s) e = absurd (cc)
  always-fits _ _ _ _ _ _ _ _ _ t linked (arrival_lost x x' y y' p q read bytes size s h) e = absurd (cc)
  always-fits _ _ _ _ _ _ _ _ _ t linked (answer_lost x x' y y' y'' p q read bytes size s h f a) e = absurd (cc)
  always-fits _ _ _ _ _ _ _ _ _ t linked (return_lost x x' x'' y y' y'' p q read bytes back size s h f a on g) e = absurd (cc)
  always-fits _ _ _ _ _ _ _ _ _ t linked (unfit x x' y y' p q read bytes size s h f) e =
      differ (linked-fits p read t x x' q size s y y' bytes h (subst (λ (r : PlayerState). AreLinked kind r start (read ++ bytes)) s.given linked))
      (ap (λ (r : PlayerState). fits kind r (serve_bytes bytes (serve_bytes read start).board)) (sym s.given) ∙ f)
  always-fits _ _ _ _ _ _ _ _ _ t linked (quit_turn x x' y y' y'' p q read bytes size lost v w o all s h f a over rest) e =
      none-waits x' y'' q (read ++ bytes) lost v w o all
      (ap (waiting kind) s.given ∙ over-waits p read t x x' q size s y y' bytes h
      (ap (λ (r : PlayerState). is_some (history.ending_of_history kind 256 r)) (sym s.given) ∙ over)) rest e
  always-fits _ _ _ _ _ _ _ _ _ t linked (a_turn x x' x'' y y' y'' p q read bytes back size lost v w o all s h f a on g rest) e =
      always-fits x'' y'' (record q { got = q.got ++ back }) (read ++ bytes) lost v w o all
      (subst (λ (r : PlayerState). Fitting (record r { got = r.got ++ back }) (read ++ bytes)) (sym s.given)
      (next p read t x x' q size s y y' bytes h
      (ap (λ (r : PlayerState). fits kind r (serve_bytes bytes (serve_bytes read start).board)) (sym s.given) ∙ f)
      (ap (history.ending_of_history kind 256) (sym s.given) ∙ on) back
      (all-read hears x' x'' (owed_by kind q) back true g refl ∙ ap (owed_by kind) s.given)))
      linked rest e

  counts-linked : (x x' : CountedView P) (y y' : CountedView B) (loss : Loss) (lost : Bool) → Counts loss x x' y y' → is_loss loss ≡ lost → (loss ≡ no_fit → ⊥)
      → x'.failures + y'.failures ≡ count_of lost
  counts-linked x x' y y' no_loss lost c e fit = omega (arith, c.0.0, c.1.0, ap count_of e)
  counts-linked x x' y y' no_fit lost c e fit = absurd (fit refl)
  counts-linked x x' y y' (at_player untaken met) lost c e fit = omega (arith, c.0.0, c.1.0, ap count_of e)
  counts-linked x x' y y' (at_board untaken met) lost c e fit = omega (arith, c.0.0, c.1.0, ap count_of e)

  pub loop-counts : (contents remaining : P → Option (List ℕ)) (board_contents board_remaining : B → Option (List ℕ)) (x x' : CountedView P) (y y' : CountedView B)
      (program : Program) (board : BoardState) (ending : Ending)
      → (l : LoopsOver puts hears board_puts board_hears contents remaining board_contents board_remaining x x' y y' kind program start board ending)
      → CountsWhereLinked kind l.player l.lost l.read start (x'.failures + y'.failures)
  loop-counts contents remaining board_contents board_remaining x x' y y' program board ending l linked =
      counts-linked x x' y y' (loss_of l.turns) l.lost l.counted l.lost_so
      (always-fits x.inner y.inner (new_player program) [] l.lost x'.inner y'.inner l.player l.read
      (record { stands = stands-new kind program; many = refl; stop = refl; answers = refl }) linked l.turns)
