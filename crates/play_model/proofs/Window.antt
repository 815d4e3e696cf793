-- No more answers are owed than the window.
use Rattle.std.proofs.Common.{◌≡◌, Bool, true, false, ℕ, ◌+◌, ◌-◌, ◌≤◌, ◌==◌, List, [], ◌∷◌, ◌++◌, map, length, take, refl, arith, count_by}
use Rattle.std.proofs.lemmas.Bool.{ltb-false}
use Rattle.std.specs.Prelude.{◌&&◌, is_some, nat_le, nat_lt, if◌then◌else◌}
use Rattle.bitbang_protocol.specs.declared.Message.{Message}
use Rattle.bitbang_protocol.specs.declared.Message.TheVariants.{Quit}
use Rattle.bitbang_protocol.specs.Protocol.{encode}
use Rattle.play_model.specs.Play.{Turn, turns, up_to_asks}
use Rattle.play_model.proofs.Asks.{AllAsk, asks, turns-ask}
use Rattle.play_model.proofs.Quits.{asks-append, asks-up-to}
use Rattle.play_model.specs.StreamLaws.{OwedWithinTheWindow}
use Rattle.play_model.specs.Streams.{may_send, stops}
use Rattle.play_model.proofs.Agree.{ask-count, counts, reads-take}

sends-within : (window : ℕ) (ts : List Turn) → AllAsk ts → (n : ℕ) (failed : Bool) → asks (may_send window ts n failed) ≤ n + window
sends-within window [] all n failed = omega arith
sends-within window (t ∷ ts) all n failed =
    one (nat_lt n (length t.wants)) refl (failed && nat_le n (length t.wants)) (sends-within window ts all.1 (n - length t.wants) failed)
  where
    rest : List Message
    rest = may_send window ts (n - length t.wants) failed

    one : (short : Bool) → nat_lt n (length t.wants) ≡ short → (last : Bool) → asks rest ≤ n - length t.wants + window
        → asks (if short then up_to_asks t.messages (n + window) else t.messages ++ (if last then Quit ∷ [] else rest)) ≤ n + window
    one true e last le = omega (arith, asks-up-to t.messages (n + window))
    one false e true le = omega (arith, asks-append t.messages (Quit ∷ []), all.0, ltb-false n (length t.wants) e)
    one false e false le = omega (arith, asks-append t.messages rest, all.0, ltb-false n (length t.wants) e, le)

pub within : OwedWithinTheWindow
within window s = one (is_some s.bad)
  where
    S : List Message
    S = may_send window (turns s.program.steps) s.answered (stops s)

    one : (bad : Bool) → (if bad then 0 else count_by (λ b. b == 82) (take s.given (map encode S)) - s.answered) ≤ window
    one true = omega arith
    one false =
        omega (
          arith,
          counts (take s.given (map encode S)),
          reads-take s.given (map encode S),
          ask-count S,
          sends-within window (turns s.program.steps) (turns-ask s.program.steps) s.answered (stops s),
        )
