-- The tests of endings and of lists of failures say what they test.
use Rattle.std.proofs.Common.{arith, ◌≡◌, ◌↔◌, ℕ, Bool, true, false, ◌&&◌, ◌==◌, List, [], ◌∷◌, refl, sym, ap, ◌∙◌}
use Rattle.std.specs.Prelude.{IsTrue}
use Rattle.std.proofs.lemmas.Bool.Decides.{nat_tests}
use Rattle.scan_vectors.specs.declared.failures.Mismatch.{Mismatch}
use Rattle.scan_vectors.specs.declared.part.Part.{Part}
use Rattle.scan_vectors.specs.declared.part.Part.TheVariants.{Header, Data, Trailer}
use Rattle.scan_vectors.specs.Failures.{Found}
use Rattle.play_model.specs.declared.ending.Ending.{Ending}
use Rattle.play_model.specs.declared.ending.Ending.TheVariants.{Pass, Fail, Lost, BadAnswer}
use Rattle.fault_serving.specs.Firsts.{is_part, is_same_bit}
use Rattle.fault_serving.proofs.Firsts.{bit_is, both, number_is, part_is}
use Rattle.play_diagnosis.specs.Ended.{are_same, is_first, is_pass, same_bits}

and-true : (a b : Bool) → (a && b) ≡ true → (a ≡ true) × (b ≡ true)
and-true true b h = (refl, h)
and-true false b h = absurd cc

same-part : (a b : Part) → is_part a b ≡ true → a ≡ b
same-part Header Header h = refl
same-part Header Data h = absurd cc
same-part Header Trailer h = absurd cc
same-part Data Header h = absurd cc
same-part Data Data h = refl
same-part Data Trailer h = absurd cc
same-part Trailer Header h = absurd cc
same-part Trailer Data h = absurd cc
same-part Trailer Trailer h = refl

same-number : (a b : ℕ) → (a == b) ≡ true → a ≡ b
same-number a b h = grind (arith, nat_tests)

same-bit : (m n : Mismatch) → is_same_bit m n ≡ true → m ≡ n
same-bit m n holds =
    let one = and-true (m.command == n.command) (is_part m.part n.part && m.bit == n.bit) holds in
    let two = and-true (is_part m.part n.part) (m.bit == n.bit) one.1 in
    (λ i. record { command = same-number m.command n.command one.0 i; part = same-part m.part n.part two.0 i; bit = same-number m.bit n.bit two.1 i })

same-list : (ms ns : List Mismatch) → same_bits ms ns ≡ true → ms ≡ ns
same-list [] [] holds = refl
same-list [] (n ∷ ns) holds = absurd cc
same-list (m ∷ ms) [] holds = absurd cc
same-list (m ∷ ms) (n ∷ ns) holds =
    let parts = and-true (is_same_bit m n) (same_bits ms ns) holds in
    (λ i. same-bit m n parts.0 i ∷ same-list ms ns parts.1 i)

list-is : (ms : List Mismatch) → same_bits ms ms ≡ true
list-is [] = refl
list-is (m ∷ ms) = both (is_same_bit m m) (same_bits ms ms) (bit_is m) (list-is ms)

pub founds : (f g : Found) → IsTrue (are_same f g) ↔ (f ≡ g)
founds f g = (to, λ is. ap (λ (h : Found). are_same f h) (sym is) ∙ own)
  where
    own : are_same f f ≡ true
    own = both (f.total == f.total) (same_bits f.list f.list) (number_is f.total) (list-is f.list)

    to : are_same f g ≡ true → f ≡ g
    to holds =
        let parts = and-true (f.total == g.total) (same_bits f.list g.list) holds in
        (λ i. record { list = same-list f.list g.list parts.1 i; total = same-number f.total g.total parts.0 i })

pub passes : (e : Ending) → IsTrue (is_pass e) ↔ (e ≡ Pass)
passes Pass = (λ holds. refl, λ is. refl)
passes (Fail command part bit) = (λ holds. absurd cc, λ is. absurd cc)
passes (Lost command) = (λ holds. absurd cc, λ is. absurd cc)
passes (BadAnswer command byte) = (λ holds. absurd cc, λ is. absurd cc)

pub firsts : (m : Mismatch) (e : Ending) → IsTrue (is_first m e) ↔ (e ≡ Fail m.command m.part m.bit)
firsts m Pass = (λ holds. absurd cc, λ is. absurd cc)
firsts m (Lost command) = (λ holds. absurd cc, λ is. absurd cc)
firsts m (BadAnswer command byte) = (λ holds. absurd cc, λ is. absurd cc)
firsts m (Fail command part bit) = (to, from)
  where
    to : is_first m (Fail command part bit) ≡ true → Fail command part bit ≡ Fail m.command m.part m.bit
    to holds =
        let one = and-true (command == m.command) (is_part part m.part && bit == m.bit) holds in
        let two = and-true (is_part part m.part) (bit == m.bit) one.1 in
        (λ i. Fail (same-number command m.command one.0 i) (same-part part m.part two.0 i) (same-number bit m.bit two.1 i))

    from : Fail command part bit ≡ Fail m.command m.part m.bit → is_first m (Fail command part bit) ≡ true
    from is =
        let c : command ≡ m.command = cc in
        let p : part ≡ m.part = cc in
        let b : bit ≡ m.bit = cc in
        both (command == m.command) (is_part part m.part && bit == m.bit)
        (ap (λ (x : ℕ). x == m.command) c ∙ number_is m.command)
        (both (is_part part m.part) (bit == m.bit) (ap (λ (x : Part). is_part x m.part) p ∙ part_is m.part) (ap (λ (x : ℕ). x == m.bit) b ∙ number_is m.bit))
