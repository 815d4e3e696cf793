use denote.Enum.Bare.{sameb}
use Rattle.std.proofs.Common.{◌≡◌, Bool, ◌&&◌, ◌==◌, List, [], ◌∷◌, refl, ap, ap₂, ◌∙◌}
use Rattle.std.specs.Cmp.Lexicographic.{pointwise}
use Rattle.scan_vectors.specs.contracts.part.Part.{the_type}
use Rattle.scan_vectors.specs.declared.failures.Mismatch.{Mismatch}
use Rattle.scan_vectors.specs.declared.part.Part.{Part}
use Rattle.scan_vectors.specs.declared.part.Part.TheVariants.{Header, Data, Trailer}
use Rattle.fault_serving.specs.Firsts.{is_part, is_same_bit}
use Rattle.play_diagnosis.specs.Ended.{same_bits}
use Rattle.play_diagnosis.proofs.endings.same_bits.Goals as goal

each-same : (E : Mismatch → Mismatch → Bool) → ((a b : Mismatch) → E a b ≡ is_same_bit a b) → (xs ys : List Mismatch) → pointwise E xs ys ≡ same_bits xs ys
each-same E e [] [] = refl
each-same E e [] (y ∷ ys) = refl
each-same E e (x ∷ xs) [] = refl
each-same E e (x ∷ xs) (y ∷ ys) = ap₂ (λ (a b : Bool). a && b) (e x y) (each-same E e xs ys)

part-same : (p q : Part) → sameb the_type p q ≡ is_part p q
part-same Header Header = refl
part-same Header Data = refl
part-same Header Trailer = refl
part-same Data Header = refl
part-same Data Data = refl
part-same Data Trailer = refl
part-same Trailer Header = refl
part-same Trailer Data = refl
part-same Trailer Trailer = refl

pub returns : goal.returns
returns c =
    c.eq.ensures
    ∙ each-same _ (λ a b. ap (λ (same : Bool). a.command == b.command && (same && a.bit == b.bit)) (part-same a.part b.part))
    c.args.one.now c.args.other.now
