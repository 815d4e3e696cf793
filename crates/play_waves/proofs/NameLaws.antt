-- Names that are parted by a letter that none of them has are read back.
use Rattle.std.proofs.Common.{◌≡◌, ℕ, Bool, true, false, List, [], ◌∷◌, ◌++◌, Some, refl, sym, ap, append_assoc, ◌∙◌}
use Rattle.std.specs.Prelude.{◌==◌, codes, if◌then◌else◌, slice_get}
use Rattle.std.proofs.lemmas.Bool.{eqb-true}
use Rattle.pin_nets.specs.declared.Pin.{Pin}
use Rattle.board_description.specs.Words.{port_of}
use Rattle.board_model.specs.Chain.{ChipState}
use Rattle.wave_files.specs.Heading.{fronted, pin_name}
use Rattle.play_waves.specs.Laws.{IsOneName, PinsAreToldApart}

-- what stands before the first `-`, and what behind it
front : List ℕ → List ℕ
front [] = []
front (c ∷ cs) = if c == 45 then [] else c ∷ front cs

rest : List ℕ → List ℕ
rest [] = []
rest (c ∷ cs) = if c == 45 then cs else rest cs

abbrev IsRead : (name behind : List ℕ) → Type 0
IsRead name behind = (front (name ++ 45 ∷ behind) ≡ name) × (rest (name ++ 45 ∷ behind) ≡ behind)

-- A name and what follows are read back.
read : (name behind : List ℕ) → IsOneName name → IsRead name behind
unfolding front rest
read [] behind is = (refl, refl)
read (c ∷ cs) behind is = by (read cs behind is.1) (c == 45) refl
  where
    by : IsRead cs behind → (b : Bool) → (c == 45) ≡ b → IsRead (c ∷ cs) behind
    by so true e = absurd (is.0 (ap (λ n. n ∷ []) (eqb-true c 45 e)))
    by so false e = rw (e) (ap (λ l. c ∷ l) so.0, so.1)

-- so names that begin alike are the same, and what follows them
parted : (one two behind after : List ℕ) → IsOneName one → IsOneName two
    → fronted one ++ behind ≡ fronted two ++ after → (one ≡ two) × (behind ≡ after)
parted one two behind after is its same = (
  sym (read one behind is).0 ∙ ap front alike ∙ (read two after its).0,
  sym (read one behind is).1 ∙ ap rest alike ∙ (read two after its).1,
)
  where
    alike : one ++ 45 ∷ behind ≡ two ++ 45 ∷ after
    alike = sym (append_assoc one (codes "-") behind) ∙ same ∙ append_assoc two (codes "-") after

-- a pin's name is read off its device
named : (cs : List ChipState) (r : Pin) (chip : ChipState) → slice_get cs r.device ≡ Some chip
    → pin_name cs r ≡ fronted chip.member.name ++ port_of chip.member.device r.port
named cs r chip at = rw (at) refl

pub told_apart : PinsAreToldApart
told_apart cs net other p q c d here there one two name its same = (nets.0, pins)
  where
    nets : (net ≡ other) × (pin_name cs p ≡ pin_name cs q)
    nets = parted net other (pin_name cs p) (pin_name cs q) one two same

    pins : (c.member.name ≡ d.member.name) × (port_of c.member.device p.port ≡ port_of d.member.device q.port)
    pins =
        parted c.member.name d.member.name (port_of c.member.device p.port) (port_of d.member.device q.port) name its
        (sym (named cs p c here) ∙ nets.1 ∙ named cs q d there)
