use Rattle.std.proofs.Common.{◌≡◌, ◌++◌, List, ℕ, refl, ap, append_assoc, ◌∙◌}
use Rattle.std.specs.Prelude.{codes}
use Rattle.byte_streams.proofs.Fronts.{WritesAll-is, WritesAll-stopped, WritesAll-then}
use Rattle.wave_files.specs.Codes.{code}
use Rattle.play_waves.proofs.variables.write_named.Goals as goal

-- the code with its blank, and what follows it
apart : (n : ℕ) (bytes device leaf : List ℕ) → bytes ≡ device
    → (code n ++ codes " ") ++ (bytes ++ (leaf ++ codes " $end\n")) ≡ code n ++ (codes " " ++ (device ++ (leaf ++ codes " $end\n")))
apart n bytes device leaf is =
    append_assoc (code n) (codes " ") (bytes ++ (leaf ++ codes " $end\n"))
    ∙ ap (λ (l : List ℕ). code n ++ (codes " " ++ (l ++ (leaf ++ codes " $end\n")))) is

pub returns-in_err-write_code : goal.returns-in_err-write_code
returns-in_err-write_code g c =
    WritesAll-is (apart c.args.number c.args.device.now c.args.device.now c.args.leaf.now refl)
    (WritesAll-stopped (c.args.device.now ++ (c.args.leaf.now ++ codes " $end\n")) c.in_err-write_code.ensures refl c.from_residual.ensures.0)

pub returns-in_err-put_all : goal.returns-in_err-put_all
returns-in_err-put_all g c =
    WritesAll-is (apart c.args.number c.as_bytes.result.now c.args.device.now c.args.leaf.now c.as_bytes.ensures.value)
    (WritesAll-then c.in_ok-write_code.ensures refl
    (WritesAll-stopped (c.args.leaf.now ++ codes " $end\n") c.in_err-put_all.ensures.writes refl c.from_residual-in_err-put_all.ensures.0))

pub returns-in_err-put_all-2 : goal.returns-in_err-put_all-2
returns-in_err-put_all-2 g c =
    WritesAll-is (apart c.args.number c.as_bytes.result.now c.args.device.now c.args.leaf.now c.as_bytes.ensures.value)
    (WritesAll-then c.in_ok-write_code.ensures refl
    (WritesAll-then c.in_ok-put_all.ensures.writes refl
    (WritesAll-stopped (codes " $end\n") c.in_err-put_all-2.ensures.writes refl c.from_residual-in_err-put_all-2.ensures.0)))

pub returns : goal.returns
returns g c =
    WritesAll-is (apart c.args.number c.as_bytes.result.now c.args.device.now c.args.leaf.now c.as_bytes.ensures.value)
    (WritesAll-then c.in_ok-write_code.ensures refl
    (WritesAll-then c.in_ok-put_all.ensures.writes refl
    (WritesAll-then c.in_ok-put_all-2.ensures.writes refl
    (c.put_all-3.ensures.writes))))
