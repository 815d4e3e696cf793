use Rattle.std.proofs.Common.{refl}
use Rattle.byte_streams.proofs.Fronts.{WritesAll-stopped, WritesAll-then}
use Rattle.play_waves.proofs.variables.write_variables_named.Goals as goal

pub returns-in_err-write_scope : goal.returns-in_err-write_scope
returns-in_err-write_scope g c =
    (WritesAll-stopped _ c.in_err-write_scope.ensures refl c.from_residual.ensures.0)

pub returns-in_err-put_all : goal.returns-in_err-put_all
returns-in_err-put_all g c =
    (WritesAll-then c.in_ok-write_scope.ensures refl
    (WritesAll-stopped _ c.in_err-put_all.ensures.writes refl c.from_residual-in_err-put_all.ensures.0))

pub returns-in_err-write_named : goal.returns-in_err-write_named
returns-in_err-write_named g c =
    (WritesAll-then c.in_ok-write_scope.ensures refl
    (WritesAll-then c.in_ok-put_all.ensures.writes refl
    (WritesAll-stopped _ c.in_err-write_named.ensures refl c.from_residual-in_err-write_named.ensures.0)))

pub returns-in_err-put_all-2 : goal.returns-in_err-put_all-2
returns-in_err-put_all-2 g c =
    (WritesAll-then c.in_ok-write_scope.ensures refl
    (WritesAll-then c.in_ok-put_all.ensures.writes refl
    (WritesAll-then c.in_ok-write_named.ensures refl
    (WritesAll-stopped _ c.in_err-put_all-2.ensures.writes refl c.from_residual-in_err-put_all-2.ensures.0))))

pub returns-in_err-write_named-2 : goal.returns-in_err-write_named-2
returns-in_err-write_named-2 g c =
    (WritesAll-then c.in_ok-write_scope.ensures refl
    (WritesAll-then c.in_ok-put_all.ensures.writes refl
    (WritesAll-then c.in_ok-write_named.ensures refl
    (WritesAll-then c.in_ok-put_all-2.ensures.writes refl
    (WritesAll-stopped _ c.in_err-write_named-2.ensures refl c.from_residual-in_err-write_named-2.ensures.0)))))

pub returns-in_err-write_bits_kind : goal.returns-in_err-write_bits_kind
returns-in_err-write_bits_kind g c =
    (WritesAll-then c.in_ok-write_scope.ensures refl
    (WritesAll-then c.in_ok-put_all.ensures.writes refl
    (WritesAll-then c.in_ok-write_named.ensures refl
    (WritesAll-then c.in_ok-put_all-2.ensures.writes refl
    (WritesAll-then c.in_ok-write_named-2.ensures refl
    (WritesAll-stopped _ c.in_err-write_bits_kind.ensures refl c.from_residual-in_err-write_bits_kind.ensures.0))))))

pub returns-in_err-write_named-3 : goal.returns-in_err-write_named-3
returns-in_err-write_named-3 g c =
    (WritesAll-then c.in_ok-write_scope.ensures refl
    (WritesAll-then c.in_ok-put_all.ensures.writes refl
    (WritesAll-then c.in_ok-write_named.ensures refl
    (WritesAll-then c.in_ok-put_all-2.ensures.writes refl
    (WritesAll-then c.in_ok-write_named-2.ensures refl
    (WritesAll-then c.in_ok-write_bits_kind.ensures refl
    (WritesAll-stopped _ c.in_err-write_named-3.ensures refl c.from_residual-in_err-write_named-3.ensures.0)))))))

pub returns : goal.returns
returns g c =
    (WritesAll-then c.in_ok-write_scope.ensures refl
    (WritesAll-then c.in_ok-put_all.ensures.writes refl
    (WritesAll-then c.in_ok-write_named.ensures refl
    (WritesAll-then c.in_ok-put_all-2.ensures.writes refl
    (WritesAll-then c.in_ok-write_named-2.ensures refl
    (WritesAll-then c.in_ok-write_bits_kind.ensures refl
    (WritesAll-then c.in_ok-write_named-3.ensures refl
    (c.put_all-3.ensures.writes))))))))
