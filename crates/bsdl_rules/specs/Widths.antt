-- Widths of ports by indices up to one more than the largest.
use Rattle.std.specs.Prelude.{ℕ, suc, ◌+◌, ◌-◌, min, Option, Some, None}
use Rattle.jt_limits.specs.Limits.{subscript_limit}
use Rattle.bsdl_entity.specs.Ports.{Range}

-- how many bits a port has, where no index is larger
abbrev pub capped_width : Option Range → ℕ
capped_width None = 1
capped_width (Some r) = min r.high (suc subscript_limit) - min r.low (suc subscript_limit) + 1
