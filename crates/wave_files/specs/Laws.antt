-- What holds of the codes of variables.
use Rattle.std.specs.Prelude.{◌≡◌, ℕ, ◌+◌, ◌*◌, ◌<◌, ◌≤◌}
use Rattle.jt_limits.specs.Limits.{limits}
use Rattle.wave_files.specs.Codes.{base, code}
use Rattle.wave_files.specs.Values.{extras_of_device, first_of_devices, variables_of_device, variables_of_notes}

-- A code has at most four digits, so there are so many.
abbrev pub codes_there_are : ℕ
codes_there_are = base * base * base * base

-- No two variables have one code ..
abbrev pub CodesDiffer : Type 0
CodesDiffer = (m n : ℕ) → m < codes_there_are → n < codes_there_are → code m ≡ code n → m ≡ n

-- .. and there is one for each variable of the largest board, where every port bit is a pin of a named net.
abbrev pub CodesSuffice : Type 0
CodesSuffice =
    first_of_devices + variables_of_device * limits.devices + limits.nets + variables_of_notes
    + extras_of_device * limits.devices + limits.devices * limits.port_bits
    ≤ codes_there_are
