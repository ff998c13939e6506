-- A float's size in units of 2 ^ -1074, the smallest positive f64, and its sign. Definitions only.
use Rattle.std.specs.Prelude.{Bool, false, ℕ, suc, ◌-◌, ◌*◌, ◌^◌, pos, negsuc, Float}
use Rattle.std.specs.Float.{nan, inf, fin}

-- the size of an f64 in units; 0 for a NaN and an infinity
abbrev pub units : Float → ℕ
units nan = 0
units (inf s) = 0
units (fin s m (pos k)) = m * 2 ^ k * 2 ^ 1074
units (fin s m (negsuc k)) = m * 2 ^ (1074 - suc k)

-- whether the sign is minus; a NaN has none
abbrev pub minus_sign : Float → Bool
minus_sign nan = false
minus_sign (inf s) = s
minus_sign (fin s m e) = s
