-- Numbers in at least so many decimal digits, with zeros in front.
use Rattle.std.specs.Prelude.{◌≡◌, ℕ, ◌-◌, ◌^◌, ◌<◌, List, ◌++◌, length, replicate, decimal}
use Rattle.std.specs.Str.Parse.{digits_value}

-- 48 is the digit 0
abbrev pub figures : ℕ → ℕ → List ℕ
figures width n = replicate (width - length (decimal n)) 48 ++ decimal n

-- Read as a numeral it is the number, and it has that many digits as long as the number fits.
pub record Spells (width n : ℕ) : Type 0 where
  pub value : digits_value 10 (figures width n) ≡ n
  pub fits : 0 < width → n < 10 ^ width → length (figures width n) ≡ width

abbrev pub FiguresStand : Type 0
FiguresStand = (width n : ℕ) → n < 2 ^ 32 → Spells width n
