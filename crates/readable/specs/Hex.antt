-- Hexadecimal digits.
use Rattle.std.specs.Prelude.{ℕ, ◌/◌, ◌%◌, List, [], ◌∷◌, codes, slice_index}
use Rattle.std.specs.Str.Parse.{digits_value}

-- the last digit of a number
abbrev pub hex_digit : ℕ → ℕ
hex_digit n = slice_index (codes "0123456789ABCDEF") (n % 16)

abbrev pub hex_byte : ℕ → List ℕ
hex_byte b = hex_digit (b / 16) ∷ hex_digit b ∷ []

-- the bytes that digits name, two by two
abbrev pub paired : List ℕ → List ℕ
paired [] = []
paired (h ∷ []) = []
paired (h ∷ l ∷ ds) = digits_value 16 (h ∷ l ∷ []) ∷ paired ds
