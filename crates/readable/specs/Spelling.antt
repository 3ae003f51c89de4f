-- Bytes one after another, as text or by their hexadecimal digits.
use Rattle.std.specs.Prelude.{◌≡◌, ℕ, Bool, cond, not, ◌&&◌, List, [], ◌∷◌, ◌++◌, length, codes, ◌==◌, nat_le}
use Rattle.std.specs.Int.Digits.{AllBelowBase}
use Rattle.std.specs.List.{flat_map, list_all}
use Rattle.readable.specs.Hex.{hex_byte}

-- A byte of a text stands for itself from the space to the tilde, but for the backslash.
abbrev pub printable : ℕ → Bool
printable b = nat_le 32 b && nat_le b 126 && not (b == 92)

abbrev pub spelt : ℕ → List ℕ
spelt b = cond (printable b) (b ∷ []) (codes "\\x" ++ hex_byte b)

abbrev pub spelling : List ℕ → List ℕ
spelling = flat_map spelt

-- Each byte by its two digits, behind the same lead.
abbrev pub hex_bytes : List ℕ → List ℕ → List ℕ
hex_bytes lead = flat_map (λ b. lead ++ hex_byte b)

abbrev pub spaces : List ℕ → Bool
spaces = list_all (λ b. b == 32)

-- A text without the spaces that fill its field up.
abbrev pub unpadded : List ℕ → List ℕ
unpadded [] = []
unpadded (b ∷ bs) = cond (spaces (b ∷ bs)) [] (b ∷ unpadded bs)

abbrev pub field_text : List ℕ → List ℕ
field_text bs = spelling (unpadded bs)

-- Texts for the same field that are shown alike are alike.
abbrev pub TextTells : Type 0
TextTells =
    (xs ys : List ℕ) →
    AllBelowBase 256 xs → AllBelowBase 256 ys → length xs ≡ length ys → field_text xs ≡ field_text ys → xs ≡ ys
