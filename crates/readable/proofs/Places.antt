-- Digits with zeros in front, as numerals.
use Rattle.std.proofs.Common.{◌≡◌, ℕ, zero, suc, ◌-◌, ◌^◌, ◌≤◌, false, List, [], ◌++◌, length, replicate, decimal, append-nil, refl, ◌∙◌, arith}
use native.Mathlib.Nat.{sub-zero}
use Rattle.std.specs.Str.Parse.{digits_value}
use Rattle.std.specs.Fmt.{padded_integral, format_spec, char_count}
use Rattle.std.proofs.lemmas.Fmt.{decimal_is_IsNumeral, length-decimal-le}
use Rattle.std.proofs.lemmas.List.{length-append, length-replicate}
use Rattle.readable.specs.Figures.{figures, FiguresStand}

-- what `{:02}` and the like write
pub zero_padded : (width n : ℕ)
    → padded_integral (format_spec 32 0 4 width (2 ^ 64 - 1)) false [] (decimal n) ≡ figures width n
unfolding padded_integral char_count
zero_padded width n = simp (append-nil, sub-zero)

value_zeros : (k : ℕ) (ds : List ℕ) → digits_value 10 (replicate k 48 ++ ds) ≡ digits_value 10 ds
value_zeros zero ds = refl
value_zeros (suc k) ds = value_zeros k ds

pub figures_stand : FiguresStand
figures_stand width n h = record {
  value = value_zeros (width - length (decimal n)) (decimal n) ∙ (decimal_is_IsNumeral n (omega arith)).1;
  fits = λ some small.
      let short : length (decimal n) ≤ width = length-decimal-le width n some small (omega arith) in
      simp (length-append, length-replicate) (omega arith);
}
