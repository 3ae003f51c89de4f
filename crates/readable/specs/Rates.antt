-- Yields: thousandths of a percent, shown as a percentage with three decimals.
use Rattle.std.specs.Prelude.{ℕ, suc, ◌/◌, ◌%◌, List, ◌++◌, ℤ, pos, negsuc, codes, decimal}
use Rattle.readable.specs.Figures.{figures}

abbrev pub thousandths : ℕ → List ℕ
thousandths n = decimal (n / 1000) ++ (codes "." ++ figures 3 (n % 1000))

-- negsuc n is -(n + 1)
abbrev pub percent : ℤ → List ℕ
percent (pos n) = thousandths n
percent (negsuc n) = codes "-" ++ thousandths (suc n)
