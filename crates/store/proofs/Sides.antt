-- The best of a side, under that side's order of yields.
use Rattle.std.proofs.Common.{◌≡◌, ℕ, ◌<◌, true, false, List, length, ℤ, int_lt, Some, None, Option, arith}
use Rattle.fields.specs.declared.letters.Side.{Side}
use Rattle.fields.specs.declared.letters.Side.TheVariants.{Buy, Sell}
use Rattle.store.proofs.Leaders.{best_is_best}
use Rattle.std.proofs.lemmas.Option.{slice_get_within}
use Rattle.store.specs.Best.{ranks_of, best_place, IsBest}
use Rattle.store.specs.declared.record.Record.{Record}

above : (a b c : ℤ) → int_lt a b ≡ true → int_lt b c ≡ true → int_lt a c ≡ true
above a b c p q = grind arith

alike : (a b : ℤ) → int_lt a b ≡ false → int_lt b a ≡ false → a ≡ b
alike a b p q = grind arith

pub side_best : (book : ℕ) (side : Side) (xs : List Record) → IsBest (ranks_of side) book side xs (best_place book side xs)
side_best book Buy xs = best_is_best (ranks_of Buy) book Buy above alike xs
side_best book Sell xs = best_is_best (ranks_of Sell) book Sell (λ a b c p q. above c b a q p) (λ a b p q. alike a b q p) xs

best_within : (book : ℕ) (side : Side) (xs : List Record) (r : Option ℕ) (k : ℕ) → IsBest (ranks_of side) book side xs r → r ≡ Some k → k < length xs
best_within book side xs (Some b) k is e = let y = is.0 in let w = slice_get_within xs b y is.1 in let s : b ≡ k = cc in omega arith
best_within book side xs None k is e = let z : ◌≡◌ {A = ℕ} 0 1 = cc in absurd (omega arith)

-- it is the place of an order
pub side_best_within : (book : ℕ) (side : Side) (xs : List Record) (k : ℕ) → best_place book side xs ≡ Some k → k < length xs
side_best_within book side xs k e = best_within book side xs (best_place book side xs) k (side_best book side xs) e
