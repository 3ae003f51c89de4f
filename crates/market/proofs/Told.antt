-- What is told of each tick row and book, one list behind the other.
use Rattle.std.proofs.Common.{◌≡◌, Bool, true, false, cond, List, [], ◌∷◌, ◌++◌, map, None, Some, Option, refl, ap, ◌∙◌}
use Rattle.std.specs.List.{cons_option, filter_map}
use Rattle.std.proofs.lemmas.List.{append_assoc}
use Rattle.fields.specs.declared.letters.BookState.TheVariants.{Trading}
use Rattle.rules.specs.declared.tables.Book.{Book}
use Rattle.rules.specs.declared.tables.TickRow.{TickRow}
use Rattle.rules.specs.Tables.{suspended}
use Rattle.market.specs.Changes.{trading_only}
use Rattle.market.specs.declared.change.Change.{Change}
use Rattle.market.specs.declared.change.Change.TheVariants as change

pub told_each : {X Y : Type 0} (f : X → Y) (xs : List X) → filter_map (λ x. Some (f x)) xs ≡ map f xs
told_each f [] = refl
told_each f (x ∷ xs) = ap (λ ys. f x ∷ ys) (told_each f xs)

abbrev pub state_where_trading : Book → Option Change
state_where_trading b = cond (suspended b) None (Some (change.State b.code Trading))

or_left_out : (s : Bool) (x : Change) (xs : List Change) → cons_option (cond s None (Some x)) xs ≡ cond s xs (x ∷ xs)
or_left_out true x xs = refl
or_left_out false x xs = refl

pub told_trading : (bs : List Book) → filter_map state_where_trading bs ≡ trading_only bs
told_trading [] = refl
told_trading (b ∷ bs) = ap (cons_option (state_where_trading b)) (told_trading bs) ∙ or_left_out (suspended b) (change.State b.code Trading) (trading_only bs)

behind : (a b c d : List Change) → ((a ++ b) ++ c) ++ d ≡ a ++ (b ++ (c ++ d))
behind a b c d = append_assoc (a ++ b) c d ∙ append_assoc a b (c ++ d)

pub announced : (rows : List TickRow) (books : List Book) (start : Change) (none c0 c1 c2 c3 c4 : List Change)
    → none ≡ []
    → c0 ≡ none ++ (start ∷ [])
    → c1 ≡ c0 ++ filter_map (λ r. Some (change.Tick r)) rows
    → c2 ≡ c1 ++ filter_map (λ b. Some (change.Directory b)) books
    → c3 ≡ c2 ++ filter_map (λ b. Some (change.Reference b.code b.reference)) books
    → c4 ≡ c3 ++ filter_map state_where_trading books
    → c4 ≡ start ∷ map change.Tick rows ++ (map change.Directory books ++ (map (λ (b : Book). change.Reference b.code b.reference) books ++ trading_only books))
announced rows books start none c0 c1 c2 c3 c4 empty e0 e1 e2 e3 e4 =
    rw (e4, e3, e2, e1, e0, empty, told_each change.Tick rows, told_each change.Directory books, told_each (λ (b : Book). change.Reference b.code b.reference) books, told_trading books)
    (behind (start ∷ map change.Tick rows) (map change.Directory books) (map (λ (b : Book). change.Reference b.code b.reference) books) (trading_only books))
