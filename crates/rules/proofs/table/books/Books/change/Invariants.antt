use Rattle.std.proofs.Common.{◌≡◌, ◌++◌, take, drop}
use Rattle.rules.specs.declared.tables.Book.{Book}
use Rattle.rules.specs.Register.{Computes, adjusted}
use Rattle.rules.specs.Tables.{is_book}
use Rattle.rules.proofs.table.books.Books.change.Given as goal

-- the books so far, and the rest adjusted too, give the whole
abbrev pub invariant-loop-book : goal.invariant-loop-book
invariant-loop-book g l =
    (f : Book → Book) → Computes (goal.F-post g l.changed) f
    → take l.book-index l.book-items ++ adjusted (is_book l.code) f (drop l.book-index l.book-items) ≡ adjusted (is_book l.code) f l.initial.book-items
