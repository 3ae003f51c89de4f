-- The loaded tables: what they hold, and how a book or an account is found.
use Rattle.std.specs.Prelude.{ℕ, Bool, true, false, List, replicate, ℤ, pos, Option, ◌==◌, slice_index_or, slice_set}
use Rattle.std.specs.Str.{bytes_eq}
use Rattle.std.specs.List.{find}
use Rattle.std.specs.Option.{unwrap_or}
use Rattle.fields.specs.declared.letters.BookState.{BookState}
use Rattle.fields.specs.declared.letters.BookState.TheVariants.{Trading, Suspended}
use Rattle.rules.specs.declared.tables.Account.{Account}
use Rattle.rules.specs.declared.tables.Book.{Book}
use Rattle.rules.specs.Register.{adjusted}

-- ---- books, under the code

abbrev pub is_book : ℕ → Book → Bool
is_book code b = b.code == code

abbrev pub book_under : ℕ → List Book → Option Book
book_under code books = find (is_book code) books

-- what stands in for a book that is not loaded: a suspended one with nothing in it
abbrev pub no_book : Book
no_book = record { code = 0; isin = replicate 12 32; lot = 0; table = 0; upper = pos 0; lower = pos 0; state = Suspended; reference = pos 0 }

abbrev pub book_or : ℕ → List Book → Book
book_or code books = unwrap_or (book_under code books) no_book

abbrev pub same_state : BookState → BookState → Bool
same_state Trading Trading = true
same_state Trading Suspended = false
same_state Suspended Trading = false
same_state Suspended Suspended = true

abbrev pub suspended : Book → Bool
suspended b = same_state b.state Suspended

abbrev pub with_state : BookState → Book → Book
with_state s b = record { code = b.code; isin = b.isin; lot = b.lot; table = b.table; upper = b.upper; lower = b.lower; state = s; reference = b.reference }

abbrev pub with_reference : ℤ → Book → Book
with_reference y b = record { code = b.code; isin = b.isin; lot = b.lot; table = b.table; upper = b.upper; lower = b.lower; state = b.state; reference = y }

-- the book under a code has a new state, or a new reference yield
abbrev pub state_set : ℕ → BookState → List Book → List Book
state_set code s books = adjusted (is_book code) (with_state s) books

abbrev pub reference_set : ℕ → ℤ → List Book → List Book
reference_set code y books = adjusted (is_book code) (with_reference y) books

-- ---- accounts, under the name, and by number

abbrev pub is_account : List ℕ → Account → Bool
is_account name a = bytes_eq a.name name

-- what stands in for an account that is not loaded: a blank name
abbrev pub no_account : Account
no_account = record { name = replicate 12 32; last = 0 }

abbrev pub account_at : ℕ → List Account → Account
account_at k accounts = slice_index_or accounts k no_account

abbrev pub last_token : ℕ → List Account → ℕ
last_token k accounts = (account_at k accounts).last

-- one account's last token is now this one
abbrev pub token_used : ℕ → ℕ → List Account → List Account
token_used k token accounts = slice_set accounts k (record { name = (account_at k accounts).name; last = token })
