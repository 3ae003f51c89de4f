-- The account at a place of a table's front has a new token.
use Rattle.std.proofs.Common.{◌≡◌, ℕ, ◌<◌, List, length, get_or, take, set, ap, ◌∙◌}
use Rattle.std.proofs.Math.Seq.{take-set-lt}
use Rattle.std.proofs.lemmas.List.{get_or-take, get_or_default}
use Rattle.rules.specs.declared.tables.Account.{Account}
use Rattle.rules.specs.Tables.{no_account, token_used}

pub token_used_lem : (n k token : ℕ) (all : List Account) (d now : Account) → k < n → k < length all
    → now ≡ record { name = (get_or all k d).name; last = token } → take n (set all k now) ≡ token_used k token (take n all)
token_used_lem n k token all d now front within e =
    take-set-lt n all k now front
    ∙ ap (set (take n all) k) (e ∙ rw (get_or-take n all k no_account front, get_or_default all k d no_account within))
