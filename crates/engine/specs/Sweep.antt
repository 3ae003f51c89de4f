-- The withdrawal of a dropped account's orders.
use Rattle.std.specs.Prelude.{ℕ, ◌+◌, cond, List, [], ◌∷◌, ◌==◌}
use Rattle.ouch.specs.declared.letters.CancelReason.TheVariants as cancels
use Rattle.store.specs.declared.record.Record.{Record}
use Rattle.market.specs.Changes.{withdrawn}
use Rattle.market.specs.Host.{Host}

-- the account's orders are canceled, oldest first

-- The orders from place k on, as they stood, are the list
unfoldable pub swept_from : ℕ → List Record → Host → ℕ → ℕ → Host
swept_from k [] h t account = h
swept_from k (x ∷ xs) h t account =
    cond (x.account == account) (swept_from k xs (withdrawn h t k cancels.LoggedOff) t account) (swept_from (k + 1) xs h t account)

abbrev pub swept : Host → ℕ → ℕ → Host
swept h t account = swept_from 0 h.orders h t account
