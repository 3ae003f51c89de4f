-- An ignored message leaves everything as it was.
use Rattle.std.proofs.Common.{◌≡◌, ℕ, Bool, true, false, None, refl, ap, inl, inr}
use Rattle.std.proofs.ByRecursion.{All-weaker}
use Rattle.std.proofs.lemmas.Bool.{cond-true, le-leb}
use Rattle.ouch.specs.Inbound.{enter, replace, cancel}
use Rattle.store.specs.Records.{found, named}
use Rattle.store.specs.declared.record.Record.{Record}
use Rattle.market.specs.Host.{Host}
use Rattle.orders.specs.Orders.{canceled_at, replaced_at}
use Rattle.law_copies.proofs.Found.{found_none, named_parts}
use Rattle.law_copies.proofs.Idle.{replaced_past}
use Rattle.law_orders.specs.Statements.{IgnoredLeaves, NotLive}

-- an order of another account or token has another name
not_named : (account token : ℕ) (x : Record) → (x.account ≡ account → x.token ≡ token → ⊥) → named account token x ≡ false
not_named account token x other = by (named account token x) refl
  where
    by : (b : Bool) → named account token x ≡ b → named account token x ≡ false
    by true e = let own = named_parts account token x e in absurd (other own.0 own.1)
    by false e = e

nothing-found : (h : Host) (account token : ℕ) → NotLive h account token → found account token h.orders ≡ None
nothing-found h account token gone = found_none account token 0 h.orders (All-weaker _ _ (not_named account token) h.orders gone)

pub ignored_leaves : IgnoredLeaves
ignored_leaves h t account (enter m) passed = cond-true _ _ _ (le-leb _ _ passed)
ignored_leaves h t account (replace m) (inl gone) = ap (replaced_at h t account m) (nothing-found h account m.existing gone)
ignored_leaves h t account (replace m) (inr passed) = replaced_past h t account m (found account m.existing h.orders) passed
ignored_leaves h t account (cancel m) gone = ap (canceled_at h t) (nothing-found h account m.token gone)
