-- Orders in plain words: what a refused call, an ignored message and a match leave behind, and what every run keeps.
use Rattle.std.specs.Prelude.{◌≡◌, ℕ, ◌≤◌, false, ◌⊎◌, List, Ok, Err, ◌≢◌}
use Rattle.std.specs.List.{AllByRecursion}
use Rattle.ouch.specs.Inbound.{Asked, enter, replace, cancel}
use Rattle.store.specs.declared.record.Record.{Record}
use Rattle.rules.specs.Tables.{last_token}
use Rattle.rules.specs.declared.fault.Fault.{Fault}
use Rattle.market.specs.Host.{Host, with_clock}
use Rattle.matching.specs.Matching.{is_met, matched, meeting_quantity}
use Rattle.orders.specs.Orders.{answered}
use Rattle.law.specs.Law.{EveryRun}
use Rattle.law.specs.Runs.{Call, Day, FitsCall, line_before, message, step}

-- ---- a refused call leaves the host as it was, and a snapshot's line too

abbrev pub RefusedLeaves : Type 0
RefusedLeaves = (h : Host) (c : Call) (f : Fault) → (step h c).answer ≡ Err f → ((step h c).after ≡ h) × ((step h c).line ≡ line_before c)

-- ---- an ignored message leaves everything as it was

-- the token is not above the account's last
abbrev pub Passed : Host → ℕ → ℕ → Type 0
Passed h account token = token ≤ last_token account h.accounts

-- no live order of the account has the token
abbrev pub NotLive : Host → ℕ → ℕ → Type 0
NotLive h account token = AllByRecursion (λ (x : Record). x.account ≡ account → x.token ≢ token) h.orders

abbrev pub Ignored : Host → ℕ → Asked → Type 0
Ignored h account (enter m) = Passed h account m.token
Ignored h account (replace m) = NotLive h account m.existing ⊎ Passed h account m.replacement
Ignored h account (cancel m) = NotLive h account m.token

abbrev pub IgnoredLeaves : Type 0
IgnoredLeaves = (h : Host) (t account : ℕ) (m : Asked) → Ignored h account m → answered h t account m ≡ h

-- an accepted message whose answer counts no reply changes nothing but the clock
abbrev pub SilentLeaves : Type 0
SilentLeaves =
    (h : Host) (t account : ℕ) (bytes : List ℕ) → FitsCall (message t account bytes) → (n : ℕ × ℕ) →
    (step h (message t account bytes)).answer ≡ Ok n → n.1 ≡ 0 → (step h (message t account bytes)).after ≡ with_clock h t

-- ---- a newcomer never rests while it meets an order

-- it meets none of the orders
abbrev pub Unmet : Record → List Record → Type 0
Unmet n xs = AllByRecursion (λ x. is_met n x ≡ false) xs

-- where something is left of it after all executions, it meets no order that is still there
abbrev pub RestsUnmet : Type 0
RestsUnmet = (h : Host) (t : ℕ) (n : Record) → 1 ≤ (matched h t n).newcomer.left → Unmet (matched h t n).newcomer (matched h t n).host.orders

-- something is left of every order
abbrev pub AllLeft : List Record → Type 0
AllLeft xs = AllByRecursion (λ (x : Record). 1 ≤ x.left) xs

-- a replaced order is amended only where the quantity that it meets is 0, and then it meets no order
abbrev pub AmendsUnmet : Type 0
AmendsUnmet = (n : Record) (xs : List Record) → AllLeft xs → meeting_quantity n xs ≡ 0 → Unmet n xs

-- ---- in every run something is left of every live order

abbrev pub AlwaysLeft : Type 0
AlwaysLeft = EveryRun (λ (d : Day). AllLeft d.host.orders)
