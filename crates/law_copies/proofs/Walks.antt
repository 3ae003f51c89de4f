-- Matching brings no order but the newcomer.
use Rattle.std.proofs.Common.{◌≡◌, ℕ, zero, suc, Bool, true, false, cond, eqb, leb, List, set, Some, None, Option, refl, ◌∙◌}
use Rattle.std.specs.List.{remove}
use Rattle.store.specs.Records.{appended}
use Rattle.store.specs.declared.record.Record.{Record}
use Rattle.rules.specs.Reasons.{immediate}
use Rattle.market.specs.Changes.{amended_at, executed_at, keeps_place, lessened, no_record, published, record_at, replied}
use Rattle.market.specs.Host.{Host, live}
use Rattle.matching.specs.Matching.{Walked, best_met, dealt, executed, matched, placed, settled, unfilled_reply, walk, walked}
use Rattle.market.specs.declared.change.Change.TheVariants as change
use Rattle.law_copies.proofs.Keys.{Adds, Thins, adds_after, adds-appended, adds_none, adds-set, thins_removed, thins_same, thins_self, thins_then}

-- the same accounts, and no order that was not there
abbrev pub Leaves : Host → Host → Type 1
Leaves h i = (i.accounts ≡ h.accounts) × Thins h.orders i.orders

-- the same accounts, and at most one order that was not there, with this account and token
abbrev pub Brings : ℕ → ℕ → Host → Host → Type 1
Brings a t h i = (i.accounts ≡ h.accounts) × Adds a t h.orders i.orders

pub leaves_self : (h : Host) → Leaves h h
leaves_self h = (refl, thins_self _)

pub brings_none : (a t : ℕ) (h i : Host) → Leaves h i → Brings a t h i
brings_none a t h i f = (f.0, adds_none a t _ _ f.1)

pub brings_after : (a t : ℕ) (h i j : Host) → Leaves h i → Brings a t i j → Brings a t h j
brings_after a t h i j f g = (g.0 ∙ f.0, adds_after a t _ _ _ f.1 g.1)

pub brings_either : (a t : ℕ) (h i j : Host) (b : Bool) → Brings a t h i → Brings a t h j → Brings a t h (cond b i j)
brings_either a t h i j true f g = f
brings_either a t h i j false f g = g

-- ---- edits of the list

thins_executed : (k q : ℕ) (xs : List Record) → Thins xs (executed_at k q xs)
thins_executed k q xs = by (leb (record_at k xs).left q)
  where
    by : (b : Bool) → Thins xs (cond b (remove xs k) (set xs k (lessened q (record_at k xs))))
    by true = thins_removed xs k
    by false = thins_same (lessened q (record_at k xs)) no_record xs k refl refl

pub adds-amended : (room k : ℕ) (x : Record) (xs : List Record) → Adds x.account x.token xs (amended_at room k x xs)
adds-amended room k x xs = by (keeps_place (record_at k xs) x)
  where
    by : (b : Bool) → Adds x.account x.token xs (cond b (set xs k x) (appended room (remove xs k) x))
    by true = adds-set x xs k
    by false = adds_after _ _ xs (remove xs k) _ (thins_removed xs k) (adds-appended room x (remove xs k))

-- ---- executions

-- after a walk the newcomer is the one that came
record Walks (h : Host) (n : Record) (w : Walked) : Type 1 where
  pub leaves : Leaves h w.host
  pub account : w.newcomer.account ≡ n.account
  pub token : w.newcomer.token ≡ n.token

walks : (fuel : ℕ) (h : Host) (t : ℕ) (n : Record) → Walks h n (walk fuel h t n)
unfolding walk
walks zero h t n = record { leaves = leaves_self h; account = refl; token = refl }
walks (suc fuel) h t n =
    by (eqb n.left 0) (best_met h n) _ (λ k. walks fuel (executed h t n k (record_at k h.orders)) t (lessened (dealt n (record_at k h.orders)) n))
  where
    by :
        (b : Bool) (o : Option ℕ) (next : ℕ → Walked) →
        ((k : ℕ) → Walks (executed h t n k (record_at k h.orders)) (lessened (dealt n (record_at k h.orders)) n) (next k)) →
        Walks h n (cond b (walked h n) (elim o as (λ _. Walked) [ None ↦ walked h n | Some k ↦ next k ]))
    by true o next ih = record { leaves = leaves_self h; account = refl; token = refl }
    by false None next ih = record { leaves = leaves_self h; account = refl; token = refl }
    by false (Some k) next ih =
        let r = ih k in
        let fewer = thins_executed k (dealt n (record_at k h.orders)) h.orders in
        record { leaves = (r.leaves.0, thins_then _ _ _ fewer r.leaves.1); account = r.account; token = r.token }

-- ---- what is left of the newcomer

module _ (h : Host) (n : Record) (w : Walked) (t : ℕ) (s : Walks h n w) where
  abbrev rested : Host
  rested = published w.host t (change.Rest w.newcomer)

  brings_rest : Brings n.account n.token h rested
  brings_rest =
      rw (← s.account, ← s.token)
      (brings_after _ _ h w.host rested s.leaves (refl, adds-appended w.host.room w.newcomer w.host.orders))

  brings_settled : (now : Bool) → Brings n.account n.token h (settled w t now)
  brings_settled now =
      let canceled : Host = replied w.host w.newcomer.account (unfilled_reply t w.newcomer) in
      let none = brings_none n.account n.token h w.host s.leaves in
      brings_either _ _ h w.host (cond now canceled rested) (eqb w.newcomer.left 0) none
      (brings_either _ _ h canceled rested now none brings_rest)

pub brings_placed : (h : Host) (t : ℕ) (n : Record) (force : ℕ) → Brings n.account n.token h (placed h t n force)
brings_placed h t n force = brings_settled h n (matched h t n) t (walks (live h) h t n) (immediate force)
