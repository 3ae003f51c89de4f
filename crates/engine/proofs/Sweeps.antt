-- A sweep over the orders, from the order at a place on.
use Rattle.std.proofs.Common.{◌≡◌, ℕ, suc, ◌+◌, ◌<◌, ◌≤◌, Bool, cond, eqb, List, length, take, drop, Some, None, unwrap_or, sym, ap, ◌∙◌, add-one, arith}
use Rattle.std.proofs.lemmas.List.{at_drop_more, at_drop_all, drop_at, length-take-le}
use Rattle.std.proofs.lemmas.Option.{slice_get-get_or, slice_get_within}
use Rattle.std.proofs.lemmas.Bool.{eq-eqb, ne_eqb}
use Rattle.std.specs.List.{remove, slice_get}
use Rattle.ouch.specs.declared.letters.CancelReason.TheVariants.{LoggedOff}
use Rattle.store.proofs.Withdrawals.{reached, ended}
use Rattle.store.specs.Records.{next_of}
use Rattle.store.specs.declared.record.Record.{Record}
use Rattle.market.specs.Changes.{no_record, record_at, withdrawn}
use Rattle.market.specs.Host.{Host}
use Rattle.engine.specs.Sweep.{swept_from}

-- where the order at k is gone, those behind it stand from k on
drop_removed : (xs : List Record) (k : ℕ) → k < length xs → drop k (remove xs k) ≡ drop (k + 1) xs
drop_removed xs k lt =
    drop_at (take k xs) (drop (suc k) xs) k (length-take-le k xs (omega arith)) ∙ ap (λ j. drop j xs) (sym (add-one k))

module _ (t account : ℕ) where
  -- what is left to sweep from the order at k on
  abbrev pub swept_on : ℕ → Host → Host
  swept_on k h = swept_from k (drop k h.orders) h t account

  module _ (h : Host) (k : ℕ) (lt : k < length h.orders) where
    -- by whether the order at k is the account's
    abbrev by : Bool → Host
    by own = cond own (swept_from k (drop (k + 1) h.orders) (withdrawn h t k LoggedOff) t account) (swept_on (k + 1) h)

    at_order : swept_on k h ≡ by (eqb (record_at k h.orders).account account)
    unfolding swept_from
    at_order =
        at_drop_more (λ xs. swept_from k xs h t account) h.orders k no_record lt
        ∙ ap (λ o. by (eqb (unwrap_or o no_record).account account)) (sym (slice_get-get_or h.orders k no_record lt))

    -- an order of the account goes
    pub swept_own : (record_at k h.orders).account ≡ account → swept_on k (withdrawn h t k LoggedOff) ≡ swept_on k h
    swept_own own =
        ap (λ xs. swept_from k xs (withdrawn h t k LoggedOff) t account) (drop_removed h.orders k lt) ∙ sym (at_order ∙ ap by (eq-eqb _ _ own))

    -- another order stays
    pub swept_other : ((record_at k h.orders).account ≡ account → ⊥) → swept_on (k + 1) h ≡ swept_on k h
    swept_other other = sym (at_order ∙ ap by (ne_eqb _ _ other))

  pub swept_all : (h : Host) (k : ℕ) → length h.orders ≤ k → swept_on k h ≡ h
  unfolding swept_from
  swept_all h k le = at_drop_all (λ xs. swept_from k xs h t account) h.orders k le

  -- the walk from place i to the account's next order, where what is left to sweep gives `all`
  module _ (h all : Host) where
    abbrev Whole : ℕ → Type 0
    Whole k = swept_on k h ≡ all

    account_at : (k : ℕ) (x : Record) → slice_get h.orders k ≡ Some x → (record_at k h.orders).account ≡ x.account
    account_at k x e = ap (λ o. (unwrap_or o no_record).account) e

    passed : (k : ℕ) (x : Record) → slice_get h.orders k ≡ Some x → (x.account ≡ account → ⊥) → Whole k → Whole (k + 1)
    passed k x e other w = swept_other h k (slice_get_within h.orders k x e) (λ own. other (sym (account_at k x e) ∙ own)) ∙ w

    pub next_swept : (i k : ℕ) (x : Record) → next_of account i h.orders ≡ Some (k, x) → swept_on i h ≡ all → (k < length h.orders) × (swept_on k (withdrawn h t k LoggedOff) ≡ all)
    next_swept i k x f w =
        let r = reached account h.orders Whole passed i k x f w in
        let lt = slice_get_within h.orders k x r.0 in
        (lt, swept_own h k lt (account_at k x r.0 ∙ r.1) ∙ r.2)

    pub none_swept : (i : ℕ) → next_of account i h.orders ≡ None → swept_on i h ≡ all → h ≡ all
    none_swept i f w = let r = ended account h.orders Whole passed i f w in sym (swept_all h r.0 r.1) ∙ r.2
