-- Orders by account and token: what the edits of a list keep of them.
use Rattle.std.proofs.Common.{◌≡◌, ℕ, zero, suc, Bool, true, false, cond, ltb, List, [], ◌∷◌, ◌++◌, length, set, unwrap_or, sym, ◌∙◌}
use Rattle.std.specs.List.{remove, slice_get, AllByRecursion}
use Rattle.std.proofs.ByRecursion.{All-append, All-drop, All-push, All-set, All-take, All-weaker}
use Rattle.store.specs.Records.{appended}
use Rattle.store.specs.declared.record.Record.{Record}

-- a statement on an order's account and token
abbrev pub Of : (ℕ → ℕ → Type 0) → Record → Type 0
Of P x = P x.account x.token

-- not the same account and token
abbrev pub Differs : ℕ → ℕ → ℕ → ℕ → Type 0
Differs a t b u = a ≡ b → t ≡ u → ⊥

abbrev pub Apart : Record → Record → Type 0
Apart x y = Differs x.account x.token y.account y.token

-- any two orders differ
abbrev pub AllApart : List Record → Type 0
AllApart [] = Unit {0}
AllApart (x ∷ xs) = AllByRecursion (Apart x) xs × AllApart xs

-- ys brings no account and token that xs has not
pub record Thins (xs ys : List Record) : Type 1 where
  pub all : (P : ℕ → ℕ → Type 0) → AllByRecursion (Of P) xs → AllByRecursion (Of P) ys
  pub apart : AllApart xs → AllApart ys

-- ys brings at most one order that xs has not, with account a and token t
pub record Adds (a t : ℕ) (xs ys : List Record) : Type 1 where
  pub all : (P : ℕ → ℕ → Type 0) → P a t → AllByRecursion (Of P) xs → AllByRecursion (Of P) ys
  pub apart : AllByRecursion (Of (λ b u. Differs b u a t)) xs → AllApart xs → AllApart ys

pub thins_self : (xs : List Record) → Thins xs xs
thins_self xs = record { all = λ P h. h; apart = λ p. p }

pub thins_then : (xs ys zs : List Record) → Thins xs ys → Thins ys zs → Thins xs zs
thins_then xs ys zs f g = record { all = λ P h. g.all P (f.all P h); apart = λ p. g.apart (f.apart p) }

pub adds_none : (a t : ℕ) (xs ys : List Record) → Thins xs ys → Adds a t xs ys
adds_none a t xs ys f = record { all = λ P p h. f.all P h; apart = λ d p. f.apart p }

pub adds_after : (a t : ℕ) (xs ys zs : List Record) → Thins xs ys → Adds a t ys zs → Adds a t xs zs
adds_after a t xs ys zs f g =
    record { all = λ P p h. g.all P p (f.all P h); apart = λ d p. g.apart (f.all (λ b u. Differs b u a t) d) (f.apart p) }

-- ---- an order is removed

pub all_removed : (P : Record → Type 0) (xs : List Record) (k : ℕ) → AllByRecursion P xs → AllByRecursion P (remove xs k)
all_removed P xs k h = All-append P _ _ (All-take P k xs h) (All-drop P (suc k) xs h)

apart_removed : (xs : List Record) (k : ℕ) → AllApart xs → AllApart (remove xs k)
apart_removed [] zero p = tt
apart_removed [] (suc k) p = tt
apart_removed (x ∷ xs) zero p = p.1
apart_removed (x ∷ xs) (suc k) p = (all_removed (Apart x) xs k p.0, apart_removed xs k p.1)

pub thins_removed : (xs : List Record) (k : ℕ) → Thins xs (remove xs k)
thins_removed xs k = record { all = λ P h. all_removed (Of P) xs k h; apart = apart_removed xs k }

-- ---- an order is rewritten with its account and token

module _ (y d : Record) where
  abbrev Same : List Record → ℕ → Type 0
  Same xs k = (y.account ≡ (unwrap_or (slice_get xs k) d).account) × (y.token ≡ (unwrap_or (slice_get xs k) d).token)

  all_same : (P : ℕ → ℕ → Type 0) (xs : List Record) (k : ℕ) → Same xs k → AllByRecursion (Of P) xs → AllByRecursion (Of P) (set xs k y)
  all_same P [] k e h = tt
  all_same P (x ∷ xs) zero e h = (rw (e.0, e.1) h.0, h.1)
  all_same P (x ∷ xs) (suc k) e h = (h.0, all_same P xs k e h.1)

  apart_same : (xs : List Record) (k : ℕ) → Same xs k → AllApart xs → AllApart (set xs k y)
  apart_same [] k e p = tt
  apart_same (x ∷ xs) zero e p = (All-weaker (Apart x) (Apart y) (λ z n f g. n (sym e.0 ∙ f) (sym e.1 ∙ g)) xs p.0, p.1)
  apart_same (x ∷ xs) (suc k) e p = (all_same (Differs x.account x.token) xs k e p.0, apart_same xs k e p.1)

  pub thins_same : (xs : List Record) (k : ℕ) → y.account ≡ (unwrap_or (slice_get xs k) d).account → y.token ≡ (unwrap_or (slice_get xs k) d).token → Thins xs (set xs k y)
  thins_same xs k e f = record { all = λ P h. all_same P xs k (e, f) h; apart = apart_same xs k (e, f) }

-- ---- another order takes a place

apart_set : (y : Record) (xs : List Record) (k : ℕ) → AllByRecursion (λ x. Apart x y) xs → AllApart xs → AllApart (set xs k y)
apart_set y [] k d p = tt
apart_set y (x ∷ xs) zero d p = (All-weaker (λ z. Apart z y) (Apart y) (λ z n f g. n (sym f) (sym g)) xs d.1, p.1)
apart_set y (x ∷ xs) (suc k) d p = (All-set (Apart x) xs k y d.0 p.0, apart_set y xs k d.1 p.1)

pub adds-set : (y : Record) (xs : List Record) (k : ℕ) → Adds y.account y.token xs (set xs k y)
adds-set y xs k = record { all = λ P p h. All-set (Of P) xs k y p h; apart = apart_set y xs k }

apart_push : (y : Record) (xs : List Record) → AllByRecursion (λ x. Apart x y) xs → AllApart xs → AllApart (xs ++ y ∷ [])
apart_push y [] d p = (tt, tt)
apart_push y (x ∷ xs) d p = (All-push (Apart x) xs y p.0 d.0, apart_push y xs d.1 p.1)

pub adds-appended : (room : ℕ) (y : Record) (xs : List Record) → Adds y.account y.token xs (appended room xs y)
adds-appended room y xs = by (ltb (length xs) room)
  where
    by : (fits : Bool) → Adds y.account y.token xs (cond fits (xs ++ y ∷ []) xs)
    by true = record { all = λ P p h. All-push (Of P) xs y h p; apart = apart_push y xs }
    by false = adds_none _ _ xs xs (thins_self xs)
