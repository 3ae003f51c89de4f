-- Last tokens: how they grow, and what orders may be there beside them.
use Rattle.std.proofs.Common.{◌≡◌, ℕ, zero, suc, ◌<◌, ◌≤◌, false, ◌&&◌, eqb, List, [], ◌∷◌, ◌++◌, length, refl, ap, inl, inr, arith}
use Rattle.std.specs.List.{AllByRecursion}
use Rattle.std.proofs.ByRecursion.{All-weaker}
use Rattle.std.proofs.lemmas.List.{get_or-set_same, get_or-set_other}
use Rattle.std.proofs.lemmas.Bool.{and_left, and_right, cases_eq, ne_eqb}
use Rattle.store.specs.declared.record.Record.{Record}
use Rattle.rules.specs.Tables.{account_at, last_token, no_account, token_used}
use Rattle.rules.specs.declared.tables.Account.{Account}
use Rattle.law_copies.proofs.Found.{Unnamed}
use Rattle.law_copies.proofs.Keys.{Adds, AllApart, Of, Thins}

-- ---- last tokens

-- no account's last token is below what it was
abbrev pub Grow : List Account → List Account → Type 0
Grow us vs = (b : ℕ) → last_token b us ≤ last_token b vs

pub used_last : (us : List Account) (a t : ℕ) → a < length us → last_token a (token_used a t us) ≡ t
used_last us a t l = ap (λ (x : Account). x.last) (get_or-set_same us a (record { name = (account_at a us).name; last = t }) no_account l)

other_last : (us : List Account) (a t b : ℕ) → (b ≡ a → ⊥) → last_token b (token_used a t us) ≡ last_token b us
other_last us a t b n = ap (λ (x : Account). x.last) (get_or-set_other us a b (record { name = (account_at a us).name; last = t }) no_account n)

pub used_grow : (us : List Account) (a t : ℕ) → a < length us → last_token a us < t → Grow us (token_used a t us)
used_grow us a t l m b = elim (cases_eq b a) [
  | inl e ↦ rw e (omega (arith, used_last us a t l))
  | inr n ↦ omega (arith, other_last us a t b n)
]

-- an account that is loaded has used no token
pub loaded_last : (us : List Account) (x : Account) → x.last ≡ 0 → (b : ℕ) → last_token b (us ++ x ∷ []) ≡ last_token b us
loaded_last [] x e zero = e
loaded_last [] x e (suc b) = refl
loaded_last (y ∷ us) x e zero = refl
loaded_last (y ∷ us) x e (suc b) = loaded_last us x e b

-- ---- accounts and orders, before and after

-- a token at most the account's last: it was used, or passed over
abbrev pub Past : List Account → ℕ → ℕ → Type 0
Past us a t = t ≤ last_token a us

-- no live order has a token that its account has yet to use, and any two differ in account or token
pub record Sound (us : List Account) (xs : List Record) : Type 0 where
  pub past : AllByRecursion (Of (Past us)) xs
  pub apart : AllApart xs

-- from accounts us and orders xs to vs and ys: an order that is new has a token above its account's last
pub record Goes (us : List Account) (xs : List Record) (vs : List Account) (ys : List Record) : Type 0 where
  pub grow : Grow us vs
  pub sound : Sound us xs → Sound vs ys
  pub unnamed : (a t : ℕ) → Past us a t → Unnamed a t xs → Unnamed a t ys

pub goes_then : (us vs ws : List Account) (xs ys zs : List Record) → Goes us xs vs ys → Goes vs ys ws zs → Goes us xs ws zs
goes_then us vs ws xs ys zs f g = record {
  grow = λ b. let x = f.grow b in let y = g.grow b in omega arith;
  sound = λ s. g.sound (f.sound s);
  unnamed = λ a t p n. let x = f.grow a in g.unnamed a t (omega arith) (f.unnamed a t p n);
}

past_later : (us vs : List Account) (xs : List Record) → Grow us vs → AllByRecursion (Of (Past us)) xs → AllByRecursion (Of (Past vs)) xs
past_later us vs xs g h = All-weaker _ _ (λ x p. let y = g x.account in omega arith) xs h

pub goes_thins : (us vs : List Account) (xs ys : List Record) → Grow us vs → Thins xs ys → Goes us xs vs ys
goes_thins us vs xs ys g d = record {
  grow = g;
  sound = λ s. record { past = d.all (Past vs) (past_later us vs xs g s.past); apart = d.apart s.apart };
  unnamed = λ a t p n. d.all (λ b u. (eqb b a && eqb u t) ≡ false) n;
}

-- a token above the account's last is none that was used
not_past : (us : List Account) (a t b u : ℕ) → Past us a t → last_token b us < u → (eqb b a && eqb u t) ≡ false
not_past us a t b u p l = elim (cases_eq b a) [
  | inl e ↦ and_right _ _ (ne_eqb u t (λ x. let m : last_token a us < u = rw e at l in omega arith))
  | inr n ↦ and_left _ _ (ne_eqb b a n)
]

pub goes-adds :
    (us vs : List Account) (xs ys : List Record) (a t : ℕ) →
    Grow us vs → last_token a us < t → Past vs a t → Adds a t xs ys → Goes us xs vs ys
goes-adds us vs xs ys a t g l m d = record {
  grow = g;
  sound = λ s. record {
    past = d.all (Past vs) m (past_later us vs xs g s.past);
    apart = d.apart (All-weaker _ _ (λ x p e f. let q : x.token ≤ last_token a us = rw e at p in omega arith) xs s.past) s.apart;
  };
  unnamed = λ b u p n. d.all (λ c v. (eqb c b && eqb v u) ≡ false) (not_past us b u a t p l) n;
}
