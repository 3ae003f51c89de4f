-- One step of a withdrawal: the record at k goes to the other store, or stays, or the list is at its end. And the walk
-- to an account's next record, over those of others.
use Rattle.std.proofs.Common.{◌≡◌, ℕ, zero, suc, ◌+◌, ◌-◌, ◌<◌, ◌≤◌, true, false, eqb, List, [], ◌∷◌, ◌++◌, length, take, drop, Option, Some, None, sym, refl, ap, ◌∙◌, inl, inr, append_assoc, append-nil, add-one, arith, length-append, length-drop}
use Rattle.std.proofs.lemmas.List.Edits.{length-remove}
use Rattle.std.proofs.lemmas.List.{take_all, drop_all, take_at, drop_at, length-take-le}
use Rattle.std.proofs.lemmas.Bool.{cases_Bool, lt-ltb, eqb-true, eqb-false, eq-eqb, ne_eqb}
use Rattle.std.specs.List.{remove, slice_get, find, enumerate_from, range_with_len}
use Rattle.std.specs.Option.{option_map}
use Rattle.store.proofs.Places.{nth_within, nth_drop, nth_take, head_of_drop, none_of_drop}
use Rattle.store.specs.Records.{appended, is_own, next_of, those, without}
use Rattle.store.specs.declared.record.Record.{Record}

pub those_fewer : (account : ℕ) (xs : List Record) → length (those account xs) ≤ length xs
those_fewer account [] = omega arith
those_fewer account (x ∷ xs) =
    let l = those_fewer account xs in
    elim (cases_Bool (eqb x.account account)) [ inl h ↦ rw h (omega arith) | inr h ↦ rw h (omega arith) ]

module _ (account : ℕ) (xs : List Record) (k : ℕ) where
  module _ (x : Record) (e : slice_get xs k ≡ Some x) where
    -- the record at k is the account's, and the list is ys without it
    module _ (ys : List Record) (f : ys ≡ remove xs k) where
      pub fewer_here : length ys + 1 ≡ length xs
      fewer_here = rw f (length-remove xs k (nth_within xs k x e))

      rest_here : drop k ys ≡ drop (k + 1) xs
      rest_here =
          let l = nth_within xs k x e in
          ap (drop k) f ∙ drop_at (take k xs) (drop (suc k) xs) k (length-take-le k xs (omega arith)) ∙ ap (λ j. drop j xs) (sym (add-one k))

      module _ (h : x.account ≡ account) where
        pub gone_here : take k ys ++ without account (drop k ys) ≡ take k xs ++ without account (drop k xs)
        gone_here =
            let l = nth_within xs k x e in
            let t : take k ys ≡ take k xs = ap (take k) f ∙ take_at (take k xs) (drop (suc k) xs) k (length-take-le k xs (omega arith)) in
            rw (t, rest_here, nth_drop xs k x e, eq-eqb x.account account h)

        those_here : those account (drop k xs) ≡ x ∷ those account (drop k ys)
        those_here = rw (rest_here, nth_drop xs k x e, eq-eqb x.account account h)

        -- it is the next of those that go to the other store, which has a place for all of them
        pub moved_here : (room : ℕ) (ws vs all : List Record) → vs ≡ appended room ws x → length all ≤ room → ws ++ those account (drop k xs) ≡ all → vs ++ those account (drop k ys) ≡ all
        moved_here room ws vs all a m w =
            let n = ap length (ap (λ zs. ws ++ zs) (sym those_here) ∙ w) in
            let free : length ws < room = omega (arith, simp length-append at n) in
            rw (a, lt-ltb (length ws) room free, append_assoc, sym those_here) w

    -- it is another's
    module _ (h : x.account ≡ account → ⊥) where
      pub kept_here : take (k + 1) xs ++ without account (drop (k + 1) xs) ≡ take k xs ++ without account (drop k xs)
      kept_here = rw (nth_take xs k x e, append_assoc, nth_drop xs k x e, ne_eqb x.account account h)

      pub passed_here : those account (drop (k + 1) xs) ≡ those account (drop k xs)
      passed_here = rw (nth_drop xs k x e, ne_eqb x.account account h)

  -- the list is at its end
  module _ (h : length xs ≤ k) where
    pub kept_end : xs ≡ take k xs ++ without account (drop k xs)
    kept_end = rw (drop_all k xs h, take_all k xs h, append-nil)

    pub moved_end : (ws : List Record) → ws ≡ ws ++ those account (drop k xs)
    moved_end ws = rw (drop_all k xs h, append-nil)

-- The walk from a place to the account's next record: what each record of another account keeps holds there.
module _ (account : ℕ) (xs : List Record) (P : ℕ → Type 0) (pass : (k : ℕ) (x : Record) → slice_get xs k ≡ Some x → (x.account ≡ account → ⊥) → P k → P (k + 1)) where
  -- the first record of the account, with its place, where ys stand from place i on
  abbrev first : ℕ → List Record → Option (ℕ × Record)
  first i ys = find (λ p. eqb p.1.account account) (enumerate_from i ys)

  reached_from : (ys : List Record) (i k : ℕ) (x : Record) → drop i xs ≡ ys → first i ys ≡ Some (k, x) → P i → (slice_get xs k ≡ Some x) × (x.account ≡ account) × P k
  reached_from [] i k x e f p = let z : ◌≡◌ {A = ℕ} 0 1 = cc in absurd (omega arith)
  reached_from (y ∷ ys) i k x e f p =
      let h = head_of_drop xs i y ys e in
      elim (cases_Bool (eqb y.account account)) [
        | inl own ↦
            let some : ◌≡◌ {A = Option (ℕ × Record)} (Some (i, y)) (Some (k, x)) = rw own at f in
            let here : ◌≡◌ {A = ℕ × Record} (i, y) (k, x) = cc in
            let place : i ≡ k = ap (λ p. p.0) here in
            let is : y ≡ x = ap (λ p. p.1) here in
            rw (← place, ← is) (h.0, eqb-true y.account account own, p)
        | inr other ↦ reached_from ys (i + 1) k x h.1 (rw other at f) (pass i y h.0 (eqb-false y.account account other) p)
      ]

  pub reached : (i k : ℕ) (x : Record) → next_of account i xs ≡ Some (k, x) → P i → (slice_get xs k ≡ Some x) × (x.account ≡ account) × P k
  reached i k x f p = reached_from (drop i xs) i k x refl f p

  -- there is none: the walk comes to the end
  ended_from : (ys : List Record) (i : ℕ) → drop i xs ≡ ys → first i ys ≡ None → P i → (n : ℕ) × (length xs ≤ n) × P n
  ended_from [] i e f p = (i, none_of_drop xs i e, p)
  ended_from (y ∷ ys) i e f p =
      let h = head_of_drop xs i y ys e in
      elim (cases_Bool (eqb y.account account)) [
        | inl own ↦ let none : ◌≡◌ {A = Option (ℕ × Record)} (Some (i, y)) None = rw own at f in let z : ◌≡◌ {A = ℕ} 0 1 = cc in absurd (omega arith)
        | inr other ↦ ended_from ys (i + 1) h.1 (rw other at f) (pass i y h.0 (eqb-false y.account account other) p)
      ]

  pub ended : (i : ℕ) → next_of account i xs ≡ None → P i → (n : ℕ) × (length xs ≤ n) × P n
  ended i f p = ended_from (drop i xs) i refl f p

-- The first place from i on whose record is the account's: that record, with its place, is the account's first from there on.
module _ (account : ℕ) (xs : List Record) where
  abbrev pub placed : Option ℕ → Option (ℕ × Record)
  placed None = None
  placed (Some k) = option_map (λ x. (k, x)) (slice_get xs k)

  placed_from : (ys : List Record) (i n : ℕ) → drop i xs ≡ ys → length ys ≡ n → placed (find (is_own account xs) (range_with_len i n)) ≡ find (λ p. eqb p.1.account account) (enumerate_from i ys)
  placed_from [] i zero e l = refl
  placed_from [] i (suc n) e l = absurd (omega arith)
  placed_from (y ∷ ys) i zero e l = absurd (omega arith)
  placed_from (y ∷ ys) i (suc n) e l =
      let h = head_of_drop xs i y ys e in
      elim (cases_Bool (eqb y.account account)) [
        | inl own ↦ let is : is_own account xs i ≡ true = rw h.0 own in rw (is, own, h.0) refl
        | inr other ↦ let is : is_own account xs i ≡ false = rw h.0 other in rw (is, other) (placed_from ys (i + 1) n h.1 (omega arith))
      ]

  pub next_placed : (i n : ℕ) → length xs - i ≡ n → placed (find (is_own account xs) (range_with_len i n)) ≡ next_of account i xs
  next_placed i n l = placed_from (drop i xs) i n refl (simp length-drop l)

-- A withdrawal's walk: ws are the records of the other store, and left and all what shall stand in the two at its end.
module _ (account : ℕ) (xs ws left all : List Record) where
  abbrev pub Whole : ℕ → Type 0
  Whole k = (take k xs ++ without account (drop k xs) ≡ left) × (ws ++ those account (drop k xs) ≡ all)

  passed : (k : ℕ) (x : Record) → slice_get xs k ≡ Some x → (x.account ≡ account → ⊥) → Whole k → Whole (k + 1)
  passed k x e other w = (kept_here account xs k x e other ∙ w.0, ap (λ ys. ws ++ ys) (passed_here account xs k x e other) ∙ w.1)

  pub next_here : (i k : ℕ) (x : Record) → next_of account i xs ≡ Some (k, x) → Whole i → (slice_get xs k ≡ Some x) × (x.account ≡ account) × Whole k
  next_here = reached account xs Whole passed

  pub none_here : (i : ℕ) → next_of account i xs ≡ None → Whole i → (n : ℕ) × (length xs ≤ n) × Whole n
  none_here = ended account xs Whole passed
