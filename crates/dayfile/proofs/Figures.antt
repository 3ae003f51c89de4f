-- The decimal digits of a number, one by one.
use Rattle.std.proofs.Common.{◌≡◌, ℕ, zero, suc, ◌+◌, ◌/◌, ◌%◌, ◌^◌, ◌<◌, ◌≤◌, false, List, [], ◌∷◌, ◌++◌, length, decimal, sym, refl, ap, ◌∙◌, ⊎_elim, append_assoc, arith, length-append}
use Rattle.std.specs.Fmt.{digit_glyph, digits_onto, digits}
use Rattle.std.proofs.lemmas.Bool.{eq-eqb, ne_eqb, lt-ltb, cases_lt}

abbrev spell : ℕ → ℕ → List ℕ → List ℕ
spell k n acc = digits_onto k 10 false n acc

digit : (n : ℕ) → digit_glyph false (n % 10) ≡ 48 + n % 10
digit n = rw (lt-ltb (n % 10) 10 (omega arith))

last : (k n : ℕ) (acc : List ℕ) → n < 10 → spell (suc k) n acc ≡ (48 + n % 10) ∷ acc
last k n acc h = rw (eq-eqb (n / 10) 0 (omega arith), digit n)

next : (k n : ℕ) (acc : List ℕ) → 10 ≤ n → spell (suc k) n acc ≡ spell k (n / 10) ((48 + n % 10) ∷ acc)
next k n acc h = rw (ne_eqb (n / 10) 0 (λ e. omega arith), digit n)

onto : (k n : ℕ) (acc : List ℕ) → spell k n acc ≡ spell k n [] ++ acc
onto zero n acc = refl
onto (suc k) n acc = ⊎_elim
    (λ l. last k n acc l ∙ ap (λ x. x ++ acc) (sym (last k n [] l)))
    (λ l. next k n acc l ∙ onto k (n / 10) _ ∙ sym (append_assoc (spell k (n / 10) []) _ acc)
    ∙ ap (λ x. x ++ acc) (sym (next k n [] l ∙ onto k (n / 10) _)))
    (cases_lt n 10)

-- more turns than there are digits change nothing
turns : (k n : ℕ) (acc : List ℕ) → n < 10 ^ suc k → spell (suc (suc k)) n acc ≡ spell (suc k) n acc
turns zero n acc h = last 1 n acc (omega arith) ∙ sym (last 0 n acc (omega arith))
turns (suc k) n acc h = ⊎_elim
    (λ l. last (suc (suc k)) n acc l ∙ sym (last (suc k) n acc l))
    (λ l. next (suc (suc k)) n acc l ∙ turns k (n / 10) _ (omega arith) ∙ sym (next (suc k) n acc l))
    (cases_lt n 10)

pub decimal_last : (n : ℕ) → n < 10 → decimal n ≡ (48 + n % 10) ∷ []
unfolding digits
decimal_last n h = last 63 n [] h

pub decimal_more : (n : ℕ) → 10 ≤ n → n < 2 ^ 128 → decimal n ≡ decimal (n / 10) ++ ((48 + n % 10) ∷ [])
unfolding digits
decimal_more n h l = next 63 n [] h ∙ sym (turns 62 (n / 10) _ (omega arith)) ∙ onto 64 (n / 10) _

pub length_more : (n : ℕ) → 10 ≤ n → n < 2 ^ 128 → length (decimal n) ≡ length (decimal (n / 10)) + 1
length_more n h l = ap length (decimal_more n h l) ∙ length-append (decimal (n / 10)) _

-- no more digits than turns
short : (k n : ℕ) → length (spell k n []) ≤ k
short zero n = omega arith
short (suc k) n = ⊎_elim
    (λ l. rw (last k n [] l) (omega arith))
    (λ l. rw (next k n [] l, onto k (n / 10) _, length-append) (omega (arith, short k (n / 10))))
    (cases_lt n 10)

pub decimal_short : (n : ℕ) → length (decimal n) ≤ 64
unfolding digits
decimal_short n = short 64 n

-- three texts with a byte between, put one after the other
pub spaced : {w₀ w₁ w₂ w₃ w₄ w₅ : List ℕ} (a b c : List ℕ) (x : ℕ) → w₀ ≡ [] → w₁ ≡ w₀ ++ a → w₂ ≡ w₁ ++ (x ∷ [])
    → w₃ ≡ w₂ ++ b → w₄ ≡ w₃ ++ (x ∷ []) → w₅ ≡ w₄ ++ c → w₅ ≡ a ++ (x ∷ (b ++ (x ∷ c)))
spaced a b c x e₀ e₁ e₂ e₃ e₄ e₅ =
    let e : (((([] ++ a) ++ (x ∷ [])) ++ b) ++ (x ∷ [])) ++ c ≡ a ++ (x ∷ (b ++ (x ∷ c))) = simp append_assoc in cc

pub length_spaced : (a b c : List ℕ) (x : ℕ) → length (a ++ (x ∷ (b ++ (x ∷ c)))) ≡ length a + length b + length c + 2
length_spaced a b c x = simp length-append (omega arith)
