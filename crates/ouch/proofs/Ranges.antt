-- How many bytes a message has, and that each value that is read has a place in its field.
use Rattle.std.proofs.Common.{◌≡◌, ℕ, ◌+◌, ◌^◌, ◌<◌, eqb, List, [], ◌∷◌, length, get_or, take, drop, Some, sym, ap, ◌∙◌, subst, arith, length-drop, length-take}
use mir.Facts.{sfits_to_z}
use Rattle.std.specs.Int.Digits.{number_from_digits, AllBelowBase}
use Rattle.std.proofs.lemmas.Int.Digits.{number_lt}
use Rattle.std.proofs.ByRecursion.{All-take, All-drop}
use Rattle.std.proofs.lemmas.Bool.{eqb-true, eq-eqb}
use Rattle.fields.proofs.Rows.{some_cond}
use Rattle.fields.specs.Layout.{Kind, byte, uint, int, text, size, get, Fit, Row, sizes, read_at, Fits, apply, Format, Fitting, encode, decode, Sound}

pub sound_length : {M : Type 0} (f : Format M) → Sound f → (m : M) → Fitting f m
    → length (encode f m) ≡ 1 + sizes f.fields
sound_length f s m h = eqb-true _ _ (some_cond (eqb (length (encode f m)) (1 + sizes f.fields)) _ m (s.returns m h)).0

fit_get : (k : Kind) (b : List ℕ) → length b ≡ size k → AllBelowBase 256 b → Fit k (get k b)
fit_get byte b e u = subst (λ n. number_from_digits 256 b < 256 ^ n) e (number_lt 256 b u)
fit_get (uint w) b e u = subst (λ n. number_from_digits 256 b < 256 ^ n) e (number_lt 256 b u)
fit_get int b e u = sfits_to_z (record { fits = subst (λ n. number_from_digits 256 b < 256 ^ n) e (number_lt 256 b u) })
fit_get (text w) b e u = e

fits_read : (ks : List Kind) (b : List ℕ) (at : ℕ) → at + sizes ks ≡ length b → AllBelowBase 256 b
    → Fits ks (read_at ks at b)
fits_read [] b at e u = tt
fits_read (k ∷ ks) b at e u =
    let l : length (take (size k) (drop at b)) ≡ size k = simp (length-take, length-drop) (omega arith) in (
      fit_get k (take (size k) (drop at b)) l
          (All-take (λ d. d < 256) (size k) (drop at b) (All-drop (λ d. d < 256) at b u)),
      fits_read ks b (at + size k) (omega arith) u,
    )

-- the values of a message are those that it was made of
abbrev pub Back : {M : Type 0} → Format M → Type 0
Back {M} f = (r : Row f.fields) (m : M) → apply f.fields f.made r ≡ Some m → f.row m ≡ r

pub fits_decoded : {M : Type 0} (f : Format M) → Back f → (b : List ℕ) (m : M) → AllBelowBase 256 b
    → decode f b ≡ Some m → Fitting f m
fits_decoded f back b m u e =
    let p = some_cond (eqb (length b) (1 + sizes f.fields)) _ m e in
    let q = some_cond (eqb (get_or b 0 0) f.letter) (apply f.fields f.made (read_at f.fields 1 b)) m p.1 in
    let l : length b ≡ 1 + sizes f.fields = eqb-true (length b) (1 + sizes f.fields) p.0 in
    rw (back (read_at f.fields 1 b) m q.1) (fits_read f.fields b 1 (omega arith) u)

-- the message of the values that are read, where length and letter are right
pub decoded : {M : Type 0} (f : Format M) (b : List ℕ) (r : Row f.fields) (m : M) → length b ≡ 1 + sizes f.fields
    → get_or b 0 0 ≡ f.letter → r ≡ read_at f.fields 1 b → apply f.fields f.made r ≡ Some m → Some m ≡ decode f b
decoded f b r m l a e h =
    rw (eq-eqb (length b) (1 + sizes f.fields) l, eq-eqb (get_or b 0 0) f.letter a)
    (sym h ∙ ap (apply f.fields f.made) e)
