-- A stream is cut in one way, since the first two bytes say where the first packet ends; and packets laid down are cut again.
use Rattle.std.proofs.Common.{◌≡◌, ℕ, ◌+◌, ◌^◌, ◌<◌, ◌≤◌, List, [], ◌∷◌, ◌++◌, map, length, take, drop, sym, refl, ap, ◌∙◌, subst, arith}
use Rattle.std.specs.List.{flat_map}
use Rattle.std.specs.Int.Digits.{number_from_digits}
use Rattle.std.proofs.lemmas.List.{append_assoc, length-append, take-append-le, take_at, drop_at}
use Rattle.fields.specs.Be.{be}
use Rattle.fields.proofs.Be.{length-be, number-be}
use Rattle.readable.specs.Streams.{wanted, framed, Cut, Short, CutOnce, FramedCut}
use Rattle.readable.proofs.Cuts.{long, wanted_long}

-- a whole packet says its length, whatever follows
wanted-append : (p x : List ℕ) → length p ≡ wanted p → wanted (p ++ x) ≡ length p
wanted-append p x whole =
    let two : 2 ≤ length p = long p (omega arith) in
    let more : 2 ≤ length (p ++ x) = omega (arith, length-append p x) in
    wanted_long (p ++ x) more ∙ ap (λ f. 2 + number_from_digits 256 f) (take-append-le 2 p x two)
    ∙ sym (wanted_long p two) ∙ sym whole

never_short : (p x : List ℕ) → length p ≡ wanted p → Short (p ++ x) → ⊥
never_short p x whole short = omega (arith, wanted-append p x whole, length-append p x)

split : {b : List ℕ} (p : List ℕ) (ps : List (List ℕ)) (r : List ℕ) → Cut b (p ∷ ps) r
    → b ≡ p ++ (flat_map (λ q. q) ps ++ r)
split p ps r c = sym c.joins ∙ append_assoc p (flat_map (λ q. q) ps) r

pub cut_once : CutOnce
cut_once b [] r [] t c short d short' = (refl, c.joins ∙ sym d.joins)
cut_once b [] r (q ∷ qs) t c short d short' =
    absurd (never_short q _ d.whole.0 (subst Short (c.joins ∙ split q qs t d) short))
cut_once b (p ∷ ps) r [] t c short d short' =
    absurd (never_short p _ c.whole.0 (subst Short (d.joins ∙ split p ps r c) short'))
cut_once b (p ∷ ps) r (q ∷ qs) t c short d short' =
    let e = split p ps r c in
    let f = split q qs t d in
    let size : length p ≡ length q =
    sym (wanted-append p _ c.whole.0) ∙ ap wanted (sym e ∙ f) ∙ wanted-append q _ d.whole.0 in
    let same : p ≡ q =
    sym (take_at p _ (length p) refl) ∙ ap (take (length p)) (sym e ∙ f) ∙ take_at q _ (length p) (sym size) in
    let behind : flat_map (λ x. x) ps ++ r ≡ flat_map (λ x. x) qs ++ t =
    sym (drop_at p _ (length p) refl) ∙ ap (drop (length p)) (sym e ∙ f) ∙ drop_at q _ (length p) (sym size) in
    let rest = cut_once (flat_map (λ x. x) qs ++ t) ps r qs t (record { joins = behind; whole = c.whole.1 }) short
    (record { joins = refl; whole = d.whole.1 }) short' in
    (λ i. same i ∷ rest.0 i, rest.1)

framed_whole : (body : List ℕ) → length body < 2 ^ 16 → length (framed body) ≡ wanted (framed body)
framed_whole body small =
    let n = length body in
    let size = length-append (be 2 n) body in
    let front : take 2 (framed body) ≡ be 2 n = take_at (be 2 n) body 2 (length-be 2 n) in
    omega (
      arith,
      size,
      length-be 2 n,
      wanted_long (framed body) (omega (arith, size, length-be 2 n)),
      ap (number_from_digits 256) front,
      number-be 2 n small,
    )

pub framed_cut : FramedCut
framed_cut [] small = record { joins = refl; whole = tt }
framed_cut (b ∷ bs) small =
    let rest = framed_cut bs small.1 in
    record {
      joins = append_assoc (framed b) (flat_map (λ p. p) (map framed bs)) [] ∙ ap (λ t. framed b ++ t) rest.joins;
      whole = (framed_whole b small.0, rest.whole);
    }
