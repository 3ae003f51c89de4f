-- A stream cut into packets, one more at a time.
use Rattle.std.proofs.Common.{◌≡◌, ℕ, ◌+◌, ◌-◌, ◌≤◌, Bool, true, false, cond, ltb, List, [], ◌∷◌, ◌++◌, length, take, drop, Some, None, vec_items, Option, sym, refl, ap, ◌∙◌, subst, arith}
use Rattle.std.specs.Int.Digits.{number_from_digits}
use Rattle.std.specs.List.{flat_map, IsSplitAt}
use Rattle.std.proofs.ByRecursion.{All-append}
use Rattle.std.proofs.lemmas.List.{append_assoc, append-nil, length-append, length-take-le, take-take, take-append-drop, drop_at}
use Rattle.std.proofs.lemmas.List.Concat.{flat_map-append}
use Rattle.std.proofs.lemmas.Bool.{le-ltb, cond-false}
use Rattle.std.proofs.lemmas.Bool.Decides.{nat_tests}
use Rattle.readable.specs.declared.stream.Stream.{Stream}
use Rattle.readable.specs.Packets.{packet_of, second_after}
use Rattle.readable.specs.Streams.{wanted, line_of, lines, second_after_all, Cut, Short, Shown, ShownWhole, GoesOn}

-- the packet at the front of some bytes, and what follows it
pub record Front (r p t : List ℕ) : Type 0 where
  pub whole : length p ≡ wanted p
  pub some : 2 ≤ length p
  pub joins : p ++ t ≡ r

pub wanted_long : (b : List ℕ) → 2 ≤ length b → wanted b ≡ 2 + number_from_digits 256 (take 2 b)
wanted_long b long = cond-false _ _ _ (le-ltb (length b) 2 long)

pub long : (b : List ℕ) → wanted b ≤ length b → 2 ≤ length b
long b h = grind (arith, nat_tests)

wanted_front : (b : List ℕ) → wanted b ≤ length b → wanted (take (wanted b) b) ≡ wanted b
wanted_front b in' =
    let two : 2 ≤ length b = long b in' in
    let more : 2 ≤ wanted b = omega (arith, wanted_long b two) in
    let size : length (take (wanted b) b) ≡ wanted b = length-take-le (wanted b) b in' in
    wanted_long (take (wanted b) b) (omega arith) ∙ ap (λ f. 2 + number_from_digits 256 f) (take-take 2 (wanted b) b more)
    ∙ sym (wanted_long b two)

-- what a split at that length gives
pub front_from : (r p t : List ℕ) → IsSplitAt r (wanted r) p t → Front r p t
front_from r p t s =
    let same : p ≡ take (wanted r) r = s.1 in
    let size : length p ≡ wanted r = ap length same ∙ length-take-le (wanted r) r s.0 in
    record {
      whole = size ∙ sym (wanted_front r s.0) ∙ ap wanted (sym same);
      some = omega (arith, wanted_long r (long r s.0));
      joins = (λ i. same i ++ s.2 i) ∙ take-append-drop (wanted r) r;
    }

none_from : (t : Bool) (x : List ℕ) → None ≡ cond t None (Some x) → t ≡ true
none_from true x e = refl
none_from false x e = cc

-- where no packet has come whole, the rest is short
pub short_from : (r : List ℕ) → None ≡ cond (ltb (length r) (wanted r)) None (Some (take (wanted r) r)) → Short r
short_from r e = let h = none_from (ltb (length r) (wanted r)) (take (wanted r) r) e in grind (arith, nat_tests)

-- the rest is cut further
cut_then : {b : List ℕ} {ps : List (List ℕ)} {r : List ℕ} {qs : List (List ℕ)} {t : List ℕ} → Cut b ps r → Cut r qs t
    → Cut b (ps ++ qs) t
cut_then {b} {ps} {r} {qs} {t} c d = record {
  joins = ap (λ x. x ++ t) (flat_map-append (λ p. p) ps qs)
      ∙ append_assoc (flat_map (λ p. p) ps) (flat_map (λ p. p) qs) t
      ∙ ap (λ x. flat_map (λ p. p) ps ++ x) d.joins
      ∙ c.joins;
  whole = All-append _ ps qs c.whole d.whole;
}

-- more bytes come
cut_longer : {b : List ℕ} {ps : List (List ℕ)} {r : List ℕ} (more : List ℕ) → Cut b ps r
    → Cut (b ++ more) ps (r ++ more)
cut_longer {b} {ps} {r} more c = record {
  joins = sym (append_assoc (flat_map (λ p. p) ps) r more) ∙ ap (λ x. x ++ more) c.joins;
  whole = c.whole;
}

cut_one : {r : List ℕ} (p : List ℕ) {t : List ℕ} → Front r p t → Cut r (p ∷ []) t
cut_one {r} p {t} f = record { joins = ap (λ x. x ++ t) (append-nil p) ∙ f.joins; whole = (f.whole, tt) }

-- the rest by how many bytes come before it
cut_rest : {b : List ℕ} {ps : List (List ℕ)} {r : List ℕ} → Cut b ps r
    → (length r ≤ length b) × (drop (length b - length r) b ≡ r)
cut_rest {b} {ps} {r} c =
    let front = flat_map (λ p. p) ps in
    let size : length front + length r ≡ length b = sym (length-append front r) ∙ ap length c.joins in (
      omega arith,
      ap (drop (length b - length r)) (sym c.joins) ∙ drop_at front r (length b - length r) (omega arith),
    )

after_append : (s : Option ℕ) (ps qs : List (List ℕ))
    → second_after_all s (ps ++ qs) ≡ second_after_all (second_after_all s ps) qs
after_append s [] qs = refl
after_append s (p ∷ ps) qs = after_append (second_after s (packet_of p)) ps qs

lines-append : (s : Option ℕ) (ps qs : List (List ℕ))
    → lines s (ps ++ qs) ≡ lines s ps ++ lines (second_after_all s ps) qs
lines-append s [] qs = refl
lines-append s (p ∷ ps) qs =
    ap (λ t. line_of s p ++ t) (lines-append (second_after s (packet_of p)) ps qs)
    ∙ sym (append_assoc (line_of s p) _ _)

pub shown_none : (b : List ℕ) (s : Option ℕ) (t : List ℕ) → Shown b s t b s t
shown_none b s t =
    record { packets = []; cut = record { joins = refl; whole = tt }; second = refl; lined = sym (append-nil t) }

pub shown-more : {b : List ℕ} {s : Option ℕ} {t r : List ℕ} {s₁ : Option ℕ} {t₁ : List ℕ} (p r₁ : List ℕ)
    {s₂ : Option ℕ} {t₂ : List ℕ} → Front r p r₁ → Shown b s t r s₁ t₁ → s₂ ≡ second_after s₁ (packet_of p)
    → t₂ ≡ t₁ ++ line_of s₁ p → Shown b s t r₁ s₂ t₂
shown-more {b} {s} {t} {r} {s₁} {t₁} p r₁ {s₂} {t₂} f h es et = record {
  packets = h.packets ++ p ∷ [];
  cut = cut_then h.cut (cut_one p f);
  second = es ∙ ap (λ x. second_after x (packet_of p)) h.second ∙ sym (after_append s h.packets (p ∷ []));
  lined = et
      ∙ ap (λ x. x ++ line_of s₁ p) h.lined
      ∙ append_assoc t (lines s h.packets) (line_of s₁ p)
      ∙ ap (λ x. t ++ (lines s h.packets ++ x))
      (ap (λ x. line_of x p) h.second ∙ sym (append-nil (line_of (second_after_all s h.packets) p)))
      ∙ ap (λ x. t ++ x) (sym (lines-append s h.packets (p ∷ [])));
}

-- by how many bytes come before the rest
pub shown_whole : {b : List ℕ} {s : Option ℕ} {t r : List ℕ} {s₁ : Option ℕ} {t₁ : List ℕ} → Shown b s t r s₁ t₁ → Short r
    → ShownWhole b s t (length b - length r) s₁ t₁
shown_whole {b} {s} {t} {r} {s₁} {t₁} h short =
    let k = cut_rest h.cut in
    record {
      shown = subst (λ x. Shown b s t x s₁ t₁) (sym k.1) h;
      within = omega arith;
      short = subst Short (sym k.1) short;
    }

-- what has been shown of all bytes, once some more have come
pub goes_on : (s : Stream) (bytes t all : List ℕ) (n : ℕ) (s' : Stream) (t' : List ℕ)
    → all ≡ vec_items s.pending ++ bytes → ShownWhole all s.second.0 t n s'.second.0 t'
    → vec_items s'.pending ≡ drop n all → GoesOn s bytes t s' t'
goes_on s bytes t all n s' t' is w e seen before h =
    let qs = w.shown.packets in (
      lines s.second.0 qs,
      w.shown.lined,
      record {
        packets = h.packets ++ qs;
        cut = subst (Cut (seen ++ bytes) (h.packets ++ qs)) (sym e)
            (cut_then (cut_longer bytes h.cut) (subst (λ x. Cut x qs (drop n all)) is w.shown.cut));
        short = subst Short (sym e) w.short;
        second = w.shown.second
            ∙ ap (λ x. second_after_all x qs) h.second
            ∙ sym (after_append None h.packets qs);
        lined = ap (λ x. x ++ lines s.second.0 qs) h.lined
            ∙ ap (λ x. lines None h.packets ++ lines x qs) h.second
            ∙ sym (lines-append None h.packets qs);
      },
    )
