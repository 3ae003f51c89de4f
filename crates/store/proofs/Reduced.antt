-- What a closure reduces that acts as a function.
use Rattle.std.proofs.Common.{◌≡◌, List, [], ◌∷◌, map, Option, Some, None, sym, refl, ap, subst, ◌∙◌}
use Rattle.std.proofs.lemmas.Iterator.{YieldsList, items_from_drains}
use Rattle.std.proofs.lemmas.List.{map-id}
use Rattle.std.specs.Fn.{Called}
use Rattle.std.specs.Iterator.{ActsAsOnTwo, FoldTurn, ReducesItems}
use Rattle.std.specs.List.{FoldsTo, fold, reduce}
use Rattle.std.specs.Option.{option_map}
use denote.Param.Members.{Mut}

module _ {F A : Type 0} (g : Mut F (A × (A × Unit {0})) A) (h : A → A → A) (f : F) (acts : ActsAsOnTwo g f h) where
  folded : (x : A) (xs : List A) (e : F) (q : F × A) → e ≡ f → FoldsTo {P = F × A} (FoldTurn g) (e, x) xs q → q.1 ≡ fold h x xs
  folded x [] e q s r = ap (λ p. p.1) (sym r)
  folded x (y ∷ ys) e q s r =
      let a = acts x y r.0.1 r.0.0 (subst (λ d. Called g d (x, (y, tt)) r.0.1 r.0.0) s r.1) in
      folded r.0.1 ys r.0.0 q a.0 r.2 ∙ ap (λ z. fold h z ys) a.1

  pub reduced : {S : Type 0} {steps : S → Option A → S → Type 0} (s : S) (all : List A) (r : Option A) → ReducesItems steps g s f r → YieldsList steps (λ x. x) s all → r ≡ reduce h all
  reduced s all None (u, (t, ys, e)) y = ap (reduce h) (items_from_drains [] (t, ys, λ _. (u, e)) y)
  reduced s all (Some z) (x, xs, c, (u, (t, ys, e)), folds) y =
      ap Some (folded x xs f (c, z) refl folds) ∙ ap (reduce h) (sym (map-id (x ∷ xs)) ∙ items_from_drains (x ∷ xs) (t, ys, λ _. (u, e)) y)

-- Reducing what f reads of each item is what f reads of the reduction.
module _ {A B : Type 0} (f : A → B) (h : A → A → A) (k : B → B → B) (same : (x y : A) → k (f x) (f y) ≡ f (h x y)) where
  folded_of_map : (x : A) (xs : List A) → fold k (f x) (map f xs) ≡ f (fold h x xs)
  folded_of_map x [] = refl
  folded_of_map x (y ∷ ys) = ap (λ z. fold k z (map f ys)) (same x y) ∙ folded_of_map (h x y) ys

  pub reduced_of_map : (xs : List A) → reduce k (map f xs) ≡ option_map f (reduce h xs)
  reduced_of_map [] = refl
  reduced_of_map (x ∷ xs) = ap Some (folded_of_map x xs)
