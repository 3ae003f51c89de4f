-- Bytes copied out one behind the other.
use Rattle.std.proofs.Common.{◌≡◌, ℕ, ◌-◌, min, List, [], ◌++◌, length, take, drop, ap, ◌∙◌, append-nil, arith}
use borrow.Rule.Slice.PartMut.{put_mid}
use Rattle.std.proofs.lemmas.List.{places, same_lists, length-append, length-take, length-drop, take_rest, drop_all}
use Rattle.line.specs.Meaning.{over}

length_over : (bytes old : List ℕ) → length (over bytes old) ≡ length old
length_over bytes old = simp (length-append, length-take, length-drop) (omega arith)

-- the second bytes, behind as much of the first as the buffer holds
over_both : (a b old : List ℕ) (s : ℕ) → s ≡ min (length a) (length old) → take s (over a old) ++ over b (drop s (over a old)) ≡ over (a ++ b) old
over_both a b old s is =
    same_lists _ _
    (length-append (take s (over a old)) (over b (drop s (over a old)))
    ∙ omega (arith, length-take s (over a old), length_over b (drop s (over a old)), length-drop s (over a old), length_over a old, length_over (a ++ b) old))
    (λ k d h. grind (arith, places))

-- as the code copies them: the second into what is left of the buffer behind the first
pub copied_both : (a b old mid last : List ℕ) (s : ℕ)
    → mid ≡ over a old
    → s ≡ min (length a) (length old)
    → last ≡ over b (take (length mid - s) (drop s mid))
    → put_mid s (length mid - s) mid last ≡ over (a ++ b) old
copied_both a b old mid last s first is second =
    let end : drop (length mid - s) (drop s mid) ≡ [] = drop_all (length mid - s) (drop s mid) (omega (arith, length-drop s mid)) in
    ap (λ rest. take s mid ++ (last ++ rest)) end
    ∙ ap (λ part. take s mid ++ part) (append-nil last ∙ second ∙ ap (over b) (take_rest mid s))
    ∙ ap (λ m. take s m ++ over b (drop s m)) first
    ∙ over_both a b old s is
