-- A record's bytes: how many it wants, and that what follows them does not matter.
use Rattle.std.specs.Prelude.{◌≡◌, ℕ, ◌+◌, ◌-◌, ◌<◌, ◌≤◌, cond, ◌⊎◌, List, [], ◌∷◌, ◌++◌, length, take, drop, Some, None, Err, Option, Result, ◌==◌, ◌≢◌, slice_index, refl}
use Rattle.std.proofs.Common.{sym, ap, ap₂, ◌∙◌, inl, inr, arith, length-append, length-take}
use Rattle.std.proofs.lemmas.List.{take_all, take-take, take-append-le, drop-take, get_or-take}
use Rattle.std.proofs.lemmas.Bool.{cases_lt}
use Rattle.std.proofs.lemmas.Bool.Decides.{nat_tests}
use Rattle.fields.specs.Layout.{Kind, size, sizes, get, read_at, apply, uint}
use Rattle.rules.specs.declared.fault.FileFault.{FileFault}
use Rattle.rules.specs.declared.fault.FileFault.TheVariants.{Truncated}
use Rattle.dayfile.specs.Records.{tag_of, kinds, command_of, value_length, stated, value_read, wanted_under, wanted, read_under, record_read}
use Rattle.dayfile.specs.Framing.{Framed}
use Rattle.dayfile.specs.declared.command.Command.{Command}
use Rattle.dayfile.specs.declared.command.Tag.{Tag}

-- ---- bytes of which the first n are those of another list

pub record Alike (n : ℕ) (b c : List ℕ) : Type 0 where
  pub reach : n ≤ length c
  pub front : take n c ≡ take n b

longer : (n : ℕ) (b more : List ℕ) → n ≤ length b → Alike n b (b ++ more)
longer n b more h = record { reach = simp length-append (omega arith); front = take-append-le n b more h }

pub cut : (n : ℕ) (b : List ℕ) → n ≤ length b → Alike n b (take n b)
cut n b h = record { reach = simp length-take (omega arith); front = take-take n n b (omega arith) }

field_front : (s at n : ℕ) (b : List ℕ) → at + s ≤ n → take s (drop at (take n b)) ≡ take s (drop at b)
field_front s at n b h =
    let e : n ≡ at + (n - at) = omega arith in
    ap (λ m. take s (drop at (take m b))) e ∙ ap (take s) (drop-take at (n - at) b)
    ∙ take-take s (n - at) (drop at b) (omega arith)

read_front : (ks : List Kind) (at n : ℕ) (b : List ℕ) → at + sizes ks ≤ n → read_at ks at (take n b) ≡ read_at ks at b
read_front [] at n b h = refl
read_front (k ∷ ks) at n b h =
    ap₂ (λ x y. (x, y)) (ap (get k) (field_front (size k) at n b (omega arith)))
    (read_front ks (at + size k) n b (omega arith))

same_fields : (ks : List Kind) (at n : ℕ) (b c : List ℕ) → Alike n b c → at + sizes ks ≤ n → read_at ks at c ≡ read_at ks at b
same_fields ks at n b c a h = sym (read_front ks at n c h) ∙ ap (read_at ks at) a.front ∙ read_front ks at n b h

pub same_stated : (n : ℕ) (b c : List ℕ) → Alike n b c → 3 ≤ n → stated c ≡ stated b
same_stated n b c a h = ap (λ r. r.0) (same_fields (uint 2 ∷ []) 1 n b c a (omega arith))

pub same_value : (t : Tag) (n : ℕ) (b c : List ℕ) → Alike n b c → 3 + value_length t ≤ n → value_read t c ≡ value_read t b
same_value t n b c a h = ap (apply (kinds t) (command_of t)) (same_fields (kinds t) 3 n b c a h)

pub same_tag : (n : ℕ) (b c : List ℕ) → Alike n b c → 0 < n → tag_of (slice_index c 0) ≡ tag_of (slice_index b 0)
same_tag n b c a h = ap tag_of (sym (get_or-take n c 0 0 h) ∙ ap (λ d. slice_index d 0) a.front ∙ get_or-take n b 0 0 h)

-- ---- what a record wants, and how it is read, where its first byte is known

abbrev pub wants : Option Tag → List ℕ → ℕ
wants o b = cond (length b == 0) 1 (wanted_under o b)

abbrev pub reads : Option Tag → List ℕ → Result Command FileFault
reads o b = cond (length b == 0) (Err Truncated) (read_under o b)

short : (o : Option Tag) (b : List ℕ) → length b < wants o b → reads o b ≡ Err Truncated
short None b h = grind (arith, nat_tests)
short (Some t) b h = grind (arith, nat_tests)

whole : (o : Option Tag) (b : List ℕ) → wants o b ≤ length b → reads o b ≢ Err Truncated
whole None b h = grind (arith, nat_tests)
whole (Some t) b h = grind (arith, nat_tests)

some : (o : Option Tag) (b : List ℕ) → 0 < wants o b
some None b = grind (arith, nat_tests)
some (Some t) b = grind (arith, nat_tests)

same_wants : (o : Option Tag) (b c : List ℕ) → wants o b ≤ length b → Alike (wants o b) b c → wants o c ≡ wants o b
same_wants None b c h a = let l = a.reach in grind (arith, nat_tests)
same_wants (Some t) b c h a =
    let l = a.reach in let s = same_stated (wants (Some t) b) b c a in grind (arith, nat_tests)

same_reads : (o : Option Tag) (b c : List ℕ) → wants o b ≤ length b → Alike (wants o b) b c → reads o c ≡ reads o b
same_reads None b c h a = let l = a.reach in grind (arith, nat_tests)
same_reads (Some t) b c h a =
    let l = a.reach in
    let s = same_stated (wants (Some t) b) b c a in
    let v = same_value t (wants (Some t) b) b c a in
    grind (arith, nat_tests)

grow : (o : Option Tag) (b c : List ℕ) → Alike (length b) b c → wants o b ≤ wants o c
grow None b c a = let l = a.reach in grind (arith, nat_tests)
grow (Some t) b c a = let l = a.reach in let s = same_stated (length b) b c a in grind (arith, nat_tests)

-- ---- the same of bytes

abbrev tag : List ℕ → Option Tag
tag b = tag_of (slice_index b 0)

same_record : (b c : List ℕ) → wanted b ≤ length b → Alike (wanted b) b c → (wanted c ≡ wanted b) × (record_read c ≡ record_read b)
unfolding wanted record_read
same_record b c h a =
    let e = same_tag (wanted b) b c a (some (tag b) b) in
    (ap (λ o. wants o c) e ∙ same_wants (tag b) b c h a, ap (λ o. reads o c) e ∙ same_reads (tag b) b c h a)

alone : (b : List ℕ) → (length b < wanted b) ⊎ (wanted b ≤ length b) → record_read (take (wanted b) b) ≡ record_read b
alone b (inl h) = ap record_read (take_all (wanted b) b (omega arith))
alone b (inr h) = (same_record b (take (wanted b) b) h (cut (wanted b) b h)).1

grows : (b more : List ℕ) → (length b < 1) ⊎ (1 ≤ length b) → wanted b ≤ wanted (b ++ more)
unfolding wanted
grows b more (inl h) = let s = some (tag (b ++ more)) (b ++ more) in grind (arith, nat_tests)
grows b more (inr h) =
    let a = longer (length b) b more (omega arith) in
    rw (same_tag (length b) b (b ++ more) a h) (grow (tag b) b (b ++ more) a)

pub framed : (b : List ℕ) → Framed b
unfolding wanted record_read
framed b = record {
  short = short (tag b) b;
  whole = whole (tag b) b;
  alone = alone b (cases_lt (length b) (wanted b));
  grows = λ more. grows b more (cases_lt (length b) 1);
  settled = λ more h. (same_record b (b ++ more) h (longer (wanted b) b more h)).0;
}
