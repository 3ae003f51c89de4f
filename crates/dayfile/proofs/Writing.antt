-- What a record asks is read back from its bytes, and only from them.
use Rattle.std.proofs.Common.{◌≡◌, ℕ, ◌+◌, ◌^◌, ◌<◌, ◌≤◌, List, ◌∷◌, ◌++◌, length, get_or, take, drop, Some, None, Ok, Option, sym, refl, ap, ◌∙◌, ap₂, arith, length-append, length-drop, length-take}
use Rattle.std.specs.Int.Digits.{number_from_digits, AllBelowBase}
use Rattle.std.proofs.ByRecursion.{All-take, All-drop}
use Rattle.std.proofs.lemmas.List.{take_at, take-append-drop, drop_more, drop-drop}
use Rattle.std.proofs.lemmas.Bool.Decides.{nat_tests}
use Rattle.fields.specs.Be.{be}
use Rattle.fields.specs.Layout.{Row, Fits, write, read_at, apply}
use Rattle.fields.proofs.Be.{length-be, number-be, be-number}
use Rattle.fields.proofs.Rows.{read_write, write_read, letter_back}
use Rattle.dayfile.specs.Records.{tag_byte, tags, tag_of, kinds, command_of, value_length, stated, value_read, wanted, record_read}
use Rattle.dayfile.specs.Framing.{tag_for, values, record_bytes, RecordsSound}
use Rattle.dayfile.specs.declared.command.Command.{Command}
use Rattle.dayfile.specs.declared.command.Command.TheVariants as command
use Rattle.dayfile.specs.declared.command.Tag.{Tag}
use Rattle.dayfile.specs.declared.command.Tag.TheVariants as tag
use Rattle.dayfile.specs.FramingLemmas.{cut, same_stated, same_value, same_tag, wants, reads}

-- ---- of each kind

tag_there : (t : Tag) → tag_of (tag_byte t) ≡ Some t
tag_there tag.Row = refl
tag_there tag.Book = refl
tag_there tag.Account = refl
tag_there tag.Begin = refl
tag_there tag.Event = refl
tag_there tag.State = refl
tag_there tag.Reference = refl
tag_there tag.Drop = refl

command_there : (c : Command) → apply (kinds (tag_for c)) (command_of (tag_for c)) (values c) ≡ c
command_there (command.Row r) = refl
command_there (command.Book l) = refl
command_there (command.Account name) = refl
command_there (command.Begin time) = refl
command_there (command.Event time letter) = refl
command_there (command.State time code letter) = refl
command_there (command.Reference time code rate) = refl
command_there (command.Drop time account) = refl

value_length_lem : (c : Command) → Fits (kinds (tag_for c)) (values c) → length (write (kinds (tag_for c)) (values c)) ≡ value_length (tag_for c)
value_length_lem (command.Row r) h = simp (length-append, length-be)
value_length_lem (command.Book l) h = simp (length-append, length-be) (omega (arith, h.1.0))
value_length_lem (command.Account name) h = simp length-append (omega (arith, h.0))
value_length_lem (command.Begin time) h = simp (length-append, length-be)
value_length_lem (command.Event time letter) h = simp (length-append, length-be)
value_length_lem (command.State time code letter) h = simp (length-append, length-be)
value_length_lem (command.Reference time code rate) h = simp (length-append, length-be)
value_length_lem (command.Drop time account) h = simp (length-append, length-be)

short_value : (t : Tag) → value_length t < 256 ^ 2
short_value tag.Row = omega arith
short_value tag.Book = omega arith
short_value tag.Account = omega arith
short_value tag.Begin = omega arith
short_value tag.Event = omega arith
short_value tag.State = omega arith
short_value tag.Reference = omega arith
short_value tag.Drop = omega arith

abbrev laid : (t : Tag) → Row (kinds t) → List ℕ
laid t r = tag_byte t ∷ (be 2 (value_length t) ++ write (kinds t) r)

bytes_of : (t : Tag) (r : Row (kinds t)) → record_bytes (apply (kinds t) (command_of t) r) ≡ laid t r
bytes_of tag.Row r = refl
bytes_of tag.Book r = refl
bytes_of tag.Account r = refl
bytes_of tag.Begin r = refl
bytes_of tag.Event r = refl
bytes_of tag.State r = refl
bytes_of tag.Reference r = refl
bytes_of tag.Drop r = refl

-- ---- of any kind

full : (t : Tag) (b : List ℕ) → stated b ≡ value_length t → 3 + value_length t ≤ length b → reads (Some t) b ≡ Ok (value_read t b)
full t b s l = grind (arith, nat_tests)

returned : (c : Command) → Fits (kinds (tag_for c)) (values c) → record_read (record_bytes c) ≡ Ok c
unfolding record_read
returned c h =
    let t = tag_for c in
    let n = value_length t in
    let w = write (kinds t) (values c) in
    let l : length (record_bytes c) ≡ 3 + n = simp (length-append, length-be) (omega (arith, value_length_lem c h)) in
    let s : stated (record_bytes c) ≡ n = ap (number_from_digits 256) (take_at (be 2 n) w 2 (length-be 2 n)) ∙ number-be 2 n (short_value t) in
    let v : read_at (kinds t) 3 (record_bytes c) ≡ values c =
    read_write (kinds t) (values c) h (tag_byte t ∷ be 2 n) 3 (simp length-be) in
    ap (λ o. reads o (record_bytes c)) (tag_there t) ∙ full t (record_bytes c) s (omega arith)
    ∙ ap (λ r. Ok (apply (kinds t) (command_of t) r)) v ∙ ap Ok (command_there c)

-- how a record is that was read
record Full (o : Option Tag) (b : List ℕ) (c : Command) : Type 0 where
  kind : Tag
  tagged : o ≡ Some kind
  right : stated b ≡ value_length kind
  there : 3 + value_length kind ≤ length b
  value : value_read kind b ≡ c
  length_is : wants o b ≡ 3 + value_length kind

was_full : (o : Option Tag) (b : List ℕ) (c : Command) → reads o b ≡ Ok c → Full o b c
was_full None b c e = let z : ◌≡◌ {A = ℕ} 0 1 = grind (arith, nat_tests) in absurd (omega arith)
was_full (Some t) b c e = record {
  kind = t;
  tagged = refl;
  right = grind (arith, nat_tests);
  there = grind (arith, nat_tests);
  value = grind (arith, nat_tests);
  length_is = grind (arith, nat_tests);
}

exact : (t : Tag) (b : List ℕ) → AllBelowBase 256 b → tag_of (get_or b 0 0) ≡ Some t → stated b ≡ value_length t
    → length b ≡ 3 + value_length t → record_bytes (value_read t b) ≡ b
exact t b u e s l =
    let n : length (take 2 (drop 1 b)) ≡ 2 = simp (length-take, length-drop) (omega arith) in
    let v : AllBelowBase 256 (take 2 (drop 1 b)) = All-take (λ d. d < 256) 2 (drop 1 b) (All-drop (λ d. d < 256) 1 b u) in
    bytes_of t (read_at (kinds t) 3 b)
    ∙ ap₂ (λ x y. x ∷ y) (letter_back tag_byte tags (get_or b 0 0) t e)
    (ap₂ (λ x y. x ++ y) (ap (be 2) (sym s) ∙ be-number 2 (take 2 (drop 1 b)) n v)
    (write_read (kinds t) b 3 (sym l) u ∙ sym (drop-drop 2 1 b))
    ∙ take-append-drop 2 (drop 1 b))
    ∙ sym (drop_more b 0 0 (omega arith))

kept : (b : List ℕ) (c : Command) → AllBelowBase 256 b → record_read b ≡ Ok c → record_bytes c ≡ take (wanted b) b
unfolding record_read wanted
kept b c u e =
    let f = was_full (tag_of (get_or b 0 0)) b c e in
    let w : wanted b ≡ 3 + value_length f.kind = f.length_is in
    let d = take (wanted b) b in
    let a = cut (wanted b) b (omega (arith, f.there)) in
    ap record_bytes (sym f.value ∙ sym (same_value f.kind (wanted b) b d a (omega arith)))
    ∙ exact f.kind d (All-take (λ x. x < 256) (wanted b) b u)
    (same_tag (wanted b) b d a (omega arith) ∙ f.tagged)
    (same_stated (wanted b) b d a (omega arith) ∙ f.right)
    (length-take (wanted b) b ∙ omega (arith, f.there))

pub records_sound : RecordsSound
records_sound = record {
  row_length = refl;
  book_length = refl;
  account_length = refl;
  begin_length = refl;
  event_length = refl;
  state_length = refl;
  reference_length = refl;
  drop_length = refl;
  returns = returned;
  keeps = kept;
}
