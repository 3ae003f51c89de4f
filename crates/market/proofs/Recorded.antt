-- What a store's answer says of the record at a place.
use Rattle.std.proofs.Common.{◌≡◌, ℕ, List, Some, None, Ok, Err, Option, Result, unwrap_or, refl}
use Rattle.std.specs.Option.{ok_or}
use Rattle.std.specs.List.{slice_get}
use Rattle.store.specs.Records.{read_answer}
use Rattle.store.specs.declared.record.Record.{Record}
use Rattle.store.specs.declared.record.Refusal.{Refusal}
use Rattle.market.specs.Changes.{no_record, record_at}

abbrev pub or_default : Result Record Refusal → Record
or_default (Ok x) = x
or_default (Err e) = no_record

ok_value : (o : Option Record) (e : Refusal) → or_default (ok_or o e) ≡ unwrap_or o no_record
ok_value None e = refl
ok_value (Some x) e = refl

pub read_value : (xs : List Record) (k : ℕ) → or_default (read_answer xs k) ≡ record_at k xs
read_value xs k = ok_value (slice_get xs k) _
