-- The line of a message: its letter, its time and its fields by name, as words with a space between.
use Rattle.std.specs.Prelude.{ℕ, List, [], ◌∷◌, ◌++◌, Some, codes, decimal, Option}
use Prim.Native.String.{String}
use Rattle.itch.specs.declared.messages.Seconds.{Seconds}
use Rattle.itch.specs.declared.messages.SystemEvent.{SystemEvent}
use Rattle.itch.specs.declared.messages.TickSize.{TickSize}
use Rattle.itch.specs.declared.messages.Directory.{Directory}
use Rattle.itch.specs.declared.messages.TradingState.{TradingState}
use Rattle.itch.specs.declared.messages.OrderAdded.{OrderAdded}
use Rattle.itch.specs.declared.messages.OrderExecuted.{OrderExecuted}
use Rattle.itch.specs.declared.messages.OrderDeleted.{OrderDeleted}
use Rattle.itch.specs.declared.messages.OrderReplaced.{OrderReplaced}
use Rattle.itch.specs.declared.messages.EndOfSnapshot.{EndOfSnapshot}
use Rattle.readable.specs.Rates.{thousandths, percent}
use Rattle.readable.specs.Spelling.{field_text}
use Rattle.readable.specs.Times.{second_text, moment_text}
use Rattle.readable.specs.Words.{side_word, event_word, state_word}

abbrev pub words : List (List ℕ) → List ℕ
words [] = []
words (w ∷ []) = w
words (w ∷ v ∷ vs) = w ++ (codes " " ++ words (v ∷ vs))

abbrev pub named : String → List ℕ → List ℕ
named name value = codes name ++ (codes "=" ++ value)

abbrev pub book_text : ℕ → List ℕ → List ℕ
book_text code group = words (named "code" (decimal code) ∷ named "group" (field_text group) ∷ [])

abbrev pub terms_text : Directory → List ℕ
terms_text m =
    words (
    named "lot" (decimal m.lot)
    ∷ named "table" (decimal m.table)
    ∷ named "decimals" (decimal m.decimals)
    ∷ named "upper" (percent m.upper)
    ∷ named "lower" (percent m.lower)
    ∷ []
    )

-- Where a line takes a second, it is the one told last before the message.
abbrev pub seconds_line : Seconds → List ℕ
seconds_line m = words (codes "T" ∷ second_text (Some m.seconds) ∷ named "seconds" (decimal m.seconds) ∷ [])

abbrev pub event_line : Option ℕ → SystemEvent → List ℕ
event_line s m =
    words (
    codes "S"
    ∷ moment_text s m.nanos
    ∷ named "group" (field_text m.group)
    ∷ named "event" (event_word m.event)
    ∷ []
    )

abbrev pub tick_line : Option ℕ → TickSize → List ℕ
tick_line s m =
    words (
    codes "L"
    ∷ moment_text s m.nanos
    ∷ named "table" (decimal m.table)
    ∷ named "size" (thousandths m.size)
    ∷ named "start" (percent m.start)
    ∷ []
    )

abbrev pub directory_line : Option ℕ → Directory → List ℕ
directory_line s m =
    words (
    codes "R"
    ∷ moment_text s m.nanos
    ∷ book_text m.code m.group
    ∷ named "isin" (field_text m.isin)
    ∷ terms_text m
    ∷ []
    )

abbrev pub state_line : Option ℕ → TradingState → List ℕ
state_line s m =
    words (
    codes "H"
    ∷ moment_text s m.nanos
    ∷ book_text m.code m.group
    ∷ named "state" (state_word m.state)
    ∷ []
    )

abbrev pub added_line : Option ℕ → OrderAdded → List ℕ
added_line s m =
    words (
    codes "A"
    ∷ moment_text s m.nanos
    ∷ named "order" (decimal m.number)
    ∷ named "side" (side_word m.mark)
    ∷ named "quantity" (decimal m.quantity)
    ∷ book_text m.code m.group
    ∷ named "yield" (percent m.price)
    ∷ []
    )

abbrev pub executed_line : Option ℕ → OrderExecuted → List ℕ
executed_line s m =
    words (
    codes "E"
    ∷ moment_text s m.nanos
    ∷ named "order" (decimal m.number)
    ∷ named "quantity" (decimal m.quantity)
    ∷ named "match" (decimal m.matched)
    ∷ []
    )

abbrev pub deleted_line : Option ℕ → OrderDeleted → List ℕ
deleted_line s m = words (codes "D" ∷ moment_text s m.nanos ∷ named "order" (decimal m.number) ∷ [])

abbrev pub replaced_line : Option ℕ → OrderReplaced → List ℕ
replaced_line s m =
    words (
    codes "U"
    ∷ moment_text s m.nanos
    ∷ named "original" (decimal m.original)
    ∷ named "order" (decimal m.number)
    ∷ named "quantity" (decimal m.quantity)
    ∷ named "yield" (percent m.price)
    ∷ []
    )

abbrev pub end_line : Option ℕ → EndOfSnapshot → List ℕ
end_line s m = words (codes "G" ∷ second_text s ∷ named "sequence" (decimal m.sequence) ∷ [])
