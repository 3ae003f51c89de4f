-- The line of a reply: its letter, its time and its fields by name, as words with a space between.
use Rattle.std.specs.Prelude.{ℕ, List, [], ◌∷◌, ℤ, codes, decimal}
use Rattle.fields.specs.declared.letters.Side.{Side}
use Rattle.itch.specs.Mark.{side_mark}
use Rattle.ouch.specs.declared.replies.SystemEvent.{SystemEvent}
use Rattle.ouch.specs.declared.replies.Accepted.{Accepted}
use Rattle.ouch.specs.declared.replies.Replaced.{Replaced}
use Rattle.ouch.specs.declared.replies.Canceled.{Canceled}
use Rattle.ouch.specs.declared.replies.Executed.{Executed}
use Rattle.ouch.specs.declared.replies.Rejected.{Rejected}
use Rattle.ouch.specs.declared.reply.Reply.{Reply}
use Rattle.ouch.specs.declared.reply.Reply.TheVariants as reply
use Rattle.readable.specs.Lines.{words, named, book_text}
use Rattle.readable.specs.Rates.{percent}
use Rattle.readable.specs.Spelling.{field_text}
use Rattle.readable.specs.Times.{time_text}
use Rattle.readable.specs.Words.{side_word, day_event_word, order_state_word, liquidity_word, cancel_word, reject_word}

-- a letter as it came: nothing where it is a space
abbrev pub letter_text : ℕ → List ℕ
letter_text b = field_text (b ∷ [])

-- what an order offers, in which book and at which yield
abbrev pub offer_text : Side → ℕ → ℕ → List ℕ → ℤ → List ℕ
offer_text side quantity code group price =
    words (
    named "side" (side_word (side_mark side))
    ∷ named "quantity" (decimal quantity)
    ∷ book_text code group
    ∷ named "yield" (percent price)
    ∷ []
    )

-- an accepted order's instructions
abbrev pub instructions_text : Accepted → List ℕ
instructions_text m =
    words (
    named "force" (decimal m.force)
    ∷ named "firm" (decimal m.firm)
    ∷ named "display" (letter_text m.display)
    ∷ named "capacity" (letter_text m.capacity)
    ∷ []
    )

-- what it is accepted as
abbrev pub standing_text : Accepted → List ℕ
standing_text m =
    words (
    named "order" (decimal m.number)
    ∷ named "minimum" (decimal m.minimum)
    ∷ named "state" (order_state_word m.state)
    ∷ named "classification" (letter_text m.classification)
    ∷ named "margin" (letter_text m.margin)
    ∷ []
    )

-- what an order that replaced another is now
abbrev pub replacement_text : Replaced → List ℕ
replacement_text m =
    words (
    named "force" (decimal m.force)
    ∷ named "display" (letter_text m.display)
    ∷ named "order" (decimal m.number)
    ∷ named "minimum" (decimal m.minimum)
    ∷ named "state" (order_state_word m.state)
    ∷ named "previous" (decimal m.previous)
    ∷ []
    )

-- an execution: at which yield, and with whom
abbrev pub deal_text : Executed → List ℕ
deal_text m =
    words (
    named "yield" (percent m.price)
    ∷ named "liquidity" (liquidity_word m.liquidity)
    ∷ named "counterparty" (field_text m.counterparty)
    ∷ named "match" (decimal m.matched)
    ∷ []
    )

abbrev pub day_line : SystemEvent → List ℕ
day_line m = words (codes "S" ∷ time_text m.time ∷ named "event" (day_event_word m.event) ∷ [])

abbrev pub accepted_line : Accepted → List ℕ
accepted_line m =
    words (
    codes "A"
    ∷ time_text m.time
    ∷ named "token" (decimal m.token)
    ∷ named "reference" (field_text m.reference)
    ∷ offer_text m.side m.quantity m.code m.group m.price
    ∷ instructions_text m
    ∷ standing_text m
    ∷ []
    )

abbrev pub replaced_line : Replaced → List ℕ
replaced_line m =
    words (
    codes "U"
    ∷ time_text m.time
    ∷ named "token" (decimal m.token)
    ∷ offer_text m.side m.quantity m.code m.group m.price
    ∷ replacement_text m
    ∷ []
    )

abbrev pub canceled_line : Canceled → List ℕ
canceled_line m =
    words (
    codes "C"
    ∷ time_text m.time
    ∷ named "token" (decimal m.token)
    ∷ named "quantity" (decimal m.quantity)
    ∷ named "reason" (cancel_word m.reason)
    ∷ []
    )

abbrev pub executed_line : Executed → List ℕ
executed_line m =
    words (
    codes "e"
    ∷ time_text m.time
    ∷ named "token" (decimal m.token)
    ∷ named "quantity" (decimal m.quantity)
    ∷ deal_text m
    ∷ []
    )

abbrev pub rejected_line : Rejected → List ℕ
rejected_line m =
    words (
    codes "J"
    ∷ time_text m.time
    ∷ named "token" (decimal m.token)
    ∷ named "reason" (reject_word m.reason)
    ∷ []
    )

abbrev pub reply_line : Reply → List ℕ
reply_line (reply.SystemEvent m) = day_line m
reply_line (reply.Accepted m) = accepted_line m
reply_line (reply.Replaced m) = replaced_line m
reply_line (reply.Canceled m) = canceled_line m
reply_line (reply.Executed m) = executed_line m
reply_line (reply.Rejected m) = rejected_line m
