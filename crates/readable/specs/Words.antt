-- Words for what messages say by a letter.
use Rattle.std.specs.Prelude.{ℕ, List, codes}
use Rattle.fields.specs.declared.letters.Event.{Event}
use Rattle.fields.specs.declared.letters.Event.TheVariants as event
use Rattle.fields.specs.declared.letters.BookState.{BookState}
use Rattle.fields.specs.declared.letters.BookState.TheVariants as state
use Rattle.itch.specs.declared.mark.Mark.{Mark}
use Rattle.itch.specs.declared.mark.Mark.TheVariants as mark
use Rattle.ouch.specs.declared.letters.DayEvent.{DayEvent}
use Rattle.ouch.specs.declared.letters.DayEvent.TheVariants as day_event
use Rattle.ouch.specs.declared.letters.OrderState.{OrderState}
use Rattle.ouch.specs.declared.letters.OrderState.TheVariants as order_state
use Rattle.ouch.specs.declared.letters.Liquidity.{Liquidity}
use Rattle.ouch.specs.declared.letters.Liquidity.TheVariants as liquidity
use Rattle.ouch.specs.declared.letters.CancelReason.{CancelReason}
use Rattle.ouch.specs.declared.letters.CancelReason.TheVariants as cancel
use Rattle.ouch.specs.declared.letters.RejectReason.{RejectReason}
use Rattle.ouch.specs.declared.letters.RejectReason.TheVariants as reject

abbrev pub side_word : Mark → List ℕ
side_word mark.Buy = codes "buy"
side_word mark.Sell = codes "sell"
side_word mark.Blank = codes "none"

abbrev pub event_word : Event → List ℕ
event_word event.StartOfMessages = codes "start-of-messages"
event_word event.StartOfSystemHours = codes "start-of-system-hours"
event_word event.StartOfMarketHours = codes "start-of-market-hours"
event_word event.EndOfMarketHours = codes "end-of-market-hours"
event_word event.EndOfSystemHours = codes "end-of-system-hours"
event_word event.EndOfMessages = codes "end-of-messages"

abbrev pub state_word : BookState → List ℕ
state_word state.Trading = codes "trading"
state_word state.Suspended = codes "suspended"

abbrev pub day_event_word : DayEvent → List ℕ
day_event_word day_event.StartOfDay = codes "start-of-day"
day_event_word day_event.EndOfDay = codes "end-of-day"

-- the states of orders and the reasons of replies by letter and word
abbrev pub order_state_word : OrderState → List ℕ
order_state_word order_state.Live = codes "L:live"
order_state_word order_state.Dead = codes "D:dead"

abbrev pub liquidity_word : Liquidity → List ℕ
liquidity_word liquidity.Added = codes "added"
liquidity_word liquidity.Removed = codes "removed"

abbrev pub cancel_word : CancelReason → List ℕ
cancel_word cancel.User = codes "U:user"
cancel_word cancel.LoggedOff = codes "L:logged-off"
cancel_word cancel.Immediate = codes "I:immediate"
cancel_word cancel.NotNow = codes "R:not-now"
cancel_word cancel.OrderType = codes "Y:time-in-force"
cancel_word cancel.Display = codes "D:display"
cancel_word cancel.Price = codes "X:yield"
cancel_word cancel.Quantity = codes "Z:quantity"
cancel_word cancel.Minimum = codes "N:minimum"

abbrev pub reject_word : RejectReason → List ℕ
reject_word reject.NotNow = codes "R:not-now"
reject_word reject.Book = codes "S:book"
reject_word reject.Halted = codes "H:halted"
reject_word reject.Firm = codes "L:firm"
reject_word reject.Other = codes "O:other"
reject_word reject.Margin = codes "G:margin"
reject_word reject.OrderType = codes "Y:time-in-force"
reject_word reject.Display = codes "D:display"
reject_word reject.Price = codes "X:yield"
reject_word reject.Quantity = codes "Z:quantity"
reject_word reject.Minimum = codes "N:minimum"
