-- Every byte of a line is printable.
use Rattle.std.proofs.Common.{◌≡◌, ℕ, zero, suc, ◌/◌, ◌%◌, true, false, ◌&&◌, eqb, leb, List, [], ◌∷◌, ◌++◌, ℤ, pos, negsuc, replicate, take, drop, Some, None, codes, decimal, Option, sym, refl, ap, ◌∙◌, arith}
use Rattle.std.specs.Fmt.{digit_glyph, digits_onto}
use Rattle.std.proofs.DigitsParse.{digits_onto-nil}
use Rattle.std.proofs.lemmas.List.Folds.{list_all-append}
use Rattle.std.proofs.lemmas.Bool.{and_from, cond_both}
use Rattle.std.proofs.lemmas.Bool.Decides.{nat_tests}
use Rattle.fields.specs.declared.letters.Event.{Event}
use Rattle.fields.specs.declared.letters.Event.TheVariants as event
use Rattle.fields.specs.declared.letters.BookState.{BookState}
use Rattle.fields.specs.declared.letters.BookState.TheVariants as state
use Rattle.itch.specs.declared.feed.FeedMessage.{FeedMessage}
use Rattle.itch.specs.declared.feed.FeedMessage.TheVariants as message
use Rattle.itch.specs.declared.mark.Mark.{Mark}
use Rattle.itch.specs.declared.mark.Mark.TheVariants as mark
use Rattle.ouch.specs.declared.letters.DayEvent.{DayEvent}
use Rattle.ouch.specs.declared.letters.DayEvent.TheVariants as day_event
use Rattle.ouch.specs.declared.letters.OrderState.{OrderState}
use Rattle.ouch.specs.declared.letters.OrderState.TheVariants as order_state
use Rattle.ouch.specs.declared.letters.Liquidity.{Liquidity}
use Rattle.ouch.specs.declared.letters.Liquidity.TheVariants as liquidity
use Rattle.ouch.specs.declared.letters.CancelReason.{CancelReason}
use Rattle.ouch.specs.declared.letters.CancelReason.TheVariants as cancel
use Rattle.ouch.specs.declared.letters.RejectReason.{RejectReason}
use Rattle.ouch.specs.declared.letters.RejectReason.TheVariants as reject
use Rattle.ouch.specs.declared.reply.Reply.{Reply}
use Rattle.ouch.specs.declared.reply.Reply.TheVariants as told
use Rattle.std.specs.List.{flat_map}
use Rattle.readable.specs.Hex.{hex_digit, hex_byte}
use Rattle.readable.specs.PacketLines.{one_line, feed_line, OneLine}
use Rattle.readable.specs.ReplyLines.{reply_line}
use Rattle.readable.specs.Packets.{feed, reply, fault, unknown}
use Rattle.readable.specs.Rates.{percent}
use Rattle.readable.specs.Spelling.{printable, spelt, spelling}
use Rattle.readable.specs.Times.{second_text}
use Rattle.readable.specs.Words.{side_word, event_word, state_word, day_event_word, order_state_word, liquidity_word, cancel_word, reject_word}
use Rattle.readable.proofs.HexRead.{digit_seen}

glyph_one : (n : ℕ) → (leb 32 (digit_glyph false (n % 10)) && leb (digit_glyph false (n % 10)) 126) ≡ true
glyph_one n = grind (arith, nat_tests)

spelled_one : (k n : ℕ) (acc : List ℕ) → one_line acc ≡ true → one_line (digits_onto k 10 false n acc) ≡ true
spelled_one zero n acc h = h
spelled_one (suc k) n acc h =
    let g : one_line (digit_glyph false (n % 10) ∷ acc) ≡ true = and_from _ _ (glyph_one n) h in
    cond_both (eqb (n / 10) 0) _ _ (λ x. one_line x ≡ true) (λ e. g)
    (λ e. spelled_one k (n / 10) (digit_glyph false (n % 10) ∷ acc) g)

decimal_one : (n : ℕ) → one_line (decimal n) ≡ true
decimal_one n = ap one_line (sym (digits_onto-nil 10 false n)) ∙ spelled_one 64 n [] refl

zeros_one : (k : ℕ) → one_line (replicate k 48) ≡ true
zeros_one zero = refl
zeros_one (suc k) = zeros_one k

second_one : (s : Option ℕ) → one_line (second_text s) ≡ true
second_one None = refl
second_one (Some s) = simp (list_all-append, zeros_one, decimal_one)

percent_one : (z : ℤ) → one_line (percent z) ≡ true
percent_one (pos n) = simp (list_all-append, zeros_one, decimal_one)
percent_one (negsuc n) = simp (list_all-append, zeros_one, decimal_one)

digit_one : (n : ℕ) → (leb 32 (hex_digit n) && leb (hex_digit n) 126) ≡ true
digit_one n = let h = digit_seen n in grind (arith, nat_tests)

hex_one : (b : ℕ) → one_line (hex_byte b) ≡ true
hex_one b = simp (digit_one (b / 16), digit_one b)

spelt_one : (b : ℕ) → one_line (spelt b) ≡ true
spelt_one b =
    cond_both (printable b) (b ∷ []) (codes "\\x" ++ hex_byte b) (λ x. one_line x ≡ true)
    (λ e. grind (arith, nat_tests))
    (λ e. hex_one b)

each_one : (f : ℕ → List ℕ) → ((b : ℕ) → one_line (f b) ≡ true) → (bs : List ℕ) → one_line (flat_map f bs) ≡ true
each_one f one [] = refl
each_one f one (b ∷ bs) = list_all-append _ (f b) (flat_map f bs) ∙ and_from _ _ (one b) (each_one f one bs)

spelling_one : (bs : List ℕ) → one_line (spelling bs) ≡ true
spelling_one = each_one spelt spelt_one

side_one : (m : Mark) → one_line (side_word m) ≡ true
side_one mark.Buy = refl
side_one mark.Sell = refl
side_one mark.Blank = refl

event_one : (e : Event) → one_line (event_word e) ≡ true
event_one event.StartOfMessages = refl
event_one event.StartOfSystemHours = refl
event_one event.StartOfMarketHours = refl
event_one event.EndOfMarketHours = refl
event_one event.EndOfSystemHours = refl
event_one event.EndOfMessages = refl

state_one : (s : BookState) → one_line (state_word s) ≡ true
state_one state.Trading = refl
state_one state.Suspended = refl

day_event_one : (k : DayEvent) → one_line (day_event_word k) ≡ true
day_event_one day_event.StartOfDay = refl
day_event_one day_event.EndOfDay = refl

order_state_one : (k : OrderState) → one_line (order_state_word k) ≡ true
order_state_one order_state.Live = refl
order_state_one order_state.Dead = refl

liquidity_one : (k : Liquidity) → one_line (liquidity_word k) ≡ true
liquidity_one liquidity.Added = refl
liquidity_one liquidity.Removed = refl

cancel_one : (k : CancelReason) → one_line (cancel_word k) ≡ true
cancel_one cancel.User = refl
cancel_one cancel.LoggedOff = refl
cancel_one cancel.Immediate = refl
cancel_one cancel.NotNow = refl
cancel_one cancel.OrderType = refl
cancel_one cancel.Display = refl
cancel_one cancel.Price = refl
cancel_one cancel.Quantity = refl
cancel_one cancel.Minimum = refl

reject_one : (k : RejectReason) → one_line (reject_word k) ≡ true
reject_one reject.NotNow = refl
reject_one reject.Book = refl
reject_one reject.Halted = refl
reject_one reject.Firm = refl
reject_one reject.Other = refl
reject_one reject.Margin = refl
reject_one reject.OrderType = refl
reject_one reject.Display = refl
reject_one reject.Price = refl
reject_one reject.Quantity = refl
reject_one reject.Minimum = refl

feed_one : (s : Option ℕ) (m : FeedMessage) → one_line (feed_line s m) ≡ true
feed_one s (message.Seconds m) = simp (list_all-append, zeros_one, decimal_one)
feed_one s (message.Event m) = simp (list_all-append, zeros_one, decimal_one, second_one, spelling_one, event_one)
feed_one s (message.Tick m) = simp (list_all-append, zeros_one, decimal_one, second_one, percent_one)
feed_one s (message.Directory m) = simp (list_all-append, zeros_one, decimal_one, second_one, spelling_one, percent_one)
feed_one s (message.State m) = simp (list_all-append, zeros_one, decimal_one, second_one, spelling_one, state_one)
feed_one s (message.Added m) = simp (list_all-append, zeros_one, decimal_one, second_one, spelling_one, percent_one, side_one)
feed_one s (message.Executed m) = simp (list_all-append, zeros_one, decimal_one, second_one)
feed_one s (message.Deleted m) = simp (list_all-append, zeros_one, decimal_one, second_one)
feed_one s (message.Replaced m) = simp (list_all-append, zeros_one, decimal_one, second_one, percent_one)
feed_one s (message.EndOfSnapshot m) = simp (list_all-append, decimal_one, second_one)

reply_one : (m : Reply) → one_line (reply_line m) ≡ true
reply_one (told.SystemEvent m) = simp (list_all-append, zeros_one, decimal_one, day_event_one)
reply_one (told.Accepted m) =
    simp (list_all-append, zeros_one, decimal_one, spelling_one, percent_one, side_one, order_state_one)
reply_one (told.Replaced m) =
    simp (list_all-append, zeros_one, decimal_one, spelling_one, percent_one, side_one, order_state_one)
reply_one (told.Canceled m) = simp (list_all-append, zeros_one, decimal_one, cancel_one)
reply_one (told.Executed m) = simp (list_all-append, zeros_one, decimal_one, spelling_one, percent_one, liquidity_one)
reply_one (told.Rejected m) = simp (list_all-append, zeros_one, decimal_one, reject_one)

pub one_line_lem : OneLine
one_line_lem s (feed m) = feed_one s m
one_line_lem s (reply account m) = simp (list_all-append, decimal_one, reply_one)
one_line_lem s (fault t) = spelling_one t
one_line_lem s (unknown p) =
    simp list_all-append (and_from _ _ (each_one hex_byte hex_one (take 2 p)) (each_one (λ b. codes " " ++ hex_byte b) hex_one (drop 2 p)))
