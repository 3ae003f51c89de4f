-- Known days: each is a list of calls with what the feed tells and what the accounts are told. Lots are 2,000, and ticks 1
-- unless a day says otherwise.
use Rattle.std.specs.Prelude.{◌≡◌, ℕ, ◌+◌, Bool, true, false, ◌&&◌, List, [], ◌∷◌, ◌++◌, map, replicate, ℤ, pos, negsuc}
use Rattle.std.specs.Str.{bytes_eq}
use Rattle.fields.specs.Letters.{side_byte}
use Rattle.fields.specs.Layout.{encode}
use Rattle.fields.specs.Texts.{blank, djgb}
use Rattle.fields.specs.declared.letters.BookState.TheVariants.{Trading}
use Rattle.fields.specs.declared.letters.Event.TheVariants as events
use Rattle.fields.specs.declared.letters.Side.{Side}
use Rattle.fields.specs.declared.letters.Side.TheVariants.{Buy, Sell}
use Rattle.itch.specs.Feed.{feed_bytes}
use Rattle.itch.specs.Mark.{side_mark}
use Rattle.itch.specs.declared.feed.FeedMessage.{FeedMessage}
use Rattle.itch.specs.declared.feed.FeedMessage.TheVariants as tells
use Rattle.itch.specs.declared.mark.Mark.TheVariants.{Blank}
use Rattle.line.specs.Meaning.{fresh}
use Rattle.ouch.specs.Inbound.{EnterOrder, enter_order, replace_order}
use Rattle.ouch.specs.Reply.{addressed}
use Rattle.ouch.specs.declared.inbound.Replace.{Replace}
use Rattle.ouch.specs.declared.letters.CancelReason.{CancelReason}
use Rattle.ouch.specs.declared.letters.CancelReason.TheVariants as cancels
use Rattle.ouch.specs.declared.letters.Liquidity.{Liquidity}
use Rattle.ouch.specs.declared.letters.Liquidity.TheVariants.{Added, Removed}
use Rattle.ouch.specs.declared.letters.OrderState.{OrderState}
use Rattle.ouch.specs.declared.letters.OrderState.TheVariants.{Live, Dead}
use Rattle.ouch.specs.declared.letters.RejectReason.{RejectReason}
use Rattle.ouch.specs.declared.letters.RejectReason.TheVariants as rejects
use Rattle.ouch.specs.declared.reply.Reply.TheVariants as reply
use Rattle.market.specs.Host.{Host}
use Rattle.law.specs.Runs.{Call, load_row, load_book, load_account, begin, message, event, snapshot, Start, added, line_before, run, start, step}

-- ---- a day: calls that open it, and then calls with what each must give

pub record Move : Type 0 where
  pub call : Call
  -- what the feed tells, what the accounts are told, and what a snapshot adds to its line
  pub feed : List FeedMessage
  pub replies : List (List ℕ)
  pub shown : List FeedMessage

pub record Known : Type 0 where
  pub opening : List Call
  pub moves : List Move

abbrev pub same_all : List (List ℕ) → List (List ℕ) → Bool
same_all [] [] = true
same_all [] (y ∷ ys) = false
same_all (x ∷ xs) [] = false
same_all (x ∷ xs) (y ∷ ys) = bytes_eq x y && same_all xs ys

-- the call adds these messages, byte for byte, and no other
abbrev pub gives : Host → Move → Bool
gives h m =
    same_all (added h.feed (step h m.call).after.feed) (map feed_bytes m.feed)
    && (same_all (added h.replies (step h m.call).after.replies) m.replies
    && same_all (added (line_before m.call) (step h m.call).line) (map feed_bytes m.shown))

abbrev pub gives_all : Host → List Move → Bool
gives_all h [] = true
gives_all h (m ∷ ms) = gives h m && gives_all (step h m.call).after ms

-- an engine over 256 records and 300 and 550 places, whose first numbers are 1
abbrev pub beginning : Start
beginning = record { capacity = 256; feed_places = 300; reply_places = 550; first_order = 1; first_match = 1 }

abbrev pub right : Known → Bool
right k = gives_all (run (start beginning) k.opening).host k.moves

abbrev pub all_right : List Known → Bool
all_right [] = true
all_right (k ∷ ks) = right k && all_right ks

-- ---- the market: one book, whose code is 101, and two accounts, 0 and 1; then a session opens

abbrev spaces : ℕ → List ℕ
spaces n = replicate n 32

abbrev isin : List ℕ
isin = 74 ∷ 80 ∷ 49 ∷ 48 ∷ 48 ∷ 48 ∷ 48 ∷ 48 ∷ 48 ∷ 49 ∷ 48 ∷ 49 ∷ []

abbrev name : ℕ → List ℕ
name account = (65 + account) ∷ spaces 11

-- the tick size, its start, and the book's lower limit
abbrev pub opening : ℕ → ℤ → ℤ → List Call
opening size begins lower =
    load_row (record { table = 1; size = size; start = begins })
    ∷ load_book (record { code = 101; isin = isin; lot = 2000; table = 1; upper = pos 2000; lower = lower; state = 84; reference = pos 700 })
    ∷ load_account (name 0)
    ∷ load_account (name 1)
    ∷ begin 0
    ∷ event 1000000000 83
    ∷ event 2000000000 81
    ∷ []

-- the time of a call is given in nanoseconds past the third second of the day, and feed messages have those of their second
abbrev time : ℕ → ℕ
time n = 3000000000 + n

-- ---- what is asked: the time, the account, and the order

abbrev pub order : ℕ → Side → ℕ → ℤ → ℕ → ℕ → EnterOrder
order token side quantity y force minimum = record {
  token = token;
  reference = spaces 10;
  side = side_byte side;
  quantity = quantity;
  code = 101;
  group = djgb;
  price = y;
  force = force;
  firm = 0;
  display = 32;
  capacity = 80;
  minimum = minimum;
  classification = 49;
  margin = 49;
}

-- for the day; and immediate, with a minimum
abbrev pub day_order : ℕ → Side → ℕ → ℤ → EnterOrder
day_order token side quantity y = order token side quantity y 99999 0

abbrev pub immediate_order : ℕ → Side → ℕ → ℤ → ℕ → EnterOrder
immediate_order token side quantity y minimum = order token side quantity y 0 minimum

abbrev pub enters : ℕ → ℕ → EnterOrder → Call
enters n account m = message (time n) account (encode enter_order m)

abbrev pub change : ℕ → ℕ → ℕ → ℤ → Replace
change existing token total y = record { existing = existing; replacement = token; quantity = total; price = y; force = 99999; display = 32; minimum = 0 }

abbrev pub replaces : ℕ → ℕ → Replace → Call
replaces n account m = message (time n) account (encode replace_order m)

-- ---- what the feed tells

abbrev pub second : ℕ → FeedMessage
second s = tells.Seconds (record { seconds = s })

abbrev pub adds : ℕ → ℕ → Side → ℕ → ℤ → FeedMessage
adds n number side quantity y = tells.Added (record { nanos = n; number = number; mark = side_mark side; quantity = quantity; code = 101; group = djgb; price = y })

abbrev pub executes : ℕ → ℕ → ℕ → ℕ → FeedMessage
executes n number quantity matched = tells.Executed (record { nanos = n; number = number; quantity = quantity; matched = matched })

abbrev pub deletes : ℕ → ℕ → FeedMessage
deletes n number = tells.Deleted (record { nanos = n; number = number })

abbrev pub renews : ℕ → ℕ → ℕ → ℕ → ℤ → FeedMessage
renews n original number quantity y = tells.Replaced (record { nanos = n; original = original; number = number; quantity = quantity; price = y })

-- a snapshot of the market with these orders, and the number of the next feed message
abbrev pub looks : ℕ → List FeedMessage → ℕ → Move
looks n orders next = record {
  call = snapshot (time n) (fresh 400 0);
  feed = [];
  replies = [];
  shown =
      second 3
      ∷ tells.Event (record { nanos = n; group = blank; event = events.StartOfMessages })
      ∷ tells.Tick (record { nanos = n; table = 1; size = 1; start = pos 0 })
      ∷ tells.Directory (record { nanos = n; code = 101; isin = isin; group = djgb; lot = 2000; table = 1; decimals = 3; upper = pos 2000; lower = pos 0 })
      ∷ tells.Added (record { nanos = n; number = 0; mark = Blank; quantity = 0; code = 101; group = djgb; price = pos 700 })
      ∷ tells.State (record { nanos = n; code = 101; group = djgb; state = Trading })
      ∷ orders ++ (tells.EndOfSnapshot (record { sequence = next }) ∷ []);
}

-- ---- what an account is told

abbrev pub accepted : ℕ → ℕ → EnterOrder → Side → ℕ → OrderState → List ℕ
accepted n account m side number lives = addressed account (reply.Accepted (record {
  time = time n;
  token = m.token;
  reference = m.reference;
  side = side;
  quantity = m.quantity;
  code = m.code;
  group = m.group;
  price = m.price;
  force = m.force;
  firm = m.firm;
  display = m.display;
  capacity = m.capacity;
  number = number;
  minimum = m.minimum;
  state = lives;
  classification = m.classification;
  margin = m.margin;
}))

abbrev pub replaced : ℕ → ℕ → Replace → Side → ℕ → ℕ → OrderState → List ℕ
replaced n account m side balance number lives = addressed account (reply.Replaced (record {
  time = time n;
  token = m.replacement;
  side = side;
  quantity = balance;
  code = 101;
  group = djgb;
  price = m.price;
  force = m.force;
  display = m.display;
  number = number;
  minimum = m.minimum;
  state = lives;
  previous = m.existing;
}))

-- with the other account's name
abbrev pub executed : ℕ → ℕ → ℕ → ℕ → ℤ → Liquidity → ℕ → ℕ → List ℕ
executed n account token quantity y part other matched = addressed account (reply.Executed (record
    { time = time n; token = token; quantity = quantity; price = y; liquidity = part; counterparty = name other; matched = matched }))

abbrev pub canceled : ℕ → ℕ → ℕ → ℕ → CancelReason → List ℕ
canceled n account token quantity reason = addressed account (reply.Canceled (record { time = time n; token = token; quantity = quantity; reason = reason }))

abbrev pub rejected : ℕ → ℕ → ℕ → RejectReason → List ℕ
rejected n account token reason = addressed account (reply.Rejected (record { time = time n; token = token; reason = reason }))

-- ---- the days

abbrev plain : List Move → Known
plain moves = record { opening = opening 1 (pos 0) (pos 0); moves = moves }

-- a day order that rests; the first of the day tells a new second
abbrev rests_first : ℕ → ℕ → ℕ → Side → ℕ → ℤ → ℕ → Move
rests_first n account token side quantity y number = record {
  call = enters n account (day_order token side quantity y);
  feed = second 3 ∷ adds n number side quantity y ∷ [];
  replies = accepted n account (day_order token side quantity y) side number Live ∷ [];
  shown = [];
}

abbrev rests : ℕ → ℕ → ℕ → Side → ℕ → ℤ → ℕ → Move
rests n account token side quantity y number = record {
  call = enters n account (day_order token side quantity y);
  feed = adds n number side quantity y ∷ [];
  replies = accepted n account (day_order token side quantity y) side number Live ∷ [];
  shown = [];
}

-- an order that gets nothing but a reason
abbrev turned_down : ℕ → ℕ → EnterOrder → RejectReason → Move
turned_down n account m reason = record { call = enters n account m; feed = []; replies = rejected n account m.token reason ∷ []; shown = [] }

-- an order that is ignored
abbrev ignored : ℕ → ℕ → EnterOrder → Move
ignored n account m = record { call = enters n account m; feed = []; replies = []; shown = [] }

-- a sell at 745 rests; a buy at 745 executes at 745
abbrev buy_at_745 : EnterOrder
buy_at_745 = day_order 1 Buy 2000 (pos 745)

abbrev pub equal_yields_meet : Known
equal_yields_meet = plain
    (rests_first 0 0 1 Sell 2000 (pos 745) 1
    ∷ record {
      call = enters 5 1 buy_at_745;
      feed = executes 5 1 2000 1 ∷ [];
      replies =
          accepted 5 1 buy_at_745 Buy 2 Live
          ∷ executed 5 1 1 2000 (pos 745) Removed 0 1
          ∷ executed 5 0 1 2000 (pos 745) Added 1 1
          ∷ [];
      shown = [];
    }
    ∷ looks 7 [] 14
    ∷ [])

-- a sell at 744 rests; a buy at 745 rests too
abbrev pub higher_buy_rests : Known
higher_buy_rests = plain
    (rests_first 0 0 1 Sell 2000 (pos 744) 1
    ∷ rests 5 1 1 Buy 2000 (pos 745) 2
    ∷ looks 9 (adds 9 1 Sell 2000 (pos 744) ∷ adds 9 2 Buy 2000 (pos 745) ∷ []) 14
    ∷ [])

-- a buy at 740 rests; a sell at 745 executes at 740
abbrev sell_at_745 : EnterOrder
sell_at_745 = day_order 3 Sell 2000 (pos 745)

abbrev pub resting_yield_rules : Known
resting_yield_rules = plain
    (rests_first 0 1 9 Buy 4000 (pos 740) 1
    ∷ record {
      call = enters 999999999 0 sell_at_745;
      feed = executes 999999999 1 2000 1 ∷ [];
      replies =
          accepted 999999999 0 sell_at_745 Sell 2 Live
          ∷ executed 999999999 0 3 2000 (pos 740) Removed 1 1
          ∷ executed 999999999 1 9 2000 (pos 740) Added 0 1
          ∷ [];
      shown = [];
    }
    ∷ [])

-- sells at 745, then 746; in the next second a buy at 740 takes 746 first, and what is left of it rests
abbrev buy_at_740 : EnterOrder
buy_at_740 = day_order 1 Buy 6000 (pos 740)

abbrev pub higher_sell_first : Known
higher_sell_first = plain
    (rests_first 0 0 1 Sell 2000 (pos 745) 1
    ∷ rests 0 0 2 Sell 2000 (pos 746) 2
    ∷ record {
      call = enters 1000000000 1 buy_at_740;
      feed = second 4 ∷ executes 0 2 2000 1 ∷ executes 0 1 2000 2 ∷ adds 0 3 Buy 2000 (pos 740) ∷ [];
      replies =
          accepted 1000000000 1 buy_at_740 Buy 3 Live
          ∷ executed 1000000000 1 1 2000 (pos 746) Removed 0 1
          ∷ executed 1000000000 0 2 2000 (pos 746) Added 1 1
          ∷ executed 1000000000 1 1 2000 (pos 745) Removed 0 2
          ∷ executed 1000000000 0 1 2000 (pos 745) Added 1 2
          ∷ [];
      shown = [];
    }
    ∷ [])

-- sells of 6,000 by account 0, then of 2,000 by account 1, both at 745; the first is replaced by a total
abbrev two_sells : ℕ → List Move → Known
two_sells total moves = plain
    (rests_first 0 0 1 Sell 6000 (pos 745) 1
    ∷ rests 1 1 1 Sell 2000 (pos 745) 2
    ∷ record {
      call = replaces 2 0 (change 1 2 total (pos 745));
      feed = renews 2 1 3 total (pos 745) ∷ [];
      replies = replaced 2 0 (change 1 2 total (pos 745)) Sell total 3 Live ∷ [];
      shown = [];
    }
    ∷ moves)

-- replaced by 4,000, or by 6,000, it stays first
abbrev buy_one : EnterOrder
buy_one = day_order 2 Buy 2000 (pos 745)

abbrev pub stays_first : ℕ → Known
stays_first total = two_sells total
    (looks 3 (adds 3 3 Sell total (pos 745) ∷ adds 3 2 Sell 2000 (pos 745) ∷ []) 15
    ∷ record {
      call = enters 4 1 buy_one;
      feed = executes 4 3 2000 1 ∷ [];
      replies =
          accepted 4 1 buy_one Buy 4 Live
          ∷ executed 4 1 2 2000 (pos 745) Removed 0 1
          ∷ executed 4 0 2 2000 (pos 745) Added 1 1
          ∷ [];
      shown = [];
    }
    ∷ [])

-- replaced by 8,000, it stands behind the other; account 0 then buys from both, itself one of them
abbrev buy_both : EnterOrder
buy_both = day_order 3 Buy 4000 (pos 745)

abbrev pub stands_behind : Known
stands_behind = two_sells 8000
    (looks 3 (adds 3 2 Sell 2000 (pos 745) ∷ adds 3 3 Sell 8000 (pos 745) ∷ []) 15
    ∷ record {
      call = enters 4 0 buy_both;
      feed = executes 4 2 2000 1 ∷ executes 4 3 2000 2 ∷ [];
      replies =
          accepted 4 0 buy_both Buy 4 Live
          ∷ executed 4 0 3 2000 (pos 745) Removed 1 1
          ∷ executed 4 1 1 2000 (pos 745) Added 0 1
          ∷ executed 4 0 3 2000 (pos 745) Removed 0 2
          ∷ executed 4 0 2 2000 (pos 745) Added 0 2
          ∷ [];
      shown = [];
    }
    ∷ [])

-- quantities 2,000 and 2,000,000 pass; 0, 1,999, 2,001 and 2,002,000 do not
abbrev pub quantities : Known
quantities = plain
    (rests_first 0 0 1 Sell 2000 (pos 745) 1
    ∷ rests 0 0 2 Sell 2000000 (pos 745) 2
    ∷ turned_down 0 0 (day_order 3 Sell 0 (pos 745)) rejects.Quantity
    ∷ turned_down 0 0 (day_order 4 Sell 1999 (pos 745)) rejects.Quantity
    ∷ turned_down 0 0 (day_order 5 Sell 2001 (pos 745)) rejects.Quantity
    ∷ turned_down 0 0 (day_order 6 Sell 2002000 (pos 745)) rejects.Quantity
    ∷ [])

-- ticks of 5 from −500, lower limit −500: −500 and −495 pass; −497 and −501 do not
abbrev pub ticks : Known
ticks = record {
  opening = opening 5 (negsuc 499) (negsuc 499);
  moves =
      rests_first 0 0 1 Sell 2000 (negsuc 499) 1
      ∷ rests 0 0 2 Sell 2000 (negsuc 494) 2
      ∷ turned_down 0 0 (day_order 3 Sell 2000 (negsuc 496)) rejects.Price
      ∷ turned_down 0 0 (day_order 4 Sell 2000 (negsuc 500)) rejects.Price
      ∷ [];
}

-- an immediate order of 6,000 with a minimum of 4,000: where 2,000 meets it is dead; where 4,000 meets, that executes and
-- 2,000 is canceled
abbrev at_least_4000 : ℕ → EnterOrder
at_least_4000 token = immediate_order token Buy 6000 (pos 745) 4000

abbrev pub minimum : Known
minimum = plain
    (rests_first 0 0 1 Sell 2000 (pos 745) 1
    ∷ record { call = enters 1 1 (at_least_4000 1); feed = []; replies = accepted 1 1 (at_least_4000 1) Buy 2 Dead ∷ []; shown = [] }
    ∷ rests 2 0 2 Sell 2000 (pos 746) 3
    ∷ record {
      call = enters 3 1 (at_least_4000 2);
      feed = executes 3 3 2000 1 ∷ executes 3 1 2000 2 ∷ [];
      replies =
          accepted 3 1 (at_least_4000 2) Buy 4 Live
          ∷ executed 3 1 2 2000 (pos 746) Removed 0 1
          ∷ executed 3 0 2 2000 (pos 746) Added 1 1
          ∷ executed 3 1 2 2000 (pos 745) Removed 0 2
          ∷ executed 3 0 1 2000 (pos 745) Added 1 2
          ∷ canceled 3 1 2 2000 cancels.Immediate
          ∷ [];
      shown = [];
    }
    ∷ [])

-- 10,000 entered and 4,000 of it executed; the order is then replaced
abbrev buy4000 : EnterOrder
buy4000 = day_order 1 Buy 4000 (pos 745)

abbrev partly_executed : List Move → Known
partly_executed moves = plain
    (rests_first 0 0 1 Sell 10000 (pos 745) 1
    ∷ record {
      call = enters 1 1 buy4000;
      feed = executes 1 1 4000 1 ∷ [];
      replies =
          accepted 1 1 buy4000 Buy 2 Live
          ∷ executed 1 1 1 4000 (pos 745) Removed 0 1
          ∷ executed 1 0 1 4000 (pos 745) Added 1 1
          ∷ [];
      shown = [];
    }
    ∷ moves)

-- a total of 10,000 leaves 6,000; the new token is used, so that another order under it is ignored
abbrev pub balance_left : Known
balance_left = partly_executed
    (record {
      call = replaces 2 0 (change 1 2 10000 (pos 745));
      feed = renews 2 1 3 6000 (pos 745) ∷ [];
      replies = replaced 2 0 (change 1 2 10000 (pos 745)) Sell 6000 3 Live ∷ [];
      shown = [];
    }
    ∷ looks 3 (adds 3 3 Sell 6000 (pos 745) ∷ []) 15
    ∷ ignored 4 0 (day_order 2 Sell 2000 (pos 745))
    ∷ [])

-- a total of 4,000 is dead; the new token is used
abbrev pub balance_dead : Known
balance_dead = partly_executed
    (record {
      call = replaces 2 0 (change 1 2 4000 (pos 745));
      feed = deletes 2 1 ∷ [];
      replies = replaced 2 0 (change 1 2 4000 (pos 745)) Sell 0 3 Dead ∷ [];
      shown = [];
    }
    ∷ looks 3 [] 15
    ∷ ignored 4 0 (day_order 2 Sell 2000 (pos 745))
    ∷ [])

-- a total of 2,000 cancels the 6,000 that are left; the new token is not used
abbrev pub balance_refused : Known
balance_refused = partly_executed
    (record {
      call = replaces 2 0 (change 1 2 2000 (pos 745));
      feed = deletes 2 1 ∷ [];
      replies = canceled 2 0 1 6000 cancels.Quantity ∷ [];
      shown = [];
    }
    ∷ looks 3 [] 15
    ∷ rests 4 0 2 Sell 2000 (pos 745) 3
    ∷ [])

abbrev pub table : List Known
table =
    equal_yields_meet ∷ higher_buy_rests ∷ resting_yield_rules ∷ higher_sell_first
    ∷ stays_first 4000 ∷ stays_first 6000 ∷ stands_behind
    ∷ quantities ∷ ticks ∷ minimum
    ∷ balance_left ∷ balance_dead ∷ balance_refused
    ∷ []

-- every day of the table gives what it must
abbrev pub KnownDays : Type 0
KnownDays = all_right table ≡ true
