-- Three messages and three replies of account 3, byte for byte. An immediate order is entered (7), accepted, executed in part,
-- and its rest canceled; a day order (8) is replaced (9), and canceled.
use Rattle.std.specs.Prelude.{◌≡◌, ℕ, List, [], ◌∷◌, negsuc, Ok}
use Rattle.fields.specs.declared.letters.Side.TheVariants as side
use Rattle.ouch.specs.Inbound.{EnterOrder, enter, replace, cancel, inbound}
use Rattle.ouch.specs.Reply.{addressed}
use Rattle.ouch.specs.declared.inbound.Replace.{Replace}
use Rattle.ouch.specs.declared.inbound.Cancel.{Cancel}
use Rattle.ouch.specs.declared.replies.Accepted.{Accepted}
use Rattle.ouch.specs.declared.replies.Executed.{Executed}
use Rattle.ouch.specs.declared.replies.Canceled.{Canceled}
use Rattle.ouch.specs.declared.reply.Reply.TheVariants as reply
use Rattle.ouch.specs.declared.letters.CancelReason.TheVariants as reason
use Rattle.ouch.specs.declared.letters.Liquidity.TheVariants as liquidity
use Rattle.ouch.specs.declared.letters.OrderState.TheVariants as state

-- the client reference REF-000001
abbrev pub reference : List ℕ
reference = 0x52 ∷ 0x45 ∷ 0x46 ∷ 0x2D ∷ 0x30 ∷ 0x30 ∷ 0x30 ∷ 0x30 ∷ 0x30 ∷ 0x31 ∷ []

-- the group DJGB
abbrev pub group : List ℕ
group = 0x44 ∷ 0x4A ∷ 0x47 ∷ 0x42 ∷ []

-- the account ALPHA, padded by seven spaces
abbrev pub alpha : List ℕ
alpha = 0x41 ∷ 0x4C ∷ 0x50 ∷ 0x48 ∷ 0x41 ∷ 0x20 ∷ 0x20 ∷ 0x20 ∷ 0x20 ∷ 0x20 ∷ 0x20 ∷ 0x20 ∷ []

-- 09:00:00.123456789
abbrev pub nine : ℕ
nine = 32_400_123_456_789

abbrev pub entered : EnterOrder
entered = record {
  token = 7;
  reference = reference;
  side = 0x42;
  quantity = 6000;
  code = 3740067;
  group = group;
  price = negsuc 494;
  force = 0;
  firm = 0;
  display = 0x20;
  capacity = 0x50;
  minimum = 4000;
  classification = 0x31;
  margin = 0x31;
}

abbrev pub entered_bytes : List ℕ
entered_bytes =
    0x4F  -- O
    ∷ 0x00 ∷ 0x00 ∷ 0x00 ∷ 0x07  -- token 7
    ∷ 0x52 ∷ 0x45 ∷ 0x46 ∷ 0x2D ∷ 0x30 ∷ 0x30 ∷ 0x30 ∷ 0x30 ∷ 0x30 ∷ 0x31  -- client reference
    ∷ 0x42  -- side B
    ∷ 0x00 ∷ 0x00 ∷ 0x17 ∷ 0x70  -- quantity 6,000
    ∷ 0x00 ∷ 0x39 ∷ 0x11 ∷ 0xA3  -- bond code 3740067
    ∷ 0x44 ∷ 0x4A ∷ 0x47 ∷ 0x42  -- group
    ∷ 0xFF ∷ 0xFF ∷ 0xFE ∷ 0x11  -- yield -495
    ∷ 0x00 ∷ 0x00 ∷ 0x00 ∷ 0x00  -- time in force 0
    ∷ 0x00 ∷ 0x00 ∷ 0x00 ∷ 0x00  -- firm 0
    ∷ 0x20  -- display blank
    ∷ 0x50  -- capacity P
    ∷ 0x00 ∷ 0x00 ∷ 0x0F ∷ 0xA0  -- minimum quantity 4,000
    ∷ 0x31  -- order classification 1
    ∷ 0x31  -- cash margin type 1
    ∷ []

abbrev pub replacing : Replace
replacing = record {
  existing = 8;
  replacement = 9;
  quantity = 10000;
  price = negsuc 499;
  force = 99999;
  display = 0x50;
  minimum = 0;
}

abbrev pub replacing_bytes : List ℕ
replacing_bytes =
    0x55  -- U
    ∷ 0x00 ∷ 0x00 ∷ 0x00 ∷ 0x08  -- existing token 8
    ∷ 0x00 ∷ 0x00 ∷ 0x00 ∷ 0x09  -- replacement token 9
    ∷ 0x00 ∷ 0x00 ∷ 0x27 ∷ 0x10  -- total quantity 10,000
    ∷ 0xFF ∷ 0xFF ∷ 0xFE ∷ 0x0C  -- yield -500
    ∷ 0x00 ∷ 0x01 ∷ 0x86 ∷ 0x9F  -- time in force 99999
    ∷ 0x50  -- display P
    ∷ 0x00 ∷ 0x00 ∷ 0x00 ∷ 0x00  -- minimum quantity 0
    ∷ []

abbrev pub canceling : Cancel
canceling = record { token = 9; quantity = 0 }

abbrev pub canceling_bytes : List ℕ
canceling_bytes =
    0x58  -- X
    ∷ 0x00 ∷ 0x00 ∷ 0x00 ∷ 0x09  -- token 9
    ∷ 0x00 ∷ 0x00 ∷ 0x00 ∷ 0x00  -- quantity, not used
    ∷ []

abbrev pub accepted : Accepted
accepted = record {
  time = nine;
  token = 7;
  reference = reference;
  side = side.Buy;
  quantity = 6000;
  code = 3740067;
  group = group;
  price = negsuc 494;
  force = 0;
  firm = 0;
  display = 0x20;
  capacity = 0x50;
  number = 260;
  minimum = 4000;
  state = state.Live;
  classification = 0x31;
  margin = 0x31;
}

abbrev pub accepted_bytes : List ℕ
accepted_bytes =
    0x03  -- account 3
    ∷ 0x41  -- A
    ∷ 0x00 ∷ 0x00 ∷ 0x1D ∷ 0x77 ∷ 0xBD ∷ 0xD9 ∷ 0x6D ∷ 0x15  -- time
    ∷ 0x00 ∷ 0x00 ∷ 0x00 ∷ 0x07  -- token 7
    ∷ 0x52 ∷ 0x45 ∷ 0x46 ∷ 0x2D ∷ 0x30 ∷ 0x30 ∷ 0x30 ∷ 0x30 ∷ 0x30 ∷ 0x31  -- client reference
    ∷ 0x42  -- side B
    ∷ 0x00 ∷ 0x00 ∷ 0x17 ∷ 0x70  -- quantity 6,000
    ∷ 0x00 ∷ 0x39 ∷ 0x11 ∷ 0xA3  -- bond code 3740067
    ∷ 0x44 ∷ 0x4A ∷ 0x47 ∷ 0x42  -- group
    ∷ 0xFF ∷ 0xFF ∷ 0xFE ∷ 0x11  -- yield -495
    ∷ 0x00 ∷ 0x00 ∷ 0x00 ∷ 0x00  -- time in force 0
    ∷ 0x00 ∷ 0x00 ∷ 0x00 ∷ 0x00  -- firm 0
    ∷ 0x20  -- display blank
    ∷ 0x50  -- capacity P
    ∷ 0x00 ∷ 0x00 ∷ 0x00 ∷ 0x00 ∷ 0x00 ∷ 0x00 ∷ 0x01 ∷ 0x04  -- order number 260
    ∷ 0x00 ∷ 0x00 ∷ 0x0F ∷ 0xA0  -- minimum quantity 4,000
    ∷ 0x4C  -- order state L
    ∷ 0x31  -- order classification 1
    ∷ 0x31  -- cash margin type 1
    ∷ []

abbrev pub executed : Executed
executed = record {
  time = nine;
  token = 7;
  quantity = 4000;
  price = negsuc 489;
  liquidity = liquidity.Removed;
  counterparty = alpha;
  matched = 77;
}

abbrev pub executed_bytes : List ℕ
executed_bytes =
    0x03  -- account 3
    ∷ 0x65  -- e
    ∷ 0x00 ∷ 0x00 ∷ 0x1D ∷ 0x77 ∷ 0xBD ∷ 0xD9 ∷ 0x6D ∷ 0x15  -- time
    ∷ 0x00 ∷ 0x00 ∷ 0x00 ∷ 0x07  -- token 7
    ∷ 0x00 ∷ 0x00 ∷ 0x0F ∷ 0xA0  -- executed quantity 4,000
    ∷ 0xFF ∷ 0xFF ∷ 0xFE ∷ 0x16  -- yield -490
    ∷ 0x52  -- liquidity R
    ∷ 0x41 ∷ 0x4C ∷ 0x50 ∷ 0x48 ∷ 0x41 ∷ 0x20 ∷ 0x20 ∷ 0x20 ∷ 0x20 ∷ 0x20 ∷ 0x20 ∷ 0x20  -- counter party
    ∷ 0x00 ∷ 0x00 ∷ 0x00 ∷ 0x00 ∷ 0x00 ∷ 0x00 ∷ 0x00 ∷ 0x4D  -- match number 77
    ∷ []

abbrev pub canceled : Canceled
canceled = record { time = nine; token = 7; quantity = 2000; reason = reason.Immediate }

abbrev pub canceled_bytes : List ℕ
canceled_bytes =
    0x03  -- account 3
    ∷ 0x43  -- C
    ∷ 0x00 ∷ 0x00 ∷ 0x1D ∷ 0x77 ∷ 0xBD ∷ 0xD9 ∷ 0x6D ∷ 0x15  -- time
    ∷ 0x00 ∷ 0x00 ∷ 0x00 ∷ 0x07  -- token 7
    ∷ 0x00 ∷ 0x00 ∷ 0x07 ∷ 0xD0  -- decrement quantity 2,000
    ∷ 0x49  -- reason I
    ∷ []

pub record InboundExamples : Type 0 where
  pub enter_example : inbound entered_bytes ≡ Ok (enter entered)
  pub replace_example : inbound replacing_bytes ≡ Ok (replace replacing)
  pub cancel_example : inbound canceling_bytes ≡ Ok (cancel canceling)

pub record ReplyExamples : Type 0 where
  pub accepted_example : addressed 3 (reply.Accepted accepted) ≡ accepted_bytes
  pub executed_example : addressed 3 (reply.Executed executed) ≡ executed_bytes
  pub canceled_example : addressed 3 (reply.Canceled canceled) ≡ canceled_bytes
