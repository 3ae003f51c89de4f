-- How a newcomer executes against the orders that it meets.
use Rattle.std.specs.Prelude.{ℕ, zero, suc, ◌+◌, min, Bool, cond, ◌&&◌, ◌||◌, List, [], ◌∷◌, ℤ, Some, None, Option, ◌==◌, int_le, nat_lt}
use Rattle.fields.specs.declared.letters.Side.{Side}
use Rattle.fields.specs.declared.letters.Side.TheVariants.{Buy, Sell}
use Rattle.ouch.specs.declared.letters.CancelReason.TheVariants as cancels
use Rattle.ouch.specs.declared.letters.Liquidity.{Liquidity}
use Rattle.ouch.specs.declared.letters.Liquidity.TheVariants as liquidity
use Rattle.ouch.specs.declared.reply.Reply.{Reply}
use Rattle.ouch.specs.declared.reply.Reply.TheVariants as reply
use Rattle.store.specs.Best.{best_place, listed, opposite}
use Rattle.store.specs.declared.record.Record.{Record}
use Rattle.rules.specs.Reasons.{immediate, post_only}
use Rattle.rules.specs.Tables.{account_at}
use Rattle.market.specs.Changes.{lessened, record_at, published, replied, canceled_reply}
use Rattle.market.specs.Host.{Host, live, with_next_match}
use Rattle.market.specs.declared.change.Change.TheVariants as change

-- ---- meeting

-- a buy and a sell meet when the buy's yield is at or below the sell's; the first yield is the newcomer's
abbrev pub meets : Side → ℤ → ℤ → Bool
meets Buy own other = int_le own other
meets Sell own other = int_le other own

-- whether a newcomer meets a resting order: in its book, on the other side, at a yield that meets
abbrev pub is_met : Record → Record → Bool
is_met n x = listed n.book (opposite n.side) x && meets n.side n.rate x.rate

-- what is left in all the orders that a newcomer meets
abbrev pub meeting_quantity : Record → List Record → ℕ
meeting_quantity n [] = 0
meeting_quantity n (x ∷ xs) = cond (is_met n x) (x.left + meeting_quantity n xs) (meeting_quantity n xs)

-- An immediate order is dead when nothing meets it, or less than its minimum; a post-only order when anything does.
abbrev pub is_dead : ℕ → ℕ → ℕ → ℕ → Bool
is_dead force display minimum meeting =
    cond (immediate force) (meeting == 0 || nat_lt meeting minimum) (post_only display && nat_lt 0 meeting)

-- ---- one execution

-- the smaller of what is left of the two
abbrev pub dealt : Record → Record → ℕ
dealt n x = min n.left x.left

-- Each of the two accounts is told of the other, at the resting order's yield.
abbrev pub executed_reply : Host → ℕ → Record → Record → ℕ → ℤ → Liquidity → Reply
executed_reply h t own other q rate side =
    reply.Executed (record { time = t; token = own.token; quantity = q; price = rate; liquidity = side; counterparty = (account_at other.account h.accounts).name; matched = h.next_match })

-- the newcomer n executes against x, the order at place k
abbrev pub executed : Host → ℕ → Record → ℕ → Record → Host
executed h t n k x =
    with_next_match
    (replied
    (replied (published h t (change.Execute k (dealt n x) h.next_match))
    n.account (executed_reply h t n x (dealt n x) x.rate liquidity.Removed))
    x.account (executed_reply h t x n (dealt n x) x.rate liquidity.Added))
    (h.next_match + 1)

-- ---- all executions, the best order first

-- the place of the best opposite order, if the newcomer meets it
abbrev pub if_met : Host → Record → Option ℕ → Option ℕ
if_met h n None = None
if_met h n (Some k) = cond (meets n.side n.rate (record_at k h.orders).rate) (Some k) None

abbrev pub best_met : Host → Record → Option ℕ
best_met h n = if_met h n (best_place n.book (opposite n.side) h.orders)

-- the host after a walk, and the newcomer with what is left of it
pub record Walked : Type 0 where
  pub host : Host
  pub newcomer : Record

abbrev pub walked : Host → Record → Walked
walked h n = record { host = h; newcomer = n }

-- at most so many executions, while something meets and something is left
unfoldable pub walk : ℕ → Host → ℕ → Record → Walked
walk zero h t n = walked h n
walk (suc fuel) h t n =
    cond (n.left == 0) (walked h n)
    (elim (best_met h n) [
      | None ↦ walked h n
      | Some k ↦ walk fuel (executed h t n k (record_at k h.orders)) t (lessened (dealt n (record_at k h.orders)) n)
    ])

-- Each execution takes away the newcomer or a resting order, so as many as are live suffice.
abbrev pub matched : Host → ℕ → Record → Walked
matched h t n = walk (live h) h t n

-- ---- what is left of the newcomer

abbrev pub unfilled_reply : ℕ → Record → Reply
unfilled_reply t n = canceled_reply t n cancels.Immediate

-- it rests if it is for the day, and is canceled if it is immediate
abbrev pub settled : Walked → ℕ → Bool → Host
settled w t now =
    cond (w.newcomer.left == 0) w.host
    (cond now (replied w.host w.newcomer.account (unfilled_reply t w.newcomer)) (published w.host t (change.Rest w.newcomer)))

-- a newcomer of this time in force enters the book
abbrev pub placed : Host → ℕ → Record → ℕ → Host
placed h t n force = settled (matched h t n) t (immediate force)
