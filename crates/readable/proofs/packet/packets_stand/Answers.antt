use Rattle.std.proofs.Common.{◌≡◌, ℕ, ◌<◌, false, ltb, List, ◌∷◌, length, None, ap, ◌∙◌, arith}
use Rattle.std.specs.Bool.{then_some}
use Rattle.std.specs.Option.{option_map, option_or, unwrap_or}
use Rattle.std.proofs.lemmas.Bool.{le-ltb, lt-ltb, ne_eqb, cond-false}
use Rattle.itch.specs.Feed.{feed_bytes, feed_read}
use Rattle.itch.proofs.Readings.{feed_returns}
use Rattle.ouch.specs.Reply.{addressed, addressed_read}
use Rattle.ouch.proofs.Told.{replies_return}
use Rattle.readable.specs.Packets.{accounts, reply_of, feed, reply, unknown}
use Rattle.readable.proofs.packet.packets_stand.Goals as goal

three : (a b c : ℕ) (t : List ℕ) → ltb (length (a ∷ b ∷ c ∷ t)) 3 ≡ false
three a b c t = le-ltb (length (a ∷ b ∷ c ∷ t)) 3 (omega arith)

-- no letter of the feed is an account's number
no_feed : (account : ℕ) (b : List ℕ) → account < accounts → feed_read (account ∷ b) ≡ None
unfolding feed_read
no_feed account b h =
    rw (
      ne_eqb account 84 (λ e. omega arith),
      ne_eqb account 83 (λ e. omega arith),
      ne_eqb account 76 (λ e. omega arith),
      ne_eqb account 82 (λ e. omega arith),
      ne_eqb account 72 (λ e. omega arith),
      ne_eqb account 65 (λ e. omega arith),
      ne_eqb account 69 (λ e. omega arith),
      ne_eqb account 68 (λ e. omega arith),
      ne_eqb account 85 (λ e. omega arith),
      ne_eqb account 71 (λ e. omega arith),
    )

pub returns : goal.returns
returns c = record {
  message = λ a b m fits.
      cond-false _ _ _ (three a b 83 (feed_bytes m))
      ∙ ap (λ o. unwrap_or (option_or (option_map feed o) (reply_of (addressed_read (feed_bytes m)))) (unknown (a ∷ b ∷ 83 ∷ feed_bytes m)))
      (feed_returns m fits);
  told = λ a b account m h fits.
      let p = unknown (a ∷ b ∷ 83 ∷ addressed account m) in
      cond-false _ _ _ (three a b 83 (addressed account m))
      ∙ ap (λ o. unwrap_or (option_or (option_map feed o) (reply_of (addressed_read (addressed account m)))) p)
      (no_feed account _ h)
      ∙ ap (λ o. unwrap_or (reply_of o) p) (replies_return account m fits)
      ∙ ap (λ t. unwrap_or (then_some t (reply account m)) p) (lt-ltb account accounts h);
  text = λ a b t. cond-false _ _ _ (three a b 43 t);
}
