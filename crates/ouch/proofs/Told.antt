-- The replies have their lengths, and are read back from their bytes.
use Rattle.std.proofs.Common.{◌≡◌, ℕ, ◌≤◌, List, [], ◌∷◌, length, get_or, Some, sym, refl, ap, ◌∙◌, ap₂, lit≤}
use Rattle.std.specs.Option.{option_map}
use Rattle.std.specs.Int.Digits.{AllBelowBase}
use Rattle.fields.proofs.Rows.{picked, kept, mapped_some}
use Rattle.ouch.specs.Replies.{system_event, accepted, replaced, canceled, executed, rejected}
use Rattle.ouch.specs.Reply.{reply_laid, reply_bytes, reply_readings, reply_read, reply_length, ReplyFits, RepliesSound, RepliesReturn, RepliesKeep}
use Rattle.ouch.specs.declared.reply.Reply.{Reply}
use Rattle.ouch.specs.declared.reply.Reply.TheVariants as reply
use Rattle.ouch.proofs.Formats.{system_event_sound, accepted_sound, replaced_sound, canceled_sound, executed_sound, rejected_sound}
use Rattle.ouch.proofs.Ranges.{sound_length}

pub laid-length : (m : Reply) → ReplyFits m → length (reply_laid m) ≡ reply_length m
laid-length (reply.SystemEvent m) = sound_length system_event system_event_sound m
laid-length (reply.Accepted m) = sound_length accepted accepted_sound m
laid-length (reply.Replaced m) = sound_length replaced replaced_sound m
laid-length (reply.Canceled m) = sound_length canceled canceled_sound m
laid-length (reply.Executed m) = sound_length executed executed_sound m
laid-length (reply.Rejected m) = sound_length rejected rejected_sound m

pub reply_length_lem : (m : Reply) → ReplyFits m → length (reply_bytes m) ≡ reply_length m
unfolding reply_bytes
reply_length_lem = laid-length

-- none is longer than an Order Accepted Message
pub longest : (m : Reply) → reply_length m ≤ 65
longest (reply.SystemEvent m) = lit≤ tt
longest (reply.Accepted m) = lit≤ tt
longest (reply.Replaced m) = lit≤ tt
longest (reply.Canceled m) = lit≤ tt
longest (reply.Executed m) = lit≤ tt
longest (reply.Rejected m) = lit≤ tt

pub replies_sound : RepliesSound
replies_sound = record {
  lengths = reply_length_lem;
  system_event_sound = system_event_sound;
  accepted_sound = accepted_sound;
  replaced_sound = replaced_sound;
  canceled_sound = canceled_sound;
  executed_sound = executed_sound;
  rejected_sound = rejected_sound;
}

reply_returns : (m : Reply) → ReplyFits m → reply_read (reply_bytes m) ≡ Some m
unfolding reply_bytes reply_read
reply_returns (reply.SystemEvent m) h = ap (option_map reply.SystemEvent) (system_event_sound.returns m h)
reply_returns (reply.Accepted m) h = ap (option_map reply.Accepted) (accepted_sound.returns m h)
reply_returns (reply.Replaced m) h = ap (option_map reply.Replaced) (replaced_sound.returns m h)
reply_returns (reply.Canceled m) h = ap (option_map reply.Canceled) (canceled_sound.returns m h)
reply_returns (reply.Executed m) h = ap (option_map reply.Executed) (executed_sound.returns m h)
reply_returns (reply.Rejected m) h = ap (option_map reply.Rejected) (rejected_sound.returns m h)

pub replies_return : RepliesReturn
replies_return account m h = ap (option_map (λ r. (account, r))) (reply_returns m h)

reply_keeps : (b : List ℕ) (m : Reply) → AllBelowBase 256 b → reply_read b ≡ Some m → reply_bytes m ≡ b
unfolding reply_bytes reply_read
reply_keeps b m u =
    picked (get_or b 0 0) (reply_readings b) m (
      kept system_event system_event_sound reply.SystemEvent reply_bytes b m u (λ _. refl),
      (
        kept accepted accepted_sound reply.Accepted reply_bytes b m u (λ _. refl),
        (
          kept replaced replaced_sound reply.Replaced reply_bytes b m u (λ _. refl),
          (
            kept canceled canceled_sound reply.Canceled reply_bytes b m u (λ _. refl),
            (
              kept executed executed_sound reply.Executed reply_bytes b m u (λ _. refl),
              (kept rejected rejected_sound reply.Rejected reply_bytes b m u (λ _. refl), tt),
            ),
          ),
        ),
      ),
    )

pub replies_keep : RepliesKeep
replies_keep [] account m u e = cc
replies_keep (a ∷ b) account m u e =
    let p = mapped_some (λ r. (a, r)) (reply_read b) (account, m) e in
    ap₂ (λ x y. x ∷ y) (sym (ap (λ q. q.0) p.2))
    (ap reply_bytes (sym (ap (λ q. q.1) p.2)) ∙ reply_keeps b p.0 u.1 p.1)
