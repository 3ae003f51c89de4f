use Rattle.std.proofs.Common.{rules}
use Rattle.fields.proofs.Rows.{put_in_turn}
use Rattle.ouch.proofs.replies.AcceptedMessage.encode.Goals as goal

pub returns-clause-bytes : goal.returns-clause-bytes
returns-clause-bytes c =
    simp (
      c.with-18.ensures.bytes,
      c.with-17.ensures.bytes,
      c.with-16.ensures.bytes,
      c.with-15.ensures.bytes,
      c.with-14.ensures.bytes,
      c.with-13.ensures.bytes,
      c.with-12.ensures.bytes,
      c.with-11.ensures.bytes,
      c.with-10.ensures.bytes,
      c.with-9.ensures.bytes,
      c.with-8.ensures.bytes,
      c.with-7.ensures.bytes,
      c.with-6.ensures.bytes,
      c.with-5.ensures.bytes,
      c.with-4.ensures.bytes,
      c.with-3.ensures.bytes,
      c.with-2.ensures.bytes,
      c.with.ensures.bytes,
      c.new.ensures,
      put_in_turn,
    ) (search rules)
