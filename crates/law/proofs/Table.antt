-- The known days, computed.
use Rattle.std.proofs.Common.{refl}
use Rattle.fields.specs.Be.{be}
use Rattle.itch.specs.Feed.{feed_bytes}
use Rattle.ouch.specs.Inbound.{inbound}
use Rattle.ouch.specs.Reply.{reply_bytes}
use Rattle.matching.specs.Matching.{walk}
use Rattle.engine.specs.Calls as calls
use Rattle.engine.specs.Calls.{replied_each}
use Rattle.law.specs.Days.{KnownDays}
use Rattle.law.specs.Runs.{run, step}

pub known_days : KnownDays
unfolding be feed_bytes inbound reply_bytes walk replied_each calls.load_row calls.load_book calls.load_account calls.begin calls.message calls.event calls.snapshot step run
known_days = refl
