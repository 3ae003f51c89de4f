use Rattle.std.proofs.Common.{rules}
use Rattle.engine.proofs.Copies.{copied_both}
use Rattle.engine.proofs.engine.Engine.copy_out.Goals as goal

pub returns-clause-after : goal.returns-clause-after
returns-clause-after g c =
    rw (← c.self.view_is)
    (copied_both _ _ c.args.out.now c.copy_out-fed.new.out c.copy_out-replied.new.out c.min-start.result
    c.copy_out-fed.ensures.after (search rules) c.copy_out-replied.ensures.after)
