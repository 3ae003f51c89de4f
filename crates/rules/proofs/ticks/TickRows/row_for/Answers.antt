use Rattle.std.proofs.Common.{◌∙◌, None, rules, tests}
use Rattle.std.proofs.lemmas.Iterator.Adapters.{YieldsList-from_rev_slice}
use Rattle.std.proofs.lemmas.Iterator.Consumers.{YieldsList-from_filter, fold_from_yields_List}
use Rattle.rules.proofs.Highest.{reaches, keep, from_last}
use Rattle.rules.proofs.ticks.TickRows.row_for.Goals as goal

pub returns : goal.returns
returns c =
    fold_from_yields_List _ keep None _ c.fold.ensures.ran
    (YieldsList-from_filter _ (reaches c.args.table c.args.rate) (YieldsList-from_rev_slice c.args.self.now (search rules)) c.filter.ensures.closure (λ x r q k. search (rules, tests)))
    (λ a x b q k. search (rules, tests))
    ∙ from_last c.args.table c.args.rate c.args.self.now
