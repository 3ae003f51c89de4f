use Rattle.std.proofs.Common.{eqb, sym, ◌∙◌, rules, tests}
use Rattle.std.proofs.lemmas.Iterator.Consumers.{YieldsList-from_first, YieldsList-from_enumerate, YieldsList-at}
use Rattle.std.proofs.lemmas.Iterator.Search.{find_from_yields_List}
use Rattle.std.proofs.lemmas.Iterator.Adapters.{option_map_id}
use Rattle.store.proofs.withdraw.first_of.Goals as goal

pub returns : goal.returns
returns g c =
    let all = YieldsList-from_first (λ x. x) (λ left. left) (g.R.Records.list c.args.records.now) c.of.ensures in
    let placed = YieldsList-from_enumerate (YieldsList-at c.enumerate.ensures.source all) c.enumerate.ensures.count in
    let found = find_from_yields_List (λ p. eqb p.1.account c.args.account) _ _ c.find.result c.find.ensures.ran placed (λ x b q k. search (rules, tests)) in
    sym (option_map_id _) ∙ found
