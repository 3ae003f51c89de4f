use Rattle.std.proofs.Common.{◌-◌, length, sym, refl, ap, ◌∙◌, rules, tests}
use Rattle.std.proofs.lemmas.Iterator.{YieldsList-from_range}
use Rattle.std.proofs.lemmas.Iterator.Search.{find_from_yields_List}
use Rattle.std.proofs.lemmas.Iterator.Adapters.{option_map_id}
use Rattle.store.specs.Records.{is_own}
use Rattle.store.proofs.Withdrawals.{placed, next_placed}
use Rattle.store.proofs.withdraw.next_of.Goals as goal

pub returns-in_err-place : goal.returns-in_err-place
returns-in_err-place g c =
    let xs = g.R.Records.list c.args.records.now in
    let n = length xs - c.args.start in
    let found = find_from_yields_List (is_own c.args.account xs) _ _ c.find.result c.find.ensures.ran (YieldsList-from_range c.args.start (length xs) n (cc) refl) (λ x b q k. search (rules, tests)) in
    c.from_residual.ensures ∙ ap (placed c.args.account xs) (sym (c.in_err-place.was) ∙ sym (option_map_id _) ∙ found) ∙ next_placed c.args.account xs c.args.start n refl

pub returns : goal.returns
returns g c =
    let xs = g.R.Records.list c.args.records.now in
    let n = length xs - c.args.start in
    let found = find_from_yields_List (is_own c.args.account xs) _ _ c.find.result c.find.ensures.ran (YieldsList-from_range c.args.start (length xs) n (cc) refl) (λ x b q k. search (rules, tests)) in
    c.placed.ensures ∙ ap (placed c.args.account xs) (sym (c.in_ok-place.was) ∙ sym (option_map_id _) ∙ found) ∙ next_placed c.args.account xs c.args.start n refl
