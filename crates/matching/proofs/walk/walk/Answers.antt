use Rattle.std.proofs.Common.{◌+◌, ◌^◌, rules, sym, ap, ◌∙◌}
use Rattle.market.specs.Host.{Host, live}
use Rattle.matching.specs.Matching.{matched}
use Rattle.matching.proofs.Walks.{walk-filled, walk_unmet, walk_turn, walk_falls, walk_numbers}
use Rattle.matching.proofs.walk.walk.Goals as goal

pub returns-in_default : goal.returns-in_default
returns-in_default g c = search (rules, walk_unmet)

pub loop-newcomer-smaller : goal.loop-newcomer-smaller
loop-newcomer-smaller g c =
    rw (ap live c.execute-newcomer.ensures.host, c.execute-newcomer.ensures.left)
    (walk_falls c.args.time c.loop-newcomer.market.host c.loop-newcomer.newcomer c.in-Some.place c.loop-newcomer-test.true (sym c.best_met.ensures ∙ c.in-Some.is))

pub loop-newcomer-preserved : goal.loop-newcomer-preserved
loop-newcomer-preserved g c =
    let met = sym c.best_met.ensures ∙ c.in-Some.is in
    let h = c.loop-newcomer.market.host in (
      ap (λ (i : Host). matched i c.args.time c.execute-newcomer.result) c.execute-newcomer.ensures.host
          ∙ ap (matched _ c.args.time) c.execute-newcomer.ensures.left
          ∙ walk_turn c.args.time h c.loop-newcomer.newcomer c.in-Some.place c.loop-newcomer-test.true met
          ∙ c.loop-newcomer.invariant.0,
      λ some.
          rw (ap (λ (i : Host). i.next_match) c.execute-newcomer.ensures.host, ap live c.execute-newcomer.ensures.host)
          (walk_numbers c.args.time h c.loop-newcomer.newcomer c.in-Some.place (2 ^ 63 + 4096) met (c.loop-newcomer.invariant.1 c.loop-newcomer-test.true)
          (rw c.execute-newcomer.ensures.left at some)),
    )

pub returns : goal.returns
returns g c = search (rules, walk-filled)
