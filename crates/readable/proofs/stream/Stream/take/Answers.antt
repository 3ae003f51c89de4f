use Rattle.std.proofs.Common.{drop, sym, ap, ◌∙◌}
use Rattle.readable.proofs.Cuts.{goes_on}
use Rattle.readable.proofs.stream.Stream.take.Goals as goal

pub returns-then-shown-gt0 : goal.returns-then-shown-gt0
returns-then-shown-gt0 c =
    let all = c.as_slice.ensures.value in
    goes_on c.args.self.now c.args.bytes.now _ _ c.in_ok-shown.shown _ _
    (all ∙ c.in_ok-extend_from_slice.ensures.items)
    c.in_ok-shown.ensures
    (c.shrink_to_fit.ensures.items ∙ c.drop-drain.ensures.items ∙ c.drain.ensures.kept ∙ ap (drop _) (sym all))

pub returns-else-shown-gt0 : goal.returns-else-shown-gt0
returns-else-shown-gt0 c =
    let all = c.as_slice.ensures.value in
    goes_on c.args.self.now c.args.bytes.now _ _ c.in_ok-shown.shown _ _
    (all ∙ c.in_ok-extend_from_slice.ensures.items)
    c.in_ok-shown.ensures
    (c.drop-drain.ensures.items ∙ c.drain.ensures.kept ∙ ap (drop _) (sym all))
