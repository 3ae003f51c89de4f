use Rattle.std.proofs.Common.{length, sym, ap, ◌∙◌, arith}
use Rattle.line.proofs.Walk.{cut}
use Rattle.line.proofs.soup.packets.PacketsIterator.next.Goals as goal

pub invariant_of-self : goal.invariant_of-self
invariant_of-self c =
    let p = cut _ c.in_ok-self-inside.field-0 _ _ _ _ (omega arith) c.self.invariant (omega arith) c.split_at.ensures.front c.split_at.ensures.back in
    p.packed

pub returns-clause-steps : goal.returns-clause-steps
returns-clause-steps c =
    let p = cut _ c.in_ok-self-inside.field-0 _ _ _ _ (omega arith) c.self.invariant (omega arith) c.split_at.ensures.front c.split_at.ensures.back in
    sym c.self.view_is ∙ p.shown

pub returns-clause-goes : goal.returns-clause-goes
returns-clause-goes c =
    let p = cut _ c.in_ok-self-inside.field-0 _ _ _ _ (omega arith) c.self.invariant (omega arith) c.split_at.ensures.front c.split_at.ensures.back in
    let fewer = ap length (sym c.self.view_is ∙ p.shown) in
    record { on = λ _. (tt, tt, omega arith); keeps = tt; rests = λ _. tt }
