use Rattle.std.proofs.Common.{◌≡◌, Some, None, length, sym, ap, ◌∙◌, arith}
use Rattle.std.proofs.lemmas.List.Edits.{length-remove}
use Rattle.store.specs.Records.{next_of}
use Rattle.market.specs.Host.{Host}
use Rattle.engine.proofs.Sweeps.{swept_on, next_swept, none_swept}
use Rattle.engine.proofs.engine.Engine.sweep.Goals as goal

pub loop-place-smaller : goal.loop-place-smaller
loop-place-smaller g c =
    let h : Host = c.loop-place.self.market.host in
    let next : next_of c.args.account c.loop-place.start h.orders ≡ Some (c.in-Some.place, c.in-Some.field-0-1) = rw (← c.self.view_is) (sym c.next_of.ensures ∙ c.in-Some.is) in
    let r = next_swept c.args.time c.args.account h _ c.loop-place.start _ _ next c.loop-place.invariant in
    let fewer = length-remove h.orders c.in-Some.place r.0 in
    omega (arith, ap (λ (x : Host). length x.orders) c.withdraw.ensures)

pub loop-place-preserved : goal.loop-place-preserved
loop-place-preserved g c =
    let h : Host = c.loop-place.self.market.host in
    let next : next_of c.args.account c.loop-place.start h.orders ≡ Some (c.in-Some.place, c.in-Some.field-0-1) = rw (← c.self.view_is) (sym c.next_of.ensures ∙ c.in-Some.is) in
    let r = next_swept c.args.time c.args.account h _ c.loop-place.start _ _ next c.loop-place.invariant in
    ap (swept_on c.args.time c.args.account c.in-Some.place) c.withdraw.ensures ∙ r.1

pub returns : goal.returns
returns g c =
    let h : Host = c.loop-place.self.market.host in
    let none : next_of c.args.account c.loop-place.start h.orders ≡ None = rw (← c.self.view_is) (sym c.next_of.ensures ∙ c.in_default.is) in
    none_swept c.args.time c.args.account h _ c.loop-place.start none c.loop-place.invariant
