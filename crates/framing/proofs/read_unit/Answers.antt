use Rattle.std.proofs.Common.{Ok, vec_items, ap, ◌∙◌, arith}
use Rattle.framing.proofs.Pieces.{within, short}
use Rattle.framing.proofs.read_unit.Goals as goal

pub returns-then-branch-eq0 : goal.returns-then-branch-eq0
returns-then-branch-eq0 g c =
    short g.F.Framed.size _ (vec_items c.loop-missing.unit) _ _ (c.in_ok-add_piece.was ∙ ap Ok c.if-branch-eq0.true) c.add_piece.ensures
    (omega (arith, c.loop-missing.invariant, c.wanted.ensures ∙ ap g.F.Framed.size c.as_slice.ensures.value, c.loop-missing.unit.ok.0, c.len.ensures, c.saturating_sub-missing.ensures))

pub loop-missing-preserved : goal.loop-missing-preserved
loop-missing-preserved g c =
    within g.F.Framed.size g.met.F.Framed.grows _ _ (vec_items c.loop-missing.unit) _ _ c.in_ok-add_piece.was c.add_piece.ensures
    (omega (arith, c.loop-missing.invariant, c.wanted.ensures ∙ ap g.F.Framed.size c.as_slice.ensures.value, c.loop-missing.unit.ok.0, c.len.ensures, c.saturating_sub-missing.ensures))
