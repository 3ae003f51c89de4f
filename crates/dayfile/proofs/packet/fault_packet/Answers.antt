use Rattle.std.proofs.Common.{ap, ◌∙◌}
use Rattle.dayfile.specs.Packet.{fault_text, plus_packet, fault_packet}
use Rattle.dayfile.proofs.packet.fault_packet.Goals as goal

pub returns : goal.returns
unfolding fault_packet
returns c =
    c.plus_packet.ensures ∙ ap plus_packet (c.bytes.ensures.value ∙ c.fault_text-text.ensures.bytes)
    ∙ (λ i. plus_packet (fault_text (c.layer.ensures i) (c.from.ensures i) (c.place.ensures i)))
