-- An SDU is submitted (TS 36.323 5.1.1).
use Rattle.std.specs.Prelude.{ℕ, List, Option}
use Rattle.l2_bits.specs.declared.SubmitRefusal.{SubmitRefusal}
use Rattle.rlc_um.specs.Transparent.{refusal as transparent_refusal}
use Rattle.rlc_um.specs.Transparent.{submitted as transparent_submitted}
use Rattle.pdcp_tx.specs.State.{refusal as pdcp_refusal, submitted as pdcp_submitted}
use Rattle.bearer.specs.declared.flow.Flow.{Flow}
use Rattle.bearer.specs.declared.flow.Flow.TheVariants.{Tm, Um, Am}

-- why it is refused: its length, room, COUNT
unfoldable pub refusal : Flow → List ℕ → Option SubmitRefusal
refusal (Tm b) sdu = transparent_refusal b sdu
refusal (Um b) sdu = pdcp_refusal b.pdcp.tx sdu
refusal (Am b) sdu = pdcp_refusal b.pdcp.tx sdu

-- it waits
unfoldable pub submitted : Flow → List ℕ → Flow
submitted (Tm b) sdu = Tm (transparent_submitted b sdu)
submitted (Um b) sdu = Um (record b { pdcp = record b.pdcp { tx = pdcp_submitted b.pdcp.tx sdu } })
submitted (Am b) sdu = Am (record b { pdcp = record b.pdcp { tx = pdcp_submitted b.pdcp.tx sdu } })
