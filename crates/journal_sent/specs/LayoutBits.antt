-- The bits of numbers with which PDUs are read and written (TS 36.322 6.2.2.3, TS 36.323 6.3.2).
use Rattle.rlc_pdu.specs.Pdus.{IsUmBits}
use Rattle.pdcp_pdu.specs.Kinds.{IsKind}
use Rattle.pdu_show.specs.declared.kinds.Layout.{Layout}
use Rattle.pdu_show.specs.declared.kinds.Layout.TheVariants as layouts

abbrev pub HasBits : Layout → Type 0
HasBits layouts.Tm = Unit {0}
HasBits (layouts.Um rlc_bits kind) = IsUmBits rlc_bits × IsKind kind
HasBits (layouts.Am kind) = IsKind kind
