-- How the SDUs of the logical channels are read (TS 36.321 6.2.1, TS 36.322 4.2.1).
use Rattle.std.specs.Prelude.{ℕ, List, slice_set, replicate, Option, None, Some, IfSome}
use Rattle.std.specs.Prelude.{All}
use Rattle.l2_types.specs.declared.channel.Kind.{Kind}
use Rattle.l2_types.specs.declared.channel.Kind.TheVariants.{Tm, Srb, Um, Am}
use Rattle.rlc_pdu.specs.Pdus.{IsUmBits}
use Rattle.pdcp_pdu.specs.Pdus.{IsUserBits}
use Rattle.pdcp_pdu.specs.declared.pdu.PdcpKind.{PdcpKind}
use Rattle.pdcp_pdu.specs.declared.pdu.PdcpKind.TheVariants as pdcp
use Rattle.pdu_show.specs.declared.kinds.Layout.{Layout}
use Rattle.pdu_show.specs.declared.kinds.Layout.TheVariants as layouts

-- the layout of the PDUs of a kind of bearer
abbrev pub layout_of : Kind → ℕ → ℕ → Layout
layout_of Tm rlc_bits pdcp_bits = layouts.Tm
layout_of Srb rlc_bits pdcp_bits = layouts.Am pdcp.Srb
layout_of Um rlc_bits pdcp_bits = layouts.Um rlc_bits (pdcp.Um pdcp_bits)
layout_of Am rlc_bits pdcp_bits = layouts.Am (pdcp.Am pdcp_bits)

-- the numbers of PDCP PDUs have bits with which they can be read
abbrev pub IsPdcp : PdcpKind → Type 0
IsPdcp pdcp.Srb = Unit {0}
IsPdcp (pdcp.Um bits) = IsUserBits bits
IsPdcp (pdcp.Am bits) = IsUserBits bits

abbrev pub IsLayout : Layout → Type 0
IsLayout layouts.Tm = Unit {0}
IsLayout (layouts.Um rlc_bits kind) = IsUmBits rlc_bits × IsPdcp kind
IsLayout (layouts.Am kind) = IsPdcp kind

-- no bearer is known
abbrev pub none_known : List (Option Layout)
none_known = replicate 11 None

-- a bearer is known on a logical channel, in place of one that was
abbrev pub with_kind : List (Option Layout) → ℕ → Kind → ℕ → ℕ → List (Option Layout)
with_kind kinds lcid kind rlc_bits pdcp_bits =
    slice_set kinds lcid (Some (layout_of kind rlc_bits pdcp_bits))

-- each bearer that is known can be read
abbrev pub AreLayouts : List (Option Layout) → Type 0
AreLayouts kinds = All (λ o. IfSome o IsLayout) kinds
