-- The new blocks of a line: each has what its end tells before it, and that is shown behind it (TS
-- 36.321 5.4.3.1, 6.1.2).
use Rattle.std.specs.Prelude.{Option, List, [], ◌∷◌, ◌≡◌, ◌⊎◌, ℕ, ◌++◌, length}
use Rattle.std.specs.List.{filter}
use Rattle.bearer_types.specs.declared.config.BearerConfig.{BearerConfig}
use Rattle.pdu_show.specs.Kinds.{with_kind, none_known}
use Rattle.pdu_show.specs.declared.kinds.Layout.{Layout}
use Rattle.air_record.specs.declared.line.Line.{Line}
use Rattle.air_text.specs.Groups.{Group}
use Rattle.air_record.specs.declared.record.Record.{Record}
use Rattle.l2_types.specs.declared.side.Side.{Side}
use Rattle.promises.specs.Shown.{IsShownBlock}
use Rattle.l2_types.specs.declared.side.Side.TheVariants.{Nb, Ue}
use Rattle.promises.specs.Records.{is_of_building}
use Rattle.promises.specs.Air.{is_tti, InTurn}
use Rattle.promises.specs.Parts.{Part, Submits, Passes, Drains, Rests}
use Rattle.air_record.specs.declared.line.Line.TheVariants as lines

-- ---- the laws

-- how PDUs of a new bearer are shown
abbrev pub with_bearer : BearerConfig → List (Option Layout) → List (Option Layout)
with_bearer config kinds =
    with_kind kinds config.channel.lcid config.kind config.rlc_bits config.pdcp_bits

-- how PDUs are shown behind groups, of which the newest stands first: by the bearers of their lines
abbrev pub kinds_by : Line → List (Option Layout) → List (Option Layout)
kinds_by (lines.Bearer config options) kinds = with_bearer config kinds
kinds_by line kinds = kinds

abbrev pub kinds : List Group → List (Option Layout)
kinds [] = none_known
kinds (g ∷ past) = kinds_by g.line (kinds past)

-- a visit builds a block, or nothing is told of one; the records behind it show exactly the PDUs
-- that the `send` records before it name, in that order: the channel, the kind, the number and the
-- other fields of each, and, where it is no segment, the SDUs that are whole in it by the fields of
-- their PDUs of PDCP, as the `bearer` lines tell how (TS 36.322 6.2.1, TS 36.323 6.2)
abbrev pub MayShow : Side → ℕ → ℕ → List (Option Layout) → List Record → Type 0
MayShow side t grant kinds' told = (told ≡ []) ⊎ IsShownBlock side t grant kinds' told

-- in a TTI the base station may build a block, and then the terminal
pub record MayBuildBoth (t up_grant down_grant : ℕ) (kinds' : List (Option Layout))
    (told : List Record) : Type 0 where
  pub downward : List Record
  pub upward : List Record
  pub told_is : told ≡ downward ++ upward
  pub down : MayShow Nb t down_grant kinds' downward
  pub up : MayShow Ue t up_grant kinds' upward

-- what RLC takes and writes, why data waits, and what shows a block is told nowhere else
abbrev pub AreTold : ℕ → List (Option Layout) → Part → List Record → Type 0
AreTold t kinds' (Submits side lcid octets) events = filter is_of_building events ≡ []
AreTold t kinds' (Passes up_grant up down_grant down) events =
    MayBuildBoth t up_grant down_grant kinds' (filter is_of_building events)
AreTold t kinds' (Drains grant) events =
    InTurn (λ n. MayBuildBoth n grant grant kinds') t (length (filter is_tti events))
    (filter is_of_building events)
AreTold t kinds' Rests events = filter is_of_building events ≡ []
