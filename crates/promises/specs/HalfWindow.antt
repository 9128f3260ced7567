-- How far the COUNTs that are taken run ahead of those that have come: less than half the sequence
-- numbers of PDCP, so that the receiver tells each COUNT by its sequence number (TS 36.323
-- 5.1.2.1.2, 5.9, 7.2).
use Rattle.std.specs.Prelude.{◌≡◌, ◌≤◌, ◌+◌, ◌-◌, ◌^◌, ℕ, Bool, true, false, Some, List, [], ◌∷◌}
use Rattle.air_text.specs.Groups.{Group}
use Rattle.bearer_types.specs.declared.config.BearerConfig.{BearerConfig}
use Rattle.l2_types.specs.declared.channel.Kind.TheVariants.{Am}
use Rattle.l2_types.specs.declared.side.Side.{Side}
use Rattle.law_words.specs.Arrivals.{AccountEntry, Gives, Account, no_account, accounted, renewed}
use Rattle.promises.specs.Arrival.{entries_from}
use Rattle.promises.specs.Configs.{config_of}
use Rattle.promises.specs.Delivery.{is_forged}

-- the PDU of a COUNT has arrived whole, so that it has come where the life ends (TS 36.322 5.4)
abbrev pub has_come_whole : Account → ℕ → Bool
has_come_whole a count = (renewed a).ended count

-- as PDCP gives the PDU of a COUNT, so as a `take` tells it, the PDU of each COUNT that lies half
-- the numbers or more below it has arrived whole
abbrev pub IsInHalf : ℕ → ℕ → Account → AccountEntry → Type 0
IsInHalf bits first a (Gives g) =
    (count below : ℕ) → g.count ≡ Some count → first ≤ below → below + 2 ^ (bits - 1) ≤ count
    → has_come_whole a below ≡ true
IsInHalf bits first a entry = Unit {0}

-- so it is of each, by what was told before it
abbrev pub AreInHalf : ℕ → ℕ → Account → List AccountEntry → Type 0
AreInHalf bits first a [] = Unit {0}
AreInHalf bits first a (h ∷ hs) =
    IsInHalf bits first a h × AreInHalf bits first (accounted h a) hs

-- on each channel with an acknowledged data bearer, in each direction, where no block was forged
abbrev pub AllInHalf : List Group → Type 0
AllInHalf past =
    (from : Side) (lcid : ℕ) (config : BearerConfig) → config_of lcid past ≡ Some config
    → config.kind ≡ Am → is_forged past ≡ false
    → AreInHalf config.pdcp_bits config.first no_account
    (entries_from config.pdcp_bits lcid from past)

-- behind each group, of which the newest stands first
abbrev pub TakesStayInHalf : List Group → Type 0
TakesStayInHalf [] = Unit {0}
TakesStayInHalf (g ∷ past) = AllInHalf (g ∷ past) × TakesStayInHalf past
