-- Logical channels in the order in which a grant goes to them (TS 36.321 5.4.3.1).
use Rattle.std.specs.Prelude.{ℕ, ◌+◌, ◌<◌, nat_lt, ◌==◌, Bool, ◌||◌, ◌&&◌, if◌then◌else◌, List, []}
use Rattle.std.specs.Prelude.{◌∷◌, map}
use Rattle.std.specs.List.{insert, All, IsDistinct, list_any}
use Rattle.l2_types.specs.declared.channel.Channel.{Channel}

-- the LCIDs of channels
abbrev pub lcids : List Channel → List ℕ
lcids channels = map (λ c. c.lcid) channels

-- LCIDs are 0 to 10, no two channels have the same, and groups are 0 to 3
pub record AreSound (channels : List Channel) : Type 0 where
  pub within : All (λ c. c.lcid < 11) channels
  pub groups : All (λ c. c.group < 4) channels
  pub distinct : IsDistinct ◌==◌ (lcids channels)

-- a channel has this LCID
abbrev pub has : ℕ → List Channel → Bool
has lcid channels = list_any (λ c. lcid == c.lcid) channels

-- a channel goes before another: by priority number, then by LCID
abbrev pub goes_before : Channel → Channel → Bool
goes_before a b = nat_lt a.priority b.priority
    || ((a.priority == b.priority) && nat_lt a.lcid b.lcid)

-- the place of a new channel: behind those that go before it
abbrev pub place : Channel → List Channel → ℕ
place c [] = 0
place c (d ∷ ds) = if goes_before d c then place c ds + 1 else 0

abbrev pub put : Channel → List Channel → List Channel
put c channels = insert channels (place c channels) c
