-- Under the keys of a life no COUNT is taken twice on a bearer (TS 36.323 5.6, TS 33.401 B.1).
use Rattle.std.specs.Prelude.{◌≡◌, ℕ, ◌==◌, Bool, true, false, List}
use Rattle.std.specs.List.{AllByRecursion}
use Rattle.l2_num.specs.Ascending.{IsAscending}
use Rattle.l2_types.specs.declared.side.Side.{Side}
use Rattle.promises.specs.Counts.{counts_on}
use Rattle.law_node.specs.Calls.{Call, Add, Move, AreGiven, reached}
use Rattle.law_node.specs.Telling.{told_over}

-- a call with which a life of a channel's bearer begins, under the keys of the call: the bearer is
-- added, or the end moves
abbrev pub begins : ℕ → Call → Bool
begins lcid (Add config keys) = config.channel.lcid == lcid
begins lcid (Move keys) = true
begins lcid _ = false

-- through any calls that begin no life of it, the COUNTs that are told of as taken on a channel
-- ascend
abbrev pub CountsAscend : Type 0
CountsAscend = (side : Side) (maximum : ℕ) (reports : Bool) (past calls : List Call) (lcid : ℕ)
    → AreGiven past → AreGiven calls
    → AllByRecursion (λ c. begins lcid c ≡ false) calls
    → IsAscending 0 (counts_on lcid (told_over calls (reached side maximum reports past)))
