-- What the test loop of a link returns: SDUs that went up at the terminal before, in order and each
-- at most once (TS 36.509 5.4).
use Rattle.std.specs.Prelude.{◌≡◌, ℕ, ◌+◌, false, List, [], ◌++◌, take}
use Rattle.air_record.specs.declared.line.Outcome.{Outcome}
use Rattle.air_record.specs.declared.record.Record.{Record}
use Rattle.l2_types.specs.declared.side.Side.{Side}
use Rattle.test_loop.specs.declared.Mode.{Mode}
use Rattle.test_loop.specs.Items.{Item}
use Rattle.test_loop.specs.Loops.{is_keeping}
use Rattle.air_link.specs.Draining.{drain_tti}
use Rattle.air_link.specs.Lines.{submitting}
use Rattle.air_link.specs.Link.{Link, fresh}
use Rattle.air_link.specs.Ttis.{tti}
use Rattle.law_run.specs.AnyCalls.Calls.{Call, Loops, after}
use Rattle.promises.specs.Loops.{ArePart, gone_up, returned, item_count, drop_count}

-- ---- what records tell of the loop

-- with SDUs that were kept before: at each record those that have come back are part of them and of
-- those that have gone up, and in the end those that are kept then are another part, behind the
-- ones that came back
pub record ComeBack (mode : Mode) (before after' : List Item) (told : List Record) : Type 0 where
  pub each : (n : ℕ) → ArePart (returned (take n told)) (before ++ gone_up mode (take n told))
  pub whole : ArePart (returned told ++ after') (before ++ gone_up mode told)
  -- of each channel, what was kept before and what has gone up is just what has come back, what is
  -- dropped, and what is kept then
  pub all : (lcid : ℕ) → item_count lcid before + item_count lcid (gone_up mode told)
      ≡ (item_count lcid (returned told) + drop_count lcid told) + item_count lcid after'

-- between calls no SDU waits for the loop, and it keeps some only in a mode with a delay
pub record IsAtRest (l : Link) : Type 0 where
  pub none_waits : l.ups ≡ []
  pub none_kept : is_keeping l.looping.mode ≡ false → l.looping.kept ≡ []

-- a call in a mode
pub record LoopsBack (mode : Mode) (l m : Link) : Type 0 where
  pub more : List Record
  pub out_is : m.out ≡ l.out ++ more
  pub mode_is : m.looping.mode ≡ mode
  pub rests : IsAtRest m
  pub come_back : ComeBack mode l.looping.kept m.looping.kept more

-- another mode is in force as the call begins
abbrev pub mode_in : Call → Mode → Mode
mode_in (Loops mode) before = mode
mode_in call before = before

-- ---- the laws

abbrev pub FirstIsAtRest : Type 0
FirstIsAtRest = IsAtRest fresh

abbrev pub CallsLoopBack : Type 0
CallsLoopBack = (c : Call) (l : Link) → IsAtRest l
    → LoopsBack (mode_in c l.looping.mode) l (after c l)

abbrev pub SubmissionsLoopBack : Type 0
SubmissionsLoopBack = (side : Side) (lcid : ℕ) (sdu : List ℕ) (l : Link) → IsAtRest l
    → LoopsBack l.looping.mode l (submitting side lcid sdu l)

abbrev pub TtisLoopBack : Type 0
TtisLoopBack = (up_grant : ℕ) (up : Outcome) (down_grant : ℕ) (down : Outcome) (l : Link)
    → IsAtRest l → LoopsBack l.looping.mode l (tti up_grant up down_grant down l)

abbrev pub DrainsLoopBack : Type 0
DrainsLoopBack = (grant : ℕ) (l : Link) → IsAtRest l
    → LoopsBack l.looping.mode l (drain_tti grant l)
