-- Whether the losses of unacknowledged bearers were long, by the records of a run
-- (TS 36.322 5.1.2.2.1, TS 36.323 5.1.2.1).
use Rattle.std.specs.Prelude.{ℕ, ◌^◌, Bool, ◌&&◌, ◌||◌, ◌==◌, not, nat_le, is_some, if◌then◌else◌}
use Rattle.std.specs.Prelude.{List, [], ◌∷◌, ◌++◌, map, Option, Some, None}
use Rattle.air_record.specs.declared.record.Record.{Record}
use Rattle.l2_types.specs.declared.side.Side.{Side}
use Rattle.mac_pdu.specs.declared.item.Direction.{Direction}
use Rattle.mac_pdu.specs.declared.item.Direction.TheVariants.{Down, Up}
use Rattle.um_losses.specs.declared.cursor.Change.{Change}
use Rattle.um_losses.specs.declared.cursor.Cursor.{Cursor}
use Rattle.um_losses.specs.declared.flow.Happening.TheVariants.{LifeRestarted}
use Rattle.um_losses.specs.declared.flow.Whose.TheVariants.{All}
use Rattle.um_losses.specs.Flow.{Flow, begun, after, is_of, concerns}
use Rattle.um_losses.specs.Records.{passed, change_of, passed_forged, forged_change_of}

-- where the records stand, and the flows by the order in which their bearers came
pub record Losses : Type 0 where
  pub cursor : Cursor
  pub flows : List Flow

abbrev pub none_seen : Losses
none_seen = record { cursor = record { direction = Down; process = 0; channel = None }; flows = [] }

-- whether the losses of a flow were long, if it is there
abbrev pub is_long : Direction → ℕ → List Flow → Option Bool
is_long direction lcid [] = None
is_long direction lcid (f ∷ fs) = if is_of direction lcid f then Some f.gaps.long
    else is_long direction lcid fs

-- ---- a bearer comes: its LCID, and the bits of the numbers of RLC and PDCP

abbrev pub is_bearer : ℕ → ℕ → ℕ → Bool
is_bearer lcid rlc_bits pdcp_bits = nat_le lcid 10 && ((rlc_bits == 5) || (rlc_bits == 10))
    && ((pdcp_bits == 7) || (pdcp_bits == 12))

abbrev pub both : ℕ → ℕ → ℕ → List Flow
both lcid rlc_bits pdcp_bits = begun Down lcid rlc_bits (2 ^ pdcp_bits)
    ∷ begun Up lcid rlc_bits (2 ^ pdcp_bits) ∷ []

-- one that can't be, or whose channel has one, isn't added
abbrev pub with_bearer : ℕ → ℕ → ℕ → Losses → Losses
with_bearer lcid rlc_bits pdcp_bits l =
    if not (is_bearer lcid rlc_bits pdcp_bits) || is_some (is_long Down lcid l.flows) then l
    else record l { flows = l.flows ++ both lcid rlc_bits pdcp_bits }

-- ---- what happens

abbrev pub changed_one : Change → Flow → Flow
changed_one change f = if concerns change.whose f then after change.what f else f

abbrev pub changed : Option Change → List Flow → List Flow
changed None flows = flows
changed (Some change) flows = map (changed_one change) flows

-- the next record of a run is seen
unfoldable pub seen : Record → Losses → Losses
seen one l = record {
  cursor = passed one l.cursor;
  flows = changed (change_of one l.cursor) l.flows;
}

-- the next record of a block that is forged at a side is seen
unfoldable pub seen_forged : Side → Record → Losses → Losses
seen_forged side one l = record {
  cursor = passed_forged one l.cursor;
  flows = changed (forged_change_of side one l.cursor) l.flows;
}

-- both ends begin another life
unfoldable pub handed_over : Losses → Losses
handed_over l =
    record l { flows = changed (Some (record { whose = All; what = LifeRestarted })) l.flows }
