-- Both ends over the air (TS 36.321 5.3, 5.4).
use Rattle.std.specs.Prelude.{ℕ, Bool, false, List, [], ◌∷◌, ◌++◌, Option, None, replicate}
use Rattle.air_record.specs.declared.record.Record.{Record}
use Rattle.drx.specs.Drx.{State as Listening}
use Rattle.l2_node.specs.End.{End, fresh as fresh_end}
use Rattle.l2_types.specs.declared.side.Side.{Side}
use Rattle.l2_types.specs.declared.side.Side.TheVariants.{Nb, Ue}
use Rattle.pdu_show.specs.Kinds.{none_known}
use Rattle.pdu_show.specs.declared.kinds.Layout.{Layout}
use Rattle.test_loop.specs.Items.{Item}
use Rattle.test_loop.specs.Loops.{State as Looping, fresh as no_loop}

-- the flows of a direction, by LCID: the SDUs submitted and delivered, and whether the limit was
-- reached in this life
pub record Flows : Type 0 where
  pub submitted : List ℕ
  pub delivered : List ℕ
  pub failed : List Bool

abbrev pub no_flows : Flows
no_flows = record {
  submitted = replicate 11 0;
  delivered = replicate 11 0;
  failed = replicate 11 false;
}

pub record Link : Type 0 where
  pub nb : End
  pub ue : End
  -- the TTIs so far
  pub ttis : ℕ
  pub down : Flows
  pub up : Flows
  -- the test loop at the terminal, and the SDUs that the terminal handed up and that the loop has
  -- still to take
  pub looping : Looping
  pub ups : List Item
  -- when the terminal listens, and for each downlink process whether the terminal saw its block
  pub drx : Option Listening
  pub seen : List Bool
  -- how PDUs are shown
  pub kinds : List (Option Layout)
  -- the records of this line so far
  pub out : List Record

-- before the first line: 4 visits of a block, and no report
unfoldable pub fresh : Link
fresh = record {
  nb = fresh_end Nb 4 false;
  ue = fresh_end Ue 4 false;
  ttis = 0;
  down = no_flows;
  up = no_flows;
  looping = no_loop;
  ups = [];
  drx = None;
  seen = replicate 8 false;
  kinds = none_known;
  out = [];
}

abbrev pub says : Record → Link → Link
says one l = record l { out = l.out ++ one ∷ [] }

abbrev pub end_of : Side → Link → End
end_of Nb l = l.nb
end_of Ue l = l.ue

abbrev pub with_end : Side → End → Link → Link
with_end Nb e l = record l { nb = e }
with_end Ue e l = record l { ue = e }

-- the flows that a side sends, and those that it hears
abbrev pub sent_flows : Side → Link → Flows
sent_flows Nb l = l.down
sent_flows Ue l = l.up

abbrev pub with_sent_flows : Side → Flows → Link → Link
with_sent_flows Nb f l = record l { down = f }
with_sent_flows Ue f l = record l { up = f }
