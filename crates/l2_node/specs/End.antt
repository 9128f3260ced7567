-- One end of the link: its bearers under one MAC entity (TS 36.321 4.2).
use Rattle.std.specs.Prelude.{ℕ, Bool, false, if◌then◌else◌, List, [], replicate, insert, None}
use Rattle.bearer.specs.Bearer.{Of, Life, begun}
use Rattle.bearer_types.specs.declared.config.BearerConfig.{BearerConfig}
use Rattle.eps_sec.specs.declared.Keys.{Keys}
use Rattle.harq.specs.Sending.{Sending, fresh as fresh_sender}
use Rattle.harq.specs.Receiving.{Receiving, fresh as fresh_receiver}
use Rattle.l2_types.specs.declared.channel.Channel.{Channel}
use Rattle.l2_types.specs.declared.side.Side.{Side}
use Rattle.prioritise.specs.Channels.{has as has_channel}
use Rattle.prioritise.specs.Shares.{Bucketed, no_channels, added, emptied}
use Rattle.l2_node.specs.Finding.{Numbers, place}

-- the bearers by ascending LCID; the channels' buckets; the HARQ processes of what is sent and of
-- what comes; the numbers in the last block of each process that sends; and whether buffers are
-- reported in padding
pub record End : Type 0 where
  pub side : Side
  pub reports : Bool
  pub bearers : List (Of Life)
  pub buckets : Bucketed
  pub sender : Sending
  pub receiver : Receiving
  pub numbers : Numbers

abbrev pub no_numbers : Numbers
no_numbers = replicate 8 (replicate 11 None)

-- an end without bearers
unfoldable pub fresh : Side → ℕ → Bool → End
fresh side maximum reports = record {
  side = side;
  reports = reports;
  bearers = [];
  buckets = no_channels;
  sender = fresh_sender maximum;
  receiver = fresh_receiver maximum;
  numbers = no_numbers;
}

-- a channel has one bucket
abbrev pub with_channel : Channel → Bucketed → Bucketed
with_channel c b = if has_channel c.lcid b.channels then b else added c b

-- a bearer more
unfoldable pub with_bearer : BearerConfig → Keys → End → End
with_bearer c keys e = record e {
  bearers = insert e.bearers (place c.channel.lcid e.bearers) (begun c keys e.side);
  buckets = with_channel c.channel e.buckets;
}

-- a MAC reset (TS 36.321 5.9): buckets and processes are empty
unfoldable pub reset : End → End
reset e = record e {
  buckets = emptied e.buckets;
  sender = fresh_sender e.sender.maximum;
  receiver = fresh_receiver e.receiver.maximum;
  numbers = no_numbers;
}

-- another number of visits of a block: the processes are empty
unfoldable pub with_visits : ℕ → End → End
with_visits maximum e = record e {
  sender = fresh_sender maximum;
  receiver = fresh_receiver maximum;
  numbers = no_numbers;
}

-- an end that has joined a cell; one that ran out of memory answers so from then on to each call
-- that can
pub record Attached : Type 0 where
  pub end : End
  pub dead : Bool

abbrev pub attached : End → Attached
attached end = record { end = end; dead = false }
