-- What the other lines of a script do to both ends
-- (TS 36.321 5.9, TS 36.322 5.4, TS 36.323 5.2, TS 36.300 10.1.2).
use Rattle.std.specs.Prelude.{ℕ, true, false, Option, Some, None, option_map, List, replicate}
use Rattle.air_record.specs.declared.record.NoPlace.{NoPlace}
use Rattle.air_record.specs.declared.record.NoPlace.TheVariants.{Full, Count}
use Rattle.air_record.specs.declared.record.Record.TheVariants as records
use Rattle.bearer_types.specs.declared.event.Event.{Event}
use Rattle.bearer_types.specs.declared.config.BearerConfig.{BearerConfig}
use Rattle.drx.specs.Drx.{fresh as fresh_listening, after_reset}
use Rattle.eps_sec.specs.declared.Keys.{Keys}
use Rattle.l2_bits.specs.declared.fault.SubmitRefusal.{SubmitRefusal}
use Rattle.l2_bits.specs.declared.fault.SubmitRefusal.TheVariants as refusals
use Rattle.l2_node.specs.End.{End, with_bearer, with_visits}
use Rattle.l2_node.specs.Hearing.{expiry, expired}
use Rattle.l2_node.specs.Moving.{left_cell, leaving, joined}
use Rattle.l2_node.specs.Submitting.{refusal, submitted, discarding}
use Rattle.l2_types.specs.declared.config.DrxConfig.{DrxConfig}
use Rattle.l2_types.specs.declared.event.Clock.{Clock}
use Rattle.l2_types.specs.declared.side.Side.{Side}
use Rattle.l2_types.specs.declared.side.Side.TheVariants.{Nb, Ue}
use Rattle.pdu_show.specs.Kinds.{with_kind}
use Rattle.air_link.specs.Link.{Flows, Link, says, end_of, with_end}
use Rattle.air_link.specs.Telling.{submits, tells_all}
use Rattle.air_link.specs.Loops.{loops}
use Rattle.air_link.specs.Downlink.{hears}

-- a bearer comes at both ends
unfoldable pub bears : BearerConfig → Keys → Link → Link
bears c keys l = record l {
  nb = with_bearer c keys l.nb;
  ue = with_bearer c keys l.ue;
  kinds = with_kind l.kinds c.channel.lcid c.kind c.rlc_bits c.pdcp_bits;
}

-- the discard timers of a bearer
unfoldable pub discards : ℕ → ℕ → Link → Link
discards lcid ttis l = record l { nb = discarding lcid ttis l.nb; ue = discarding lcid ttis l.ue }

-- the most visits of a block, before the first one
unfoldable pub visits : ℕ → Link → Link
visits maximum l = record l { nb = with_visits maximum l.nb; ue = with_visits maximum l.ue }

-- the terminal reports its buffers
unfoldable pub reports : Link → Link
reports l = record l { ue = record l.ue { reports = true } }

unfoldable pub listens : DrxConfig → Link → Link
listens c l = record l { drx = Some (fresh_listening c) }

-- ---- an SDU is submitted

-- a refusal that leaves a record: of an SDU of a script's line only those of room and COUNT come
abbrev pub no_place : SubmitRefusal → NoPlace
no_place refusals.CountEnd = Count
no_place other = Full

abbrev pub hands_in : Side → ℕ → List ℕ → Link → Link
hands_in side lcid sdu l = with_end side (submitted lcid sdu (end_of side l)) l

abbrev pub submits_by : Option SubmitRefusal → Side → ℕ → List ℕ → Link → Link
submits_by (Some broken) side lcid sdu l = says (records.Refused side lcid (no_place broken)) l
submits_by None side lcid sdu l = submits side lcid (hands_in side lcid sdu l)

unfoldable pub submitting : Side → ℕ → List ℕ → Link → Link
submitting side lcid sdu l = submits_by (refusal lcid sdu (end_of side l)) side lcid sdu l

-- ---- a timer expires, a block is forged

abbrev pub expires_by : Option (List Event) → Side → Link → Link
expires_by None side l = l
expires_by (Some events) side l = loops (tells_all side events l)

-- none where that timer doesn't run
abbrev pub expiring : Side → ℕ → Clock → Link → Option (List Event)
expiring side lcid clock l = expiry lcid clock (end_of side l)

abbrev pub expires_alone : Side → ℕ → Clock → Link → Link
expires_alone side lcid clock l = with_end side (expired lcid clock (end_of side l)) l

unfoldable pub expires : Side → ℕ → Clock → Link → Link
expires side lcid clock l =
    expires_by (expiring side lcid clock l) side (expires_alone side lcid clock l)

unfoldable pub forges : Side → List ℕ → Link → Link
forges side block l = loops (hears side block l)

-- ---- a handover: both ends leave, and join under other keys

abbrev pub moved : End → Keys → End
moved e keys = joined (left_cell e) keys

abbrev pub unfailed : Flows → Flows
unfailed f = record f { failed = replicate 11 false }

-- no sender has failed, no block is seen, and the terminal listens as at first
abbrev pub begins_life : Link → Link
begins_life l = record l {
  down = unfailed l.down;
  up = unfailed l.up;
  seen = replicate 8 false;
  drx = option_map after_reset l.drx;
}

-- both ends in their next life
abbrev pub moves : Keys → Link → Link
moves keys l = begins_life (record l { nb = moved l.nb keys; ue = moved l.ue keys })

unfoldable pub hands_over : Keys → Link → Link
hands_over keys l = loops (tells_all Ue (leaving l.ue) (tells_all Nb (leaving l.nb) (moves keys l)))
