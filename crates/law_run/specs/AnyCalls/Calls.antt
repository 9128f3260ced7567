-- The calls of a link that are neither a TTI nor a submission (TS 36.321 5.3, 5.4).
use Rattle.std.specs.Prelude.{ℕ, List}
use Rattle.bearer_types.specs.declared.config.BearerConfig.{BearerConfig}
use Rattle.eps_sec.specs.declared.Keys.{Keys}
use Rattle.l2_types.specs.declared.config.DrxConfig.{DrxConfig}
use Rattle.l2_types.specs.declared.event.Clock.{Clock}
use Rattle.l2_types.specs.declared.side.Side.{Side}
use Rattle.test_loop.specs.declared.Mode.{Mode}
use Rattle.air_link.specs.Link.{Link}
use Rattle.air_link.specs.Loops.{loop_set}
use Rattle.air_link.specs.Draining.{receivers_expire, senders_expire}
use Rattle.air_link.specs.Lines.{bears, discards, visits, reports, listens, expires, forges}
use Rattle.air_link.specs.Lines.{hands_over}

pub data Call : Type 0 where
  Bears : BearerConfig → Keys → Call
  Discards : ℕ → ℕ → Call
  Visits : ℕ → Call
  Reports : Call
  Listens : DrxConfig → Call
  Loops : Mode → Call
  Expires : Side → ℕ → Clock → Call
  Forges : Side → List ℕ → Call
  HandsOver : Keys → Call
  ReceiversExpire : Call  -- in a drain
  SendersExpire : Call

abbrev pub after : Call → Link → Link
after (Bears c keys) l = bears c keys l
after (Discards lcid ttis) l = discards lcid ttis l
after (Visits maximum) l = visits maximum l
after Reports l = reports l
after (Listens c) l = listens c l
after (Loops mode) l = loop_set mode l
after (Expires side lcid clock) l = expires side lcid clock l
after (Forges side block) l = forges side block l
after (HandsOver keys) l = hands_over keys l
after ReceiversExpire l = receivers_expire l
after SendersExpire l = senders_expire l
