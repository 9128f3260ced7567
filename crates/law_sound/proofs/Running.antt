-- The run of a script tells of its flows, as is promised of it, and so what it hands up is right.
use Rattle.law_sound.specs.RunLaws.{RunsTellFlows, RunsDeliver}
use Rattle.law_sound.proofs.Delivering.{delivered_follows}

pub runs_tell_flows : RunsTellFlows
runs_tell_flows whole octets played p = record {
  form = p.form;
  air = p.air;
  order = p.in_order;
  bearers = p.bearers;
  counts = p.counted;
  numbers = p.numbers;
  own = p.own;
  few = p.few;
}

pub runs_deliver : RunsDeliver
runs_deliver may_take whole octets played p unforged =
    delivered_follows may_take p.past (runs_tell_flows whole octets played p) p.waits p.came unforged
