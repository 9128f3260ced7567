-- What is dropped by the test loop, which the link tells in the terminal's name, is told in no call
-- of an end (TS 36.509 5.4).
use Rattle.l2_node.specs.End.{End}
use Rattle.law_node.specs.Calls.{Call}
use Rattle.law_node.specs.Telling.{told_of}
use Rattle.promises.specs.Events.{TellNoLoop}

-- of any end, in any call
abbrev pub TellsNoLoop : Type 0
TellsNoLoop = (e : End) (c : Call) → TellNoLoop (told_of e c)
