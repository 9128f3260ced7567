-- What is promised of the journal of every script, over its groups, of which the newest stands
-- first (docs/formats/JOURNAL.md).
use Rattle.std.specs.Prelude.{◌≡◌, ℕ, Bool, List, ◌++◌}
use Rattle.std.specs.List.{filter}
use Rattle.air_run.specs.Journal.{RunPlayed}
use Rattle.air_text.specs.Groups.{Group, history}
use Rattle.promises.specs.Air.{is_tti, ttis, numbered}
use Rattle.promises.specs.Arrival.{HandUpWhatCame}
use Rattle.promises.specs.Bearers.{BearersBeginFirst, CountsAreTold}
use Rattle.promises.specs.Carried.{AreCarried}
use Rattle.promises.specs.Counts.{CountsAscend}
use Rattle.promises.specs.Delivery.{DeliversInOrder}
use Rattle.promises.specs.Drained.{DrainsEnd, DrainsLeaveNothing}
use Rattle.law_run.specs.DrainEnds.{NoneSpendsItsBudget}
use Rattle.law_run.specs.Ends.{ComeByCalls}
use Rattle.promises.specs.FewVisits.{VisitsAreFew}
use Rattle.promises.specs.HalfWindow.{TakesStayInHalf}
use Rattle.promises.specs.Keys.{all_keys}
use Rattle.law_words.specs.Lists.{AreDistinct}
use Rattle.promises.specs.Limits.{QueuesAreShort}
use Rattle.promises.specs.LineRules.{LinesKeepRules}
use Rattle.promises.specs.Loops.{ReturnInOrder}
use Rattle.promises.specs.OwnPdus.{PdusAreOwn}
use Rattle.law_run.specs.Losses.{DeliversWhileShort}
use Rattle.law_run.specs.Order.{KeepsOrder}
use Rattle.promises.specs.RightAir.{AirIsRight}
use Rattle.promises.specs.RightForm.{FormIsRight}
use Rattle.promises.specs.SentNumbers.{NumbersAreSent}
use Rattle.promises.specs.Sequence.{HandUpInSequence}
use Rattle.promises.specs.Signalling.{DeliversEachLife, DrainsLeaveNoSignal, HandoversBringNoSignal}
use Rattle.law_run.specs.Script.{lines_of, accepted_lines, LinesAscend}
use Rattle.promises.specs.Silent.{FailedAreSilent}
use Rattle.law_run.specs.Sums.{sums_at}
use Rattle.law_run.specs.Texts.{NoneMeet}
use Rattle.promises.specs.Sleeps.{SleepsBehindDrx}
use Rattle.promises.specs.Takes.{TakesName, SdusLeaveInOrder, SignalsLeaveInOrder}
use Rattle.promises.specs.Telling.{LinesTell}
use Rattle.promises.specs.WaitingSdus.{SdusWait}
use Rattle.promises.specs.Zero.{BringInOrder}

-- the journal of octets, of which more may come, with its promises: its groups, and at its end the
-- sums where it is finished
pub record IsPromised (whole : Bool) (octets : List ℕ) (played : RunPlayed) : Type 0 where
  pub past : List Group
  pub journal_is : played.journal ≡ history past ++ sums_at played.close past
  -- its lines are those of the script that are accepted, each with its number
  pub lines_are : lines_of past ≡ accepted_lines whole octets played.close
  -- so the numbers of its lines grow, as a checker of any journal asks it
  pub ascend : LinesAscend past
  pub order : KeepsOrder past
  -- each line keeps the rules of scripts, as a checker asks it of any journal
  pub rules : LinesKeepRules past
  -- each bearer's line stands before all records, and is the only one of its channel
  pub bearers : BearersBeginFirst past
  -- its TTIs are numbered from 0 on, each once
  pub in_turn : filter is_tti (history past) ≡ numbered 0 (ttis past)
  -- the terminal sleeps only behind a `drx` line
  pub sleeps : SleepsBehindDrx past
  -- a block has at most 28 visits
  pub few : VisitsAreFew past
  -- its blocks are those of HARQ's processes, in every life
  pub carried : AreCarried past
  -- so what is told of the air is right, as a checker of any journal asks it
  pub air : AirIsRight past
  -- its new blocks have right form, as one asks it too
  pub form : FormIsRight past
  -- no key is given twice
  pub keys : AreDistinct (all_keys past)
  -- and from one handover to the next the COUNTs ascend that a side takes on a channel
  pub counts : CountsAscend past
  -- on an acknowledged data bearer each `take` tells its COUNT, of 32 bits
  pub counted : CountsAreTold past
  -- under one key no two texts meet at one COUNT, BEARER and DIRECTION
  pub texts : NoneMeet past
  -- both ends have come by calls of their own, and what is told of each is what it tells in these
  pub ends : ComeByCalls past
  -- what the test loop returns went up before, and what it loses is told
  pub loops : ReturnInOrder past
  -- what goes up on LCID 0 is what the blocks carry that arrive
  pub brought : BringInOrder past
  -- each acknowledged data bearer hands up what was submitted at the other end, in order
  pub delivered : DeliversInOrder past
  -- exactly those before the first that hasn't come, as the blocks tell, none of which is held back
  pub came : HandUpWhatCame past
  -- each `take` names the SDU of its COUNT, with its length
  pub takes : TakesName past
  -- each unacknowledged data bearer takes or discards the SDUs that it is submitted in their order
  pub leaving : SdusLeaveInOrder past
  -- and so does that of LCID 0, and each signalling bearer, those submitted since the last handover
  pub signals_leaving : SignalsLeaveInOrder past
  -- as a first `take`, or a `discard`, of acknowledged data stands, an SDU waits that was submitted
  -- before it, and none is taken ahead of its turn
  pub waits : SdusWait past
  -- and no more than 1024 SDUs wait
  pub queues : QueuesAreShort past
  -- as a `take` of acknowledged data stands, each SDU whose COUNT lies half the numbers or more
  -- below its own has arrived whole
  pub in_half : TakesStayInHalf past
  -- the data PDUs that are written of acknowledged data carry octets of their own numbers
  pub own : PdusAreOwn past
  -- each drain ends drained, by its last record
  pub ended : DrainsEnd past
  -- both ends are drained behind it, within its budget of rounds
  pub within_budget : NoneSpendsItsBudget past
  -- behind it all of it has gone up but what is discarded, but where the sender gave up
  pub drained : DrainsLeaveNothing past
  -- each signalling bearer hands up what was submitted at the other end since the last handover, in
  -- order
  pub signalled : DeliversEachLife past
  -- exactly those before the first that hasn't come, as the blocks tell
  pub sequence : HandUpInSequence past
  -- and all of it behind each drain, but where the sender gave up
  pub signals_drained : DrainsLeaveNoSignal past
  -- and in a handover nothing of it goes up
  pub signals_moved : HandoversBringNoSignal past
  -- a sender that gives up sends no data PDU behind that and gives up no more, up to the next
  -- handover
  pub silent : FailedAreSilent past
  -- in each life the new PDUs of an acknowledged data bearer have the numbers 0, 1, 2, .., and one
  -- that is sent again is one of the last 512
  pub numbers : NumbersAreSent past
  -- each unacknowledged data bearer hands up some of what was submitted at the other end, in order,
  -- while losses are short
  pub delivered_short : DeliversWhileShort past
  -- the records of each line stand in the order in which both ends, the blocks and the loop come to
  -- their turns
  pub in_order : LinesTell past
