-- What a drain makes of the HARQ processes: each block in it arrives, so behind its visit a process
-- holds none; and from the ninth TTI on each block is new, and arrives in the TTI that builds it
-- (docs/laws/DRAIN.md; TS 36.321 5.3.2, 5.4.2).
use Rattle.std.specs.Prelude.{◌≡◌, ℕ, ◌+◌, ◌%◌, ◌<◌, ◌≤◌, true, List, [], ◌∷◌, ◌++◌, length}
use Rattle.std.specs.Prelude.{fold, Some, None, Bool, map, false}
use Rattle.std.specs.List.{filter, AllByRecursion}
use Rattle.air_link.specs.Loops.{loops}
use Rattle.air_link.specs.Ttis.{begins, grows}
use Rattle.l2_node.specs.Building.{visited}
use Rattle.l2_node.specs.End.{End}
use Rattle.l2_node.specs.Hearing.{received}
use Rattle.l2_node.specs.Writing.{needs, written, new_block}
use Rattle.l2_types.specs.declared.side.Side.TheVariants.{Nb, Ue}
use Rattle.prioritise.specs.Shares.{after_allot}
use Rattle.harq.specs.declared.sender.Order.{Order}
use Rattle.harq.specs.declared.sender.Order.TheVariants.{Free, Grant}
use Rattle.air_link.specs.Draining.{drain_tti, receivers_expire, senders_expire}
use Rattle.air_link.specs.Link.{Link, fresh}
use Rattle.air_record.specs.declared.record.Arrived.TheVariants.{Got}
use Rattle.air_record.specs.declared.record.Record.{Record}
use Rattle.air_record.specs.declared.record.Record.TheVariants as records
use Rattle.harq.specs.Receiving.{process_at, was_decoded}
use Rattle.harq.specs.Sending.{held_of, ndi_of}
use Rattle.mac_pdu.specs.declared.item.Direction.{Direction}
use Rattle.mac_pdu.specs.declared.item.Direction.TheVariants.{Down, Up}
use Rattle.promises.specs.Records.{is_of_air}
use Rattle.l2_node.specs.Finding.{has}
use Rattle.l2_types.specs.declared.limits.TheConstants.{GREATEST_GRANT}
use Rattle.prioritise.specs.Channels.{has as has_channel}
use Rattle.law_bearer.specs.AnyBearer.Calls.{Call, Take, Arrive, Expire, after_all}
use Rattle.l2_types.specs.declared.event.Clock.TheVariants.{Reorder, Prohibit, Poll}
use Rattle.test_loop.specs.Loops.{is_on}
use Rattle.law_node.specs.Holding.{flow}
use Rattle.law_deliver.specs.AmFlow.Channels.{only, share_of, held_of as held_on, written_by}
use Rattle.law_run.specs.AnyCalls.Zero.{HaveCome}
use Rattle.law_run.specs.AnyCalls.Deeds.{Entities, entities}
use Rattle.law_run.specs.AnyCalls.Runs.{Step as AnyStep, step}

-- ---- the processes of a TTI

-- they hold no block, and the terminal has decoded the last one
pub record IsClear (t : ℕ) (e : Entities) : Type 0 where
  pub down : held_of e.nb.sender (t % 8) ≡ None
  pub decoded : was_decoded (ndi_of e.nb.sender t) (process_at e.ue.receiver t) ≡ true
  pub up : held_of e.ue.sender (t % 8) ≡ None

pub record HaveEight (e : Entities) : Type 0 where
  pub nb_sends : length e.nb.sender.processes ≡ 8
  pub ue_hears : length e.ue.receiver.processes ≡ 8
  pub ue_sends : length e.ue.sender.processes ≡ 8

-- those of the last so many TTIs
abbrev pub AreClear : ℕ → Link → Type 0
AreClear count l = (t : ℕ) → t < l.ttis → l.ttis ≤ t + count → IsClear t (entities l)

-- ---- the steps of a drain

pub data Step : Type 0 where
  -- a TTI with this grant in both directions
  Tti : ℕ → Step
  -- timers expire behind it
  ReceiversExpire : Step
  SendersExpire : Step

abbrev pub happens : Link → Step → Link
happens l (Tti grant) = drain_tti grant l
happens l ReceiversExpire = receivers_expire l
happens l SendersExpire = senders_expire l

abbrev pub goes : List Step → Link → Link
goes steps l = fold happens l steps

abbrev pub ttis : List Step → ℕ
ttis [] = 0
ttis (Tti grant ∷ steps) = ttis steps + 1
ttis (ReceiversExpire ∷ steps) = ttis steps
ttis (SendersExpire ∷ steps) = ttis steps

abbrev pub IsGranted : Step → Type 0
IsGranted (Tti grant) = 1 ≤ grant
IsGranted ReceiversExpire = Unit {0}
IsGranted SendersExpire = Unit {0}

-- ---- the laws

-- each link has eight, whatever it has played
abbrev pub FirstHasEight : Type 0
FirstHasEight = HaveEight (entities fresh)

abbrev pub StepsKeepEight : Type 0
StepsKeepEight =
    (s : AnyStep) (l : Link) → HaveEight (entities l) → HaveEight (entities (step s l))

abbrev pub ProcessesClear : Type 0
ProcessesClear = (steps : List Step) (l : Link) → HaveEight (entities l)
    → AllByRecursion IsGranted steps → AreClear (ttis steps) (goes steps l)

-- a new block goes by a process, and arrives
abbrev pub arrives_new : Direction → ℕ → ℕ → List ℕ → List Record
arrives_new direction process version octets =
    records.Block direction process true version octets ∷ records.Air direction Got (Some true) ∷ []

-- of all that is told of the air in a TTI
pub record BothArrive (l m : Link) : Type 0 where
  pub more : List Record
  pub out_is : m.out ≡ l.out ++ records.Tti l.ttis ∷ more
  pub down_version : ℕ
  pub down : List ℕ
  pub up_version : ℕ
  pub up : List ℕ
  pub flown_is : filter is_of_air more ≡ arrives_new Down (l.ttis % 8) down_version down
      ++ arrives_new Up (l.ttis % 8) up_version up

abbrev pub BlocksArriveAtOnce : Type 0
BlocksArriveAtOnce = (steps : List Step) (grant : ℕ) (l : Link) → HaveEight (entities l)
    → AllByRecursion IsGranted steps → 8 ≤ ttis steps → 1 ≤ grant
    → BothArrive (goes steps l) (drain_tti grant (goes steps l))

-- ---- what both ends make of a block that arrives at once

-- one end builds it, by a grant, and the other hears it
pub record Brings (t grant : ℕ) (order : Order) (from to from' to' : End) : Type 0 where
  pub built_is : from'.bearers ≡ (written (visited t order from) grant).bearers
  pub shared_is : from'.buckets
      ≡ after_allot from.buckets (needs (visited t order from) grant) (grant + 2)
  pub heard_is : to'.bearers ≡ (received to (new_block (visited t order from) grant)).bearers
  pub rests_is : to'.buckets ≡ to.buckets

-- on the downlink of a TTI, and behind the test loop on the uplink
pub record BringsBoth (t grant : ℕ) (l m : Link) : Type 0 where
  pub down : Link
  pub ndi : Bool
  pub goes_down : Brings t grant Free l.nb l.ue down.nb down.ue
  pub goes_up : Brings t grant (Grant ndi) (loops down).ue (loops down).nb m.ue m.nb

-- as a TTI begins buckets grow
abbrev pub grown : Link → Link
grown l = grows Ue (grows Nb (begins l))

abbrev pub BlocksAreHeardAtOnce : Type 0
BlocksAreHeardAtOnce = (steps : List Step) (grant : ℕ) (l : Link) → HaveEight (entities l)
    → AllByRecursion IsGranted steps → 8 ≤ ttis steps → 1 ≤ grant
    → BringsBoth (goes steps l).ttis grant (grown (goes steps l)) (drain_tti grant (goes steps l))

-- ---- what the bearers of a channel do in it

-- what is taken of its share, told of the lowest number that HARQ holds
abbrev pub taken_by : End → ℕ → ℕ → List Call
taken_by e grant l =
    only (has_channel l e.buckets.channels) (Take (share_of e grant l) (held_on e l))

-- one takes by its share, where the channel has one, and the other hears just what it writes
pub record TakesAndHears (l t grant : ℕ) (order : Order) (from to from' to' : End) : Type 0 where
  pub takes : flow l from' ≡ after_all (flow l from) (taken_by (visited t order from) grant l)
  pub hears : flow l to'
      ≡ after_all (flow l to) (map (λ pdu. Arrive pdu) (written_by (visited t order from) grant l))

pub record BothTakeAndHear (l t grant : ℕ) (k m : Link) : Type 0 where
  pub down : Link
  pub ndi : Bool
  pub goes_down : TakesAndHears l t grant Free k.nb k.ue down.nb down.ue
  pub goes_up : TakesAndHears l t grant (Grant ndi) (loops down).ue (loops down).nb m.ue m.nb

-- of a channel that both ends have
abbrev pub HaveChannel : ℕ → Link → Type 0
HaveChannel l k = (has l k.nb.bearers ≡ true) × (has l k.ue.bearers ≡ true)

abbrev pub BearersHearAtOnce : Type 0
BearersHearAtOnce = (steps : List Step) (grant : ℕ) (k : Link) (l : ℕ) → HaveEight (entities k)
    → AllByRecursion IsGranted steps → 8 ≤ ttis steps → 1 ≤ grant → grant ≤ GREATEST_GRANT
    → HaveCome (goes steps k) → HaveChannel l (goes steps k)
    → BothTakeAndHear l (goes steps k).ttis grant (grown (goes steps k))
    (drain_tti grant (goes steps k))

-- ---- the timers that expire behind a TTI

-- those of a receiver of a channel, and that of a sender, each once; one that doesn't run does
-- nothing
abbrev pub receiver_timers : List Call
receiver_timers = Expire Reorder ∷ Expire Prohibit ∷ []

abbrev pub sender_timers : List Call
sender_timers = Expire Poll ∷ []

pub record BothExpire (l : ℕ) (timers : List Call) (k m : Link) : Type 0 where
  pub nb_is : flow l m.nb ≡ after_all (flow l k.nb) timers
  pub ue_is : flow l m.ue ≡ after_all (flow l k.ue) timers

-- no test loop is on, as in each drain
abbrev pub IsLoopOff : Link → Type 0
IsLoopOff k = is_on k.looping.mode ≡ false

abbrev pub LoopsRest : Type 0
LoopsRest = (k : Link) → IsLoopOff k → loops k ≡ record k { ups = [] }

abbrev pub TimersExpireOnce : Type 0
TimersExpireOnce = (k : Link) (l : ℕ) → l ≤ 10 → IsLoopOff k → HaveCome k → HaveChannel l k
    → BothExpire l receiver_timers k (receivers_expire k)
    × BothExpire l sender_timers k (senders_expire k)
