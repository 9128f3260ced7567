-- Where no block is forged no end tells of a PDU on a channel without a bearer, as the records of a line stand.
use Rattle.std.proofs.Common.{◌≡◌, ℕ, zero, suc, ◌+◌, ◌==◌, Bool, true, false, cond, Option, Some, None, Result, Ok}
use Rattle.std.proofs.Common.{Err, List, [], ◌∷◌, map, sym, subst, refl, inl, inr}
use Rattle.std.specs.List.{AllByRecursion, filter, list_any}
use Rattle.air_record.specs.declared.line.Line.{Line}
use Rattle.air_record.specs.declared.line.Line.TheVariants as lines
use Rattle.air_record.specs.declared.record.Arrived.{Arrived}
use Rattle.air_record.specs.declared.record.Arrived.TheVariants as arriveds
use Rattle.air_record.specs.declared.record.Record.{Record}
use Rattle.air_record.specs.declared.record.Record.TheVariants as records
use Rattle.bearer_types.specs.Lcids.{all_lcids}
use Rattle.bearer_types.specs.Sides.{sent_by, heard_by, other}
use Rattle.bearer_types.specs.declared.event.Event.{Event}
use Rattle.bearer_types.specs.declared.event.Event.TheVariants as events
use Rattle.l2_types.specs.declared.channel.Channel.{Channel}
use Rattle.l2_types.specs.declared.event.Clock.{Clock}
use Rattle.l2_types.specs.declared.event.Clock.TheVariants.{Poll, Reorder, Prohibit}
use Rattle.l2_types.specs.declared.event.Lost.TheVariants as losts
use Rattle.l2_types.specs.declared.side.Side.{Side}
use Rattle.l2_types.specs.declared.side.Side.TheVariants.{Nb, Ue}
use Rattle.law_words.specs.BearerOrder.{in_a_block, of_a_channel, of_an_expiry, in_a_tti, at_the_end, is_srb}
use Rattle.law_words.specs.Sequences.{SequencesOf, just, ◌then◌, maybe, each}
use Rattle.mac_pdu.specs.Items.{MacItem, sdu}
use Rattle.mac_pdu.specs.Reading.{reading}
use Rattle.mac_pdu.specs.declared.fault.MacRefusal.{MacRefusal}
use Rattle.pdu_show.specs.Show.{block_shown}
use Rattle.pdu_show.specs.declared.kinds.Layout.{Layout}
use Rattle.promises.proofs.ShownBlocks.{AllShown, block_shows}
use Rattle.promises.specs.Air.{InTurn}
use Rattle.promises.specs.Delivery.{forges}
use Rattle.promises.specs.Events.{is_of_loop}
use Rattle.promises.specs.Order.{Channels, OfRecords, EndTells, IsOfLoop, LoopTells, CanBeRead, IsFor, of_an_item}
use Rattle.promises.specs.Order.{of_items, of_hearing, of_building, of_timers, of_leaving, IsNew, IsAgain, GoesOut}
use Rattle.promises.specs.Order.{IsHeard, Misses, PassesOver, MayPassOver, BothPassOver, TtiTells, DrainTtiTells}
use Rattle.promises.specs.Order.{ExpiryTells, TimerTells, ReceiverTells, ReceiversTell, SenderTells}
use Rattle.promises.specs.Order.{HandoverTells}
use Rattle.promises.specs.Records.{is_shown}
use Rattle.promises.specs.Telling.{LineTells, SendersTellUnless, RoundTells, DrainTells}
use Rattle.law_deliver.proofs.AmFlow.Events.{Hold, both, never, one, behind, either, perhaps, each_one, in_turn}
use Rattle.law_deliver.proofs.AmFlow.Events.{IsOfBearer, OfWriting, OfHearing, of_sdus, block_holds, pdu_holds}
use Rattle.law_deliver.proofs.AmFlow.Events.{expiry_holds, tti_holds, end_holds}

-- ---- events and records

-- none of a PDU on a channel without a bearer
abbrev pub IsOfBearers : Event → Type 0
IsOfBearers (events.Drop lcid why) = IsOfBearer why
IsOfBearers event = Unit {0}

-- what the loop drops is the terminal's
abbrev pub StandsAt : Side → Event → Type 0
StandsAt side (events.Drop lcid losts.NoBearer) = ⊥
StandsAt side (events.Drop lcid losts.Loop) = side ≡ Ue
StandsAt side event = Unit {0}

-- nor is an SDU refused
abbrev pub MayStand : Record → Type 0
MayStand (records.Of side event) = StandsAt side event
MayStand (records.Refused side lcid why) = ⊥
MayStand one = Unit {0}

abbrev Stand : OfRecords → Type 0
Stand These = Hold MayStand These

-- ---- what a bearer tells

writing : (m : ℕ) → OfWriting IsOfBearers m
writing m = record {
  send = λ way sn. tt;
  start = λ clock. tt;
  report = λ fms bitmap. tt;
  take = λ count len. tt;
  wait = λ why. tt;
}

hearing : (m : ℕ) → OfHearing IsOfBearers m
hearing m = record {
  start = λ clock. tt;
  stop = λ clock. tt;
  expired = λ clock. tt;
  up = λ sdu. tt;
  fail = λ sn. tt;
  drop = λ why of_bearer. of_bearer;
  integrity = λ found wanted. tt;
  bad_rlc = λ fault. tt;
  bad_pdcp = λ fault. tt;
}

-- ---- what an end tells

abbrev EventsStand : SequencesOf Event → Type 0
EventsStand of = Hold IsOfBearers of

builds : (c : Channels) → EventsStand (of_building c)
builds c =
    each_one IsOfBearers (λ (d : Channel). in_a_block d.lcid)
    (λ d. block_holds IsOfBearers d.lcid (writing d.lcid)) c.by_priority

channel_there : (b : Bool) (l : ℕ) → b ≡ true → EventsStand (of_a_channel b l)
channel_there true l there = pdu_holds IsOfBearers l (hearing l)
channel_there false l none = absurd cc

item_there : (c : Channels) (i : MacItem) → IsFor c i → EventsStand (of_an_item c i)
item_there c (sdu lcid octets) there = channel_there (list_any (λ n. n == lcid) c.by_lcid) lcid there
item_there c item there = never IsOfBearers

hears : (c : Channels) (r : Result (List MacItem) MacRefusal) → CanBeRead c r → EventsStand (of_items c r)
hears c (Ok items) h = in_turn IsOfBearers (IsFor c) (of_an_item c) (item_there c) items h
hears c (Err refusal) h = absurd h

ticks : (c : Channels) → EventsStand (of_timers c)
ticks c = each_one IsOfBearers in_a_tti (λ l. tti_holds IsOfBearers l (hearing l) (λ len. tt)) c.by_lcid

leaves : (c : Channels) → EventsStand (of_leaving c)
leaves c =
    each_one IsOfBearers (λ (l : ℕ). at_the_end (is_srb l) l)
    (λ l. end_holds IsOfBearers l (of_sdus IsOfBearers l (hearing l)) (is_srb l)) c.by_lcid

-- ---- as records

one_event : (side : Side) (event : Event) → IsOfBearers event → is_of_loop event ≡ false → StandsAt side event
one_event side (events.Drop lcid losts.NoBearer) h e = absurd h
one_event side (events.Drop lcid losts.Loop) h e = absurd cc
one_event side event h e = tt

none_kept : (b : Bool) (event : Event) (rest : List Event) → cond b (event ∷ rest) rest ≡ []
    → (b ≡ false) × (rest ≡ [])
none_kept true event rest e = absurd cc
none_kept false event rest e = (refl, e)

all_events : (side : Side) (told : List Event) → AllByRecursion IsOfBearers told → filter is_of_loop told ≡ []
    → AllByRecursion MayStand (map (records.Of side) told)
all_events side [] h e = tt
all_events side (event ∷ told) h e =
    let parts = none_kept (is_of_loop event) event (filter is_of_loop told) e in
    (one_event side event h.0 parts.0, all_events side told h.1 parts.1)

ends : (side : Side) (of : SequencesOf Event) → EventsStand of → Stand (EndTells side of)
ends side of h told r =
    subst (AllByRecursion MayStand) (sym r.told_is) (all_events side r.events (h r.events r.in_order) r.no_loop)

loop_one : (x : Record) → IsOfLoop x → MayStand x
loop_one (records.Looped lcid octets) h = tt
loop_one (records.Of Ue (events.Drop lcid losts.Loop)) h = refl
loop_one x h = absurd h

loops : Stand LoopTells
loops [] h = tt
loops (x ∷ told) h = (loop_one x h.0, loops told h.1)

-- ---- a block

shown_one : (x : Record) → is_shown x ≡ true → MayStand x
shown_one (records.Of side event) e = absurd cc
shown_one (records.Refused side lcid why) e = absurd cc
shown_one x e = tt

shown_all : (told : List Record) → AllShown told → AllByRecursion MayStand told
shown_all [] h = tt
shown_all (x ∷ told) h = (shown_one x h.0, shown_all told h.1)

news : (side : Side) (t : ℕ) (kinds : List (Option Layout)) (octets : List ℕ) → Stand (IsNew side t kinds octets)
news side t kinds octets told e =
    subst (AllByRecursion MayStand) (sym e)
    (tt, shown_all (block_shown (sent_by side) kinds octets) (block_shows kinds (reading (sent_by side) octets)))

again : (side : Side) (t : ℕ) (octets : List ℕ) → Stand (IsAgain side t octets)
again side t octets told r = subst (AllByRecursion MayStand) (sym r.told_is) (tt, tt)

goes_out : (side : Side) (t : ℕ) (kinds : List (Option Layout)) (c : Channels) (octets : List ℕ)
    → Stand (GoesOut side t kinds c octets)
goes_out side t kinds c octets =
    either MayStand (EndTells side (of_building c) then IsNew side t kinds octets) (IsAgain side t octets)
    (behind MayStand (EndTells side (of_building c)) (IsNew side t kinds octets)
    (ends side (of_building c) (builds c)) (news side t kinds octets))
    (again side t octets)

is_heard : (side : Side) (what : Arrived) (c : Channels) (octets : List ℕ)
    → CanBeRead c (reading (heard_by side) octets) → Stand (IsHeard side what c octets)
is_heard side arriveds.Got c octets h =
    ends side (of_hearing c (heard_by side) octets) (hears c (reading (heard_by side) octets) h)
is_heard side what c octets h = never MayStand

passes : (side : Side) (t : ℕ) (kinds : List (Option Layout)) (c : Side → Channels)
    → Stand (PassesOver side t kinds c)
passes side t kinds c told r =
    behind MayStand (GoesOut side t kinds (c side) r.octets)
    (just (records.Air (sent_by side) r.what (Some r.feedback))
    then IsHeard (other side) r.what (c (other side)) r.octets)
    (goes_out side t kinds (c side) r.octets)
    (behind MayStand (just (records.Air (sent_by side) r.what (Some r.feedback)))
    (IsHeard (other side) r.what (c (other side)) r.octets)
    (one MayStand (records.Air (sent_by side) r.what (Some r.feedback)) tt)
    (is_heard (other side) r.what (c (other side)) r.octets r.can_be_read)) told r.in_turn

misses : (side : Side) → Stand (Misses side)
misses Nb = never MayStand
misses Ue = one MayStand (records.Air (sent_by Ue) arriveds.Nothing None) tt

may_pass : (side : Side) (t : ℕ) (kinds : List (Option Layout)) (c : Side → Channels)
    → Stand (MayPassOver side t kinds c)
may_pass side t kinds c told (inl none) = never MayStand told none
may_pass side t kinds c told (inr (inl h)) = misses side told h
may_pass side t kinds c told (inr (inr h)) = passes side t kinds c told h

both_pass : (t : ℕ) (kinds : List (Option Layout)) (c : Side → Channels) → Stand (BothPassOver t kinds c)
both_pass t kinds c =
    behind MayStand (MayPassOver Nb t kinds c) (LoopTells then MayPassOver Ue t kinds c) (may_pass Nb t kinds c)
    (behind MayStand LoopTells (MayPassOver Ue t kinds c) loops (may_pass Ue t kinds c))

-- ---- a TTI

tti_stands : (t : ℕ) (kinds : List (Option Layout)) (c : Side → Channels) → Stand (TtiTells t kinds c)
tti_stands t kinds c =
    let timers : Side → OfRecords = λ side. EndTells side (of_timers (c side)) in
    let blocks : OfRecords = BothPassOver t kinds c in
    behind MayStand (just (records.Tti t))
    (maybe (just records.Sleep) then timers Nb then timers Ue then LoopTells then blocks)
    (one MayStand (records.Tti t) tt)
    (behind MayStand (maybe (just records.Sleep)) (timers Nb then timers Ue then LoopTells then blocks)
    (perhaps MayStand (just records.Sleep) (one MayStand records.Sleep tt))
    (behind MayStand (timers Nb) (timers Ue then LoopTells then blocks) (ends Nb (of_timers (c Nb)) (ticks (c Nb)))
    (behind MayStand (timers Ue) (LoopTells then blocks) (ends Ue (of_timers (c Ue)) (ticks (c Ue)))
    (behind MayStand LoopTells blocks loops (both_pass t kinds c)))))

drain_tti_stands : (t : ℕ) (kinds : List (Option Layout)) (c : Side → Channels) → Stand (DrainTtiTells t kinds c)
drain_tti_stands t kinds c =
    behind MayStand (just (records.Tti t)) (BothPassOver t kinds c) (one MayStand (records.Tti t) tt)
    (both_pass t kinds c)

-- ---- timers

expiry_stands : (side : Side) (l : ℕ) (clock : Clock) → Stand (ExpiryTells side l clock)
expiry_stands side l clock =
    behind MayStand (EndTells side (of_an_expiry l clock)) LoopTells
    (ends side (of_an_expiry l clock) (expiry_holds IsOfBearers l (hearing l) clock)) loops

timer_stands : (side : Side) (l : ℕ) (clock : Clock) → Stand (TimerTells side l clock)
timer_stands side l clock = perhaps MayStand (ExpiryTells side l clock) (expiry_stands side l clock)

receiver_stands : (side : Side) (l : ℕ) → Stand (ReceiverTells side l)
receiver_stands side l =
    behind MayStand (TimerTells side l Reorder) (TimerTells side l Prohibit) (timer_stands side l Reorder)
    (timer_stands side l Prohibit)

receivers_stand : Stand ReceiversTell
receivers_stand =
    behind MayStand (each (ReceiverTells Nb) all_lcids) (each (ReceiverTells Ue) all_lcids)
    (each_one MayStand (ReceiverTells Nb) (receiver_stands Nb) all_lcids)
    (each_one MayStand (ReceiverTells Ue) (receiver_stands Ue) all_lcids)

senders_stand : (b : Bool) → Stand (SendersTellUnless b)
senders_stand true = never MayStand
senders_stand false =
    behind MayStand (each (SenderTells Nb) all_lcids) (each (SenderTells Ue) all_lcids)
    (each_one MayStand (SenderTells Nb) (λ l. timer_stands Nb l Poll) all_lcids)
    (each_one MayStand (SenderTells Ue) (λ l. timer_stands Ue l Poll) all_lcids)

-- ---- a drain

round_stands : (t : ℕ) (kinds : List (Option Layout)) (c : Side → Channels) → Stand (RoundTells t kinds c)
round_stands t kinds c told r =
    subst (AllByRecursion MayStand) (sym r.told_is)
    (both MayStand r.tti r.timers (drain_tti_stands t kinds c r.tti r.tti_is)
    (behind MayStand ReceiversTell (SendersTellUnless _) receivers_stand (senders_stand _) r.timers r.timers_are))

turns_stand : (Each : ℕ → List Record → Type 0) → ((t : ℕ) → Stand (Each t)) → (t n : ℕ) → Stand (InTurn Each t n)
turns_stand Each each_stands t zero = never MayStand
turns_stand Each each_stands t (suc n) =
    behind MayStand (Each t) (InTurn Each (t + 1) n) (each_stands t) (turns_stand Each each_stands (t + 1) n)

drain_stands : (t : ℕ) (kinds : List (Option Layout)) (c : Side → Channels) → Stand (DrainTells t kinds c)
drain_stands t kinds c told r =
    let ttis : OfRecords = InTurn (λ n. DrainTtiTells n kinds c) t 8 in
    let rounds : OfRecords = InTurn (λ n. RoundTells n kinds c) (t + 8) r.rounds in
    behind MayStand ttis (rounds then just (records.Drained r.rounds))
    (turns_stand (λ n. DrainTtiTells n kinds c) (λ n. drain_tti_stands n kinds c) t 8)
    (behind MayStand rounds (just (records.Drained r.rounds))
    (turns_stand (λ n. RoundTells n kinds c) (λ n. round_stands n kinds c) (t + 8) r.rounds)
    (one MayStand (records.Drained r.rounds) tt)) told r.in_turn

-- ---- any line but one that submits an SDU

handover_stands : (c : Side → Channels) → Stand (HandoverTells c)
handover_stands c =
    behind MayStand (EndTells Nb (of_leaving (c Nb))) (EndTells Ue (of_leaving (c Ue)) then LoopTells)
    (ends Nb (of_leaving (c Nb)) (leaves (c Nb)))
    (behind MayStand (EndTells Ue (of_leaving (c Ue))) LoopTells (ends Ue (of_leaving (c Ue)) (leaves (c Ue))) loops)

abbrev pub submits : Line → Bool
submits (lines.Submit side lcid octets) = true
submits line = false

pub line_stands : (t : ℕ) (kinds : List (Option Layout)) (c : Side → Channels) (line : Line) → forges line ≡ false
    → submits line ≡ false → Stand (LineTells t kinds c line)
line_stands t kinds c (lines.Submit side lcid octets) unforged other = absurd cc
line_stands t kinds c (lines.Forge side octets) unforged other = absurd cc
line_stands t kinds c (lines.Tti up_grant up down_grant down) unforged other = tti_stands t kinds c
line_stands t kinds c (lines.Drain grant) unforged other = drain_stands t kinds c
line_stands t kinds c (lines.Expire side lcid clock) unforged other = expiry_stands side lcid clock
line_stands t kinds c (lines.Handover user rrc integrity) unforged other = handover_stands c
line_stands t kinds c lines.LoopOff unforged other = loops
line_stands t kinds c (lines.LoopA size) unforged other = loops
line_stands t kinds c (lines.LoopB delay) unforged other = loops
line_stands t kinds c line unforged other = never MayStand
