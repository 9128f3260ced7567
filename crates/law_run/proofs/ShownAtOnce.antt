-- The records that show a new block stand behind it at once.
use Rattle.std.proofs.Common.{◌≡◌, ℕ, zero, suc, ◌+◌, Bool, true, false, inl, inr, List, [], ◌∷◌, ◌++◌, map, Option}
use Rattle.std.proofs.Common.{Some, None, refl, ap, sym, ◌∙◌, subst, append-nil}
use Rattle.std.specs.List.{filter, flat_map, list_any}
use Rattle.std.proofs.lemmas.List.Elements.{filter-append}
use Rattle.std.proofs.lemmas.Grind.{flat_map-append}
use Rattle.l2_types.specs.declared.side.Side.{Side}
use Rattle.l2_types.specs.declared.side.Side.TheVariants.{Nb, Ue}
use Rattle.l2_types.specs.declared.event.Clock.{Clock}
use Rattle.l2_types.specs.declared.event.Clock.TheVariants.{Reorder, Prohibit, Poll}
use Rattle.mac_pdu.specs.Reading.{reading}
use Rattle.bearer_types.specs.declared.event.Event.{Event}
use Rattle.bearer_types.specs.Lcids.{all_lcids}
use Rattle.bearer_types.specs.Sides.{sent_by, other, heard_by}
use Rattle.air_record.specs.declared.line.Line.{Line}
use Rattle.air_record.specs.declared.line.Line.TheVariants as lines
use Rattle.air_record.specs.declared.record.Arrived.{Arrived}
use Rattle.air_record.specs.declared.record.Arrived.TheVariants as arriveds
use Rattle.air_record.specs.declared.record.Record.{Record}
use Rattle.air_record.specs.declared.record.Record.TheVariants as records
use Rattle.pdu_show.specs.declared.kinds.Layout.{Layout}
use Rattle.pdu_show.specs.Carried.{is_carried}
use Rattle.pdu_show.specs.Show.{block_shown}
use Rattle.law_words.specs.Sequences.{SequencesOf, ◌then◌, ◌or◌, maybe, nothing, just, each}
use Rattle.promises.specs.Air.{InTurn}
use Rattle.promises.specs.Built.{block_told}
use Rattle.promises.specs.Order.{OfRecords, Channels, EndTells, LoopTells, IsNew, IsAgain, GoesOut, IsHeard}
use Rattle.promises.specs.Order.{PassesOver, Misses, MayPassOver, BothPassOver, TtiTells, DrainTtiTells, ExpiryTells}
use Rattle.promises.specs.Order.{TimerTells, ReceiverTells, ReceiversTell, SenderTells, SendersTell, ForgeTells}
use Rattle.promises.specs.Order.{HandoverTells, IsRefused, of_building, of_hearing, of_timers, of_leaving}
use Rattle.promises.specs.Telling.{LineTells, SendersTellUnless, RoundTells, DrainTells}
use Rattle.promises.specs.RightForm.{is_unshown, with_shown}
use Rattle.promises.proofs.ShownBlocks.{AllShown, block_shows}

abbrev Stood : List (Option Layout) → List Record → List Record
Stood kinds told = flat_map (with_shown kinds) (filter is_unshown told)

abbrev pub Stands : List (Option Layout) → List Record → Type 0
Stands kinds told = told ≡ Stood kinds told

-- ---- one behind the other

stood_append : (kinds : List (Option Layout)) (a b : List Record)
    → Stood kinds (a ++ b) ≡ Stood kinds a ++ Stood kinds b
stood_append kinds a b =
    ap (flat_map (with_shown kinds)) (filter-append is_unshown a b)
    ∙ flat_map-append (with_shown kinds) (filter is_unshown a) (filter is_unshown b)

both : (kinds : List (Option Layout)) (a b : List Record) → Stands kinds a → Stands kinds b → Stands kinds (a ++ b)
both kinds a b p q =
    ap (λ (l : List Record). l ++ b) p ∙ ap (λ (l : List Record). Stood kinds a ++ l) q ∙ sym (stood_append kinds a b)

abbrev All : List (Option Layout) → OfRecords → Type 0
All kinds A = (told : List Record) → A told → Stands kinds told

all_nothing : (kinds : List (Option Layout)) → All kinds nothing
all_nothing kinds told e = subst (Stands kinds) (sym e) refl

all_then : (kinds : List (Option Layout)) (A B : OfRecords) → All kinds A → All kinds B → All kinds (A then B)
all_then kinds A B a b told h =
    subst (Stands kinds) (sym h.told_are) (both kinds h.first h.second (a h.first h.is_first) (b h.second h.is_second))

all_or : (kinds : List (Option Layout)) (A B : OfRecords) → All kinds A → All kinds B → All kinds (A or B)
all_or kinds A B a b told (inl h) = a told h
all_or kinds A B a b told (inr h) = b told h

all_maybe : (kinds : List (Option Layout)) (A : OfRecords) → All kinds A → All kinds (maybe A)
all_maybe kinds A a told (inl h) = all_nothing kinds told h
all_maybe kinds A a told (inr h) = a told h

all_each : {Y : Type 0} (kinds : List (Option Layout)) (f : Y → OfRecords) (ys : List Y)
    → ((y : Y) → All kinds (f y)) → All kinds (each f ys)
all_each kinds f [] a told h = all_nothing kinds told h
all_each kinds f (y ∷ ys) a told h =
    subst (Stands kinds) (sym h.told_are)
    (both kinds h.first h.second (a y h.first h.is_first) (all_each kinds f ys a h.second h.is_second))

all_turns : (kinds : List (Option Layout)) (Each : ℕ → OfRecords) (n t : ℕ) → ((m : ℕ) → All kinds (Each m))
    → All kinds (InTurn Each t n)
all_turns kinds Each zero t a told h = all_nothing kinds told h
all_turns kinds Each (suc n) t a told h =
    subst (Stands kinds) (sym h.told_are)
    (both kinds h.first h.second (a t h.first h.is_first) (all_turns kinds Each n (t + 1) a h.second h.is_second))

all_just : (kinds : List (Option Layout)) (one : Record) → Stands kinds (one ∷ []) → All kinds (just one)
all_just kinds one s told e = subst (Stands kinds) (sym e) s

-- ---- what ends and the loop tell

events_stand : (kinds : List (Option Layout)) (side : Side) (events : List Event)
    → Stands kinds (map (records.Of side) events)
events_stand kinds side [] = refl
events_stand kinds side (event ∷ events) =
    ap (λ (l : List Record). records.Of side event ∷ l) (events_stand kinds side events)

end_stands : (kinds : List (Option Layout)) (side : Side) (of : SequencesOf Event) → All kinds (EndTells side of)
end_stands kinds side of told h = subst (Stands kinds) (sym h.told_is) (events_stand kinds side h.events)

loop_stands : (kinds : List (Option Layout)) → All kinds LoopTells
loop_stands kinds [] h = refl
loop_stands kinds (records.Looped lcid octets ∷ told) h =
    ap (λ (l : List Record). records.Looped lcid octets ∷ l) (loop_stands kinds told h.1)
loop_stands kinds (records.Of side event ∷ told) h =
    ap (λ (l : List Record). records.Of side event ∷ l) (loop_stands kinds told h.1)
loop_stands kinds (one ∷ told) h = absurd h.0

-- ---- blocks

none_unshown : (l : List Record) → AllShown l → filter is_unshown l ≡ []
none_unshown [] all = refl
none_unshown (one ∷ l) all = rw all.0 (none_unshown l all.1)

new_stands : (kinds : List (Option Layout)) (side : Side) (t : ℕ) (octets : List ℕ) → All kinds
    (IsNew side t kinds octets)
new_stands kinds side t octets told e =
    let shown = block_shown (sent_by side) kinds octets in
    let none = none_unshown shown (block_shows kinds (reading (sent_by side) octets)) in
    subst (Stands kinds) (sym e)
    (sym (ap (λ (l : List Record). block_told side t kinds octets ++ flat_map (with_shown kinds) l) none
    ∙ append-nil (block_told side t kinds octets)))

again_stands : (kinds : List (Option Layout)) (side : Side) (t : ℕ) (octets : List ℕ) → All kinds
    (IsAgain side t octets)
again_stands kinds side t octets told h = subst (Stands kinds) (sym h.told_is) refl

out_stands : (kinds : List (Option Layout)) (side : Side) (t : ℕ) (c : Channels) (octets : List ℕ)
    → All kinds (GoesOut side t kinds c octets)
out_stands kinds side t c octets =
    all_or kinds (EndTells side (of_building c) then IsNew side t kinds octets) (IsAgain side t octets)
    (all_then kinds (EndTells side (of_building c)) (IsNew side t kinds octets)
    (end_stands kinds side (of_building c)) (new_stands kinds side t octets)) (again_stands kinds side t octets)

heard_stands : (kinds : List (Option Layout)) (side : Side) (what : Arrived) (c : Channels) (octets : List ℕ)
    → All kinds (IsHeard side what c octets)
heard_stands kinds side arriveds.Got c octets = end_stands kinds side (of_hearing c (heard_by side) octets)
heard_stands kinds side arriveds.Dup c octets = all_nothing kinds
heard_stands kinds side arriveds.Bad c octets = all_nothing kinds
heard_stands kinds side arriveds.Nothing c octets = all_nothing kinds

passes_stand : (kinds : List (Option Layout)) (side : Side) (t : ℕ) (c : Side → Channels)
    → All kinds (PassesOver side t kinds c)
passes_stand kinds side t c told h =
    let air = records.Air (sent_by side) h.what (Some h.feedback) in
    let heard = IsHeard (other side) h.what (c (other side)) h.octets in
    all_then kinds (GoesOut side t kinds (c side) h.octets) (just air then heard)
    (out_stands kinds side t (c side) h.octets)
    (all_then kinds (just air) heard (all_just kinds air refl)
    (heard_stands kinds (other side) h.what (c (other side)) h.octets)) told h.in_turn

misses_stand : (kinds : List (Option Layout)) (side : Side) → All kinds (Misses side)
misses_stand kinds Nb = all_nothing kinds
misses_stand kinds Ue =
    all_just kinds (records.Air (sent_by Ue) arriveds.Nothing None) refl

may_stand : (kinds : List (Option Layout)) (side : Side) (t : ℕ) (c : Side → Channels)
    → All kinds (MayPassOver side t kinds c)
may_stand kinds side t c =
    all_or kinds nothing (Misses side or PassesOver side t kinds c) (all_nothing kinds)
    (all_or kinds (Misses side) (PassesOver side t kinds c) (misses_stand kinds side) (passes_stand kinds side t c))

blocks_stand : (kinds : List (Option Layout)) (t : ℕ) (c : Side → Channels) → All kinds (BothPassOver t kinds c)
blocks_stand kinds t c =
    all_then kinds (MayPassOver Nb t kinds c) (LoopTells then MayPassOver Ue t kinds c) (may_stand kinds Nb t c)
    (all_then kinds LoopTells (MayPassOver Ue t kinds c) (loop_stands kinds) (may_stand kinds Ue t c))

-- ---- TTIs, timers and handovers

tti_stands : (kinds : List (Option Layout)) (t : ℕ) (c : Side → Channels) → All kinds (TtiTells t kinds c)
tti_stands kinds t c =
    let blocks = BothPassOver t kinds c in
    let loop = LoopTells then blocks in
    let ue = EndTells Ue (of_timers (c Ue)) then loop in
    let nb = EndTells Nb (of_timers (c Nb)) then ue in
    all_then kinds (just (records.Tti t)) (maybe (just records.Sleep) then nb) (all_just kinds (records.Tti t) refl)
    (all_then kinds (maybe (just records.Sleep)) nb
    (all_maybe kinds (just records.Sleep) (all_just kinds records.Sleep refl))
    (all_then kinds (EndTells Nb (of_timers (c Nb))) ue (end_stands kinds Nb (of_timers (c Nb)))
    (all_then kinds (EndTells Ue (of_timers (c Ue))) loop (end_stands kinds Ue (of_timers (c Ue)))
    (all_then kinds LoopTells blocks (loop_stands kinds) (blocks_stand kinds t c)))))

drain_tti_stands : (kinds : List (Option Layout)) (c : Side → Channels) (t : ℕ) → All kinds (DrainTtiTells t kinds c)
drain_tti_stands kinds c t =
    all_then kinds (just (records.Tti t)) (BothPassOver t kinds c) (all_just kinds (records.Tti t) refl)
    (blocks_stand kinds t c)

expiry_stands : (kinds : List (Option Layout)) (side : Side) (lcid : ℕ) (clock : Clock)
    → All kinds (ExpiryTells side lcid clock)
expiry_stands kinds side lcid clock told h =
    subst (Stands kinds) (sym h.told_are)
    (both kinds h.first h.second (end_stands kinds side _ h.first h.is_first) (loop_stands kinds h.second h.is_second))

timer_stands : (kinds : List (Option Layout)) (side : Side) (lcid : ℕ) (clock : Clock)
    → All kinds (TimerTells side lcid clock)
timer_stands kinds side lcid clock =
    all_maybe kinds (ExpiryTells side lcid clock) (expiry_stands kinds side lcid clock)

receiver_stands : (kinds : List (Option Layout)) (side : Side) (lcid : ℕ) → All kinds (ReceiverTells side lcid)
receiver_stands kinds side lcid =
    all_then kinds (TimerTells side lcid Reorder) (TimerTells side lcid Prohibit)
    (timer_stands kinds side lcid Reorder) (timer_stands kinds side lcid Prohibit)

receivers_stand : (kinds : List (Option Layout)) → All kinds ReceiversTell
receivers_stand kinds =
    all_then kinds (each (ReceiverTells Nb) all_lcids) (each (ReceiverTells Ue) all_lcids)
    (all_each kinds (ReceiverTells Nb) all_lcids (receiver_stands kinds Nb))
    (all_each kinds (ReceiverTells Ue) all_lcids (receiver_stands kinds Ue))

senders_stand : (kinds : List (Option Layout)) → All kinds SendersTell
senders_stand kinds =
    all_then kinds (each (SenderTells Nb) all_lcids) (each (SenderTells Ue) all_lcids)
    (all_each kinds (SenderTells Nb) all_lcids (λ lcid. timer_stands kinds Nb lcid Poll))
    (all_each kinds (SenderTells Ue) all_lcids (λ lcid. timer_stands kinds Ue lcid Poll))

unless_stand : (kinds : List (Option Layout)) (b : Bool) → All kinds (SendersTellUnless b)
unless_stand kinds true = all_nothing kinds
unless_stand kinds false = senders_stand kinds

round_stands : (kinds : List (Option Layout)) (c : Side → Channels) (t : ℕ) → All kinds (RoundTells t kinds c)
round_stands kinds c t told h =
    let unless = SendersTellUnless (list_any (is_carried kinds) h.tti) in
    subst (Stands kinds) (sym h.told_is)
    (both kinds h.tti h.timers (drain_tti_stands kinds c t h.tti h.tti_is)
    (all_then kinds ReceiversTell unless (receivers_stand kinds)
    (unless_stand kinds (list_any (is_carried kinds) h.tti)) h.timers h.timers_are))

drain_stands : (kinds : List (Option Layout)) (t : ℕ) (c : Side → Channels) → All kinds (DrainTells t kinds c)
drain_stands kinds t c told h =
    let ends = just (records.Drained h.rounds) in
    let rounds = InTurn (λ n. RoundTells n kinds c) (t + 8) h.rounds in
    let ttis = InTurn (λ n. DrainTtiTells n kinds c) t 8 in
    all_then kinds ttis (rounds then ends)
    (all_turns kinds (λ n. DrainTtiTells n kinds c) 8 t (drain_tti_stands kinds c))
    (all_then kinds rounds ends (all_turns kinds (λ n. RoundTells n kinds c) h.rounds (t + 8) (round_stands kinds c))
    (all_just kinds (records.Drained h.rounds) refl)) told h.in_turn

forge_stands : (kinds : List (Option Layout)) (side : Side) (c : Channels) (octets : List ℕ)
    → All kinds (ForgeTells side c octets)
forge_stands kinds side c octets =
    all_then kinds (EndTells side (of_hearing c (heard_by side) octets)) LoopTells
    (end_stands kinds side (of_hearing c (heard_by side) octets)) (loop_stands kinds)

handover_stands : (kinds : List (Option Layout)) (c : Side → Channels) → All kinds (HandoverTells c)
handover_stands kinds c =
    all_then kinds (EndTells Nb (of_leaving (c Nb))) (EndTells Ue (of_leaving (c Ue)) then LoopTells)
    (end_stands kinds Nb (of_leaving (c Nb)))
    (all_then kinds (EndTells Ue (of_leaving (c Ue))) LoopTells (end_stands kinds Ue (of_leaving (c Ue)))
    (loop_stands kinds))

refused_stands : (kinds : List (Option Layout)) (side : Side) (lcid : ℕ) → All kinds (IsRefused side lcid)
refused_stands kinds side lcid told h = subst (Stands kinds) (sym h.told_is) refl

-- ---- a line

pub line_stands : (line : Line) (t : ℕ) (kinds : List (Option Layout)) (c : Side → Channels)
    → All kinds (LineTells t kinds c line)
line_stands (lines.Submit side lcid octets) t kinds c =
    all_maybe kinds (IsRefused side lcid) (refused_stands kinds side lcid)
line_stands (lines.Tti up_grant up down_grant down) t kinds c = tti_stands kinds t c
line_stands (lines.Drain grant) t kinds c = drain_stands kinds t c
line_stands (lines.Expire side lcid clock) t kinds c = expiry_stands kinds side lcid clock
line_stands (lines.Forge side octets) t kinds c = forge_stands kinds side (c side) octets
line_stands (lines.Handover user rrc integrity) t kinds c = handover_stands kinds c
line_stands lines.LoopOff t kinds c = loop_stands kinds
line_stands (lines.LoopA size) t kinds c = loop_stands kinds
line_stands (lines.LoopB delay) t kinds c = loop_stands kinds
line_stands line t kinds c = all_nothing kinds
