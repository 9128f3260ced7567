-- As timers expire and as blocks come, nothing is told of what PDCP gives, of PDUs that are sent and
-- of new blocks.
use Rattle.std.proofs.Common.{◌≡◌, ◌⊎◌, ℕ, ◌==◌, Bool, true, false, List, [], ◌∷◌, Result, Ok, Err, sym}
use Rattle.std.proofs.Common.{inl, inr, subst}
use Rattle.std.specs.List.{list_any}
use Rattle.l2_types.specs.declared.event.Clock.{Clock}
use Rattle.l2_types.specs.declared.event.Clock.TheVariants.{Poll, Reorder, Prohibit}
use Rattle.l2_types.specs.declared.event.Lost.TheVariants as losts
use Rattle.l2_types.specs.declared.side.Side.{Side}
use Rattle.l2_types.specs.declared.side.Side.TheVariants.{Nb, Ue}
use Rattle.mac_pdu.specs.declared.fault.MacRefusal.{MacRefusal}
use Rattle.mac_pdu.specs.declared.item.Direction.{Direction}
use Rattle.mac_pdu.specs.Items.{MacItem, front, element, sdu, padding}
use Rattle.mac_pdu.specs.Reading.{reading}
use Rattle.bearer_types.specs.declared.event.Event.{Event}
use Rattle.bearer_types.specs.declared.event.Event.TheVariants as events
use Rattle.bearer_types.specs.Lcids.{all_lcids}
use Rattle.air_record.specs.declared.record.Record.{Record}
use Rattle.law_words.specs.BearerOrder.{of_an_expiry, of_discards, a_discard, in_a_tti, of_a_pdu, of_a_data_pdu}
use Rattle.law_words.specs.BearerOrder.{of_an_arrived_sdu, of_a_status, of_a_channel}
use Rattle.law_words.specs.Sequences.{◌then◌, each}
use Rattle.promises.specs.Order.{Channels, EndTells, of_timers, of_hearing, of_items, of_an_item, ExpiryTells}
use Rattle.promises.specs.Order.{TimerTells, ReceiverTells, ReceiversTell, SenderTells}
use Rattle.promises.specs.Telling.{SendersTellUnless}
use Rattle.law_sound.proofs.Still.{AreStillEvents, AreStill, events_both, still_both, many_still, one_still, sdu_still}
use Rattle.law_sound.proofs.Still.{side_still, loop_still}

abbrev Of : Type 1
Of = List Event → Type 0

abbrev StillAll : Of → Type 0
StillAll A = (told : List Event) → A told → AreStillEvents told

then_still : (A B : Of) → StillAll A → StillAll B → (told : List Event) → (A then B) told → AreStillEvents told
then_still A B a b told h =
    subst AreStillEvents (sym h.told_are) (events_both h.first h.second (a h.first h.is_first) (b h.second h.is_second))

maybe_still : (A : Of) → StillAll A → (told : List Event) → (told ≡ []) ⊎ A told → AreStillEvents told
maybe_still A a told (inl none) = subst AreStillEvents (sym none) tt
maybe_still A a told (inr h) = a told h

-- ---- a timer expires

fail_still : (lcid : ℕ) (told : List Event) → (sn : ℕ) × (told ≡ events.Fail lcid sn ∷ []) → AreStillEvents told
fail_still lcid told (sn, e) = one_still (events.Fail lcid sn) told tt e

expiry_still : (lcid : ℕ) (clock : Clock) → StillAll (of_an_expiry lcid clock)
expiry_still lcid Poll told h =
    then_still _ _ (λ xs e. one_still (events.Expired lcid Poll) xs tt e)
    (λ xs m. maybe_still _ (fail_still lcid) xs m) told h
expiry_still lcid Reorder told h =
    then_still _ _ (λ xs e. one_still (events.Expired lcid Reorder) xs tt e)
    (λ xs k. then_still _ _ (λ ys m. maybe_still _ (λ zs e. one_still (events.Start lcid Reorder) zs tt e) ys m)
    (λ ys m. many_still _ (sdu_still lcid) ys m) xs k) told h
expiry_still lcid Prohibit told e = one_still (events.Expired lcid Prohibit) told tt e

discard_still : (lcid : ℕ) → StillAll (a_discard lcid)
discard_still lcid told (len, e) = one_still (events.Discard lcid len) told tt e

discards_still : (lcid : ℕ) → StillAll (of_discards lcid)
discards_still lcid told h =
    then_still _ _ (discard_still lcid)
    (λ xs k. then_still _ _ (λ ys m. many_still _ (discard_still lcid) ys m)
    (λ ys m. maybe_still _ (λ zs e. one_still (events.Start lcid Poll) zs tt e) ys m) xs k) told h

tti_still : (lcid : ℕ) → StillAll (in_a_tti lcid)
tti_still lcid told h =
    then_still _ _ (λ xs m. maybe_still _ (expiry_still lcid Poll) xs m)
    (λ xs k. then_still _ _ (λ ys m. maybe_still _ (expiry_still lcid Reorder) ys m)
    (λ ys j. then_still _ _ (λ zs m. maybe_still _ (expiry_still lcid Prohibit) zs m)
    (λ zs m. maybe_still _ (discards_still lcid) zs m) ys j) xs k) told h

timers_still : (lcids : List ℕ) (told : List Event) → each in_a_tti lcids told → AreStillEvents told
timers_still [] told h = subst AreStillEvents (sym h) tt
timers_still (lcid ∷ lcids) told h =
    subst AreStillEvents (sym h.told_are)
    (events_both h.first h.second (tti_still lcid h.first h.is_first) (timers_still lcids h.second h.is_second))

-- ---- a PDU comes

arrived_still : (lcid : ℕ) → StillAll (of_an_arrived_sdu lcid)
arrived_still lcid told (inl h) = sdu_still lcid told h
arrived_still lcid told (inr e) = one_still (events.Start lcid Poll) told tt e

data_still : (lcid : ℕ) → StillAll (of_a_data_pdu lcid)
data_still lcid told (inl e) = one_still (events.Drop lcid losts.Repeat) told tt e
data_still lcid told (inr (inl e)) = one_still (events.Drop lcid losts.Outside) told tt e
data_still lcid told (inr (inr (inl e))) = one_still (events.Drop lcid losts.Clash) told tt e
data_still lcid told (inr (inr (inr h))) =
    then_still _ _ (λ xs m. maybe_still _ (λ ys e. one_still (events.Stop lcid Reorder) ys tt e) xs m)
    (λ xs k. then_still _ _ (λ ys m. maybe_still _ (λ zs e. one_still (events.Start lcid Reorder) zs tt e) ys m)
    (λ ys m. many_still _ (arrived_still lcid) ys m) xs k) told h

status_still : (lcid : ℕ) → StillAll (of_a_status lcid)
status_still lcid told (inl e) = one_still (events.Drop lcid losts.Ignored) told tt e
status_still lcid told (inr (inl (sn, e))) = one_still (events.Fail lcid sn) told tt e
status_still lcid told (inr (inr h)) =
    then_still _ _ (λ xs m. maybe_still _ (λ ys e. one_still (events.Stop lcid Poll) ys tt e) xs m)
    (λ xs m. maybe_still _ (λ ys e. one_still (events.Start lcid Poll) ys tt e) xs m) told h

pdu_still : (lcid : ℕ) → StillAll (of_a_pdu lcid)
pdu_still lcid told (inl (fault, e)) = one_still (events.BadRlc lcid fault) told tt e
pdu_still lcid told (inr (inl h)) = data_still lcid told h
pdu_still lcid told (inr (inr h)) = status_still lcid told h

channel_still : (known : Bool) (lcid : ℕ) → StillAll (of_a_channel known lcid)
channel_still true lcid told h = pdu_still lcid told h
channel_still false lcid told e = one_still (events.Drop lcid losts.NoBearer) told tt e

item_still : (c : Channels) (i : MacItem) (told : List Event) → of_an_item c i told → AreStillEvents told
item_still c (sdu lcid octets) told h = channel_still (list_any (λ n. n == lcid) c.by_lcid) lcid told h
item_still c front told h = subst AreStillEvents (sym h) tt
item_still c (element control) told h = subst AreStillEvents (sym h) tt
item_still c (padding n) told h = subst AreStillEvents (sym h) tt

items_still : (c : Channels) (is : List MacItem) (told : List Event) → each (of_an_item c) is told
    → AreStillEvents told
items_still c [] told h = subst AreStillEvents (sym h) tt
items_still c (i ∷ is) told h =
    subst AreStillEvents (sym h.told_are)
    (events_both h.first h.second (item_still c i h.first h.is_first) (items_still c is h.second h.is_second))

hearing_still : (c : Channels) (r : Result (List MacItem) MacRefusal) (told : List Event) → of_items c r told
    → AreStillEvents told
hearing_still c (Ok is) told h = items_still c is told h
hearing_still c (Err refusal) told e = one_still (events.BadMac refusal) told tt e

-- ---- records

end_still : (side : Side) (A : Of) → StillAll A → (told : List Record) → EndTells side A told → AreStill told
end_still side A a told h = subst AreStill (sym h.told_is) (side_still side h.events (a h.events h.in_order))

pub timers_tell : (side : Side) (c : Channels) (told : List Record) → EndTells side (of_timers c) told → AreStill told
timers_tell side c told h = end_still side (of_timers c) (timers_still c.by_lcid) told h

pub hearing_tells : (side : Side) (c : Channels) (way : Direction) (octets : List ℕ) (told : List Record)
    → EndTells side (of_hearing c way octets) told → AreStill told
hearing_tells side c way octets told h =
    end_still side (of_hearing c way octets) (hearing_still c (reading way octets)) told h

pub expiry_tells : (side : Side) (lcid : ℕ) (clock : Clock) (told : List Record) → ExpiryTells side lcid clock told
    → AreStill told
expiry_tells side lcid clock told h =
    subst AreStill (sym h.told_are)
    (still_both h.first h.second (end_still side (of_an_expiry lcid clock) (expiry_still lcid clock) h.first h.is_first)
    (loop_still h.second h.is_second))

timer_tells : (side : Side) (lcid : ℕ) (clock : Clock) (told : List Record) → TimerTells side lcid clock told
    → AreStill told
timer_tells side lcid clock told (inl none) = subst AreStill (sym none) tt
timer_tells side lcid clock told (inr h) = expiry_tells side lcid clock told h

receiver_tells : (side : Side) (lcid : ℕ) (told : List Record) → ReceiverTells side lcid told → AreStill told
receiver_tells side lcid told h =
    subst AreStill (sym h.told_are)
    (still_both h.first h.second (timer_tells side lcid Reorder h.first h.is_first)
    (timer_tells side lcid Prohibit h.second h.is_second))

receivers_of : (side : Side) (lcids : List ℕ) (told : List Record) → each (ReceiverTells side) lcids told
    → AreStill told
receivers_of side [] told h = subst AreStill (sym h) tt
receivers_of side (lcid ∷ lcids) told h =
    subst AreStill (sym h.told_are)
    (still_both h.first h.second (receiver_tells side lcid h.first h.is_first)
    (receivers_of side lcids h.second h.is_second))

pub receivers_tell : (told : List Record) → ReceiversTell told → AreStill told
receivers_tell told h =
    subst AreStill (sym h.told_are)
    (still_both h.first h.second (receivers_of Nb all_lcids h.first h.is_first)
    (receivers_of Ue all_lcids h.second h.is_second))

senders_of : (side : Side) (lcids : List ℕ) (told : List Record) → each (SenderTells side) lcids told
    → AreStill told
senders_of side [] told h = subst AreStill (sym h) tt
senders_of side (lcid ∷ lcids) told h =
    subst AreStill (sym h.told_are)
    (still_both h.first h.second (timer_tells side lcid Poll h.first h.is_first)
    (senders_of side lcids h.second h.is_second))

pub senders_tell : (carried : Bool) (told : List Record) → SendersTellUnless carried told → AreStill told
senders_tell true told h = subst AreStill (sym h) tt
senders_tell false told h =
    subst AreStill (sym h.told_are)
    (still_both h.first h.second (senders_of Nb all_lcids h.first h.is_first)
    (senders_of Ue all_lcids h.second h.is_second))
