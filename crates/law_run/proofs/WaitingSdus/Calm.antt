-- Which records tell of no SDU that leaves a queue, and which of none that the test loop returns.
use Rattle.std.proofs.Common.{◌≡◌, ℕ, ◌==◌, Bool, true, false, Option, Result, Ok, Err, List, [], ◌∷◌, ◌++◌, map, refl}
use Rattle.std.proofs.Common.{ap, sym}
use Rattle.std.proofs.Common.{◌∙◌, inl, inr}
use Rattle.std.specs.List.{AllByRecursion, flat_map, list_any}
use Rattle.std.proofs.lemmas.Grind.{flat_map-append}
use Rattle.std.proofs.lemmas.List.Elements.{recursion_from_All}
use Rattle.air_record.specs.declared.line.Line.{Line}
use Rattle.air_record.specs.declared.line.Line.TheVariants as lines
use Rattle.air_record.specs.declared.record.Arrived.{Arrived}
use Rattle.air_record.specs.declared.record.Arrived.TheVariants as arriveds
use Rattle.air_record.specs.declared.record.Record.{Record}
use Rattle.air_record.specs.declared.record.Record.TheVariants as records
use Rattle.bearer_types.specs.Lcids.{all_lcids}
use Rattle.bearer_types.specs.Sides.{sent_by, heard_by}
use Rattle.bearer_types.specs.declared.event.Event.{Event}
use Rattle.bearer_types.specs.declared.event.Event.TheVariants as events
use Rattle.l2_types.specs.declared.event.Clock.{Clock}
use Rattle.l2_types.specs.declared.event.Clock.TheVariants.{Poll, Reorder, Prohibit}
use Rattle.l2_types.specs.declared.event.Lost.TheVariants as lost
use Rattle.l2_types.specs.declared.side.Side.{Side}
use Rattle.l2_types.specs.declared.side.Side.TheVariants.{Nb, Ue}
use Rattle.law_words.specs.BearerOrder.{an_up, of_an_sdu, of_an_arrived_sdu, of_a_data_pdu, of_a_status, of_a_pdu}
use Rattle.law_words.specs.BearerOrder.{of_an_expiry, at_the_end, of_a_channel, is_srb}
use Rattle.law_words.specs.Sequences.{SequencesOf, nothing, just, ◌then◌, ◌or◌, maybe, joined, many, any, each}
use Rattle.mac_pdu.specs.Items.{MacItem, sdu}
use Rattle.mac_pdu.specs.Reading.{reading}
use Rattle.mac_pdu.specs.declared.fault.MacRefusal.{MacRefusal}
use Rattle.mac_pdu.specs.declared.item.Direction.{Direction}
use Rattle.pdu_show.specs.Show.{block_shown}
use Rattle.pdu_show.specs.declared.kinds.Layout.{Layout}
use Rattle.promises.specs.Events.{TellNoLoop}
use Rattle.promises.specs.Flows.{looped_at}
use Rattle.promises.specs.Order.{Channels, of_an_item, of_items, of_hearing, of_leaving, EndTells}
use Rattle.promises.specs.Order.{LoopTells, GoesOut, IsHeard, MayPassOver, ExpiryTells, TimerTells}
use Rattle.promises.specs.Order.{ReceiverTells, ReceiversTell, SenderTells, SendersTell, ForgeTells, HandoverTells}
use Rattle.promises.specs.Order.{SubmitTells, OfRecords}
use Rattle.promises.specs.Records.{events_of}
use Rattle.promises.specs.Taken.{leaving_in}
use Rattle.promises.specs.Telling.{LineTells}
use Rattle.law_run.proofs.AnyCalls.Going.{own_told, other_told}
use Rattle.law_run.proofs.AnyCalls.Showing.{shown_untold, block_is_silent}
use Rattle.law_run.proofs.TwoEnds.Along.{looped_more}
use Rattle.law_run.proofs.TwoEnds.Visits.{silent_unlooped}
use Rattle.law_run.proofs.TwoEnds.Stages.{events_unlooped}
use Rattle.law_run.proofs.WaitingSdus.Counting.{left_in, left_both}

module _ (l : ℕ) where
  -- ---- what an end tells

  abbrev Hold : SequencesOf Event → Type 0
  Hold A = (es : List Event) → A es → flat_map (leaving_in l) es ≡ []

  both : (xs ys : List Event) → flat_map (leaving_in l) xs ≡ [] → flat_map (leaving_in l) ys ≡ []
      → flat_map (leaving_in l) (xs ++ ys) ≡ []
  both xs ys p q =
      flat_map-append (leaving_in l) xs ys
      ∙ (ap (λ (ms : List (Option ℕ)). ms ++ flat_map (leaving_in l) ys) p ∙ q)

  never : Hold nothing
  never es e = ap (flat_map (leaving_in l)) e

  one : (x : Event) → leaving_in l x ≡ [] → Hold (just x)
  one x p es e = ap (flat_map (leaving_in l)) e ∙ ap (λ (ms : List (Option ℕ)). ms ++ []) p

  behind : (A B : SequencesOf Event) → Hold A → Hold B → Hold (A then B)
  behind A B a b es r =
      ap (flat_map (leaving_in l)) r.told_are
      ∙ both r.first r.second (a r.first r.is_first) (b r.second r.is_second)

  either : (A B : SequencesOf Event) → Hold A → Hold B → Hold (A or B)
  either A B a b es (inl p) = a es p
  either A B a b es (inr q) = b es q

  perhaps : (A : SequencesOf Event) → Hold A → Hold (maybe A)
  perhaps A a = either nothing A never a

  all_parts : (A : SequencesOf Event) → Hold A → (parts : List (List Event)) → AllByRecursion A parts
      → flat_map (leaving_in l) (joined parts) ≡ []
  all_parts A a [] h = refl
  all_parts A a (x ∷ xs) h = both x (joined xs) (a x h.0) (all_parts A a xs h.1)

  any_number : (A : SequencesOf Event) → Hold A → Hold (many A)
  any_number A a es r =
      ap (flat_map (leaving_in l)) r.told_are
      ∙ all_parts A a r.parts (recursion_from_All A r.parts r.are_each)

  whichever : {Y : Type 0} (f : Y → SequencesOf Event) → ((y : Y) → Hold (f y)) → Hold (any f)
  whichever f a es r = a r.0 es r.1

  each_one : {Y : Type 0} (f : Y → SequencesOf Event) → ((y : Y) → Hold (f y)) → (ys : List Y) → Hold (each f ys)
  each_one f a [] = never
  each_one f a (y ∷ ys) = behind (f y) (each f ys) (a y) (each_one f a ys)

  sdu_holds : (m : ℕ) → Hold (of_an_sdu m)
  sdu_holds m es (inl p) =
      any_number (an_up m) (whichever _ (λ (sdu : List ℕ). one (events.Up m sdu) refl)) es p
  sdu_holds m es (inr (inl p)) = one (events.Drop m lost.Old) refl es p
  sdu_holds m es (inr (inr (inl p))) = one (events.Drop m lost.Range) refl es p
  sdu_holds m es (inr (inr (inr (inl p)))) = one (events.Drop m lost.Report) refl es p
  sdu_holds m es (inr (inr (inr (inr (inl (found, (wanted, p))))))) = one (events.Integrity m found wanted) refl es p
  sdu_holds m es (inr (inr (inr (inr (inr (fault, p)))))) = one (events.BadPdcp m fault) refl es p

  arrived_holds : (m : ℕ) → Hold (of_an_arrived_sdu m)
  arrived_holds m es (inl p) = sdu_holds m es p
  arrived_holds m es (inr p) = one (events.Start m Poll) refl es p

  data_holds : (m : ℕ) → Hold (of_a_data_pdu m)
  data_holds m es (inl p) = one (events.Drop m lost.Repeat) refl es p
  data_holds m es (inr (inl p)) = one (events.Drop m lost.Outside) refl es p
  data_holds m es (inr (inr (inl p))) = one (events.Drop m lost.Clash) refl es p
  data_holds m es (inr (inr (inr p))) =
      behind _ _ (perhaps _ (one (events.Stop m Reorder) refl))
      (behind _ _ (perhaps _ (one (events.Start m Reorder) refl))
      (any_number (of_an_arrived_sdu m) (arrived_holds m))) es p

  status_holds : (m : ℕ) → Hold (of_a_status m)
  status_holds m es (inl p) = one (events.Drop m lost.Ignored) refl es p
  status_holds m es (inr (inl (sn, p))) = one (events.Fail m sn) refl es p
  status_holds m es (inr (inr p)) =
      behind _ _ (perhaps _ (one (events.Stop m Poll) refl)) (perhaps _ (one (events.Start m Poll) refl)) es p

  pdu_holds : (m : ℕ) → Hold (of_a_pdu m)
  pdu_holds m es (inl (fault, p)) = one (events.BadRlc m fault) refl es p
  pdu_holds m es (inr (inl p)) = data_holds m es p
  pdu_holds m es (inr (inr p)) = status_holds m es p

  channel_holds : (b : Bool) (m : ℕ) → Hold (of_a_channel b m)
  channel_holds true m = pdu_holds m
  channel_holds false m = one (events.Drop m lost.NoBearer) refl

  expiry_holds : (m : ℕ) (clock : Clock) → Hold (of_an_expiry m clock)
  expiry_holds m Poll =
      behind _ _ (one (events.Expired m Poll) refl)
      (perhaps _ (whichever _ (λ (sn : ℕ). one (events.Fail m sn) refl)))
  expiry_holds m Reorder =
      behind _ _ (one (events.Expired m Reorder) refl)
      (behind _ _ (perhaps _ (one (events.Start m Reorder) refl)) (any_number (of_an_sdu m) (sdu_holds m)))
  expiry_holds m Prohibit = one (events.Expired m Prohibit) refl

  end_holds : (b : Bool) (m : ℕ) → Hold (at_the_end b m)
  end_holds true m = any_number _ (one (events.Drop m lost.Handover) refl)
  end_holds false m = any_number (of_an_sdu m) (sdu_holds m)

  item_holds : (c : Channels) (i : MacItem) → Hold (of_an_item c i)
  item_holds c (sdu lcid octets) = channel_holds (list_any (λ n. n == lcid) c.by_lcid) lcid
  item_holds c item = never

  items_hold : (c : Channels) (r : Result (List MacItem) MacRefusal) → Hold (of_items c r)
  items_hold c (Ok items) = each_one (of_an_item c) (item_holds c) items
  items_hold c (Err refusal) = one (events.BadMac refusal) refl

  leaving_holds : (c : Channels) → Hold (of_leaving c)
  leaving_holds c = each_one _ (λ m. end_holds (is_srb m) m) c.by_lcid

  -- ---- records that tell of none that leaves

  module _ (from : Side) where
    abbrev pub IsCalm : List Record → Type 0
    IsCalm told = left_in from l told ≡ []

    pub calm_both : (xs ys : List Record) → IsCalm xs → IsCalm ys → IsCalm (xs ++ ys)
    calm_both xs ys p q =
        left_both from l xs ys ∙ (ap (λ (ms : List (Option ℕ)). ms ++ left_in from l ys) p ∙ q)

    abbrev pub AreCalm : OfRecords → Type 0
    AreCalm These = (told : List Record) → These told → IsCalm told

    calm_none : AreCalm nothing
    calm_none told e = ap (left_in from l) e

    pub calm_then : (A B : OfRecords) → AreCalm A → AreCalm B → AreCalm (A then B)
    calm_then A B a b told r =
        ap (left_in from l) r.told_are ∙ calm_both r.first r.second (a r.first r.is_first) (b r.second r.is_second)

    calm_or : (A B : OfRecords) → AreCalm A → AreCalm B → AreCalm (A or B)
    calm_or A B a b told (inl p) = a told p
    calm_or A B a b told (inr q) = b told q

    calm_maybe : (A : OfRecords) → AreCalm A → AreCalm (maybe A)
    calm_maybe A a = calm_or nothing A calm_none a

    calm_each : {Y : Type 0} (f : Y → OfRecords) → ((y : Y) → AreCalm (f y)) → (ys : List Y) → AreCalm (each f ys)
    calm_each f a [] = calm_none
    calm_each f a (y ∷ ys) = calm_then (f y) (each f ys) (a y) (calm_each f a ys)

    pub untold : (told : List Record) → events_of from told ≡ [] → IsCalm told
    untold told e = ap (flat_map (leaving_in l)) e

    calm_one : (x : Record) → events_of from (x ∷ []) ≡ [] → AreCalm (just x)
    calm_one x e told is = ap (left_in from l) is ∙ untold (x ∷ []) e

    events_calm : (side : Side) (es : List Event) → TellNoLoop es → flat_map (leaving_in l) es ≡ []
        → IsCalm (map (records.Of side) es)
    events_calm side es none h = by from side
      where
        by : (at side : Side) → left_in at l (map (records.Of side) es) ≡ []
        by Nb Nb = ap (flat_map (leaving_in l)) (own_told Nb es none) ∙ h
        by Ue Ue = ap (flat_map (leaving_in l)) (own_told Ue es none) ∙ h
        by Ue Nb = ap (flat_map (leaving_in l)) (other_told Nb es)
        by Nb Ue = ap (flat_map (leaving_in l)) (other_told Ue es)

    calm_end : (side : Side) (of : SequencesOf Event) → Hold of → AreCalm (EndTells side of)
    calm_end side of h told r =
        ap (left_in from l) r.told_is ∙ events_calm side r.events r.no_loop (h r.events r.in_order)

    pub calm_loop : AreCalm LoopTells
    calm_loop [] h = refl
    calm_loop (records.Looped lcid octets ∷ told) h = calm_loop told h.1
    calm_loop (records.Of Ue (events.Drop lcid lost.Loop) ∷ told) h =
        calm_both (records.Of Ue (events.Drop lcid lost.Loop) ∷ []) told (dropped from) (calm_loop told h.1)
      where
        dropped : (at : Side) → left_in at l (records.Of Ue (events.Drop lcid lost.Loop) ∷ []) ≡ []
        dropped Nb = refl
        dropped Ue = refl
    calm_loop (one ∷ told) h = absurd h.0

    -- ---- calls

    calm_expiry : (side : Side) (m : ℕ) (clock : Clock) → AreCalm (ExpiryTells side m clock)
    calm_expiry side m clock =
        calm_then (EndTells side (of_an_expiry m clock)) LoopTells
        (calm_end side (of_an_expiry m clock) (expiry_holds m clock)) calm_loop

    calm_timer : (side : Side) (m : ℕ) (clock : Clock) → AreCalm (TimerTells side m clock)
    calm_timer side m clock = calm_maybe (ExpiryTells side m clock) (calm_expiry side m clock)

    calm_receiver : (side : Side) (m : ℕ) → AreCalm (ReceiverTells side m)
    calm_receiver side m =
        calm_then (TimerTells side m Reorder) (TimerTells side m Prohibit) (calm_timer side m Reorder)
        (calm_timer side m Prohibit)

    pub calm_receivers : AreCalm ReceiversTell
    calm_receivers =
        calm_then (each (ReceiverTells Nb) all_lcids) (each (ReceiverTells Ue) all_lcids)
        (calm_each (ReceiverTells Nb) (calm_receiver Nb) all_lcids)
        (calm_each (ReceiverTells Ue) (calm_receiver Ue) all_lcids)

    pub calm_senders : AreCalm SendersTell
    calm_senders =
        calm_then (each (SenderTells Nb) all_lcids) (each (SenderTells Ue) all_lcids)
        (calm_each (SenderTells Nb) (λ m. calm_timer Nb m Poll) all_lcids)
        (calm_each (SenderTells Ue) (λ m. calm_timer Ue m Poll) all_lcids)

    hearing_holds : (c : Channels) (way : Direction) (octets : List ℕ) → Hold (of_hearing c way octets)
    hearing_holds c way octets = items_hold c (reading way octets)

    calm_forge : (side : Side) (c : Channels) (octets : List ℕ) → AreCalm (ForgeTells side c octets)
    calm_forge side c octets =
        calm_then (EndTells side (of_hearing c (heard_by side) octets)) LoopTells
        (calm_end side (of_hearing c (heard_by side) octets) (hearing_holds c (heard_by side) octets)) calm_loop

    calm_handover : (c : Side → Channels) → AreCalm (HandoverTells c)
    calm_handover c =
        calm_then (EndTells Nb (of_leaving (c Nb))) (EndTells Ue (of_leaving (c Ue)) then LoopTells)
        (calm_end Nb (of_leaving (c Nb)) (leaving_holds (c Nb)))
        (calm_then (EndTells Ue (of_leaving (c Ue))) LoopTells
        (calm_end Ue (of_leaving (c Ue)) (leaving_holds (c Ue))) calm_loop)

    calm_submit : (side : Side) (m : ℕ) → AreCalm (SubmitTells side m)
    calm_submit side m told (inl none) = calm_none told none
    calm_submit side m told (inr r) = ap (left_in from l) r.told_is

  -- ---- a TTI

  -- the downlink tells of none that leaves the terminal
  shown_calm : (side : Side) (t : ℕ) (kinds : List (Option Layout)) (octets : List ℕ) (told : List Record)
      → told ≡ records.Block (sent_by side) t true 0 octets ∷ block_shown (sent_by side) kinds octets → IsCalm Ue told
  shown_calm side t kinds octets told is =
      ap (left_in Ue l) is
      ∙ untold Ue (records.Block (sent_by side) t true 0 octets ∷ block_shown (sent_by side) kinds octets)
      (shown_untold Ue (sent_by side) kinds octets)

  goes_out_calm : (t : ℕ) (kinds : List (Option Layout)) (c : Channels) (octets : List ℕ)
      → AreCalm Ue (GoesOut Nb t kinds c octets)
  goes_out_calm t kinds c octets told (inl r) =
      ap (left_in Ue l) r.told_are
      ∙ calm_both Ue r.first r.second
      (ap (left_in Ue l) r.is_first.told_is
      ∙ untold Ue (map (records.Of Nb) r.is_first.events) (other_told Nb r.is_first.events))
      (shown_calm Nb _ kinds octets r.second r.is_second)
  goes_out_calm t kinds c octets told (inr r) = ap (left_in Ue l) r.told_is

  heard_calm : (what : Arrived) (c : Channels) (octets : List ℕ) → AreCalm Ue (IsHeard Ue what c octets)
  heard_calm arriveds.Got c octets =
      calm_end Ue Ue (of_hearing c (heard_by Ue) octets) (hearing_holds Ue c (heard_by Ue) octets)
  heard_calm what c octets = calm_none Ue

  pub downlink_calm : (t : ℕ) (kinds : List (Option Layout)) (c : Side → Channels)
      → AreCalm Ue (MayPassOver Nb t kinds c)
  downlink_calm t kinds c told (inl none) = calm_none Ue told none
  downlink_calm t kinds c told (inr (inl none)) = calm_none Ue told none
  downlink_calm t kinds c told (inr (inr r)) =
      calm_then Ue (GoesOut Nb t kinds (c Nb) r.octets) _ (goes_out_calm t kinds (c Nb) r.octets)
      (calm_then Ue _ (IsHeard Ue r.what (c Ue) r.octets) (calm_one Ue _ refl) (heard_calm r.what (c Ue) r.octets))
      told r.in_turn

  -- the uplink tells of none that comes back
  pub unlooped_both : (xs ys : List Record) → looped_at Ue l xs ≡ [] → looped_at Ue l ys ≡ []
      → looped_at Ue l (xs ++ ys) ≡ []
  unlooped_both xs ys p q =
      sym (looped_more Ue l xs ys) ∙ (ap (λ (zs : List (List ℕ)). zs ++ looped_at Ue l ys) p ∙ q)

  goes_out_unlooped : (t : ℕ) (kinds : List (Option Layout)) (c : Channels) (octets : List ℕ) (told : List Record)
      → GoesOut Ue t kinds c octets told → looped_at Ue l told ≡ []
  goes_out_unlooped t kinds c octets told (inl r) =
      ap (looped_at Ue l) r.told_are
      ∙ unlooped_both r.first r.second
      (ap (looped_at Ue l) r.is_first.told_is ∙ events_unlooped l Ue r.is_first.events)
      (ap (looped_at Ue l) r.is_second
      ∙ silent_unlooped l (block_shown (sent_by Ue) kinds octets) (block_is_silent (sent_by Ue) kinds octets))
  goes_out_unlooped t kinds c octets told (inr r) = ap (looped_at Ue l) r.told_is

  heard_unlooped : (what : Arrived) (c : Channels) (octets : List ℕ) (told : List Record)
      → IsHeard Nb what c octets told → looped_at Ue l told ≡ []
  heard_unlooped arriveds.Got c octets told r = ap (looped_at Ue l) r.told_is ∙ events_unlooped l Nb r.events
  heard_unlooped what c octets told none = ap (looped_at Ue l) none

  pub uplink_unlooped : (t : ℕ) (kinds : List (Option Layout)) (c : Side → Channels) (told : List Record)
      → MayPassOver Ue t kinds c told → looped_at Ue l told ≡ []
  uplink_unlooped t kinds c told (inl none) = ap (looped_at Ue l) none
  uplink_unlooped t kinds c told (inr (inl none)) = ap (looped_at Ue l) none
  uplink_unlooped t kinds c told (inr (inr r)) =
      let x = r.in_turn in
      let y = x.is_second in
      ap (looped_at Ue l) x.told_are
      ∙ unlooped_both x.first x.second (goes_out_unlooped t kinds (c Ue) r.octets x.first x.is_first)
      (ap (looped_at Ue l) y.told_are
      ∙ unlooped_both y.first y.second (ap (looped_at Ue l) y.is_first)
      (heard_unlooped r.what (c Nb) r.octets y.second y.is_second))

  -- ---- lines

  -- of every line but a TTI and a drain
  abbrev pub passes : Line → Bool
  passes (lines.Tti up_grant up down_grant down) = true
  passes (lines.Drain grant) = true
  passes line = false

  pub line_calm : (from : Side) (t : ℕ) (kinds : List (Option Layout)) (c : Side → Channels) (line : Line)
      → passes line ≡ false → AreCalm from (LineTells t kinds c line)
  line_calm from t kinds c (lines.Submit side lcid octets) rests = calm_submit from side lcid
  line_calm from t kinds c (lines.Tti up_grant up down_grant down) rests = absurd cc
  line_calm from t kinds c (lines.Drain grant) rests = absurd cc
  line_calm from t kinds c (lines.Expire side lcid clock) rests = calm_expiry from side lcid clock
  line_calm from t kinds c (lines.Forge side octets) rests = calm_forge from side (c side) octets
  line_calm from t kinds c (lines.Handover user rrc integrity) rests = calm_handover from c
  line_calm from t kinds c lines.LoopOff rests = calm_loop from
  line_calm from t kinds c (lines.LoopA size) rests = calm_loop from
  line_calm from t kinds c (lines.LoopB delay) rests = calm_loop from
  line_calm from t kinds c line rests = calm_none from
