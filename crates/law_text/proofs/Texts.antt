use Rattle.std.proofs.Common.{◌≡◌, ◌<◌, ◌^◌, ◌/◌, ◌%◌, ◌∙◌, ℕ, Bool, true, false, Option, Some, None, ◌≤◌, List, []}
use Rattle.std.proofs.Common.{◌∷◌, ◌++◌, length, codes, append_assoc, refl, ap, arith, sym}
use Rattle.l2_types.specs.declared.side.Side.{Side}
use Rattle.l2_types.specs.declared.side.Side.TheVariants.{Ue, Nb}
use Rattle.mac_pdu.specs.declared.item.Direction.{Direction}
use Rattle.mac_pdu.specs.declared.item.Direction.TheVariants as directions
use Rattle.mac_pdu.specs.declared.item.Bsr.{Bsr}
use Rattle.mac_pdu.specs.declared.item.Bsr.TheVariants as bsrs
use Rattle.mac_pdu.specs.declared.item.Control.{Control}
use Rattle.mac_pdu.specs.declared.item.Control.TheVariants as controls
use Rattle.l2_types.specs.declared.event.Clock.{Clock}
use Rattle.l2_types.specs.declared.event.Clock.TheVariants as clocks
use Rattle.l2_types.specs.declared.event.How.{How}
use Rattle.l2_types.specs.declared.event.How.TheVariants as hows
use Rattle.l2_types.specs.declared.event.Waits.{Waits}
use Rattle.l2_types.specs.declared.event.Waits.TheVariants as waits
use Rattle.l2_types.specs.declared.event.Lost.{Lost}
use Rattle.l2_types.specs.declared.event.Lost.TheVariants as losts
use Rattle.bearer_types.specs.declared.event.Event.{Event}
use Rattle.bearer_types.specs.declared.event.Event.TheVariants as events
use Rattle.air_record.specs.declared.record.Arrived.{Arrived}
use Rattle.air_record.specs.declared.record.Arrived.TheVariants as arriveds
use Rattle.air_record.specs.declared.record.NoPlace.{NoPlace}
use Rattle.air_record.specs.declared.record.NoPlace.TheVariants as places
use Rattle.air_record.specs.declared.record.State.{State}
use Rattle.air_record.specs.declared.record.State.TheVariants as states
use Rattle.air_record.specs.declared.record.Record.{Record}
use Rattle.air_record.specs.declared.record.Record.TheVariants.{Line, Tti, Of, Block, Air, Refused, Looped, Drained}
use Rattle.air_record.specs.declared.record.Record.TheVariants.{Sum, MacFront, MacSdu, MacPad, MacControl, RlcTm}
use Rattle.air_record.specs.declared.record.Record.TheVariants.{RlcUm, RlcAm, RlcSeg, RlcStatus, PdcpData, PdcpSrb}
use Rattle.air_record.specs.declared.record.Record.TheVariants.{PdcpReport, Shown, BadMac, BadRlc, BadPdcp, Sleep}
use Rattle.air_record.specs.Text.{worded, ended, text_of, accepted_text, line_words, bearer_words, kind_text}
use Rattle.air_record.specs.Text.{cipher_text, fate_text, side_text, clock_text, how_text, waits_text, lost_text}
use Rattle.air_record.specs.Text.{direction_text, fresh_text, arrived_text, heard_text, place_text, state_text}
use Rattle.air_record.specs.Text.{bit_text, mac_number, rlc_number, pdcp_number, event_words, bsr_words, control_words}
use Rattle.law_text.specs.Back.{cut, IsGoodEvent}
use Rattle.air_text.specs.Spoken.{is_clear, are_clear, IsGoodLine, AreSome, spoken}
use Rattle.law_text.specs.Records.{record_back, IsGoodReport, IsGoodControl, IsGood}
use Rattle.law_text.proofs.Cuts.{cut-text}
use Rattle.law_text.proofs.Clear.{clear-number, clear-octets, clear-bitmap, clear-count}
use Rattle.law_text.proofs.Records.{said, back-record}
use Rattle.std.specs.Fmt.{decimal}
use Rattle.l2_types.specs.declared.channel.Kind.{Kind}
use Rattle.l2_types.specs.declared.channel.Kind.TheVariants as kinds
use Rattle.eps_sec.specs.declared.keys.Cipher.{Cipher}
use Rattle.eps_sec.specs.declared.keys.Cipher.TheVariants as ciphers
use Rattle.air_record.specs.declared.line.Fate.{Fate}
use Rattle.air_record.specs.declared.line.Fate.TheVariants as fates
use Rattle.air_record.specs.declared.line.Line.{Line as Lines}
use Rattle.air_record.specs.declared.line.Line.TheVariants as lines
use Rattle.air_text.specs.Words.{joined, spaced}
use Rattle.law_text.proofs.Parts.{small-mac, small-rlc, small-pdcp}
use Rattle.law_text.proofs.LensBack.{clear-lens, clear-framing}
use Rattle.law_text.proofs.NacksBack.{clear-nacks}

clear-side : (c : Side) → is_clear (side_text c) ≡ true
clear-side Ue = refl
clear-side Nb = refl

clear-clock : (c : Clock) → is_clear (clock_text c) ≡ true
clear-clock clocks.Poll = refl
clear-clock clocks.Reorder = refl
clear-clock clocks.Prohibit = refl

clear-how : (c : How) → is_clear (how_text c) ≡ true
clear-how hows.Tm = refl
clear-how hows.New = refl
clear-how hows.Re = refl
clear-how hows.Status = refl

clear-waits : (c : Waits) → is_clear (waits_text c) ≡ true
clear-waits waits.Stopped = refl
clear-waits waits.Shut = refl
clear-waits waits.Held = refl
clear-waits waits.Small = refl

clear-lost : (c : Lost) → is_clear (lost_text c) ≡ true
clear-lost losts.NoBearer = refl
clear-lost losts.Repeat = refl
clear-lost losts.Outside = refl
clear-lost losts.Clash = refl
clear-lost losts.Old = refl
clear-lost losts.Range = refl
clear-lost losts.Ignored = refl
clear-lost losts.Handover = refl
clear-lost losts.Loop = refl
clear-lost losts.Report = refl

clear-direction : (c : Direction) → is_clear (direction_text c) ≡ true
clear-direction directions.Down = refl
clear-direction directions.Up = refl

clear-fresh : (c : Bool) → is_clear (fresh_text c) ≡ true
clear-fresh true = refl
clear-fresh false = refl

clear-arrived : (c : Arrived) → is_clear (arrived_text c) ≡ true
clear-arrived arriveds.Got = refl
clear-arrived arriveds.Dup = refl
clear-arrived arriveds.Bad = refl
clear-arrived arriveds.Nothing = refl

clear-place : (c : NoPlace) → is_clear (place_text c) ≡ true
clear-place places.Full = refl
clear-place places.Count = refl

clear-state : (c : State) → is_clear (state_text c) ≡ true
clear-state states.Ok = refl
clear-state states.Failed = refl
clear-state states.Short = refl
clear-state states.Long = refl

clear-bit : (c : Bool) → is_clear (bit_text c) ≡ true
clear-bit true = refl
clear-bit false = refl

clear-heard : (c : Option Bool) → is_clear (heard_text c) ≡ true
clear-heard None = refl
clear-heard (Some true) = refl
clear-heard (Some false) = refl

cut-event : (side : Side) (e : Event) → IsGoodEvent e
    → cut [] (worded (event_words (side_text side) e)) ≡ event_words (side_text side) e
cut-event side (events.Take lcid count len) h =
    cut-text _ _ (rw (clear-side side, clear-number lcid h.0, clear-count count h.1, clear-number len h.2) refl)
cut-event side (events.Report lcid fms bitmap) h =
    cut-text _ _ (rw (clear-side side, clear-number lcid h.0, clear-number fms h.1, clear-bitmap bitmap) refl)
cut-event side (events.Send lcid how sn) h =
    cut-text _ _ (rw (clear-side side, clear-number lcid h.0, clear-how how, clear-number sn h.1) refl)
cut-event side (events.Wait lcid why) h = cut-text _ _ (rw (clear-side side, clear-number lcid h, clear-waits why) refl)
cut-event side (events.Start lcid clock) h =
    cut-text _ _ (rw (clear-side side, clear-number lcid h, clear-clock clock) refl)
cut-event side (events.Stop lcid clock) h =
    cut-text _ _ (rw (clear-side side, clear-number lcid h, clear-clock clock) refl)
cut-event side (events.Expired lcid clock) h =
    cut-text _ _ (rw (clear-side side, clear-number lcid h, clear-clock clock) refl)
cut-event side (events.Up lcid octets) h =
    cut-text _ _ (rw (clear-side side, clear-number lcid h.0, clear-octets octets) refl)
cut-event side (events.Fail lcid sn) h =
    cut-text _ _ (rw (clear-side side, clear-number lcid h.0, clear-number sn h.1) refl)
cut-event side (events.Drop lcid why) h = cut-text _ _ (rw (clear-side side, clear-number lcid h, clear-lost why) refl)
cut-event side (events.Discard lcid len) h =
    cut-text _ _ (rw (clear-side side, clear-number lcid h.0, clear-number len h.1) refl)
cut-event side (events.Integrity lcid found wanted) h =
    cut-text _ _ (rw (clear-side side, clear-number lcid h.0, clear-octets found, clear-octets wanted) refl)
cut-event side (events.BadMac fault) h =
    cut-text _ _
    (rw (clear-side side, clear-number fault.at h, clear-number (mac_number fault.why) (small-mac fault.why)) refl)
cut-event side (events.BadRlc lcid fault) h =
    cut-text _ _ (rw (
      clear-side side,
      clear-number lcid h.0,
      clear-number fault.at h.1,
      clear-number (rlc_number fault.why) (small-rlc fault.why),
    ) refl)
cut-event side (events.BadPdcp lcid fault) h =
    cut-text _ _ (rw (
      clear-side side,
      clear-number lcid h.0,
      clear-number fault.at h.1,
      clear-number (pdcp_number fault.why) (small-pdcp fault.why),
    ) refl)

cut-report : (report : Bsr) → IsGoodReport report → cut [] (worded (bsr_words report)) ≡ bsr_words report
cut-report (bsrs.Truncated group level) h = cut-text _ _ (rw (clear-number group h.0, clear-number level h.1) refl)
cut-report (bsrs.Short group level) h = cut-text _ _ (rw (clear-number group h.0, clear-number level h.1) refl)
cut-report (bsrs.Long (a ∷ b ∷ c ∷ d ∷ [])) h =
    cut-text _ _ (rw (clear-number a h.0, clear-number b h.1, clear-number c h.2, clear-number d h.3) refl)
cut-report (bsrs.Long []) h = absurd h
cut-report (bsrs.Long (a ∷ [])) h = absurd h
cut-report (bsrs.Long (a ∷ b ∷ [])) h = absurd h
cut-report (bsrs.Long (a ∷ b ∷ c ∷ [])) h = absurd h
cut-report (bsrs.Long (a ∷ b ∷ c ∷ d ∷ e ∷ levels)) h = absurd h

cut-control : (element : Control) → IsGoodControl element
    → cut [] (worded (control_words element)) ≡ control_words element
cut-control (controls.Contention identity) h = cut-text _ _ (rw (clear-octets identity) refl)
cut-control (controls.Advance value) h = cut-text _ _ (rw (clear-number value h) refl)
cut-control controls.Drx h = cut-text _ _ refl
cut-control (controls.Phr level) h = cut-text _ _ (rw (clear-number level h) refl)
cut-control (controls.Crnti identity) h = cut-text _ _ (rw (clear-octets (identity / 256 ∷ identity % 256 ∷ [])) refl)
cut-control (controls.Report report) h = cut-report report h

-- words that stand in one place, and a line feed behind them
spaced-ended : (ws : List (List ℕ)) → spaced ws ++ 10 ∷ [] ≡ ended ws
spaced-ended [] = refl
spaced-ended (w ∷ ws) =
    ap (λ (r : List ℕ). 32 ∷ r) (append_assoc w (spaced ws) (10 ∷ []) ∙ ap (λ (r : List ℕ). w ++ r) (spaced-ended ws))

bearer-text : (a b c : List ℕ) (w : List ℕ) (ws : List (List ℕ))
    → worded (a ∷ b ∷ c ∷ joined (w ∷ ws) ∷ []) ≡ worded (a ∷ b ∷ c ∷ w ∷ ws)
bearer-text a b c w ws =
    ap (λ (r : List ℕ). a ++ (32 ∷ (b ++ (32 ∷ (c ++ (32 ∷ r))))))
    (append_assoc w (spaced ws) (10 ∷ []) ∙ ap (λ (r : List ℕ). w ++ r) (spaced-ended ws))

bearer-same : (lcid : ℕ) (kind : Kind) (options : List ℕ) (words : List (List ℕ)) → AreSome words
    → options ≡ joined words
    → worded (bearer_words lcid kind options) ≡ worded (codes "bearer" ∷ decimal lcid ∷ kind_text kind ∷ words)
bearer-same lcid kind options [] some is = rw is refl
bearer-same lcid kind options ([] ∷ ws) some is = absurd (omega (arith, some.0))
bearer-same lcid kind options ((x ∷ xs) ∷ ws) some is =
    rw is (bearer-text (codes "bearer") (decimal lcid) (kind_text kind) (x ∷ xs) ws)

-- a line's text is that of its words
spoken-text : (line : Lines) → (h : IsGoodLine line) → worded (line_words line) ≡ worded (spoken line h)
spoken-text (lines.Bearer config options) h =
    bearer-same config.channel.lcid config.kind options h.words h.some h.joined_is
spoken-text (lines.Harq visits) h = refl
spoken-text lines.Bsr h = refl
spoken-text (lines.Keys keys) h = refl
spoken-text (lines.Submit side lcid octets) h = refl
spoken-text (lines.Tti up_grant up down_grant down) h = refl
spoken-text (lines.Expire side lcid clock) h = refl
spoken-text (lines.Handover user rrc integrity) h = refl
spoken-text lines.LoopOff h = refl
spoken-text (lines.LoopA size) h = refl
spoken-text (lines.LoopB delay) h = refl
spoken-text (lines.Drain grant) h = refl
spoken-text (lines.Forge side octets) h = refl
spoken-text lines.End h = refl
spoken-text (lines.Discard lcid ttis) h = refl
spoken-text (lines.Drx config) h = refl

clear-kind : (k : Kind) → is_clear (kind_text k) ≡ true
clear-kind kinds.Tm = refl
clear-kind kinds.Srb = refl
clear-kind kinds.Um = refl
clear-kind kinds.Am = refl

clear-cipher : (c : Cipher) → is_clear (cipher_text c) ≡ true
clear-cipher ciphers.Eea0 = refl
clear-cipher ciphers.Eea2 = refl

clear-fate : (fate : Fate) (flipped : Bool) → is_clear (fate_text fate flipped) ≡ true
clear-fate fates.Ok false = refl
clear-fate fates.Ok true = refl
clear-fate fates.Bad false = refl
clear-fate fates.Bad true = refl
clear-fate fates.Miss false = refl
clear-fate fates.Miss true = refl

below : (n most : ℕ) → n ≤ most → most < 2 ^ 64 → is_clear (decimal n) ≡ true
below n most h small = clear-number n (omega (arith, h, small))

spoken-clear : (line : Lines) → (h : IsGoodLine line) → are_clear (spoken line h) ≡ true
spoken-clear (lines.Bearer config options) h =
    rw (below config.channel.lcid 10 h.lcid (omega arith), clear-kind config.kind, h.clear) refl
spoken-clear (lines.Harq visits) h = rw (below visits 28 h.1 (omega arith)) refl
spoken-clear lines.Bsr h = refl
spoken-clear (lines.Keys keys) h =
    rw (
      clear-cipher keys.alg,
      clear-octets keys.user.octets,
      clear-octets keys.rrc.octets,
      clear-octets keys.integrity.octets,
    ) refl
spoken-clear (lines.Submit side lcid octets) h =
    rw (clear-side side, below lcid 10 h.0 (omega arith), clear-octets octets) refl
spoken-clear (lines.Tti up_grant up down_grant down) h =
    rw (
      below up_grant 9422 h.0 (omega arith),
      clear-fate up.fate up.flipped,
      below down_grant 9422 h.1 (omega arith),
      clear-fate down.fate down.flipped,
    ) refl
spoken-clear (lines.Expire side lcid clock) h =
    rw (clear-side side, below lcid 10 h (omega arith), clear-clock clock) refl
spoken-clear (lines.Handover user rrc integrity) h =
    rw (clear-octets user.octets, clear-octets rrc.octets, clear-octets integrity.octets) refl
spoken-clear lines.LoopOff h = refl
spoken-clear (lines.LoopA size) h = rw (below size 8188 h (omega arith)) refl
spoken-clear (lines.LoopB delay) h = rw (below delay 65535 h (omega arith)) refl
spoken-clear (lines.Drain grant) h = rw (below grant 9422 h (omega arith)) refl
spoken-clear (lines.Forge side octets) h = rw (clear-side side, clear-octets octets) refl
spoken-clear lines.End h = refl
spoken-clear (lines.Discard lcid ttis) h = rw (below lcid 10 h.0 (omega arith), below ttis 65535 h.2 (omega arith)) refl
spoken-clear (lines.Drx config) h =
    rw (
      below config.on 200 h.on.1 (omega arith),
      below config.inactivity 2560 h.inactivity (omega arith),
      below config.retransmit 33 h.retransmit (omega arith),
      below config.cycle 2560 h.cycle.1 (omega arith),
      below config.offset 2559 h.offset (omega arith),
    ) refl

-- a text behind a word
worded-more : (w : List ℕ) (ws : List (List ℕ)) → 0 < length ws → w ++ (32 ∷ worded ws) ≡ worded (w ∷ ws)
worded-more w [] some = absurd (omega (arith, some))
worded-more w (v ∷ ws) some = refl

spoken-some : (line : Lines) → (h : IsGoodLine line) → 0 < length (spoken line h)
spoken-some (lines.Bearer config options) h = omega arith
spoken-some (lines.Harq visits) h = omega arith
spoken-some lines.Bsr h = omega arith
spoken-some (lines.Keys keys) h = omega arith
spoken-some (lines.Submit side lcid octets) h = omega arith
spoken-some (lines.Tti up_grant up down_grant down) h = omega arith
spoken-some (lines.Expire side lcid clock) h = omega arith
spoken-some (lines.Handover user rrc integrity) h = omega arith
spoken-some lines.LoopOff h = omega arith
spoken-some (lines.LoopA size) h = omega arith
spoken-some (lines.LoopB delay) h = omega arith
spoken-some (lines.Drain grant) h = omega arith
spoken-some (lines.Forge side octets) h = omega arith
spoken-some lines.End h = omega arith
spoken-some (lines.Discard lcid ttis) h = omega arith
spoken-some (lines.Drx config) h = omega arith

cut-accepted : (number : ℕ) (line : Lines) → number < 2 ^ 64 → (h : IsGoodLine line)
    → cut [] (accepted_text number line) ≡ codes "line" ∷ decimal number ∷ spoken line h
cut-accepted number line small h =
    ap (λ (r : List ℕ). cut [] (codes "line" ++ (32 ∷ (decimal number ++ (32 ∷ r))))) (spoken-text line h)
    ∙ ap (λ (r : List ℕ). cut [] (codes "line" ++ (32 ∷ r)))
    (worded-more (decimal number) (spoken line h) (spoken-some line h))
    ∙ cut-text (codes "line") (decimal number ∷ spoken line h)
    (rw (clear-number number small, spoken-clear line h) refl)

cut-record : (one : Record) → (h : IsGood one) → cut [] (text_of one) ≡ said one h
cut-record (Tti tti) h = cut-text _ _ (rw (clear-number tti h) refl)
cut-record (Block direction process fresh rv octets) h =
    cut-text _ _ (rw (
      clear-direction direction,
      clear-number process h.0,
      clear-fresh fresh,
      clear-number rv h.1,
      clear-octets octets,
    ) refl)
cut-record (Air direction what heard) h =
    cut-text _ _ (rw (clear-direction direction, clear-arrived what, clear-heard heard) refl)
cut-record (Refused side lcid why) h = cut-text _ _ (rw (clear-side side, clear-number lcid h, clear-place why) refl)
cut-record (Looped lcid octets) h = cut-text _ _ (rw (clear-number lcid h.0, clear-octets octets) refl)
cut-record (Drained rounds) h = cut-text _ _ (rw (clear-number rounds h) refl)
cut-record (Sum direction lcid submitted delivered state) h =
    cut-text _ _ (rw (
      clear-direction direction,
      clear-number lcid h.0,
      clear-number submitted h.1,
      clear-number delivered h.2,
      clear-state state,
    ) refl)
cut-record (MacSdu lcid len) h = cut-text _ _ (rw (clear-number lcid h.0, clear-number len h.1) refl)
cut-record (MacPad octets) h = cut-text _ _ (rw (clear-number octets h) refl)
cut-record (RlcTm len) h = cut-text _ _ (rw (clear-number len h) refl)
cut-record (PdcpData sn len) h = cut-text _ _ (rw (clear-number sn h.0, clear-number len h.1) refl)
cut-record (PdcpSrb sn len tag) h = cut-text _ _ (rw (clear-number sn h.0, clear-number len h.1, clear-octets tag) refl)
cut-record (PdcpReport fms bitmap) h = cut-text _ _ (rw (clear-number fms h.0, clear-bitmap bitmap) refl)
cut-record (Shown number direction len) h =
    cut-text _ _ (rw (clear-number number h.0, clear-direction direction, clear-number len h.1) refl)
cut-record (BadPdcp fault) h =
    cut-text _ _ (rw (clear-number fault.at h, clear-number (pdcp_number fault.why) (small-pdcp fault.why)) refl)
cut-record (Of side event) h = cut-event side event h
cut-record MacFront h = cut-text _ _ refl
cut-record Sleep h = cut-text _ _ refl
cut-record (Line number line) h = cut-accepted number line h.0 h.1
cut-record (MacControl element) h = cut-control element h
cut-record (RlcUm sn fi lens) h =
    cut-text _ _ (rw (clear-number sn h.0, clear-framing fi h.1, clear-lens lens h.2) refl)
cut-record (RlcAm sn poll fi lens) h =
    cut-text _ _ (rw (clear-number sn h.0, clear-bit poll, clear-framing fi h.1, clear-lens lens h.2) refl)
cut-record (RlcSeg sn poll fi last so lens) h =
    cut-text _ _ (rw (
      clear-number sn h.0,
      clear-bit poll,
      clear-framing fi h.1,
      clear-bit last,
      clear-number so h.2,
      clear-lens lens h.3,
    ) refl)
cut-record (RlcStatus ack nacks) h = cut-text _ _ (rw (clear-number ack h.0, clear-nacks nacks h.1) refl)
cut-record (BadMac fault) h =
    cut-text _ _ (rw (clear-number fault.at h, clear-number (mac_number fault.why) (small-mac fault.why)) refl)
cut-record (BadRlc fault) h =
    cut-text _ _ (rw (clear-number fault.at h, clear-number (rlc_number fault.why) (small-rlc fault.why)) refl)

pub back-text : (one : Record) → IsGood one → record_back (cut [] (text_of one)) ≡ one
back-text one h = ap record_back (cut-record one h) ∙ back-record one h

pub one-text : (one other : Record) → IsGood one → IsGood other → text_of one ≡ text_of other → one ≡ other
one-text one other h g e = sym (back-text one h) ∙ (ap (λ (t : List ℕ). record_back (cut [] t)) e ∙ back-text other g)
