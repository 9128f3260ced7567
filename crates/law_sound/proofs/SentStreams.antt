-- What the events of a bearer's channel make of the flow that it sends, while the PDUs of a journal are checked: RLC is
-- given the PDUs that they tell of, and nothing else changes.
use Rattle.std.proofs.Common.{◌≡◌, ◌<◌, inl, inr, ℕ, ◌-◌, ◌^◌, Bool, true, false, ◌==◌, not, ◌||◌}
use Rattle.std.proofs.Common.{nat_lt, nat_le}
use Rattle.std.proofs.Common.{if◌then◌else◌, List, [], ◌∷◌, ◌++◌, map, length, Option, Some, None, refl, ap, sym, subst}
use Rattle.std.proofs.Common.{◌∙◌, arith, slice_index}
use Rattle.std.specs.List.{AllByRecursion}
use Rattle.std.proofs.lemmas.Bool.{and_from, lt-ltb, le-leb, ne_eqb}
use Rattle.std.proofs.lemmas.Nat.{mod_below, pow_pos}
use Rattle.bearer_types.specs.declared.event.Event.{Event}
use Rattle.bearer_types.specs.declared.event.Event.TheVariants as events
use Rattle.l2_types.specs.declared.limits.TheConstants.{GREATEST_SDU}
use Rattle.pdcp_pdu.specs.declared.pdu.PdcpKind.TheVariants as pdcp
use Rattle.pdcp_pdu.specs.Grammar.{IsBitmap, user_spelling}
use Rattle.pdcp_pdu.specs.Pdus.{Report}
use Rattle.pdcp_sec.specs.Protection.{Protection}
use Rattle.pdu_show.specs.declared.kinds.Layout.{Layout}
use Rattle.pdu_show.specs.declared.kinds.Layout.TheVariants as layouts
use Rattle.rlc_am_tx.specs.Machine.{State}
use Rattle.journal_lives.specs.CountsCome.{CountsCome}
use Rattle.journal_takes.specs.TakeEvents.{PduTaken, ReportTaken}
use Rattle.journal_given.specs.Supplies.{Supply, History, is_short, is_take, is_right_report}
use Rattle.journal_given.specs.Supplies as given
use Rattle.journal_given.specs.RightTakes.{IsSaid}
use Rattle.journal_sent.specs.RightSent.{Flow, IsSdu, Sent}
use Rattle.journal_sent.specs.SentFlows.{Cover, with_covered, is_sdu, gives_data, is_written, reported_as}
use Rattle.journal_sent.specs.SentFlows.{flow_reported}
use Rattle.journal_sent.specs.SentPdus.{histories, with_given}
use Rattle.law_deliver.specs.AmFlow.Pair.{HasOctet}
use Rattle.law_given.specs.SupplyLaws.{supplied_by, IsRight, AreRight}
use Rattle.law_given.specs.SupplyPdus.{pdu_if, pdus_in, pdus_told}
use Rattle.law_given.proofs.SupplyPdusKept.{WereSubmitted, kept_hold}
use Rattle.law_rlc.specs.AmSender.Octets.{Octets, octets_after}
use Rattle.law_rlc.specs.AmSender.Run.{Offer, run_am_sender, after}
use Rattle.law_sent.specs.Senders.{AreStreamsOf}
use Rattle.law_sent.proofs.Senders.{offers_go_on}
use Rattle.law_sound.proofs.SentBeside.{flow_by, flow_over}

-- ---- RLC is given PDUs

abbrev pub all_given : List (List ℕ) → Sent → Sent
all_given [] x = x
all_given (pdu ∷ pdus) x = all_given pdus (with_given histories pdu x)

abbrev pub gives_all : List (List ℕ) → Flow → Flow
gives_all pdus f = record f { stream = all_given pdus f.stream }

given_then : (xs ys : List (List ℕ)) (x : Sent) → all_given (xs ++ ys) x ≡ all_given ys (all_given xs x)
given_then [] ys x = refl
given_then (pdu ∷ xs) ys x = given_then xs ys (with_given histories pdu x)

-- its sender is offered them
pub streams_given : (pdus : List (List ℕ)) (s : State) (o : Octets) (x : Sent) → AllByRecursion HasOctet pdus
    → AreStreamsOf o x
    → AreStreamsOf
    (run_am_sender octets_after (map (λ pdu. Offer pdu) pdus) (record { state = s; past = o })).past
    (all_given pdus x)
streams_given [] s o x some h = h
streams_given (pdu ∷ pdus) s o x some h =
    streams_given pdus (after s (Offer pdu)) (octets_after s (Offer pdu) o) (with_given histories pdu x) some.1
    (offers_go_on s pdu o x some.0 h)

-- ---- the PDUs are those of a data bearer

pub record IsCovered (bits : ℕ) (p : Protection) (f : Flow) : Type 0 where
  pub layout_is : f.layout ≡ layouts.Am (pdcp.Am bits)
  pub cover_is : f.cover ≡ Some (record { kind = pdcp.Am bits; protection = p })

-- PDCP took an SDU of so many octets
pub sized : (sdu : List ℕ) → IsSdu sdu → is_sdu sdu ≡ true
sized sdu h =
    and_from (nat_le 1 (length sdu)) (nat_le (length sdu) GREATEST_SDU) (le-leb 1 (length sdu) h.0)
    (le-leb (length sdu) GREATEST_SDU h.1)

sdu_given : (bits : ℕ) (p : Protection) (count : ℕ) (x : Option (List ℕ)) (f : Flow) → IsCovered bits p f
    → ((sdu : List ℕ) → x ≡ Some sdu → IsSdu sdu)
    → gives_data histories (Some count) x f ≡ gives_all (pdu_if bits p count x) f
sdu_given bits p count None f c are = refl
sdu_given bits p count (Some sdu) f c are =
    ap (λ (b : Bool). if b
    then record f { stream = with_covered histories f.cover count sdu f.stream } else f) (sized sdu (are sdu refl))
    ∙ ap (λ (o : Option Cover). record f { stream = with_covered histories o count sdu f.stream }) c.cover_is

-- a report that is right can be written
short : (bitmap : List ℕ) → IsBitmap bitmap → is_short bitmap ≡ true
short [] h = refl
short (octet ∷ octets) (inl e) = absurd cc
short (octet ∷ octets) (inr h) =
    ap (λ (b : Bool). b || not (slice_index (octet ∷ octets) (length (octet ∷ octets) - 1) == 0))
    (ne_eqb (length (octet ∷ octets)) 0 (λ e. omega (arith, e)))
    ∙ ap (λ (b : Bool). not b) (ne_eqb (slice_index (octet ∷ octets) (length (octet ∷ octets) - 1)) 0 h)

said_written : (bits fms : ℕ) (bitmap : List ℕ) (come : CountsCome) → IsSaid fms bitmap bits come
    → is_written bits fms bitmap ≡ true
said_written bits fms bitmap come h =
    let low : fms < 2 ^ bits =
    subst (λ (n : ℕ). n < 2 ^ bits) (sym h.fms_is) (mod_below come.next (2 ^ bits) (pow_pos bits)) in
    and_from (nat_lt fms (2 ^ bits)) (is_short bitmap) (lt-ltb fms (2 ^ bits) low) (short bitmap h.short)

report_given : (bits : ℕ) (p : Protection) (fms : ℕ) (bitmap : List ℕ) (f : Flow) → IsCovered bits p f
    → is_written bits fms bitmap ≡ true
    → flow_reported histories fms bitmap f ≡ gives_all (user_spelling bits (Report fms bitmap) ∷ []) f
report_given bits p fms bitmap f c can =
    ap (λ (layout : Layout). reported_as histories layout fms bitmap f) c.layout_is
    ∙ ap (λ (b : Bool). if b
    then record f { stream = with_given histories (user_spelling bits (Report fms bitmap)) f.stream } else f) can

-- ---- events

event_given : (p : Protection) (e : Event) (s : Supply History) (f : Flow) → IsCovered s.bits p f
    → WereSubmitted IsSdu s.takes.events → IsRight e s → flow_by e s f ≡ gives_all (pdus_in p e s) f
event_given p (events.Take lcid (Some count) len) s f c were right =
    sdu_given s.bits p count (given.histories.sdu count s.takes) f c
    (λ sdu e. kept_hold IsSdu s.takes.first s.takes.bits s.takes.events count sdu were e)
event_given p (events.Take lcid None len) s f c were right = refl
event_given p (events.Report lcid fms bitmap) s f c were right =
    report_given s.bits p fms bitmap f c (said_written s.bits fms bitmap s.said right.said)
event_given p e s f c were right = refl

-- what was submitted stays
record IsAsBefore (s t : Supply History) : Type 0 where
  pub bits : t.bits ≡ s.bits
  pub were : WereSubmitted IsSdu s.takes.events → WereSubmitted IsSdu t.takes.events

same : (s : Supply History) → IsAsBefore s s
same s = record { bits = refl; were = λ h. h }

supplied_same : (e : Event) (s : Supply History) → IsAsBefore s (supplied_by e s)
supplied_same (events.Take lcid (Some count) len) s = by (is_take given.histories (Some count) len s)
  where
    by : (b : Bool) → IsAsBefore s (if b
        then given.gives (Some count) (given.told given.histories (PduTaken count) s) else given.gives_other s)
    by true = record { bits = refl; were = λ h. h }
    by false = record { bits = refl; were = λ h. h }
supplied_same (events.Take lcid None len) s = record { bits = refl; were = λ h. h }
supplied_same (events.Report lcid fms bitmap) s = by (is_right_report given.histories fms bitmap s)
  where
    by : (b : Bool) → IsAsBefore s (if b
        then given.gives None (given.reports (given.told given.histories ReportTaken s)) else given.gives_other s)
    by true = record { bits = refl; were = λ h. h }
    by false = record { bits = refl; were = λ h. h }
supplied_same (events.Discard lcid len) s = record { bits = refl; were = λ h. h }
supplied_same e s = same s

pub flow_is : (bits : ℕ) (p : Protection) (es : List Event) (s : Supply History) (f : Flow) → s.bits ≡ bits
    → IsCovered bits p f → WereSubmitted IsSdu s.takes.events → AreRight es s
    → flow_over es s f ≡ gives_all (pdus_told p es s) f
flow_is bits p [] s f e c were right = refl
flow_is bits p (event ∷ es) s f e c were right =
    let now = supplied_by event s in
    let stays = supplied_same event s in
    let one = gives_all (pdus_in p event s) f in
    ap (λ (g : Flow). flow_over es now g)
    (event_given p event s f (subst (λ (n : ℕ). IsCovered n p f) (sym e) c) were right.0)
    ∙ (flow_is bits p es now one (stays.bits ∙ e) (record { layout_is = c.layout_is; cover_is = c.cover_is })
    (stays.were were) right.1
    ∙ ap (λ (x : Sent). record f { stream = x })
    (sym (given_then (pdus_in p event s) (pdus_told p es now) f.stream)))

-- ---- what stays of the flow as PDUs go

pub record Stays (f g : Flow) : Type 0 where
  pub layout : g.layout ≡ f.layout
  pub cover : g.cover ≡ f.cover
  pub waiting : g.waiting ≡ f.waiting
  pub given : g.given ≡ f.given
  pub floor : g.floor ≡ f.floor
