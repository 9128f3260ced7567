-- Each history that is told is one: RLC takes what is takeable, and confirms what was taken.
use Rattle.std.proofs.Common.{◌≡◌, ℕ, zero, suc, ◌+◌, ◌<◌, ◌≤◌, Bool, true, false, List, [], ◌∷◌, ◌++◌}
use Rattle.std.proofs.Common.{Option, Some, None, refl, ap, arith, subst, if◌then◌else◌, slice_set}
use Rattle.std.proofs.Common.{replicate}
use Rattle.std.specs.Prelude.{option_map}
use Rattle.std.proofs.lemmas.Bool.{and_parts, eqb-true}
use Rattle.l2_types.specs.declared.channel.Kind.{Kind}
use Rattle.l2_types.specs.declared.channel.Kind.TheVariants as bearers
use Rattle.l2_types.specs.declared.side.Side.{Side}
use Rattle.l2_types.specs.declared.side.Side.TheVariants.{Nb, Ue}
use Rattle.bearer_types.specs.declared.event.Event.{Event}
use Rattle.bearer_types.specs.declared.event.Event.TheVariants as events
use Rattle.bearer_types.specs.Sides.{other, sender_of}
use Rattle.air_record.specs.declared.line.Line.{Line}
use Rattle.air_record.specs.declared.line.Line.TheVariants as lines
use Rattle.air_record.specs.declared.record.Record.{Record}
use Rattle.air_record.specs.declared.record.Record.TheVariants as records
use Rattle.air_text.specs.Groups.{Group}
use Rattle.promises.specs.Records.{is_got}
use Rattle.journal_lives.specs.CountsCome.{CountsCome}
use Rattle.journal_lives.specs.FlowLives.{FlowLives}
use Rattle.journal_flows.specs.Gathering.{sending_of, sent_last}
use Rattle.journal_flows.specs.NumberedPdus.{carries_status}
use Rattle.journal_flows.specs.Accounts.{account_at, after_record as record_kept}
use Rattle.journal_flows.specs.Accounts.{after_group as group_kept}
use Rattle.journal_takes.specs.declared.take.Take.{Take}
use Rattle.journal_takes.specs.declared.take.Take.TheVariants.{Report, Pdu}
use Rattle.journal_takes.specs.TakeEvents.{TakeEvent, SduSubmitted, SduDiscarded, PduTaken, ReportTaken}
use Rattle.journal_takes.specs.TakeEvents.{PduConfirmed, ReportConfirmed, ReportHeard, next_new}
use Rattle.journal_takes.specs.Takeable.{IsTakeable, IsPossible, AreTakes}
use Rattle.journal_takes.specs.FlowTakes.{next_take, sdu_kept}
use Rattle.journal_takes.proofs.TakesTold.{takes_are_true}
use Rattle.air_record.specs.declared.submission.Submission.{Submission}
use Rattle.air_record.specs.Submissions.{unrefused}
use Rattle.journal_given.specs.declared.supply.GivenPdu.{GivenPdu}
use Rattle.journal_given.specs.Supplies.{Supply, Bearer, History, account, histories, told, is_pdu, has_length, is_take}
use Rattle.journal_given.specs.Supplies.{gives, gives_other, takes_pdu, is_report, says, is_right_report, reports}
use Rattle.journal_given.specs.Supplies.{takes_report, confirms_one, confirms_all, confirms_if, confirmation}
use Rattle.journal_given.specs.Supplies.{is_confirmed_by, has_come, report_gone, hears, come_by, life_ended}
use Rattle.journal_given.specs.Giving.{Giving, Bearers, on_side, bearer_begun, landed, lives_ended, bearer_at}
use Rattle.journal_given.specs.Giving.{changed_on, each_from, landed_on, ended_on, submits, happens, tells}
use Rattle.journal_given.specs.Giving.{submits_own, with_submitted, line_submitted, settled}
use Rattle.journal_given.specs.Giving.{with_kept, may_take, record_told, after_record, after_line, hands_on}
use Rattle.journal_given.specs.Giving.{after_group, after_records, given_within, all_given}

-- ---- one direction

abbrev pub IsOne : History → Type 0
IsOne h = AreTakes h.first h.bits h.events

abbrev new_of : History → ℕ
new_of h = next_new h.first h.events

-- PDUs of COUNTs below the next new one
abbrev IsBelow : ℕ → Option ℕ → Type 0
IsBelow n None = Unit {0}
IsBelow n (Some count) = count < n

abbrev AreBelow : ℕ → List GivenPdu → Type 0
AreBelow n [] = Unit {0}
AreBelow n (pdu ∷ pdus) = IsBelow n pdu.count × AreBelow n pdus

pub record IsSound (s : Supply History) : Type 0 where
  pub is_one : IsOne s.takes
  pub below : AreBelow (new_of s.takes) s.unconfirmed

below_more : (n m : ℕ) → n ≤ m → (pdus : List GivenPdu) → AreBelow n pdus → AreBelow m pdus
below_more n m le [] b = tt
below_more n m le (pdu ∷ pdus) b = (one pdu.count b.0, below_more n m le pdus b.1)
  where
    one : (count : Option ℕ) → IsBelow n count → IsBelow m count
    one None h = tt
    one (Some count) h = omega (arith, h, le)

below_push : (n : ℕ) (pdus : List GivenPdu) (pdu : GivenPdu) → AreBelow n pdus → IsBelow n pdu.count
    → AreBelow n (pdus ++ pdu ∷ [])
below_push n [] pdu b h = (h, tt)
below_push n (p ∷ pdus) pdu b h = (b.0, below_push n pdus pdu b.1 h)

grows : (first : ℕ) (e : TakeEvent) (es : List TakeEvent) → next_new first es ≤ next_new first (e ∷ es)
grows first (PduTaken count) es = omega arith
grows first e es = omega arith

told_sound : (e : TakeEvent) (s : Supply History) → IsPossible s.takes.first s.takes.bits e s.takes.events → IsSound s
    → IsSound (told histories e s)
told_sound e s can h = record {
  is_one = (can, h.is_one);
  below = below_more (new_of s.takes) (next_new s.takes.first (e ∷ s.takes.events))
      (grows s.takes.first e s.takes.events) s.unconfirmed h.below;
}

begun_sound : (first bits : ℕ) → IsSound (record {
  bits = bits;
  takes = record { first = first; bits = bits; events = [] };
  given = 0;
  unconfirmed = [];
  said = record { next = first; beyond = [] };
  report = None;
})
begun_sound first bits = record { is_one = tt; below = tt }

-- ---- what is taken

pub pdu_is : (count : ℕ) (next : Option Take) → is_pdu count next ≡ true → next ≡ Some (Pdu count)
pdu_is count None e = absurd cc
pdu_is count (Some Report) e = absurd cc
pdu_is count (Some (Pdu own)) e = ap (λ (n : ℕ). Some (Pdu n)) (eqb-true own count e)

pub report_is : (next : Option Take) → is_report next ≡ true → next ≡ Some Report
report_is None e = absurd cc
report_is (Some Report) e = refl
report_is (Some (Pdu own)) e = absurd cc

pub takeable : (h : History) → IsOne h → (next : Option Take) → next_take (account h) ≡ next
    → IsTakeable h.first h.bits h.events next
takeable h one next is = subst (IsTakeable h.first h.bits h.events) is
    (takes_are_true h.first h.bits h.events one).takes

pdu_sound : (count : Option ℕ) (len : ℕ) (s : Supply History) → IsSound s
    → IsSound (takes_pdu histories count len s)
pdu_sound None len s h = record { is_one = h.is_one; below = h.below }
pdu_sound (Some count) len s h = by (is_take histories (Some count) len s) refl
  where
    by : (b : Bool) → is_take histories (Some count) len s ≡ b
        → IsSound (if b then gives (Some count) (told histories (PduTaken count) s) else gives_other s)
    by true is =
        let both = and_parts (is_pdu count (next_take (account s.takes)))
        (has_length len (sdu_kept count (account s.takes))) is in
        let can = takeable s.takes h.is_one (Some (Pdu count)) (pdu_is count (next_take (account s.takes)) both.0) in
        let after = told_sound (PduTaken count) s can h in
        record {
          is_one = after.is_one;
          below = below_push (next_new s.takes.first (PduTaken count ∷ s.takes.events)) s.unconfirmed
              (record { number = s.given; count = Some count }) after.below (omega arith);
        }
    by false is = record { is_one = h.is_one; below = h.below }

report_sound : (fms : ℕ) (bitmap : List ℕ) (s : Supply History) → IsSound s
    → IsSound (takes_report histories fms bitmap s)
report_sound fms bitmap s h = by (is_right_report histories fms bitmap s) refl
  where
    by : (b : Bool) → is_right_report histories fms bitmap s ≡ b
        → IsSound (if b then gives None (reports (told histories ReportTaken s)) else gives_other s)
    by true is =
        let both = and_parts (is_report (next_take (account s.takes))) (says fms bitmap s.bits s.said) is in
        let can = takeable s.takes h.is_one (Some Report) (report_is (next_take (account s.takes)) both.0) in
        let after = told_sound ReportTaken s can h in
        record {
          is_one = after.is_one;
          below = below_push (next_new s.takes.first (ReportTaken ∷ s.takes.events)) s.unconfirmed
              (record { number = s.given; count = None }) after.below tt;
        }
    by false is = record { is_one = h.is_one; below = h.below }

-- ---- what is confirmed

confirmed_sound : (count : Option ℕ) (s : Supply History) → IsBelow (new_of s.takes) count → IsSound s
    → IsSound (told histories (confirmation count) s)
confirmed_sound None s b h = told_sound ReportConfirmed s tt h
confirmed_sound (Some count) s b h = told_sound (PduConfirmed count) s b h

record IsConfirmed (n : ℕ) (s : Supply History) : Type 0 where
  sound : IsSound s
  grown : n ≤ new_of s.takes

one_sound : (p : ℕ → Bool) (pdu : GivenPdu) (s : Supply History) → IsBelow (new_of s.takes) pdu.count → IsSound s
    → IsConfirmed (new_of s.takes) (confirms_one histories p pdu s)
one_sound p pdu s b h = by (p pdu.number)
  where
    by : (c : Bool) → IsConfirmed (new_of s.takes) (if c then told histories (confirmation pdu.count) s
        else record s { unconfirmed = s.unconfirmed ++ pdu ∷ [] })
    by true = record {
      sound = confirmed_sound pdu.count s b h;
      grown = grows s.takes.first (confirmation pdu.count) s.takes.events;
    }
    by false = record {
      sound = record { is_one = h.is_one; below = below_push (new_of s.takes) s.unconfirmed pdu h.below b };
      grown = omega arith;
    }

all_sound : (p : ℕ → Bool) (pdus : List GivenPdu) (s : Supply History) → AreBelow (new_of s.takes) pdus → IsSound s
    → IsSound (confirms_all histories p pdus s)
all_sound p [] s b h = h
all_sound p (pdu ∷ pdus) s b h =
    let c = one_sound p pdu s b.0 h in
    all_sound p pdus (confirms_one histories p pdu s)
    (below_more (new_of s.takes) (new_of (confirms_one histories p pdu s).takes) c.grown pdus b.1) c.sound

if_sound : (status : Bool) (flow : Option FlowLives) (s : Supply History) → IsSound s
    → IsSound (confirms_if histories status flow s)
if_sound true flow s h = all_sound (is_confirmed_by flow) s.unconfirmed (record s { unconfirmed = [] }) h.below
    (record { is_one = h.is_one; below = tt })
if_sound false flow s h = h

hears_sound : (own : Option FlowLives) (sender s : Supply History) → IsSound s
    → IsSound (hears histories own sender s)
hears_sound own sender s h = by (has_come own sender.report)
  where
    by : (b : Bool)
        → IsSound (if b then told histories (ReportHeard sender.said.next sender.said.beyond) s else s)
    by true = told_sound (ReportHeard sender.said.next sender.said.beyond) s tt h
    by false = h

gone_sound : (own : Option FlowLives) (s : Supply History) → IsSound s → IsSound (report_gone own s)
gone_sound own s h = by (has_come own s.report)
  where
    by : (b : Bool) → IsSound (if b then record s { report = None } else s)
    by true = record { is_one = h.is_one; below = h.below }
    by false = h

ended_sound : (come : CountsCome) (s : Supply History) → IsSound s → IsSound (life_ended histories come s)
ended_sound come s h = record { is_one = (tt, h.is_one); below = tt }

-- ---- bearers

abbrev pub AreSound : Option (Bearer History) → Type 0
AreSound None = Unit {0}
AreSound (Some b) = IsSound b.nb × IsSound b.ue

on_sound : (side : Side) (f : Supply History → Supply History) → ((s : Supply History) → IsSound s → IsSound (f s))
    → (o : Option (Bearer History)) → AreSound o → AreSound (option_map (on_side side f) o)
on_sound side f keeps None h = tt
on_sound Nb f keeps (Some b) h = (keeps b.nb h.0, h.1)
on_sound Ue f keeps (Some b) h = (h.0, keeps b.ue h.1)

landed_sound : (from : Side) (status : Bool) (own back : Option FlowLives) (o : Option (Bearer History)) → AreSound o
    → AreSound (option_map (landed histories from status own back) o)
landed_sound from status own back None h = tt
landed_sound Nb status own back (Some b) h = (
  gone_sound own b.nb h.0,
  hears_sound own b.nb (confirms_if histories status back b.ue) (if_sound status back b.ue h.1),
)
landed_sound Ue status own back (Some b) h = (
  hears_sound own b.ue (confirms_if histories status back b.nb) (if_sound status back b.nb h.0),
  gone_sound own b.ue h.1,
)

lives_sound : (of_nb of_ue : Option FlowLives) (o : Option (Bearer History)) → AreSound o
    → AreSound (option_map (lives_ended histories of_nb of_ue) o)
lives_sound of_nb of_ue None h = tt
lives_sound of_nb of_ue (Some b) h = (ended_sound (come_by of_ue) b.nb h.0, ended_sound (come_by of_nb) b.ue h.1)

kind_sound : (kind : Kind) (first bits : ℕ) → AreSound (bearer_begun histories kind first bits)
kind_sound bearers.Am first bits = (begun_sound first bits, begun_sound first bits)
kind_sound kind first bits = tt

abbrev pub AllSound : Bearers History → Type 0
AllSound [] = Unit {0}
AllSound (o ∷ os) = AreSound o × AllSound os

pub at_sound : (lcid : ℕ) (bs : Bearers History) → AllSound bs → AreSound (bearer_at lcid bs)
at_sound lcid [] h = tt
at_sound zero (o ∷ os) h = h.0
at_sound (suc lcid) (o ∷ os) h = at_sound lcid os h.1

set_sound : (lcid : ℕ) (o : Option (Bearer History)) (bs : Bearers History) → AreSound o → AllSound bs
    → AllSound (slice_set bs lcid o)
set_sound lcid o [] s h = tt
set_sound zero o (x ∷ xs) s h = (s, h.1)
set_sound (suc lcid) o (x ∷ xs) s h = (h.0, set_sound lcid o xs s h.1)

each_sound : (f : ℕ → Option (Bearer History) → Option (Bearer History))
    → ((lcid : ℕ) (o : Option (Bearer History)) → AreSound o → AreSound (f lcid o))
    → (lcid : ℕ) (bs : Bearers History) → AllSound bs → AllSound (each_from f lcid bs)
each_sound f keeps lcid [] h = tt
each_sound f keeps lcid (o ∷ os) h = (keeps lcid o h.0, each_sound f keeps (lcid + 1) os h.1)

changed_sound : (side : Side) (lcid : ℕ) (f : Supply History → Supply History)
    → ((s : Supply History) → IsSound s → IsSound (f s)) → (bs : Bearers History) → AllSound bs
    → AllSound (changed_on side lcid f bs)
changed_sound side lcid f keeps bs h =
    set_sound lcid (option_map (on_side side f) (bearer_at lcid bs)) bs
    (on_sound side f keeps (bearer_at lcid bs) (at_sound lcid bs h)) h

-- ---- what is gathered

abbrev pub IsSoundGiving : Giving History → Type 0
IsSoundGiving g = AllSound g.bearers

submits_sound : (side : Side) (lcid : ℕ) (octets : List ℕ) (g : Giving History) → AllSound g.bearers
    → AllSound (submits histories side lcid octets g).bearers
submits_sound side lcid octets g h =
    changed_sound side lcid (told histories (SduSubmitted octets)) (λ s. told_sound (SduSubmitted octets) s tt)
    g.bearers h

own_sound : (o : Option Submission) (g : Giving History) → AllSound g.bearers
    → AllSound (submits_own histories o g).bearers
own_sound None g h = h
own_sound (Some s) g h = submits_sound s.side s.lcid s.octets g h

pub settled_sound : (one : Record) (g : Giving History) → AllSound g.bearers
    → AllSound (settled histories one g).bearers
settled_sound one g h =
    own_sound (unrefused one g.submitted) (with_submitted (unrefused one g.submitted) g) h

happens_sound : (side : Side) (event : Event) (g : Giving History) → AllSound g.bearers
    → AllSound (happens histories side event g).bearers
happens_sound side (events.Take lcid count len) g h =
    changed_sound side lcid (takes_pdu histories count len) (pdu_sound count len) g.bearers h
happens_sound side (events.Report lcid fms bitmap) g h =
    changed_sound side lcid (takes_report histories fms bitmap) (report_sound fms bitmap) g.bearers h
happens_sound side (events.Discard lcid len) g h =
    changed_sound side lcid (told histories SduDiscarded) (λ s. told_sound SduDiscarded s tt) g.bearers h
happens_sound side event g h = h

tells_sound : (one : Record) (g : Giving History) → AllSound g.bearers → AllSound (tells histories one g).bearers
tells_sound (records.Of side event) g h = happens_sound side event g h
tells_sound (records.Looped lcid octets) g h = submits_sound Ue lcid octets g h
tells_sound (records.Air direction what heard) g h = by (is_got what)
  where
    by : (b : Bool) → AllSound (if b then record g {
      bearers = each_from (landed_on histories (sender_of direction) g.kept) 0 g.bearers;
    } else g).bearers
    by true = each_sound (landed_on histories (sender_of direction) g.kept)
        (λ lcid o. landed_sound (sender_of direction)
        (carries_status lcid (sent_last (sending_of (sender_of direction) g.kept.journal)))
        (account_at (sender_of direction) lcid g.kept.journal.flows)
        (account_at (other (sender_of direction)) lcid g.kept.journal.flows) o) 0 g.bearers h
    by false = h
tells_sound one g h = h

record_told_sound : (one : Record) (g : Giving History) → AllSound g.bearers
    → AllSound (record_told histories one g).bearers
record_told_sound one g h = tells_sound one (with_kept (record_kept (may_take histories one g) one g.kept) g) h

pub record_sound : (one : Record) (g : Giving History) → AllSound g.bearers
    → AllSound (after_record histories one g).bearers
record_sound one g h = record_told_sound one (settled histories one g) (settled_sound one g h)

pub line_sound : (line : Line) (g : Giving History) → AllSound g.bearers
    → AllSound (after_line histories line g).bearers
line_sound (lines.Bearer config options) g h =
    set_sound config.channel.lcid (bearer_begun histories config.kind config.first config.pdcp_bits) g.bearers
    (kind_sound config.kind config.first config.pdcp_bits) h
line_sound line g h = h

hand_sound : (b : Bool) (g : Giving History) → AllSound g.bearers → AllSound (hands_on histories b g).bearers
hand_sound true g h = each_sound (ended_on histories g.kept)
    (λ lcid o. lives_sound (account_at Nb lcid g.kept.journal.flows) (account_at Ue lcid g.kept.journal.flows) o) 0
    g.bearers h
hand_sound false g h = h

group_sound : (g : Giving History) → AllSound g.bearers → AllSound (after_group histories g).bearers
group_sound g h = hand_sound g.hands_over (line_submitted histories (with_kept (group_kept g.kept) g))
    (own_sound g.submitted (with_kept (group_kept g.kept) g) h)

pub records_sound : (told' : List Record) (g : Giving History) → AllSound g.bearers
    → AllSound (after_records histories told' g).bearers
records_sound [] g h = h
records_sound (one ∷ told') g h = records_sound told' (after_record histories one g) (record_sound one g h)

none_sound : (n : ℕ) → AllSound (replicate n None)
none_sound zero = tt
none_sound (suc n) = (tt, none_sound n)

pub given_sound : (past : List Group) → AllSound (all_given histories past).bearers
given_sound [] = none_sound 11
given_sound (now ∷ past) = group_sound (given_within histories now (all_given histories past))
    (records_sound now.events (after_line histories now.line (all_given histories past))
    (line_sound now.line (all_given histories past) (given_sound past)))
