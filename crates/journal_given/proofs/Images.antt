-- The accounts that are kept are those of the histories: each step does the same to both.
use Rattle.std.proofs.Common.{◌≡◌, ℕ, zero, suc, ◌+◌, Bool, true, false, List, [], ◌∷◌, ◌++◌, map, Option, Some}
use Rattle.std.proofs.Common.{None, refl, ap}
use Rattle.std.proofs.Common.{sym, ◌∙◌, if◌then◌else◌, slice_set}
use Rattle.std.specs.Prelude.{option_map, ◌&&◌}
use Rattle.l2_types.specs.declared.channel.Kind.{Kind}
use Rattle.l2_types.specs.declared.channel.Kind.TheVariants as bearers
use Rattle.l2_types.specs.declared.event.Clock.TheVariants.{Poll}
use Rattle.l2_types.specs.declared.side.Side.{Side}
use Rattle.l2_types.specs.declared.side.Side.TheVariants.{Nb, Ue}
use Rattle.bearer_types.specs.declared.event.Event.{Event}
use Rattle.bearer_types.specs.declared.event.Event.TheVariants as events
use Rattle.bearer_types.specs.Sides.{other, sender_of}
use Rattle.air_record.specs.declared.line.Line.{Line}
use Rattle.air_record.specs.declared.line.Line.TheVariants as lines
use Rattle.air_record.specs.declared.record.Record.{Record}
use Rattle.air_record.specs.declared.record.Record.TheVariants as records
use Rattle.air_text.specs.Groups.{Group}
use Rattle.promises.specs.Records.{is_got}
use Rattle.journal_lives.specs.FlowLives.{FlowLives}
use Rattle.journal_takes.specs.TakeEvents.{PduTaken, ReportTaken, SduSubmitted, SduDiscarded, ReportHeard}
use Rattle.journal_takes.specs.FlowTakes.{FlowTakes}
use Rattle.journal_flows.specs.Gathering.{sending_of, sent_last}
use Rattle.journal_flows.specs.NumberedPdus.{carries_status}
use Rattle.journal_flows.specs.Accounts.{Keeping, account_at, after_record as record_kept}
use Rattle.journal_flows.specs.Accounts.{after_group as group_kept}
use Rattle.air_record.specs.declared.submission.Submission.{Submission}
use Rattle.air_record.specs.Submissions.{unrefused}
use Rattle.journal_given.specs.declared.supply.GivenPdu.{GivenPdu}
use Rattle.journal_given.specs.Supplies.{Supply, Bearer, History, account, histories, accounts, told, is_take, gives}
use Rattle.journal_given.specs.Supplies.{gives_other, takes_pdu, is_right_report, reports, takes_report, confirms_one}
use Rattle.journal_given.specs.Supplies.{confirms_all, confirms_if, confirmation, is_confirmed_by, has_come}
use Rattle.journal_given.specs.Supplies.{report_gone}
use Rattle.journal_given.specs.Supplies.{hears}
use Rattle.journal_given.specs.Giving.{Giving, Bearers, on_side, bearer_begun, landed, bearer_at}
use Rattle.journal_given.specs.Giving.{changed_on, each_from, landed_on, ended_on, Waits, offers, may_take, submits}
use Rattle.journal_given.specs.Giving.{submits_own, with_submitted, line_submitted, settled}
use Rattle.journal_given.specs.Giving.{take_right, discard_right, report_right, happens, tells, with_kept}
use Rattle.journal_given.specs.Giving.{record_told, after_record, after_line, hands_on, at_rest, after_group}
use Rattle.journal_given.specs.Giving.{after_records, given_within, all_given, waits_at}

-- ---- one direction

abbrev pub image : Supply History → Supply FlowTakes
image s = record {
  bits = s.bits;
  takes = account s.takes;
  given = s.given;
  unconfirmed = s.unconfirmed;
  said = s.said;
  report = s.report;
}

pdu_image : (count : Option ℕ) (len : ℕ) (s : Supply History)
    → image (takes_pdu histories count len s) ≡ takes_pdu accounts count len (image s)
pdu_image None len s = refl
pdu_image (Some count) len s = by (is_take histories (Some count) len s)
  where
    by : (b : Bool)
        → image (if b then gives (Some count) (told histories (PduTaken count) s) else gives_other s)
        ≡ (if b then gives (Some count) (told accounts (PduTaken count) (image s)) else gives_other (image s))
    by true = refl
    by false = refl

report_image : (fms : ℕ) (bitmap : List ℕ) (s : Supply History)
    → image (takes_report histories fms bitmap s) ≡ takes_report accounts fms bitmap (image s)
report_image fms bitmap s = by (is_right_report histories fms bitmap s)
  where
    by : (b : Bool)
        → image (if b then gives None (reports (told histories ReportTaken s)) else gives_other s)
        ≡ (if b then gives None (reports (told accounts ReportTaken (image s))) else gives_other (image s))
    by true = refl
    by false = refl

one_image : (p : ℕ → Bool) (pdu : GivenPdu) (s : Supply History)
    → image (confirms_one histories p pdu s) ≡ confirms_one accounts p pdu (image s)
one_image p pdu s = by (p pdu.number)
  where
    by : (b : Bool)
        → image (if b then told histories (confirmation pdu.count) s
        else record s { unconfirmed = s.unconfirmed ++ pdu ∷ [] })
        ≡ (if b then told accounts (confirmation pdu.count) (image s)
        else record (image s) { unconfirmed = (image s).unconfirmed ++ pdu ∷ [] })
    by true = refl
    by false = refl

all_image : (p : ℕ → Bool) (pdus : List GivenPdu) (s : Supply History)
    → image (confirms_all histories p pdus s) ≡ confirms_all accounts p pdus (image s)
all_image p [] s = refl
all_image p (pdu ∷ pdus) s = all_image p pdus (confirms_one histories p pdu s)
    ∙ ap (confirms_all accounts p pdus) (one_image p pdu s)

if_image : (status : Bool) (flow : Option FlowLives) (s : Supply History)
    → image (confirms_if histories status flow s) ≡ confirms_if accounts status flow (image s)
if_image true flow s = all_image (is_confirmed_by flow) s.unconfirmed (record s { unconfirmed = [] })
if_image false flow s = refl

hears_image : (own : Option FlowLives) (sender s : Supply History)
    → image (hears histories own sender s) ≡ hears accounts own (image sender) (image s)
hears_image own sender s = by (has_come own sender.report)
  where
    by : (b : Bool)
        → image (if b then told histories (ReportHeard sender.said.next sender.said.beyond) s else s)
        ≡ (if b then told accounts (ReportHeard sender.said.next sender.said.beyond) (image s) else image s)
    by true = refl
    by false = refl

gone_image : (own : Option FlowLives) (s : Supply History) → image (report_gone own s) ≡ report_gone own (image s)
gone_image own s = by (has_come own s.report)
  where
    by : (b : Bool) → image (if b then record s { report = None } else s)
        ≡ (if b then record (image s) { report = None } else image s)
    by true = refl
    by false = refl

-- ---- a bearer

abbrev pub both_images : Bearer History → Bearer FlowTakes
both_images b = record { nb = image b.nb; ue = image b.ue }

abbrev both : Supply FlowTakes → Supply FlowTakes → Bearer FlowTakes
both nb ue = record { nb = nb; ue = ue }

land_image : (own back : Option FlowLives) (status : Bool) (sender s : Supply History)
    → image (hears histories own sender (confirms_if histories status back s))
    ≡ hears accounts own (image sender) (confirms_if accounts status back (image s))
land_image own back status sender s = hears_image own sender (confirms_if histories status back s)
    ∙ ap (hears accounts own (image sender)) (if_image status back s)

landed_image : (from : Side) (status : Bool) (own back : Option FlowLives) (b : Bearer History)
    → both_images (landed histories from status own back b) ≡ landed accounts from status own back (both_images b)
landed_image Nb status own back b =
    ap (λ (s : Supply FlowTakes). both s
    (image (hears histories own b.nb (confirms_if histories status back b.ue)))) (gone_image own b.nb)
    ∙ ap (both (report_gone own (image b.nb))) (land_image own back status b.nb b.ue)
landed_image Ue status own back b =
    ap (both (image (hears histories own b.ue (confirms_if histories status back b.nb)))) (gone_image own b.ue)
    ∙ ap (λ (s : Supply FlowTakes). both s (report_gone own (image b.ue))) (land_image own back status b.ue b.nb)

on_image : (side : Side) (f : Supply History → Supply History) (g : Supply FlowTakes → Supply FlowTakes)
    → ((s : Supply History) → image (f s) ≡ g (image s)) → (b : Bearer History)
    → both_images (on_side side f b) ≡ on_side side g (both_images b)
on_image Nb f g same b = ap (λ (s : Supply FlowTakes). both s (image b.ue)) (same b.nb)
on_image Ue f g same b = ap (both (image b.nb)) (same b.ue)

begun_image : (kind : Kind) (first bits : ℕ)
    → option_map both_images (bearer_begun histories kind first bits) ≡ bearer_begun accounts kind first bits
begun_image bearers.Am first bits = refl
begun_image kind first bits = refl

-- ---- channels

abbrev pub slot_image : Option (Bearer History) → Option (Bearer FlowTakes)
slot_image o = option_map both_images o

abbrev pub all_images : Bearers History → Bearers FlowTakes
all_images bs = map slot_image bs

pub at_image : (lcid : ℕ) (bs : Bearers History) → bearer_at lcid (all_images bs) ≡ slot_image (bearer_at lcid bs)
at_image lcid [] = refl
at_image zero (b ∷ bs) = refl
at_image (suc lcid) (b ∷ bs) = at_image lcid bs

set_image : (lcid : ℕ) (o : Option (Bearer History)) (bs : Bearers History)
    → all_images (slice_set bs lcid o) ≡ slice_set (all_images bs) lcid (slot_image o)
set_image lcid o [] = refl
set_image zero o (b ∷ bs) = refl
set_image (suc lcid) o (b ∷ bs) = ap (λ (xs : Bearers FlowTakes). slot_image b ∷ xs) (set_image lcid o bs)

slot_on : (side : Side) (f : Supply History → Supply History) (g : Supply FlowTakes → Supply FlowTakes)
    → ((s : Supply History) → image (f s) ≡ g (image s)) → (o : Option (Bearer History))
    → slot_image (option_map (on_side side f) o) ≡ option_map (on_side side g) (slot_image o)
slot_on side f g same None = refl
slot_on side f g same (Some b) = ap (λ (x : Bearer FlowTakes). Some x) (on_image side f g same b)

changed_image : (side : Side) (lcid : ℕ) (f : Supply History → Supply History)
    (g : Supply FlowTakes → Supply FlowTakes) → ((s : Supply History) → image (f s) ≡ g (image s))
    → (bs : Bearers History) → all_images (changed_on side lcid f bs) ≡ changed_on side lcid g (all_images bs)
changed_image side lcid f g same bs =
    set_image lcid (option_map (on_side side f) (bearer_at lcid bs)) bs
    ∙ ap (slice_set (all_images bs) lcid) (slot_on side f g same (bearer_at lcid bs)
    ∙ ap (option_map (on_side side g)) (sym (at_image lcid bs)))

each_image : (f : ℕ → Option (Bearer History) → Option (Bearer History))
    (g : ℕ → Option (Bearer FlowTakes) → Option (Bearer FlowTakes))
    → ((lcid : ℕ) (o : Option (Bearer History)) → slot_image (f lcid o) ≡ g lcid (slot_image o))
    → (lcid : ℕ) (bs : Bearers History) → all_images (each_from f lcid bs) ≡ each_from g lcid (all_images bs)
each_image f g same lcid [] = refl
each_image f g same lcid (b ∷ bs) =
    ap (λ (x : Option (Bearer FlowTakes)). x ∷ all_images (each_from f (lcid + 1) bs)) (same lcid b)
    ∙ ap (λ (xs : Bearers FlowTakes). g lcid (slot_image b) ∷ xs) (each_image f g same (lcid + 1) bs)

lands_image : (from : Side) (j : Keeping) (lcid : ℕ) (o : Option (Bearer History))
    → slot_image (landed_on histories from j lcid o) ≡ landed_on accounts from j lcid (slot_image o)
lands_image from j lcid None = refl
lands_image from j lcid (Some b) = ap (λ (x : Bearer FlowTakes). Some x)
    (landed_image from (carries_status lcid (sent_last (sending_of from j.journal)))
    (account_at from lcid j.journal.flows) (account_at (other from) lcid j.journal.flows) b)

ends_image : (j : Keeping) (lcid : ℕ) (o : Option (Bearer History))
    → slot_image (ended_on histories j lcid o) ≡ ended_on accounts j lcid (slot_image o)
ends_image j lcid None = refl
ends_image j lcid (Some b) = refl

-- ---- what is gathered

abbrev pub giving_image : Giving History → Giving FlowTakes
giving_image g = record {
  kept = g.kept;
  bearers = all_images g.bearers;
  waits = g.waits;
  submitted = g.submitted;
  hands_over = g.hands_over;
  right = g.right;
}

abbrev giving : Keeping → Waits → Option Submission → Bool → Bearers FlowTakes → Bool → Giving FlowTakes
giving kept waits submitted hands_over bearers' right = record {
  kept = kept;
  bearers = bearers';
  waits = waits;
  submitted = submitted;
  hands_over = hands_over;
  right = right;
}

offers_image : (side : Side) (o : Option (Bearer History)) (waiting : ℕ)
    → offers histories side o waiting ≡ offers accounts side (slot_image o) waiting
offers_image side None waiting = refl
offers_image Nb (Some b) waiting = refl
offers_image Ue (Some b) waiting = refl

pub may_image : (one : Record) (g : Giving History) → may_take histories one g ≡ may_take accounts one (giving_image g)
may_image (records.Of side (events.Expired lcid Poll)) g =
    offers_image side (bearer_at lcid g.bearers) (waits_at side lcid g.waits)
    ∙ ap (λ (o : Option (Bearer FlowTakes)). offers accounts side o (waits_at side lcid g.waits))
    (sym (at_image lcid g.bearers))
may_image one g = refl

submits_image : (side : Side) (lcid : ℕ) (octets : List ℕ) (g : Giving History)
    → giving_image (submits histories side lcid octets g) ≡ submits accounts side lcid octets (giving_image g)
submits_image side lcid octets g =
    let after = submits histories side lcid octets g in
    ap (λ (bs : Bearers FlowTakes). giving after.kept after.waits after.submitted after.hands_over bs after.right)
    (changed_image side lcid (told histories (SduSubmitted octets)) (told accounts (SduSubmitted octets)) (λ s. refl)
    g.bearers)

own_image : (o : Option Submission) (g : Giving History)
    → giving_image (submits_own histories o g) ≡ submits_own accounts o (giving_image g)
own_image None g = refl
own_image (Some s) g = submits_image s.side s.lcid s.octets g

submitted_image : (g : Giving History)
    → giving_image (line_submitted histories g) ≡ line_submitted accounts (giving_image g)
submitted_image g = ap (λ (x : Giving FlowTakes). with_submitted None x) (own_image g.submitted g)

pub settled_image : (one : Record) (g : Giving History)
    → giving_image (settled histories one g) ≡ settled accounts one (giving_image g)
settled_image one g = submitted_image (with_submitted (unrefused one g.submitted) g)

take_image : (side : Side) (count : Option ℕ) (len : ℕ) (o : Option (Bearer History))
    → take_right histories side count len o ≡ take_right accounts side count len (slot_image o)
take_image side count len None = refl
take_image Nb None len (Some b) = refl
take_image Ue None len (Some b) = refl
take_image Nb (Some count) len (Some b) = refl
take_image Ue (Some count) len (Some b) = refl

said_image : (side : Side) (fms : ℕ) (bitmap : List ℕ) (o : Option (Bearer History))
    → report_right histories side fms bitmap o ≡ report_right accounts side fms bitmap (slot_image o)
said_image side fms bitmap None = refl
said_image Nb fms bitmap (Some b) = refl
said_image Ue fms bitmap (Some b) = refl

discard_image : (side : Side) (o : Option (Bearer History))
    → discard_right histories side o ≡ discard_right accounts side (slot_image o)
discard_image side None = refl
discard_image Nb (Some b) = refl
discard_image Ue (Some b) = refl

happens_image : (side : Side) (event : Event) (g : Giving History)
    → giving_image (happens histories side event g) ≡ happens accounts side event (giving_image g)
happens_image side (events.Take lcid count len) g =
    let after = happens histories side (events.Take lcid count len) g in
    ap (λ (bs : Bearers FlowTakes). giving after.kept after.waits after.submitted after.hands_over bs after.right)
    (changed_image side lcid (takes_pdu histories count len) (takes_pdu accounts count len) (pdu_image count len)
    g.bearers)
    ∙ ap (λ (b : Bool). giving after.kept after.waits after.submitted after.hands_over
    (changed_on side lcid (takes_pdu accounts count len) (all_images g.bearers)) (g.right && b))
    (take_image side count len (bearer_at lcid g.bearers)
    ∙ ap (take_right accounts side count len) (sym (at_image lcid g.bearers)))
happens_image side (events.Report lcid fms bitmap) g =
    let after = happens histories side (events.Report lcid fms bitmap) g in
    ap (λ (bs : Bearers FlowTakes). giving after.kept after.waits after.submitted after.hands_over bs after.right)
    (changed_image side lcid (takes_report histories fms bitmap) (takes_report accounts fms bitmap)
    (report_image fms bitmap) g.bearers)
    ∙ ap (λ (b : Bool). giving after.kept after.waits after.submitted after.hands_over
    (changed_on side lcid (takes_report accounts fms bitmap) (all_images g.bearers)) (g.right && b))
    (said_image side fms bitmap (bearer_at lcid g.bearers)
    ∙ ap (report_right accounts side fms bitmap) (sym (at_image lcid g.bearers)))
happens_image side (events.Discard lcid len) g =
    let after = happens histories side (events.Discard lcid len) g in
    ap (λ (bs : Bearers FlowTakes). giving after.kept after.waits after.submitted after.hands_over bs after.right)
    (changed_image side lcid (told histories SduDiscarded) (told accounts SduDiscarded) (λ s. refl) g.bearers)
    ∙ ap (λ (b : Bool). giving after.kept after.waits after.submitted after.hands_over
    (changed_on side lcid (told accounts SduDiscarded) (all_images g.bearers)) (g.right && b))
    (discard_image side (bearer_at lcid g.bearers)
    ∙ ap (discard_right accounts side) (sym (at_image lcid g.bearers)))
happens_image side event g = refl

tells_image : (one : Record) (g : Giving History)
    → giving_image (tells histories one g) ≡ tells accounts one (giving_image g)
tells_image (records.Of side event) g = happens_image side event g
tells_image (records.Looped lcid octets) g = submits_image Ue lcid octets g
tells_image (records.Air direction what heard) g = by (is_got what)
  where
    by : (b : Bool)
        → giving_image (if b then record g {
          bearers = each_from (landed_on histories (sender_of direction) g.kept) 0 g.bearers;
        } else g)
        ≡ (if b then record (giving_image g) {
          bearers = each_from (landed_on accounts (sender_of direction) g.kept) 0 (all_images g.bearers);
        } else giving_image g)
    by true =
        ap (λ (bs : Bearers FlowTakes). giving g.kept g.waits g.submitted g.hands_over bs g.right)
        (each_image (landed_on histories (sender_of direction) g.kept)
        (landed_on accounts (sender_of direction) g.kept) (lands_image (sender_of direction) g.kept) 0 g.bearers)
    by false = refl
tells_image one g = refl

told_image : (one : Record) (g : Giving History)
    → giving_image (record_told histories one g) ≡ record_told accounts one (giving_image g)
told_image one g =
    tells_image one (with_kept (record_kept (may_take histories one g) one g.kept) g)
    ∙ ap (λ (more : Bool). tells accounts one (with_kept (record_kept more one g.kept) (giving_image g)))
    (may_image one g)

record_image : (one : Record) (g : Giving History)
    → giving_image (after_record histories one g) ≡ after_record accounts one (giving_image g)
record_image one g =
    told_image one (settled histories one g) ∙ ap (record_told accounts one) (settled_image one g)

line_image : (line : Line) (g : Giving History)
    → giving_image (after_line histories line g) ≡ after_line accounts line (giving_image g)
line_image (lines.Bearer config options) g =
    let after = after_line histories (lines.Bearer config options) g in
    ap (λ (bs : Bearers FlowTakes). giving after.kept after.waits after.submitted after.hands_over bs after.right)
    (set_image config.channel.lcid (bearer_begun histories config.kind config.first config.pdcp_bits) g.bearers
    ∙ ap (slice_set (all_images g.bearers) config.channel.lcid)
    (begun_image config.kind config.first config.pdcp_bits))
line_image line g = refl

hand_image : (b : Bool) (g : Giving History)
    → giving_image (hands_on histories b g) ≡ hands_on accounts b (giving_image g)
hand_image true g =
    let after = hands_on histories true g in
    ap (λ (bs : Bearers FlowTakes). giving after.kept after.waits after.submitted after.hands_over bs after.right)
    (each_image (ended_on histories g.kept) (ended_on accounts g.kept) (ends_image g.kept) 0 g.bearers)
hand_image false g = refl

group_image : (g : Giving History) → giving_image (after_group histories g) ≡ after_group accounts (giving_image g)
group_image g =
    let rest = with_kept (group_kept g.kept) g in
    ap (λ (x : Giving FlowTakes). at_rest x) (hand_image g.hands_over (line_submitted histories rest))
    ∙ ap (λ (x : Giving FlowTakes). at_rest (hands_on accounts g.hands_over x)) (submitted_image rest)

records_image : (told' : List Record) (g : Giving History)
    → giving_image (after_records histories told' g) ≡ after_records accounts told' (giving_image g)
records_image [] g = refl
records_image (one ∷ told') g = records_image told' (after_record histories one g)
    ∙ ap (after_records accounts told') (record_image one g)

pub within_image : (now : Group) (g : Giving History)
    → giving_image (given_within histories now g) ≡ given_within accounts now (giving_image g)
within_image now g = records_image now.events (after_line histories now.line g)
    ∙ ap (after_records accounts now.events) (line_image now.line g)

pub given_image : (past : List Group) → giving_image (all_given histories past) ≡ all_given accounts past
given_image [] = refl
given_image (now ∷ past) = group_image (given_within histories now (all_given histories past))
    ∙ ap (after_group accounts) (within_image now (all_given histories past)
    ∙ ap (given_within accounts now) (given_image past))
