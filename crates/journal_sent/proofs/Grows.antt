-- What the records of a journal tell moves VT(A) of no flow back: only the end of a life does.
use Rattle.std.proofs.Common.{◌≡◌, ℕ, ◌≤◌, Bool, true, false, List, [], ◌∷◌, Option, Some, None, refl, ap, sym, ◌∙◌}
use Rattle.std.proofs.Common.{arith, subst, if◌then◌else◌}
use Rattle.std.specs.Prelude.{length, nat_lt, slice_index_or}
use Rattle.l2_types.specs.declared.event.Clock.TheVariants.{Poll, Reorder, Prohibit}
use Rattle.l2_types.specs.declared.event.How.{How}
use Rattle.l2_types.specs.declared.event.How.TheVariants as hows
use Rattle.l2_types.specs.declared.side.Side.{Side}
use Rattle.l2_types.specs.declared.side.Side.TheVariants.{Nb, Ue}
use Rattle.mac_pdu.specs.declared.builder.Sdu.{Sdu}
use Rattle.mac_pdu.specs.Reading.{reading}
use Rattle.pdcp_pdu.specs.declared.pdu.PdcpKind.TheVariants as pdcp
use Rattle.bearer_types.specs.declared.event.Event.{Event}
use Rattle.bearer_types.specs.declared.event.Event.TheVariants as events
use Rattle.bearer_types.specs.Sides.{other, sender_of}
use Rattle.air_record.specs.declared.record.Record.{Record}
use Rattle.air_record.specs.declared.record.Record.TheVariants as records
use Rattle.pdu_show.specs.declared.kinds.Layout.{Layout}
use Rattle.pdu_show.specs.declared.kinds.Layout.TheVariants as layouts
use Rattle.promises.specs.Records.{is_got}
use Rattle.journal_account.specs.FlowEvents.{FlowEvent, SduTaken, NumberWritten, OctetsResent, OctetsArrived}
use Rattle.journal_account.specs.FlowEvents.{ReorderStarted, ReorderExpired, StatusHeard, PollExpired}
use Rattle.journal_account.specs.FlowSending.{rested_in, applied_in, recalled_at, polled_in, is_quiet}
use Rattle.journal_account.specs.FlowSending.{last_open}
use Rattle.journal_account.specs.FlowAccount.{FlowAccount, sending_with, left_to_send}
use Rattle.journal_account.specs.FlowArrivals.{next_in}
use Rattle.journal_lives.specs.FlowLives.{FlowLives, lives_with}
use Rattle.journal_lives.specs.LifeEvents.{LifeEvent, PduGiven, InLife, LifeEnded}
use Rattle.journal_um.specs.UmEvents.{UmEvent}
use Rattle.journal_um.specs.UmEvents as um
use Rattle.journal_flows.specs.declared.account.Account.{Account}
use Rattle.journal_flows.specs.declared.account.Account.TheVariants.{Am, Um}
use Rattle.journal_flows.specs.declared.parcels.Parcel.{Parcel}
use Rattle.journal_flows.specs.declared.parcels.Parcel.TheVariants.{Octets, Pieces, Report}
use Rattle.journal_flows.specs.declared.sending.Named.{Named}
use Rattle.journal_flows.specs.Possible.{is_possible}
use Rattle.journal_flows.specs.NumberedPdus.{AnyEvent, Acked, Unacked, Told, written_as, come_as}
use Rattle.journal_flows.specs.Gathering.{Sending, Journal, Loaded, all_told, sending_of, with_sending, taken_as}
use Rattle.journal_flows.specs.Gathering.{report_as, reorder_as, told_by, names, behind_event, parcel_of, loads_parcel}
use Rattle.journal_flows.specs.Gathering.{loads, sdus_read, holds, resends, all_come, sent_last, behind_record}
use Rattle.journal_flows.specs.Gathering.{with_flows, behind_landing}
use Rattle.journal_flows.specs.Accounts.{Accounts, Keeping, slot_with, acked_in, accounts, account_with}
use Rattle.journal_flows.specs.Accounts.{after_record as record_kept, after_group as group_kept}
use Rattle.air_record.specs.declared.submission.Submission.{Submission}
use Rattle.air_record.specs.Submissions.{unrefused}
use Rattle.journal_given.specs.Supplies.{History, histories}
use Rattle.journal_given.specs.Giving.{Giving, each_from, landed_on, may_take, happens, tells, with_kept, after_record}
use Rattle.journal_given.specs.Giving.{submits_own, with_submitted, line_submitted, settled, hands_on}
use Rattle.journal_given.specs.Giving.{after_group}

-- ---- an event of an account

-- a number lies no higher than VT(A)
abbrev pub IsBelow : ℕ → Option FlowLives → Type 0
IsBelow n None = Unit {0}
IsBelow n (Some l) = n ≤ l.account.sending.base

abbrev pub IsLiving : AnyEvent → Type 0
IsLiving (Acked LifeEnded) = ⊥
IsLiving e = Unit {0}

base_grows : (e : FlowEvent) (a : FlowAccount) → a.sending.base ≤ (sending_with e a).base
base_grows (SduTaken size) a = omega arith
base_grows (NumberWritten size) a = omega arith
base_grows (OctetsResent n from to) a = by (nat_lt n a.sending.base)
  where
    by : (b : Bool) → a.sending.base ≤ (rested_in b n from to a.sending).base
    by true = omega arith
    by false = omega arith
base_grows (OctetsArrived n from to) a = omega arith
base_grows ReorderStarted a = omega arith
base_grows ReorderExpired a = omega arith
base_grows (StatusHeard ack entries) a = by (nat_lt ack a.sending.base)
  where
    by : (b : Bool) → a.sending.base ≤ (applied_in b ack entries a.sending).base
    by true = omega arith
    by false = omega arith
base_grows (PollExpired more) a = by (is_quiet (left_to_send more a) a.sending)
  where
    at : (o : Option ℕ) → a.sending.base ≤ (recalled_at o a.sending).base
    at None = omega arith
    at (Some n) = omega arith

    by : (b : Bool) → a.sending.base ≤ (polled_in b a.sending).base
    by true = at (last_open 0 None a.sending.numbers)
    by false = omega arith

life_grows : (e : LifeEvent) → IsLiving (Acked e) → (l : FlowLives) (n : ℕ) → n ≤ l.account.sending.base
    → n ≤ (lives_with e l).account.sending.base
life_grows (PduGiven count size) living l n h = h
life_grows (InLife e) living l n h = omega (arith, h, base_grows e l.account)
life_grows LifeEnded living l n h = absurd living

pub slot_grows : (e : AnyEvent) → IsLiving e → (slot : Option Account) (n : ℕ) → IsBelow n (acked_in slot)
    → IsBelow n (acked_in (slot_with e slot))
slot_grows (Acked e) living None n h = tt
slot_grows (Acked e) living (Some (Am l)) n h = by (is_possible (next_in l.account.arrivals) e)
  where
    by : (b : Bool) → n ≤ (if b then lives_with e l else l).account.sending.base
    by true = life_grows e living l n h
    by false = h
slot_grows (Acked e) living (Some (Um u)) n h = tt
slot_grows (Unacked e) living None n h = tt
slot_grows (Unacked e) living (Some (Am l)) n h = h
slot_grows (Unacked e) living (Some (Um u)) n h = tt

-- ---- the events of a record are such

abbrev AreLiving : List Told → Type 0
AreLiving [] = Unit {0}
AreLiving (t ∷ ts) = IsLiving t.event × AreLiving ts

taken_living : (o : Option Layout) (side : Side) (lcid : ℕ) (count : Option ℕ) (len : ℕ)
    → AreLiving (taken_as o side lcid count len)
taken_living None side lcid count len = tt
taken_living (Some layouts.Tm) side lcid count len = tt
taken_living (Some (layouts.Um rlc_bits pdcp.Srb)) side lcid count len = tt
taken_living (Some (layouts.Um rlc_bits (pdcp.Um bits))) side lcid count len = (tt, tt)
taken_living (Some (layouts.Um rlc_bits (pdcp.Am bits))) side lcid count len = tt
taken_living (Some (layouts.Am pdcp.Srb)) side lcid count len = (tt, tt)
taken_living (Some (layouts.Am (pdcp.Um bits))) side lcid count len = (tt, tt)
taken_living (Some (layouts.Am (pdcp.Am bits))) side lcid count len = (tt, tt)

report_living : (o : Option Layout) (side : Side) (lcid len : ℕ) → AreLiving (report_as o side lcid len)
report_living None side lcid len = tt
report_living (Some layouts.Tm) side lcid len = tt
report_living (Some (layouts.Um rlc_bits kind)) side lcid len = tt
report_living (Some (layouts.Am pdcp.Srb)) side lcid len = tt
report_living (Some (layouts.Am (pdcp.Um bits))) side lcid len = tt
report_living (Some (layouts.Am (pdcp.Am bits))) side lcid len = (tt, tt)

reorder_living : (o : Option Layout) (side : Side) (lcid : ℕ) (e : FlowEvent) (um : UmEvent)
    → AreLiving (reorder_as o side lcid e um)
reorder_living None side lcid e um = (tt, tt)
reorder_living (Some layouts.Tm) side lcid e um = (tt, tt)
reorder_living (Some (layouts.Um rlc_bits kind)) side lcid e um = (tt, tt)
reorder_living (Some (layouts.Am kind)) side lcid e um = (tt, tt)

event_living : (kinds : List (Option Layout)) (more : Bool) (side : Side) (event : Event)
    → AreLiving (told_by kinds more side event)
event_living kinds more side (events.Take lcid count len) =
    taken_living (slice_index_or kinds lcid None) side lcid count len
event_living kinds more side (events.Report lcid fms bitmap) =
    report_living (slice_index_or kinds lcid None) side lcid (length bitmap)
event_living kinds more side (events.Start lcid Reorder) =
    reorder_living (slice_index_or kinds lcid None) (other side) lcid ReorderStarted um.ReorderStarted
event_living kinds more side (events.Start lcid Poll) = tt
event_living kinds more side (events.Start lcid Prohibit) = tt
event_living kinds more side (events.Expired lcid Reorder) =
    reorder_living (slice_index_or kinds lcid None) (other side) lcid ReorderExpired um.ReorderExpired
event_living kinds more side (events.Expired lcid Poll) = (tt, tt)
event_living kinds more side (events.Expired lcid Prohibit) = tt
event_living kinds more side event = tt

written_living : (from : Side) (how : How) (p : Parcel) → AreLiving (written_as from how p)
written_living from hows.New (Octets lcid n start end) = (tt, tt)
written_living from hows.New (Pieces lcid n size pieces) = (tt, tt)
written_living from hows.New (Report lcid ack entries) = tt
written_living from hows.Re (Octets lcid n start end) = (tt, tt)
written_living from hows.Re (Pieces lcid n size pieces) = tt
written_living from hows.Re (Report lcid ack entries) = tt
written_living from hows.Status p = tt
written_living from hows.Tm p = tt

come_living : (from : Side) (p : Parcel) → AreLiving (come_as from p)
come_living from (Octets lcid n start end) = (tt, tt)
come_living from (Pieces lcid n size pieces) = (tt, tt)
come_living from (Report lcid ack entries) = (tt, tt)

-- ---- what such events keep, a record keeps

abbrev pub Keeps : (Accounts → Type 0) → Type 0
Keeps P = (t : Told) → IsLiving t.event → (a : Accounts) → P a → P (account_with t.side t.lcid t.event a)

all_keep : (P : Accounts → Type 0) → Keeps P → (ts : List Told) → AreLiving ts → (a : Accounts) → P a
    → P (all_told accounts ts a)
all_keep P keeps [] living a h = h
all_keep P keeps (t ∷ ts) living a h =
    all_keep P keeps ts living.1 (account_with t.side t.lcid t.event a) (keeps t living.0 a h)

sending_keep : (P : Accounts → Type 0) (side : Side) (x : Sending) (j : Journal Accounts) → P j.flows
    → P (with_sending side x j).flows
sending_keep P Nb x j h = h
sending_keep P Ue x j h = h

event_keep : (P : Accounts → Type 0) → Keeps P → (kinds : List (Option Layout)) (more : Bool) (side : Side)
    (event : Event) (j : Journal Accounts) → P j.flows → P (behind_event accounts kinds more side event j).flows
event_keep P keeps kinds more side (events.Send lcid how sn) j h =
    sending_keep P side (names (record { lcid = lcid; how = how }) (sending_of side j)) j h
event_keep P keeps kinds more side event j h =
    all_keep P keeps (told_by kinds more side event) (event_living kinds more side event) j.flows h

parcel_keep : (P : Accounts → Type 0) → Keeps P → (from : Side) (how : How) (o : Option Parcel) (b : Loaded Accounts)
    → P b.flows → P (loads_parcel accounts from how o b).flows
parcel_keep P keeps from how None b h = h
parcel_keep P keeps from how (Some p) b h =
    all_keep P keeps (written_as from how p) (written_living from how p) b.flows h

loads_keep : (P : Accounts → Type 0) → Keeps P → (kinds : List (Option Layout)) (from : Side) (sent : List Named)
    (sdus : List Sdu) (b : Loaded Accounts) → P b.flows → P (loads accounts kinds from sent sdus b).flows
loads_keep P keeps kinds from [] sdus b h = h
loads_keep P keeps kinds from (s ∷ sent) [] b h = h
loads_keep P keeps kinds from (s ∷ sent) (d ∷ sdus) b h =
    loads_keep P keeps kinds from sent sdus
    (loads_parcel accounts from s.how (parcel_of accounts kinds b.flows from s d.octets) b)
    (parcel_keep P keeps from s.how (parcel_of accounts kinds b.flows from s d.octets) b h)

come_keep : (P : Accounts → Type 0) → Keeps P → (from : Side) (ps : List Parcel) (a : Accounts) → P a
    → P (all_come accounts from ps a)
come_keep P keeps from [] a h = h
come_keep P keeps from (p ∷ ps) a h =
    come_keep P keeps from ps (all_told accounts (come_as from p) a)
    (all_keep P keeps (come_as from p) (come_living from p) a h)

journal_keep : (P : Accounts → Type 0) → Keeps P → (kinds : List (Option Layout)) (more : Bool) (one : Record)
    (j : Journal Accounts) → P j.flows → P (behind_record accounts kinds more one j).flows
journal_keep P keeps kinds more (records.Of side event) j h = event_keep P keeps kinds more side event j h
journal_keep P keeps kinds more (records.Block direction process true version octets) j h =
    let b = loads accounts kinds (sender_of direction) (sending_of (sender_of direction) j).named
    (sdus_read (reading direction octets)) (record { flows = j.flows; parcels = [] }) in
    sending_keep P (sender_of direction) (holds process b.parcels (sending_of (sender_of direction) j))
    (with_flows b.flows j)
    (loads_keep P keeps kinds (sender_of direction) (sending_of (sender_of direction) j).named
    (sdus_read (reading direction octets)) (record { flows = j.flows; parcels = [] }) h)
journal_keep P keeps kinds more (records.Block direction process false version octets) j h =
    sending_keep P (sender_of direction) (resends process (sending_of (sender_of direction) j)) j h
journal_keep P keeps kinds more (records.Air direction what heard) j h = by (is_got what)
  where
    by : (b : Bool) → P (if b then behind_landing accounts direction j else j).flows
    by true = come_keep P keeps (sender_of direction) (sent_last (sending_of (sender_of direction) j)) j.flows h
    by false = h
journal_keep P keeps kinds more one j h = h

-- ---- and what PDCP gives changes no account

happens_keeps : (side : Side) (event : Event) (g : Giving History) → (happens histories side event g).kept ≡ g.kept
happens_keeps side (events.Take lcid count len) g = refl
happens_keeps side (events.Report lcid fms bitmap) g = refl
happens_keeps side (events.Discard lcid len) g = refl
happens_keeps side event g = refl

tells_keeps : (one : Record) (g : Giving History) → (tells histories one g).kept ≡ g.kept
tells_keeps (records.Of side event) g = happens_keeps side event g
tells_keeps (records.Looped lcid octets) g = refl
tells_keeps (records.Air direction what heard) g = by (is_got what)
  where
    by : (b : Bool) → (if b then record g {
      bearers = each_from (landed_on histories (sender_of direction) g.kept) 0 g.bearers;
    } else g).kept ≡ g.kept
    by true = refl
    by false = refl
tells_keeps one g = refl

own_keeps : (o : Option Submission) (g : Giving History) → (submits_own histories o g).kept ≡ g.kept
own_keeps None g = refl
own_keeps (Some s) g = refl

line_keeps : (g : Giving History) → (line_submitted histories g).kept ≡ g.kept
line_keeps g = own_keeps g.submitted g

pub settled_keeps : (one : Record) (g : Giving History) → (settled histories one g).kept ≡ g.kept
settled_keeps one g = line_keeps (with_submitted (unrefused one g.submitted) g)

record_keeps : (one : Record) (g : Giving History)
    → (after_record histories one g).kept
    ≡ record_kept (may_take histories one (settled histories one g)) one g.kept
record_keeps one g =
    let before = settled histories one g in
    tells_keeps one (with_kept (record_kept (may_take histories one before) one before.kept) before)
    ∙ ap (record_kept (may_take histories one before) one) (settled_keeps one g)

pub record_keep : (P : Accounts → Type 0) → Keeps P → (one : Record) (g : Giving History) → P g.kept.journal.flows
    → P (after_record histories one g).kept.journal.flows
record_keep P keeps one g h = subst (λ (k : Keeping). P k.journal.flows) (sym (record_keeps one g))
    (journal_keep P keeps g.kept.kinds (may_take histories one (settled histories one g)) one g.kept.journal h)

pub hands_keep : (one : Record) (g : Giving History)
    → (after_record histories one g).kept.hands_over ≡ g.kept.hands_over
hands_keep one g = ap (λ (k : Keeping). k.hands_over) (record_keeps one g)

hand_keeps : (b : Bool) (g : Giving History) → (hands_on histories b g).kept ≡ g.kept
hand_keeps true g = refl
hand_keeps false g = refl

pub group_keeps : (g : Giving History) → (after_group histories g).kept ≡ group_kept g.kept
group_keeps g =
    hand_keeps g.hands_over (line_submitted histories (with_kept (group_kept g.kept) g))
    ∙ line_keeps (with_kept (group_kept g.kept) g)
