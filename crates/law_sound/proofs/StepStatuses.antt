-- Only a block that is got changes how many STATUS are ignored, and what a log tells of them is what its records tell;
-- so along records that tell of a step not more are told of than were ignored.
use Rattle.std.proofs.Common.{◌≡◌, ◌≤◌, ℕ, ◌+◌, ◌==◌, ◌&&◌, Bool, true, false, if◌then◌else◌, List, []}
use Rattle.std.proofs.Common.{◌∷◌, ◌++◌, Option, Some, None, length, append-nil, refl, ap, ◌∙◌, arith}
use Rattle.std.specs.List.{AllByRecursion, filter}
use Rattle.air_record.specs.declared.record.Record.{Record}
use Rattle.air_record.specs.declared.record.Record.TheVariants as records
use Rattle.bearer_types.specs.declared.event.Event.{Event}
use Rattle.bearer_types.specs.declared.event.Event.TheVariants as events
use Rattle.bearer_types.specs.Sides.{is_same, sender_of, other, sent_by, heard_by}
use Rattle.l2_types.specs.declared.event.How.{How}
use Rattle.l2_types.specs.declared.event.How.TheVariants as hows
use Rattle.l2_types.specs.declared.event.Lost.TheVariants as losts
use Rattle.l2_types.specs.declared.side.Side.{Side}
use Rattle.l2_types.specs.declared.side.Side.TheVariants.{Nb, Ue}
use Rattle.mac_pdu.specs.declared.builder.Sdu.{Sdu}
use Rattle.mac_pdu.specs.declared.item.Direction.TheVariants as directions
use Rattle.pdu_show.specs.declared.kinds.Layout.{Layout}
use Rattle.promises.specs.Events.{is_of_loop, is_on}
use Rattle.promises.specs.Pdus.{carried}
use Rattle.promises.specs.Records.{is_got}
use Rattle.journal_account.specs.Acked.{ignored_in}
use Rattle.journal_account.specs.FlowEvents.{NumberWritten, OctetsResent}
use Rattle.journal_lives.specs.LifeEvents.{LifeEvent, InLife, running}
use Rattle.journal_flows.specs.declared.parcels.Parcel.{Parcel}
use Rattle.journal_flows.specs.declared.parcels.Parcel.TheVariants.{Octets, Pieces, Report}
use Rattle.journal_flows.specs.declared.sending.Named.{Named}
use Rattle.journal_flows.specs.FlowsTold.{Histories, histories}
use Rattle.journal_flows.specs.Gathering.{Journal, Loaded}
use Rattle.journal_flows.specs.Gathering.{parcel_of}
use Rattle.journal_flows.specs.Gathering.{loads_parcel, loads, behind_landing, behind_record}
use Rattle.journal_flows.specs.NumberedPdus.{written_as}
use Rattle.journal_status.specs.RightStatus.{tells_ignored, ignored_told}
use Rattle.law_run.specs.TwoEnds.ChannelLog.{on_channel, on_channel_at, coming}
use Rattle.law_run.specs.TwoEnds.Logs.{LogEntry, Tells as EndTells, Hears, Flight, process_of, flight_behind}
use Rattle.law_run.specs.TwoEnds.Logs.{logged, logged_at}
use Rattle.law_run.specs.TwoEnds.SenderLog.{BearerEntry, Tells, writing}
use Rattle.law_sound.specs.BesideLaws.{ReadRecord, behind_all}
use Rattle.law_sound.specs.IgnoredLaws.{ignored_at, told_ignored}
use Rattle.law_sound.specs.LoggedRecords.{records_of, IsOwn}
use Rattle.law_sound.specs.StepReading.{ignored_so_far, AreTrueAt, TellTruly}
use Rattle.law_sound.proofs.IgnoredLogs.{told_both, writing_none}
use Rattle.law_sound.proofs.KeptFlows.{AreKeeping, all_keep, own_record_keeps, told_keeps}

-- ---- a new block, by its parcels

abbrev ignored_by : List LifeEvent → ℕ
ignored_by es = ignored_in (running es)

module _ (side : Side) (l : ℕ) where
  abbrev ignored_of : Histories → ℕ
  ignored_of h = ignored_by (h.acked side l)

  loads_quiet : (kinds : List (Option Layout)) (from : Side) (named : List Named) (sdus : List Sdu)
      (b : Loaded Histories) → ignored_of (loads histories kinds from named sdus b).flows ≡ ignored_of b.flows
  loads_quiet kinds from [] sdus b = refl
  loads_quiet kinds from (s ∷ named) [] b = refl
  loads_quiet kinds from (s ∷ named) (d ∷ sdus) b =
      loads_quiet kinds from named sdus
      (loads_parcel histories from s.how (parcel_of histories kinds b.flows from s d.octets) b)
      ∙ one (parcel_of histories kinds b.flows from s d.octets)
    where
      written : (how : How) (p : Parcel) → AreKeeping ignored_by (written_as from how p)
      written hows.New (Octets lcid n start end) =
          told_keeps ignored_by from lcid (InLife (NumberWritten end)) (λ es. refl)
      written hows.Re (Octets lcid n start end) =
          told_keeps ignored_by from lcid (InLife (OctetsResent n start end)) (λ es. refl)
      written hows.New (Pieces lcid n size pieces) = (λ s k h. refl, tt)
      written hows.Re (Pieces lcid n size pieces) = tt
      written hows.New (Report lcid ack entries) = tt
      written hows.Re (Report lcid ack entries) = tt
      written hows.Status p = tt
      written hows.Tm p = tt

      one : (o : Option Parcel) → ignored_of (loads_parcel histories from s.how o b).flows ≡ ignored_of b.flows
      one None = refl
      one (Some p) = all_keep ignored_by (written_as from s.how p) (written s.how p) side l b.flows

-- ---- so a record tells of none, but one that a block is got

-- no block is got
abbrev pub IsUngot : Record → Type 0
IsUngot (records.Air direction what heard) = is_got what ≡ false
IsUngot one = Unit {0}

pub record_quiet : (kinds : List (Option Layout)) (more : Bool) (one : Record) (side : Side) (l : ℕ)
    (j : Journal Histories) → IsUngot one
    → ignored_so_far side l (behind_record histories kinds more one j) ≡ ignored_so_far side l j
record_quiet kinds more (records.Of own e) side l j h =
    own_record_keeps ignored_by (λ count size es. refl) (λ again es. refl) (λ es. refl) (λ es. refl) kinds more own e
    side l j
record_quiet kinds more (records.Block directions.Down process true version octets) side l j h =
    loads_quiet side l kinds Nb j.nb.named _ _
record_quiet kinds more (records.Block directions.Up process true version octets) side l j h =
    loads_quiet side l kinds Ue j.ue.named _ _
record_quiet kinds more (records.Block directions.Down process false version octets) side l j h = refl
record_quiet kinds more (records.Block directions.Up process false version octets) side l j h = refl
record_quiet kinds more (records.Air direction what heard) side l j h = by (is_got what) h
  where
    by : (b : Bool) → b ≡ false
        → ignored_so_far side l (if b then behind_landing histories direction j else j) ≡ ignored_so_far side l j
    by false q = refl
    by true q = absurd cc
record_quiet kinds more one side l j h = refl

-- ---- what is told of them

one_more : (b : Bool) (one : Record) (told : List Record)
    → length (if b then one ∷ told else told) ≡ length (if b then one ∷ [] else []) + length told
one_more true one told = omega arith
one_more false one told = omega arith

-- record by record
pub ignored_next : (side : Side) (l : ℕ) (one : Record) (told : List Record)
    → ignored_told side l (one ∷ told) ≡ ignored_told side l (one ∷ []) + ignored_told side l told
ignored_next side l one told =
    one_more (tells_ignored side l one) one (filter (tells_ignored side l) told)

pub ignored_both : (side : Side) (l : ℕ) (xs ys : List Record)
    → ignored_told side l (xs ++ ys) ≡ ignored_told side l xs + ignored_told side l ys
ignored_both side l [] ys = omega arith
ignored_both side l (x ∷ xs) ys =
    let now = ignored_next side l x (xs ++ ys) in
    let all = ignored_next side l x xs in
    let rest = ignored_both side l xs ys in
    omega (arith, now, all, rest)

ignored_one : (side : Side) (l : ℕ) (one : Record) → tells_ignored side l one ≡ true
    → ignored_told side l (one ∷ []) ≡ 1
ignored_one side l one q = ap (λ (b : Bool). length (if b then one ∷ [] else [])) q

same_both : (s t : Side) → is_same s t ≡ is_same t s
same_both Nb Nb = refl
same_both Nb Ue = refl
same_both Ue Nb = refl
same_both Ue Ue = refl

coming_none : (pdus : List (List ℕ)) → told_ignored (coming pdus) ≡ 0
coming_none [] = refl
coming_none (pdu ∷ pdus) = let more = coming_none pdus in omega (arith, more)

-- a log tells of just so many
module _ (side : Side) (l : ℕ) where
  logged_both : (hs gs : List LogEntry)
      → told_ignored (on_channel l side (hs ++ gs))
      ≡ told_ignored (on_channel l side hs) + told_ignored (on_channel l side gs)
  logged_both [] gs = omega arith
  logged_both (h ∷ hs) gs =
      let now = told_both (on_channel_at l side h) (on_channel l side (hs ++ gs)) in
      let first = told_both (on_channel_at l side h) (on_channel l side hs) in
      let rest = logged_both hs gs in
      omega (arith, now, first, rest)

  none_if : (b : Bool) (log : List BearerEntry) → told_ignored log ≡ 0
      → told_ignored ((if b then log else []) ++ []) ≡ 0
  none_if true log q = ap told_ignored (append-nil log) ∙ q
  none_if false log q = refl

  one_if : (b : Bool) (one : Record) (lcid : ℕ)
      → told_ignored ((if b then Tells (events.Drop lcid losts.Ignored) ∷ [] else []) ++ [])
      ≡ length (if b then one ∷ [] else [])
  one_if true one lcid = refl
  one_if false one lcid = refl

  event_counted : (own : Side) (e : Event) (b : Bool) → ignored_at (Tells e) ≡ 0
      → told_ignored (on_channel l side (if b then [] else EndTells own e ∷ [])) ≡ 0
  event_counted own e true q = refl
  event_counted own e false q =
      none_if (is_same own side && is_on l e) (Tells e ∷ []) (let none = q in omega (arith, none))

  record_counted : (sent : Flight) (one : Record)
      → told_ignored (on_channel l side (logged_at sent one)) ≡ ignored_told side l (one ∷ [])
  record_counted sent (records.Of own (events.Drop lcid losts.Ignored)) =
      ap (λ (b : Bool). told_ignored
      ((if b && (lcid == l) then Tells (events.Drop lcid losts.Ignored) ∷ [] else []) ++ []))
      (same_both own side)
      ∙ one_if (is_same side own && (lcid == l)) (records.Of own (events.Drop lcid losts.Ignored)) lcid
  record_counted sent (records.Of own e) = event_counted own e (is_of_loop e) refl
  record_counted sent (records.Block direction process true version octets) =
      let own = sender_of direction in
      let pdus = carried l (sent_by own) octets in
      none_if (is_same own side) (writing pdus) (writing_none pdus)
  record_counted sent (records.Block direction process false version octets) = refl
  record_counted sent (records.Air direction what heard) = by (is_got what)
    where
      by : (b : Bool)
          → told_ignored (on_channel l side (if b then Hears (other (sender_of direction))
          (process_of (sender_of direction) sent) sent.octets ∷ [] else [])) ≡ 0
      by true =
          let own = other (sender_of direction) in
          let pdus = carried l (heard_by own) sent.octets in
          none_if (is_same own side) (coming pdus) (coming_none pdus)
      by false = refl
  record_counted sent one = refl

  pub records_counted : (told : List Record) (sent : Flight)
      → told_ignored (on_channel l side (logged sent told)) ≡ ignored_told side l told
  records_counted [] sent = refl
  records_counted (one ∷ told) sent =
      let both = logged_both (logged_at sent one) (logged (flight_behind one sent) told) in
      let now = record_counted sent one in
      let rest = records_counted told (flight_behind one sent) in
      let all = ignored_next side l one told in
      omega (arith, both, now, rest, all)

-- ---- records one behind the other

-- no new block, and none that is got
abbrev pub IsPlain : Record → Type 0
IsPlain (records.Block direction process true version octets) = ⊥
IsPlain (records.Air direction what heard) = is_got what ≡ false
IsPlain one = Unit {0}

pub own_plain : (l : ℕ) (side : Side) (one : Record) → IsOwn l side one → IsPlain one
own_plain l side (records.Of own e) h = tt
own_plain l side (records.Block direction process true version octets) h = absurd h
own_plain l side (records.Block direction process false version octets) h = tt
own_plain l side (records.Air direction what heard) h = h
own_plain l side one h = tt

plain_ungot : (one : Record) → IsPlain one → IsUngot one
plain_ungot (records.Block direction process true version octets) h = absurd h
plain_ungot (records.Air direction what heard) h = h
plain_ungot one h = tt

module _ (kinds : List (Option Layout)) (l : ℕ) where
  plain_true : (one : Record) (j : Journal Histories) → IsPlain one → AreTrueAt l j one
  plain_true (records.Block direction process true version octets) j h = absurd h
  plain_true one j h = tt

  pub plain_same : (xs : List ReadRecord) (side : Side) (j : Journal Histories)
      → AllByRecursion (λ (x : ReadRecord). IsPlain x.one) xs
      → ignored_so_far side l (behind_all kinds xs j) ≡ ignored_so_far side l j
  plain_same [] side j plain = refl
  plain_same (x ∷ xs) side j plain =
      plain_same xs side (behind_record histories kinds x.more x.one j) plain.1
      ∙ record_quiet kinds x.more x.one side l j (plain_ungot x.one plain.0)

  pub same_truly : (xs : List ReadRecord) (f g : Side → ℕ) (j : Journal Histories)
      → ((side : Side) → f side ≡ g side) → TellTruly kinds l f j xs → TellTruly kinds l g j xs
  same_truly [] f g j same h = tt
  same_truly (x ∷ xs) f g j same h = (
    h.0,
    λ side q. let now = same side in let few = h.1 side q in omega (arith, now, few),
    same_truly xs _ _ (behind_record histories kinds x.more x.one j)
        (λ side. let now = same side in omega (arith, now)) h.2,
  )

  pub plain_truly : (xs : List ReadRecord) (said : Side → ℕ) (j : Journal Histories)
      → AllByRecursion (λ (x : ReadRecord). IsPlain x.one) xs
      → ((side : Side) → said side + ignored_told side l (records_of xs) ≤ ignored_so_far side l j)
      → TellTruly kinds l said j xs
  plain_truly [] said j plain few = tt
  plain_truly (x ∷ xs) said j plain few =
      let i = behind_record histories kinds x.more x.one j in (
        plain_true x.one i plain.0,
        λ side q.
            let same = record_quiet kinds x.more x.one side l j (plain_ungot x.one plain.0) in
            let all = ignored_next side l x.one (records_of xs) in
            let one = ignored_one side l x.one q in
            let most = few side in
            omega (arith, same, all, one, most),
        plain_truly xs (λ side. said side + ignored_told side l (x.one ∷ [])) i plain.1
            (λ side.
            let same = record_quiet kinds x.more x.one side l j (plain_ungot x.one plain.0) in
            let all = ignored_next side l x.one (records_of xs) in
            let most = few side in
            omega (arith, same, all, most)),
      )

  pub then_truly : (xs ys : List ReadRecord) (said : Side → ℕ) (j : Journal Histories) → TellTruly kinds l said j xs
      → TellTruly kinds l (λ side. said side + ignored_told side l (records_of xs)) (behind_all kinds xs j) ys
      → TellTruly kinds l said j (xs ++ ys)
  then_truly [] ys said j h k = same_truly ys _ said j (λ side. omega arith) k
  then_truly (x ∷ xs) ys said j h k = (
    h.0,
    h.1,
    then_truly xs ys (λ side. said side + ignored_told side l (x.one ∷ []))
        (behind_record histories kinds x.more x.one j) h.2
        (same_truly ys _ _ (behind_all kinds (x ∷ xs) j)
        (λ side. let all = ignored_next side l x.one (records_of xs) in omega (arith, all)) k),
  )
