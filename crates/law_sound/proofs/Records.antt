-- Records in turn: what they tell of a flow is what is gathered of it.
use Rattle.std.proofs.Common.{◌≡◌, ◌<◌, ◌≤◌, ℕ, ◌+◌, Bool, true, false, not, ◌&&◌, List, [], ◌∷◌, ◌++◌, length, map}
use Rattle.std.proofs.Common.{Option, Some, None, is_some, refl, ap, sym, ◌∙◌, subst, if◌then◌else◌, append_assoc}
use Rattle.std.proofs.Common.{append-nil, arith}
use Rattle.std.specs.Prelude.{MatchOption}
use Rattle.std.specs.List.{AllByRecursion}
use Rattle.std.proofs.lemmas.Bool.{and_parts}
use Rattle.std.specs.Prelude.{slice_index_or}
use Rattle.l2_types.specs.declared.event.How.{How}
use Rattle.l2_types.specs.declared.side.Side.{Side}
use Rattle.l2_types.specs.declared.side.Side.TheVariants.{Nb, Ue}
use Rattle.mac_pdu.specs.declared.item.Direction.{Direction}
use Rattle.mac_pdu.specs.declared.item.Direction.TheVariants.{Down, Up}
use Rattle.mac_pdu.specs.Reading.{reading}
use Rattle.rlc_pdu.specs.declared.constants.TheConstants.{AM_WINDOW_SIZE}
use Rattle.pdcp_pdu.specs.declared.pdu.PdcpKind.TheVariants as pdcp
use Rattle.bearer_types.specs.declared.event.Event.{Event}
use Rattle.bearer_types.specs.declared.event.Event.TheVariants.{Send}
use Rattle.bearer_types.specs.Sides.{is_same, sender_of, sent_by}
use Rattle.air_record.specs.declared.record.Record.{Record}
use Rattle.air_record.specs.declared.record.Record.TheVariants as records
use Rattle.air_text.specs.Groups.{Group}
use Rattle.pdu_show.specs.declared.kinds.Layout.{Layout}
use Rattle.pdu_show.specs.declared.kinds.Layout.TheVariants as layouts
use Rattle.law_words.specs.Arrivals.{Account, AccountEntry, account, accounted}
use Rattle.promises.specs.Arrival.{entries_at, entries_in, only_if}
use Rattle.promises.specs.Events.{is_of_loop}
use Rattle.promises.specs.Given.{entries_written, entries_come}
use Rattle.promises.specs.Names.{SentPdu, sent_pdus}
use Rattle.promises.specs.Pdus.{carried}
use Rattle.promises.specs.Records.{is_got, events_of, event_of}
use Rattle.promises.specs.Records as told_last
use Rattle.journal_form.specs.Checking.{Building, sends, builds, ends, none_sent}
use Rattle.journal_form.specs.Tests.{carries}
use Rattle.journal_form.proofs.Units.{told_to, was_right}
use Rattle.journal_form.proofs.Units.{all_told as all_built}
use Rattle.journal_flows.specs.declared.sending.Named.{Named}
use Rattle.journal_flows.specs.FlowsTold.{Histories, histories}
use Rattle.journal_flows.specs.Gathering.{Journal, Sending, MayTake, sending_of, with_flows, names}
use Rattle.journal_flows.specs.Gathering.{behind_record, behind_records, behind_landing, all_come, sent_last, told_by}
use Rattle.journal_flows.specs.Gathering.{sdus_read, holds, resends, all_told}
use Rattle.promises.specs.Bearers.{TellsCount, IsCounted}
use Rattle.promises.specs.OwnPdus.{AreOwn}
use Rattle.law_sound.proofs.SinglePdus.{new_in}
use Rattle.law_sound.proofs.Pending.{ComesSoon, AllComeSoon}
use Rattle.law_sound.proofs.Pending as soon
use Rattle.promises.specs.SentNumbers.{AreNumbers, sent_in}
use Rattle.law_sound.proofs.Numbering.{behind_all, behind_both, numbers_first, numbers_rest, new_one, news_push}
use Rattle.law_sound.specs.LoadLaws.{name_of}
use Rattle.law_sound.proofs.Blocks.{other_loads, other_lands}
use Rattle.law_sound.proofs.Given.{event_gives, none_given}
use Rattle.law_sound.proofs.Flying.{after_air, IsFlown, AreFlown}
use Rattle.law_sound.proofs.Walk.{Course, IsLast, Stands, IsStepped, new_course, again_course, other_course}
use Rattle.law_sound.proofs.Walk.{new_loaded, new_stands}
use Rattle.law_sound.proofs.Walk.{again_stands, got_stands, flow_stands, other_stands}

-- ---- behind a record

abbrev pub after_course : Side → ℕ → Record → Course → Course
after_course from l one x =
    record { air = after_air from one x.air; pending = soon.after_record from l one x.pending }

abbrev pub all_course : Side → ℕ → List Record → Course → Course
all_course from l [] x = x
all_course from l (one ∷ told) x = all_course from l told (after_course from l one x)

pub record Goes (from : Side) (l : ℕ) (hs : List AccountEntry) (a : Account) (named sends : List SentPdu)
    (sent : List ℕ) (f : Histories) (s : Sending) (others : List SentPdu) (x : Course) : Type 0 where
  pub stands : Stands from l (account hs a) sent f s others x
  pub ahead : behind_all l others (length (account hs a).rlc.fields)
      ≡ behind_all l sends (behind_all l named (length a.rlc.fields))
  pub numbers : (ys : List SentPdu) → AreNumbers l (length a.rlc.fields) (named ++ (sends ++ ys))
      → AreNumbers l (length (account hs a).rlc.fields) (others ++ ys)

-- none is named, and none is written
goes_on : (from : Side) (l : ℕ) (hs : List AccountEntry) (a : Account) (named sends : List SentPdu) (sent : List ℕ)
    (f : Histories) (s : Sending) (x : Course) → sends ≡ [] → length (account hs a).rlc.fields ≡ length a.rlc.fields
    → Stands from l (account hs a) sent f s named x → Goes from l hs a named sends sent f s named x
goes_on from l hs a named sends sent f s x none same h =
    subst (λ (ss : List SentPdu). Goes from l hs a named ss sent f s named x) (sym none)
    (record {
      stands = h;
      ahead = ap (behind_all l named) same;
      numbers = λ ys many. subst (λ (n : ℕ). AreNumbers l n (named ++ ys)) (sym same) many;
    })

-- one is named
goes_named : (from : Side) (l : ℕ) (a : Account) (named : List SentPdu) (one : SentPdu) (sent : List ℕ) (f : Histories)
    (s : Sending) (x : Course) → Stands from l a sent f s (named ++ one ∷ []) x
    → Goes from l [] a named (one ∷ []) sent f s (named ++ one ∷ []) x
goes_named from l a named one sent f s x h = record {
  stands = h;
  ahead = behind_both l named (one ∷ []) (length a.rlc.fields);
  numbers = λ ys many.
      subst (λ (zs : List SentPdu). AreNumbers l (length a.rlc.fields) zs)
      (sym (append_assoc named (one ∷ []) ys)) many;
}

-- those that were named are written
goes_written : (from : Side) (l : ℕ) (hs : List AccountEntry) (a : Account) (named : List SentPdu) (sent : List ℕ)
    (f : Histories) (s : Sending) (x : Course)
    → IsStepped from l (behind_all l named (length a.rlc.fields)) (account hs a) sent f s [] x
    → Goes from l hs a named [] sent f s [] x
goes_written from l hs a named sent f s x h = record {
  stands = h.stands;
  ahead = h.next_is;
  numbers = λ ys many.
      subst (λ (n : ℕ). AreNumbers l n ys) (sym h.next_is) (numbers_rest l (length a.rlc.fields) named ys many);
}

-- ---- an event of an end

abbrev sent_by_event : Side → Side → Event → List SentPdu
sent_by_event from side event = sent_in from (records.Of side event ∷ [])

pub none_sent_by : (from side : Side) (event : Event) → sent_pdus (event ∷ []) ≡ [] → sent_by_event from side event ≡ []
none_sent_by from side event none = by (is_same from side && not (is_of_loop event))
  where
    by : (b : Bool) → sent_pdus ((if b then event ∷ [] else []) ++ []) ≡ []
    by true = none
    by false = refl

abbrev EventGoes : Side → ℕ → ℕ → List (Option Layout) → Bool → Side → Event → Account → List ℕ → Journal Histories
    → Building → Course → Type 0
EventGoes from l bits ks more side event a sent j b x =
    Goes from l (entries_at bits l from sent (records.Of side event)) a b.sent (sent_by_event from side event) sent
    (behind_record histories ks more (records.Of side event) j).flows
    (sending_of from (behind_record histories ks more (records.Of side event) j))
    (told_to from ks (records.Of side event) b).sent (after_course from l (records.Of side event) x)

named_push : (named : List Named) (sent : List SentPdu) (s : SentPdu) → named ≡ map name_of sent
    → named ++ name_of s ∷ [] ≡ map name_of (sent ++ s ∷ [])
named_push named sent s e = ap (λ (ns : List Named). ns ++ name_of s ∷ []) e ∙ sym (pushed sent s)
  where
    pushed : (sent : List SentPdu) (s : SentPdu) → map name_of (sent ++ s ∷ []) ≡ map name_of sent ++ name_of s ∷ []
    pushed [] s = refl
    pushed (t ∷ sent) s = ap (λ (ns : List Named). name_of t ∷ ns) (pushed sent s)

-- so many new PDUs more are told of
abbrev with_named : ℕ → Course → Course
with_named n x = record { air = x.air; pending = record x.pending { named = x.pending.named + n } }

own_send : (from : Side) (l : ℕ) (a : Account) (one : SentPdu) (sent : List ℕ) (f : Histories) (s : Sending)
    (named : List SentPdu) (x : Course) → Stands from l a sent f s named x
    → Stands from l a sent f (names (name_of one) s) (named ++ one ∷ []) (with_named (new_one l one) x)
own_send from l a one sent f s named x h = record {
  agrees = h.agrees;
  named_is = named_push s.named named one h.named_is;
  new_are = ap (λ (n : ℕ). n + new_one l one) h.new_are ∙ sym (news_push l named one);
  size = h.size;
  held = h.held;
  last = last_with x.air.last h.last;
}
  where
    last_with : (o : Option ℕ) → MatchOption o (Unit {0}) (IsLast sent s.process x)
        → MatchOption o (Unit {0}) (IsLast sent s.process (with_named (new_one l one) x))
    last_with None h = tt
    last_with (Some p) h = record { below = h.below; process = h.process; own = h.own; octets = h.octets }

abbrev sent_pdu : ℕ → How → ℕ → SentPdu
sent_pdu lcid how sn = record { lcid = lcid; how = how; sn = sn }

send_goes : (from side : Side) (l bits : ℕ) (ks : List (Option Layout)) (more : Bool) (lcid : ℕ) (how : How) (sn : ℕ)
    (a : Account) (sent : List ℕ) (j : Journal Histories) (b : Building) (x : Course)
    → Stands from l a sent j.flows (sending_of from j) b.sent x
    → EventGoes from l bits ks more side (Send lcid how sn) a sent j b x
send_goes Nb Nb l bits ks more lcid how sn a sent j b x h =
    let y : Course = with_named (new_one l (sent_pdu lcid how sn)) x in
    subst (λ (hs : List AccountEntry). Goes Nb l hs a b.sent (sent_pdu lcid how sn ∷ []) sent j.flows
    (names (record { lcid = lcid; how = how }) j.nb) (b.sent ++ sent_pdu lcid how sn ∷ [])
    (with_named (new_one l (sent_pdu lcid how sn)) x))
    (sym (none_given bits l true (Send lcid how sn) refl))
    (goes_named Nb l a b.sent (sent_pdu lcid how sn) sent j.flows (names (record { lcid = lcid; how = how }) j.nb) y
    (own_send Nb l a (sent_pdu lcid how sn) sent j.flows j.nb b.sent x h))
send_goes Ue Ue l bits ks more lcid how sn a sent j b x h =
    let y : Course = with_named (new_one l (sent_pdu lcid how sn)) x in
    subst (λ (hs : List AccountEntry). Goes Ue l hs a b.sent (sent_pdu lcid how sn ∷ []) sent j.flows
    (names (record { lcid = lcid; how = how }) j.ue) (b.sent ++ sent_pdu lcid how sn ∷ [])
    (with_named (new_one l (sent_pdu lcid how sn)) x))
    (sym (none_given bits l true (Send lcid how sn) refl))
    (goes_named Ue l a b.sent (sent_pdu lcid how sn) sent j.flows (names (record { lcid = lcid; how = how }) j.ue) y
    (own_send Ue l a (sent_pdu lcid how sn) sent j.flows j.ue b.sent x h))
send_goes Nb Ue l bits ks more lcid how sn a sent j b x h = goes_on Nb l [] a b.sent [] sent j.flows j.nb x refl refl h
send_goes Ue Nb l bits ks more lcid how sn a sent j b x h = goes_on Ue l [] a b.sent [] sent j.flows j.ue x refl refl h

-- another event names nothing
none_named_by : (from side : Side) (l : ℕ) (event : Event) (x : Course) → new_in l event ≡ 0
    → x ≡ after_course from l (records.Of side event) x
none_named_by from side l event x none = by (is_same from side)
  where
    same : x.pending.named ≡ x.pending.named + new_in l event
    same = omega (arith, none)

    by : (b : Bool) → x ≡ record {
      air = x.air;
      pending = if b then record x.pending { named = x.pending.named + new_in l event } else x.pending;
    }
    by true = ap (λ (n : ℕ). record { air = x.air; pending = record x.pending { named = n } }) same
    by false = refl

flows_side : (from : Side) (f : Histories) (j : Journal Histories)
    → sending_of from (with_flows f j) ≡ sending_of from j
flows_side Nb f j = refl
flows_side Ue f j = refl

told_goes : (from side : Side) (l bits : ℕ) (ks : List (Option Layout)) (more : Bool) (event : Event) (a : Account)
    (sent : List ℕ) (j : Journal Histories) (named : List SentPdu) (x : Course)
    → slice_index_or ks l None ≡ Some (layouts.Am (pdcp.Am bits)) → IsCounted l event → sent_pdus (event ∷ []) ≡ []
    → new_in l event ≡ 0 → Stands from l a sent j.flows (sending_of from j) named x
    → Goes from l (entries_at bits l from sent (records.Of side event)) a named (sent_by_event from side event) sent
    (all_told histories (told_by ks more side event) j.flows)
    (sending_of from (with_flows (all_told histories (told_by ks more side event) j.flows) j)) named
    (after_course from l (records.Of side event) x)
told_goes from side l bits ks more event a sent j named x layout has none zero h =
    let f : Histories = all_told histories (told_by ks more side event) j.flows in
    let hs : List AccountEntry = entries_at bits l from sent (records.Of side event) in
    let g = event_gives from side l bits ks more event a j.flows layout has h.agrees in
    subst (λ (y : Course). Goes from l (entries_at bits l from sent (records.Of side event)) a named
    (sent_by_event from side event) sent (all_told histories (told_by ks more side event) j.flows)
    (sending_of from (with_flows (all_told histories (told_by ks more side event) j.flows) j)) named y)
    (none_named_by from side l event x zero)
    (subst (λ (s : Sending). Goes from l (entries_at bits l from sent (records.Of side event)) a named
    (sent_by_event from side event) sent (all_told histories (told_by ks more side event) j.flows) s named x)
    (sym (flows_side from f j))
    (goes_on from l hs a named (sent_by_event from side event) sent f (sending_of from j) x
    (none_sent_by from side event none) (ap (length {A = ℕ}) g.fields)
    (flow_stands from l sent a (account hs a) j.flows f (sending_of from j) named x g.agrees g.fields h)))

-- ---- a block, and what comes of it

own_new : (from : Side) (l bits p : ℕ) (ks : List (Option Layout)) (a : Account) (sent octets : List ℕ) (f : Histories)
    (s : Sending) (b : Building) (x : Course) → slice_index_or ks l None ≡ Some (layouts.Am (pdcp.Am bits))
    → Stands from l a sent f s b.sent x → p < 8 → (builds (sent_by from) ks octets b).right ≡ true
    → AreNumbers l (length a.rlc.fields) b.sent → AreOwn a (entries_written (carried l (sent_by from) octets))
    → Goes from l (entries_written (carried l (sent_by from) octets)) a b.sent [] octets
    (new_loaded ks from s octets f).flows (holds p (new_loaded ks from s octets f).parcels s) [] (new_course p octets x)
own_new from l bits p ks a sent octets f s b x layout h low right numbers own =
    goes_written from l (entries_written (carried l (sent_by from) octets)) a b.sent octets
    (new_loaded ks from s octets f).flows (holds p (new_loaded ks from s octets f).parcels s) (new_course p octets x)
    (new_stands from l bits p ks sent octets a f s b.sent x layout h low
    (and_parts b.right (carries (sent_by from) ks b.sent octets) right).1 numbers own)

abbrev RecordGoes : Side → ℕ → ℕ → List (Option Layout) → Bool → Record → Account → List ℕ → Journal Histories
    → Building → Course → Type 0
RecordGoes from l bits ks more one a sent j b x =
    Goes from l (entries_at bits l from sent one) a b.sent (sent_in from (one ∷ [])) (told_last.sent_last one sent)
    (behind_record histories ks more one j).flows (sending_of from (behind_record histories ks more one j))
    (told_to from ks one b).sent (after_course from l one x)

new_goes : (from : Side) (l bits : ℕ) (ks : List (Option Layout)) (more : Bool) (way : Direction)
    (p version : ℕ) (octets : List ℕ) (a : Account) (sent : List ℕ) (j : Journal Histories) (b : Building) (x : Course)
    → slice_index_or ks l None ≡ Some (layouts.Am (pdcp.Am bits))
    → Stands from l a sent j.flows (sending_of from j) b.sent x
    → IsFlown from (records.Block way p true version octets) x.air
    → (told_to from ks (records.Block way p true version octets) b).right ≡ true
    → AreNumbers l (length a.rlc.fields) b.sent
    → AreOwn a (entries_at bits l from sent (records.Block way p true version octets))
    → RecordGoes from l bits ks more (records.Block way p true version octets) a sent j b x
new_goes Nb l bits ks more Down p version octets a sent j b x layout h flown right numbers own =
    own_new Nb l bits p ks a sent octets j.flows j.nb b x layout h (flown refl) right numbers own
new_goes Ue l bits ks more Up p version octets a sent j b x layout h flown right numbers own =
    own_new Ue l bits p ks a sent octets j.flows j.ue b x layout h (flown refl) right numbers own
new_goes Nb l bits ks more Up p version octets a sent j b x layout h flown right numbers own =
    let c = new_loaded ks Ue j.ue octets j.flows in
    goes_on Nb l [] a b.sent [] octets c.flows j.nb (other_course x) refl refl
    (other_stands Nb l sent octets a j.flows c.flows j.nb b.sent x
    (other_loads Nb Ue l ks j.ue.named (sdus_read (reading Up octets)) a (record { flows = j.flows; parcels = [] }) refl
    h.agrees) h)
new_goes Ue l bits ks more Down p version octets a sent j b x layout h flown right numbers own =
    let c = new_loaded ks Nb j.nb octets j.flows in
    goes_on Ue l [] a b.sent [] octets c.flows j.ue (other_course x) refl refl
    (other_stands Ue l sent octets a j.flows c.flows j.ue b.sent x
    (other_loads Ue Nb l ks j.nb.named (sdus_read (reading Down octets)) a (record { flows = j.flows; parcels = [] })
    refl h.agrees) h)

again_goes : (from : Side) (l bits : ℕ) (ks : List (Option Layout)) (more : Bool) (way : Direction)
    (p version : ℕ) (octets : List ℕ) (a : Account) (sent : List ℕ) (j : Journal Histories) (b : Building) (x : Course)
    → Stands from l a sent j.flows (sending_of from j) b.sent x
    → IsFlown from (records.Block way p false version octets) x.air
    → RecordGoes from l bits ks more (records.Block way p false version octets) a sent j b x
again_goes Nb l bits ks more Down p version octets a sent j b x h flown =
    goes_on Nb l [] a b.sent [] octets j.flows (resends p j.nb) (again_course p x) refl refl
    (again_stands Nb l p sent octets a j.flows j.nb b.sent x h (flown refl).0 (flown refl).1)
again_goes Ue l bits ks more Up p version octets a sent j b x h flown =
    goes_on Ue l [] a b.sent [] octets j.flows (resends p j.ue) (again_course p x) refl refl
    (again_stands Ue l p sent octets a j.flows j.ue b.sent x h (flown refl).0 (flown refl).1)
again_goes Nb l bits ks more Up p version octets a sent j b x h flown =
    goes_on Nb l [] a b.sent [] octets j.flows j.nb (other_course x) refl refl
    (other_stands Nb l sent octets a j.flows j.flows j.nb b.sent x h.agrees h)
again_goes Ue l bits ks more Down p version octets a sent j b x h flown =
    goes_on Ue l [] a b.sent [] octets j.flows j.ue (other_course x) refl refl
    (other_stands Ue l sent octets a j.flows j.flows j.ue b.sent x h.agrees h)

got_goes : (from : Side) (l : ℕ) (a : Account) (sent : List ℕ) (f : Histories) (s : Sending) (named : List SentPdu)
    (x : Course) (last : Option ℕ) → x.air.last ≡ last → is_some last ≡ true → Stands from l a sent f s named x
    → x.pending.since x.pending.process ≤ AM_WINDOW_SIZE
    → Goes from l (entries_come (carried l (sent_by from) sent)) a named [] sent
    (all_come histories from (sent_last s) f) s named x
got_goes from l a sent f s named x None e some h own = absurd (let bad = some in cc)
got_goes from l a sent f s named x (Some p) e some h own =
    let g = got_stands from l p sent a f s named x h e own in
    goes_on from l (entries_come (carried l (sent_by from) sent)) a named [] sent
    (all_come histories from (sent_last s) f) s x refl g.next_is g.stands

abbrev AirGoes : Side → ℕ → Direction → Bool → Account → List ℕ → Journal Histories → List SentPdu → Course → Type 0
AirGoes from l way got a sent j named x =
    Goes from l (only_if (got && is_same (sender_of way) from) (entries_come (carried l way sent))) a named [] sent
    (if got then behind_landing histories way j else j).flows
    (sending_of from (if got then behind_landing histories way j else j)) named x

air_goes : (from : Side) (l : ℕ) (way : Direction) (got : Bool) (a : Account) (sent : List ℕ) (j : Journal Histories)
    (named : List SentPdu) (x : Course) → Stands from l a sent j.flows (sending_of from j) named x
    → (is_same (sender_of way) from ≡ true → got ≡ true → is_some x.air.last ≡ true)
    → (is_same (sender_of way) from ≡ true → got ≡ true → x.pending.since x.pending.process ≤ AM_WINDOW_SIZE)
    → AirGoes from l way got a sent j named x
air_goes from l way false a sent j named x h flown own = goes_on from l [] a named [] sent j.flows (sending_of from j)
    x refl refl h
air_goes Nb l Down true a sent j named x h flown own =
    got_goes Nb l a sent j.flows j.nb named x x.air.last refl (flown refl refl) h (own refl refl)
air_goes Ue l Up true a sent j named x h flown own =
    got_goes Ue l a sent j.flows j.ue named x x.air.last refl (flown refl refl) h (own refl refl)
air_goes Nb l Up true a sent j named x h flown own =
    let f = all_come histories Ue (sent_last j.ue) j.flows in
    goes_on Nb l [] a named [] sent f j.nb x refl refl
    (flow_stands Nb l sent a a j.flows f j.nb named x (other_lands Nb Ue l (sent_last j.ue) a j.flows refl h.agrees)
    refl h)
air_goes Ue l Down true a sent j named x h flown own =
    let f = all_come histories Nb (sent_last j.nb) j.flows in
    goes_on Ue l [] a named [] sent f j.ue x refl refl
    (flow_stands Ue l sent a a j.flows f j.ue named x (other_lands Ue Nb l (sent_last j.nb) a j.flows refl h.agrees)
    refl h)

-- ---- any record

pub record_goes : (from : Side) (l bits : ℕ) (ks : List (Option Layout)) (more : Bool) (one : Record) (a : Account)
    (sent : List ℕ) (j : Journal Histories) (b : Building) (x : Course)
    → slice_index_or ks l None ≡ Some (layouts.Am (pdcp.Am bits))
    → Stands from l a sent j.flows (sending_of from j) b.sent x → IsFlown from one x.air
    → ComesSoon from one x.pending → TellsCount l one
    → (told_to from ks one b).right ≡ true → AreNumbers l (length a.rlc.fields) b.sent
    → AreOwn a (entries_at bits l from sent one) → RecordGoes from l bits ks more one a sent j b x
record_goes from l bits ks more (records.Of side (Send lcid how sn)) a sent j b x layout h flown due has right numbers
    own =
    send_goes from side l bits ks more lcid how sn a sent j b x h
record_goes from l bits ks more (records.Of side event) a sent j b x layout h flown due has right numbers own =
    told_goes from side l bits ks more event a sent j b.sent x layout has refl refl h
record_goes from l bits ks more (records.Block way p true version octets) a sent j b x layout h flown due has right
    numbers own =
    new_goes from l bits ks more way p version octets a sent j b x layout h flown right numbers own
record_goes from l bits ks more (records.Block way p false version octets) a sent j b x layout h flown due has right
    numbers own =
    again_goes from l bits ks more way p version octets a sent j b x h flown
record_goes from l bits ks more (records.Air way what heard) a sent j b x layout h flown due has right numbers own =
    air_goes from l way (is_got what) a sent j b.sent x h flown due
record_goes from l bits ks more one a sent j b x layout h flown due has right numbers own =
    goes_on from l [] a b.sent [] sent j.flows (sending_of from j) x refl refl h

-- ---- records in turn

pub own_first : (a : Account) (hs gs : List AccountEntry) → AreOwn a (hs ++ gs) → AreOwn a hs
own_first a [] gs h = tt
own_first a (e ∷ hs) gs h = (h.0, own_first (accounted e a) hs gs h.1)

pub own_rest : (a : Account) (hs gs : List AccountEntry) → AreOwn a (hs ++ gs) → AreOwn (account hs a) gs
own_rest a [] gs h = h
own_rest a (e ∷ hs) gs h = own_rest (accounted e a) hs gs h.1

pub account_both : (hs gs : List AccountEntry) (a : Account) → account (hs ++ gs) a ≡ account gs (account hs a)
account_both [] gs a = refl
account_both (h ∷ hs) gs a = account_both hs gs (accounted h a)

pub sent_both : (es fs : List Event) → sent_pdus (es ++ fs) ≡ sent_pdus es ++ sent_pdus fs
sent_both [] fs = refl
sent_both (Send lcid how sn ∷ es) fs = ap (λ (ss : List SentPdu). sent_pdu lcid how sn ∷ ss) (sent_both es fs)
sent_both (e ∷ es) fs = sent_both es fs

pub sent_next : (from : Side) (one : Record) (told : List Record)
    → sent_in from (one ∷ told) ≡ sent_in from (one ∷ []) ++ sent_in from told
sent_next from one told =
    sent_both (event_of from one) (events_of from told)
    ∙ ap (λ (es : List Event). sent_pdus es ++ sent_in from told) (sym (append-nil (event_of from one)))

abbrev pub sent_behind : List Record → List ℕ → List ℕ
sent_behind [] sent = sent
sent_behind (one ∷ told) sent = sent_behind told (told_last.sent_last one sent)

pub record Walked (from : Side) (l next : ℕ) (a : Account) (sent : List ℕ) (f : Histories) (s : Sending) (x : Course)
    : Type 0 where
  pub stands : Stands from l a sent f s [] x
  pub next_is : length a.rlc.fields ≡ next

-- records that may be read in turn, behind what stands
pub record AreRead (from : Side) (l bits : ℕ) (ks : List (Option Layout)) (told : List Record) (a : Account)
    (sent : List ℕ) (b : Building) (x : Course) : Type 0 where
  pub flown : AreFlown from told x.air
  pub soon : AllComeSoon from l told x.pending
  pub counts : AllByRecursion (TellsCount l) told
  pub right : (ends (all_built from ks told b)).right ≡ true
  pub numbers : AreNumbers l (length a.rlc.fields) (b.sent ++ sent_in from told)
  pub own : AreOwn a (entries_in bits l from sent told)

goes_then : (from : Side) (l : ℕ) (hs gs : List AccountEntry) (a : Account) (named sends more : List SentPdu)
    (sent sent' : List ℕ) (f f' : Histories) (s s' : Sending) (others last : List SentPdu) (x y : Course)
    → Goes from l hs a named sends sent f s others x → Goes from l gs (account hs a) others more sent' f' s' last y
    → Goes from l (hs ++ gs) a named (sends ++ more) sent' f' s' last y
goes_then from l hs gs a named sends more sent sent' f f' s s' others last x y g k =
    let both = account_both hs gs a in
    record {
      stands = subst (λ (z : Account). Stands from l z sent' f' s' last y) (sym both) k.stands;
      ahead =
          ap (λ (z : Account). behind_all l last (length z.rlc.fields)) both
          ∙ k.ahead
          ∙ ap (behind_all l more) g.ahead
          ∙ sym (behind_both l sends more (behind_all l named (length a.rlc.fields)));
      numbers = λ ys many.
          subst (λ (z : Account). AreNumbers l (length z.rlc.fields) (last ++ ys)) (sym both)
          (k.numbers ys (g.numbers (more ++ ys)
          (subst (λ (ss : List SentPdu). AreNumbers l (length a.rlc.fields) (named ++ ss))
          (append_assoc sends more ys) many)));
    }

abbrev RecordsGo : Side → ℕ → ℕ → List (Option Layout) → MayTake → List Group → List Record → List Record → Account
    → List ℕ → Journal Histories → Building → Course → Type 0
RecordsGo from l bits ks may_take past before told a sent j b x =
    Goes from l (entries_in bits l from sent told) a b.sent (sent_in from told) (sent_behind told sent)
    (behind_records histories may_take past ks before told j).flows
    (sending_of from (behind_records histories may_take past ks before told j)) (all_built from ks told b).sent
    (all_course from l told x)

-- the first of them
pub records_go : (from : Side) (l bits : ℕ) (ks : List (Option Layout)) (may_take : MayTake) (past : List Group)
    (told rest before : List Record) (a : Account) (sent : List ℕ) (j : Journal Histories) (b : Building) (x : Course)
    → slice_index_or ks l None ≡ Some (layouts.Am (pdcp.Am bits))
    → Stands from l a sent j.flows (sending_of from j) b.sent x
    → AreRead from l bits ks (told ++ rest) a sent b x → RecordsGo from l bits ks may_take past before told a sent j b x
records_go from l bits ks may_take past [] rest before a sent j b x layout h r =
    goes_on from l [] a b.sent [] sent j.flows (sending_of from j) x refl refl h
records_go from l bits ks may_take past (one ∷ told) rest before a sent j b x layout h r =
    let k : Journal Histories = behind_record histories ks (may_take past before one) one j in
    let c : Building = told_to from ks one b in
    let now = entries_at bits l from sent one in
    let behind = entries_in bits l from (told_last.sent_last one sent) (told ++ rest) in
    let many = subst (λ (ss : List SentPdu). AreNumbers l (length a.rlc.fields) (b.sent ++ ss))
    (sent_next from one (told ++ rest)) r.numbers in
    let g = record_goes from l bits ks (may_take past before one) one a sent j b x layout h r.flown.0 r.soon.0
    r.counts.0 (was_right from ks (told ++ rest) c r.right)
    (numbers_first l (length a.rlc.fields) b.sent (sent_in from (one ∷ told ++ rest)) r.numbers)
    (own_first a now behind r.own) in
    let all = records_go from l bits ks may_take past told rest (one ∷ before) (account now a)
    (told_last.sent_last one sent) k c (after_course from l one x) layout g.stands
    (record {
      flown = r.flown.1;
      soon = r.soon.1;
      counts = r.counts.1;
      right = r.right;
      numbers = g.numbers (sent_in from (told ++ rest)) many;
      own = own_rest a now behind r.own;
    }) in
    subst (λ (ss : List SentPdu). Goes from l (entries_in bits l from sent (one ∷ told)) a b.sent ss
    (sent_behind told (told_last.sent_last one sent))
    (behind_records histories may_take past ks (one ∷ before) told k).flows
    (sending_of from (behind_records histories may_take past ks (one ∷ before) told k)) (all_built from ks told c).sent
    (all_course from l told (after_course from l one x))) (sym (sent_next from one told))
    (goes_then from l now (entries_in bits l from (told_last.sent_last one sent) told) a b.sent
    (sent_in from (one ∷ [])) (sent_in from told) (told_last.sent_last one sent)
    (sent_behind told (told_last.sent_last one sent)) k.flows
    (behind_records histories may_take past ks (one ∷ before) told k).flows (sending_of from k)
    (sending_of from (behind_records histories may_take past ks (one ∷ before) told k)) c.sent
    (all_built from ks told c).sent (after_course from l one x) (all_course from l told (after_course from l one x))
    g all)

none_named : (named : List SentPdu) → none_sent named ≡ true → named ≡ []
none_named [] e = refl
none_named (s ∷ named) e = absurd (let bad = e in cc)

-- behind all of them none is named that isn't in a block
pub records_walk : (from : Side) (l bits : ℕ) (ks : List (Option Layout)) (may_take : MayTake) (past : List Group)
    (told before : List Record) (a : Account) (sent : List ℕ) (j : Journal Histories) (b : Building) (x : Course)
    → slice_index_or ks l None ≡ Some (layouts.Am (pdcp.Am bits))
    → Stands from l a sent j.flows (sending_of from j) b.sent x → AreRead from l bits ks told a sent b x
    → Walked from l (behind_all l (b.sent ++ sent_in from told) (length a.rlc.fields))
    (account (entries_in bits l from sent told) a) (sent_behind told sent)
    (behind_records histories may_take past ks before told j).flows
    (sending_of from (behind_records histories may_take past ks before told j)) (all_course from l told x)
records_walk from l bits ks may_take past told before a sent j b x layout h r =
    let last = (all_built from ks told b).sent in
    let none = none_named last (and_parts (all_built from ks told b).right (none_sent last) r.right).1 in
    let g = subst (λ (named : List SentPdu). Goes from l (entries_in bits l from sent told) a b.sent (sent_in from told)
    (sent_behind told sent) (behind_records histories may_take past ks before told j).flows
    (sending_of from (behind_records histories may_take past ks before told j)) named (all_course from l told x)) none
    (records_go from l bits ks may_take past told [] before a sent j b x layout h
    (subst (λ (ones : List Record). AreRead from l bits ks ones a sent b x) (sym (append-nil told)) r)) in
    record {
      stands = g.stands;
      next_is = g.ahead ∙ sym (behind_both l b.sent (sent_in from told) (length a.rlc.fields));
    }
