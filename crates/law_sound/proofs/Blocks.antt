-- A new block and one that is got, PDU by PDU: what they tell of a flow is what their octets tell.
use Rattle.std.proofs.Common.{◌≡◌, ◌<◌, ◌≤◌, ℕ, ◌+◌, ◌^◌, ◌==◌, Bool, true, false, ◌&&◌, List, [], ◌∷◌, ◌++◌}
use Rattle.std.proofs.Common.{length, map, Option, Some, None, Result, Ok, Err, refl, ap, sym, ◌∙◌, inl, inr}
use Rattle.std.proofs.Common.{subst, if◌then◌else◌, append_assoc, arith}
use Rattle.std.specs.Prelude.{slice_index_or, nat_lt, nat_le}
use Rattle.std.specs.List.{AllByRecursion}
use Rattle.std.proofs.lemmas.Bool.{eq-eqb, eqb-true, and_from, lt-ltb, le-leb}
use Rattle.std.proofs.lemmas.List.{length-append}
use Rattle.l2_types.specs.declared.event.How.{How}
use Rattle.l2_types.specs.declared.event.How.TheVariants as hows
use Rattle.l2_types.specs.declared.side.Side.{Side}
use Rattle.l2_types.specs.declared.side.Side.TheVariants.{Nb, Ue}
use Rattle.mac_pdu.specs.declared.builder.Sdu.{Sdu}
use Rattle.mac_pdu.specs.Items.{MacItem, front, element, sdu, padding}
use Rattle.rlc_pdu.specs.declared.constants.TheConstants.{AM_MODULUS, AM_WINDOW_SIZE}
use Rattle.rlc_pdu.specs.declared.fault.RlcRefusal.{RlcRefusal}
use Rattle.rlc_pdu.specs.Pdus.{AmdPdu, AcknowledgedPdu, Payload, Status}
use Rattle.rlc_pdu.specs.Reading.{am_at}
use Rattle.rlc_am_rx_window.specs.Piece.{octets_in, so_of}
use Rattle.pdcp_pdu.specs.declared.pdu.PdcpKind.{PdcpKind}
use Rattle.pdu_show.specs.declared.kinds.Layout.{Layout}
use Rattle.pdu_show.specs.declared.kinds.Layout.TheVariants as layouts
use Rattle.bearer_types.specs.Sides.{is_same, other}
use Rattle.law_words.specs.Arrivals.{Account, account}
use Rattle.law_words.specs.Passing.{last_with, with_stretch}
use Rattle.law_words.specs.Passing as words
use Rattle.promises.specs.Given.{entries_written, entries_come}
use Rattle.promises.specs.Names.{SentPdu, IsNamed, AreNamed}
use Rattle.promises.specs.Pdus.{pdus_among}
use Rattle.promises.specs.RightForm.{mode_of, known_mode, sdus_in}
use Rattle.journal_account.specs.FlowEvents.{OctetsArrived, next_of, field_sizes}
use Rattle.journal_lives.specs.LifeEvents.{LifeEvent, InLife, running}
use Rattle.journal_flows.specs.declared.parcels.Parcel.{Parcel}
use Rattle.journal_flows.specs.declared.parcels.Parcel.TheVariants.{Octets, Pieces, Report}
use Rattle.journal_flows.specs.declared.sending.Named.{Named}
use Rattle.journal_flows.specs.NumberedPdus.{written_as, come_as}
use Rattle.journal_flows.specs.Possible.{is_possible, are_octets, most_octets}
use Rattle.journal_flows.specs.Gathering.{Loaded, parcel_in, parcel_of, loads_parcel, loads, all_told, all_come}
use Rattle.journal_flows.specs.FlowsTold.{Histories, histories, is_at}
use Rattle.promises.specs.OwnPdus.{IsOwnPdu, AreOwn}
use Rattle.promises.specs.SentNumbers.{IsNumber, next_by, next_behind, AreNumbers}
use Rattle.law_sound.proofs.Agreeing.{Agrees}
use Rattle.law_sound.proofs.Events.{with_come, agrees_arrived}
use Rattle.law_sound.proofs.Numbering.{own_last, behind_all}
use Rattle.law_sound.proofs.Telling.{flow, IsApart, apart_all, told_own}
use Rattle.law_sound.proofs.Loading.{pdus_of, data_by, data_of, spans, IsSpan, AreSpans, IsNear, AreNear, IsLoaded}
use Rattle.law_sound.proofs.Loading.{IsBehind}
use Rattle.law_sound.specs.LoadLaws.{name_of}
use Rattle.law_sound.proofs.Loading.{written, none_more, read_pdu, none_written, else_in, else_loaded}

-- ---- the PDUs of a channel in a block

pub pdus_are : (l : ℕ) (items : List MacItem) → pdus_among l items ≡ pdus_of l (sdus_in items)
pdus_are l [] = refl
pdus_are l (front ∷ items) = pdus_are l items
pdus_are l (element control ∷ items) = pdus_are l items
pdus_are l (sdu lcid octets ∷ items) =
    ap (λ (ps : List (List ℕ)). (if lcid == l then octets ∷ [] else []) ++ ps) (pdus_are l items)
pdus_are l (padding n ∷ items) = pdus_are l items

-- ---- a new block of the flow's side

abbrev named_as : ℕ → How → Named
named_as lcid how = record { lcid = lcid; how = how }

abbrev one_loaded : List (Option Layout) → Side → ℕ → How → List ℕ → Loaded Histories → Loaded Histories
one_loaded ks from lcid how octets b =
    loads_parcel histories from how (parcel_of histories ks b.flows from (named_as lcid how) octets) b

own_loaded : (from : Side) (l age : ℕ) (ks : List (Option Layout)) (kind : PdcpKind) (lcid : ℕ) (how : How) (sn : ℕ)
    (octets : List ℕ) (a : Account) (pdus : List AmdPdu) (b : Loaded Histories)
    → slice_index_or ks l None ≡ Some (layouts.Am kind) → lcid ≡ l → IsNamed (mode_of ks lcid) how sn octets
    → IsNumber how (length a.rlc.fields) sn → IsOwnPdu a.rlc (am_at octets) → IsLoaded from l age a pdus b
    → IsBehind from l (next_by how (length a.rlc.fields)) age a (written (am_at octets) a)
    (pdus ++ data_by (am_at octets)) (one_loaded ks from lcid how octets b)
own_loaded from l age ks kind lcid how sn octets a pdus b layout same =
    subst (λ (m : ℕ). IsNamed (mode_of ks m) how sn octets → IsNumber how (length a.rlc.fields) sn
    → IsOwnPdu a.rlc (am_at octets) → IsLoaded from l age a pdus b
    → IsBehind from l (next_by how (length a.rlc.fields)) age a (written (am_at octets) a)
    (pdus ++ data_by (am_at octets)) (one_loaded ks from m how octets b)) (sym same)
    (subst (λ (o : Option Layout). IsNamed (known_mode o) how sn octets → IsNumber how (length a.rlc.fields) sn
    → IsOwnPdu a.rlc (am_at octets) → IsLoaded from l age a pdus b
    → IsBehind from l (next_by how (length a.rlc.fields)) age a (written (am_at octets) a)
    (pdus ++ data_by (am_at octets))
    (loads_parcel histories from how (parcel_in histories o b.flows from (named_as l how) octets) b)) (sym layout)
    (λ named number own h. read_pdu from l (next_of (running (flow from l b.flows))) age sn kind how octets a pdus b
    (am_at octets) refl refl named number own h (histories.front (other from) l b.flows)))

-- one behind the other
behind_both : (from : Side) (l middle next age : ℕ) (before a c : Account) (first second : List AmdPdu)
    (x b : Loaded Histories) → (h : IsBehind from l middle age before a first x)
    → IsBehind from l next (age + length h.more) a c second b → IsBehind from l next age before c second b
behind_both from l middle next age before a c first second x b h k =
    let long = length-append h.more k.more in
    let all : age + length h.more + length k.more ≡ age + length (h.more ++ k.more) = omega (arith, long) in
    record {
      more = h.more ++ k.more;
      fields_are =
          k.fields_are ∙ ap (λ (xs : List ℕ). xs ++ k.more) h.fields_are
          ∙ append_assoc before.rlc.fields h.more k.more;
      loaded = subst (λ (m : ℕ). IsLoaded from l m c second b) all k.loaded;
      next_is = k.next_is;
    }

abbrev Loads : Side → ℕ → ℕ → List (Option Layout) → List SentPdu → List Sdu → Account → List AmdPdu
    → Loaded Histories → Type 0
Loads from l age ks sent sdus a pdus b =
    IsBehind from l (behind_all l sent (length a.rlc.fields)) age a
    (account (entries_written (pdus_of l sdus)) a) (pdus ++ data_of (pdus_of l sdus))
    (loads histories ks from (map name_of sent) sdus b)

pub block_loads : (from : Side) (l age : ℕ) (ks : List (Option Layout)) (kind : PdcpKind) (sent : List SentPdu)
    (sdus : List Sdu) (a : Account) (pdus : List AmdPdu) (b : Loaded Histories)
    → slice_index_or ks l None ≡ Some (layouts.Am kind) → AreNamed (mode_of ks) sent sdus
    → AreNumbers l (length a.rlc.fields) sent → AreOwn a (entries_written (pdus_of l sdus))
    → IsLoaded from l age a pdus b → Loads from l age ks sent sdus a pdus b
block_loads from l age ks kind [] [] a pdus b layout named numbers own h =
    none_more pdus from l (length a.rlc.fields) age a a b (none_written from l age a pdus b h)
block_loads from l age ks kind [] (d ∷ sdus) a pdus b layout named numbers own h = absurd named
block_loads from l age ks kind (s ∷ sent) [] a pdus b layout named numbers own h = absurd named
block_loads from l age ks kind (s ∷ sent) (d ∷ sdus) a pdus b layout named numbers own h =
    by (s.lcid == l) refl
    (λ age' a' pdus' known many mine. block_loads from l age' ks kind sent sdus a' pdus'
    (one_loaded ks from s.lcid s.how d.octets b) layout named.2 many mine known)
  where
    by : (c : Bool) → (s.lcid == l) ≡ c
        → ((age' : ℕ) (a' : Account) (pdus' : List AmdPdu)
        → IsLoaded from l age' a' pdus' (one_loaded ks from s.lcid s.how d.octets b)
        → AreNumbers l (length a'.rlc.fields) sent → AreOwn a' (entries_written (pdus_of l sdus))
        → Loads from l age' ks sent sdus a' pdus' (one_loaded ks from s.lcid s.how d.octets b))
        → Loads from l age ks (s ∷ sent) (d ∷ sdus) a pdus b
    by true e rest =
        let lcid : s.lcid ≡ l = eqb-true s.lcid l e in
        let on : (d.lcid == l) ≡ true = eq-eqb d.lcid l (named.0 ∙ lcid) in
        let owns = subst (λ (c : Bool).
        AreOwn a (entries_written ((if c then d.octets ∷ [] else []) ++ pdus_of l sdus))) on own in
        let one = own_loaded from l age ks kind s.lcid s.how s.sn d.octets a pdus b layout lcid named.1
        (numbers.0 lcid) owns.0 h in
        let next : next_behind l s (length a.rlc.fields) ≡ length (written (am_at d.octets) a).rlc.fields =
        ap (λ (c : Bool). if c then next_by s.how (length a.rlc.fields) else length a.rlc.fields) e
        ∙ sym one.next_is in
        let many = subst (λ (n : ℕ). AreNumbers l n sent) next numbers.1 in
        let all = behind_both from l (next_by s.how (length a.rlc.fields))
        (behind_all l sent (length (written (am_at d.octets) a).rlc.fields)) age a (written (am_at d.octets) a)
        (account (entries_written (pdus_of l sdus)) (written (am_at d.octets) a)) (pdus ++ data_by (am_at d.octets))
        ((pdus ++ data_by (am_at d.octets)) ++ data_of (pdus_of l sdus)) (one_loaded ks from s.lcid s.how d.octets b)
        (loads histories ks from (map name_of sent) sdus (one_loaded ks from s.lcid s.how d.octets b)) one
        (rest (age + length one.more) (written (am_at d.octets) a) (pdus ++ data_by (am_at d.octets)) one.loaded many
        owns.1) in
        subst (λ (n : ℕ). IsBehind from l n age a (account (entries_written (pdus_of l (d ∷ sdus))) a)
        (pdus ++ data_of (pdus_of l (d ∷ sdus)))
        (loads histories ks from (map name_of sent) sdus (one_loaded ks from s.lcid s.how d.octets b)))
        (ap (behind_all l sent) (sym next))
        (subst (λ (c : Bool). IsBehind from l (behind_all l sent (length (written (am_at d.octets) a).rlc.fields)) age a
        (account (entries_written ((if c then d.octets ∷ [] else []) ++ pdus_of l sdus)) a)
        (pdus ++ data_of ((if c then d.octets ∷ [] else []) ++ pdus_of l sdus))
        (loads histories ks from (map name_of sent) sdus (one_loaded ks from s.lcid s.how d.octets b))) (sym on)
        (subst (λ (ds : List AmdPdu).
        IsBehind from l (behind_all l sent (length (written (am_at d.octets) a).rlc.fields)) age a
        (account (entries_written (pdus_of l sdus)) (written (am_at d.octets) a)) ds
        (loads histories ks from (map name_of sent) sdus (one_loaded ks from s.lcid s.how d.octets b)))
        (append_assoc pdus (data_by (am_at d.octets)) (data_of (pdus_of l sdus))) all))
    by false e rest =
        let off : (d.lcid == l) ≡ false = ap (λ (n : ℕ). n == l) named.0 ∙ e in
        let owns = subst (λ (c : Bool).
        AreOwn a (entries_written ((if c then d.octets ∷ [] else []) ++ pdus_of l sdus))) off own in
        let next : next_behind l s (length a.rlc.fields) ≡ length a.rlc.fields =
        ap (λ (c : Bool). if c then next_by s.how (length a.rlc.fields) else length a.rlc.fields) e in
        let many = subst (λ (n : ℕ). AreNumbers l n sent) next numbers.1 in
        let one = else_loaded from l age from s.how
        (parcel_of histories ks b.flows from (named_as s.lcid s.how) d.octets) a pdus b
        (else_in l (slice_index_or ks s.lcid None) b.flows from (named_as s.lcid s.how) d.octets e) h in
        subst (λ (n : ℕ). IsBehind from l n age a (account (entries_written (pdus_of l (d ∷ sdus))) a)
        (pdus ++ data_of (pdus_of l (d ∷ sdus)))
        (loads histories ks from (map name_of sent) sdus (one_loaded ks from s.lcid s.how d.octets b)))
        (ap (behind_all l sent) (sym next))
        (subst (λ (c : Bool). IsBehind from l (behind_all l sent (length a.rlc.fields)) age a
        (account (entries_written ((if c then d.octets ∷ [] else []) ++ pdus_of l sdus)) a)
        (pdus ++ data_of ((if c then d.octets ∷ [] else []) ++ pdus_of l sdus))
        (loads histories ks from (map name_of sent) sdus (one_loaded ks from s.lcid s.how d.octets b))) (sym off)
        (rest age a pdus one many owns))

-- ---- one of the other side

not_side : (from side : Side) (l lcid : ℕ) → is_same side from ≡ false → is_at side lcid from l ≡ false
not_side from side l lcid apart = ap (λ (b : Bool). b && (lcid == l)) apart

other_written : (from side : Side) (l : ℕ) (how : How) (p : Parcel) → is_same side from ≡ false
    → AllByRecursion (IsApart from l) (written_as side how p)
other_written from side l hows.New (Octets lcid n start end) apart = (inl (not_side from side l lcid apart), tt)
other_written from side l hows.Re (Octets lcid n start end) apart = (inl (not_side from side l lcid apart), tt)
other_written from side l hows.New (Pieces lcid n size pieces) apart = (tt, tt)
other_written from side l hows.Re (Pieces lcid n size pieces) apart = tt
other_written from side l hows.New (Report lcid ack entries) apart = tt
other_written from side l hows.Re (Report lcid ack entries) apart = tt
other_written from side l hows.Tm p apart = tt
other_written from side l hows.Status p apart = tt

other_one : (from side : Side) (l : ℕ) (how : How) (o : Option Parcel) (a : Account) (b : Loaded Histories)
    → is_same side from ≡ false → Agrees a (flow from l b.flows)
    → Agrees a (flow from l (loads_parcel histories side how o b).flows)
other_one from side l how None a b apart h = h
other_one from side l how (Some p) a b apart h =
    apart_all from l (written_as side how p) a b.flows (other_written from side l how p apart) h

pub other_loads : (from side : Side) (l : ℕ) (ks : List (Option Layout)) (named : List Named) (sdus : List Sdu)
    (a : Account) (b : Loaded Histories) → is_same side from ≡ false → Agrees a (flow from l b.flows)
    → Agrees a (flow from l (loads histories ks side named sdus b).flows)
other_loads from side l ks [] sdus a b apart h = h
other_loads from side l ks (s ∷ named) [] a b apart h = h
other_loads from side l ks (s ∷ named) (d ∷ sdus) a b apart h =
    other_loads from side l ks named sdus a
    (loads_parcel histories side s.how (parcel_of histories ks b.flows side s d.octets) b) apart
    (other_one from side l s.how (parcel_of histories ks b.flows side s d.octets) a b apart h)

-- ---- a block that is got

abbrev pub data_come : List AmdPdu → Account → Account
data_come [] a = a
data_come (pdu ∷ pdus) a = data_come pdus (record a { rlc = with_stretch pdu a.rlc })

abbrev come : Result AcknowledgedPdu RlcRefusal → Account → Account
come r a = record a { rlc = words.come_as r a.rlc }

come_one : (r : Result AcknowledgedPdu RlcRefusal) (pdus : List AmdPdu) (a : Account)
    → data_come pdus (come r a) ≡ data_come (data_by r ++ pdus) a
come_one (Ok (Payload pdu)) pdus a = refl
come_one (Ok (Status pdu)) pdus a = refl
come_one (Err refused) pdus a = refl

pub come_is : (pdus : List (List ℕ)) (a : Account) → account (entries_come pdus) a ≡ data_come (data_of pdus) a
come_is [] a = refl
come_is (octets ∷ pdus) a = come_is pdus (come (am_at octets) a) ∙ come_one (am_at octets) (data_of pdus) a

pub come_fields : (pdus : List AmdPdu) (a : Account) → (data_come pdus a).rlc.fields ≡ a.rlc.fields
come_fields [] a = refl
come_fields (pdu ∷ pdus) a = come_fields pdus (record a { rlc = with_stretch pdu a.rlc })

-- one PDU of the flow
own_come : (from : Side) (l n start end age : ℕ) (pdu : AmdPdu) (a : Account) (f : Histories)
    → IsSpan pdu (record { number = n; from = start; to = end })
    → IsNear a.rlc.fields age (record { number = n; from = start; to = end }) → age ≤ AM_WINDOW_SIZE
    → Agrees a (flow from l f)
    → Agrees (record a { rlc = with_stretch pdu a.rlc })
    (flow from l (all_told histories (come_as from (Octets l n start end)) f))
own_come from l n start end age pdu a f is near soon h =
    let count : length a.rlc.fields ≡ next_of (running (flow from l f)) = ap (length {A = ℕ}) h.fields in
    let under : n < length a.rlc.fields = near.below in
    let below : n < next_of (running (flow from l f)) = omega (arith, under, count) in
    let within_window : length a.rlc.fields ≤ n + (AM_WINDOW_SIZE + age) = near.near in
    let close : length a.rlc.fields ≤ n + AM_MODULUS = omega (arith, within_window, soon) in
    let some : start < end = near.some in
    let few : end < 2 ^ 15 = near.few in
    let possible : is_possible (next_of (running (flow from l f))) (InLife (OctetsArrived n start end)) ≡ true =
    and_from (nat_lt n (next_of (running (flow from l f)))) (are_octets start end)
    (lt-ltb n (next_of (running (flow from l f))) below)
    (and_from (nat_lt start end) (nat_le end most_octets) (lt-ltb start end some)
    (le-leb end most_octets (omega (arith, few)))) in
    let t = told_own from l (InLife (OctetsArrived n start end)) f possible in
    let number : n ≡ last_with pdu.sn (length a.rlc.fields) =
    sym (ap (λ (m : ℕ). last_with m (length a.rlc.fields)) is.sn
    ∙ own_last n (length a.rlc.fields) under close) in
    let event = ap (λ (m : ℕ). InLife (OctetsArrived n m (so_of pdu.segment + octets_in pdu.elements))) is.from
    ∙ ap (λ (m : ℕ). InLife (OctetsArrived n start m)) is.to in
    let within : so_of pdu.segment + octets_in pdu.elements
    ≤ slice_index_or (field_sizes (running (flow from l f))) n 0 = subst (λ (fs : List ℕ).
    so_of pdu.segment + octets_in pdu.elements ≤ slice_index_or fs n 0) h.fields (subst (λ (m : ℕ).
    m ≤ slice_index_or a.rlc.fields n 0) (sym is.to) near.within) in
    subst (λ (fs : List LifeEvent). Agrees (record a { rlc = with_stretch pdu a.rlc }) fs) (sym t)
    (subst (λ (e : LifeEvent). Agrees (record a { rlc = with_stretch pdu a.rlc }) (e ∷ flow from l f)) event
    (subst (λ (m : ℕ). Agrees (with_come m (so_of pdu.segment) (octets_in pdu.elements) a)
    (InLife (OctetsArrived n (so_of pdu.segment) (so_of pdu.segment + octets_in pdu.elements)) ∷ flow from l f)) number
    (agrees_arrived n (so_of pdu.segment) (octets_in pdu.elements) a (flow from l f) below within h)))

abbrev Lands : Side → ℕ → List AmdPdu → List Parcel → Account → Histories → Type 0
Lands from l pdus ps a f = Agrees (data_come pdus a) (flow from l (all_come histories from ps f))

land_octets : (from : Side) (l lcid n start end age : ℕ) (pdus : List AmdPdu) (ps : List Parcel) (a : Account)
    (f : Histories) (c : Bool) → (lcid == l) ≡ c
    → AreSpans pdus ((if c then record { number = n; from = start; to = end } ∷ [] else []) ++ spans l ps)
    → AreNear a.rlc.fields age ((if c then record { number = n; from = start; to = end } ∷ [] else []) ++ spans l ps)
    → age ≤ AM_WINDOW_SIZE → Agrees a (flow from l f)
    → ((pdus' : List AmdPdu) (a' : Account) → AreSpans pdus' (spans l ps) → AreNear a'.rlc.fields age (spans l ps)
    → Agrees a' (flow from l (all_told histories (come_as from (Octets lcid n start end)) f))
    → Lands from l pdus' ps a' (all_told histories (come_as from (Octets lcid n start end)) f))
    → Lands from l pdus ps a (all_told histories (come_as from (Octets lcid n start end)) f)
land_octets from l lcid n start end age [] ps a f true e held near soon h rest = absurd held
land_octets from l lcid n start end age (pdu ∷ pdus) ps a f true e held near soon h rest =
    rest pdus (record a { rlc = with_stretch pdu a.rlc }) held.1 near.1
    (subst (λ (m : ℕ). Agrees (record a { rlc = with_stretch pdu a.rlc })
    (flow from l (all_told histories (come_as from (Octets m n start end)) f))) (sym (eqb-true lcid l e))
    (own_come from l n start end age pdu a f held.0 near.0 soon h))
land_octets from l lcid n start end age pdus ps a f false e held near soon h rest =
    rest pdus a held near
    (apart_all from l (come_as from (Octets lcid n start end)) a f (inl (not_lcid from l lcid e), tt) h)
  where
    none : (b : Bool) → (b && false) ≡ false
    none true = refl
    none false = refl

    not_lcid : (from : Side) (l lcid : ℕ) → (lcid == l) ≡ false → is_at from lcid from l ≡ false
    not_lcid from l lcid apart = ap (λ (b : Bool). is_same from from && b) apart ∙ none (is_same from from)

not_other : (side : Side) → is_same (other side) side ≡ false
not_other Nb = refl
not_other Ue = refl

pub block_lands : (from : Side) (l age : ℕ) (pdus : List AmdPdu) (ps : List Parcel) (a : Account) (f : Histories)
    → AreSpans pdus (spans l ps) → AreNear a.rlc.fields age (spans l ps) → age ≤ AM_WINDOW_SIZE
    → Agrees a (flow from l f) → Lands from l pdus ps a f
block_lands from l age [] [] a f held near soon h = h
block_lands from l age (pdu ∷ pdus) [] a f held near soon h = absurd held
block_lands from l age pdus (Octets lcid n start end ∷ ps) a f held near soon h =
    land_octets from l lcid n start end age pdus ps a f (lcid == l) refl held near soon h
    (λ pdus' a' held' near' h'. block_lands from l age pdus' ps a'
    (all_told histories (come_as from (Octets lcid n start end)) f) held' near' soon h')
block_lands from l age pdus (Pieces lcid n size pieces ∷ ps) a f held near soon h =
    block_lands from l age pdus ps a (all_told histories (come_as from (Pieces lcid n size pieces)) f) held near soon
    (apart_all from l (come_as from (Pieces lcid n size pieces)) a f (tt, tt) h)
block_lands from l age pdus (Report lcid ack entries ∷ ps) a f held near soon h =
    block_lands from l age pdus ps a (all_told histories (come_as from (Report lcid ack entries)) f) held near soon
    (apart_all from l (come_as from (Report lcid ack entries)) a f
    (inl (not_side from (other from) l lcid (not_other from)), tt) h)

-- one of the other side: a STATUS tells nothing of what has come
other_come : (from side : Side) (l : ℕ) (p : Parcel) → is_same side from ≡ false
    → AllByRecursion (IsApart from l) (come_as side p)
other_come from side l (Octets lcid n start end) apart = (inl (not_side from side l lcid apart), tt)
other_come from side l (Pieces lcid n size pieces) apart = (tt, tt)
other_come from side l (Report lcid ack entries) apart = (inr tt, tt)

pub other_lands : (from side : Side) (l : ℕ) (ps : List Parcel) (a : Account) (f : Histories)
    → is_same side from ≡ false → Agrees a (flow from l f) → Agrees a (flow from l (all_come histories side ps f))
other_lands from side l [] a f apart h = h
other_lands from side l (p ∷ ps) a f apart h =
    other_lands from side l ps a (all_told histories (come_as side p) f) apart
    (apart_all from l (come_as side p) a f (other_come from side l p apart) h)
