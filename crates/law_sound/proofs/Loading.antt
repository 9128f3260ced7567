-- A new block: what its PDUs tell of a flow, and the PDUs of the flow that its process holds.
use Rattle.std.proofs.Common.{◌≡◌, ◌<◌, ◌≤◌, ℕ, ◌+◌, ◌^◌, ◌%◌, ◌==◌, Bool, true, false, ◌&&◌, List, []}
use Rattle.std.proofs.Common.{◌∷◌, ◌++◌, length, map, Option, Some, None, Result, Ok, Err, refl, ap, sym, ◌∙◌, inl, inr}
use Rattle.std.proofs.Common.{arith, subst, if◌then◌else◌, append_assoc, append-nil}
use Rattle.std.specs.Prelude.{slice_index_or, nat_lt, nat_le}
use Rattle.std.specs.List.{AllByRecursion}
use Rattle.std.proofs.lemmas.Bool.{eq-eqb, and_from, lt-ltb, le-leb}
use Rattle.std.proofs.lemmas.List.{length_push, length-append, get_or_append_left}
use Rattle.l2_types.specs.declared.event.How.{How}
use Rattle.l2_types.specs.declared.event.How.TheVariants as hows
use Rattle.l2_types.specs.declared.side.Side.{Side}
use Rattle.mac_pdu.specs.declared.builder.Sdu.{Sdu}
use Rattle.rlc_pdu.specs.declared.constants.TheConstants.{AM_MODULUS, AM_WINDOW_SIZE}
use Rattle.rlc_pdu.specs.declared.fault.RlcRefusal.{RlcRefusal}
use Rattle.rlc_pdu.specs.declared.pdu.Segment.{Segment}
use Rattle.rlc_pdu.specs.Pdus.{AmdPdu, UmdPdu, AcknowledgedPdu, Payload, Status}
use Rattle.rlc_pdu.specs.Reading.{am_at, umd_at}
use Rattle.rlc_am_rx_window.specs.Piece.{octets_in, so_of}
use Rattle.pdcp_pdu.specs.declared.pdu.PdcpKind.{PdcpKind}
use Rattle.pdu_show.specs.declared.kinds.Layout.{Layout}
use Rattle.pdu_show.specs.declared.kinds.Layout.TheVariants as layouts
use Rattle.bearer_types.specs.Sides.{is_same, other}
use Rattle.law_words.specs.Arrivals.{Account}
use Rattle.law_words.specs.Passing.{last_with}
use Rattle.law_words.specs.Passing as words
use Rattle.promises.specs.Names.{IsNamed, Acknowledged}
use Rattle.journal_account.specs.FlowEvents.{NumberWritten, OctetsResent, next_of}
use Rattle.journal_lives.specs.LifeEvents.{LifeEvent, InLife, running}
use Rattle.journal_flows.specs.declared.parcels.Parcel.{Parcel}
use Rattle.journal_flows.specs.declared.parcels.Parcel.TheVariants.{Octets, Pieces, Report}
use Rattle.journal_flows.specs.declared.sending.Named.{Named}
use Rattle.journal_flows.specs.NumberedPdus.{with_sn_from, entry_from}
use Rattle.journal_flows.specs.NumberedPdus.{parcel_by, written_as, Acked}
use Rattle.journal_flows.specs.Possible.{is_possible, most_octets}
use Rattle.journal_flows.specs.UmPdus.{um_parcel_by}
use Rattle.journal_flows.specs.Gathering.{Loaded, parcel_in, loads_parcel}
use Rattle.journal_flows.specs.FlowsTold.{Histories, histories, is_at}
use Rattle.promises.specs.OwnPdus.{IsOwnData, IsOwnPdu}
use Rattle.promises.specs.SentNumbers.{IsNumber, IsWritten, next_by}
use Rattle.law_sound.proofs.Agreeing.{Agrees}
use Rattle.law_sound.proofs.Events.{with_size, agrees_written}
use Rattle.law_sound.proofs.Numbering.{written_last, is_no_next}
use Rattle.law_sound.proofs.Telling.{flow, IsApart, apart_one, apart_all, told_own}

-- ---- the PDUs of a channel, as both read them

abbrev pub pdus_of : ℕ → List Sdu → List (List ℕ)
pdus_of l [] = []
pdus_of l (d ∷ sdus) = (if d.lcid == l then d.octets ∷ [] else []) ++ pdus_of l sdus

abbrev pub data_by : Result AcknowledgedPdu RlcRefusal → List AmdPdu
data_by (Ok (Payload pdu)) = pdu ∷ []
data_by (Ok (Status pdu)) = []
data_by (Err refused) = []

abbrev pub data_of : List (List ℕ) → List AmdPdu
data_of [] = []
data_of (octets ∷ pdus) = data_by (am_at octets) ++ data_of pdus

pub record Span : Type 0 where
  pub number : ℕ
  pub from : ℕ
  pub to : ℕ

abbrev pub span_in : ℕ → Parcel → List Span
span_in l (Octets lcid n start end) =
    if lcid == l then record { number = n; from = start; to = end } ∷ [] else []
span_in l p = []

abbrev pub spans : ℕ → List Parcel → List Span
spans l [] = []
spans l (p ∷ ps) = span_in l p ++ spans l ps

pub record IsSpan (pdu : AmdPdu) (s : Span) : Type 0 where
  pub sn : pdu.sn ≡ s.number % AM_MODULUS
  pub from : so_of pdu.segment ≡ s.from
  pub to : so_of pdu.segment + octets_in pdu.elements ≡ s.to

abbrev pub AreSpans : List AmdPdu → List Span → Type 0
AreSpans [] [] = Unit {0}
AreSpans (pdu ∷ pdus) (s ∷ ss) = IsSpan pdu s × AreSpans pdus ss
AreSpans pdus ss = ⊥

spans_push : (l : ℕ) (ps : List Parcel) (p : Parcel) → spans l (ps ++ p ∷ []) ≡ spans l ps ++ span_in l p
spans_push l [] p = append-nil (span_in l p)
spans_push l (q ∷ ps) p =
    ap (λ (ss : List Span). span_in l q ++ ss) (spans_push l ps p)
    ∙ sym (append_assoc (span_in l q) (spans l ps) (span_in l p))

are_push : (pdus : List AmdPdu) (ss : List Span) (pdu : AmdPdu) (s : Span) → AreSpans pdus ss → IsSpan pdu s
    → AreSpans (pdus ++ pdu ∷ []) (ss ++ s ∷ [])
are_push [] [] pdu s h is = (is, tt)
are_push [] (t ∷ ss) pdu s h is = absurd h
are_push (x ∷ pdus) [] pdu s h is = absurd h
are_push (x ∷ pdus) (t ∷ ss) pdu s h is = (h.0, are_push pdus ss pdu s h.1 is)

-- ---- of numbers near the next one

-- some octets of a number that was written, and so many new numbers at most since it was among the
-- last of the window
pub record IsNear (fields : List ℕ) (age : ℕ) (s : Span) : Type 0 where
  pub below : s.number < length fields
  pub near : length fields ≤ s.number + (AM_WINDOW_SIZE + age)
  pub some : s.from < s.to
  pub few : s.to < 2 ^ 15
  pub within : s.to ≤ slice_index_or fields s.number 0

abbrev pub AreNear : List ℕ → ℕ → List Span → Type 0
AreNear fields age ss = AllByRecursion (IsNear fields age) ss

pub near_more : (fields more : List ℕ) (age : ℕ) (ss : List Span) → AreNear fields age ss
    → AreNear (fields ++ more) (age + length more) ss
near_more fields more age [] h = tt
near_more fields more age (s ∷ ss) h =
    let long = length-append fields more in
    let is = h.0 in (
      record {
        below = omega (arith, is.below, long);
        near = omega (arith, is.near, long);
        some = is.some;
        few = is.few;
        within = subst (λ (n : ℕ). s.to ≤ n) (sym (get_or_append_left fields more 0 s.number is.below)) is.within;
      },
      near_more fields more age ss h.1,
    )

near_push : (fields : List ℕ) (age : ℕ) (ss : List Span) (s : Span) → AreNear fields age ss → IsNear fields age s
    → AreNear fields age (ss ++ s ∷ [])
near_push fields age [] s h is = (is, tt)
near_push fields age (t ∷ ss) s h is = (h.0, near_push fields age ss s h.1 is)

-- ---- behind some PDUs

pub record IsLoaded (from : Side) (l age : ℕ) (a : Account) (pdus : List AmdPdu) (b : Loaded Histories) : Type 0 where
  pub agrees : Agrees a (flow from l b.flows)
  pub held : AreSpans pdus (spans l b.parcels)
  pub near : AreNear a.rlc.fields age (spans l b.parcels)

-- ---- a PDU of the flow

abbrev pub written : Result AcknowledgedPdu RlcRefusal → Account → Account
written r a = record a { rlc = words.written_as r a.rlc }

-- behind an account: more numbers are written, up to the next one
pub record IsBehind (from : Side) (l next age : ℕ) (before a : Account) (pdus : List AmdPdu) (b : Loaded Histories)
    : Type 0 where
  pub more : List ℕ
  pub fields_are : a.rlc.fields ≡ before.rlc.fields ++ more
  pub loaded : IsLoaded from l (age + length more) a pdus b
  pub next_is : length a.rlc.fields ≡ next

own_span : (l n start end : ℕ) → span_in l (Octets l n start end) ≡ record { number = n; from = start; to = end } ∷ []
own_span l n start end =
    ap (λ (b : Bool). if b then record { number = n; from = start; to = end } ∷ [] else []) (eq-eqb l l refl)

spans_more : (l n start end : ℕ) (ps : List Parcel) → spans l ps ++ record { number = n; from = start; to = end } ∷ []
    ≡ spans l (ps ++ Octets l n start end ∷ [])
spans_more l n start end ps =
    sym (spans_push l ps (Octets l n start end) ∙ ap (λ (ss : List Span). spans l ps ++ ss) (own_span l n start end))

held_more : (l n start end : ℕ) (pdus : List AmdPdu) (ps : List Parcel) (pdu : AmdPdu) → AreSpans pdus (spans l ps)
    → IsSpan pdu (record { number = n; from = start; to = end })
    → AreSpans (pdus ++ pdu ∷ []) (spans l (ps ++ Octets l n start end ∷ []))
held_more l n start end pdus ps pdu h is =
    subst (λ (ss : List Span). AreSpans (pdus ++ pdu ∷ []) ss) (spans_more l n start end ps)
    (are_push pdus (spans l ps) pdu (record { number = n; from = start; to = end }) h is)

near_one : (l n start end age : ℕ) (fields : List ℕ) (ps : List Parcel) → AreNear fields age (spans l ps)
    → IsNear fields age (record { number = n; from = start; to = end })
    → AreNear fields age (spans l (ps ++ Octets l n start end ∷ []))
near_one l n start end age fields ps h is =
    subst (λ (ss : List Span). AreNear fields age ss) (spans_more l n start end ps)
    (near_push fields age (spans l ps) (record { number = n; from = start; to = end }) h is)

abbrev with_field_by : Bool → ℕ → Account → Account
with_field_by c size a =
    record a { rlc = if c then record a.rlc { fields = a.rlc.fields ++ size ∷ [] } else a.rlc }

no_segment : (s : Option Segment) → s ≡ None → so_of s ≡ 0
no_segment None e = refl
no_segment (Some s) e = absurd cc

can_be_written : (next size : ℕ) → 0 < size → size < 2 ^ 15 → is_possible next (InLife (NumberWritten size)) ≡ true
can_be_written next size some few =
    and_from (nat_lt 0 size) (nat_le size most_octets) (lt-ltb 0 size some)
    (le-leb size most_octets (omega (arith, few)))

last_field : (fields : List ℕ) (size : ℕ) → slice_index_or (fields ++ size ∷ []) (length fields) 0 ≡ size
last_field [] size = refl
last_field (x ∷ fields) size = last_field fields size

new_near : (fields : List ℕ) (n size age : ℕ) → n ≡ length fields → 0 < size → size < 2 ^ 15
    → IsNear (fields ++ size ∷ []) (age + 1) (record { number = n; from = 0; to = size })
new_near fields n size age is some few =
    let long = length_push fields size in
    record {
      below = omega (arith, long, is);
      near = omega (arith, long, is);
      some = some;
      few = few;
      within =
          let last : slice_index_or (fields ++ size ∷ []) n 0 ≡ size =
          ap (λ (m : ℕ). slice_index_or (fields ++ size ∷ []) m 0) is ∙ last_field fields size in
          omega (arith, last);
    }

new_pdu : (from : Side) (l next age : ℕ) (pdu : AmdPdu) (a : Account) (pdus : List AmdPdu) (b : Loaded Histories)
    → next ≡ next_of (running (flow from l b.flows)) → pdu.sn ≡ length a.rlc.fields % AM_MODULUS
    → pdu.segment ≡ None → IsOwnData a.rlc pdu → IsLoaded from l age a pdus b
    → IsBehind from l (length a.rlc.fields + 1) age a (written (Ok (Payload pdu)) a) (pdus ++ pdu ∷ [])
    (loads_parcel histories from hows.New (Some (Octets l next 0 (octets_in pdu.elements))) b)
new_pdu from l next age pdu a pdus b next_is sn whole own h =
    let size : ℕ = octets_in pdu.elements in
    let same : length a.rlc.fields ≡ next = ap (length {A = ℕ}) h.agrees.fields ∙ sym next_is in
    let so = no_segment pdu.segment whole in
    let few : octets_in pdu.elements < 2 ^ 15 = omega (arith, own.few, so) in
    let some : 0 < octets_in pdu.elements = own.some in
    let t = told_own from l (InLife (NumberWritten (octets_in pdu.elements))) b.flows
    (can_be_written (next_of (running (flow from l b.flows))) size some few) in
    let one : age + 1 ≡ age + length (octets_in pdu.elements ∷ []) = omega arith in
    subst (λ (c : Bool). IsBehind from l (length a.rlc.fields + 1) age a
    (with_field_by c (octets_in pdu.elements) a)
    (pdus ++ pdu ∷ []) (loads_parcel histories from hows.New (Some (Octets l next 0 (octets_in pdu.elements))) b))
    (sym (eq-eqb pdu.sn (length a.rlc.fields % AM_MODULUS) sn))
    (record {
      more = octets_in pdu.elements ∷ [];
      fields_are = refl;
      loaded = record {
        agrees =
            subst (λ (es : List LifeEvent). Agrees (with_size (octets_in pdu.elements) a) es) (sym t)
            (agrees_written size a (flow from l b.flows) h.agrees);
        held =
            held_more l next 0 size pdus b.parcels pdu h.held
            (record {
              sn = sn ∙ ap (λ (n : ℕ). n % AM_MODULUS) same;
              from = so;
              to = omega (arith, so);
            });
        near =
            near_one l next 0 size (age + length (octets_in pdu.elements ∷ []))
            (a.rlc.fields ++ octets_in pdu.elements ∷ []) b.parcels
            (near_more a.rlc.fields (octets_in pdu.elements ∷ []) age (spans l b.parcels) h.near)
            (subst (λ (m : ℕ). IsNear (a.rlc.fields ++ octets_in pdu.elements ∷ []) m
            (record { number = next; from = 0; to = octets_in pdu.elements })) one
            (new_near a.rlc.fields next size age (sym same) some few));
      };
      next_is = omega (arith, length_push a.rlc.fields size);
    })

re_pdu : (from : Side) (l next age : ℕ) (pdu : AmdPdu) (a : Account) (pdus : List AmdPdu) (b : Loaded Histories)
    → next ≡ next_of (running (flow from l b.flows)) → (w : IsWritten (length a.rlc.fields) pdu.sn)
    → IsOwnData a.rlc pdu → IsLoaded from l age a pdus b
    → IsBehind from l (length a.rlc.fields) age a (written (Ok (Payload pdu)) a) (pdus ++ pdu ∷ [])
    (loads_parcel histories from hows.Re (Some (Octets l (last_with pdu.sn next) (so_of pdu.segment)
    (so_of pdu.segment + octets_in pdu.elements))) b)
re_pdu from l next age pdu a pdus b next_is w own h =
    let from_place : ℕ = so_of pdu.segment in
    let to : ℕ = so_of pdu.segment + octets_in pdu.elements in
    let n : ℕ = last_with pdu.sn next in
    let same : length a.rlc.fields ≡ next = ap (length {A = ℕ}) h.agrees.fields ∙ sym next_is in
    let mine : last_with pdu.sn next ≡ w.number =
    ap (last_with pdu.sn) (sym same) ∙ written_last (length a.rlc.fields) pdu.sn w in
    let old = is_no_next (length a.rlc.fields) pdu.sn w in
    let within = subst (λ (m : ℕ). so_of pdu.segment + octets_in pdu.elements
    ≤ slice_index_or a.rlc.fields (last_with pdu.sn m) 0) same (own.within old) in
    let none : age ≡ age + 0 = omega arith in
    let below = w.below in
    let near = w.near in
    let some = own.some in
    subst (λ (c : Bool). IsBehind from l (length a.rlc.fields) age a (with_field_by c (octets_in pdu.elements) a)
    (pdus ++ pdu ∷ []) (loads_parcel histories from hows.Re (Some (Octets l (last_with pdu.sn next) (so_of pdu.segment)
    (so_of pdu.segment + octets_in pdu.elements))) b))
    (sym old)
    (record {
      more = [];
      fields_are = sym (append-nil a.rlc.fields);
      loaded = record {
        agrees =
            apart_one from l from l (Acked (InLife (OctetsResent n from_place to))) a b.flows (inr tt) h.agrees;
        held =
            held_more l n from_place to pdus b.parcels pdu h.held
            (record { sn = w.sn_is ∙ ap (λ (m : ℕ). m % AM_MODULUS) (sym mine); from = refl; to = refl });
        near =
            subst (λ (m : ℕ). AreNear a.rlc.fields m (spans l (b.parcels ++ Octets l (last_with pdu.sn next)
            (so_of pdu.segment) (so_of pdu.segment + octets_in pdu.elements) ∷ []))) none
            (near_one l n from_place to age a.rlc.fields b.parcels h.near
            (record {
              below = omega (arith, below, mine);
              near = omega (arith, near, mine);
              some = omega (arith, some);
              few = own.few;
              within = within;
            }));
      };
      next_is = refl;
    })

-- a PDU that isn't of a data field
held_same : (l : ℕ) (pdus : List AmdPdu) (ps : List Parcel) (p : Parcel) → span_in l p ≡ []
    → AreSpans pdus (spans l ps) → AreSpans pdus (spans l (ps ++ p ∷ []))
held_same l pdus ps p none h =
    subst (λ (ss : List Span). AreSpans pdus ss)
    (sym (spans_push l ps p ∙ ap (λ (ss : List Span). spans l ps ++ ss) none ∙ append-nil (spans l ps))) h

pub none_more : (pdus : List AmdPdu) (from : Side) (l next age : ℕ) (before a : Account) (b : Loaded Histories)
    → IsBehind from l next age before a pdus b → IsBehind from l next age before a (pdus ++ []) b
none_more pdus from l next age before a b h =
    subst (λ (ds : List AmdPdu). IsBehind from l next age before a ds b) (sym (append-nil pdus)) h

near_same : (l age : ℕ) (fields : List ℕ) (ps : List Parcel) (p : Parcel) → span_in l p ≡ []
    → AreNear fields age (spans l ps) → AreNear fields age (spans l (ps ++ p ∷ []))
near_same l age fields ps p none h =
    subst (λ (ss : List Span). AreNear fields age ss)
    (sym (spans_push l ps p ∙ ap (λ (ss : List Span). spans l ps ++ ss) none ∙ append-nil (spans l ps))) h

-- nothing more is written
pub none_written : (from : Side) (l age : ℕ) (a : Account) (pdus : List AmdPdu) (b : Loaded Histories)
    → IsLoaded from l age a pdus b → IsBehind from l (length a.rlc.fields) age a a pdus b
none_written from l age a pdus b h =
    let none : age ≡ age + 0 = omega arith in
    record {
      more = [];
      fields_are = sym (append-nil a.rlc.fields);
      loaded = subst (λ (m : ℕ). IsLoaded from l m a pdus b) none h;
      next_is = refl;
    }

-- as it is read
pub read_pdu : (from : Side) (l next age sn : ℕ) (kind : PdcpKind) (how : How) (octets : List ℕ) (a : Account)
    (pdus : List AmdPdu) (b : Loaded Histories) (r : Result AcknowledgedPdu RlcRefusal)
    → next ≡ next_of (running (flow from l b.flows)) → am_at octets ≡ r
    → IsNamed (Some (Acknowledged kind)) how sn octets → IsNumber how (length a.rlc.fields) sn
    → IsOwnPdu a.rlc r → IsLoaded from l age a pdus b → (front : ℕ)
    → IsBehind from l (next_by how (length a.rlc.fields)) age a (written r a) (pdus ++ data_by r)
    (loads_parcel histories from how (parcel_by next front l how r) b)
read_pdu from l next age sn kind hows.Tm octets a pdus b r next_is read named number own h front = absurd named
read_pdu from l next age sn kind hows.New octets a pdus b r next_is read named number own h front =
    by r (sym read ∙ named.read) own
  where
    by : (r : Result AcknowledgedPdu RlcRefusal) → r ≡ Ok (Payload named.pdu) → IsOwnPdu a.rlc r
        → IsBehind from l (length a.rlc.fields + 1) age a (written r a) (pdus ++ data_by r)
        (loads_parcel histories from hows.New (parcel_by next front l hows.New r) b)
    by (Err refused) e own = absurd cc
    by (Ok (Status pdu)) e own = absurd cc
    by (Ok (Payload pdu)) e own =
        let same : pdu ≡ named.pdu = cc in
        new_pdu from l next age pdu a pdus b next_is
        (ap (λ (x : AmdPdu). x.sn) same ∙ named.number ∙ number)
        (ap (λ (x : AmdPdu). x.segment) same ∙ named.whole refl) own h
read_pdu from l next age sn kind hows.Re octets a pdus b r next_is read named number own h front =
    by r (sym read ∙ named.read) own
  where
    by : (r : Result AcknowledgedPdu RlcRefusal) → r ≡ Ok (Payload named.pdu) → IsOwnPdu a.rlc r
        → IsBehind from l (length a.rlc.fields) age a (written r a) (pdus ++ data_by r)
        (loads_parcel histories from hows.Re (parcel_by next front l hows.Re r) b)
    by (Err refused) e own = absurd cc
    by (Ok (Status pdu)) e own = absurd cc
    by (Ok (Payload pdu)) e own =
        let same : pdu ≡ named.pdu = cc in
        re_pdu from l next age pdu a pdus b next_is
        (subst (λ (m : ℕ). IsWritten (length a.rlc.fields) m)
        (sym (ap (λ (x : AmdPdu). x.sn) same ∙ named.number)) number) own h
read_pdu from l next age sn kind hows.Status octets a pdus b r next_is read named number own h front =
    by r (sym read ∙ named.read)
  where
    by : (r : Result AcknowledgedPdu RlcRefusal)
        → r ≡ Ok (Status (record { ack = sn; nacks = named.nacks }))
        → IsBehind from l (length a.rlc.fields) age a (written r a) (pdus ++ data_by r)
        (loads_parcel histories from hows.Status (parcel_by next front l hows.Status r) b)
    by (Err refused) e = absurd cc
    by (Ok (Payload pdu)) e = absurd cc
    by (Ok (Status pdu)) e =
        let p = Report l (with_sn_from front pdu.ack) (map (entry_from front) pdu.nacks) in
        let c = loads_parcel histories from hows.Status (Some p) b in
        none_more pdus from l (length a.rlc.fields) age a a c
        (none_written from l age a pdus c
        (record {
          agrees = h.agrees;
          held = held_same l pdus b.parcels p refl h.held;
          near = near_same l age a.rlc.fields b.parcels p refl h.near;
        }))

-- ---- a PDU of another channel

abbrev pub IsElse : ℕ → Parcel → Type 0
IsElse l (Octets lcid n start end) = (lcid == l) ≡ false
IsElse l (Pieces lcid n size pieces) = Unit {0}
IsElse l (Report lcid ack entries) = (lcid == l) ≡ false

else_span : (l : ℕ) (p : Parcel) → IsElse l p → span_in l p ≡ []
else_span l (Octets lcid n start end) apart =
    ap (λ (b : Bool). if b then record { number = n; from = start; to = end } ∷ [] else []) apart
else_span l (Pieces lcid n size pieces) apart = refl
else_span l (Report lcid ack entries) apart = refl

pub not_at : (from side : Side) (l lcid : ℕ) → (lcid == l) ≡ false → is_at side lcid from l ≡ false
not_at from side l lcid apart =
    ap (λ (b : Bool). is_same side from && b) apart ∙ none (is_same side from)
  where
    none : (b : Bool) → (b && false) ≡ false
    none true = refl
    none false = refl

else_written : (from : Side) (l : ℕ) (side : Side) (how : How) (p : Parcel) → IsElse l p
    → AllByRecursion (IsApart from l) (written_as side how p)
else_written from l side hows.New (Octets lcid n start end) apart = (inl (not_at from side l lcid apart), tt)
else_written from l side hows.Re (Octets lcid n start end) apart = (inl (not_at from side l lcid apart), tt)
else_written from l side hows.New (Pieces lcid n size pieces) apart = (tt, tt)
else_written from l side hows.Re (Pieces lcid n size pieces) apart = tt
else_written from l side hows.New (Report lcid ack entries) apart = tt
else_written from l side hows.Re (Report lcid ack entries) apart = tt
else_written from l side hows.Tm p apart = tt
else_written from l side hows.Status p apart = tt

abbrev pub AreElse : ℕ → Option Parcel → Type 0
AreElse l None = Unit {0}
AreElse l (Some p) = IsElse l p

else_am : (l next front lcid : ℕ) (how : How) (r : Result AcknowledgedPdu RlcRefusal) → (lcid == l) ≡ false
    → AreElse l (parcel_by next front lcid how r)
else_am l next front lcid hows.New (Ok (Payload pdu)) apart = apart
else_am l next front lcid hows.New (Ok (Status pdu)) apart = tt
else_am l next front lcid hows.New (Err refused) apart = tt
else_am l next front lcid hows.Re (Ok (Payload pdu)) apart = apart
else_am l next front lcid hows.Re (Ok (Status pdu)) apart = tt
else_am l next front lcid hows.Re (Err refused) apart = tt
else_am l next front lcid hows.Status (Ok (Payload pdu)) apart = tt
else_am l next front lcid hows.Status (Ok (Status pdu)) apart = apart
else_am l next front lcid hows.Status (Err refused) apart = tt
else_am l next front lcid hows.Tm r apart = tt

else_um : (l next place lcid : ℕ) (how : How) (r : Result UmdPdu RlcRefusal)
    → AreElse l (um_parcel_by next place lcid how r)
else_um l next place lcid hows.New (Ok pdu) = tt
else_um l next place lcid hows.New (Err refused) = tt
else_um l next place lcid hows.Re r = tt
else_um l next place lcid hows.Status r = tt
else_um l next place lcid hows.Tm r = tt

pub else_in : (l : ℕ) (layout : Option Layout) (f : Histories) (side : Side) (s : Named) (octets : List ℕ)
    → (s.lcid == l) ≡ false → AreElse l (parcel_in histories layout f side s octets)
else_in l None f side s octets apart = tt
else_in l (Some layouts.Tm) f side s octets apart = tt
else_in l (Some (layouts.Um rlc_bits kind)) f side s octets apart =
    else_um l (histories.um_next side s.lcid f) (histories.um_place side s.lcid f) s.lcid s.how (umd_at rlc_bits octets)
else_in l (Some (layouts.Am kind)) f side s octets apart =
    else_am l (histories.next side s.lcid f) (histories.front (other side) s.lcid f) s.lcid s.how (am_at octets) apart

pub else_loaded : (from : Side) (l age : ℕ) (side : Side) (how : How) (o : Option Parcel) (a : Account)
    (pdus : List AmdPdu) (b : Loaded Histories) → AreElse l o → IsLoaded from l age a pdus b
    → IsLoaded from l age a pdus (loads_parcel histories side how o b)
else_loaded from l age side how None a pdus b apart h = h
else_loaded from l age side how (Some p) a pdus b apart h = record {
  agrees = apart_all from l (written_as side how p) a b.flows (else_written from l side how p apart) h.agrees;
  held = held_same l pdus b.parcels p (else_span l p apart) h.held;
  near = near_same l age a.rlc.fields b.parcels p (else_span l p apart) h.near;
}
