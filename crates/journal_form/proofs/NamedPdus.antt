-- The tests of PDUs are exact: each is true where the PDU is the one that its `send` names.
use Rattle.std.proofs.Common.{◌≡◌, ◌≢◌, ℕ, ◌-◌, ◌<◌, ◌==◌, Bool, true, false, not, ◌&&◌, ◌||◌, ◌⊎◌, inl, inr}
use Rattle.std.proofs.Common.{List, [], ◌∷◌, ◌++◌, length, Option, Some, None, is_none, Result, Ok, Err, refl, ap, sym}
use Rattle.std.proofs.Common.{◌∙◌, arith, subst}
use Rattle.std.specs.Prelude.{nat_lt, slice_index, slice_index_or, if◌then◌else◌}
use Rattle.std.specs.List.{AllByRecursion}
use Rattle.std.specs.Str.{bytes_eq}
use Rattle.std.specs.Cmp.Lexicographic.{pointwise}
use Rattle.std.proofs.lemmas.Bool.{and_parts, and_from, eqb-true, eq-eqb, ltb-true, lt-ltb, true≢false}
use Rattle.std.proofs.lemmas.Slice.Eq.{bytes_eq-Decides}
use Rattle.l2_bits.specs.Bits.{bits_of}
use Rattle.l2_types.specs.declared.event.How.{How}
use Rattle.l2_types.specs.declared.event.How.TheVariants as hows
use Rattle.mac_pdu.specs.declared.builder.Sdu.{Sdu}
use Rattle.rlc_pdu.specs.declared.fault.RlcRefusal.{RlcRefusal}
use Rattle.rlc_pdu.specs.declared.pdu.Nack.{Nack}
use Rattle.rlc_pdu.specs.declared.pdu.Segment.{Segment}
use Rattle.rlc_pdu.specs.Pdus.{UmdPdu, AcknowledgedPdu, Payload, Status}
use Rattle.rlc_pdu.specs.Reading.{umd_at, am_at}
use Rattle.rlc_pdu.specs.Writing.{umd_canonical, amd_canonical, status_written}
use Rattle.pdcp_pdu.specs.declared.pdu.PdcpKind.{PdcpKind}
use Rattle.pdcp_pdu.specs.declared.pdu.PdcpKind.TheVariants as pdcp
use Rattle.pdcp_pdu.specs.declared.pdu.PdcpRefusal.{PdcpRefusal}
use Rattle.pdcp_pdu.specs.Grammar.{IsBitmap, user_spelling, srb_spelling}
use Rattle.pdcp_pdu.specs.Pdus.{UserPdu, Sdu as DataPdu, Report, SrbPdu}
use Rattle.pdcp_pdu.specs.Reading.{user_at, srb_at}
use Rattle.pdu_show.specs.declared.kinds.Layout.{Layout}
use Rattle.pdu_show.specs.declared.kinds.Layout.TheVariants as layouts
use Rattle.promises.specs.Names.{SentPdu, IsData, IsReport, IsSignalling, IsPdcp, IsUmd, IsAmd, IsStatus, IsNamed}
use Rattle.promises.specs.Names.{AreNamed, whole_sdus}
use Rattle.promises.specs.RightForm.{known_mode, mode_of}
use Rattle.journal_form.specs.Tests.{is_bitmap, is_user, is_user_by, is_signalling, is_signalling_by, is_pdcp, are_pdcp}
use Rattle.journal_form.specs.Tests.{is_umd, is_umd_by, is_umd_written, is_amd, is_amd_by, is_amd_written}
use Rattle.journal_form.specs.Tests.{is_control_by}
use Rattle.journal_form.specs.Tests.{is_status, is_named, is_next, are_named, same_bit}
use Rattle.journal_form.proofs.Lists.{bits_are}

no : {A : Type 0} → false ≡ true → A
no e = absurd (true≢false (sym e))

octets_are : (a b : List ℕ) → bytes_eq a b ≡ true → b ≡ a
octets_are a b e = sym ((bytes_eq-Decides a b).0 e)

octets_same : (a b : List ℕ) → b ≡ a → bytes_eq a b ≡ true
octets_same a b e = (bytes_eq-Decides a b).1 (sym e)

or_parts : (a b : Bool) → (a || b) ≡ true → (a ≡ true) ⊎ (b ≡ true)
or_parts true b e = inl refl
or_parts false b e = inr e

or_first : (a b : Bool) → a ≡ true → (a || b) ≡ true
or_first a b e = rw e refl

or_second : (a b : Bool) → b ≡ true → (a || b) ≡ true
or_second true b e = refl
or_second false b e = e

not_true : (a : Bool) → not a ≡ true → a ≡ true → ⊥
not_true true n e = true≢false (sym n)
not_true false n e = true≢false (sym e)

-- ---- SDUs of RLC

length_none : (xs : List ℕ) → length xs ≡ 0 → xs ≡ []
length_none [] e = refl
length_none (x ∷ xs) e = absurd (omega (arith, e))

bitmap_is : (b : List ℕ) → is_bitmap b ≡ true → IsBitmap b
bitmap_is b e =
    elim (or_parts (length b == 0) (not (slice_index b (length b - 1) == 0)) e) as (λ w. IsBitmap b) [
      | inl h ↦ inl (length_none b (eqb-true (length b) 0 h))
      | inr h ↦ inr (λ (z : slice_index b (length b - 1) ≡ 0). not_true (slice_index b (length b - 1) == 0) h
          (eq-eqb (slice_index b (length b - 1)) 0 z))
    ]

not_zero : (n : ℕ) → (n ≢ 0) → not (n == 0) ≡ true
not_zero n h = by (n == 0) (λ e. h (eqb-true n 0 e))
  where
    by : (b : Bool) → (b ≡ true → ⊥) → not b ≡ true
    by true f = absurd (f refl)
    by false f = refl

bitmap_back : (b : List ℕ) → IsBitmap b → is_bitmap b ≡ true
bitmap_back b (inl e) = or_first (length b == 0) _ (eq-eqb (length b) 0 (ap (length {A = ℕ}) e))
bitmap_back b (inr h) =
    or_second (length b == 0) (not (slice_index b (length b - 1) == 0)) (not_zero (slice_index b (length b - 1)) h)

user_is : (reports : Bool) (bits : ℕ) (octets : List ℕ) (r : Result UserPdu PdcpRefusal) → user_at bits octets ≡ r
    → is_user_by reports bits octets r ≡ true → IsData bits octets ⊎ ((reports ≡ true) × IsReport bits octets)
user_is reports bits octets (Ok (DataPdu sn text)) h e = inl (record {
  sn = sn;
  data-part = text;
  canonical = octets_are (user_spelling bits (DataPdu sn text)) octets e;
  read = h;
})
user_is reports bits octets (Ok (Report fms bitmap)) h e =
    let p = and_parts (reports && is_bitmap bitmap) (bytes_eq (user_spelling bits (Report fms bitmap)) octets) e in
    let q = and_parts reports (is_bitmap bitmap) p.0 in
    inr (
      q.0,
      record {
        fms = fms;
        bitmap = bitmap;
        ends = bitmap_is bitmap q.1;
        canonical = octets_are (user_spelling bits (Report fms bitmap)) octets p.1;
        read = h;
      },
    )
user_is reports bits octets (Err fault) h e = no e

data_back : (reports : Bool) (bits : ℕ) (octets : List ℕ) → IsData bits octets → is_user reports bits octets ≡ true
data_back reports bits octets h =
    ap (is_user_by reports bits octets) h.read
    ∙ octets_same (user_spelling bits (DataPdu h.sn h.data-part)) octets h.canonical

report_back : (bits : ℕ) (octets : List ℕ) → IsReport bits octets → is_user true bits octets ≡ true
report_back bits octets h =
    ap (is_user_by true bits octets) h.read
    ∙ and_from (is_bitmap h.bitmap) (bytes_eq (user_spelling bits (Report h.fms h.bitmap)) octets)
    (bitmap_back h.bitmap h.ends) (octets_same (user_spelling bits (Report h.fms h.bitmap)) octets h.canonical)

signalling_is : (octets : List ℕ) (r : Result SrbPdu PdcpRefusal) → srb_at octets ≡ r
    → is_signalling_by octets r ≡ true → IsSignalling octets
signalling_is octets (Ok pdu) h e =
    record { pdu = pdu; canonical = octets_are (srb_spelling pdu) octets e; read = h }
signalling_is octets (Err fault) h e = no e

signalling_back : (octets : List ℕ) → IsSignalling octets → is_signalling octets ≡ true
signalling_back octets h =
    ap (is_signalling_by octets) h.read ∙ octets_same (srb_spelling h.pdu) octets h.canonical

pdcp_is : (kind : PdcpKind) (octets : List ℕ) → is_pdcp kind octets ≡ true → IsPdcp kind octets
pdcp_is pdcp.Srb octets e = signalling_is octets (srb_at octets) refl e
pdcp_is (pdcp.Um bits) octets e =
    elim (user_is false bits octets (user_at bits octets) refl e) as (λ w. IsData bits octets)
    [ inl h ↦ h | inr h ↦ no h.0 ]
pdcp_is (pdcp.Am bits) octets e =
    elim (user_is true bits octets (user_at bits octets) refl e) as (λ w. IsData bits octets ⊎ IsReport bits octets)
    [ inl h ↦ inl h | inr h ↦ inr h.1 ]

pdcp_back : (kind : PdcpKind) (octets : List ℕ) → IsPdcp kind octets → is_pdcp kind octets ≡ true
pdcp_back pdcp.Srb octets h = signalling_back octets h
pdcp_back (pdcp.Um bits) octets h = data_back false bits octets h
pdcp_back (pdcp.Am bits) octets (inl h) = data_back true bits octets h
pdcp_back (pdcp.Am bits) octets (inr h) = report_back bits octets h

all_pdcp : (kind : PdcpKind) (xs : List (List ℕ)) → are_pdcp kind xs ≡ true → AllByRecursion (IsPdcp kind) xs
all_pdcp kind [] e = tt
all_pdcp kind (x ∷ xs) e =
    let p = and_parts (is_pdcp kind x) (are_pdcp kind xs) e in (pdcp_is kind x p.0, all_pdcp kind xs p.1)

pdcp_all : (kind : PdcpKind) (xs : List (List ℕ)) → AllByRecursion (IsPdcp kind) xs → are_pdcp kind xs ≡ true
pdcp_all kind [] h = refl
pdcp_all kind (x ∷ xs) h =
    and_from (is_pdcp kind x) (are_pdcp kind xs) (pdcp_back kind x h.0) (pdcp_all kind xs h.1)

-- ---- PDUs of RLC

umd_is : (kind : PdcpKind) (bits sn : ℕ) (octets : List ℕ) (r : Result UmdPdu RlcRefusal) → umd_at bits octets ≡ r
    → is_umd_by kind bits sn octets r ≡ true → IsUmd kind bits sn octets
umd_is kind bits sn octets (Ok pdu) h e =
    let wholes = whole_sdus pdu.fi pdu.elements in
    let p = and_parts ((pdu.sn == sn) && nat_lt pdu.fi 4) (is_umd_written kind bits octets pdu) e in
    let s = and_parts (pdu.sn == sn) (nat_lt pdu.fi 4) p.0 in
    let w = and_parts (bytes_eq (umd_canonical bits pdu) octets) (are_pdcp kind wholes) p.1 in
    record {
      pdu = pdu;
      number = eqb-true pdu.sn sn s.0;
      framing = ltb-true pdu.fi 4 s.1;
      sdus = all_pdcp kind wholes w.1;
      canonical = octets_are (umd_canonical bits pdu) octets w.0;
      read = h;
    }
umd_is kind bits sn octets (Err fault) h e = no e

umd_back : (kind : PdcpKind) (bits sn : ℕ) (octets : List ℕ) → IsUmd kind bits sn octets
    → is_umd kind bits sn octets ≡ true
umd_back kind bits sn octets h =
    let pdu = h.pdu in
    let wholes = whole_sdus pdu.fi pdu.elements in
    ap (is_umd_by kind bits sn octets) h.read
    ∙ and_from ((pdu.sn == sn) && nat_lt pdu.fi 4) (is_umd_written kind bits octets pdu)
    (and_from (pdu.sn == sn) (nat_lt pdu.fi 4) (eq-eqb pdu.sn sn h.number) (lt-ltb pdu.fi 4 h.framing))
    (and_from (bytes_eq (umd_canonical bits pdu) octets) (are_pdcp kind wholes)
    (octets_same (umd_canonical bits pdu) octets h.canonical) (pdcp_all kind wholes h.sdus))

may_be_whole : (again : Bool) (s : Option Segment) → (again || is_none s) ≡ true → again ≡ false → s ≡ None
may_be_whole again None e f = refl
may_be_whole true (Some s) e f = absurd (true≢false f)
may_be_whole false (Some s) e f = no e

whole_may_be : (again : Bool) (s : Option Segment) → (again ≡ false → s ≡ None) → (again || is_none s) ≡ true
whole_may_be true s h = refl
whole_may_be false s h = ap is_none (h refl)

amd_is : (kind : PdcpKind) (again : Bool) (sn : ℕ) (octets : List ℕ) (r : Result AcknowledgedPdu RlcRefusal)
    → am_at octets ≡ r → is_amd_by kind again sn octets r ≡ true → IsAmd kind again sn octets
amd_is kind again sn octets (Ok (Payload pdu)) h e =
    let wholes = whole_sdus pdu.fi pdu.elements in
    let first = (pdu.sn == sn) && (again || is_none pdu.segment) in
    let p = and_parts (first && nat_lt pdu.fi 4) (is_amd_written kind octets pdu) e in
    let q = and_parts first (nat_lt pdu.fi 4) p.0 in
    let s = and_parts (pdu.sn == sn) (again || is_none pdu.segment) q.0 in
    let w = and_parts (bytes_eq (amd_canonical pdu) octets) (are_pdcp kind wholes) p.1 in
    record {
      pdu = pdu;
      number = eqb-true pdu.sn sn s.0;
      whole = may_be_whole again pdu.segment s.1;
      framing = ltb-true pdu.fi 4 q.1;
      sdus = all_pdcp kind wholes w.1;
      canonical = octets_are (amd_canonical pdu) octets w.0;
      read = h;
    }
amd_is kind again sn octets (Ok (Status pdu)) h e = no e
amd_is kind again sn octets (Err fault) h e = no e

amd_back : (kind : PdcpKind) (again : Bool) (sn : ℕ) (octets : List ℕ) → IsAmd kind again sn octets
    → is_amd kind again sn octets ≡ true
amd_back kind again sn octets h =
    let pdu = h.pdu in
    let wholes = whole_sdus pdu.fi pdu.elements in
    let first = (pdu.sn == sn) && (again || is_none pdu.segment) in
    ap (is_amd_by kind again sn octets) h.read
    ∙ and_from (first && nat_lt pdu.fi 4) (is_amd_written kind octets pdu)
    (and_from first (nat_lt pdu.fi 4)
    (and_from (pdu.sn == sn) (again || is_none pdu.segment) (eq-eqb pdu.sn sn h.number)
    (whole_may_be again pdu.segment h.whole)) (lt-ltb pdu.fi 4 h.framing))
    (and_from (bytes_eq (amd_canonical pdu) octets) (are_pdcp kind wholes)
    (octets_same (amd_canonical pdu) octets h.canonical) (pdcp_all kind wholes h.sdus))

abbrev status_read : ℕ → List Nack → Result AcknowledgedPdu RlcRefusal
status_read ack nacks = Ok (Status (record { ack = ack; nacks = nacks }))

control_is : (ack : ℕ) (octets : List ℕ) (r : Result AcknowledgedPdu RlcRefusal) → am_at octets ≡ r
    → is_control_by ack octets r ≡ true → IsStatus ack octets
control_is ack octets (Ok (Payload pdu)) h e = no e
control_is ack octets (Ok (Status pdu)) h e =
    let same = pointwise same_bit (status_written pdu.ack pdu.nacks) (bits_of octets) in
    let p = and_parts (pdu.ack == ack) same e in
    let acks : pdu.ack ≡ ack = eqb-true pdu.ack ack p.0 in
    let bits : status_written pdu.ack pdu.nacks ≡ bits_of octets =
    (bits_are (status_written pdu.ack pdu.nacks) (bits_of octets)).0 p.1 in
    record {
      nacks = pdu.nacks;
      canonical = sym bits ∙ ap (λ (n : ℕ). status_written n pdu.nacks) acks;
      read = h ∙ ap (λ (n : ℕ). status_read n pdu.nacks) acks;
    }
control_is ack octets (Err fault) h e = no e

control_back : (ack : ℕ) (octets : List ℕ) → IsStatus ack octets → is_status ack octets ≡ true
control_back ack octets h =
    ap (is_control_by ack octets) h.read
    ∙ and_from (ack == ack) (pointwise same_bit (status_written ack h.nacks) (bits_of octets)) (eq-eqb ack ack refl)
    ((bits_are (status_written ack h.nacks) (bits_of octets)).1 (sym h.canonical))

-- ---- a PDU as it is named

pub named_is : (layout : Option Layout) (how : How) (sn : ℕ) (octets : List ℕ) → is_named layout how sn octets ≡ true
    → IsNamed (known_mode layout) how sn octets
named_is None how sn octets e = no e
named_is (Some layouts.Tm) hows.Tm sn octets e =
    let p = and_parts (sn == 0) (nat_lt 0 (length octets)) e in
    (eqb-true sn 0 p.0, ltb-true 0 (length octets) p.1)
named_is (Some layouts.Tm) hows.New sn octets e = no e
named_is (Some layouts.Tm) hows.Re sn octets e = no e
named_is (Some layouts.Tm) hows.Status sn octets e = no e
named_is (Some (layouts.Um bits kind)) hows.Tm sn octets e = no e
named_is (Some (layouts.Um bits kind)) hows.New sn octets e = umd_is kind bits sn octets (umd_at bits octets) refl e
named_is (Some (layouts.Um bits kind)) hows.Re sn octets e = no e
named_is (Some (layouts.Um bits kind)) hows.Status sn octets e = no e
named_is (Some (layouts.Am kind)) hows.Tm sn octets e = no e
named_is (Some (layouts.Am kind)) hows.New sn octets e = amd_is kind false sn octets (am_at octets) refl e
named_is (Some (layouts.Am kind)) hows.Re sn octets e = amd_is kind true sn octets (am_at octets) refl e
named_is (Some (layouts.Am kind)) hows.Status sn octets e = control_is sn octets (am_at octets) refl e

pub named_back : (layout : Option Layout) (how : How) (sn : ℕ) (octets : List ℕ)
    → IsNamed (known_mode layout) how sn octets → is_named layout how sn octets ≡ true
named_back None how sn octets h = absurd h
named_back (Some layouts.Tm) hows.Tm sn octets h =
    and_from (sn == 0) (nat_lt 0 (length octets)) (eq-eqb sn 0 h.0) (lt-ltb 0 (length octets) h.1)
named_back (Some layouts.Tm) hows.New sn octets h = absurd h
named_back (Some layouts.Tm) hows.Re sn octets h = absurd h
named_back (Some layouts.Tm) hows.Status sn octets h = absurd h
named_back (Some (layouts.Um bits kind)) hows.Tm sn octets h = absurd h
named_back (Some (layouts.Um bits kind)) hows.New sn octets h = umd_back kind bits sn octets h
named_back (Some (layouts.Um bits kind)) hows.Re sn octets h = absurd h
named_back (Some (layouts.Um bits kind)) hows.Status sn octets h = absurd h
named_back (Some (layouts.Am kind)) hows.Tm sn octets h = absurd h
named_back (Some (layouts.Am kind)) hows.New sn octets h = amd_back kind false sn octets h
named_back (Some (layouts.Am kind)) hows.Re sn octets h = amd_back kind true sn octets h
named_back (Some (layouts.Am kind)) hows.Status sn octets h = control_back sn octets h

pub all_named : (kinds : List (Option Layout)) (sent : List SentPdu) (sdus : List Sdu)
    → are_named kinds sent sdus ≡ true → AreNamed (mode_of kinds) sent sdus
all_named kinds [] [] e = tt
all_named kinds [] (d ∷ sdus) e = no e
all_named kinds (s ∷ sent) [] e = no e
all_named kinds (s ∷ sent) (d ∷ sdus) e =
    let layout = slice_index_or kinds s.lcid None in
    let p = and_parts (is_next kinds (Some s) d.lcid d.octets) (are_named kinds sent sdus) e in
    let q = and_parts (d.lcid == s.lcid) (is_named layout s.how s.sn d.octets) p.0 in (
      eqb-true d.lcid s.lcid q.0,
      named_is layout s.how s.sn d.octets q.1,
      all_named kinds sent sdus p.1,
    )

pub named_all : (kinds : List (Option Layout)) (sent : List SentPdu) (sdus : List Sdu)
    → AreNamed (mode_of kinds) sent sdus → are_named kinds sent sdus ≡ true
named_all kinds [] [] h = refl
named_all kinds [] (d ∷ sdus) h = absurd h
named_all kinds (s ∷ sent) [] h = absurd h
named_all kinds (s ∷ sent) (d ∷ sdus) h =
    let layout = slice_index_or kinds s.lcid None in
    and_from (is_next kinds (Some s) d.lcid d.octets) (are_named kinds sent sdus)
    (and_from (d.lcid == s.lcid) (is_named layout s.how s.sn d.octets) (eq-eqb d.lcid s.lcid h.0)
    (named_back layout s.how s.sn d.octets h.1)) (named_all kinds sent sdus h.2)

-- ---- each has an octet

umd_header_some : (b : Bool) (x y z : ℕ) (body : List ℕ) → 0 < length ((if b then x ∷ [] else y ∷ z ∷ []) ++ body)
umd_header_some true x y z body = omega arith
umd_header_some false x y z body = omega arith

am_some : (octets : List ℕ) (pdu : AcknowledgedPdu) → am_at octets ≡ Ok pdu → 0 < length octets
am_some [] pdu e = absurd (err_ok e)
  where
    err_ok : {fault : RlcRefusal} {p : AcknowledgedPdu} → Err fault ≡ Ok p → ⊥
    err_ok e = cc
am_some (x ∷ octets) pdu e = omega arith

pub some_octets : (layout : Option Layout) (how : How) (sn : ℕ) (octets : List ℕ)
    → IsNamed (known_mode layout) how sn octets → 0 < length octets
some_octets None how sn octets h = absurd h
some_octets (Some layouts.Tm) hows.Tm sn octets h = h.1
some_octets (Some layouts.Tm) hows.New sn octets h = absurd h
some_octets (Some layouts.Tm) hows.Re sn octets h = absurd h
some_octets (Some layouts.Tm) hows.Status sn octets h = absurd h
some_octets (Some (layouts.Um bits kind)) hows.Tm sn octets h = absurd h
some_octets (Some (layouts.Um bits kind)) hows.New sn octets h =
    subst (λ (l : List ℕ). 0 < length l) (sym h.canonical) (umd_header_some (bits == 5) _ _ _ _)
some_octets (Some (layouts.Um bits kind)) hows.Re sn octets h = absurd h
some_octets (Some (layouts.Um bits kind)) hows.Status sn octets h = absurd h
some_octets (Some (layouts.Am kind)) hows.Tm sn octets h = absurd h
some_octets (Some (layouts.Am kind)) hows.New sn octets h = am_some octets (Payload h.pdu) h.read
some_octets (Some (layouts.Am kind)) hows.Re sn octets h = am_some octets (Payload h.pdu) h.read
some_octets (Some (layouts.Am kind)) hows.Status sn octets h =
    am_some octets (Status (record { ack = sn; nacks = h.nacks })) h.read
