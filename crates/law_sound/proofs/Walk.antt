-- Record by record, what blocks tell of a flow and what is gathered of it stay the same, where each
-- block that comes is the one that its process holds.
use Rattle.std.proofs.Common.{◌≡◌, ◌<◌, ◌≤◌, ℕ, ◌+◌, ◌==◌, Bool, true, List, [], ◌++◌, length, map, Option}
use Rattle.std.proofs.Common.{Some, None, Result, Ok, refl, ap, sym, ◌∙◌, inl, inr, arith, subst}
use Rattle.std.proofs.Common.{if◌then◌else◌, slice_index_or}
use Rattle.std.specs.Prelude.{MatchOption, unwrap_or, slice_set}
use Rattle.std.proofs.lemmas.Bool.{cases_eq, eq-eqb, ne_eqb}
use Rattle.std.proofs.lemmas.List.{length-append, length-set, get_or-set_same, get_or-set_other}
use Rattle.l2_types.specs.declared.side.Side.{Side}
use Rattle.mac_pdu.specs.declared.builder.Sdu.{Sdu}
use Rattle.mac_pdu.specs.declared.fault.MacRefusal.{MacRefusal}
use Rattle.mac_pdu.specs.Items.{MacItem}
use Rattle.mac_pdu.specs.Reading.{reading}
use Rattle.rlc_pdu.specs.declared.constants.TheConstants.{AM_WINDOW_SIZE}
use Rattle.rlc_pdu.specs.Pdus.{AmdPdu}
use Rattle.pdcp_pdu.specs.declared.pdu.PdcpKind.TheVariants as pdcp
use Rattle.bearer_types.specs.Sides.{sent_by}
use Rattle.pdu_show.specs.declared.kinds.Layout.{Layout}
use Rattle.pdu_show.specs.declared.kinds.Layout.TheVariants as layouts
use Rattle.law_words.specs.Arrivals.{Account, account}
use Rattle.promises.specs.Given.{entries_written, entries_come}
use Rattle.promises.specs.Names.{SentPdu}
use Rattle.promises.specs.Pdus.{carried, pdus_read}
use Rattle.promises.specs.RightForm.{sdus_in}
use Rattle.journal_form.specs.Tests.{carries}
use Rattle.journal_form.proofs.NewBlocks.{carries_is}
use Rattle.journal_flows.specs.declared.parcels.Parcel.{Parcel}
use Rattle.journal_flows.specs.declared.sending.Named.{Named}
use Rattle.journal_flows.specs.FlowsTold.{Histories, histories}
use Rattle.journal_flows.specs.Gathering.{Sending, Loaded, loads, sdus_read, holds, resends, all_come, sent_last}
use Rattle.promises.specs.OwnPdus.{AreOwn}
use Rattle.law_sound.proofs.Pending.{Pending, with_new_block}
use Rattle.promises.specs.SentNumbers.{AreNumbers}
use Rattle.law_sound.proofs.Agreeing.{Agrees}
use Rattle.law_sound.proofs.Flying.{Flying, with_new, with_again, with_other}
use Rattle.law_sound.proofs.Numbering.{behind_all, behind_is, news}
use Rattle.law_sound.proofs.Telling.{flow}
use Rattle.law_sound.specs.LoadLaws.{name_of}
use Rattle.law_sound.proofs.Loading.{pdus_of, data_of, spans, AreSpans, AreNear, near_more, IsBehind}
use Rattle.law_sound.proofs.Blocks.{pdus_are, block_loads, block_lands, come_is, come_fields}

-- ---- what stands behind some records

abbrev pub data_in : Side → ℕ → List ℕ → List AmdPdu
data_in from l octets = data_of (carried l (sent_by from) octets)

abbrev IsHeld : ℕ → List ℕ → ℕ → List AmdPdu → Option (List Parcel) → Type 0
IsHeld l fields age pdus None = ⊥
IsHeld l fields age pdus (Some ps) = AreSpans pdus (spans l ps) × AreNear fields age (spans l ps)

-- what flies of a side, and how many new PDUs were told of since
pub record Course : Type 0 where
  pub air : Flying
  pub pending : Pending

pub record IsLast (sent : List ℕ) (process' : ℕ) (x : Course) (p : ℕ) : Type 0 where
  pub below : p < 8
  pub process : process' ≡ p
  pub own : x.pending.process ≡ p
  pub octets : x.air.blocks p ≡ Some sent

-- the account and the last block that was sent; what is gathered of flows and of the side, and the
-- PDUs that the side names
pub record Stands (from : Side) (l : ℕ) (a : Account) (sent : List ℕ) (f : Histories) (s : Sending)
    (named : List SentPdu) (x : Course) : Type 0 where
  pub agrees : Agrees a (flow from l f)
  pub named_is : s.named ≡ map name_of named
  pub new_are : x.pending.named ≡ news l named
  pub size : length s.held ≡ 8
  pub held : (p : ℕ) (octets : List ℕ) → p < 8 → x.air.blocks p ≡ Some octets
      → IsHeld l a.rlc.fields (x.pending.since p) (data_in from l octets) (slice_index_or s.held p None)
  pub last : MatchOption x.air.last (Unit {0}) (IsLast sent s.process x)

-- as blocks go out
abbrev pub new_course : ℕ → List ℕ → Course → Course
new_course p octets x = record { air = with_new p octets x.air; pending = with_new_block p x.pending }

abbrev pub again_course : ℕ → Course → Course
again_course p x = record { air = with_again p x.air; pending = record x.pending { process = p } }

abbrev pub other_course : Course → Course
other_course x = record { air = with_other x.air; pending = x.pending }

-- ---- a new block of the side

abbrev none_loaded : Histories → Loaded Histories
none_loaded f = record { flows = f; parcels = [] }

abbrev pub new_loaded : List (Option Layout) → Side → Sending → List ℕ → Histories → Loaded Histories
new_loaded ks from s octets f =
    loads histories ks from s.named (sdus_read (reading (sent_by from) octets)) (none_loaded f)

read_items : (l : ℕ) (r : Result (List MacItem) MacRefusal) (items : List MacItem) → r ≡ Ok items
    → pdus_of l (sdus_in items) ≡ pdus_read l r
read_items l r items e = sym (ap (pdus_read l) e ∙ pdus_are l items)

-- what is loaded, by what the block carries
new_is : (from : Side) (l bits : ℕ) (ks : List (Option Layout)) (octets : List ℕ) (a : Account) (f : Histories)
    (s : Sending) (named : List SentPdu) → slice_index_or ks l None ≡ Some (layouts.Am (pdcp.Am bits))
    → Agrees a (flow from l f) → s.named ≡ map name_of named → carries (sent_by from) ks named octets ≡ true
    → AreNumbers l (length a.rlc.fields) named → AreOwn a (entries_written (carried l (sent_by from) octets))
    → IsBehind from l (behind_all l named (length a.rlc.fields)) 0 a
    (account (entries_written (carried l (sent_by from) octets)) a) (data_in from l octets)
    (new_loaded ks from s octets f)
new_is from l bits ks octets a f s named layout h names carrying numbers own =
    let c = carries_is (sent_by from) ks named octets carrying in
    let sdus : sdus_in c.items ≡ sdus_read (reading (sent_by from) octets) =
    sym (ap sdus_read c.read) in
    let pdus = read_items l (reading (sent_by from) octets) c.items c.read in
    subst (λ (ns : List Named). IsBehind from l (behind_all l named (length a.rlc.fields)) 0 a
    (account (entries_written (carried l (sent_by from) octets)) a) (data_in from l octets)
    (loads histories ks from ns (sdus_read (reading (sent_by from) octets)) (none_loaded f))) (sym names)
    (subst (λ (ds : List Sdu). IsBehind from l (behind_all l named (length a.rlc.fields)) 0 a
    (account (entries_written (carried l (sent_by from) octets)) a) (data_in from l octets)
    (loads histories ks from (map name_of named) ds (none_loaded f))) sdus
    (subst (λ (ps : List (List ℕ)). AreOwn a (entries_written ps)
    → IsBehind from l (behind_all l named (length a.rlc.fields)) 0 a
    (account (entries_written ps) a) (data_of ps)
    (loads histories ks from (map name_of named) (sdus_in c.items) (none_loaded f))) pdus
    (λ mine. block_loads from l 0 ks (pdcp.Am bits) named (sdus_in c.items) a [] (none_loaded f) layout c.named numbers
    mine (record { agrees = h; held = tt; near = tt })) own))

held_grown : (l age : ℕ) (fields more : List ℕ) (pdus : List AmdPdu) (o : Option (List Parcel))
    → IsHeld l fields age pdus o → IsHeld l (fields ++ more) (age + length more) pdus o
held_grown l age fields more pdus None h = absurd h
held_grown l age fields more pdus (Some ps) h = (h.0, near_more fields more age (spans l ps) h.1)

held_new : (from : Side) (l p : ℕ) (octets before fields more : List ℕ) (ps : List Parcel) (s : Sending) (x : Course)
    → fields ≡ before ++ more → length more ≡ x.pending.named → length s.held ≡ 8 → p < 8
    → AreSpans (data_in from l octets) (spans l ps) → AreNear fields x.pending.named (spans l ps)
    → ((q : ℕ) (own : List ℕ) → q < 8 → x.air.blocks q ≡ Some own
    → IsHeld l before (x.pending.since q) (data_in from l own) (slice_index_or s.held q None))
    → (q : ℕ) (own : List ℕ) → q < 8 → (with_new p octets x.air).blocks q ≡ Some own
    → IsHeld l fields ((with_new_block p x.pending).since q) (data_in from l own)
    (slice_index_or (slice_set s.held p (Some ps)) q None)
held_new from l p octets before fields more ps s x are long size low is near held q own lt = elim (cases_eq q p) as
    (λ w. (if q == p then Some octets else x.air.blocks q) ≡ Some own
    → IsHeld l fields (if q == p then x.pending.named else x.pending.since q + x.pending.named) (data_in from l own)
    (slice_index_or (slice_set s.held p (Some ps)) q None)) [
      | inl here ↦ same here
      | inr apart ↦ differs apart
    ]
  where
    there : (o : Option (List Parcel)) → o ≡ Some ps → (own : List ℕ) → octets ≡ own
        → IsHeld l fields x.pending.named (data_in from l own) o
    there None e own f = absurd cc
    there (Some qs) e own f =
        let parcels : qs ≡ ps = cc in
        subst (λ (os : List ℕ). IsHeld l fields x.pending.named (data_in from l os) (Some qs)) f
        (subst (λ (rs : List Parcel). IsHeld l fields x.pending.named (data_in from l octets) (Some rs)) (sym parcels)
        (is, near))

    same : q ≡ p → (if q == p then Some octets else x.air.blocks q) ≡ Some own
        → IsHeld l fields (if q == p then x.pending.named else x.pending.since q + x.pending.named)
        (data_in from l own) (slice_index_or (slice_set s.held p (Some ps)) q None)
    same here e =
        let known : Some octets ≡ Some own =
        sym (ap (λ (b : Bool). if b then Some octets else x.air.blocks q) (eq-eqb q p here)) ∙ e in
        let octets_are : octets ≡ own = cc in
        subst (λ (b : Bool). IsHeld l fields (if b then x.pending.named else x.pending.since q + x.pending.named)
        (data_in from l own) (slice_index_or (slice_set s.held p (Some ps)) q None)) (sym (eq-eqb q p here))
        (there (slice_index_or (slice_set s.held p (Some ps)) q None)
        (ap (λ (k : ℕ). slice_index_or (slice_set s.held p (Some ps)) k None) here
        ∙ get_or-set_same s.held p (Some ps) None (omega (arith, size, low))) own octets_are)

    differs : (q ≡ p → ⊥) → (if q == p then Some octets else x.air.blocks q) ≡ Some own
        → IsHeld l fields (if q == p then x.pending.named else x.pending.since q + x.pending.named)
        (data_in from l own) (slice_index_or (slice_set s.held p (Some ps)) q None)
    differs apart e =
        let old = held q own lt
        (sym (ap (λ (b : Bool). if b then Some octets else x.air.blocks q) (ne_eqb q p apart)) ∙ e) in
        let grown = held_grown l (x.pending.since q) before more (data_in from l own) (slice_index_or s.held q None)
        old in
        subst (λ (b : Bool). IsHeld l fields (if b then x.pending.named else x.pending.since q + x.pending.named)
        (data_in from l own) (slice_index_or (slice_set s.held p (Some ps)) q None)) (sym (ne_eqb q p apart))
        (subst (λ (o : Option (List Parcel)). IsHeld l fields (x.pending.since q + x.pending.named)
        (data_in from l own) o) (sym (get_or-set_other s.held p q (Some ps) None apart))
        (subst (λ (n : ℕ). IsHeld l fields (x.pending.since q + n) (data_in from l own)
        (slice_index_or s.held q None)) long
        (subst (λ (fs : List ℕ). IsHeld l fs (x.pending.since q + length more) (data_in from l own)
        (slice_index_or s.held q None)) (sym are) grown)))

new_last : (p : ℕ) (octets : List ℕ) (x : Flying) → (with_new p octets x).blocks p ≡ Some octets
new_last p octets x = ap (λ (b : Bool). if b then Some octets else x.blocks p) (eq-eqb p p refl)

pub record IsStepped (from : Side) (l next : ℕ) (a : Account) (sent : List ℕ) (f : Histories) (s : Sending)
    (named : List SentPdu) (x : Course) : Type 0 where
  pub stands : Stands from l a sent f s named x
  pub next_is : length a.rlc.fields ≡ next

pub new_stands : (from : Side) (l bits p : ℕ) (ks : List (Option Layout)) (sent octets : List ℕ) (a : Account)
    (f : Histories) (s : Sending) (named : List SentPdu) (x : Course)
    → slice_index_or ks l None ≡ Some (layouts.Am (pdcp.Am bits)) → Stands from l a sent f s named x → p < 8
    → carries (sent_by from) ks named octets ≡ true → AreNumbers l (length a.rlc.fields) named
    → AreOwn a (entries_written (carried l (sent_by from) octets))
    → IsStepped from l (behind_all l named (length a.rlc.fields))
    (account (entries_written (carried l (sent_by from) octets)) a) octets (new_loaded ks from s octets f).flows
    (holds p (new_loaded ks from s octets f).parcels s) [] (new_course p octets x)
new_stands from l bits p ks sent octets a f s named x layout h low carrying numbers own =
    let b = new_is from l bits ks octets a f s named layout h.agrees h.named_is carrying numbers own in
    let ps : List Parcel = (new_loaded ks from s octets f).parcels in
    let c : Account = account (entries_written (carried l (sent_by from) octets)) a in
    let long = length-append a.rlc.fields b.more in
    let fields = ap (length {A = ℕ}) b.fields_are in
    let next = b.next_is in
    let all = behind_is l named (length a.rlc.fields) in
    let many : length b.more ≡ x.pending.named = omega (arith, long, fields, next, all, h.new_are) in
    let age : 0 + length b.more ≡ x.pending.named = omega (arith, many) in
    record {
      stands = record {
        agrees = b.loaded.agrees;
        named_is = refl;
        new_are = refl;
        size = length-set s.held p (Some (new_loaded ks from s octets f).parcels) ∙ h.size;
        held = held_new from l p octets a.rlc.fields c.rlc.fields b.more ps s x b.fields_are many h.size low
            b.loaded.held (subst (λ (n : ℕ). AreNear
            (account (entries_written (carried l (sent_by from) octets)) a).rlc.fields n
            (spans l (new_loaded ks from s octets f).parcels)) age b.loaded.near) h.held;
        last = record { below = low; process = refl; own = refl; octets = new_last p octets x.air };
      };
      next_is = b.next_is;
    }

-- ---- one that is sent again

pub again_stands : (from : Side) (l p : ℕ) (sent octets : List ℕ) (a : Account) (f : Histories) (s : Sending)
    (named : List SentPdu) (x : Course) → Stands from l a sent f s named x → p < 8 → x.air.blocks p ≡ Some octets
    → Stands from l a octets f (resends p s) named (again_course p x)
again_stands from l p sent octets a f s named x h low is = record {
  agrees = h.agrees;
  named_is = h.named_is;
  new_are = h.new_are;
  size = h.size;
  held = h.held;
  last = record { below = low; process = refl; own = refl; octets = is };
}

-- ---- one that is got

got_held : (from : Side) (l age : ℕ) (sent : List ℕ) (a : Account) (f : Histories) (o : Option (List Parcel))
    → IsHeld l a.rlc.fields age (data_in from l sent) o → age ≤ AM_WINDOW_SIZE → Agrees a (flow from l f)
    → Agrees (account (entries_come (carried l (sent_by from) sent)) a)
    (flow from l (all_come histories from (unwrap_or o []) f))
got_held from l age sent a f None held soon h = absurd held
got_held from l age sent a f (Some ps) held soon h =
    subst (λ (b : Account). Agrees b (flow from l (all_come histories from ps f)))
    (sym (come_is (carried l (sent_by from) sent) a))
    (block_lands from l age (data_in from l sent) ps a f held.0 held.1 soon h)

-- with as many numbers as before
abbrev HeldBy : Side → ℕ → List ℕ → Sending → Course → Type 0
HeldBy from l fields s x =
    (p : ℕ) (octets : List ℕ) → p < 8 → x.air.blocks p ≡ Some octets
    → IsHeld l fields (x.pending.since p) (data_in from l octets) (slice_index_or s.held p None)

held_still : (from : Side) (l : ℕ) (fields others : List ℕ) (s : Sending) (x : Course) → others ≡ fields
    → HeldBy from l fields s x → HeldBy from l others s x
held_still from l fields others s x same h = subst (λ (fs : List ℕ). HeldBy from l fs s x) (sym same) h

pub got_stands : (from : Side) (l p : ℕ) (sent : List ℕ) (a : Account) (f : Histories) (s : Sending)
    (named : List SentPdu) (x : Course) → Stands from l a sent f s named x → x.air.last ≡ Some p
    → x.pending.since x.pending.process ≤ AM_WINDOW_SIZE
    → IsStepped from l (length a.rlc.fields) (account (entries_come (carried l (sent_by from) sent)) a) sent
    (all_come histories from (sent_last s) f) s named x
got_stands from l p sent a f s named x h last soon =
    let is : IsLast sent s.process x p =
    subst (λ (o : Option ℕ). MatchOption o (Unit {0}) (IsLast sent s.process x)) last h.last in
    let held : IsHeld l a.rlc.fields (x.pending.since p) (data_in from l sent) (slice_index_or s.held s.process None) =
    subst (λ (q : ℕ). IsHeld l a.rlc.fields (x.pending.since p) (data_in from l sent) (slice_index_or s.held q None))
    (sym is.process) (h.held p sent is.below is.octets) in
    let same : (account (entries_come (carried l (sent_by from) sent)) a).rlc.fields ≡ a.rlc.fields =
    ap (λ (b : Account). b.rlc.fields) (come_is (carried l (sent_by from) sent) a)
    ∙ come_fields (data_in from l sent) a in
    record {
      stands = record {
        agrees = got_held from l (x.pending.since p) sent a f (slice_index_or s.held s.process None) held
            (subst (λ (q : ℕ). x.pending.since q ≤ AM_WINDOW_SIZE) is.own soon) h.agrees;
        named_is = h.named_is;
        new_are = h.new_are;
        size = h.size;
        held = held_still from l a.rlc.fields
            (account (entries_come (carried l (sent_by from) sent)) a).rlc.fields s x same h.held;
        last = h.last;
      };
      next_is = ap (length {A = ℕ}) same;
    }

-- ---- what changes nothing of the side

pub flow_stands : (from : Side) (l : ℕ) (sent : List ℕ) (a b : Account) (f g : Histories) (s : Sending)
    (named : List SentPdu) (x : Course) → Agrees b (flow from l g) → b.rlc.fields ≡ a.rlc.fields
    → Stands from l a sent f s named x → Stands from l b sent g s named x
flow_stands from l sent a b f g s named x agrees same h = record {
  agrees = agrees;
  named_is = h.named_is;
  new_are = h.new_are;
  size = h.size;
  held = held_still from l a.rlc.fields b.rlc.fields s x same h.held;
  last = h.last;
}

-- another block is the last
pub other_stands : (from : Side) (l : ℕ) (sent octets : List ℕ) (a : Account) (f g : Histories) (s : Sending)
    (named : List SentPdu) (x : Course) → Agrees a (flow from l g) → Stands from l a sent f s named x
    → Stands from l a octets g s named (other_course x)
other_stands from l sent octets a f g s named x agrees h = record {
  agrees = agrees;
  named_is = h.named_is;
  new_are = h.new_are;
  size = h.size;
  held = h.held;
  last = tt;
}
