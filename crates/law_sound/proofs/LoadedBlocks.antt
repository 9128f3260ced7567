-- The PDUs of a new block are loaded as what it carries.
use Rattle.std.proofs.Common.{◌≡◌, ◌<◌, ◌≤◌, ℕ, ◌+◌, ◌==◌, if◌then◌else◌, Bool, true, false, List, [], ◌∷◌, ◌++◌}
use Rattle.std.proofs.Common.{map}
use Rattle.std.proofs.Common.{Option, Some, None, Result, Ok, Err, append-nil, append_assoc, refl, ap, sym}
use Rattle.std.proofs.Common.{subst}
use Rattle.std.proofs.Common.{◌∙◌, arith}
use Rattle.std.specs.Prelude.{option_to_list, slice_index_or}
use Rattle.std.specs.List.{AllByRecursion}
use Rattle.std.proofs.lemmas.Bool.{eqb-true, eq-eqb}
use Rattle.std.proofs.lemmas.Bool.Decides.{nat_tests}
use Rattle.l2_types.specs.declared.event.How.{How}
use Rattle.l2_types.specs.declared.event.How.TheVariants as hows
use Rattle.l2_types.specs.declared.side.Side.{Side}
use Rattle.mac_pdu.specs.declared.builder.Sdu.{Sdu}
use Rattle.rlc_pdu.specs.declared.fault.RlcRefusal.{RlcRefusal}
use Rattle.rlc_pdu.specs.Pdus.{AcknowledgedPdu, AmdPdu, Payload, Status as Control}
use Rattle.rlc_pdu.specs.Reading.{am_at}
use Rattle.rlc_am_rx_window.specs.Piece.{octets_in, so_of}
use Rattle.pdcp_pdu.specs.declared.pdu.PdcpKind.{PdcpKind}
use Rattle.pdu_show.specs.declared.kinds.Layout.{Layout}
use Rattle.pdu_show.specs.declared.kinds.Layout.TheVariants as layouts
use Rattle.bearer_types.specs.Sides.{other}
use Rattle.promises.specs.SentNumbers.{IsNumber}
use Rattle.journal_account.specs.FlowEvents.{NumberWritten, OctetsResent, next_of}
use Rattle.journal_lives.specs.LifeEvents.{LifeEvent, InLife, running}
use Rattle.journal_flows.specs.declared.parcels.Parcel.{Parcel}
use Rattle.journal_flows.specs.declared.parcels.Parcel.TheVariants.{Octets, Pieces, Report}
use Rattle.journal_flows.specs.declared.sending.Named.{Named}
use Rattle.journal_flows.specs.FlowsTold.{Histories, histories}
use Rattle.journal_flows.specs.Gathering.{Loaded, all_told, parcel_in, parcel_of as parcel_made, loads_parcel, loads}
use Rattle.journal_flows.specs.NumberedPdus.{Told, told_in, front_in, parcel_by, written_as}
use Rattle.journal_flows.specs.Possible.{is_possible, with_event}
use Rattle.law_rlc.specs.AmPair.Flow.{Copy, Report as SentReport}
use Rattle.law_deliver.specs.AmFlow.Carrying.{CarriedPdu, Numbered, Reported, pdu_octets}
use Rattle.law_sound.specs.CarriedLaws.{parcel_on, parcels_on, parcels_of}
use Rattle.law_account.specs.LateStatus.{entries_of}
use Rattle.law_sound.specs.GatherLaws.{IsData, gathered}
use Rattle.law_sound.specs.HearingLaws.{HasOneData}
use Rattle.law_sound.specs.LoadLaws.{NamedPdu, named_on, AreNamedAs, with_written_read, with_all_written}
use Rattle.law_sound.specs.LoadLaws.{IsLoadedWith, NewBlocksAreLoaded}
use Rattle.law_sound.specs.LogLaws.{data_told}
use Rattle.law_sound.specs.NumberLaws.{data_parcel, parcel_of, HasRoom, IsNamedAs, IsGatheredAs, IsGathered}
use Rattle.law_sound.proofs.Brought.{IsRead}
use Rattle.law_sound.proofs.CarriedBlocks.{back_stays, tail_one, last_alone}
use Rattle.law_sound.proofs.Gathering.{data_gathered}
use Rattle.law_sound.proofs.Loading.{IsElse, AreElse, not_at, else_in}
use Rattle.law_sound.proofs.Numbering.{written_last, is_no_next}
use Rattle.law_sound.proofs.Telling.{told_own}

-- ---- one parcel more

on_push : (l : ℕ) (ps : List Parcel) (p : Parcel) → parcels_on l (ps ++ p ∷ []) ≡ parcels_on l ps ++ parcel_on l p
on_push l [] p = append-nil (parcel_on l p)
on_push l (q ∷ ps) p =
    ap (λ (xs : List Parcel). parcel_on l q ++ xs) (on_push l ps p)
    ∙ sym (append_assoc (parcel_on l q) (parcels_on l ps) (parcel_on l p))

-- it is of the channel
octets_at : (l n : ℕ) (r : Result AcknowledgedPdu RlcRefusal) (q : Parcel) → data_parcel l n r ≡ Some q
    → parcel_on l q ≡ q ∷ []
octets_at l n (Ok (Payload pdu)) q e =
    let p = Octets l n (so_of pdu.segment) (so_of pdu.segment + octets_in pdu.elements) in
    let same : Some p ≡ Some q = e in
    let is : p ≡ q = cc in
    subst (λ (x : Parcel). parcel_on l x ≡ x ∷ []) is
    (ap (λ (b : Bool). if b then p ∷ [] else []) (eq-eqb l l refl))
octets_at l n (Ok (Control pdu)) q e = let no : None ≡ Some q = e in absurd cc
octets_at l n (Err refused) q e = let no : None ≡ Some q = e in absurd cc

own_at : (l : ℕ) (p : CarriedPdu) (q : Parcel) → parcel_of l p ≡ Some q → parcel_on l q ≡ q ∷ []
own_at l (Numbered c) q e = octets_at l c.number (am_at c.octets) q e
own_at l (Reported r) q e =
    let p = Report l r.ack (entries_of r) in
    let same : Some p ≡ Some q = e in
    let is : p ≡ q = cc in
    subst (λ (x : Parcel). parcel_on l x ≡ x ∷ []) is
    (ap (λ (b : Bool). if b then p ∷ [] else []) (eq-eqb l l refl))

-- a data PDU that has a parcel is read as one
is_read : (l n : ℕ) (octets : List ℕ) (r : Result AcknowledgedPdu RlcRefusal) (q : Parcel) → am_at octets ≡ r
    → data_parcel l n r ≡ Some q → IsRead octets
is_read l n octets (Ok (Payload pdu)) q read e = record { pdu = pdu; read = read }
is_read l n octets (Ok (Control pdu)) q read e = let no : None ≡ Some q = e in absurd cc
is_read l n octets (Err refused) q read e = let no : None ≡ Some q = e in absurd cc

-- ---- of another channel

-- what it tells is of no flow of this one
else_stays : (at : Side) (l : ℕ) (side : Side) (how : How) (p : Parcel) (h : Histories) → IsElse l p
    → (all_told histories (written_as side how p) h).acked at l ≡ h.acked at l
else_stays at l side hows.New (Octets lcid n start end) h apart =
    ap (λ (b : Bool). if b then with_event (InLife (NumberWritten end)) (h.acked at l) else h.acked at l)
    (not_at at side l lcid apart)
else_stays at l side hows.Re (Octets lcid n start end) h apart =
    ap (λ (b : Bool). if b then with_event (InLife (OctetsResent n start end)) (h.acked at l) else h.acked at l)
    (not_at at side l lcid apart)
else_stays at l side hows.New (Pieces lcid n size pieces) h apart = refl
else_stays at l side hows.Re (Pieces lcid n size pieces) h apart = refl
else_stays at l side hows.New (Report lcid ack entries) h apart = refl
else_stays at l side hows.Re (Report lcid ack entries) h apart = refl
else_stays at l side hows.Tm p h apart = refl
else_stays at l side hows.Status p h apart = refl

else_on : (l : ℕ) (p : Parcel) → IsElse l p → parcel_on l p ≡ []
else_on l (Octets lcid n start end) apart =
    ap (λ (b : Bool). if b then Octets lcid n start end ∷ [] else []) apart
else_on l (Pieces lcid n size pieces) apart = refl
else_on l (Report lcid ack entries) apart = ap (λ (b : Bool). if b then Report lcid ack entries ∷ [] else []) apart

-- on this channel all is as it was
record IsAside (from : Side) (l : ℕ) (b c : Loaded Histories) : Type 0 where
  parcels : parcels_on l c.parcels ≡ parcels_on l b.parcels
  own : c.flows.acked from l ≡ b.flows.acked from l
  back : c.flows.acked (other from) l ≡ b.flows.acked (other from) l

else_aside : (from : Side) (l : ℕ) (how : How) (o : Option Parcel) (b : Loaded Histories) → AreElse l o
    → IsAside from l b (loads_parcel histories from how o b)
else_aside from l how None b apart = record { parcels = refl; own = refl; back = refl }
else_aside from l how (Some p) b apart = record {
  parcels = on_push l b.parcels p
      ∙ (ap (λ (xs : List Parcel). parcels_on l b.parcels ++ xs) (else_on l p apart)
      ∙ append-nil (parcels_on l b.parcels));
  own = else_stays from l from how p b.flows apart;
  back = else_stays (other from) l from how p b.flows apart;
}

-- ---- of the channel

module _ (from : Side) (l : ℕ) (b : Loaded Histories) where
  abbrev Own : ℕ
  Own = next_of (running (b.flows.acked from l))

  abbrev Back : ℕ
  Back = front_in (running (b.flows.acked (other from) l))

  -- behind one parcel more the rest
  joined : (p : CarriedPdu) (q : Parcel) (c : Loaded Histories) (ps : List CarriedPdu) → parcel_of l p ≡ Some q
      → parcels_on l c.parcels ≡ parcels_on l (b.parcels ++ q ∷ []) ++ parcels_of l ps
      → parcels_on l c.parcels ≡ parcels_on l b.parcels ++ parcels_of l (p ∷ ps)
  joined p q c ps is rest =
      rest
      ∙ (ap (λ (xs : List Parcel). xs ++ parcels_of l ps)
      (on_push l b.parcels q ∙ ap (λ (xs : List Parcel). parcels_on l b.parcels ++ xs) (own_at l p q is))
      ∙ (append_assoc (parcels_on l b.parcels) (q ∷ []) (parcels_of l ps)
      ∙ ap (λ (o : Option Parcel). parcels_on l b.parcels ++ (option_to_list o ++ parcels_of l ps)) (sym is)))

  -- a STATUS tells nothing of flows as it is written
  status_loaded : (r : SentReport) (q : Parcel) (ps : List CarriedPdu) (c : Loaded Histories)
      → parcel_of l (Reported r) ≡ Some q
      → IsLoadedWith from l (loads_parcel histories from hows.Status (Some q) b) c ps
      → IsLoadedWith from l b c (Reported r ∷ ps)
  status_loaded r q ps c is rest =
      record { parcels = joined (Reported r) q c ps is rest.parcels; own = rest.own; back = rest.back }

  -- a data PDU is the last one of the channel
  data_possible : (how : How) (pdu : AmdPdu) → IsData how → IsNumber how Own pdu.sn → 0 < octets_in pdu.elements
      → so_of pdu.segment + octets_in pdu.elements ≤ 32767
      → is_possible Own (InLife (data_told Own pdu)) ≡ true
  data_possible hows.New pdu d n some most = grind (arith, nat_tests, n, some, most)
  data_possible hows.Re pdu d n some most =
      let no = is_no_next Own pdu.sn n in
      let is = written_last Own pdu.sn n in
      let below = n.below in
      grind (arith, nat_tests, no, is, below, some, most)
  data_possible hows.Status pdu d n some most = absurd d
  data_possible hows.Tm pdu d n some most = absurd d

  data_loaded : (how : How) (x : Copy) (pdu : AmdPdu) (q : Parcel) (c : Loaded Histories) → IsData how
      → IsNumber how Own pdu.sn → am_at x.octets ≡ Ok (Payload pdu) → HasRoom (Numbered x)
      → parcel_of l (Numbered x) ≡ Some q → parcel_by Own Back l how (Ok (Payload pdu)) ≡ Some q
      → IsLoadedWith from l (loads_parcel histories from how (Some q) b) c []
      → IsLoadedWith from l b c (Numbered x ∷ [])
  data_loaded how x pdu q c d n read room is made rest =
      let room' = room pdu read in
      let e = data_told Own pdu in
      let tells : written_as from how q ≡ told_in from l e =
      ap (gathered from how) (sym made) ∙ data_gathered from Own Back l how pdu d n in
      let adds = told_own from l (InLife e) b.flows (data_possible how pdu d n room'.0 room'.1) in
      record {
        parcels = joined (Numbered x) q c [] is rest.parcels;
        own = rest.own
            ∙ (ap (λ (ts : List Told). running ((all_told histories ts b.flows).acked from l)) tells
            ∙ (ap (λ (es : List LifeEvent). running es) adds
            ∙ ap (λ (r : Result AcknowledgedPdu RlcRefusal). with_written_read Own r (running (b.flows.acked from l)))
            (sym read)));
        back = rest.back
            ∙ (ap (λ (ts : List Told). (all_told histories ts b.flows).acked (other from) l) tells
            ∙ back_stays from l e b.flows);
      }

-- ---- PDU by PDU

-- whatever VT(S) is
pub none_named : (next other' : ℕ) (xs : List NamedPdu) → AreNamedAs next xs [] → AreNamedAs other' xs []
none_named next other' [] h = tt
none_named next other' (x ∷ xs) h = absurd h

module _ (kinds : List (Option Layout)) (kind : PdcpKind) (from : Side) (l : ℕ)
    (here : slice_index_or kinds l None ≡ Some (layouts.Am kind)) (sent : List Named) (sdus : List Sdu) where
  abbrev Loads : Type 0
  Loads = (b : Loaded Histories) (pdus : List CarriedPdu) → AreNamedAs (Own from l b) (named_on l sent sdus) pdus
      → AllByRecursion (IsGathered (Own from l b) (Back from l b) l) pdus → AllByRecursion HasRoom pdus
      → HasOneData (map pdu_octets pdus) → IsLoadedWith from l b (loads histories kinds from sent sdus b) pdus

  -- the rest is of other channels
  none_left : Loads → (c : Loaded Histories) (next : ℕ) → AreNamedAs next (named_on l sent sdus) []
      → IsLoadedWith from l c (loads histories kinds from sent sdus c) []
  none_left more c next named =
      more c [] (none_named next (Own from l c) (named_on l sent sdus) named) tt tt
      (record { before = []; behind = []; are = refl; none = tt; one = omega arith })

  -- one that is made of another channel
  aside_loads : Loads → (b c : Loaded Histories) (pdus : List CarriedPdu) → IsAside from l b c
      → AreNamedAs (Own from l b) (named_on l sent sdus) pdus
      → AllByRecursion (IsGathered (Own from l b) (Back from l b) l) pdus → AllByRecursion HasRoom pdus
      → HasOneData (map pdu_octets pdus) → IsLoadedWith from l b (loads histories kinds from sent sdus c) pdus
  aside_loads more b c pdus a named gathers room one =
      let own = ap (λ (es : List LifeEvent). next_of (running es)) (sym a.own) in
      let back = ap (λ (es : List LifeEvent). front_in (running es)) (sym a.back) in
      let rest = more c pdus
      (subst (λ (n : ℕ). AreNamedAs n (named_on l sent sdus) pdus) own named)
      (subst (λ (n : ℕ). AllByRecursion (IsGathered n (Back from l c) l) pdus) own
      (subst (λ (n : ℕ). AllByRecursion (IsGathered (Own from l b) n l) pdus) back gathers)) room one in
      record {
        parcels = rest.parcels ∙ ap (λ (ps : List Parcel). ps ++ parcels_of l pdus) a.parcels;
        own = rest.own
            ∙ ap (λ (es : List LifeEvent). with_all_written (next_of (running es)) pdus (running es)) a.own;
        back = rest.back ∙ a.back;
      }

  -- as one of the channel is made
  abbrev LoadsOn : How → Loaded Histories → Option Parcel → List CarriedPdu → Type 0
  LoadsOn how b o pdus =
      IsLoadedWith from l b (loads histories kinds from sent sdus (loads_parcel histories from how o b)) pdus

  data_loads : Loads → (how : How) (b : Loaded Histories) (x : Copy) (ps : List CarriedPdu) (g : IsRead x.octets)
      → IsNamedAs how (Own from l b) (Numbered x) → AreNamedAs (Own from l b) (named_on l sent sdus) ps
      → HasRoom (Numbered x) → map pdu_octets ps ≡ []
      → (m : IsGatheredAs (Own from l b) (Back from l b) l how (Numbered x))
      → LoadsOn how b (Some m.parcel) (Numbered x ∷ ps)
  data_loads more how b x [] g named rest room last m =
      let c = loads_parcel histories from how (Some m.parcel) b in
      data_loaded from l b how x g.pdu m.parcel (loads histories kinds from sent sdus c) named.0
      (named.1 g.pdu g.read) g.read room m.own
      (ap (parcel_by (Own from l b) (Back from l b) l how) (sym g.read) ∙ m.gathered)
      (none_left more c (Own from l b) rest)
  data_loads more how b x (p ∷ ps) g named rest room last m = absurd cc

  own_loads : Loads → (how : How) (b : Loaded Histories) (p : CarriedPdu) (ps : List CarriedPdu)
      → IsNamedAs how (Own from l b) p → AreNamedAs (Own from l b) (named_on l sent sdus) ps
      → AllByRecursion (IsGathered (Own from l b) (Back from l b) l) ps → AllByRecursion HasRoom (p ∷ ps)
      → HasOneData (map pdu_octets (p ∷ ps)) → (m : IsGatheredAs (Own from l b) (Back from l b) l how p)
      → LoadsOn how b (Some m.parcel) (p ∷ ps)
  own_loads more how b (Numbered x) ps named rest gathers room one m =
      let g = is_read l x.number x.octets (am_at x.octets) m.parcel refl m.own in
      data_loads more how b x ps g named rest room.0
      (last_alone x.octets (map pdu_octets ps) one.before one.behind one.are one.none one.one
      (λ none. none g.pdu g.read)) m
  own_loads more how b (Reported r) ps named rest gathers room one m =
      subst (λ (y : How). LoadsOn y b (Some m.parcel) (Reported r ∷ ps)) (sym named)
      (status_loaded from l b r m.parcel ps
      (loads histories kinds from sent sdus (loads_parcel histories from hows.Status (Some m.parcel) b)) m.own
      (more (loads_parcel histories from hows.Status (Some m.parcel) b) ps rest gathers room.1
      (tail_one r.octets (map pdu_octets ps) one.before one.behind one.are one.none one.one)))

  -- one of them, of this channel or not
  one_loads : Loads → (s : Named) (d : Sdu) (t : Bool) → (s.lcid == l) ≡ t → (b : Loaded Histories)
      (pdus : List CarriedPdu)
      → AreNamedAs (Own from l b) ((if t then record { how = s.how; octets = d.octets } ∷ [] else [])
      ++ named_on l sent sdus) pdus
      → AllByRecursion (IsGathered (Own from l b) (Back from l b) l) pdus → AllByRecursion HasRoom pdus
      → HasOneData (map pdu_octets pdus)
      → IsLoadedWith from l b (loads histories kinds from (s ∷ sent) (d ∷ sdus) b) pdus
  one_loads more s d false is b pdus named gathers room one =
      let o = parcel_made histories kinds b.flows from s d.octets in
      aside_loads more b (loads_parcel histories from s.how o b) pdus
      (else_aside from l s.how o b (else_in l (slice_index_or kinds s.lcid None) b.flows from s d.octets is)) named
      gathers room one
  one_loads more s d true is b [] named gathers room one = absurd named
  one_loads more s d true is b (p ∷ ps) named gathers room one =
      let same : l ≡ s.lcid = sym (eqb-true s.lcid l is) in
      subst (λ (n : ℕ). IsLoadedWith from l b (loads histories kinds from sent sdus (loads_parcel histories from s.how
      (parcel_in histories (slice_index_or kinds n None) b.flows from (record { lcid = n; how = s.how }) d.octets) b))
      (p ∷ ps)) same
      (subst (λ (k : Option Layout). IsLoadedWith from l b (loads histories kinds from sent sdus
      (loads_parcel histories from s.how
      (parcel_in histories k b.flows from (record { lcid = l; how = s.how }) d.octets) b)) (p ∷ ps)) (sym here)
      (let m = gathers.0 s.how named.1 in
      subst (λ (o : Option Parcel). LoadsOn s.how b o (p ∷ ps))
      (sym (ap (λ (x : List ℕ). parcel_by (Own from l b) (Back from l b) l s.how (am_at x)) named.0 ∙ m.gathered))
      (own_loads more s.how b p ps named.1 named.2 gathers.1 room one m)))

none_loaded : (from : Side) (l : ℕ) (b : Loaded Histories) (pdus : List CarriedPdu) (next : ℕ) → AreNamedAs next [] pdus
    → IsLoadedWith from l b b pdus
none_loaded from l b [] next named =
    record { parcels = sym (append-nil (parcels_on l b.parcels)); own = refl; back = refl }
none_loaded from l b (p ∷ ps) next named = absurd named

pub new_blocks_are_loaded : NewBlocksAreLoaded
new_blocks_are_loaded kinds kind from l [] sdus b pdus here named gathers room one =
    none_loaded from l b pdus (Own from l b) named
new_blocks_are_loaded kinds kind from l (s ∷ sent) [] b pdus here named gathers room one =
    none_loaded from l b pdus (Own from l b) named
new_blocks_are_loaded kinds kind from l (s ∷ sent) (d ∷ sdus) b pdus here named gathers room one =
    one_loads kinds kind from l here sent sdus
    (λ c qs x y z w. new_blocks_are_loaded kinds kind from l sent sdus c qs here x y z w) s d (s.lcid == l) refl b pdus
    named gathers room one
