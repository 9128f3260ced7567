-- As a block comes the parcels of its PDUs add to the histories what it brings.
use Rattle.std.proofs.Common.{◌≡◌, ◌≤◌, ℕ, zero, suc, ◌-◌, ◌==◌, if◌then◌else◌, Bool, true, false, List, [], ◌∷◌, ◌++◌}
use Rattle.std.proofs.Common.{map, length, Some, None, Result, Ok, Err, slice_get}
use Rattle.std.proofs.Common.{slice_index_or, append-nil, refl, ap, sym, subst, ◌∙◌, arith}
use Rattle.std.specs.Prelude.{option_to_list}
use Rattle.std.specs.List.{AllByRecursion}
use Rattle.std.proofs.lemmas.Bool.Decides.{nat_tests}
use Rattle.bearer.specs.Acknowledged.State.{State}
use Rattle.bearer.specs.declared.flow.Flow.TheVariants.{Am}
use Rattle.bearer_types.specs.Sides.{heard_by, sent_by, other}
use Rattle.l2_types.specs.declared.config.AmTxConfig.{AmTxConfig}
use Rattle.l2_types.specs.declared.AmRxConfig.{AmRxConfig}
use Rattle.l2_types.specs.declared.side.Side.{Side}
use Rattle.l2_types.specs.declared.side.Side.TheVariants.{Nb, Ue}
use Rattle.rlc_pdu.specs.declared.fault.RlcRefusal.{RlcRefusal}
use Rattle.rlc_pdu.specs.Pdus.{AcknowledgedPdu, AmdPdu, Payload, Status as Control}
use Rattle.rlc_pdu.specs.Reading.{am_at}
use Rattle.rlc_am_rx_window.specs.Piece.{octets_in, so_of}
use Rattle.rlc_am_tx_window.specs.Window.{next}
use Rattle.rlc_am_tx.specs.Machine.{State as Sender}
use Rattle.journal_account.specs.FlowEvents.{FlowEvent, OctetsArrived, StatusHeard, size_in, field_sizes, next_of}
use Rattle.journal_lives.specs.LifeEvents.{LifeEvent, InLife, running}
use Rattle.journal_flows.specs.declared.parcels.Parcel.{Parcel}
use Rattle.journal_flows.specs.declared.parcels.Parcel.TheVariants.{Octets, Pieces, Report}
use Rattle.journal_flows.specs.FlowsTold.{Histories, histories, is_at}
use Rattle.journal_flows.specs.Gathering.{all_told, all_come}
use Rattle.journal_flows.specs.NumberedPdus.{Told, told, told_in, come_as}
use Rattle.journal_flows.specs.Possible.{with_event}
use Rattle.law_bearer.specs.AnyBearer.Calls.{after_all}
use Rattle.law_rlc.specs.AmPair.Flow.{Copy, Report as SentReport, Flow, sender}
use Rattle.law_rlc.specs.AmSender.Octets.{Place}
use Rattle.law_rlc.proofs.AmPair.Laws.{sound}
use Rattle.law_rlc.proofs.AmPair.Sending.{sent-number}
use Rattle.law_rlc.proofs.AmPair.Sound.{IsTrueCopy, IsSound}
use Rattle.law_deliver.specs.AmFlow.Air.{Block, Station, goes, outset}
use Rattle.law_deliver.specs.AmFlow.Carrying.{CarriedPdu, Numbered, Reported, pdu_octets, IsIn, IsUnderWayAs}
use Rattle.law_deliver.specs.AmFlow.Carrying.{CarriesAs, AllCarryAs}
use Rattle.law_deliver.specs.AmFlow.Links.{IsFlowOn}
use Rattle.law_deliver.specs.AmFlow.Pair.{BearerEnd}
use Rattle.law_deliver.specs.AmFlow.Reordering.{reordering_in}
use Rattle.law_deliver.specs.AmFlow.UnderWay.{flow_on}
use Rattle.law_deliver.specs.AmFlow.Ups.{tells_over}
use Rattle.law_deliver.proofs.AmFlow.Air.{both_match}
use Rattle.law_deliver.proofs.AmFlow.Links.{same_bearer}
use Rattle.law_deliver.proofs.AmFlow.Loads.{all_at}
use Rattle.law_deliver.proofs.AmFlow.Stations.{Matches}
use Rattle.law_account.specs.EndsTold.{AreEndsOf}
use Rattle.law_account.specs.LateStatus.{entries_of}
use Rattle.law_account.proofs.LateStatus.{heard_late}
use Rattle.law_sound.specs.AirHearing.{HasOneOn}
use Rattle.law_sound.specs.CarriedLaws.{with_read, with_all_data, with_all_statuses, parcels_on, parcels_of}
use Rattle.law_sound.specs.CarriedLaws.{IsPossibleAt}
use Rattle.law_sound.specs.CarriedLaws.{AreGatheredAs, ParcelsBring, IsReportedTo, BringsPdus, BlocksBring}
use Rattle.law_sound.specs.CarriedLaws.{CarriedPdusCome}
use Rattle.law_sound.specs.HearingLaws.{IsNoData, octets_of, Brings, NoData, OneData, HasOneData, with_reordering}
use Rattle.law_sound.specs.HearingLaws.{arrivals}
use Rattle.law_sound.specs.NumberLaws.{data_parcel}
use Rattle.law_sound.proofs.AirBlocks.{blocks_bring_one}
use Rattle.law_sound.proofs.AirHearing.{arrives}
use Rattle.law_sound.proofs.Brought.{IsRead, copy_read, report_read}
use Rattle.law_sound.proofs.Gathering.{other_stays}
use Rattle.law_sound.proofs.HeardBlocks.{blocks_are_heard}
use Rattle.law_sound.proofs.Loading.{not_at}
use Rattle.law_sound.proofs.LogPdus.{reads_stretch}
use Rattle.law_sound.proofs.Telling.{told_own}

-- ---- one parcel

-- what comes isn't written
pub as_long : (e : FlowEvent) (es : List FlowEvent) → size_in e ≡ [] → next_of (e ∷ es) ≡ next_of es
as_long e es q =
    ap (λ (ns : List ℕ). length (field_sizes es ++ ns)) q
    ∙ ap (λ (ns : List ℕ). length ns) (append-nil (field_sizes es))

-- what is told of a flow says nothing of the one back
pub back_stays : (side : Side) (l : ℕ) (e : FlowEvent) (h : Histories)
    → (all_told histories (told_in side l e) h).acked (other side) l ≡ h.acked (other side) l
back_stays Nb l e h = refl
back_stays Ue l e h = refl

module _ (from : Side) (l : ℕ) (ps : List CarriedPdu) where
  abbrev Are : Histories → Type 0
  Are h = AllByRecursion (IsPossibleAt (next_of (running (h.acked from l)))
      (next_of (running (h.acked (other from) l)))) ps

  -- the histories are as long behind it
  are_still : (h x : Histories) (own back : List LifeEvent) → x.acked from l ≡ own → x.acked (other from) l ≡ back
      → next_of (running own) ≡ next_of (running (h.acked from l))
      → next_of (running back) ≡ next_of (running (h.acked (other from) l)) → Are h → Are x
  are_still h x own back p q m n are =
      subst (λ (k : ℕ). AllByRecursion (IsPossibleAt k (next_of (running (x.acked (other from) l)))) ps)
      (sym (ap (λ (es : List LifeEvent). next_of (running es)) p ∙ m))
      (subst (λ (k : ℕ). AllByRecursion (IsPossibleAt (next_of (running (h.acked from l))) k) ps)
      (sym (ap (λ (es : List LifeEvent). next_of (running es)) q ∙ n)) are)

  module _ (more : (h : Histories) → Are h → AreGatheredAs from l ps (parcels_of l ps) h) where
    status_brings : (r : SentReport) (h : Histories) → r.ack ≤ next_of (running (h.acked (other from) l)) → Are h
        → AreGatheredAs from l (Reported r ∷ ps) (parcels_of l (Reported r ∷ ps)) h
    status_brings r h known are =
        let e = StatusHeard r.ack (entries_of r) in
        let x = all_told histories (told_in (other from) l e) h in
        let stays = other_stays from l e h in
        let adds = told_own (other from) l (InLife e) h (grind (arith, nat_tests, known)) in
        let rest = more x (are_still h x _ _ stays adds refl (as_long e (running (h.acked (other from) l)) refl) are) in
        record {
          own = rest.own ∙ ap (λ (es : List LifeEvent). with_all_data ps (running es)) stays;
          back = rest.back ∙ ap (λ (es : List LifeEvent). with_all_statuses ps (running es)) adds;
        }

    -- as its octets are read
    abbrev behind_read : Copy → Histories → Result AcknowledgedPdu RlcRefusal → Histories
    behind_read c h r = all_come histories from (option_to_list (data_parcel l c.number r) ++ parcels_of l ps) h

    abbrev ReadSo : Copy → Histories → Result AcknowledgedPdu RlcRefusal → Type 0
    ReadSo c h r =
        (running ((behind_read c h r).acked from l) ≡ with_all_data ps (with_read c r (running (h.acked from l))))
        × (running ((behind_read c h r).acked (other from) l)
        ≡ with_all_statuses ps (running (h.acked (other from) l)))

    read_brings : (c : Copy) (h : Histories) (r : Result AcknowledgedPdu RlcRefusal) → am_at c.octets ≡ r
        → IsPossibleAt (next_of (running (h.acked from l))) (next_of (running (h.acked (other from) l))) (Numbered c)
        → Are h → ReadSo c h r
    read_brings c h (Ok (Payload pdu)) read some are =
        let e = octets_of c pdu in
        let x = all_told histories (told_in from l e) h in
        let k = some pdu read in
        let known = k.0 in
        let size = k.1 in
        let most = k.2 in
        let stays = back_stays from l e h in
        let adds = told_own from l (InLife e) h (grind (arith, nat_tests, known, size, most)) in
        let rest = more x (are_still h x _ _ adds stays (as_long e (running (h.acked from l)) refl) refl are) in (
          rest.own ∙ ap (λ (es : List LifeEvent). with_all_data ps (running es)) adds,
          rest.back ∙ ap (λ (es : List LifeEvent). with_all_statuses ps (running es)) stays,
        )
    read_brings c h (Ok (Control pdu)) read some are = let rest = more h are in (rest.own, rest.back)
    read_brings c h (Err refused) read some are = let rest = more h are in (rest.own, rest.back)

own_bring : (from : Side) (l : ℕ) (pdus : List CarriedPdu) (h : Histories) → Are from l pdus h
    → AreGatheredAs from l pdus (parcels_of l pdus) h
own_bring from l [] h are = record { own = refl; back = refl }
own_bring from l (Numbered c ∷ ps) h are =
    let both = read_brings from l ps (λ x q. own_bring from l ps x q) c h (am_at c.octets) refl are.0 are.1 in
    record { own = both.0; back = both.1 }
own_bring from l (Reported r ∷ ps) h are =
    status_brings from l ps (λ x q. own_bring from l ps x q) r h are.0 are.1

-- ---- among those of other channels

-- alike on the channel
abbrev AreAlike : Side → ℕ → Histories → Histories → Type 0
AreAlike from l h k = (h.acked from l ≡ k.acked from l) × (h.acked (other from) l ≡ k.acked (other from) l)

module _ (from : Side) (l : ℕ) (side : Side) (lcid : ℕ) (e : LifeEvent) (h k : Histories)
    (alike : AreAlike from l h k) where
  both_alike : AreAlike from l (all_told histories (told side lcid e) h) (all_told histories (told side lcid e) k)
  both_alike = (
    ap (λ (es : List LifeEvent). if is_at side lcid from l then with_event e es else es) alike.0,
    ap (λ (es : List LifeEvent). if is_at side lcid (other from) l then with_event e es else es) alike.1,
  )

  else_alike : (lcid == l) ≡ false → AreAlike from l (all_told histories (told side lcid e) h) k
  else_alike apart = (
    ap (λ (b : Bool). if b then with_event e (h.acked from l) else h.acked from l) (not_at from side l lcid apart)
        ∙ alike.0,
    ap (λ (b : Bool). if b then with_event e (h.acked (other from) l) else h.acked (other from) l)
        (not_at (other from) side l lcid apart) ∙ alike.1,
  )

abbrev Alike : Side → ℕ → List Parcel → Type 0
Alike from l ps = (h k : Histories) → AreAlike from l h k
    → AreAlike from l (all_come histories from ps h) (all_come histories from (parcels_on l ps) k)

-- one more that tells an event
one_alike : (from : Side) (l : ℕ) (ps : List Parcel) (side : Side) (lcid : ℕ) (e : FlowEvent) (p : Parcel)
    → come_as from p ≡ told_in side lcid e → Alike from l ps → (b : Bool) → (lcid == l) ≡ b → (h k : Histories)
    → AreAlike from l h k
    → AreAlike from l (all_come histories from ps (all_told histories (told_in side lcid e) h))
    (all_come histories from ((if b then p ∷ [] else []) ++ parcels_on l ps) k)
one_alike from l ps side lcid e p same more true is h k alike =
    let x = all_told histories (told_in side lcid e) h in
    more x (all_told histories (come_as from p) k)
    (subst (λ (ts : List Told). AreAlike from l x (all_told histories ts k)) (sym same)
    (both_alike from l side lcid (InLife e) h k alike))
one_alike from l ps side lcid e p same more false is h k alike =
    more (all_told histories (told_in side lcid e) h) k (else_alike from l side lcid (InLife e) h k alike is)

all_alike : (from : Side) (l : ℕ) (ps : List Parcel) → Alike from l ps
all_alike from l [] h k alike = alike
all_alike from l (Octets lcid n start end ∷ ps) h k alike =
    one_alike from l ps from lcid (OctetsArrived n start end) (Octets lcid n start end) refl (all_alike from l ps)
    (lcid == l) refl h k alike
all_alike from l (Report lcid ack entries ∷ ps) h k alike =
    one_alike from l ps (other from) lcid (StatusHeard ack entries) (Report lcid ack entries) refl
    (all_alike from l ps) (lcid == l) refl h k alike
all_alike from l (Pieces lcid n size pieces ∷ ps) h k alike =
    all_alike from l ps (all_told histories (come_as from (Pieces lcid n size pieces)) h) k alike

pub parcels_bring : ParcelsBring
parcels_bring from l pdus parcels h same are =
    let alike = all_alike from l parcels h h (refl, refl) in
    let own = own_bring from l pdus h are in
    let on = λ (side : Side). ap (λ (ps : List Parcel). running ((all_come histories from ps h).acked side l)) same in
    record {
      own = ap (λ (es : List LifeEvent). running es) alike.0 ∙ (on from ∙ own.own);
      back = ap (λ (es : List LifeEvent). running es) alike.1 ∙ (on (other from) ∙ own.back);
    }

-- ---- one data PDU at most

pub tail_one : (x : List ℕ) (xs before behind : List (List ℕ)) → x ∷ xs ≡ before ++ behind
    → AllByRecursion IsNoData before → length behind ≤ 1 → HasOneData xs
tail_one x xs [] [] e none one = let no : x ∷ xs ≡ [] = e in absurd cc
tail_one x xs [] (y ∷ ys) e none one =
    let same : x ∷ xs ≡ y ∷ ys = e in
    record { before = []; behind = ys; are = cc; none = tt; one = omega (arith, one) }
tail_one x xs (b ∷ bs) behind e none one =
    let same : x ∷ xs ≡ b ∷ (bs ++ behind) = e in
    record { before = bs; behind = behind; are = cc; none = none.1; one = one }

pub last_alone : (x : List ℕ) (xs before behind : List (List ℕ)) → x ∷ xs ≡ before ++ behind
    → AllByRecursion IsNoData before → length behind ≤ 1 → (IsNoData x → ⊥) → xs ≡ []
last_alone x xs [] [] e none one data' = let no : x ∷ xs ≡ [] = e in absurd cc
last_alone x xs [] (y ∷ []) e none one data' = let same : x ∷ xs ≡ y ∷ [] = e in cc
last_alone x xs [] (y ∷ z ∷ zs) e none one data' = absurd (omega (arith, one))
last_alone x xs (b ∷ bs) behind e none one data' =
    let same : x ∷ xs ≡ b ∷ (bs ++ behind) = e in
    let is : b ≡ x = cc in
    absurd (data' (subst IsNoData is none.0))

more_brings : (f : Flow) (octets : List ℕ) (pdus : List (List ℕ)) (came : List FlowEvent) → IsNoData octets
    → Brings f pdus came → Brings f (octets ∷ pdus) came
more_brings f octets pdus came n (NoData all e) = NoData (n, all) e
more_brings f octets pdus came n (OneData before c k pdu none are at read e) =
    OneData (octets ∷ before) c k pdu (n, none) (ap (λ (l : List (List ℕ)). octets ∷ l) are) at read e

-- ---- what is under way brings its numbers

module _ (f g : Flow) (hf : IsSound f) (hg : IsSound g) (age : ℕ) where
  record BringsAs (pdus : List CarriedPdu) : Type 0 where
    came : List FlowEvent
    brings : Brings f (map pdu_octets pdus) came
    adds : (es : List FlowEvent) → with_all_data pdus es ≡ came ++ es

  last_brings : (c : Copy) (ps : List CarriedPdu) → IsIn f.copies c → IsRead c.octets → map pdu_octets ps ≡ []
      → BringsAs (Numbered c ∷ ps)
  last_brings c [] at r e = record {
    came = octets_of c r.pdu ∷ [];
    brings = OneData [] c at.0 r.pdu tt refl at.1 r.read refl;
    adds = λ es. ap (λ (x : Result AcknowledgedPdu RlcRefusal). with_read c x es) r.read;
  }
  last_brings c (p ∷ ps) at r e = absurd cc

  brings_as : (pdus : List CarriedPdu) → AllByRecursion (IsUnderWayAs f g age) pdus → HasOneData (map pdu_octets pdus)
      → BringsAs pdus
  brings_as [] h one = record { came = []; brings = NoData tt refl; adds = λ es. refl }
  brings_as (Numbered c ∷ ps) h one =
      let r = copy_read f c hf (all_at (IsTrueCopy (sender f).past.sent) f.copies h.0.0 c hf.copies h.0.1) in
      last_brings c ps h.0 r
      (last_alone c.octets (map pdu_octets ps) one.before one.behind one.are one.none one.one
      (λ none. none r.pdu r.read))
  brings_as (Reported r ∷ ps) h one =
      let m = brings_as ps h.1 (tail_one r.octets (map pdu_octets ps) one.before one.behind one.are one.none one.one) in
      record {
        came = m.came;
        brings = more_brings f r.octets (map pdu_octets ps) m.came
            (report_read g (record r { age = age }) h.0.0 hg h.0.1) m.brings;
        adds = m.adds;
      }

  -- a STATUS

  reported : (pdus : List CarriedPdu) → AllByRecursion (IsUnderWayAs f g age) pdus
      → AllByRecursion (IsReportedTo (sender g).state.window) pdus
  reported [] h = tt
  reported (Numbered c ∷ ps) h = (tt, reported ps h.1)
  reported (Reported r ∷ ps) h =
      let q = all_at _ g.reports h.0.0 (record r { age = age }) hg.reports h.0.1 in
      ((q.reads, (heard_late g hg (record r { age = age }) q).numbers), reported ps h.1)

  -- all are possible

  copy_possible : (c : Copy) → IsTrueCopy (sender f).past.sent c → (back : ℕ)
      → IsPossibleAt (next (sender f).state.window) back (Numbered c)
  copy_possible c q back pdu e =
      let ps : List Place = slice_index_or (sender f).past.sent c.number [] in
      let aired = hf.aired c.number q.known in
      let r = reads_stretch c.number q.poll ps q.from q.to aired q.some q.within in
      let same : Ok (Payload pdu) ≡ Ok (Payload r.pdu) = sym e ∙ (ap am_at q.is ∙ r.read) in
      let is : r.pdu ≡ pdu = cc in
      let so : so_of pdu.segment ≡ q.from = ap (λ (x : AmdPdu). so_of x.segment) (sym is) ∙ r.so in
      let size : octets_in pdu.elements ≡ q.to - q.from =
      ap (λ (x : AmdPdu). octets_in x.elements) (sym is) ∙ r.size in
      let known = q.known in
      let number = sent-number f hf in
      let some = q.some in
      let within = q.within in
      let few = aired.few in (
        omega (arith, known, number),
        omega (arith, size, some),
        omega (arith, so, size, some, within, few),
      )

  possible : (pdus : List CarriedPdu) → AllByRecursion (IsUnderWayAs f g age) pdus
      → AllByRecursion (IsPossibleAt (next (sender f).state.window) (next (sender g).state.window)) pdus
  possible [] h = tt
  possible (Numbered c ∷ ps) h = (
    copy_possible c (all_at (IsTrueCopy (sender f).past.sent) f.copies h.0.0 c hf.copies h.0.1)
        (next (sender g).state.window),
    possible ps h.1,
  )
  possible (Reported r ∷ ps) h =
      let q = all_at _ g.reports h.0.0 (record r { age = age }) hg.reports h.0.1 in
      ((heard_late g hg (record r { age = age }) q).numbers.ack_near.known, possible ps h.1)

-- ---- a block comes

pub carried_at : (l : ℕ) (side : Side) (f g : Flow) (bs : List Block) (pdus : List (List CarriedPdu)) (k : ℕ)
    (block : Block) (own : List CarriedPdu) → AllCarryAs l (sent_by side) f g bs pdus → slice_get bs k ≡ Some block
    → slice_get pdus k ≡ Some own → CarriesAs l (sent_by side) f g block own
carried_at l side f g [] pdus k block own h at there = let no : None ≡ Some block = at in absurd cc
carried_at l side f g (b ∷ bs) [] k block own h at there = absurd h
carried_at l side f g (b ∷ bs) (ps ∷ pdus) zero block own h at there =
    let same : Some b ≡ Some block = at in
    let alike : Some ps ≡ Some own = there in
    let is : b ≡ block = cc in
    let are : ps ≡ own = cc in
    subst (λ (x : Block). CarriesAs l (sent_by side) f g x own) is
    (subst (λ (xs : List CarriedPdu). CarriesAs l (sent_by side) f g b xs) are h.0)
carried_at l side f g (b ∷ bs) (ps ∷ pdus) (suc k) block own h at there =
    carried_at l side f g bs pdus k block own h.1 at there

module _ (l : ℕ) (side oside : Side) (sending other_sending : AmTxConfig) (receiving other_receiving : AmRxConfig)
    (from to : Station) (out : IsFlowOn l sending receiving from.end to.end)
    (back : IsFlowOn l other_sending other_receiving to.end from.end) where
  abbrev f : Flow
  f = flow_on l sending receiving from.end to.end out

  abbrev g : Flow
  g = flow_on l other_sending other_receiving to.end from.end back

  hf : IsSound f
  hf = sound sending receiving out.steps out.given

  hg : IsSound g
  hg = sound other_sending other_receiving back.steps back.given

  -- the sender to which it comes
  back_is : (sender g).state ≡ out.to_bearer.tx
  back_is =
      back.sender_is
      ∙ ap (λ (s : State). s.tx) (same_bearer _ back.from_bearer out.to_bearer back.from_is out.to_is)

  one_brings : (n : BearerEnd) → heard_by side ≡ sent_by oside → Matches side l to n → (block : Block)
      (own : List CarriedPdu) → CarriesAs l (sent_by oside) f g block own → HasOneOn l oside block
      → BringsPdus l sending receiving from to out block own
  one_brings n dir m block own h one =
      let b = brings_as f g hf hg block.age own h.under_way (subst HasOneData h.carries one) in
      record {
        data_pdus = λ most es behind ends.
            let there : AreEndsOf most es (sender f).state out.to_bearer.rx =
            subst (λ (x : Sender). AreEndsOf most es x out.to_bearer.rx) (sym out.sender_is) ends in
            let taken = subst
            (λ (ps : List (List ℕ)). after_all (Am out.to_bearer) (arrivals ps) ≡ Am behind.to_bearer) h.carries
            (arrives l side oside sending other_sending receiving other_receiving from to out back n block dir m
            behind) in
            subst (λ (x : Sender). AreEndsOf most
            (with_reordering (reordering_in (tells_over l (Am out.to_bearer) (arrivals (map pdu_octets own))))
            (with_all_data own es)) x behind.to_bearer.rx) out.sender_is
            (subst (λ (xs : List FlowEvent). AreEndsOf most
            (with_reordering (reordering_in (tells_over l (Am out.to_bearer) (arrivals (map pdu_octets own)))) xs)
            (sender f).state behind.to_bearer.rx) (sym (b.adds es))
            (blocks_are_heard sending receiving out.steps out.given most l es b.came out.to_bearer behind.to_bearer
            (map pdu_octets own) b.brings (sym out.receiver_is) taken there));
        statuses = subst (λ (s : Sender). AllByRecursion (IsReportedTo s.window) own) back_is
            (reported f g hf hg block.age own h.under_way);
        possible = subst (λ (s : Sender). AllByRecursion (IsPossibleAt (next s.window) (next out.to_bearer.tx.window))
            own) out.sender_is
            (subst (λ (s : Sender). AllByRecursion (IsPossibleAt (next (sender f).state.window) (next s.window)) own)
            back_is (possible f g hf hg block.age own h.under_way));
      }

  blocks_bring : (n : BearerEnd) (pdus : List (List CarriedPdu)) → heard_by side ≡ sent_by oside → Matches side l to n
      → AllCarryAs l (sent_by oside) f g from.blocks pdus → AllByRecursion (HasOneOn l oside) from.blocks
      → BlocksBring l sending receiving from to out pdus
  blocks_bring n pdus dir m h ones k block own at there =
      one_brings n dir m block own (carried_at l oside f g from.blocks pdus k block own h at there)
      (all_at (HasOneOn l oside) from.blocks k block ones at)

pub carried_pdus_come : CarriedPdusCome
carried_pdus_come l nb ue b d steps x y given h =
    let a = goes steps (outset nb ue) in
    let p = both_match l nb ue b d steps x y given in
    let ones = blocks_bring_one l nb ue b d steps x y given in
    let flows = h.by_air.flows in
    record {
      at_ue = blocks_bring l Ue Nb b.tx_config d.tx_config d.rx_config b.rx_config a.nb a.ue flows.down flows.up _ _
          refl p.ue.matches h.by_nb ones.by_nb;
      at_nb = blocks_bring l Nb Ue d.tx_config b.tx_config b.rx_config d.rx_config a.ue a.nb flows.up flows.down _ _
          refl p.nb.matches h.by_ue ones.by_ue;
    }
