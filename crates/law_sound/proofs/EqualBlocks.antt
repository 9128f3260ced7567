-- Equal octets under way have the same numbers.
use Rattle.std.proofs.Common.{◌≡◌, ◌<◌, ◌≤◌, ℕ, ◌+◌, ◌%◌, List, [], ◌∷◌, ◌++◌, map, length, Some, Ok}
use Rattle.std.proofs.Common.{Option, slice_index_or, refl, ap, sym, subst, ◌∙◌, arith}
use Rattle.std.specs.Prelude.{option_to_list}
use Rattle.std.specs.List.{AllByRecursion}
use Rattle.bearer_types.specs.Sides.{sent_by}
use Rattle.l2_types.specs.declared.side.Side.{Side}
use Rattle.l2_types.specs.declared.side.Side.TheVariants.{Nb, Ue}
use Rattle.promises.specs.Pdus.{carried}
use Rattle.rlc_pdu.specs.Pdus.{AmdPdu, StatusPdu, Payload, Status as Control}
use Rattle.rlc_pdu.specs.Reading.{am_at}
use Rattle.journal_account.specs.declared.entry.StatusEntry.{StatusEntry}
use Rattle.journal_flows.specs.declared.parcels.Parcel.{Parcel}
use Rattle.journal_flows.specs.declared.parcels.Parcel.TheVariants.{Report}
use Rattle.law_rlc.specs.AmPair.Flow.{Copy, Report as SentReport, Flow, sender}
use Rattle.law_rlc.specs.AmPair.Statuses.{reduced}
use Rattle.law_rlc.proofs.AmPair.Laws.{sound}
use Rattle.law_rlc.proofs.AmPair.Sound.{IsTrueCopy, IsSound}
use Rattle.law_deliver.specs.AmFlow.Air.{Block, goes, outset}
use Rattle.law_deliver.specs.AmFlow.Carrying.{CarriedPdu, Numbered, Reported, pdu_octets, IsUnderWayAs, AllCarryAs}
use Rattle.law_deliver.specs.AmFlow.UnderWay.{flow_on}
use Rattle.law_deliver.proofs.AmFlow.Carrying.{numbers_stay}
use Rattle.law_deliver.proofs.AmFlow.Loads.{all_at}
use Rattle.law_account.specs.LateStatus.{entries_of}
use Rattle.law_account.specs.TrueStatus.{HasTrueNumbers}
use Rattle.law_account.proofs.LateStatus.{heard_late}
use Rattle.law_account.proofs.TrueStatus.{one_reading}
use Rattle.law_sound.specs.CarriedLaws.{parcels_of}
use Rattle.law_sound.specs.EqualBlocks.{AreGatheredAlike, EqualBlocksCarryAlike}
use Rattle.law_sound.specs.NumberLaws.{data_parcel, parcel_of}
use Rattle.law_sound.proofs.CarriedBlocks.{carried_at}
use Rattle.law_sound.proofs.LogPdus.{IsStretch, reads_stretch}

-- ---- a PDU

-- numbers with one SN, of which the next one is at most 512 ahead
same_number : (n m next sn : ℕ) → n < next → next ≤ n + 512 → m < next → next ≤ m + 512 → sn ≡ n % 1024
    → sn ≡ m % 1024 → n ≡ m
same_number n m next sn a b c d e f = omega (arith, a, b, c, d, e, f)

module _ (f g : Flow) (hf : IsSound f) (hg : IsSound g) where
  -- a data PDU is read with the SN of its number
  copy_is : (c : Copy) (q : IsTrueCopy (sender f).past.sent c) → IsStretch c.number q.from q.to c.octets
  copy_is c q = subst (IsStretch c.number q.from q.to) (sym q.is)
      (reads_stretch c.number q.poll (slice_index_or (sender f).past.sent c.number []) q.from q.to
      (hf.aired c.number q.known) q.some q.within)

  same_copies : (c d : Copy) → IsTrueCopy (sender f).past.sent c → IsTrueCopy (sender f).past.sent d
      → c.octets ≡ d.octets → c.number ≡ d.number
  same_copies c d q r e =
      let x = copy_is c q in
      let y = copy_is d r in
      let read : Ok (Payload x.pdu) ≡ Ok (Payload y.pdu) = sym x.read ∙ (ap am_at e ∙ y.read) in
      let same : x.pdu ≡ y.pdu = cc in
      same_number c.number d.number (length (sender f).past.sent) x.pdu.sn q.known q.young r.known r.young x.sn
      (ap (λ (p : AmdPdu). p.sn) same ∙ y.sn)

  -- one that is read as a STATUS, with its true numbers
  record IsRead (r : SentReport) : Type 0 where
    read : am_at r.octets ≡ Ok (Control (reduced r))
    numbers : HasTrueNumbers (sender g).state.window (reduced r) r.ack (entries_of r)

  report_is : (age : ℕ) (r : SentReport) → IsUnderWayAs f g age (Reported r) → IsRead r
  report_is age r h =
      let q = all_at _ g.reports h.0 (record r { age = age }) hg.reports h.1 in
      record { read = q.reads; numbers = (heard_late g hg (record r { age = age }) q).numbers }

  same_reports : (l : ℕ) (r s : SentReport) → IsRead r → IsRead s → r.octets ≡ s.octets
      → parcel_of l (Reported r) ≡ parcel_of l (Reported s)
  same_reports l r s x y e =
      let read : Ok (Control (reduced r)) ≡ Ok (Control (reduced s)) = sym x.read ∙ (ap am_at e ∙ y.read) in
      let same : reduced r ≡ reduced s = cc in
      let one = one_reading (sender g).state.window (reduced s) r.ack s.ack (entries_of r) (entries_of s)
      (subst (λ (p : StatusPdu). HasTrueNumbers (sender g).state.window p r.ack (entries_of r)) same x.numbers)
      y.numbers in
      ap (λ (n : ℕ). Some (Report l n (entries_of r))) one.0
      ∙ ap (λ (es : List StatusEntry). Some (Report l s.ack es)) one.1

  -- no PDU is both
  one_kind : (c : Copy) (r : SentReport) → IsTrueCopy (sender f).past.sent c → IsRead r → c.octets ≡ r.octets → ⊥
  one_kind c r q x e =
      let y = copy_is c q in
      let both : Ok (Payload y.pdu) ≡ Ok (Control (reduced r)) = sym y.read ∙ (ap am_at e ∙ x.read) in absurd cc

  true_copy : (age : ℕ) (c : Copy) → IsUnderWayAs f g age (Numbered c) → IsTrueCopy (sender f).past.sent c
  true_copy age c h = all_at (IsTrueCopy (sender f).past.sent) f.copies h.0 c hf.copies h.1

  same_parcel : (l age other : ℕ) (p q : CarriedPdu) → IsUnderWayAs f g age p → IsUnderWayAs f g other q
      → pdu_octets p ≡ pdu_octets q → parcel_of l p ≡ parcel_of l q
  same_parcel l age other (Numbered c) (Numbered d) h k e =
      ap (λ (n : ℕ). data_parcel l n (am_at c.octets)) (same_copies c d (true_copy age c h) (true_copy other d k) e)
      ∙ ap (λ (octets : List ℕ). data_parcel l d.number (am_at octets)) e
  same_parcel l age other (Numbered c) (Reported r) h k e =
      absurd (one_kind c r (true_copy age c h) (report_is other r k) e)
  same_parcel l age other (Reported r) (Numbered c) h k e =
      absurd (one_kind c r (true_copy other c k) (report_is age r h) (sym e))
  same_parcel l age other (Reported r) (Reported s) h k e =
      same_reports l r s (report_is age r h) (report_is other s k) e

  -- ---- PDUs one behind the other

  same_parcels : (l age other : ℕ) (ps qs : List CarriedPdu) → AllByRecursion (IsUnderWayAs f g age) ps
      → AllByRecursion (IsUnderWayAs f g other) qs → map pdu_octets ps ≡ map pdu_octets qs
      → parcels_of l ps ≡ parcels_of l qs
  same_parcels l age other [] [] h k e = refl
  same_parcels l age other [] (q ∷ qs) h k e = absurd cc
  same_parcels l age other (p ∷ ps) [] h k e = absurd cc
  same_parcels l age other (p ∷ ps) (q ∷ qs) h k e =
      let first : pdu_octets p ≡ pdu_octets q = cc in
      let rest : map pdu_octets ps ≡ map pdu_octets qs = cc in
      ap (λ (o : Option Parcel). option_to_list o ++ parcels_of l ps) (same_parcel l age other p q h.0 k.0 first)
      ∙ ap (λ (xs : List Parcel). option_to_list (parcel_of l q) ++ xs) (same_parcels l age other ps qs h.1 k.1 rest)

  -- ---- blocks

  gathered_alike : (l : ℕ) (side : Side) (blocks : List Block) (pdus : List (List CarriedPdu))
      → AllCarryAs l (sent_by side) f g blocks pdus → AreGatheredAlike l blocks pdus
  gathered_alike l side blocks pdus h j k one other own others at there at' there' e =
      let x = carried_at l side f g blocks pdus j one own h at there in
      let y = carried_at l side f g blocks pdus k other others h at' there' in
      same_parcels l one.age other.age own others x.under_way y.under_way
      (sym x.carries ∙ (ap (λ (octets : List ℕ). carried l (sent_by side) octets) e ∙ y.carries))

pub equal_blocks_carry_alike : EqualBlocksCarryAlike
equal_blocks_carry_alike l nb ue b d steps x y given =
    let h = numbers_stay l nb ue b d steps x y given in
    let flows = h.by_air.flows in
    let hf = sound b.tx_config d.rx_config flows.down.steps flows.down.given in
    let hg = sound d.tx_config b.rx_config flows.up.steps flows.up.given in
    let a = goes steps (outset nb ue) in
    record {
      by_nb = gathered_alike (flow_on l b.tx_config d.rx_config a.nb.end a.ue.end flows.down)
          (flow_on l d.tx_config b.rx_config a.ue.end a.nb.end flows.up) hf hg l Nb _ _ h.by_nb;
      by_ue = gathered_alike (flow_on l d.tx_config b.rx_config a.ue.end a.nb.end flows.up)
          (flow_on l b.tx_config d.rx_config a.nb.end a.ue.end flows.down) hg hf l Ue _ _ h.by_ue;
    }
