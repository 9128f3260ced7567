-- Of PDUs under way what is read as a data PDU is one of the flow out.
use Rattle.std.proofs.Common.{◌≡◌, ◌≤◌, ℕ, List, [], ◌∷◌, ◌++◌, length, slice_index_or, slice_range, Some, slice_get}
use Rattle.std.proofs.Common.{Ok, refl, ap, sym, subst, ◌∙◌, append-nil, arith}
use Rattle.std.specs.List.{AllByRecursion}
use Rattle.rlc_pdu.specs.Pdus.{AmdPdu, Payload, Status as Control}
use Rattle.rlc_pdu.specs.Reading.{am_at}
use Rattle.law_bearer.proofs.AnyBearer.SenderCalls.{all_then}
use Rattle.law_rlc.specs.AmPair.Flow.{Copy, Report, Flow, sender, goes, am_rlc_outset}
use Rattle.law_rlc.specs.AmPair.Statuses.{reduced}
use Rattle.law_rlc.specs.AmSender.Octets.{Place, segment_of}
use Rattle.law_rlc.proofs.AmPair.Laws.{sound}
use Rattle.law_rlc.proofs.AmPair.Reading.{read_as, stretch-read}
use Rattle.law_rlc.proofs.AmPair.Sound.{IsTrueCopy, IsSound}
use Rattle.law_deliver.specs.AmFlow.UnderWay.{IsUnderWay, AsData, AsStatus}
use Rattle.law_deliver.proofs.AmFlow.Loads.{all_at}
use Rattle.law_sound.specs.HearingLaws.{IsNoData, octets_of, NoData, OneData, HasOneData, HasBrought, UnderWayBrings}

-- a data PDU that is under way is read as one
pub record IsRead (octets : List ℕ) : Type 0 where
  pub pdu : AmdPdu
  pub read : am_at octets ≡ Ok (Payload pdu)

pub copy_read : (f : Flow) (c : Copy) → IsSound f → IsTrueCopy (sender f).past.sent c → IsRead c.octets
copy_read f c h q =
    let ps : List Place = slice_index_or (sender f).past.sent c.number [] in
    record {
      pdu = read_as c.number q.poll (segment_of q.from q.to (length ps)) (slice_range ps q.from q.to);
      read = ap am_at q.is ∙ stretch-read c.number q.poll ps q.from q.to (h.aired c.number q.known) q.some q.within;
    }

pub report_read : (g : Flow) (r : Report) (place : ℕ) → IsSound g → slice_get g.reports place ≡ Some r
    → IsNoData r.octets
report_read g r place h at pdu read =
    let t = all_at _ g.reports place r h.reports at in
    let no : Ok (Control (reduced r)) ≡ Ok (Payload pdu) = sym t.reads ∙ read in
    cc

module _ (f g : Flow) (hf : IsSound f) (hg : IsSound g) (age : ℕ) where
  last_brings : (before : List (List ℕ)) (octets : List ℕ) → AllByRecursion IsNoData before
      → IsUnderWay f g age octets → HasBrought f (before ++ octets ∷ [])
  last_brings before octets none (AsData c k at q) =
      let r = copy_read f c hf (all_at (IsTrueCopy (sender f).past.sent) f.copies k c hf.copies at) in
      record {
        came = octets_of c r.pdu ∷ [];
        brings = OneData before c k r.pdu none (ap (λ (xs : List ℕ). before ++ xs ∷ []) (sym q)) at r.read refl;
      }
  last_brings before octets none (AsStatus r k at q old) = record {
    came = [];
    brings = NoData (all_then IsNoData before (octets ∷ []) none (subst IsNoData q (report_read g r k hg at), tt)) refl;
  }

  rest : (xs ys : List (List ℕ)) → AllByRecursion (IsUnderWay f g age) (xs ++ ys)
      → AllByRecursion (IsUnderWay f g age) ys
  rest [] ys h = h
  rest (x ∷ xs) ys h = rest xs ys h.1

  all_bring : (before behind : List (List ℕ)) → AllByRecursion IsNoData before → length behind ≤ 1
      → AllByRecursion (IsUnderWay f g age) behind → HasBrought f (before ++ behind)
  all_bring before [] none one h = record {
    came = [];
    brings = NoData (subst (AllByRecursion IsNoData) (sym (append-nil before)) none) refl;
  }
  all_bring before (octets ∷ []) none one h = last_brings before octets none h.0
  all_bring before (octets ∷ more ∷ rest') none one h = absurd (omega (arith, one))

  brought : (pdus : List (List ℕ)) → AllByRecursion (IsUnderWay f g age) pdus → HasOneData pdus → HasBrought f pdus
  brought pdus h p =
      subst (HasBrought f) (sym p.are)
      (all_bring p.before p.behind p.none p.one
      (rest p.before p.behind (subst (AllByRecursion (IsUnderWay f g age)) p.are h)))

pub under_way_brings : UnderWayBrings
under_way_brings a c b d out back age pdus g k h p =
    brought (goes out (am_rlc_outset a d)) (goes back (am_rlc_outset c b)) (sound a d out g) (sound c b back k) age pdus
    h p
