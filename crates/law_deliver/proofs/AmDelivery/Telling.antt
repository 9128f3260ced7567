-- RLC hands up a status report: it is the one that the other end's receiver made as the life began, and goes to PDCP's
-- sender.
use Rattle.std.proofs.Common.{◌≡◌, ℕ, Bool, true, false, if◌then◌else◌, List, [], ◌∷◌, map, Option, Some, None}
use Rattle.std.proofs.Common.{append-nil, refl, ap, sym, subst, ◌∙◌}
use Rattle.pdcp_pdu.specs.declared.PdcpKind.{PdcpKind}
use Rattle.pdcp_pdu.specs.declared.PdcpKind.TheVariants.{Am as AmKind}
use Rattle.pdcp_tx.specs.declared.sender.Next.{Next}
use Rattle.pdcp_tx.specs.Runs.{Report as ReportComes, after}
use Rattle.pdcp_tx.specs.State.{State as Sending, fms_count, reported, reported_from}
use Rattle.pdcp_rx.specs.declared.got.Cause.TheVariants.{Arrived}
use Rattle.pdcp_rx.specs.declared.got.Got.TheVariants as answers
use Rattle.pdcp_rx.specs.Heard.{Heard, Bad, Told, Data, heard}
use Rattle.pdcp_rx.specs.State.{State as Receiving, got, got_heard}
use Rattle.law_rlc.specs.AmPair.Confirmed.{confirmed}
use Rattle.law_rlc.specs.AmPair.Sdus.{handed_up}
use Rattle.law_pdcp.specs.AmPair.Flow.{Flow as Pdcp, Sends, Comes, run_am_pdcp}
use Rattle.law_pdcp.specs.AmPair.Reading.{IsRead, IsNextRead}
use Rattle.law_pdcp.proofs.AmPair.EachRead.{reads_each}
use Rattle.law_bearer.specs.AmBearer.Deeds.{after_heard}
use Rattle.law_deliver.proofs.AmFlow.Flows.{all_at}
use Rattle.law_deliver.proofs.AmDelivery.Accounts.{sound_pdcp, told_of, tells_passing}
use Rattle.law_deliver.proofs.AmDelivery.Joined.{Way, IsWay, rlc, pdcp, IsReportOf, Reports}
use Rattle.law_deliver.proofs.AmDelivery.Meeting.{Standing, MeetsNow, Extends, rests}
use Rattle.law_deliver.proofs.AmDelivery.HandingUp.{IsNext}

-- ---- what is read as a report is one

got_as : (r : Receiving) (octets : List ℕ) (fms : ℕ) (bitmap : List ℕ) → heard r.kind octets ≡ Told fms bitmap
    → got r octets Arrived ≡ answers.Report fms bitmap
unfolding got
got_as r octets fms bitmap e = ap (got_heard r Arrived) e

never_told : (b : Bool) (fms : ℕ) (bitmap : List ℕ)
    → answers.Report fms bitmap ≡ (if b then answers.Old else answers.Up) → ⊥
never_told true fms bitmap e = cc
never_told false fms bitmap e = cc

-- a PDU with a COUNT isn't
has_no_count : (g : Pdcp) (pdu : Next) (fms : ℕ) (bitmap : List ℕ) (o : Option ℕ) → pdu.count ≡ o
    → IsRead g.handed Arrived g.receiver pdu.octets o → heard g.receiver.kind pdu.octets ≡ Told fms bitmap
    → pdu.count ≡ None
has_no_count g pdu fms bitmap None c read e = c
has_no_count g pdu fms bitmap (Some count) c read e =
    absurd (never_told (g.handed count) fms bitmap (sym (got_as g.receiver pdu.octets fms bitmap e) ∙ read))

-- it is the report of what had come as the life began
report_is : (out inn : Way) (sdu : List ℕ) (fms : ℕ) (bitmap : List ℕ) → IsWay out → IsWay inn → out.bits ≡ inn.bits
    → Reports out inn → IsNext inn sdu
    → heard (pdcp inn).receiver.kind sdu ≡ Told fms bitmap → Comes (pdcp out).report (pdcp out).sender.kind fms bitmap
report_is out inn sdu fms bitmap oh ih same told next e =
    let g : Pdcp = pdcp inn in
    let pdu : Next = next.pdu in
    let read : IsNextRead (Some pdu) g =
    subst (λ (o : Option Next). IsNextRead o g) next.at
    (reads_each inn.bits inn.protection inn.first inn.events ih.kind ih.first ih.events).in_sequence in
    let heard_so : heard g.receiver.kind pdu.octets ≡ Told fms bitmap = ap (heard g.receiver.kind) next.octets ∙ e in
    let none : pdu.count ≡ None = has_no_count g pdu fms bitmap pdu.count refl read heard_so in
    let is : (pdcp out).report ≡ Some pdu.octets =
    all_at (IsReportOf (pdcp out).report) g.stream g.passed pdu told.sent next.at none in
    let kinds : (pdcp out).sender.kind ≡ g.receiver.kind =
    (sound_pdcp out oh).sends.am ∙ ap (λ (n : ℕ). AmKind n) same ∙ sym (sound_pdcp inn ih).hears_am in
    subst (λ (o : Option (List ℕ)). Comes o (pdcp out).sender.kind fms bitmap) (sym is)
    (ap (λ (k : PdcpKind). heard k pdu.octets) kinds ∙ heard_so)

-- ---- PDCP's sender hears it

owed_so : (o : Option ℕ) (s : Sending) (bitmap : List ℕ) → (reported_from o s bitmap).owed ≡ s.owed
owed_so None s bitmap = refl
owed_so (Some from) s bitmap = refl

owed_stays : (s : Sending) (fms : ℕ) (bitmap : List ℕ) → (reported s fms bitmap).owed ≡ s.owed
unfolding reported
owed_stays s fms bitmap = owed_so (fms_count s.kind s.base fms) s bitmap

report_comes : (w : Way) (a : Standing) (fms : ℕ) (bitmap : List ℕ)
    → Comes (pdcp w).report (pdcp w).sender.kind fms bitmap
    → MeetsNow w a → Extends w (record a { sending = after a.sending (ReportComes fms bitmap) }) [] [] [] []
report_comes w a fms bitmap comes m =
    let g : Pdcp = pdcp w in
    record {
      events = Sends (ReportComes fms bitmap) ∷ [];
      steps = [];
      events_given = (comes, tt);
      steps_given = tt;
      meets = record {
        stands = m.stands;
        sender_is = ap (λ (x : Sending). after x (ReportComes fms bitmap)) m.sender_is;
        receiver_is = m.receiver_is;
        stream_is = ap (map (λ (n : Next). n.octets)) (append-nil g.stream) ∙ m.stream_is;
        passed_is = m.passed_is;
        whole_is = m.whole_is;
      };
      stays = record {
        sdus = append-nil g.sdus;
        stream = append-nil g.stream;
        report = refl;
        owed = owed_stays g.sender fms bitmap;
      };
      ups_are = sym (append-nil g.up);
      tells = tells_passing [] g (run_am_pdcp (Sends (ReportComes fms bitmap) ∷ []) g) (told_of w) (append-nil g.stream)
          refl (λ count. refl);
      handed_is = sym (append-nil (handed_up (rlc w)));
      confirmed_is = sym (append-nil (confirmed (rlc w)));
    }

pub hears_report : (out inn : Way) (a : Standing) (sdu : List ℕ) (x : Heard) → heard (pdcp inn).receiver.kind sdu ≡ x
    → IsWay out → IsWay inn → out.bits ≡ inn.bits → Reports out inn → IsNext inn sdu → MeetsNow out a
    → Extends out (record a { sending = after_heard x a.sending }) [] [] [] []
hears_report out inn a sdu (Bad refusal) e oh ih same told next m = rests out a m
hears_report out inn a sdu (Told fms bitmap) e oh ih same told next m =
    report_comes out a fms bitmap (report_is out inn sdu fms bitmap oh ih same told next e) m
hears_report out inn a sdu (Data sn body) e oh ih same told next m = rests out a m
