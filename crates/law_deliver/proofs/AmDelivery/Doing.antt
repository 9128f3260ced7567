-- Where one of the ways goes on by what an end does, both ends are joined as before.
use Rattle.std.proofs.Common.{◌≡◌, ℕ, List, [], ◌++◌, Option, Some, append-nil, refl, ap, sym, subst, ◌∙◌}
use Rattle.std.specs.List.{AllByRecursion}
use Rattle.law_bearer.specs.AmBearer.Calls.{IsOfData, IsIdle}
use Rattle.law_rlc.specs.AmPair.Flow.{Step as RlcStep}
use Rattle.law_rlc.specs.AmPair.Sdus.{offered}
use Rattle.law_words.specs.Arrivals.{AccountEntry}
use Rattle.law_pdcp.specs.AmPair.Flow.{Flow as Pdcp, Event, run_am_pdcp}
use Rattle.law_deliver.specs.AmFlow.Pair.{BearerEnd}
use Rattle.law_deliver.proofs.AmDelivery.Joined.{Way, Joins, IsReportOf, Reports, rlc, pdcp}
use Rattle.law_deliver.proofs.AmDelivery.Ways.{with_more}
use Rattle.law_deliver.proofs.AmDelivery.Ends.{JoinedEnds, EndsGoOn}
use Rattle.law_deliver.proofs.AmDelivery.Lasting.{lasts_so, lasts_then, none_given}
use Rattle.law_deliver.proofs.AmDelivery.Moving.{Moves, HasMoved, moves_on, moves_last, all_offers}
use Rattle.law_deliver.proofs.AmDelivery.Promises.{goes_then, goes_not}

-- ---- an end of which one side is as it was

pub record SendsAlike (e d : BearerEnd) : Type 0 where
  pub tx : d.bearer.tx ≡ e.bearer.tx
  pub copies : d.copies ≡ e.copies
  pub busy : d.busy ≡ e.busy
  pub pdcp : d.bearer.pdcp.tx ≡ e.bearer.pdcp.tx

pub record HearsAlike (e d : BearerEnd) : Type 0 where
  pub rx : d.bearer.rx ≡ e.bearer.rx
  pub reports : d.reports ≡ e.reports
  pub pdcp : d.bearer.pdcp.rx ≡ e.bearer.pdcp.rx

sends_so : (w : Way) (e d o : BearerEnd) → SendsAlike e d → Joins w e o → Joins w d o
sends_so w e d o s h = record {
  rlc_is = record {
    sender_is = h.rlc_is.sender_is ∙ sym s.tx;
    receiver_is = h.rlc_is.receiver_is;
    copies_are = h.rlc_is.copies_are ∙ sym s.copies;
    reports_are = h.rlc_is.reports_are;
    busy_is = h.rlc_is.busy_is ∙ sym s.busy;
  };
  sender_is = h.sender_is ∙ sym s.pdcp;
  receiver_is = h.receiver_is;
  stream_is = h.stream_is;
  passed_is = h.passed_is;
  whole_is = h.whole_is;
}

hears_so : (w : Way) (e o p : BearerEnd) → HearsAlike o p → Joins w e o → Joins w e p
hears_so w e o p s h = record {
  rlc_is = record {
    sender_is = h.rlc_is.sender_is;
    receiver_is = h.rlc_is.receiver_is ∙ sym s.rx;
    copies_are = h.rlc_is.copies_are;
    reports_are = h.rlc_is.reports_are ∙ sym s.reports;
    busy_is = h.rlc_is.busy_is;
  };
  sender_is = h.sender_is;
  receiver_is = h.receiver_is ∙ sym s.pdcp;
  stream_is = h.stream_is;
  passed_is = h.passed_is;
  whole_is = h.whole_is;
}

-- ---- what is without a COUNT is the report

pub record Tells (report : Option (List ℕ)) (g : Pdcp) : Type 0 where
  pub owed : (r : List ℕ) → g.sender.owed ≡ Some r → report ≡ Some r
  pub sent : AllByRecursion (IsReportOf report) g.stream

pub tells : (w back : Way) → Reports w back → Tells (pdcp w).report (pdcp back)
tells w back h = record { owed = h.owed; sent = h.sent }

pub reports_so : (w v u : Way) (g : Pdcp) → (pdcp v).report ≡ (pdcp w).report → pdcp u ≡ g → Tells (pdcp w).report g
    → Reports v u
reports_so w v u g same is t =
    let here : Tells (pdcp v).report (pdcp u) =
    subst (λ (r : Option (List ℕ)). Tells r (pdcp u)) (sym same) (subst (Tells (pdcp w).report) (sym is) t) in
    record { owed = here.owed; sent = here.sent }

-- ---- an end goes on

-- what a bearer is and has left between calls
pub record IsBetween (bits : ℕ) (e : BearerEnd) : Type 0 where
  pub of_data : IsOfData bits e.bearer
  pub idle : IsIdle e.bearer

pub out_goes_on : (bits : ℕ) (out inn : Way) (e o d : BearerEnd) (xs : List Event) (ss : List RlcStep)
    (news : List (List ℕ)) (said : List AccountEntry)
    → JoinedEnds bits out inn e o → Moves out xs ss d o news [] said → HearsAlike e d → IsBetween bits d
    → (run_am_pdcp xs (pdcp out)).report ≡ (pdcp out).report → Tells (pdcp inn).report (run_am_pdcp xs (pdcp out))
    → EndsGoOn bits out inn d o news [] said [] (all_offers ss) []
out_goes_on bits out inn e o d xs ss news said h moves alike between report told =
    let v = with_more xs ss out in
    let m : HasMoved out v xs d o news [] said = moves_on out xs ss d o news [] said h.out_is moves in
    let same : (pdcp v).report ≡ (pdcp out).report = ap (λ (g : Pdcp). g.report) m.pdcp_is ∙ report in
    record {
      out_after = v;
      inn_after = inn;
      joined = record {
        out_is = m.is;
        inn_is = h.inn_is;
        out_bits = h.out_bits;
        inn_bits = h.inn_bits;
        out_joins = m.joins;
        inn_joins = hears_so inn o e d alike h.inn_joins;
        out_reports = reports_so out v inn (pdcp inn) same refl (tells out inn h.out_reports);
        inn_reports = reports_so inn inn v (run_am_pdcp xs (pdcp out)) refl m.pdcp_is told;
        of_data = between.of_data;
        other_of_data = h.other_of_data;
        idle = between.idle;
        other_idle = h.other_idle;
      };
      out_goes = m.goes;
      inn_goes = goes_not inn;
      out_lasts = moves_last out xs ss d o news [] said h.out_is moves;
      inn_lasts = lasts_so inn;
    }

-- by a step of RLC alone
pub inn_goes_on : (bits : ℕ) (out inn : Way) (e o d : BearerEnd) (ss : List RlcStep)
    → JoinedEnds bits out inn e o → Moves inn [] ss o d [] [] [] → SendsAlike e d → IsBetween bits d
    → EndsGoOn bits out inn d o [] [] [] [] [] []
inn_goes_on bits out inn e o d ss h moves alike between =
    let v = with_more [] ss inn in
    let m : HasMoved inn v [] o d [] [] [] = moves_on inn [] ss o d [] [] [] h.inn_is moves in
    let lasts = moves_last inn [] ss o d [] [] [] h.inn_is moves in
    record {
      out_after = out;
      inn_after = v;
      joined = record {
        out_is = h.out_is;
        inn_is = m.is;
        out_bits = h.out_bits;
        inn_bits = h.inn_bits;
        out_joins = sends_so out e d o alike h.out_joins;
        inn_joins = m.joins;
        out_reports = reports_so out out v (pdcp inn) refl m.pdcp_is (tells out inn h.out_reports);
        inn_reports =
            reports_so inn v out (pdcp out) (ap (λ (g : Pdcp). g.report) m.pdcp_is) refl
            (tells inn out h.inn_reports);
        of_data = between.of_data;
        other_of_data = h.other_of_data;
        idle = between.idle;
        other_idle = h.other_idle;
      };
      out_goes = goes_not out;
      inn_goes = m.goes;
      out_lasts = lasts_so out;
      inn_lasts = record {
        offered_is = none_given inn v h.inn_joins.stream_is m.joins.stream_is
            (ap (λ (g : Pdcp). g.stream) m.pdcp_is)
            ∙ sym (append-nil (offered (rlc inn)));
        handed_is = lasts.handed_is;
        confirmed_is = lasts.confirmed_is;
      };
    }

-- ---- one behind the other

-- where nothing is heard
pub ends_then : {a b : List AccountEntry} (bits : ℕ) (out inn : Way) (e o d p : BearerEnd)
    (news more ups later given next raised last : List (List ℕ))
    (m : EndsGoOn bits out inn e o news ups a [] given raised)
    → EndsGoOn bits m.out_after m.inn_after d p more later b [] next last
    → EndsGoOn bits out inn d p (news ++ more) (ups ++ later) (a ++ b) [] (given ++ next) (raised ++ last)
ends_then bits out inn e o d p news more ups later given next raised last m n = record {
  out_after = n.out_after;
  inn_after = n.inn_after;
  joined = n.joined;
  out_goes = goes_then out m.out_after n.out_after news more [] [] m.out_goes n.out_goes;
  inn_goes = goes_then inn m.inn_after n.inn_after [] [] ups later m.inn_goes n.inn_goes;
  out_lasts = lasts_then out m.out_after n.out_after given next [] [] [] [] m.out_lasts n.out_lasts;
  inn_lasts = lasts_then inn m.inn_after n.inn_after [] [] raised last [] [] m.inn_lasts n.inn_lasts;
}
