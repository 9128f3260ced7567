-- What is under way is let go, and a TTI ends.
use Rattle.std.proofs.Common.{◌≡◌, ℕ, List, [], ◌∷◌, map, refl, ap, sym, subst, ◌∙◌}
use Rattle.std.specs.List.{AllByRecursion}
use Rattle.law_rlc.specs.AmPair.Flow.{Report, DataGoes as LetsDataGo, StatusGoes as LetsStatusGo, Passes as TtiPasses}
use Rattle.law_rlc.specs.AmPair.Flow.{except}
use Rattle.law_rlc.specs.AmPair.Flow.{happens as rlc_happens}
use Rattle.law_bearer.specs.AmBearer.Calls.{IsOfData, IsIdle}
use Rattle.law_pdcp.specs.AmPair.Flow.{Flow as Pdcp}
use Rattle.law_deliver.specs.AmFlow.Pair.{BearerEnd, Pair, Passes, older, passed, IsGiven}
use Rattle.law_rlc.specs.AmPair.Given.{IsYoung}
use Rattle.law_deliver.specs.AmFlow.Flows.{IsFlow}
use Rattle.law_deliver.proofs.AmFlow.Flows.{ages}
use Rattle.law_deliver.specs.AmDelivery.Lives.{InLife}
use Rattle.law_deliver.proofs.AmDelivery.Joined.{Way, IsWay, Joins, JoinedPair, rlc, pdcp}
use Rattle.law_deliver.proofs.AmDelivery.Ways.{with_more}
use Rattle.law_deliver.proofs.AmDelivery.Promises.{BothGoOn}
use Rattle.law_deliver.proofs.AmDelivery.Ends.{JoinedEnds, EndsGoOn}
use Rattle.law_deliver.proofs.AmDelivery.Moving.{Moves, HasMoved, moves_on, moves_last, rlc_moves}
use Rattle.law_deliver.proofs.AmDelivery.Doing.{tells, reports_so, IsBetween, out_goes_on, inn_goes_on}

-- ---- an end lets go of something

between : (bits : ℕ) (out inn : Way) (e o d : BearerEnd) → JoinedEnds bits out inn e o → d.bearer ≡ e.bearer
    → IsBetween bits d
between bits out inn e o d h q =
    record { of_data = subst (IsOfData bits) (sym q) h.of_data; idle = subst IsIdle (sym q) h.idle }

pub data_goes : (bits : ℕ) (out inn : Way) (e o : BearerEnd) (k : ℕ) → JoinedEnds bits out inn e o
    → EndsGoOn bits out inn (record e { copies = except k e.copies }) o [] [] [] [] [] []
data_goes bits out inn e o k h =
    let d : BearerEnd = record e { copies = except k e.copies } in
    let f = h.out_joins.rlc_is in
    let flow : IsFlow d o (rlc_happens (rlc out) (LetsDataGo k)) = record {
      sender_is = f.sender_is;
      receiver_is = f.receiver_is;
      copies_are = ap (except k) f.copies_are;
      reports_are = f.reports_are;
      busy_is = f.busy_is;
    } in
    out_goes_on bits out inn e o d [] (LetsDataGo k ∷ []) [] [] h
    (rlc_moves out (LetsDataGo k) e o d o h.out_is h.out_joins tt
    (record { stays = refl; none = refl; silent = tt }) refl flow refl refl)
    (record { rx = refl; reports = refl; pdcp = refl }) (between bits out inn e o d h refl) refl
    (tells inn out h.inn_reports)

pub status_goes : (bits : ℕ) (out inn : Way) (e o : BearerEnd) (k : ℕ) → JoinedEnds bits out inn e o
    → EndsGoOn bits out inn (record e { reports = except k e.reports }) o [] [] [] [] [] []
status_goes bits out inn e o k h =
    let d : BearerEnd = record e { reports = except k e.reports } in
    let f = h.inn_joins.rlc_is in
    let flow : IsFlow o d (rlc_happens (rlc inn) (LetsStatusGo k)) = record {
      sender_is = f.sender_is;
      receiver_is = f.receiver_is;
      copies_are = f.copies_are;
      reports_are = ap (except k) f.reports_are;
      busy_is = f.busy_is;
    } in
    inn_goes_on bits out inn e o d (LetsStatusGo k ∷ []) h
    (rlc_moves inn (LetsStatusGo k) o e o d h.inn_is h.inn_joins tt
    (record { stays = refl; none = refl; silent = tt }) refl flow refl refl)
    (record { tx = refl; copies = refl; busy = refl; pdcp = refl }) (between bits out inn e o d h refl)

-- ---- a TTI ends, at both ends

passes_move : (w : Way) (e o : BearerEnd) → IsWay w → Joins w e o → AllByRecursion IsYoung o.reports
    → Moves w [] (TtiPasses ∷ []) (passed e) (passed o) [] [] []
passes_move w e o h joins young =
    let f = joins.rlc_is in
    let flow : IsFlow (passed e) (passed o) (rlc_happens (rlc w) TtiPasses) = record {
      sender_is = f.sender_is;
      receiver_is = f.receiver_is;
      copies_are = f.copies_are;
      reports_are = ages (rlc w).reports ∙ ap (map older) f.reports_are;
      busy_is = refl;
    } in
    rlc_moves w TtiPasses e o (passed e) (passed o) h joins
    (subst (λ (l : List Report). AllByRecursion IsYoung l) (sym f.reports_are) young)
    (record { stays = refl; none = refl; silent = tt }) refl flow refl refl

pub passes_go_on : (bits : ℕ) (down up : Way) (p : Pair) → JoinedPair bits down up p → IsGiven p Passes
    → BothGoOn bits down up p (InLife Passes)
passes_go_on bits down up p h g =
    let v = with_more [] (TtiPasses ∷ []) down in
    let u = with_more [] (TtiPasses ∷ []) up in
    let there = passes_move down p.near p.far h.down_is h.down_joins g.1 in
    let back = passes_move up p.far p.near h.up_is h.up_joins g.0 in
    let m : HasMoved down v [] (passed p.near) (passed p.far) [] [] [] =
    moves_on down [] (TtiPasses ∷ []) (passed p.near) (passed p.far) [] [] [] h.down_is there in
    let n : HasMoved up u [] (passed p.far) (passed p.near) [] [] [] =
    moves_on up [] (TtiPasses ∷ []) (passed p.far) (passed p.near) [] [] [] h.up_is back in
    record {
      down_after = v;
      up_after = u;
      joined = record {
        down_is = m.is;
        up_is = n.is;
        down_bits = h.down_bits;
        up_bits = h.up_bits;
        down_joins = m.joins;
        up_joins = n.joins;
        down_reports =
            reports_so down v u (pdcp up) (ap (λ (x : Pdcp). x.report) m.pdcp_is) n.pdcp_is
            (tells down up h.down_reports);
        up_reports = reports_so up u v (pdcp down) (ap (λ (x : Pdcp). x.report) n.pdcp_is) m.pdcp_is
            (tells up down h.up_reports);
        near_data = h.near_data;
        far_data = h.far_data;
        near_idle = h.near_idle;
        far_idle = h.far_idle;
      };
      down_goes = m.goes;
      up_goes = n.goes;
      down_lasts = λ in'. moves_last down [] (TtiPasses ∷ []) (passed p.near) (passed p.far) [] [] [] h.down_is there;
      up_lasts = λ in'. moves_last up [] (TtiPasses ∷ []) (passed p.far) (passed p.near) [] [] [] h.up_is back;
    }
