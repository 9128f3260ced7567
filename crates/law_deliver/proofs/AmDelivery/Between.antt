-- Both ways while an end is between two deeds of a call.
use Rattle.std.proofs.Common.{◌≡◌, ℕ, List, [], ◌∷◌, ◌++◌, append-nil, append_assoc, refl, ap, sym, subst, ◌∙◌}
use Rattle.std.specs.List.{AllByRecursion}
use Rattle.law_words.specs.Arrivals.{AccountEntry}
use Rattle.law_bearer.specs.AmBearer.Deeds.{Deed, does as deed_does, does_all, goes_up, go_up}
use Rattle.bearer.specs.Acknowledged.State.{State}
use Rattle.law_rlc.specs.AmPair.Confirmed.{confirmed}
use Rattle.law_rlc.specs.AmPair.Flow.{sender}
use Rattle.law_rlc.specs.AmPair.Sdus.{offered, handed_up}
use Rattle.law_deliver.specs.AmFlow.Pair.{BearerEnd}
use Rattle.law_deliver.proofs.AmDelivery.Joined.{Way, IsWay, Joins, Reports, rlc}
use Rattle.law_deliver.proofs.AmDelivery.Lasting.{Lasts, confirmed_as_heard, lasts_so, lasts_then, none_given}
use Rattle.law_deliver.proofs.AmDelivery.Promises.{GoesOn, goes_then, goes_not}
use Rattle.law_deliver.proofs.AmDelivery.Meeting.{Extends, standing, Extended, extended, reports_stay}

-- the way from an end and the way to it
pub record Between (bits : ℕ) (out inn : Way) (e o : BearerEnd) (pool : List (List ℕ)) : Type 0 where
  pub out_is : IsWay out
  pub inn_is : IsWay inn
  pub out_bits : out.bits ≡ bits
  pub inn_bits : inn.bits ≡ bits
  pub out_joins : Joins out e o
  pub inn_joins : Joins inn o e
  pub out_reports : Reports out inn
  pub inn_reports : Reports inn out
  -- all that RLC has handed up at the end, and what is ready there
  pub pool_is : handed_up (rlc inn) ++ e.bearer.rx.out.ready ≡ pool

-- they go on to an end of which these SDUs went up, and so much is told of what it heard
pub record GoesBetween (bits : ℕ) (out inn : Way) (e o : BearerEnd) (ups : List (List ℕ)) (heard : List AccountEntry)
    (pool : List (List ℕ)) : Type 0 where
  pub out_after : Way
  pub inn_after : Way
  pub between : Between bits out_after inn_after e o pool
  pub out_goes : GoesOn out out_after [] [] []
  pub inn_goes : GoesOn inn inn_after [] ups heard
  pub out_lasts : Lasts out out_after [] [] (confirmed_as_heard heard (sender (rlc out)).state)
  pub inn_offered : offered (rlc inn_after) ≡ offered (rlc inn)
  pub inn_confirmed : confirmed (rlc inn_after) ≡ confirmed (rlc inn)

pub none_goes : (bits : ℕ) (out inn : Way) (e o : BearerEnd) (pool : List (List ℕ)) → Between bits out inn e o pool
    → GoesBetween bits out inn e o [] [] pool
none_goes bits out inn e o pool h = record {
  out_after = out;
  inn_after = inn;
  between = h;
  out_goes = goes_not out;
  inn_goes = goes_not inn;
  out_lasts = lasts_so out;
  inn_offered = refl;
  inn_confirmed = refl;
}

-- each way by itself
pub both_go : {heard : List AccountEntry} {before : List (List ℕ)} (bits : ℕ) (out inn : Way) (d e o : BearerEnd)
    (ups raised pool : List (List ℕ))
    → Between bits out inn d o before
    → Extends out (standing e o) [] [] [] (confirmed_as_heard heard (sender (rlc out)).state)
    → Extends inn (standing o e) ups heard raised []
    → handed_up (rlc inn) ++ (raised ++ e.bearer.rx.out.ready) ≡ pool
    → GoesBetween bits out inn e o ups heard pool
both_go {heard} bits out inn d e o ups raised pool h there back q =
    let news = confirmed_as_heard heard (sender (rlc out)).state in
    let x : Extended out e o [] [] [] news = extended out e o [] [] [] news h.out_is there in
    let y : Extended inn o e ups heard raised [] = extended inn o e ups heard raised [] h.inn_is back in
    record {
      out_after = x.after;
      inn_after = y.after;
      between = record {
        out_is = x.is;
        inn_is = y.is;
        out_bits = x.bits ∙ h.out_bits;
        inn_bits = y.bits ∙ h.inn_bits;
        out_joins = x.joins;
        inn_joins = y.joins;
        out_reports = reports_stay out inn x.after y.after x.stays y.stays h.out_reports;
        inn_reports = reports_stay inn out y.after x.after y.stays x.stays h.inn_reports;
        pool_is = ap (λ (l : List (List ℕ)). l ++ e.bearer.rx.out.ready) y.handed_is
            ∙ append_assoc (handed_up (rlc inn)) raised e.bearer.rx.out.ready ∙ q;
      };
      out_goes = x.goes;
      inn_goes = y.goes;
      out_lasts = record {
        offered_is = none_given out x.after h.out_joins.stream_is x.joins.stream_is x.stays.stream
            ∙ sym (append-nil (offered (rlc out)));
        handed_is = x.handed_is;
        confirmed_is = x.confirmed_is;
      };
      inn_offered = none_given inn y.after h.inn_joins.stream_is y.joins.stream_is y.stays.stream;
      inn_confirmed = y.confirmed_is ∙ append-nil (confirmed (rlc inn));
    }

-- what comes is heard first
pub then_goes : {heard : List AccountEntry} (bits : ℕ) (out inn : Way) (d e o : BearerEnd)
    (ups more pool : List (List ℕ))
    → GoesBetween bits out inn d o ups heard pool
    → ((v w : Way) → Between bits v w d o pool → GoesBetween bits v w e o more [] pool)
    → GoesBetween bits out inn e o (ups ++ more) heard pool
then_goes {heard} bits out inn d e o ups more pool h rest =
    let k = rest h.out_after h.inn_after h.between in
    let news = confirmed_as_heard heard (sender (rlc out)).state in
    record {
      out_after = k.out_after;
      inn_after = k.inn_after;
      between = k.between;
      out_goes = goes_then out h.out_after k.out_after [] [] [] [] h.out_goes k.out_goes;
      inn_goes = subst (λ (l : List AccountEntry). GoesOn inn k.inn_after [] (ups ++ more) l) (append-nil heard)
          (goes_then inn h.inn_after k.inn_after [] [] ups more h.inn_goes k.inn_goes);
      out_lasts = subst (λ (l : List ℕ). Lasts out k.out_after [] [] l) (append-nil news)
          (lasts_then out h.out_after k.out_after [] [] [] [] news [] h.out_lasts k.out_lasts);
      inn_offered = k.inn_offered ∙ h.inn_offered;
      inn_confirmed = k.inn_confirmed ∙ h.inn_confirmed;
    }

-- ---- deeds

abbrev pub with_bearer : BearerEnd → State → BearerEnd
with_bearer e b = record e { bearer = b }

abbrev pub DeedGoes : ℕ → Deed → Type 0
DeedGoes bits deed = (out inn : Way) (e o : BearerEnd) (pool : List (List ℕ)) → Between bits out inn e o pool
    → GoesBetween bits out inn (with_bearer e (deed_does e.bearer deed)) o (goes_up e.bearer deed) [] pool

pub deeds_go : (bits : ℕ) (deeds : List Deed) → AllByRecursion (DeedGoes bits) deeds
    → (out inn : Way) (e o : BearerEnd) (pool : List (List ℕ)) → Between bits out inn e o pool
    → GoesBetween bits out inn (with_bearer e (does_all deeds e.bearer)) o (go_up deeds e.bearer) [] pool
deeds_go bits [] all out inn e o pool h = none_goes bits out inn e o pool h
deeds_go bits (deed ∷ deeds) all out inn e o pool h =
    let d : BearerEnd = with_bearer e (deed_does e.bearer deed) in
    then_goes bits out inn d (with_bearer d (does_all deeds d.bearer)) o (goes_up e.bearer deed) (go_up deeds d.bearer)
    pool (all.0 out inn e o pool h) (λ v w k. deeds_go bits deeds all.1 v w d o pool k)
