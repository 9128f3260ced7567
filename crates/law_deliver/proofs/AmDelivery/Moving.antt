-- A way goes on by events of PDCP and by a step of RLC that neither brings a data PDU nor takes an SDU up.
use Rattle.std.proofs.Common.{◌≡◌, ℕ, false, List, [], ◌∷◌, ◌++◌, map, length, append_assoc, subst, refl, ap, sym, ◌∙◌}
use Rattle.std.proofs.lemmas.List.{append-nil}
use Rattle.pdcp_tx.specs.declared.sender.Next.{Next}
use Rattle.law_rlc.specs.AmPair.Flow.{Flow as Rlc, Step as RlcStep, happens as rlc_happens, goes as rlc_goes}
use Rattle.law_rlc.specs.AmPair.Given.{IsGiven as IsGivenStep, AreGiven as AreGivenSteps}
use Rattle.law_rlc.specs.AmPair.Confirmed.{confirmed}
use Rattle.law_rlc.specs.AmPair.Sdus.{offered, handed_up}
use Rattle.law_rlc.specs.AmPair.Arrives.{arrives, brings}
use Rattle.law_rlc.specs.AmPair.Steps.{takes_up, offers}
use Rattle.law_rlc.proofs.AmPair.Confirming.{IsSilent, step-confirms}
use Rattle.law_rlc.proofs.AmPair.Laws.{only-data-arrives}
use Rattle.law_rlc.proofs.AmPair.Steps.{goes-up, step-offers}
use Rattle.law_pdcp.specs.AmPair.Flow.{Flow as Pdcp, Event, run_am_pdcp, AreGiven as AreGivenEvents}
use Rattle.law_words.specs.Passing.{with_passings}
use Rattle.law_rlc.specs.AmArrival.Arrival.{passed}
use Rattle.law_words.specs.Arrivals.{AccountEntry, account}
use Rattle.law_deliver.specs.AmFlow.Flows.{IsFlow}
use Rattle.law_deliver.specs.AmFlow.Pair.{BearerEnd}
use Rattle.promises.specs.Given.{entries_passed}
use Rattle.law_deliver.proofs.AmDelivery.Accounts.{told_of, told_more, TellsOn, tells_passing, agrees_at}
use Rattle.law_deliver.proofs.AmDelivery.Joined.{Way, IsWay, Joins, rlc, pdcp}
use Rattle.law_deliver.proofs.AmDelivery.Lasting.{Lasts}
use Rattle.law_deliver.proofs.AmDelivery.Ways.{with_more, IsMore, goes_on}
use Rattle.law_deliver.proofs.AmDelivery.Promises.{GoesOn}

-- ---- a way joins two ends where its flows of PDCP and RLC meet there

pub record Meets (g : Pdcp) (f : Rlc) (from to : BearerEnd) : Type 0 where
  pub rlc_is : IsFlow from to f
  pub sender_is : g.sender ≡ from.bearer.pdcp.tx
  pub receiver_is : g.receiver ≡ to.bearer.pdcp.rx
  pub stream_is : map (λ (n : Next). n.octets) g.stream ≡ offered f
  pub passed_is : g.passed ≡ length (handed_up f)
  pub whole_is : (k : ℕ) → g.whole k ≡ arrives f k

pub joins_so : (w : Way) (from to : BearerEnd) → Meets (pdcp w) (rlc w) from to → Joins w from to
joins_so w from to h = record {
  rlc_is = h.rlc_is;
  sender_is = h.sender_is;
  receiver_is = h.receiver_is;
  stream_is = h.stream_is;
  passed_is = h.passed_is;
  whole_is = h.whole_is;
}

-- ---- it goes on by events and steps

pub record Moves (w : Way) (xs : List Event) (ss : List RlcStep) (from to : BearerEnd) (news ups : List (List ℕ))
    (told : List AccountEntry) : Type 0 where
  pub events : AreGivenEvents (pdcp w) xs
  pub steps : AreGivenSteps (rlc w) ss
  pub meets : Meets (run_am_pdcp xs (pdcp w)) (rlc_goes ss (rlc w)) from to
  pub sdus_are : (run_am_pdcp xs (pdcp w)).sdus ≡ (pdcp w).sdus ++ news
  pub ups_are : (run_am_pdcp xs (pdcp w)).up ≡ (pdcp w).up ++ ups
  pub tells : TellsOn told (pdcp w) (told_of w) (run_am_pdcp xs (pdcp w))
      (with_passings (passed ss (rlc w)) (told_of w))
  -- RLC hands up none, and confirms none
  pub handed_is : handed_up (rlc_goes ss (rlc w)) ≡ handed_up (rlc w)
  pub confirmed_is : confirmed (rlc_goes ss (rlc w)) ≡ confirmed (rlc w)

pub record HasMoved (w v : Way) (xs : List Event) (from to : BearerEnd) (news ups : List (List ℕ))
    (told : List AccountEntry) : Type 0 where
  pub is : IsWay v
  pub pdcp_is : pdcp v ≡ run_am_pdcp xs (pdcp w)
  pub joins : Joins v from to
  pub goes : GoesOn w v news ups told

pub moves_on : (w : Way) (xs : List Event) (ss : List RlcStep) (from to : BearerEnd) (news ups : List (List ℕ))
    (told : List AccountEntry) → IsWay w
    → Moves w xs ss from to news ups told
    → HasMoved w (with_more xs ss w) xs from to news ups told
moves_on w xs ss from to news ups told h m =
    let v = with_more xs ss w in
    let more : IsMore xs ss w = goes_on xs ss w h m.events m.steps in
    let meets : Meets (pdcp v) (rlc v) from to =
    subst (λ (g : Pdcp). Meets g (rlc v) from to) (sym more.pdcp_is)
    (subst (λ (f : Rlc). Meets (run_am_pdcp xs (pdcp w)) f from to) (sym more.rlc_is) m.meets) in
    record {
      is = more.is;
      pdcp_is = more.pdcp_is;
      joins = joins_so v from to meets;
      goes = record {
        bits = refl;
        protection = refl;
        first = refl;
        sdus_are = ap (λ (g : Pdcp). g.sdus) more.pdcp_is ∙ m.sdus_are;
        ups_are = ap (λ (g : Pdcp). g.up) more.pdcp_is ∙ m.ups_are;
        tells = λ a k. agrees_at (account told a) (run_am_pdcp xs (pdcp w)) (pdcp v)
            (with_passings (passed ss (rlc w)) (told_of w)) (told_of v) more.pdcp_is (told_more w ss) (m.tells a k);
      };
    }

-- what RLC is given in steps
abbrev pub all_offers : List RlcStep → List (List ℕ)
all_offers [] = []
all_offers (s ∷ ss) = offers s ++ all_offers ss

goes_offer : (ss : List RlcStep) (f : Rlc) → offered (rlc_goes ss f) ≡ offered f ++ all_offers ss
goes_offer [] f = sym (append-nil (offered f))
goes_offer (s ∷ ss) f =
    goes_offer ss (rlc_happens f s) ∙ ap (λ l. l ++ all_offers ss) (step-offers f s)
    ∙ append_assoc (offered f) (offers s) (all_offers ss)

pub moves_last : (w : Way) (xs : List Event) (ss : List RlcStep) (from to : BearerEnd) (news ups : List (List ℕ))
    (told : List AccountEntry) → IsWay w
    → Moves w xs ss from to news ups told → Lasts w (with_more xs ss w) (all_offers ss) [] []
moves_last w xs ss from to news ups told h m =
    let more : IsMore xs ss w = goes_on xs ss w h m.events m.steps in
    record {
      offered_is = ap offered more.rlc_is ∙ goes_offer ss (rlc w);
      handed_is = ap handed_up more.rlc_is ∙ m.handed_is ∙ sym (append-nil (handed_up (rlc w)));
      confirmed_is = ap confirmed more.rlc_is ∙ m.confirmed_is ∙ sym (append-nil (confirmed (rlc w)));
    }

-- ---- a step of RLC

-- it brings no data PDU and no STATUS, and nothing goes up by it
pub record IsCalm (s : RlcStep) : Type 0 where
  pub stays : takes_up s ≡ false
  pub none : brings s ≡ false
  pub silent : IsSilent s

-- what was handed up, what is confirmed and what has arrived stay
pub record Rests (f g : Rlc) : Type 0 where
  pub handed : handed_up g ≡ handed_up f
  pub confirmed_is : confirmed g ≡ confirmed f
  pub arrived : (k : ℕ) → arrives g k ≡ arrives f k

pub rests : (w : Way) (s : RlcStep) → IsWay w → IsGivenStep (rlc w) s → IsCalm s → Rests (rlc w) (rlc_happens (rlc w) s)
rests w s h given calm = record {
  handed = (goes-up (rlc w)).stays s given calm.stays;
  confirmed_is = step-confirms (rlc w) s calm.silent;
  arrived = λ k. only-data-arrives w.sending w.receiving w.steps h.steps s k given calm.none;
}

pub rlc_moves : (w : Way) (s : RlcStep) (from to d p : BearerEnd) → IsWay w → Joins w from to → IsGivenStep (rlc w) s
    → IsCalm s → offers s ≡ []
    → IsFlow d p (rlc_happens (rlc w) s) → d.bearer.pdcp.tx ≡ from.bearer.pdcp.tx → p.bearer.pdcp.rx ≡ to.bearer.pdcp.rx
    → Moves w [] (s ∷ []) d p [] [] (entries_passed (passed (s ∷ []) (rlc w)))
rlc_moves w s from to d p h joins given calm none flow tx rx =
    let r = rests w s h given calm in
    record {
      events = tt;
      steps = (given, tt);
      meets = record {
        rlc_is = flow;
        sender_is = joins.sender_is ∙ sym tx;
        receiver_is = joins.receiver_is ∙ sym rx;
        stream_is = joins.stream_is ∙ sym (append-nil (offered (rlc w))) ∙ ap (λ l. offered (rlc w) ++ l) (sym none)
            ∙ sym (step-offers (rlc w) s);
        passed_is = joins.passed_is ∙ ap length (sym r.handed);
        whole_is = λ k. joins.whole_is k ∙ sym (r.arrived k);
      };
      sdus_are = sym (append-nil (pdcp w).sdus);
      ups_are = sym (append-nil (pdcp w).up);
      tells = tells_passing (passed (s ∷ []) (rlc w)) (pdcp w) (pdcp w) (told_of w) refl refl (λ count. refl);
      handed_is = r.handed;
      confirmed_is = r.confirmed_is;
    }
