-- A data PDU comes: the places that have arrived by it have arrived to PDCP too.
use Rattle.std.proofs.Common.{◌≡◌, ◌<◌, ◌≤◌, ℕ, zero, suc, Bool, true, false, ◌&&◌, ◌||◌, if◌then◌else◌, nat_lt, List}
use Rattle.std.proofs.Common.{[], ◌∷◌, ◌++◌, map, length, Option, Some, Result, Ok, slice_get, append-nil, refl, ap}
use Rattle.std.proofs.Common.{sym, subst, ◌∙◌, arith}
use Rattle.std.proofs.lemmas.Bool.Decides.{nat_tests}
use Rattle.std.proofs.lemmas.List.{length-map}
use Rattle.pdcp_tx.specs.declared.sender.Next.{Next}
use Rattle.rlc_pdu.specs.declared.RlcRefusal.{RlcRefusal}
use Rattle.rlc_pdu.specs.Pdus.{AcknowledgedPdu, AmdPdu, Payload}
use Rattle.rlc_pdu.specs.Reading.{am_at}
use Rattle.law_rlc.specs.AmReceiver.Run.{Arrive as Hears, state_after}
use Rattle.law_rlc.specs.AmPair.Flow.{Copy, Flow as Rlc, Step as RlcStep, DataComes, receives, data_read, data_comes}
use Rattle.law_rlc.specs.AmPair.Flow.{happens as rlc_happens}
use Rattle.law_rlc.specs.AmPair.Confirmed.{confirmed}
use Rattle.law_rlc.specs.AmPair.Sdus.{offered, handed_up}
use Rattle.law_rlc.specs.AmPair.Arrives.{arrives}
use Rattle.law_rlc.proofs.AmPair.Confirming.{step-confirms}
use Rattle.law_rlc.proofs.AmPair.Sound.{IsSound}
use Rattle.law_rlc.proofs.AmPair.Laws.{sound, happens-sound}
use Rattle.law_rlc.proofs.AmPair.ByPlace.{arrived-offered}
use Rattle.law_rlc.proofs.AmPair.Later.{arrivals-stay}
use Rattle.law_rlc.proofs.AmPair.Steps.{goes-up, step-offers}
use Rattle.law_words.specs.Passing.{Comes, with_passings}
use Rattle.law_rlc.specs.AmArrival.Arrival.{coming, passed}
use Rattle.law_words.specs.Arrivals.{Passes, account}
use Rattle.law_pdcp.specs.AmPair.Flow.{Flow as Pdcp, Event, Arrive, happens as pdcp_happens, run_am_pdcp}
use Rattle.law_pdcp.specs.AmPair.Flow.{AreGiven as AreGivenEvents}
use Rattle.law_deliver.proofs.AmFlow.Standing.{Stands}
use Rattle.law_deliver.proofs.AmFlow.Hearing.{receives_one}
use Rattle.law_deliver.proofs.AmDelivery.Accounts.{told_of, tells_passing, agrees_at}
use Rattle.law_deliver.proofs.AmDelivery.Joined.{Way, IsWay, rlc, pdcp}
use Rattle.law_deliver.proofs.AmDelivery.Meeting.{Standing, MeetsNow, Extends}

-- ---- each place below a number that has come arrives

abbrev arrivals : (ℕ → Bool) → ℕ → List Event
arrivals came zero = []
arrivals came (suc n) = if came n then Arrive n ∷ arrivals came n else arrivals came n

record Come (came : ℕ → Bool) (n : ℕ) (g : Pdcp) (events : List Event) : Type 0 where
  given : AreGivenEvents g events
  same : run_am_pdcp events g ≡ record g { whole = (run_am_pdcp events g).whole }
  whole_is : (k : ℕ) → (run_am_pdcp events g).whole k ≡ (nat_lt k n && came k) || g.whole k

one_comes : (came : ℕ → Bool) (n : ℕ) (g : Pdcp) (events : List Event) (b : Bool) → came n ≡ b → n < length g.stream
    → ((h : Pdcp) → h.stream ≡ g.stream → Come came n h events)
    → Come came (suc n) g (if b then Arrive n ∷ events else events)
one_comes came n g events true e le rest =
    let h : Come came n (pdcp_happens g (Arrive n)) events = rest (pdcp_happens g (Arrive n)) refl in
    record {
      given = (le, h.given);
      same = h.same;
      whole_is = λ k. let w = h.whole_is k in grind (arith, nat_tests);
    }
one_comes came n g events false e le rest =
    let h : Come came n g events = rest g refl in
    record { given = h.given; same = h.same; whole_is = λ k. let w = h.whole_is k in grind (arith, nat_tests) }

all_come : (came : ℕ → Bool) (n : ℕ) (g : Pdcp) → n ≤ length g.stream → Come came n g (arrivals came n)
all_come came zero g le = record { given = tt; same = refl; whole_is = λ k. grind (arith, nat_tests) }
all_come came (suc n) g le =
    one_comes came n g (arrivals came n) (came n) refl (omega (arith, le))
    (λ h q. all_come came n h (let l : length h.stream ≡ length g.stream = ap (λ (s : List Next). length s) q in
    omega (arith, le, l)))

-- ---- the PDU that stands at a place

data_is : (f : Rlc) (k : ℕ) (c : Copy) (pdu : AmdPdu) → slice_get f.copies k ≡ Some c
    → am_at c.octets ≡ Ok (Payload pdu) → rlc_happens f (DataComes k) ≡ receives f (Hears pdu)
data_is f k c pdu at read = ap (λ (o : Option Copy). data_comes f o) at
    ∙ ap (λ (o : Result AcknowledgedPdu RlcRefusal). data_read f o) read

pub data_arrives : (w : Way) (k : ℕ) (c : Copy) (pdu : AmdPdu) (a : Standing) → IsWay w
    → slice_get (rlc w).copies k ≡ Some c → am_at c.octets ≡ Ok (Payload pdu) → MeetsNow w a
    → Extends w (record a { rx = state_after a.rx (Hears pdu) }) [] (Passes (Comes c.octets) ∷ []) [] []
data_arrives w k c pdu a h at read m =
    let f : Rlc = rlc w in
    let g : Pdcp = pdcp w in
    let step : RlcStep = DataComes k in
    let f' : Rlc = rlc_happens f step in
    let ok : IsSound f = sound w.sending w.receiving w.steps h.steps in
    let ok' : IsSound f' = happens-sound f step tt ok in
    let same : offered f' ≡ offered f = step-offers f step ∙ append-nil (offered f) in
    let n = length (offered f) in
    let long : length g.stream ≡ n = sym (length-map g.stream (λ (x : Next). x.octets))
    ∙ ap (λ (l : List (List ℕ)). length l) m.stream_is in
    let come : Come (arrives f') n g (arrivals (arrives f') n) = all_come (arrives f') n g (omega (arith, long)) in
    record {
      events = arrivals (arrives f') n;
      steps = step ∷ [];
      events_given = come.given;
      steps_given = (tt, tt);
      meets = record {
        stands = subst (λ (x : Rlc). Stands a.tx (state_after a.rx (Hears pdu)) a.copies a.reports a.busy x)
            (sym (data_is f k c pdu at read))
            (receives_one f (Hears pdu) a.tx a.rx a.copies a.reports a.busy m.stands);
        sender_is = ap (λ (x : Pdcp). x.sender) come.same ∙ m.sender_is;
        receiver_is = ap (λ (x : Pdcp). x.receiver) come.same ∙ m.receiver_is;
        stream_is = ap (λ (x : Pdcp). map (λ (n : Next). n.octets) x.stream) come.same ∙ m.stream_is ∙ sym same;
        passed_is = ap (λ (x : Pdcp). x.passed) come.same ∙ m.passed_is
            ∙ ap (λ (l : List (List ℕ)). length l) (sym ((goes-up f).stays step tt refl));
        whole_is = λ p. come.whole_is p
            ∙ whole_too p n (arrives f' p) (g.whole p)
            (λ e. subst (λ (l : List (List ℕ)). p < length l) same (arrived-offered f' p ok' e))
            (λ e. arrivals-stay f step p ok tt (sym (m.whole_is p) ∙ e));
      };
      stays = record {
        sdus = ap (λ (x : Pdcp). x.sdus) come.same;
        stream = ap (λ (x : Pdcp). x.stream) come.same;
        report = ap (λ (x : Pdcp). x.report) come.same;
        owed = ap (λ (x : Pdcp). x.sender.owed) come.same;
      };
      ups_are = ap (λ (x : Pdcp). x.up) come.same ∙ sym (append-nil g.up);
      tells = λ b l.
          agrees_at (account (Passes (Comes c.octets) ∷ []) b) (run_am_pdcp (arrivals (arrives f') n) g)
          (run_am_pdcp (arrivals (arrives f') n) g)
          (with_passings (Comes c.octets ∷ []) (told_of w)) (with_passings (passed (step ∷ []) f) (told_of w)) refl
          (ap (λ (o : Option Copy). with_passings (coming o ++ []) (told_of w)) at)
          (tells_passing (Comes c.octets ∷ []) g (run_am_pdcp (arrivals (arrives f') n) g) (told_of w)
          (ap (λ (x : Pdcp). x.stream) come.same) (ap (λ (x : Pdcp). x.passed) come.same)
          (λ count. ap (λ (x : Pdcp). x.handed count) come.same) b l);
      handed_is = (goes-up f).stays step tt refl ∙ sym (append-nil (handed_up f));
      confirmed_is = step-confirms f step tt ∙ sym (append-nil (confirmed f));
    }
  where
    whole_too : (p n : ℕ) (now before : Bool) → (now ≡ true → p < n) → (before ≡ true → now ≡ true)
        → (nat_lt p n && now) || before ≡ now
    whole_too p n now before f g = grind (arith, nat_tests, f, g)
