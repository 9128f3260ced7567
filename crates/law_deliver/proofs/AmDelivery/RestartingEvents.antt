-- One direction of PDCP as a life ends and the next one begins: what RLC can put together comes, all that is ready goes
-- up, and the sender owes a report.
use Rattle.std.proofs.Common.{◌≡◌, ℕ, ◌+◌, Bool, true, false, List, [], ◌∷◌, ◌++◌, map, drop, append-nil, subst, refl}
use Rattle.std.proofs.Common.{ap, sym, ◌∙◌}
use Rattle.std.specs.Prelude.{if◌then◌else◌}
use Rattle.std.proofs.lemmas.List.{drop-map}
use Rattle.eps_sec.specs.declared.Keys.{Keys}
use Rattle.pdcp_tx.specs.declared.sender.Next.{Next}
use Rattle.pdcp_tx.specs.Runs.{Owe}
use Rattle.pdcp_tx.specs.State.{restarted as restarted_sending, owing}
use Rattle.pdcp_rx.specs.declared.got.Cause.TheVariants.{Reestablished}
use Rattle.pdcp_rx.specs.State.{State as Receiving, arrived, restarted as restarted_receiving}
use Rattle.law_bearer.specs.AmBearer.Deeds.{all_raised}
use Rattle.law_bearer.specs.AmBearer.Lives.{closes}
use Rattle.law_rlc.specs.AmPair.Arrives.{whole_from}
use Rattle.law_pdcp.specs.AmPair.Flow.{Flow, Event, Sends, Restart, IsReport, closing, ended, begun, run_am_pdcp}
use Rattle.law_pdcp.specs.AmPair.Flow.{AreGiven}
use Rattle.law_deliver.proofs.AmDelivery.HandingUp.{raises, raises_given, raised, all_raise}
use Rattle.law_deliver.proofs.AmDelivery.Ways.{run_more, given_events_more}

-- ---- what RLC can put together, by places

abbrev octets : Next → List ℕ
octets pdu = pdu.octets

abbrev octets_of : List Next → List (List ℕ)
octets_of pdus = map octets pdus

one_closes : (whole arrives : ℕ → Bool) (pdu : Next) (pdus : List Next) (k : ℕ) (r : Receiving) (b : Bool)
    → ((s : Receiving) → closing whole (k + 1) pdus s ≡ closes (whole_from arrives (k + 1) (octets_of pdus)) s)
    → closing whole (k + 1) pdus (if b then arrived r pdu.octets Reestablished else r)
    ≡ closes (if b then pdu.octets ∷ whole_from arrives (k + 1) (octets_of pdus)
    else whole_from arrives (k + 1) (octets_of pdus)) r
one_closes whole arrives pdu pdus k r true rest = rest (arrived r pdu.octets Reestablished)
one_closes whole arrives pdu pdus k r false rest = rest r

closing_is : (whole arrives : ℕ → Bool) → ((k : ℕ) → whole k ≡ arrives k) → (pdus : List Next) (k : ℕ) (r : Receiving)
    → closing whole k pdus r ≡ closes (whole_from arrives k (octets_of pdus)) r
closing_is whole arrives same [] k r = refl
closing_is whole arrives same (pdu ∷ pdus) k r =
    ap (λ (b : Bool). closing whole (k + 1) pdus (if b then arrived r pdu.octets Reestablished else r)) (same k)
    ∙ one_closes whole arrives pdu pdus k r (arrives k) (closing_is whole arrives same pdus (k + 1))

-- those that RLC hasn't handed up, of all that it was given
pub ended_is : (f : Flow) (arrives : ℕ → Bool) (sdus : List (List ℕ)) → ((k : ℕ) → f.whole k ≡ arrives k)
    → octets_of f.stream ≡ sdus
    → (ended f).receiver ≡ closes (whole_from arrives f.passed (drop f.passed sdus)) f.receiver
ended_is f arrives sdus same q =
    closing_is f.whole arrives same (drop f.passed f.stream) f.passed f.receiver
    ∙ ap (λ (l : List (List ℕ)). closes (whole_from arrives f.passed l) f.receiver)
    (sym (drop-map octets f.passed f.stream) ∙ ap (drop f.passed) q)

-- ---- the life ends, all that is ready goes up, and the sender of the next one owes a report

abbrev owes : List ℕ → List Event
owes report = Sends (Owe report) ∷ []

abbrev pub restarting : Flow → Keys → List ℕ → List Event
restarting f keys report = Restart keys ∷ (raises (ended f).receiver.ready ++ owes report)

abbrev pub next_life : Flow → Keys → List ℕ → Flow
next_life f keys report = record (begun (ended f) keys) {
  sender = owing (restarted_sending f.sender keys) report;
  receiver = all_raised (restarted_receiving (ended f).receiver keys);
  up = f.up ++ (ended f).receiver.ready;
}

stays_ready : (r : Receiving) (keys : Keys) → (restarted_receiving r keys).ready ≡ r.ready
unfolding restarted_receiving
stays_ready r keys = refl

begun_rises : (f : Flow) (keys : Keys) → run_am_pdcp (raises (ended f).receiver.ready) (begun (ended f) keys)
    ≡ raised (ended f).receiver.ready (begun (ended f) keys)
begun_rises f keys = all_raise (ended f).receiver.ready (begun (ended f) keys) (stays_ready (ended f).receiver keys)

pub restarts_as : (f : Flow) (keys : Keys) (report : List ℕ)
    → run_am_pdcp (restarting f keys report) f ≡ next_life f keys report
restarts_as f keys report =
    run_more (begun (ended f) keys) (raises (ended f).receiver.ready) (owes report)
    ∙ ap (λ (g : Flow). run_am_pdcp (owes report) g) (begun_rises f keys)
    ∙ ap (λ (l : List (List ℕ)). record (next_life f keys report) { sdus = l }) (append-nil f.sdus)

pub restarting_given : (f : Flow) (keys : Keys) (report : List ℕ)
    → IsReport (restarted_sending f.sender keys).kind report → AreGiven f (restarting f keys report)
restarting_given f keys report is =
    let rises = raises (ended f).receiver.ready in
    let g = begun (ended f) keys in
    let rest : AreGiven (run_am_pdcp rises g) (owes report) =
    subst (λ (x : Flow). AreGiven x (owes report)) (sym (begun_rises f keys)) (is, tt) in
    (tt, given_events_more g rises (owes report) (raises_given (ended f).receiver.ready g) rest)
