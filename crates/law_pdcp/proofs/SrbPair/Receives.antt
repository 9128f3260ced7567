-- A receiver that expects a COUNT reads the PDU that a sender wrote with it.
use Rattle.std.proofs.Common.{◌≡◌, ◌≢◌, ◌<◌, ℕ, ◌+◌, ◌%◌, ◌^◌, false, List, [], ◌∷◌, ◌++◌, None, Option, ap, sym, ◌∙◌}
use Rattle.std.proofs.Common.{arith}
use Rattle.std.proofs.lemmas.Bool.Decides.{nat_tests}
use Rattle.pdcp_pdu.specs.declared.PdcpKind.TheVariants.{Srb}
use Rattle.pdcp_tx.specs.Pdus.{pdu}
use Rattle.pdcp_rx.specs.declared.got.Cause.TheVariants.{Arrived}
use Rattle.pdcp_rx.specs.declared.got.Got.{Got}
use Rattle.pdcp_rx.specs.declared.got.Got.TheVariants as answers
use Rattle.pdcp_rx.specs.declared.security.Opened.TheVariants.{Sdu}
use Rattle.pdcp_rx.specs.Heard.{Data, heard}
use Rattle.pdcp_rx.specs.Held.{is_held, stored}
use Rattle.pdcp_rx.specs.Opening.{opened}
use Rattle.pdcp_rx.specs.State.{State, width, above, passed_over, opened_at, raised, got, got_heard, got_data}
use Rattle.pdcp_rx.specs.State.{got_opened, left_heard, left_data, left_opened, arrived}
use Rattle.law_pdcp.specs.SrbPair.Delivery.{AreReadAs}
use Rattle.law_pdcp.proofs.SrbPair.Opens.{heard_as_written, opened_again}

-- none lies between
above_none : (r : State) → r.kind ≡ Srb → above r (r.next % 32) ≡ 0
above_none r k = rw k (omega arith)

not_passed : (r : State) → r.kind ≡ Srb → r.held ≡ [] → r.next < 2 ^ 32 → passed_over r 0 ≡ None
not_passed r srb none few =
    let wide : width r.kind ≡ 32 = ap width srb in
    let empty' : is_held r.held 0 ≡ false = ap (λ l. is_held l 0) none in
    grind (arith, nat_tests)

-- it goes up alone
raised_alone : (r : State) (sdu : List ℕ) → r.held ≡ []
    → raised r (stored r.held 0 sdu) (0 + 1) ≡ record r { next = r.next + 1; ready = r.ready ++ sdu ∷ [] }
raised_alone r sdu none =
    ap (λ l. raised r (stored l 0 sdu) (0 + 1)) none
    ∙ ap (λ l. record r { next = r.next + 1; held = l; ready = r.ready ++ sdu ∷ [] }) (sym none)

opens_to : (r : State) (c : ℕ) (octets sdu : List ℕ) → r.kind ≡ Srb → r.next + 0 ≡ c
    → octets ≡ pdu Srb r.protection c sdu → opened_at r 0 octets ≡ Sdu sdu
opens_to r c octets sdu srb at e =
    ap (λ y. opened y r.protection (r.next + 0) octets) srb ∙ ap (λ n. opened Srb r.protection n octets) at
    ∙ ap (opened Srb r.protection c) e ∙ opened_again r.protection c sdu

answers_up : (r : State) (c : ℕ) (octets sdu : List ℕ) → r.kind ≡ Srb → r.next + 0 ≡ c → passed_over r 0 ≡ None
    → octets ≡ pdu Srb r.protection c sdu
    → got_data (passed_over r 0) r Arrived 0 (opened_at r 0 octets) ≡ answers.Up
answers_up r c octets sdu srb at new e =
    ap (λ (w : Option Got). got_data w r Arrived 0 (opened_at r 0 octets)) new
    ∙ ap (got_opened r Arrived 0) (opens_to r c octets sdu srb at e)

leaves_next : (r : State) (c : ℕ) (octets sdu : List ℕ) → r.kind ≡ Srb → r.held ≡ [] → r.next + 0 ≡ c → r.next ≡ c
    → passed_over r 0 ≡ None → octets ≡ pdu Srb r.protection c sdu
    → left_data (passed_over r 0) r Arrived 0 (opened_at r 0 octets)
    ≡ record r { next = c + 1; ready = r.ready ++ sdu ∷ [] }
leaves_next r c octets sdu srb none at here new e =
    ap (λ (w : Option Got). left_data w r Arrived 0 (opened_at r 0 octets)) new
    ∙ ap (left_opened r Arrived 0) (opens_to r c octets sdu srb at e)
    ∙ raised_alone r sdu none ∙ ap (λ n. record r { next = n + 1; ready = r.ready ++ sdu ∷ [] }) here

hears : (r : State) (c : ℕ) (octets sdu : List ℕ) → r.kind ≡ Srb → sdu ≢ [] → octets ≡ pdu Srb r.protection c sdu
    → heard r.kind octets ≡ Data (c % 32) octets
hears r c octets sdu srb some e =
    ap (λ y. heard y octets) srb ∙ ap (heard Srb) e ∙ heard_as_written r.protection c sdu some
    ∙ ap (Data (c % 32)) (sym e)

-- a PDU that a sender wrote is read as its COUNT
pub reads : (r : State) (c : ℕ) (octets sdu : List ℕ) → r.kind ≡ Srb → r.held ≡ [] → sdu ≢ [] → r.next ≡ c → c < 2 ^ 32
    → octets ≡ pdu Srb r.protection c sdu → AreReadAs r octets c sdu
unfolding got arrived
reads r c octets sdu srb none some here few e =
    let far : above r (c % 32) ≡ 0 = ap (λ n. above r (n % 32)) (sym here) ∙ above_none r srb in
    let at : r.next + 0 ≡ c = omega (arith, here) in
    let new : passed_over r 0 ≡ None = not_passed r srb none (omega (arith, here, few)) in
    let said : heard r.kind octets ≡ Data (c % 32) octets = hears r c octets sdu srb some e in
    record {
      heard_as = said;
      found = omega (arith, here, far);
      opens = ap (λ k. opened_at r k octets) far ∙ opens_to r c octets sdu srb at e;
      answer = ap (got_heard r Arrived) said
          ∙ ap (λ k. got_data (passed_over r k) r Arrived k (opened_at r k octets)) far
          ∙ answers_up r c octets sdu srb at new e;
      left = ap (left_heard r Arrived) said
          ∙ ap (λ k. left_data (passed_over r k) r Arrived k (opened_at r k octets)) far
          ∙ leaves_next r c octets sdu srb none at here new e;
    }
