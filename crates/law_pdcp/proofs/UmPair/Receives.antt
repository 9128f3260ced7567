-- A receiver reads what a sender wrote as the COUNT that it has.
use Rattle.std.proofs.Common.{◌≡◌, ◌≢◌, ◌<◌, ◌≤◌, ℕ, suc, zero, ◌+◌, ◌-◌, ◌%◌, ◌^◌, Bool, false, List, [], ◌∷◌, ◌++◌}
use Rattle.std.proofs.Common.{take, drop, replicate, Option, Some, None, slice_set, inl, inr, subst, refl, ap, sym, ◌∙◌}
use Rattle.std.proofs.Common.{arith}
use Rattle.std.specs.Prelude.{if◌then◌else◌}
use Rattle.std.proofs.lemmas.Bool.Decides.{nat_tests}
use Rattle.pdcp_pdu.specs.declared.PdcpKind.TheVariants.{Um}
use Rattle.pdcp_pdu.specs.Kinds.{IsKind}
use Rattle.pdcp_tx.specs.Pdus.{pdu}
use Rattle.pdcp_rx.specs.declared.got.Cause.{Cause}
use Rattle.pdcp_rx.specs.declared.got.Cause.TheVariants.{Arrived, Reestablished}
use Rattle.pdcp_rx.specs.declared.got.Got.TheVariants as answers
use Rattle.pdcp_rx.specs.declared.security.Opened.TheVariants.{Sdu}
use Rattle.pdcp_rx.specs.Heard.{heard}
use Rattle.pdcp_rx.specs.Held.{is_held, stored, present, leading_held, rising}
use Rattle.pdcp_rx.specs.Opening.{opened}
use Rattle.pdcp_rx.specs.State.{State, width, above, passed_over, opened_at, waits, raised, got, got_heard, got_data}
use Rattle.pdcp_rx.specs.State.{got_opened, left_heard, left_data, left_opened, arrived}
use Rattle.law_pdcp.specs.OneEnd.Receiving.{body_of, as_written}
use Rattle.law_pdcp.specs.UmPair.Reading.{AreReadAs}
use Rattle.law_pdcp.proofs.UmPair.Openings.{heard_as_written, opened_again}

-- ---- one SDU, and nothing below it

abbrev alone : ℕ → List ℕ → List (Option (List ℕ))
alone k sdu = replicate k None ++ Some sdu ∷ []

set_last : (k : ℕ) (sdu : List ℕ) → slice_set (replicate (suc k) None) k (Some sdu) ≡ alone k sdu
set_last zero sdu = refl
set_last (suc k) sdu = ap (λ l. None ∷ l) (set_last k sdu)

stored_alone : (k : ℕ) (sdu : List ℕ) → stored [] k sdu ≡ alone k sdu
stored_alone k sdu = let size : k + 1 - 0 ≡ suc k = omega arith in
    ap (λ n. slice_set (replicate n None) k (Some sdu)) size ∙ set_last k sdu

present_alone : (k : ℕ) (sdu : List ℕ) → present (take (suc k) (alone k sdu)) ≡ sdu ∷ []
present_alone zero sdu = refl
present_alone (suc k) sdu = present_alone k sdu

none_behind : (k : ℕ) (sdu : List ℕ) → drop (suc k) (alone k sdu) ≡ []
none_behind zero sdu = refl
none_behind (suc k) sdu = none_behind k sdu

rising_alone : (k : ℕ) (sdu : List ℕ) → rising (alone k sdu) (suc k) ≡ suc k
rising_alone k sdu = ap (λ l. suc k + leading_held l) (none_behind k sdu) ∙ omega arith

abbrev left_by : State → ℕ → List (Option (List ℕ)) → List (List ℕ) → State
left_by r next held sdus = record r { next = next; held = held; ready = r.ready ++ sdus }

raised_alone : (r : State) (k : ℕ) (sdu : List ℕ)
    → raised r (alone k sdu) (suc k) ≡ left_by r (r.next + suc k) [] (sdu ∷ [])
raised_alone r k sdu =
    ap (λ n. left_by r (r.next + n) (drop n (alone k sdu)) (present (take n (alone k sdu)))) (rising_alone k sdu)
    ∙ ap (λ l. left_by r (r.next + suc k) l (present (take (suc k) (alone k sdu)))) (none_behind k sdu)
    ∙ ap (λ l. left_by r (r.next + suc k) [] l) (present_alone k sdu)

raised_by : (r : State) (k : ℕ) (sdu : List ℕ) → r.held ≡ []
    → raised r (stored r.held k sdu) (k + 1) ≡ record r { next = r.next + k + 1; ready = r.ready ++ sdu ∷ [] }
raised_by r k sdu none =
    let one : k + 1 ≡ suc k = omega arith in
    let next : r.next + suc k ≡ r.next + k + 1 = omega arith in
    ap (λ l. raised r (stored l k sdu) (k + 1)) none ∙ ap (λ l. raised r l (k + 1)) (stored_alone k sdu)
    ∙ ap (raised r (alone k sdu)) one ∙ raised_alone r k sdu
    ∙ ap (λ n. left_by r n [] (sdu ∷ [])) next ∙ ap (λ l. left_by r (r.next + k + 1) l (sdu ∷ [])) (sym none)

-- ---- where it stands

above_is : (r : State) (bits c : ℕ) → r.kind ≡ Um bits → IsKind (Um bits) → r.next ≤ c → c < r.next + 2 ^ bits
    → above r (c % 2 ^ bits) ≡ c - r.next
above_is r bits c k (inl e) le lt = let lt' : c < r.next + 128 = subst (λ b. c < r.next + 2 ^ b) e lt in
    rw (k, e) (omega arith)
above_is r bits c k (inr e) le lt = let lt' : c < r.next + 4096 = subst (λ b. c < r.next + 2 ^ b) e lt in
    rw (k, e) (omega arith)

pub above_below : (r : State) (bits sn : ℕ) → r.kind ≡ Um bits → IsKind (Um bits) → above r sn < 2 ^ bits
above_below r bits sn k (inl e) = rw (k, e) (omega arith)
above_below r bits sn k (inr e) = rw (k, e) (omega arith)

not_passed : (r : State) (bits k : ℕ) → r.kind ≡ Um bits → r.held ≡ [] → k < 2 ^ bits → r.next + k < 2 ^ 32
    → passed_over r k ≡ None
not_passed r bits k um none near few =
    let wide : width r.kind ≡ 2 ^ bits = ap width um in
    let empty : is_held r.held k ≡ false = ap (λ l. is_held l k) none in
    grind (arith, nat_tests)

-- nothing waits
waits_not : (r : State) (bits k : ℕ) (cause : Cause) → r.kind ≡ Um bits → waits r.kind cause k ≡ false
waits_not r bits k Arrived um = refl
waits_not r bits k Reestablished um = ap (λ y. waits y Reestablished k) um

-- ---- one that comes

abbrev body : State → ℕ → ℕ → List ℕ → List ℕ
body r bits c sdu = body_of (Um bits) r.protection c sdu

opens_to : (r : State) (bits k c : ℕ) (sdu : List ℕ) → r.kind ≡ Um bits → r.next + k ≡ c
    → opened_at r k (body r bits c sdu) ≡ Sdu sdu
opens_to r bits k c sdu um at =
    ap (λ y. opened y r.protection (r.next + k) (body r bits c sdu)) um
    ∙ ap (λ n. opened (Um bits) r.protection n (body r bits c sdu)) at ∙ opened_again bits r.protection c sdu

answers_up : (r : State) (bits k c : ℕ) (sdu : List ℕ) (cause : Cause) → r.kind ≡ Um bits → r.next + k ≡ c
    → passed_over r k ≡ None
    → got_data (passed_over r k) r cause k (opened_at r k (body r bits c sdu)) ≡ answers.Up
answers_up r bits k c sdu cause um at new =
    ap (λ w. got_data w r cause k (opened_at r k (body r bits c sdu))) new
    ∙ ap (got_opened r cause k) (opens_to r bits k c sdu um at)
    ∙ ap (λ (b : Bool). if b then answers.Stored else answers.Up) (waits_not r bits k cause um)

leaves_next : (r : State) (bits k c : ℕ) (sdu : List ℕ) (cause : Cause) → r.kind ≡ Um bits → r.held ≡ []
    → r.next + k ≡ c → passed_over r k ≡ None
    → left_data (passed_over r k) r cause k (opened_at r k (body r bits c sdu))
    ≡ record r { next = c + 1; ready = r.ready ++ sdu ∷ [] }
leaves_next r bits k c sdu cause um none at new =
    ap (λ w. left_data w r cause k (opened_at r k (body r bits c sdu))) new
    ∙ ap (left_opened r cause k) (opens_to r bits k c sdu um at)
    ∙ ap (λ (b : Bool). if b then record r { held = stored r.held k sdu } else raised r (stored r.held k sdu) (k + 1))
    (waits_not r bits k cause um)
    ∙ raised_by r k sdu none ∙ ap (λ n. record r { next = n + 1; ready = r.ready ++ sdu ∷ [] }) at

pub hears : (r : State) (bits c : ℕ) (octets sdu : List ℕ) → r.kind ≡ Um bits → IsKind (Um bits) → sdu ≢ []
    → octets ≡ pdu (Um bits) r.protection c sdu
    → heard r.kind octets ≡ as_written (Um bits) r.protection c sdu
hears r bits c octets sdu um is some e = ap (heard r.kind) e ∙ ap (λ y. heard y (pdu (Um bits) r.protection c sdu)) um
    ∙ heard_as_written bits r.protection c sdu is some

-- a PDU that a sender wrote is read as its COUNT
pub reads : (r : State) (bits c : ℕ) (octets sdu : List ℕ) (cause : Cause) → r.kind ≡ Um bits → IsKind (Um bits)
    → r.held ≡ [] → sdu ≢ [] → r.next ≤ c
    → c < r.next + 2 ^ bits → c < 2 ^ 32
    → octets ≡ pdu (Um bits) r.protection c sdu → AreReadAs r octets cause c sdu
unfolding got arrived
reads r bits c octets sdu cause um is none some from near few e =
    let k : ℕ = above r (c % 2 ^ bits) in
    let far : k ≡ c - r.next = above_is r bits c um is from near in
    let at : r.next + k ≡ c = omega (arith, far) in
    let new : passed_over r k ≡ None = not_passed r bits k um none (omega (arith, far)) (omega (arith, at)) in
    let said : heard r.kind octets ≡ as_written (Um bits) r.protection c sdu = hears r bits c octets sdu um is some e in
    record {
      sn = c % 2 ^ bits;
      body = body r bits c sdu;
      heard_as = said;
      found = at;
      opens = opens_to r bits k c sdu um at;
      answer = ap (got_heard r cause) said ∙ answers_up r bits k c sdu cause um at new;
      left = ap (left_heard r cause) said ∙ leaves_next r bits k c sdu cause um none at new;
    }
