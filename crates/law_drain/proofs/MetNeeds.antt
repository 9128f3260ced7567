-- A bearer that gets what it needs writes a PDU.
use Rattle.std.proofs.Common.{◌≡◌, ◌<◌, ◌≤◌, inl, inr, ℕ, ◌+◌, ◌-◌, ◌*◌, ◌^◌, ◌==◌, min, Bool, true, false, ◌&&◌}
use Rattle.std.proofs.Common.{◌||◌, if◌then◌else◌, List, [], ◌∷◌, ◌++◌, map, take, length, Option, Some, None, refl, ap}
use Rattle.std.proofs.Common.{sym, ◌∙◌, arith, nat_le}
use Rattle.std.proofs.lemmas.Bool.{cases_lt}
use Rattle.std.proofs.lemmas.Bool.Decides.{nat_tests}
use Rattle.std.specs.Prelude.{IfSome, is_some}
use Rattle.std.specs.List.{AllByRecursion}
use Rattle.bearer.specs.Acknowledged.State.{State}
use Rattle.bearer.specs.Acknowledged.Sums.{need as am_need, pdcp_waiting, status_need}
use Rattle.bearer.specs.Acknowledged.Taking.{pdus as am_pdus}
use Rattle.bearer.specs.Sums.{need}
use Rattle.bearer.specs.Taking.{pdus}
use Rattle.bearer.specs.Unacknowledged.State.{State as UmState}
use Rattle.bearer.specs.Unacknowledged.Taking.{answer as um_answer}
use Rattle.bearer.specs.declared.flow.Flow.TheVariants.{Tm, Um, Am}
use Rattle.bearer_pdcp.specs.Ends.{Ends}
use Rattle.bearer_pdcp.specs.Telling.{pdus_of}
use Rattle.pdcp_pdu.specs.declared.pdu.PdcpKind.{PdcpKind}
use Rattle.pdcp_pdu.specs.declared.pdu.PdcpKind.TheVariants as pdcp
use Rattle.pdcp_tx_store.specs.declared.given.Sent.{Sent as PdcpSent}
use Rattle.pdcp_tx_store.specs.Waiting.{Waits}
use Rattle.pdcp_tx.specs.Pdus.{extra}
use Rattle.pdcp_tx.specs.State.{State as PdcpState, Offer, offers, owed_offers, again_offer, new_offers, size, sizes}
use Rattle.rlc_am_rx.specs.Status.{nack_of, listed}
use Rattle.rlc_am_tx_window.specs.Sent.{Sent, Lies, first_waiting, is_waiting, is_all, whole_size, segment_size}
use Rattle.rlc_am_tx_window.specs.Sent.{resend_size}
use Rattle.rlc_am_tx_window.proofs.SlotSteps.{gap-lies}
use Rattle.rlc_am_tx.specs.declared.turn.Turn.TheVariants as turns
use Rattle.rlc_am_tx.specs.Machine.{again, resend_turn}
use Rattle.rlc_am_tx.specs.Need.{data_need}
use Rattle.rlc_am_tx.proofs.SendSteps.{first-waits}
use Rattle.rlc_pdu.specs.declared.pdu.Part.{Part}
use Rattle.rlc_pdu.specs.Status.{status_size}
use Rattle.rlc_queue.specs.Waiting.{HaveOctets, wanted}
use Rattle.rlc_um.specs.Sender.{need as um_need}
use Rattle.law_bearer.proofs.AnyBearer.SenderCalls.{all_then}
use Rattle.law_drain.specs.Ends.{HasOctet}
use Rattle.law_drain.specs.Sharing.{OwesOctets, MetNeedsWrite}
use Rattle.law_drain.proofs.Used.{tm-used, um-used, IsSent, resends, Needs, needs-of, FitsData, am-sends}

-- ---- an SDU is reckoned with 2 octets more

wanted-three : (sdus : List (List ℕ)) → HaveOctets sdus → 0 < wanted sdus → 3 ≤ wanted sdus
wanted-three [] h some = absurd (omega (arith, some))
wanted-three (x ∷ xs) h some = omega (arith, h.0)

-- and so is what PDCP offers
abbrev OfferHasOctet : PdcpKind → Offer → Type 0
OfferHasOctet kind o = 0 < size kind o.count (length o.text)

extra-some : (kind : PdcpKind) → 0 < extra kind
extra-some pdcp.Srb = omega arith
extra-some (pdcp.Um bits) = by (bits == 7)
  where
    by : (b : Bool) → 0 < (if b then 1 else 2)
    by true = omega arith
    by false = omega arith
extra-some (pdcp.Am bits) = omega arith

owed-sizes : (kind : PdcpKind) (o : Option (List ℕ)) → IfSome o HasOctet
    → AllByRecursion (OfferHasOctet kind) (owed_offers o)
owed-sizes kind None h = tt
owed-sizes kind (Some report) h = (h, tt)

again-sizes : (kind : PdcpKind) (ss : List PdcpSent) → AllByRecursion (OfferHasOctet kind) (map again_offer ss)
again-sizes kind [] = tt
again-sizes kind (s ∷ ss) = (omega (arith, extra-some kind), again-sizes kind ss)

new-sizes : (kind : PdcpKind) (n : ℕ) (ws : List Waits) → AllByRecursion (OfferHasOctet kind) (new_offers n ws)
new-sizes kind n [] = tt
new-sizes kind n (w ∷ ws) = (omega (arith, extra-some kind), new-sizes kind (n + 1) ws)

all-sizes : (kind : PdcpKind) (s : PdcpState) → IfSome s.owed HasOctet → AllByRecursion (OfferHasOctet kind) (offers s)
unfolding offers
all-sizes kind s h =
    all_then (OfferHasOctet kind) (owed_offers s.owed ++ map again_offer s.again)
    (new_offers s.next (take (s.bound - s.next) s.waiting))
    (all_then (OfferHasOctet kind) (owed_offers s.owed) (map again_offer s.again) (owed-sizes kind s.owed h)
    (again-sizes kind s.again))
    (new-sizes kind s.next (take (s.bound - s.next) s.waiting))

offers-three : (kind : PdcpKind) (os : List Offer) → AllByRecursion (OfferHasOctet kind) os
    → 0 < sizes kind os + 2 * length os → 3 ≤ sizes kind os + 2 * length os
offers-three kind [] h some = absurd (omega (arith, some))
offers-three kind (o ∷ os) h some = omega (arith, h.0)

waiting-three : (e : Ends) → OwesOctets e → 0 < pdcp_waiting e → 3 ≤ pdcp_waiting e
waiting-three e h some = offers-three e.tx.kind (offers e.tx) (all-sizes e.tx.kind e.tx h) some

both-three : (e : Ends) (sdus : List (List ℕ)) → OwesOctets e → HaveOctets sdus → 0 < pdcp_waiting e + wanted sdus
    → 3 ≤ pdcp_waiting e + wanted sdus
both-three e sdus owes h some = elim (cases_lt 0 (wanted sdus)) [
  | inl here ↦ omega (arith, wanted-three sdus h here)
  | inr none ↦ omega (arith, waiting-three e owes (omega (arith, some, none)))
]

-- ---- unacknowledged mode

um-six : (n : ℕ) (h : Bool) → (0 < n → 3 ≤ n) → 0 < (if h || (n == 0) then 0 else min (3 + n) (2 ^ 32 - 1))
    → 6 ≤ (if h || (n == 0) then 0 else min (3 + n) (2 ^ 32 - 1))
um-six n true three some = absurd (omega (arith, some))
um-six n false three some = by (n == 0) refl some
  where
    by : (z : Bool) → (n == 0) ≡ z → 0 < (if z then 0 else min (3 + n) (2 ^ 32 - 1))
        → 6 ≤ (if z then 0 else min (3 + n) (2 ^ 32 - 1))
    by true e more = absurd (omega (arith, more))
    by false e more = let n-some : 0 < n = grind (arith, nat_tests, e) in omega (arith, three n-some)

um-met : (b : UmState) (held : Option ℕ) → HaveOctets b.tx.waiting.sdus → OwesOctets b.pdcp
    → 0 < um_need b.tx (pdcp_waiting b.pdcp) held
    → 0 < length (pdus_of (um_answer b (um_need b.tx (pdcp_waiting b.pdcp) held) held))
um-met b held octets owes some =
    um-used b (um_need b.tx (pdcp_waiting b.pdcp) held) held some
    (um-six (pdcp_waiting b.pdcp + wanted b.tx.waiting.sdus) _
    (both-three b.pdcp b.tx.waiting.sdus owes octets) some)

-- ---- acknowledged mode: what is sent again

segment-five : (h : Sent) (from to : ℕ) → from < to → 5 ≤ segment_size h from to
segment-five h from to some = omega (arith, some)

-- a segment has 5 octets, unless all octets wait: then the whole PDU is sent
resent-by : (h : Sent) (size : ℕ) (p : Part) (all : Bool) → p.start ≤ p.end
    → size ≡ (if all then whole_size h else segment_size h p.start (p.end + 1))
    → IsSent (if all && nat_le (whole_size h) size then turns.Whole
    else if nat_le 5 size then turns.Part else turns.Small)
resent-by h size p true some e =
    let fits : nat_le (whole_size h) size ≡ true = grind (arith, nat_tests, e) in rw fits tt
resent-by h size p false some e =
    let large : nat_le 5 size ≡ true =
    grind (arith, nat_tests, e, segment-five h p.start (p.end + 1) (omega (arith, some))) in
    rw large tt

resent : (h : Sent) (size : ℕ) → is_waiting h ≡ true → size ≡ resend_size h → IsSent (resend_turn h size)
resent h size waits' e = by (first_waiting h) refl (gap-lies h.resting 0 (length h.field))
  where
    by : (o : Option Part) → first_waiting h ≡ o → IfSome o (Lies 0 (length h.field)) → IsSent (resend_turn h size)
    by None q lies = let no' : false ≡ true = sym (ap (λ (x : Option Part). is_some x) q) ∙ waits' in cc
    by (Some p) q lies =
        let is : size ≡ (if is_all (Some p) 0 (length h.field) then whole_size h
        else segment_size h p.start (p.end + 1)) = e ∙ rw q refl in
        rw q (resent-by h size p (is_all (Some p) 0 (length h.field)) lies.some is)

-- ---- the need of a data PDU

-- up to what 32 bits hold
abbrev most : ℕ
most = 2 ^ 32 - 1

data-wide : (b : State) (held : Option ℕ) (share : ℕ) → HaveOctets b.tx.queue.sdus → OwesOctets b.pdcp
    → share ≡ min most (data_need b.tx (pdcp_waiting b.pdcp) held) → 0 < share → FitsData b.tx (share - 3)
unfolding data_need
data-wide b held share octets owes e some = record {
  resent = λ w. elim (cases_lt share most) [
    | inl few ↦
        let d : data_need b.tx (pdcp_waiting b.pdcp) held ≡ 3 + resend_size (again b.tx) = rw (n.failed, w) refl in
        resent (again b.tx) (share - 3) (first-waits b.tx.window.slots (grind (arith, nat_tests, w)))
        (omega (arith, e, d, few))
    | inr all ↦ resends (again b.tx) (share - 3) (omega (arith, all))
  ];
  new = λ w.
      let total' = wanted b.tx.queue.sdus + pdcp_waiting b.pdcp in
      let three = both-three b.pdcp b.tx.queue.sdus owes octets (omega (arith, n.some w)) in
      let z : (total' == 0) ≡ false = grind (arith, nat_tests, n.some w) in
      let d : data_need b.tx (pdcp_waiting b.pdcp) held ≡ 3 + total' =
      rw (n.failed, w, n.shut w, n.free w, z) refl in
      omega (arith, e, d, three);
}
  where
    n : Needs b.tx held (pdcp_waiting b.pdcp)
    n = needs-of b.tx (pdcp_waiting b.pdcp) held (omega (arith, e, some))

am-met : (b : State) (held : Option ℕ) → HaveOctets b.tx.queue.sdus → OwesOctets b.pdcp → 0 < am_need b held
    → 0 < length (am_pdus b (am_need b held) held)
unfolding am_need
am-met b held octets owes some =
    am-sends b (am_need b held) held some
    (λ due.
    let told : status_need b ≡ 3 + status_size (map nack_of (listed b.rx)) = rw due refl in
    omega (arith, told))
    (λ rests.
    let none : status_need b ≡ 0 = rw rests refl in
    data-wide b held (am_need b held) octets owes (omega (arith, none)) some)

pub met_needs_write : MetNeedsWrite
unfolding need pdus
met_needs_write (Tm b) grant held few octets some = tm-used b grant _ few some refl
met_needs_write (Um b) grant held few octets some = um-met b held octets.0 octets.1 some
met_needs_write (Am b) grant held few octets some = am-met b held octets.0 octets.1 some
