-- What RLC hands up, in a life and as it ends.
use Rattle.std.proofs.Common.{◌≡◌, ◌<◌, ◌≤◌, ℕ, ◌+◌, ◌-◌, ◌^◌, Bool, true, false, ◌||◌, List, [], ◌∷◌, ◌++◌, Option}
use Rattle.std.proofs.Common.{Some, None, append_assoc, ⊎_elim, inl, inr, subst, refl, ap, sym, ◌∙◌, arith}
use Rattle.std.specs.Prelude.{if◌then◌else◌, ◌==◌}
use Rattle.std.proofs.lemmas.Bool.Decides.{nat_tests}
use Rattle.std.proofs.lemmas.Bool.{cases_lt}
use Rattle.l2_num.specs.Ascending.{AreBetween}
use Rattle.pdcp_pdu.specs.declared.PdcpKind.{PdcpKind}
use Rattle.pdcp_pdu.specs.declared.PdcpKind.TheVariants.{Am}
use Rattle.pdcp_pdu.specs.Kinds.{IsKind}
use Rattle.pdcp_tx.specs.declared.sender.Next.{Next}
use Rattle.pdcp_tx.specs.Pdus.{pdu}
use Rattle.pdcp_tx.specs.State.{State}
use Rattle.pdcp_tx.specs.Runs.{counts_in}
use Rattle.pdcp_rx.specs.declared.got.Cause.{Cause}
use Rattle.pdcp_rx.specs.declared.got.Got.{Got}
use Rattle.pdcp_rx.specs.declared.security.Opened.{Opened}
use Rattle.pdcp_rx.specs.declared.security.Opened.TheVariants.{Sdu, Differs}
use Rattle.pdcp_rx.specs.Heard.{Heard, Bad, Told, Data, heard}
use Rattle.pdcp_rx.specs.Held.{stored}
use Rattle.pdcp_rx.specs.State.{State as Receiving, above, passed_over, opened_at, waits, raised, left_heard, left_data}
use Rattle.pdcp_rx.specs.State.{left_opened, arrived}
use Rattle.law_pdcp.specs.AmPair.Flow.{IsReport, with_count}
use Rattle.law_pdcp.proofs.AmPair.Numbers.{among, among_more, between_lower, between_from, between_below, between_rest}
use Rattle.law_pdcp.proofs.AmPair.Numbers.{counts, again_counts, has, came}
use Rattle.law_pdcp.proofs.AmPair.Receives.{Receives, IsTimely, comes}
use Rattle.law_pdcp.proofs.AmPair.Confirming.{has_among}
use Rattle.law_pdcp.proofs.AmPair.Sound.{IsData, IsWritten, AreWritten, rest, Links}

-- ---- the receiver keeps its key

placed_key : (s : Receiving) (b : Bool) (at : ℕ) (sdu : List ℕ)
    → (if b then record s { held = stored s.held at sdu } else raised s (stored s.held at sdu) (at + 1)).protection
    ≡ s.protection
placed_key s true at sdu = refl
placed_key s false at sdu = refl

opened_key : (s : Receiving) (cause : Cause) (at : ℕ) (o : Opened)
    → (left_opened s cause at o).protection ≡ s.protection
opened_key s cause at (Sdu sdu) = placed_key s (waits s.kind cause at) at sdu
opened_key s cause at (Differs found wanted) = refl

data_key : (why : Option Got) (s : Receiving) (cause : Cause) (at : ℕ) (o : Opened)
    → (left_data why s cause at o).protection ≡ s.protection
data_key (Some why) s cause at o = refl
data_key None s cause at o = opened_key s cause at o

heard_key : (h : Heard) (s : Receiving) (cause : Cause) → (left_heard s cause h).protection ≡ s.protection
heard_key (Bad refusal) s cause = refl
heard_key (Told fms bits) s cause = refl
heard_key (Data sn body) s cause =
    data_key (passed_over s (above s sn)) s cause (above s sn) (opened_at s (above s sn) body)

pub arrived_key : (s : Receiving) (octets : List ℕ) (cause : Cause) → (arrived s octets cause).protection ≡ s.protection
unfolding arrived
arrived_key s octets cause = heard_key (heard s.kind octets) s cause

placed_kind : (s : Receiving) (b : Bool) (at : ℕ) (sdu : List ℕ)
    → (if b then record s { held = stored s.held at sdu } else raised s (stored s.held at sdu) (at + 1)).kind ≡ s.kind
placed_kind s true at sdu = refl
placed_kind s false at sdu = refl

opened_kind : (s : Receiving) (cause : Cause) (at : ℕ) (o : Opened) → (left_opened s cause at o).kind ≡ s.kind
opened_kind s cause at (Sdu sdu) = placed_kind s (waits s.kind cause at) at sdu
opened_kind s cause at (Differs found wanted) = refl

data_kind : (why : Option Got) (s : Receiving) (cause : Cause) (at : ℕ) (o : Opened)
    → (left_data why s cause at o).kind ≡ s.kind
data_kind (Some why) s cause at o = refl
data_kind None s cause at o = opened_kind s cause at o

heard_kind : (h : Heard) (s : Receiving) (cause : Cause) → (left_heard s cause h).kind ≡ s.kind
heard_kind (Bad refusal) s cause = refl
heard_kind (Told fms bits) s cause = refl
heard_kind (Data sn body) s cause =
    data_kind (passed_over s (above s sn)) s cause (above s sn) (opened_at s (above s sn) body)

pub arrived_kind : (s : Receiving) (octets : List ℕ) (cause : Cause) → (arrived s octets cause).kind ≡ s.kind
unfolding arrived
arrived_kind s octets cause = heard_kind (heard s.kind octets) s cause

-- ---- a status report changes nothing

pub report_ignored : (r : Receiving) (kind : PdcpKind) (octets : List ℕ) (cause : Cause) → r.kind ≡ kind
    → IsReport kind octets → arrived r octets cause ≡ r
unfolding arrived
report_ignored r kind octets cause e h = ap (left_heard r cause) (ap (λ k. heard k octets) e ∙ h.is)

-- ---- those that RLC still has to hand up

-- of the sender and what has come, what the end of a life keeps
pub record Front (bits first : ℕ) (sdus : List (List ℕ)) (s : State) (handed whole : ℕ
    → Bool) (k : ℕ) (pdus : List Next) : Type 0 where
  pub within : (n : ℕ) → handed n ≡ true → (first ≤ n) × (n < s.next)
  pub order : AreBetween 0 (rest pdus s) s.next
  pub floor : (n : ℕ) → first ≤ n → n + 2 ^ (bits - 1) < s.bound → handed n || came whole k pdus n ≡ true
  pub late : (n c : ℕ) → handed n ≡ true → among (rest pdus s) c ≡ true → n < c + 2 ^ (bits - 1)
  pub written : AreWritten first sdus s.kind s.protection pdus

pub front_of : (bits first : ℕ) (sdus : List (List ℕ)) (s : State) (handed whole : ℕ
    → Bool) (k : ℕ) (pdus : List Next) → Links bits first sdus s handed whole k pdus
    → Front bits first sdus s handed whole k pdus
front_of bits first sdus s handed whole k pdus h =
    record { within = h.within; order = h.order; floor = h.floor; late = h.late; written = h.written }

pub line_of : (x : Next) (os : List Next) (s : State) → rest (x ∷ os) s ≡ counts_in x.count ++ rest os s
line_of x os s = append_assoc (counts_in x.count) (counts os) (again_counts s.again)

pub line_at : (x : Next) (os : List Next) (s : State) (c : ℕ) → x.count ≡ Some c → rest (x ∷ os) s ≡ c ∷ rest os s
line_at x os s c e = line_of x os s ∙ ap (λ q. counts_in q ++ rest os s) e

-- one that hasn't come whole, or is a report
pub front_skip : (bits first : ℕ) (sdus : List (List ℕ)) (s : State) (handed whole : ℕ
    → Bool) (k : ℕ) (x : Next) (os : List Next) → ((n : ℕ) → (if whole k then has x.count n else false) ≡ false)
    → Front bits first sdus s handed whole k (x ∷ os) → Front bits first sdus s handed whole (k + 1) os
front_skip bits first sdus s handed whole k x os none h = record {
  within = h.within;
  order = between_rest 0 (counts_in x.count) (rest os s) s.next
      (subst (λ l. AreBetween 0 l s.next) (line_of x os s) h.order);
  floor = λ n a b. grind (arith, nat_tests, h.floor n a b, none n);
  late =
      λ n c e i. h.late n c e (ap (λ l. among l c) (line_of x os s) ∙ among_more (counts_in x.count) (rest os s) c
      ∙ or_right' (among (counts_in x.count) c) (among (rest os s) c) i);
  written = h.written.1;
}
  where
    or_right' : (a b : Bool) → b ≡ true → a || b ≡ true
    or_right' true b e = refl
    or_right' false b e = e

-- one that comes
pub front_pass : (bits first : ℕ) (sdus : List (List ℕ)) (s : State) (handed whole : ℕ
    → Bool) (k : ℕ) (x : Next) (os : List Next) (c : ℕ) → x.count ≡ Some c
    → Front bits first sdus s handed whole k (x ∷ os)
    → Front bits first sdus s (with_count (Some c) handed) whole (k + 1) os
front_pass bits first sdus s handed whole k x os c e h =
    let line = line_at x os s c e in
    let order : AreBetween 0 (c ∷ rest os s) s.next = subst (λ l. AreBetween 0 l s.next) line h.order in
    let told : IsData first sdus s.kind s.protection c x.octets =
    subst (λ q. IsWritten first sdus s.kind s.protection q x.octets) e h.written.0 in
    let from = told.named.0 in
    let below : c < s.next = between_below 0 (c ∷ rest os s) s.next c order (grind (arith, nat_tests)) in
    let here : (n : ℕ) → has x.count n ≡ (n == c) = λ n. ap (λ q. has q n) e in
    let among' : (n : ℕ) → among (rest (x ∷ os) s) n ≡ n == c || among (rest os s) n = λ n. ap (λ l. among l n) line in
    record {
      within = λ n q. grind (arith, nat_tests, h.within n, from, below);
      order = between_lower 0 (c + 1) (rest os s) s.next (omega arith) order.1;
      floor = λ n a b. grind (arith, nat_tests, h.floor n a b, here n);
      late = λ n d q i. let after = between_from (c + 1) (rest os s) s.next d order.1 i in
          grind (arith, nat_tests, h.late n d, among' d, after);
      written = h.written.1;
    }

pub wide : (bits : ℕ) → IsKind (Am bits) → 0 < 2 ^ (bits - 1)
wide bits (inl e) = rw e (omega arith)
wide bits (inr e) = rw e (omega arith)

came_among : (whole : ℕ → Bool) (k : ℕ) (os : List Next) (n : ℕ) → came whole k os n ≡ true → among (counts os) n ≡ true
came_among whole k [] n e = let no : false ≡ true = e in cc
came_among whole k (x ∷ os) n e = let ih = came_among whole (k + 1) os n in
    grind (arith, nat_tests, ih, has_among x.count n, among_more (counts_in x.count) (counts os) n)

-- it lies less than half the sequence numbers above the next COUNT
pub near_of : (bits first : ℕ) (sdus : List (List ℕ)) (s : State) (handed whole : ℕ
    → Bool) (k : ℕ) (x : Next) (os : List Next) (c : ℕ) (up : List (List ℕ)) (r : Receiving) → IsKind (Am bits)
    → s.next ≤ s.bound → x.count ≡ Some c
    → Front bits first sdus s handed whole k (x ∷ os) → Receives first sdus handed up r → c < r.next + 2 ^ (bits - 1)
near_of bits first sdus s handed whole k x os c up r is bound e h g = ⊎_elim
    (λ (l : c < r.next + 2 ^ (bits - 1)). l)
    (λ (l : r.next + 2 ^ (bits - 1) ≤ c).
    let order : AreBetween 0 (c ∷ rest os s) s.next = subst (λ l. AreBetween 0 l s.next) (line_at x os s c e) h.order in
    let below : c < s.next = between_below 0 (c ∷ rest os s) s.next c order (grind (arith, nat_tests)) in
    let done = h.floor r.next g.least.from (omega (arith, below, bound)) in
    let here : has x.count r.next ≡ (r.next == c) = ap (λ q. has q r.next) e in
    let room = wide bits is in
    let after : came whole (k + 1) os r.next ≡ true → c + 1 ≤ r.next =
    λ q. between_from (c + 1) (rest os s) s.next r.next order.1
    (among_more (counts os) (again_counts s.again) r.next
    ∙ or_left' (among (counts os) r.next) (among (again_counts s.again) r.next)
    (came_among whole (k + 1) os r.next q)) in
    let refused = g.least.refused in
    absurd (grind (arith, nat_tests)))
    (cases_lt c (r.next + 2 ^ (bits - 1)))
  where
    or_left' : (a b : Bool) → a ≡ true → a || b ≡ true
    or_left' true b e = refl
    or_left' false b e = absurd cc

-- nor more than that below it
pub late_of : (bits first : ℕ) (sdus : List (List ℕ)) (s : State) (handed whole : ℕ
    → Bool) (k : ℕ) (x : Next) (os : List Next) (c : ℕ) (up : List (List ℕ)) (r : Receiving) → x.count ≡ Some c
    → Front bits first sdus s handed whole k (x ∷ os) → Receives first sdus handed up r
    → c < r.next → r.next ≤ c + 2 ^ (bits - 1)
late_of bits first sdus s handed whole k x os c up r e h g l =
    let told : IsData first sdus s.kind s.protection c x.octets =
    subst (λ q. IsWritten first sdus s.kind s.protection q x.octets) e h.written.0 in
    let old = g.least.before (r.next - 1) (omega (arith, told.named.0)) (omega arith) in
    let u = h.late (r.next - 1) c old (ap (λ l. among l c) (line_at x os s c e) ∙ first_in c (rest os s)) in
    omega arith
  where
    first_in : (c : ℕ) (l : List ℕ) → among (c ∷ l) c ≡ true
    first_in c l = grind (arith, nat_tests)

-- the receiver reads it as its COUNT
pub head_receives : (bits first : ℕ) (sdus : List (List ℕ)) (s : State) (handed whole : ℕ
    → Bool) (k : ℕ) (x : Next) (os : List Next) (c : ℕ) (up : List (List ℕ)) (r : Receiving) (cause : Cause)
    → IsKind (Am bits) → s.kind ≡ Am bits → r.kind ≡ Am bits → r.protection ≡ s.protection
    → s.next ≤ s.bound → s.next ≤ 2 ^ 32 → x.count ≡ Some c → IsTimely cause (c - r.next)
    → Front bits first sdus s handed whole k (x ∷ os) → Receives first sdus handed up r
    → Receives first sdus (with_count (Some c) handed) up (arrived r x.octets cause)
head_receives bits first sdus s handed whole k x os c up r cause is am ham key bound room e t h g =
    let order : AreBetween 0 (c ∷ rest os s) s.next = subst (λ l. AreBetween 0 l s.next) (line_at x os s c e) h.order in
    let below : c < s.next = between_below 0 (c ∷ rest os s) s.next c order (grind (arith, nat_tests)) in
    let told : IsData first sdus s.kind s.protection c x.octets =
    subst (λ q. IsWritten first sdus s.kind s.protection q x.octets) e h.written.0 in
    let octets : x.octets ≡ pdu (Am bits) r.protection c told.sdu =
    told.is ∙ ap (λ y. pdu y s.protection c told.sdu) am ∙ ap (λ y. pdu (Am bits) y c told.sdu) (sym key) in
    subst (λ l. Receives first sdus (with_count (Some c) handed) up (arrived r l cause)) (sym octets)
    (comes first sdus handed up r bits c told.sdu cause ham is told.some told.named (omega (arith, below, room))
    (near_of bits first sdus s handed whole k x os c up r is bound e h g)
    (late_of bits first sdus s handed whole k x os c up r e h g) t g)
