-- A sender of unacknowledged mode has at most the rest of one PDU of PDCP between two calls of its bearer.
use Rattle.std.proofs.Common.{◌≡◌, ◌≤◌, ◌⊎◌, inl, inr, ℕ, ◌+◌, ◌-◌, Bool, true, false, not, ◌&&◌, ◌==◌, nat_lt}
use Rattle.std.proofs.Common.{if◌then◌else◌, List, [], ◌∷◌, ◌++◌, length, take, drop, map, Option, Some, None}
use Rattle.std.proofs.Common.{option_map, refl, sym, subst, ◌∙◌, arith}
use Rattle.std.specs.Prelude.{slice_get}
use Rattle.std.proofs.lemmas.Bool.Decides.{nat_tests}
use Rattle.std.proofs.lemmas.Bool.{and_parts}
use Rattle.pdcp_pdu.specs.declared.pdu.PdcpKind.{PdcpKind}
use Rattle.pdcp_tx_store.specs.declared.given.Sent.{Sent}
use Rattle.pdcp_tx_store.specs.Waiting.{Waits}
use Rattle.pdcp_tx.specs.Runs.{Take as TakePdcp}
use Rattle.pdcp_tx.specs.State.{State as Sending, Offer, offers, owed_offers, again_offer, new_offers}
use Rattle.pdcp_tx.specs.State.{taking as taking_next}
use Rattle.pdcp_tx.specs.declared.sender.Next.{Next}
use Rattle.rlc_queue.specs.NewPdu.{room, may_follow, rest, fits_more}
use Rattle.rlc_queue.specs.Waiting.{total, behind}
use Rattle.rlc_um.specs.Sender.{Sender, Turn, Gives, IsIdle, IsHeld, IsSmall, turn, after_turn, head_of, is_held}
use Rattle.rlc_um.specs.Sender.{is_hungry, after_take}
use Rattle.bearer_pdcp.specs.Ends.{Ends}
use Rattle.bearer_pdcp.specs.Taking.{taken as pdcp_taken, after_taking as after_pdcp}
use Rattle.bearer.specs.Unacknowledged.State.{State}
use Rattle.bearer.specs.Unacknowledged.Taking.{Feeding, given_to, fed, feeds, feeding, size_in, after_taking}
use Rattle.law_pdcp.specs.OneEnd.Lives.{Calls}
use Rattle.law_drain.specs.Left.{AllSent, AllWaiting}
use Rattle.law_drain.specs.Unsent.{report_octets, offer_octets, given_by}
use Rattle.law_drain.proofs.BearerDues.{octets_of, taking_few}
use Rattle.law_drain.proofs.Fitting.{MayBeSubmitted, took-owed, extra-most}
use Rattle.law_drain.proofs.Keeping.{Keeps, step-keeps, front-waiting}
use Rattle.law_drain.proofs.Queues.{rest_total}

abbrev pub IsRest : List (List ℕ) → Type 0
IsRest sdus = (length sdus ≤ 1) × (total sdus ≤ 8193)

-- ---- behind a PDU

behind-short : (n : ℕ) (x : List ℕ) (xs : List (List ℕ)) → length (behind n (x ∷ xs)) ≤ length (x ∷ xs)
behind-short n x xs = by (nat_lt n (length x))
  where
    by : (b : Bool) → length (if b then drop n x ∷ xs else xs) ≤ length (x ∷ xs)
    by true = omega arith
    by false = omega arith

rest-short : (head size count used : ℕ) (sdus : List (List ℕ))
    → length (rest head size count used sdus) ≤ length sdus
rest-short head size count used [] = omega arith
rest-short head size count used (x ∷ xs) =
    by (room head size count used == 0) (may_follow (room head size count used) x)
    (rest-short head size (count + 1) (used + length x) xs)
  where
    by : (a b : Bool) → length (rest head size (count + 1) (used + length x) xs) ≤ length xs
        → length (if a then x ∷ xs else if b then rest head size (count + 1) (used + length x) xs
        else behind (room head size count used) (x ∷ xs)) ≤ length (x ∷ xs)
    by true b ih = omega arith
    by false true ih = omega (arith, ih)
    by false false ih = behind-short (room head size count used) x xs

pub rest-rest : (head size count used : ℕ) (sdus : List (List ℕ)) → IsRest sdus
    → IsRest (rest head size count used sdus)
rest-rest head size count used sdus h = (
  omega (arith, rest-short head size count used sdus, h.0),
  omega (arith, rest_total head size count used sdus, h.1),
)

-- all but the last one go into it
pub fits-rest : (head size count used : ℕ) (xs : List (List ℕ)) (y : List ℕ) → length y ≤ 8193
    → fits_more head size count used xs ≡ true → IsRest (rest head size count used (xs ++ y ∷ []))
fits-rest head size count used [] y short e =
    rest-rest head size count used (y ∷ []) (omega arith, omega (arith, short))
fits-rest head size count used (x ∷ xs) y short e =
    by (room head size count used == 0) (may_follow (room head size count used) x)
    (fits_more head size (count + 1) (used + length x) xs) (room head size count used) refl e
    (fits-rest head size (count + 1) (used + length x) xs y short)
  where
    by : (z f more : Bool) (space : ℕ) → (space == 0) ≡ z → (f && nat_lt 0 space && more) ≡ true
        → (more ≡ true → IsRest (rest head size (count + 1) (used + length x) (xs ++ y ∷ [])))
        → IsRest (if z then x ∷ (xs ++ y ∷ []) else if f
        then rest head size (count + 1) (used + length x) (xs ++ y ∷ [])
        else behind space (x ∷ (xs ++ y ∷ [])))
    by true true true space ez all ih = absurd (grind (arith, nat_tests, ez, all))
    by true true false space ez all ih = absurd (grind (arith, nat_tests, ez, all))
    by true false more space ez all ih = absurd (grind (arith, nat_tests, ez, all))
    by false true true space ez all ih = ih refl
    by false true false space ez all ih = absurd (grind (arith, nat_tests, all))
    by false false more space ez all ih = absurd (grind (arith, nat_tests, all))

-- there is room for an octet
pub has-room : (head size : ℕ) (xs : List (List ℕ)) → fits_more head size 0 0 xs ≡ true → nat_lt size (head + 1) ≡ false
has-room head size [] e = grind (arith, nat_tests, e)
has-room head size (x ∷ xs) e =
    by (may_follow (room head size 0 0) x) (fits_more head size (0 + 1) (0 + length x) xs) e
  where
    by : (f more : Bool) → (f && nat_lt 0 (room head size 0 0) && more) ≡ true → nat_lt size (head + 1) ≡ false
    by true true all = grind (arith, nat_tests, all)
    by true false all = absurd (grind (arith, nat_tests, all))
    by false more all = absurd (grind (arith, nat_tests, all))

-- ---- PDUs of PDCP are short

pub record GivesShort (s : Sending) : Type 0 where
  pub sdus : Keeps MayBeSubmitted s
  pub report : report_octets s.owed ≤ 8193

first-short : (kind : PdcpKind) (o : Option (List ℕ)) (ss : List Sent) (n : ℕ) (ws : List Waits)
    → report_octets o ≤ 8193 → AllSent MayBeSubmitted ss → AllWaiting MayBeSubmitted ws
    → offer_octets kind (slice_get (owed_offers o ++ map again_offer ss ++ new_offers n ws) 0) ≤ 8193
first-short kind (Some pdu) ss n ws few hs hw = few
first-short kind None (s ∷ ss) n ws few hs hw = omega (arith, hs.0.1, extra-most kind)
first-short kind None [] n (w ∷ ws) few hs hw = omega (arith, hw.0.1, extra-most kind)
first-short kind None [] n [] few hs hw = omega arith

pub taken-short : (s : Sending) → GivesShort s → octets_of (taking_next s) ≤ 8193
unfolding offers
taken-short s h =
    let n = s.bound - s.next in
    let first : given_by s TakePdcp ≤ 8193 =
    first-short s.kind s.owed s.again s.next (take n s.waiting) h.report h.sdus.again
    (front-waiting MayBeSubmitted n s.waiting h.sdus.waiting) in
    omega (arith, taking_few s, first)

pub still-short : (e : Ends) → GivesShort e.tx → GivesShort (after_pdcp e).tx
unfolding after_pdcp
still-short e h = record {
  sdus = step-keeps MayBeSubmitted e.tx (Calls TakePdcp) tt h.sdus;
  report = let few = took-owed e.tx in omega (arith, few, h.report);
}

-- ---- RLC takes what PDCP has

-- a PDU of a size that is taken then leaves a rest
record Leaves (size : ℕ) (held : Option ℕ) (s : Sender) : Type 0 where
  free : is_held held s ≡ false
  wide : nat_lt size (head_of s.bits + 1) ≡ false
  left : IsRest (rest (head_of s.bits) size 0 0 s.waiting.sdus)

held-same : (held : Option ℕ) (s : Sender) (pdu : List ℕ) → is_held held (given_to (Some pdu) s) ≡ is_held held s
held-same None s pdu = refl
held-same (Some number) s pdu = refl

unheld : (b : Bool) → not b ≡ true → b ≡ false
unheld true e = let no : false ≡ true = e in cc
unheld false e = refl

given-leaves : (o : Option Next) (size : ℕ) (held : Option ℕ) (s : Sender) → is_hungry s size held ≡ true
    → octets_of o ≤ 8193
    → (given_to (option_map (λ (n : Next). n.octets) o) s ≡ s)
    ⊎ Leaves size held (given_to (option_map (λ (n : Next). n.octets) o) s)
given-leaves None size held s e short = inl refl
given-leaves (Some next) size held s e short =
    let parts = and_parts (not (is_held held s)) (fits_more (head_of s.bits) size 0 0 s.waiting.sdus) e in
    inr (record {
      free = held-same held s next.octets ∙ unheld (is_held held s) parts.0;
      wide = has-room (head_of s.bits) size s.waiting.sdus parts.1;
      left = fits-rest (head_of s.bits) size 0 0 s.waiting.sdus next.octets short parts.1;
    })

feeds-leave : (os : List Offer) (size : ℕ) (held : Option ℕ) (f : Feeding) → GivesShort f.pdcp.tx
    → ((feeds os size held f).tx ≡ f.tx) ⊎ Leaves size held (feeds os size held f).tx
unfolding pdcp_taken
feeds-leave [] size held f h = inl refl
feeds-leave (o ∷ os) size held f h =
    by (is_hungry f.tx size held) refl (feeds-leave os size held (fed f) (still-short f.pdcp h))
  where
    one : is_hungry f.tx size held ≡ true → ((fed f).tx ≡ f.tx) ⊎ Leaves size held (fed f).tx
    one e = given-leaves (taking_next f.pdcp.tx) size held f.tx e (taken-short f.pdcp.tx h)

    by : (b : Bool) → is_hungry f.tx size held ≡ b
        → ((feeds os size held (fed f)).tx ≡ (fed f).tx) ⊎ Leaves size held (feeds os size held (fed f)).tx
        → ((if b then feeds os size held (fed f) else f).tx ≡ f.tx)
        ⊎ Leaves size held (if b then feeds os size held (fed f) else f).tx
    by false e more = inl refl
    by true e (inr left') = inr left'
    by true e (inl same) = elim (one e) [
      | inl none ↦ inl (same ∙ none)
      | inr some ↦ inr (subst (Leaves size held) (sym same) some)
    ]

-- ---- and then a PDU

pub none-total : (sdus : List (List ℕ)) → length sdus ≡ 0 → IsRest sdus
none-total [] e = (omega arith, omega arith)
none-total (x ∷ xs) e = absurd (omega (arith, e))

turn-rest : (t : Turn) (s : Sender) (size : ℕ) → IsRest s.waiting.sdus → IsRest (after_turn t s size).waiting.sdus
turn-rest Gives s size h = rest-rest (head_of s.bits) size 0 0 s.waiting.sdus h
turn-rest IsIdle s size h = h
turn-rest IsHeld s size h = h
turn-rest IsSmall s size h = h

leaves-rest : (s : Sender) (size : ℕ) (held : Option ℕ) → Leaves size held s
    → IsRest (after_turn (turn s size held) s size).waiting.sdus
leaves-rest s size held l =
    by (length s.waiting.sdus == 0) (is_held held s) (nat_lt size (head_of s.bits + 1)) refl l.free l.wide
  where
    by : (a b c : Bool) → (length s.waiting.sdus == 0) ≡ a → b ≡ false → c ≡ false
        → IsRest
        (after_turn (if a then IsIdle else if b then IsHeld else if c then IsSmall else Gives) s size).waiting.sdus
    by true b c e free wide = none-total s.waiting.sdus (grind (arith, nat_tests, e))
    by false true c e free wide = let no : true ≡ false = free in cc
    by false false true e free wide = let no : true ≡ false = wide in cc
    by false false false e free wide = l.left

pub um-rest : (b : State) (share : ℕ) (held : Option ℕ) → GivesShort b.pdcp.tx → IsRest b.tx.waiting.sdus
    → IsRest (after_taking b share held).tx.waiting.sdus
unfolding after_taking after_take
um-rest b share held h r =
    let f = feeding b share held in
    let size = size_in share in
    elim (feeds-leave (offers b.pdcp.tx) size held (record { pdcp = b.pdcp; tx = b.tx; events = [] }) h) [
      | inl same ↦ turn-rest (turn f.tx size held) f.tx size
          (subst (λ (s : Sender). IsRest s.waiting.sdus) (sym same) r)
      | inr left' ↦ leaves-rest f.tx size held left'
    ]
