-- A bearer that needs some of a grant writes a PDU within a share of 8 octets.
use Rattle.std.proofs.Common.{◌≡◌, ◌<◌, ◌≤◌, ℕ, ◌+◌, ◌-◌, ◌^◌, ◌==◌, Bool, true, false, ◌&&◌}
use Rattle.std.proofs.Common.{if◌then◌else◌, List, [], ◌∷◌, ◌++◌, length, min, Option, Some, None, option_map, refl, ap}
use Rattle.std.proofs.Common.{sym}
use Rattle.std.proofs.Common.{subst, ◌∙◌, arith, nat_le, nat_lt, length-append}
use Rattle.std.proofs.lemmas.Grind.{common_steps}
use Rattle.std.proofs.lemmas.Bool.Decides.{nat_tests}
use Rattle.std.specs.Prelude.{slice_get, is_some}
use Rattle.bearer.specs.Acknowledged.State.{State, Work, work, has_more}
use Rattle.bearer.specs.Acknowledged.Sums.{need as am_need, pdcp_waiting, status_need}
use Rattle.bearer.specs.Acknowledged.Taking.{status_pdus, status_told, data_size}
use Rattle.bearer.specs.Acknowledged.Taking.{has_prohibit}
use Rattle.bearer.specs.Acknowledged.Taking.{given_to, fed, feeds, feeding, answer as am_answer, pdus as am_pdus}
use Rattle.bearer.specs.Sums.{need}
use Rattle.bearer.specs.Taking.{pdus}
use Rattle.bearer.specs.Unacknowledged.State.{State as UmState}
use Rattle.bearer.specs.Unacknowledged.Taking.{Feeding, given_to as um_given_to, fed as um_fed, feeds as um_feeds}
use Rattle.bearer.specs.Unacknowledged.Taking.{feeding as um_feeding, answer as um_answer, size_in}
use Rattle.bearer.specs.declared.flow.Flow.TheVariants.{Tm, Um, Am}
use Rattle.bearer_pdcp.specs.Ends.{Ends}
use Rattle.bearer_pdcp.specs.Taking.{taken}
use Rattle.bearer_pdcp.specs.Telling.{pdus_of}
use Rattle.pdcp_tx.specs.State.{Offer, offers, taking}
use Rattle.rlc_am_rx.specs.Status.{may_write}
use Rattle.rlc_am_tx_window.specs.Sent.{Sent, all_wait, whole_size}
use Rattle.rlc_am_tx_window.specs.Window.{TxWindow, next, slot_at, leading_idle, some_wait}
use Rattle.rlc_am_tx.specs.declared.turn.Turn.{Turn}
use Rattle.rlc_am_tx.specs.declared.turn.Turn.TheVariants as turns
use Rattle.rlc_am_tx.specs.Machine.{State as Sender, waits, is_shut, is_held, again, resend_turn}
use Rattle.rlc_am_tx.specs.Machine.{turn, answer_of}
use Rattle.rlc_am_tx.specs.Need.{data_need, hungry}
use Rattle.rlc_queue.specs.Waiting.{wanted}
use Rattle.rlc_queue.specs.NewPdu.{fits_more}
use Rattle.rlc_um.specs.Sender.{Sender as UmSender, is_held as um_is_held, is_hungry, need as um_need, head_of}
use Rattle.rlc_um.specs.Sender.{width_of}
use Rattle.rlc_um.specs.Sender.{taken as um_taken}
use Rattle.rlc_um.specs.Transparent.{Transparent, taken as tm_taken, need as tm_need, needed, first_of}
use Rattle.law_drain.specs.Grants.{SharesAreUsed}

-- ---- transparent mode

first-fits : (sdus : List (List ℕ)) (number grant share : ℕ) → grant ≤ 9422
    → 0 < needed grant (option_map length (slice_get sdus 0))
    → share ≡ needed grant (option_map length (slice_get sdus 0))
    → 0 < length (pdus_of (first_of number (share - 3) sdus))
first-fits [] number grant share few some same = absurd (omega (arith, some))
first-fits (sdu ∷ sdus) number grant share few some same = by (nat_lt (grant + 2) (3 + length sdu)) refl
  where
    by : (b : Bool) → nat_lt (grant + 2) (3 + length sdu) ≡ b
        → 0 < length (pdus_of (first_of number (share - 3) (sdu ∷ sdus)))
    by true e =
        let none : share ≡ 0 = same ∙ rw e refl in
        absurd (omega (arith, none, some, same))
    by false e =
        let all : share ≡ min (3 + length sdu) (2 ^ 32 - 1) = same ∙ rw e refl in
        let fits : nat_lt (share - 3) (length sdu) ≡ false = grind (arith, nat_tests, all, few, e) in
        rw fits (omega arith)

pub tm-used : (b : Transparent) (grant share : ℕ) → grant ≤ 9422 → 0 < tm_need b grant → share ≡ tm_need b grant
    → 0 < length (pdus_of (tm_taken b (share - 3)))
unfolding tm_taken
tm-used b grant share few some same = first-fits b.waiting b.next grant share few some same

-- ---- what PDCP gives is there

some-taken : (e : Ends) (o : Offer) (os : List Offer) → offers e.tx ≡ o ∷ os → is_some (taken e) ≡ true
unfolding taken taking
some-taken e o os same = rw same refl

no-offers : (e : Ends) → offers e.tx ≡ [] → pdcp_waiting e ≡ 0
no-offers e same = rw same refl

-- ---- unacknowledged mode

filled : (sdus : List (List ℕ)) (sdu : List ℕ) → 0 < length (sdus ++ sdu ∷ [])
filled sdus sdu = omega (arith, length-append sdus (sdu ∷ []))

um-kept-by : (o : Option (List ℕ)) (s : UmSender) → 0 < length s.waiting.sdus
    → 0 < length (um_given_to o s).waiting.sdus
um-kept-by None s some = some
um-kept-by (Some pdu) s some = filled s.waiting.sdus pdu

um-some : (o : Option (List ℕ)) (s : UmSender) → is_some o ≡ true → 0 < length (um_given_to o s).waiting.sdus
um-some None s e = let no' : false ≡ true = e in cc
um-some (Some pdu) s e = filled s.waiting.sdus pdu

record UmStays (s t : UmSender) : Type 0 where
  bits : t.bits ≡ s.bits
  next' : t.next ≡ s.next

um-given : (o : Option (List ℕ)) (s : UmSender) → UmStays s (um_given_to o s)
um-given None s = record { bits = refl; next' = refl }
um-given (Some pdu) s = record { bits = refl; next' = refl }

um-kept : (os : List Offer) (size : ℕ) (held : Option ℕ) (f : Feeding) → 0 < length f.tx.waiting.sdus
    → 0 < length (um_feeds os size held f).tx.waiting.sdus
um-kept [] size held f some = some
um-kept (o ∷ os) size held f some =
    by (is_hungry f.tx size held) (um-kept os size held (um_fed f) (um-kept-by (taken f.pdcp) f.tx some))
  where
    by : (b : Bool) → 0 < length (um_feeds os size held (um_fed f)).tx.waiting.sdus
        → 0 < length (if b then um_feeds os size held (um_fed f) else f).tx.waiting.sdus
    by true more = more
    by false more = some

um-stays : (os : List Offer) (size : ℕ) (held : Option ℕ) (f : Feeding) → UmStays f.tx (um_feeds os size held f).tx
um-stays [] size held f = record { bits = refl; next' = refl }
um-stays (o ∷ os) size held f = by (is_hungry f.tx size held) (um-stays os size held (um_fed f))
  where
    by : (b : Bool) → UmStays (um_fed f).tx (um_feeds os size held (um_fed f)).tx
        → UmStays f.tx (if b then um_feeds os size held (um_fed f) else f).tx
    by true more =
        let one = um-given (taken f.pdcp) f.tx in
        record { bits = more.bits ∙ one.bits; next' = more.next' ∙ one.next' }
    by false more = record { bits = refl; next' = refl }

head-few : (bits : ℕ) → head_of bits ≤ 2
head-few bits = by (bits == 5)
  where
    by : (b : Bool) → (if b then 1 else 2) ≤ 2
    by true = omega arith
    by false = omega arith

fits-one : (head size : ℕ) → head ≤ 2 → 3 ≤ size → fits_more head size 0 0 [] ≡ true
fits-one head size few some = grind (arith, nat_tests, few, some)

-- RLC has something to send, where PDCP has
um-filled : (b : UmState) (os : List Offer) (size : ℕ) (held : Option ℕ) → offers b.pdcp.tx ≡ os → 3 ≤ size
    → um_is_held held b.tx ≡ false → 0 < pdcp_waiting b.pdcp + wanted b.tx.waiting.sdus
    → 0 < length (um_feeds os size held (record { pdcp = b.pdcp; tx = b.tx; events = [] })).tx.waiting.sdus
um-filled b os size held same three free some = by b.tx.waiting.sdus refl
  where
    start : Feeding
    start = record { pdcp = b.pdcp; tx = b.tx; events = [] }

    first' : (qs : List Offer) → offers b.pdcp.tx ≡ qs → 0 < pdcp_waiting b.pdcp → b.tx.waiting.sdus ≡ []
        → 0 < length (um_feeds qs size held start).tx.waiting.sdus
    first' [] q w none = absurd (omega (arith, w, no-offers b.pdcp q))
    first' (o ∷ qs) q w none =
        let hungers : is_hungry b.tx size held ≡ true =
        rw (free, none) (fits-one (head_of b.tx.bits) size (head-few b.tx.bits) three) in
        rw hungers
        (um-kept qs size held (um_fed start) (um-some (taken b.pdcp) b.tx (some-taken b.pdcp o qs q)))

    by : (sdus : List (List ℕ)) → b.tx.waiting.sdus ≡ sdus → 0 < length (um_feeds os size held start).tx.waiting.sdus
    by [] e =
        let none : wanted b.tx.waiting.sdus ≡ 0 = rw e refl in
        first' os same (omega (arith, some, none)) e
    by (x ∷ xs) e = um-kept os size held start (subst (λ (ss : List (List ℕ)). 0 < length ss) (sym e) (omega arith))

um-gives : (s : UmSender) (size : ℕ) (held : Option ℕ) → 0 < length s.waiting.sdus → um_is_held held s ≡ false
    → 3 ≤ size → 0 < length (pdus_of (um_taken s size held))
unfolding um_taken
um-gives s size held some free three =
    let fill : (length s.waiting.sdus == 0) ≡ false = grind (arith, nat_tests, some) in
    let large : nat_lt size (head_of s.bits + 1) ≡ false = grind (arith, nat_tests, three, head-few s.bits) in
    rw (fill, free, large) (omega arith)

held-same : (held : Option ℕ) (s t : UmSender) → UmStays s t → um_is_held held t ≡ um_is_held held s
held-same None s t e = refl
held-same (Some number) s t e =
    ap (λ (bits : ℕ). nat_le (number + width_of bits) t.next) e.bits
    ∙ ap (λ (n : ℕ). nat_le (number + width_of s.bits) n) e.next'

-- 6 octets are enough: the subheader, and a PDU of 3
pub um-used : (b : UmState) (share : ℕ) (held : Option ℕ) → 0 < um_need b.tx (pdcp_waiting b.pdcp) held → 6 ≤ share
    → 0 < length (pdus_of (um_answer b share held))
unfolding um_answer
um-used b share held some six =
    by (um_is_held held b.tx) (pdcp_waiting b.pdcp + wanted b.tx.waiting.sdus == 0) refl refl
  where
    by : (h z : Bool) → um_is_held held b.tx ≡ h → (pdcp_waiting b.pdcp + wanted b.tx.waiting.sdus == 0) ≡ z
        → 0 < length (pdus_of (um_taken (um_feeding b share held).tx (size_in share) held))
    by true z e q =
        let none : um_need b.tx (pdcp_waiting b.pdcp) held ≡ 0 = rw e refl in absurd (omega (arith, none, some))
    by false true e q =
        let none : um_need b.tx (pdcp_waiting b.pdcp) held ≡ 0 = rw (e, q) refl in absurd (omega (arith, none, some))
    by false false e q =
        um-gives (um_feeding b share held).tx (size_in share) held
        (um-filled b (offers b.pdcp.tx) (size_in share) held refl (omega (arith, six)) e
        (grind (arith, nat_tests, q)))
        (held-same held b.tx (um_feeding b share held).tx
        (um-stays (offers b.pdcp.tx) (size_in share) held (record { pdcp = b.pdcp; tx = b.tx; events = [] })) ∙ e)
        (omega (arith, six))

-- ---- acknowledged mode

record Stays (s t : Sender) : Type 0 where
  window : t.window ≡ s.window
  failed : t.failed ≡ s.failed

given-stays : (o : Option (List ℕ)) (s : Sender) → Stays s (given_to o s)
given-stays None s = record { window = refl; failed = refl }
given-stays (Some pdu) s = record { window = refl; failed = refl }

feeds-stay : (os : List Offer) (size : ℕ) (held : Option ℕ) (w : Work) → Stays w.tx (feeds os size held w).tx
feeds-stay [] size held w = record { window = refl; failed = refl }
feeds-stay (o ∷ os) size held w = by (hungry w.tx size held) (feeds-stay os size held (fed w))
  where
    by : (b : Bool) → Stays (fed w).tx (feeds os size held (fed w)).tx
        → Stays w.tx (if b then feeds os size held (fed w) else w).tx
    by true more =
        let one = given-stays (taken w.pdcp) w.tx in
        record { window = more.window ∙ one.window; failed = more.failed ∙ one.failed }
    by false more = record { window = refl; failed = refl }

kept-by : (o : Option (List ℕ)) (s : Sender) → 0 < length s.queue.sdus → 0 < length (given_to o s).queue.sdus
kept-by None s some = some
kept-by (Some pdu) s some = filled s.queue.sdus pdu

given-some : (o : Option (List ℕ)) (s : Sender) → is_some o ≡ true → 0 < length (given_to o s).queue.sdus
given-some None s e = let no' : false ≡ true = e in cc
given-some (Some pdu) s e = filled s.queue.sdus pdu

feeds-keep : (os : List Offer) (size : ℕ) (held : Option ℕ) (w : Work) → 0 < length w.tx.queue.sdus
    → 0 < length (feeds os size held w).tx.queue.sdus
feeds-keep [] size held w some = some
feeds-keep (o ∷ os) size held w some =
    by (hungry w.tx size held) (feeds-keep os size held (fed w) (kept-by (taken w.pdcp) w.tx some))
  where
    by : (b : Bool) → 0 < length (feeds os size held (fed w)).tx.queue.sdus
        → 0 < length (if b then feeds os size held (fed w) else w).tx.queue.sdus
    by true more = more
    by false more = some

-- a data PDU
abbrev pub IsSent : Turn → Type 0
IsSent turns.Whole = Unit {0}
IsSent turns.Part = Unit {0}
IsSent turns.New = Unit {0}
IsSent turns.Idle = ⊥
IsSent turns.Stopped = ⊥
IsSent turns.Small = ⊥
IsSent turns.Shut = ⊥
IsSent turns.Held = ⊥

sent-pdus : (t : Turn) (s : Sender) (size : ℕ) (more : Bool) → IsSent t → 0 < length (pdus_of (answer_of t s size more))
unfolding answer_of
sent-pdus turns.Whole s size more h = omega arith
sent-pdus turns.Part s size more h = omega arith
sent-pdus turns.New s size more h = omega arith
sent-pdus turns.Idle s size more h = absurd h
sent-pdus turns.Stopped s size more h = absurd h
sent-pdus turns.Small s size more h = absurd h
sent-pdus turns.Shut s size more h = absurd h
sent-pdus turns.Held s size more h = absurd h

pub resends : (h : Sent) (size : ℕ) → 5 ≤ size → IsSent (resend_turn h size)
resends h size five = by (all_wait h && nat_le (whole_size h) size)
  where
    large : nat_le 5 size ≡ true
    large = grind (arith, nat_tests, five)

    by : (b : Bool) → IsSent (if b then turns.Whole else if nat_le 5 size then turns.Part else turns.Small)
    by true = tt
    by false = rw large tt

again-turn : (s : Sender) (size : ℕ) (held : Option ℕ) (more : Bool) → s.failed ≡ false → waits s ≡ true
    → IsSent (resend_turn (again s) size) → IsSent (turn s size held more)
unfolding turn
again-turn s size held more go w goes = rw (w, go) goes

new-turn : (s : Sender) (size : ℕ) (held : Option ℕ) (more : Bool) → s.failed ≡ false → waits s ≡ false
    → is_shut s ≡ false → is_held held (next s.window) ≡ false → 0 < length s.queue.sdus → 3 ≤ size
    → IsSent (turn s size held more)
unfolding turn
new-turn s size held more go w shut free some three =
    let fill : (length s.queue.sdus == 0) ≡ false = grind (arith, nat_tests, some) in
    let large : nat_lt size 3 ≡ false = grind (arith, nat_tests, three) in
    rw (w, fill, go, shut, free, large) tt

-- what needs an octet of a data PDU
pub record Needs (s : Sender) (held : Option ℕ) (waiting : ℕ) : Type 0 where
  pub failed : s.failed ≡ false
  pub shut : waits s ≡ false → is_shut s ≡ false
  pub free : waits s ≡ false → is_held held (next s.window) ≡ false
  pub some : waits s ≡ false → 0 < wanted s.queue.sdus + waiting

pub needs-of : (s : Sender) (waiting : ℕ) (held : Option ℕ) → 0 < data_need s waiting held → Needs s held waiting
unfolding data_need
needs-of s waiting held some = record {
  failed = grind (arith, nat_tests, common_steps, some);
  shut = λ w. grind (arith, nat_tests, common_steps, some, w);
  free = λ w. grind (arith, nat_tests, common_steps, some, w);
  some = λ w. grind (arith, nat_tests, common_steps, some, w);
}

hungers : (s : Sender) (size : ℕ) (held : Option ℕ) (waiting : ℕ) → waits s ≡ false → Needs s held waiting
    → s.queue.sdus ≡ [] → 3 ≤ size → hungry s size held ≡ true
unfolding hungry
hungers s size held waiting still n none three =
    rw (n.failed, still, n.shut still, n.free still, none) (fits-one 2 size (omega arith) three)

am-filled : (b : State) (os : List Offer) (size : ℕ) (held : Option ℕ) (w : Work) → w.pdcp ≡ b.pdcp → w.tx ≡ b.tx
    → offers b.pdcp.tx ≡ os → 3 ≤ size → waits b.tx ≡ false → Needs b.tx held (pdcp_waiting b.pdcp)
    → 0 < length (feeds os size held w).tx.queue.sdus
am-filled b os size held w p t same three still n = by b.tx.queue.sdus refl
  where
    first' : (qs : List Offer) → offers b.pdcp.tx ≡ qs → 0 < pdcp_waiting b.pdcp → b.tx.queue.sdus ≡ []
        → 0 < length (feeds qs size held w).tx.queue.sdus
    first' [] q wants none = absurd (omega (arith, wants, no-offers b.pdcp q))
    first' (o ∷ qs) q wants none = step (hungry w.tx size held)
        (ap (λ (s : Sender). hungry s size held) t ∙ hungers b.tx size held (pdcp_waiting b.pdcp) still n none three)
      where
        there : 0 < length (fed w).tx.queue.sdus
        there = given-some (taken w.pdcp) w.tx (ap (λ (e : Ends). is_some (taken e)) p ∙ some-taken b.pdcp o qs q)

        step : (h : Bool) → h ≡ true → 0 < length (if h then feeds qs size held (fed w) else w).tx.queue.sdus
        step true e = feeds-keep qs size held (fed w) there
        step false e = let no' : false ≡ true = e in cc

    by : (sdus : List (List ℕ)) → b.tx.queue.sdus ≡ sdus → 0 < length (feeds os size held w).tx.queue.sdus
    by [] e =
        let none : wanted b.tx.queue.sdus ≡ 0 = rw e refl in
        first' os same (omega (arith, n.some still, none)) e
    by (x ∷ xs) e =
        feeds-keep os size held w
        (subst (λ (s : Sender). 0 < length s.queue.sdus) (sym t)
        (subst (λ (ss : List (List ℕ)). 0 < length ss) (sym e) (omega arith)))

-- the octets that a data PDU needs
pub record FitsData (s : Sender) (size : ℕ) : Type 0 where
  pub resent : waits s ≡ true → IsSent (resend_turn (again s) size)
  pub new : waits s ≡ false → 3 ≤ size

data-sent : (b : State) (size : ℕ) (held : Option ℕ) (w : Work) (more : Bool) → w.pdcp ≡ b.pdcp → w.tx ≡ b.tx
    → FitsData b.tx size → Needs b.tx held (pdcp_waiting b.pdcp)
    → IsSent (turn (feeds (offers b.pdcp.tx) size held w).tx size held more)
data-sent b size held w more p t wide n = by (waits b.tx) refl
  where
    v : Sender
    v = (feeds (offers b.pdcp.tx) size held w).tx

    stays : Stays w.tx v
    stays = feeds-stay (offers b.pdcp.tx) size held w

    window : v.window ≡ b.tx.window
    window = stays.window ∙ ap (λ (s : Sender). s.window) t

    go : v.failed ≡ false
    go = stays.failed ∙ ap (λ (s : Sender). s.failed) t ∙ n.failed

    same : waits v ≡ waits b.tx
    same = ap (λ (x : TxWindow). some_wait x.slots) window

    by : (q : Bool) → waits b.tx ≡ q → IsSent (turn v size held more)
    by true e =
        again-turn v size held more go (same ∙ e)
        (subst (λ (x : TxWindow). IsSent (resend_turn (slot_at x.slots (leading_idle x.slots)) size)) (sym window)
        (wide.resent e))
    by false e =
        new-turn v size held more go (same ∙ e)
        (ap (λ (x : TxWindow). length x.slots == 512) window ∙ n.shut e)
        (ap (λ (x : TxWindow). is_held held (next x)) window ∙ n.free e)
        (am-filled b (offers b.pdcp.tx) size held w p t refl (wide.new e) e n) (wide.new e)

some-more : (xs ys : List (List ℕ)) → 0 < length ys → 0 < length (xs ++ ys)
some-more xs ys some = omega (arith, length-append xs ys, some)

-- in a share that a STATUS fits into which is due, and else a data PDU
pub am-sends : (b : State) (share : ℕ) (held : Option ℕ) → 0 < am_need b held → (may_write b.rx ≡ true → 5 ≤ share)
    → (may_write b.rx ≡ false → FitsData b.tx (share - 3)) → 0 < length (am_pdus b share held)
unfolding am_need am_pdus am_answer
am-sends b share held some status wide = by (may_write b.rx) refl
  where
    by : (due : Bool) → may_write b.rx ≡ due
        → 0 < length (status_pdus b.rx share
        ++ pdus_of (answer_of
        (turn (feeding b share held).tx (data_size b share) held (has_more (feeding b share held).pdcp))
        (feeding b share held).tx (data_size b share) (has_more (feeding b share held).pdcp)))
    by true e =
        let five : nat_le 5 share ≡ true = grind (arith, nat_tests, status e) in
        rw (e, five) (omega arith)
    by false e =
        let none : status_need b ≡ 0 = rw e refl in
        let n = needs-of b.tx (pdcp_waiting b.pdcp) held (omega (arith, some, none)) in
        let size : share - 3 ≡ data_size b share = rw e refl in
        some-more (status_pdus b.rx share) _
        (sent-pdus (turn (feeding b share held).tx (data_size b share) held (has_more (feeding b share held).pdcp))
        (feeding b share held).tx (data_size b share) (has_more (feeding b share held).pdcp)
        (data-sent b (data_size b share) held
        (work b.pdcp b.tx (status_told b.pdcp.lcid (has_prohibit b) b.rx share))
        (has_more (feeding b share held).pdcp) refl refl (subst (FitsData b.tx) size (wide e)) n))

am-used : (b : State) (share : ℕ) (held : Option ℕ) → 0 < am_need b held → 8 ≤ share
    → 0 < length (am_pdus b share held)
am-used b share held some eight =
    am-sends b share held some (λ due. omega (arith, eight))
    (λ rests. record {
      resent = λ w. resends (again b.tx) (share - 3) (omega (arith, eight));
      new = λ w. omega (arith, eight);
    })

pub shares_are_used : SharesAreUsed
unfolding need pdus
shares_are_used (Tm b) grant held share few some enough = tm-used b grant share few some enough
shares_are_used (Um b) grant held share few some enough = um-used b share held some (omega (arith, enough))
shares_are_used (Am b) grant held share few some enough = am-used b share held some enough
