-- An end of a channel has so little still to send that no sum of 64 bits is cut.
use Rattle.std.proofs.Common.{◌≡◌, ◌≤◌, ◌<◌, ℕ, zero, suc, ◌+◌, ◌-◌, ◌*◌, ◌^◌, Bool, true, false, if◌then◌else◌, List}
use Rattle.std.proofs.Common.{[], ◌∷◌, length, ap, sym, subst, ◌∙◌, arith}
use Rattle.std.proofs.Math.Nat.{mul-le-mul_left}
use Rattle.std.specs.List.{AllByRecursion}
use Rattle.l2_types.specs.declared.config.AmTxConfig.{AmTxConfig}
use Rattle.bearer_pdcp.specs.Ends.{Ends}
use Rattle.pdcp_pdu.specs.Kinds.{is_am}
use Rattle.pdcp_rx.specs.State.{width}
use Rattle.pdcp_tx_store.specs.Given.{data_of}
use Rattle.pdcp_tx_store.specs.declared.given.Sent.{Sent as Given_sdu}
use Rattle.pdcp_tx_store.specs.Waiting.{Waits}
use Rattle.pdcp_tx.specs.Pdus.{extra}
use Rattle.pdcp_tx.specs.State.{State as Sending}
use Rattle.rlc_queue.specs.Waiting.{total}
use Rattle.rlc_am_tx_window.specs.Sent.{Sent}
use Rattle.rlc_am_tx_window.specs.Window.{slot_at}
use Rattle.rlc_am_tx.specs.Machine.{State as Sender, start}
use Rattle.bearer.specs.Acknowledged.State.{State}
use Rattle.bearer.specs.declared.flow.Flow.TheVariants.{Tm, Um, Am}
use Rattle.law_rlc.specs.AmSender.Run.{Call as SenderCall, after as sender_after}
use Rattle.law_rlc.specs.AmSender.Namings.{Marks}
use Rattle.law_rlc.specs.AmSender.Acked.{acked_after}
use Rattle.law_rlc.proofs.AmSender.Least.{Fits, after-fits, fresh-fits}
use Rattle.law_bearer.specs.AnyBearer.Sending.{sends_on}
use Rattle.law_bearer.specs.AmBearer.Sending.{sends_in}
use Rattle.law_bearer.proofs.AmBearer.Sending.{deeds_are_its_calls}
use Rattle.law_drain.specs.Bearer.{marks_behind}
use Rattle.law_drain.specs.Dues.{sum_below, waiting_of, pdu_dues, window_dues, dues}
use Rattle.law_drain.specs.Ends.{HasLived}
use Rattle.law_drain.specs.Few.{IsShortSdu, HasFewSdus, IsShortField, EndMeasuresAreFew}
use Rattle.law_drain.specs.Left.{AllSent, AllWaiting}
use Rattle.law_drain.specs.Unsent.{unsent, again_octets, waiting_octets}
use Rattle.law_drain.proofs.Fitting.{Fits as PdcpFits, MayBeSubmitted, extra-most}
use Rattle.law_drain.proofs.Left.{times-most, config-is}
use Rattle.law_drain.proofs.Sums.{waiting_of_le}

-- ---- PDCP

again-few : (more : ℕ) (ss : List Given_sdu) → more ≤ 5 → AllSent IsShortSdu ss
    → again_octets more ss ≤ 8193 * length ss
again-few more [] le h = omega arith
again-few more (s ∷ ss) le h = omega (arith, le, h.0, again-few more ss le h.1)

waiting-few : (more : ℕ) (ws : List Waits) → more ≤ 5 → AllWaiting IsShortSdu ws
    → waiting_octets more ws ≤ 8193 * length ws
waiting-few more [] le h = omega arith
waiting-few more (w ∷ ws) le h = omega (arith, le, h.0, waiting-few more ws le h.1)

unsent-few : (s : Sending) → HasFewSdus s → unsent s ≤ 8193 * 2 ^ 32 + 8390 * 1024
unsent-few s h =
    omega (
      arith,
      again-few (extra s.kind) s.again (extra-most s.kind) h.short_again,
      waiting-few (extra s.kind) s.waiting (extra-most s.kind) h.short_waiting,
      h.again,
      h.waiting,
      h.report,
    )

-- ---- RLC's window

sum-most : (n most : ℕ) (f : ℕ → ℕ) → ((k : ℕ) → k < n → f k ≤ most) → sum_below n f ≤ n * most
sum-most zero most f h = omega arith
sum-most (suc n) most f h =
    let one : suc n * most ≡ most + n * most = grind arith in
    omega (arith, one, h n (omega arith), sum-most n most f (λ k lt. h k (omega (arith, lt))))

less-some : (m n : ℕ) → m - n ≤ m
less-some m n = omega arith

pdu-few : (most : ℕ) (h : Sent) (waits : ℕ → Bool) (namings : ℕ) → most ≤ 32 → length h.field ≤ 2 ^ 15
    → pdu_dues most h waits namings ≤ 33 * 2 ^ 15
pdu-few most h waits namings few short = by h.acked
  where
    by : (b : Bool) → (if b then 0 else length h.field * (most - namings)) + waiting_of (length h.field) waits
        ≤ 33 * 2 ^ 15
    by true = omega (arith, waiting_of_le (length h.field) waits, short)
    by false =
        let all = mul-le-mul_left (length h.field) (less-some most namings) in
        let flip : length h.field * most ≡ most * length h.field = grind arith in
        omega (arith, waiting_of_le (length h.field) waits, short, all, flip, times-most most 32 (length h.field) few)

at-short : (hs : List Sent) (k : ℕ) → AllByRecursion IsShortField hs → k < length hs
    → length (slot_at hs k).field ≤ 2 ^ 15
at-short [] k h lt = absurd (omega (arith, lt))
at-short (x ∷ xs) zero h lt = omega (arith, h.0)
at-short (x ∷ xs) (suc k) h lt = at-short xs k h.1 (omega (arith, lt))

sends-few : (cs : List SenderCall) (s : Sender) (acked : ℕ → Bool) → Fits s.window acked
    → length (sends_on cs s).window.slots ≤ 512
sends-few [] s acked f = f.few
sends-few (c ∷ cs) s acked f = sends-few cs (sender_after s c) (acked_after s c acked) (after-fits s c acked f)

-- at most as many PDUs as the window has numbers
slots-few : (b : State) → HasLived b → length b.tx.window.slots ≤ 512
slots-few b h =
    let calls = sends_in h.deeds h.origin in
    let run : b.tx ≡ sends_on calls (start h.origin.tx_config) =
    ap (λ (d : State). d.tx) (sym h.is) ∙ deeds_are_its_calls h.origin h.deeds ∙ ap (sends_on calls) h.begins in
    let same = ap (λ (s : Sender). length s.window.slots) run in
    let few = sends-few calls (start h.origin.tx_config) (λ n. false) (fresh-fits h.origin.tx_config) in
    omega (arith, same, few)

dues-few : (s : Sender) (m : Marks) → s.config.max_retx ≤ 32 → total s.queue.sdus ≤ 8193
    → length s.window.slots ≤ 512 → AllByRecursion IsShortField s.window.slots → dues s m ≤ 2 ^ 30
dues-few s m few short slots fields = by s.failed
  where
    most : ℕ
    most = s.config.max_retx

    window : window_dues most s.window m ≤ length s.window.slots * (33 * 2 ^ 15)
    window =
        sum-most (length s.window.slots) (33 * 2 ^ 15)
        (λ k. pdu_dues most (slot_at s.window.slots k) (m.waits (s.window.base + k)) (m.namings (s.window.base + k)))
        (λ k lt. pdu-few most (slot_at s.window.slots k) (m.waits (s.window.base + k)) (m.namings (s.window.base + k))
        few (at-short s.window.slots k fields lt))

    by : (b : Bool) → (if b then 0 else (most + 1) * total s.queue.sdus + window_dues most s.window m) ≤ 2 ^ 30
    by true = omega arith
    by false =
        omega (
          arith,
          window,
          times-most (length s.window.slots) 512 (33 * 2 ^ 15) slots,
          times-most (most + 1) 33 (total s.queue.sdus) (omega (arith, few)),
          short,
        )

-- ---- one end

totals-few : (sdus : List (List ℕ)) → AllByRecursion IsShortSdu sdus → total sdus ≤ 8193 * length sdus
totals-few [] h = omega arith
totals-few (x ∷ xs) h = omega (arith, h.0, totals-few xs h.1)

both-few : (m owed given : ℕ) (failed : Bool) → m ≤ 32 → owed ≤ 2 ^ 30 → given ≤ 8193 * 2 ^ 32 + 8390 * 1024
    → 3 * (owed + (if failed then 0 else (m + 1) * given)) ≤ 2 ^ 53
both-few m owed given true few a b = omega (arith, a)
both-few m owed given false few a b = omega (arith, a, b, times-most (m + 1) 33 given (omega (arith, few)))

pub end_measures_are_few : EndMeasuresAreFew
end_measures_are_few (Tm b) h fits = omega (arith, totals-few b.waiting fits.1, fits.0)
end_measures_are_few (Um b) h fits = omega (arith, unsent-few b.pdcp.tx fits.0, fits.1)
end_measures_are_few (Am b) h fits =
    let few : b.tx.config.max_retx ≤ 32 =
    subst (λ (c : AmTxConfig). c.max_retx ≤ 32) (sym (config-is b h.lived)) fits.1.1.1 in
    both-few b.tx.config.max_retx (dues b.tx (marks_behind h.lived.origin h.lived.deeds)) (unsent b.pdcp.tx)
    b.tx.failed few
    (dues-few b.tx (marks_behind h.lived.origin h.lived.deeds) few fits.1.0 (slots-few b h.lived) fits.1.1.0)
    (unsent-few b.pdcp.tx fits.0)

-- ---- what PDCP at an end keeps

short-sent : (ss : List Given_sdu) → AllSent MayBeSubmitted ss → AllSent IsShortSdu ss
short-sent [] h = tt
short-sent (s ∷ ss) h = (h.0.1, short-sent ss h.1)

short-waiting : (ws : List Waits) → AllWaiting MayBeSubmitted ws → AllWaiting IsShortSdu ws
short-waiting [] h = tt
short-waiting (w ∷ ws) h = (h.0.1, short-waiting ws h.1)

counted : (b : Bool) (few again next : ℕ) → again ≤ few → few ≤ (if b then next else 0) → next ≤ 2 ^ 32
    → again ≤ 2 ^ 32
counted true few again next le h most = omega (arith, le, h, most)
counted false few again next le h most = omega (arith, le, h)

pub fits-few : (e : Ends) → PdcpFits e → width e.rx.kind ≤ 2 ^ 14 → e.tx.next ≤ 2 ^ 32 → length e.tx.waiting ≤ 1024
    → HasFewSdus e.tx
fits-few e h narrow most few = record {
  again = counted (is_am e.tx.kind) (length e.tx.again + length (data_of e.tx.given.entries)) (length e.tx.again)
      e.tx.next (omega arith) h.counts most;
  waiting = few;
  short_again = short-sent e.tx.again h.sdus.again;
  short_waiting = short-waiting e.tx.waiting h.sdus.waiting;
  report = h.report narrow;
}
