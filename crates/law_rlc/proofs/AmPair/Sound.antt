-- What holds of a flow along any steps.
use Rattle.std.proofs.Common.{◌≡◌, ◌<◌, ◌≤◌, ℕ, ◌+◌, ◌%◌, Bool, true, false, List, [], ◌∷◌, ◌++◌, length, map}
use Rattle.std.proofs.Common.{slice_range, slice_index_or, Ok, sym, subst, arith}
use Rattle.std.specs.List.{AllByRecursion}
use Rattle.rlc_pdu.specs.Pdus.{Status as Control}
use Rattle.rlc_pdu.specs.Reading.{am_at}
use Rattle.rlc_am_rx_window.specs.Cells.{Cell}
use Rattle.rlc_am_rx_window.specs.Window.{top}
use Rattle.rlc_am_tx.specs.Machine.{State, start}
use Rattle.law_rlc.specs.AmSender.Run.{Call as SenderCall, Offer, Take, Status, Tick, Expire, Settle, Confirm}
use Rattle.law_rlc.specs.AmSender.Run.{World as SenderWorld, run_am_sender, begun}
use Rattle.law_rlc.specs.AmSender.Namings.{in_part}
use Rattle.law_rlc.specs.AmSender.Watched.{IsFair, AreFair}
use Rattle.law_rlc.specs.AmSender.Octets.{Place, Octets, octets_after, written, segment_of, HasOctets}
use Rattle.law_rlc.specs.AmSender.Acked.{acked_after}
use Rattle.law_rlc.proofs.AmSender.Least.{Fits}
use Rattle.law_rlc.proofs.AmSender.Writes.{Keeps}
use Rattle.rlc_am_rx_window.specs.declared.missing.Missing.{Missing}
use Rattle.rlc_am_rx.specs.Status.{nack_of}
use Rattle.law_rlc.specs.AmReceiver.Run.{Call as ReceiverCall, World as ReceiverWorld, Came, happens as heard_by}
use Rattle.law_rlc.specs.AmReceiver.Run.{IsComplete}
use Rattle.law_rlc.specs.AmReceiver.Status.{BringSome, has_entry}
use Rattle.law_rlc.specs.AmReceiver.Stream.{IsPart, AreHonest, initial}
use Rattle.law_rlc.specs.AmPair.Flow.{Copy, Report, Flow, sender, receiver}
use Rattle.law_rlc.specs.AmPair.Fields.{cells_of}
use Rattle.law_rlc.specs.AmPair.Numbers.{is_acked}
use Rattle.law_rlc.proofs.AmPair.Reading.{IsAired}
use Rattle.law_rlc.proofs.AmPair.Runs.{called, sender-more, acked-more, receiver-more, sender-state, fair-more}

-- each new PDU's octets can be written
abbrev pub AllAired : List (List Place) → Type 0
AllAired sent = (n : ℕ) → n < length sent → IsAired (slice_index_or sent n [])

-- a data PDU under way carries octets of its number, and the next number isn't misread for it
pub record IsTrueCopy (sent : List (List Place)) (c : Copy) : Type 0 where
  pub known : c.number < length sent
  pub young : length sent ≤ c.number + 512
  pub from : ℕ
  pub to : ℕ
  pub poll : Bool
  pub some : from < to
  pub within : to ≤ length (slice_index_or sent c.number [])
  pub is : c.octets ≡ written c.number poll (segment_of from to (length (slice_index_or sent c.number [])))
      (slice_range (slice_index_or sent c.number []) from to)

abbrev pub one : Bool → ℕ
one true = 1
one false = 0

pub at-most-one : (b : Bool) → one b ≤ 1
at-most-one true = omega arith
at-most-one false = omega arith

-- a STATUS under way: below its ACK each number without an entry is complete, and VT(S) went up by at most one in each
-- TTI since
pub record IsTrueReport (kept : List Came) (next : ℕ) (busy : Bool) (r : Report) : Type 0 where
  pub reads : am_at r.octets ≡ Ok (Control (record { ack = r.ack % 1024; nacks = map nack_of r.entries }))
  pub known : r.ack ≤ next
  pub age : r.age ≤ 216
  pub young : next ≤ r.ack + 512 + r.age + one busy
  pub complete : (n : ℕ) → n < r.ack → has_entry r.entries n ≡ false → IsComplete kept n
  pub near : (n : ℕ) → has_entry r.entries n ≡ true → (n < next) × (next ≤ n + 512 + r.age + one busy)

-- an entry names an octet of its number
pub record NamesOctet (sent : List (List Place)) (m : Missing) : Type 0 where
  pub known : m.number < length sent
  pub octet : ℕ
  pub within : octet < length (slice_index_or sent m.number [])
  pub names : in_part m.part (length (slice_index_or sent m.number [])) octet ≡ true

-- so does each of a STATUS, and it lies below its ACK
pub record HasTrueEntries (sent : List (List Place)) (r : Report) : Type 0 where
  pub below : (n : ℕ) → has_entry r.entries n ≡ true → n < r.ack
  pub octets : AllByRecursion (NamesOctet sent) r.entries

-- what the receiver has kept is what was sent
pub record IsKept (sent : List (List Place)) (c : Came) : Type 0 where
  pub known : c.number < length sent
  pub part : IsPart (cells_of (slice_index_or sent c.number [])) c.piece

-- fields that have what was sent
abbrev pub Agree : List (List Place) → (ℕ → List Cell) → Type 0
Agree sent field = (n : ℕ) → n < length sent → field n ≡ cells_of (slice_index_or sent n [])

pub record Sound (tx : SenderWorld Octets) (acked : ℕ → Bool) (rx : ReceiverWorld) (f : Flow) : Type 0 where
  pub offered : AllByRecursion HasOctets f.sent
  pub keeps : Keeps tx.state tx.past
  pub fits : Fits tx.state.window acked
  pub aired : AllAired tx.past.sent
  pub copies : AllByRecursion (IsTrueCopy tx.past.sent) f.copies
  pub reports : AllByRecursion (IsTrueReport rx.kept (length tx.past.sent) f.busy) f.reports
  pub entries : AllByRecursion (HasTrueEntries tx.past.sent) f.reports
  pub fair : AreFair (start f.sending) f.sent
  pub known : (n : ℕ) → acked n ≡ true → IsComplete rx.kept n
  pub top : top rx.state.window ≤ length tx.past.sent
  pub kept : AllByRecursion (IsKept tx.past.sent) rx.kept
  pub some : BringSome f.heard
  pub honest : (field : ℕ → List Cell) → Agree tx.past.sent field → AreHonest field (initial f.receiving).state f.heard

abbrev pub IsSound : Flow → Type 0
IsSound f = Sound (sender f) (is_acked f) (receiver f) f

-- ---- one call more

pub has-octets : (s : State) (c : SenderCall) → IsFair s c → HasOctets c
has-octets s (Offer sdu) fair = fair
has-octets s (Take size held more) fair = tt
has-octets s (Status status) fair = tt
has-octets s Tick fair = tt
has-octets s (Expire more) fair = tt
has-octets s (Settle more) fair = tt
has-octets s Confirm fair = tt

pub stays-fair : (f : Flow) (c : SenderCall) → IsSound f → IsFair (sender f).state c
    → AreFair (start f.sending) (f.sent ++ c ∷ [])
stays-fair f c h fair =
    fair-more f.sent c (start f.sending) h.fair (subst (λ (s : State). IsFair s c) (sender-state f) fair)

pub sent-sound : (f : Flow) (c : SenderCall) (copies : List Copy) (busy : Bool)
    → Sound (called octets_after (sender f) c) (acked_after (sender f).state c (is_acked f)) (receiver f)
    (record f { sent = f.sent ++ c ∷ []; copies = copies; busy = busy })
    → IsSound (record f { sent = f.sent ++ c ∷ []; copies = copies; busy = busy })
sent-sound f c copies busy h =
    subst
    (λ (w : SenderWorld Octets). Sound w
    (run_am_sender acked_after (f.sent ++ c ∷ []) (begun f.sending (λ n. false))).past (receiver f)
    (record f { sent = f.sent ++ c ∷ []; copies = copies; busy = busy })) (sym (sender-more f c))
    (subst (λ (a : ℕ → Bool). Sound (called octets_after (sender f) c) a (receiver f)
    (record f { sent = f.sent ++ c ∷ []; copies = copies; busy = busy })) (sym (acked-more f c)) h)

pub heard-sound : (f : Flow) (c : ReceiverCall) (reports : List Report)
    → Sound (sender f) (is_acked f) (heard_by (receiver f) c)
    (record f { heard = f.heard ++ c ∷ []; reports = reports })
    → IsSound (record f { heard = f.heard ++ c ∷ []; reports = reports })
heard-sound f c reports h =
    subst (λ (w : ReceiverWorld). Sound (sender f) (is_acked f) w
    (record f { heard = f.heard ++ c ∷ []; reports = reports })) (sym (receiver-more f c)) h

-- ---- lists of what is under way

pub each : {A : Type 0} (P : A → Type 0) (Q : A → Type 0) → ((x : A) → P x → Q x) → (xs : List A)
    → AllByRecursion P xs → AllByRecursion Q xs
each P Q more [] h = tt
each P Q more (x ∷ xs) h = (more x h.0, each P Q more xs h.1)

-- VT(S) goes up by one at most, and not without a new PDU
pub reports-later : (kept : List Came) (next next' : ℕ) (busy busy' : Bool) → next ≤ next'
    → next' + one busy ≤ next + one busy' → (rs : List Report)
    → AllByRecursion (IsTrueReport kept next busy) rs → AllByRecursion (IsTrueReport kept next' busy') rs
reports-later kept next next' busy busy' up few rs h =
    each (IsTrueReport kept next busy) (IsTrueReport kept next' busy') (λ r q. let a = q.known in let b = q.young in
    record {
      reads = q.reads;
      known = omega (arith, a, up);
      age = q.age;
      young = omega (arith, b, few);
      complete = q.complete;
      near = λ n e. let c = (q.near n e).0 in let d = (q.near n e).1 in (omega (arith, c, up), omega (arith, d, few));
    }) rs h
