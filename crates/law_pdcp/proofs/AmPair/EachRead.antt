-- Each PDU that comes is read as its COUNT.
use Rattle.std.proofs.Common.{◌≡◌, ◌<◌, ◌≤◌, ℕ, ◌+◌, ◌^◌, Bool, true, false, List, [], ◌∷◌, drop, Option, Some, None}
use Rattle.std.proofs.Common.{slice_get, subst, refl, ap, sym, ◌∙◌, arith}
use Rattle.std.specs.Prelude.{if◌then◌else◌}
use Rattle.std.proofs.lemmas.Bool.Decides.{nat_tests}
use Rattle.l2_num.specs.Ascending.{AreBetween}
use Rattle.pdcp_pdu.specs.declared.PdcpKind.{PdcpKind}
use Rattle.pdcp_pdu.specs.declared.PdcpKind.TheVariants.{Am}
use Rattle.pdcp_pdu.specs.Kinds.{IsKind}
use Rattle.pdcp_sec.specs.Protection.{Protection}
use Rattle.pdcp_tx.specs.declared.sender.Next.{Next}
use Rattle.pdcp_tx.specs.Pdus.{pdu}
use Rattle.pdcp_tx.specs.State.{State}
use Rattle.pdcp_rx.specs.declared.got.Cause.{Cause}
use Rattle.pdcp_rx.specs.declared.got.Cause.TheVariants.{Arrived, Reestablished}
use Rattle.pdcp_rx.specs.Heard.{heard}
use Rattle.pdcp_rx.specs.State.{State as Receiving, got, got_heard, arrived}
use Rattle.law_pdcp.specs.AmPair.Flow.{Flow, Event, run_am_pdcp, am_pdcp_outset, AreGiven, IsReport, with_count}
use Rattle.law_pdcp.specs.AmPair.Reading.{answer, IsTold, IsRead, IsNextRead, AreRead, ReadsEach}
use Rattle.law_pdcp.proofs.AmPair.Numbers.{among, between_below, has}
use Rattle.law_pdcp.proofs.AmPair.Receives.{Receives, reads}
use Rattle.law_pdcp.proofs.AmPair.Passing.{Front, front_of, front_skip, front_pass, line_at, near_of, late_of}
use Rattle.law_pdcp.proofs.AmPair.Passing.{head_receives, report_ignored, arrived_kind, arrived_key}
use Rattle.law_pdcp.proofs.AmPair.Handing.{drop_at}
use Rattle.law_pdcp.proofs.AmPair.Ending.{Stops}
use Rattle.law_pdcp.proofs.AmPair.Laws.{run_sound, outset_sound}
use Rattle.law_pdcp.proofs.AmPair.Sound.{IsData, IsWritten, rest, IsSound}

told_as : (r : Receiving) (kind : PdcpKind) (octets : List ℕ) (cause : Cause) → r.kind ≡ kind → IsReport kind octets
    → IsTold (got r octets cause)
unfolding got
told_as r kind octets cause e h =
    record { fms = h.fms; bitmap = h.bitmap; is = ap (got_heard r cause) (ap (λ k. heard k octets) e ∙ h.is) }

data_read : (bits first : ℕ) (sdus : List (List ℕ)) (s : State) (handed whole : ℕ
    → Bool) (k : ℕ) (x : Next) (os : List Next) (c : ℕ) (up : List (List ℕ)) (r : Receiving) (cause : Cause)
    → Stops bits s → r.kind ≡ s.kind → r.protection ≡ s.protection
    → x.count ≡ Some c → Front bits first sdus s handed whole k (x ∷ os) → Receives first sdus handed up r
    → got r x.octets cause ≡ answer handed cause r c
data_read bits first sdus s handed whole k x os c up r cause st ham key e h g =
    let order : AreBetween 0 (c ∷ rest os s) s.next = subst (λ l. AreBetween 0 l s.next) (line_at x os s c e) h.order in
    let below : c < s.next = between_below 0 (c ∷ rest os s) s.next c order (first_in c (rest os s)) in
    let told : IsData first sdus s.kind s.protection c x.octets =
    subst (λ q. IsWritten first sdus s.kind s.protection q x.octets) e h.written.0 in
    let octets : x.octets ≡ pdu (Am bits) r.protection c told.sdu =
    told.is ∙ ap (λ y. pdu y s.protection c told.sdu) st.am ∙ ap (λ y. pdu (Am bits) y c told.sdu) (sym key) in
    ap (λ l. got r l cause) octets
    ∙ reads first sdus handed up r bits c told.sdu cause (ham ∙ st.am) st.width told.some told.named
    (omega (arith, below, st.few)) (near_of bits first sdus s handed whole k x os c up r st.width st.near e h g)
    (late_of bits first sdus s handed whole k x os c up r e h g) g
  where
    first_in : (c : ℕ) (l : List ℕ) → among (c ∷ l) c ≡ true
    first_in c l = grind (arith, nat_tests)

one_read : (bits first : ℕ) (sdus : List (List ℕ)) (s : State) (handed whole : ℕ
    → Bool) (k : ℕ) (x : Next) (os : List Next) (up : List (List ℕ)) (r : Receiving) (cause : Cause) (o : Option ℕ)
    → x.count ≡ o → Stops bits s → r.kind ≡ s.kind → r.protection ≡ s.protection
    → Front bits first sdus s handed whole k (x ∷ os) → Receives first sdus handed up r
    → IsRead handed cause r x.octets o
one_read bits first sdus s handed whole k x os up r cause None e st ham key h g =
    told_as r s.kind x.octets cause ham
    (subst (λ q. IsWritten first sdus s.kind s.protection q x.octets) e h.written.0)
one_read bits first sdus s handed whole k x os up r cause (Some c) e st ham key h g =
    data_read bits first sdus s handed whole k x os c up r cause st ham key e h g

-- ---- at the end of a life

abbrev Rest : ℕ → ℕ → List (List ℕ) → State → (ℕ → Bool) → List (List ℕ) → ℕ → List Next → Type 0
Rest bits first sdus s whole up k os = (handed : ℕ → Bool) (r : Receiving) → r.kind ≡ s.kind
    → r.protection ≡ s.protection → Front bits first sdus s handed whole k os → Receives first sdus handed up r
    → AreRead whole k os handed r

came_read : (bits first : ℕ) (sdus : List (List ℕ)) (s : State) (whole : ℕ
    → Bool) (up : List (List ℕ)) (k : ℕ) (x : Next) (os : List Next) (o : Option ℕ) → x.count ≡ o → Stops bits s
    → Rest bits first sdus s whole up (k + 1) os
    → (handed : ℕ → Bool) (r : Receiving) → r.kind ≡ s.kind → r.protection ≡ s.protection
    → Front bits first sdus s handed whole k (x ∷ os) → Receives first sdus handed up r
    → AreRead whole (k + 1) os (with_count x.count handed) (arrived r x.octets Reestablished)
came_read bits first sdus s whole up k x os None c st next handed r ham key h g =
    let report : IsReport s.kind x.octets =
    subst (λ q. IsWritten first sdus s.kind s.protection q x.octets) c h.written.0 in
    let none : (n : ℕ) → (if whole k then has x.count n else false) ≡ false = λ n. let e : has x.count n ≡ false =
    ap (λ q. has q n) c in grind (arith, nat_tests) in
    subst (λ q. AreRead whole (k + 1) os (with_count q handed) (arrived r x.octets Reestablished)) (sym c)
    (subst (λ y. AreRead whole (k + 1) os handed y) (sym (report_ignored r s.kind x.octets Reestablished ham report))
    (next handed r ham key (front_skip bits first sdus s handed whole k x os none h) g))
came_read bits first sdus s whole up k x os (Some n) c st next handed r ham key h g =
    subst (λ q. AreRead whole (k + 1) os (with_count q handed) (arrived r x.octets Reestablished)) (sym c)
    (next (with_count (Some n) handed) (arrived r x.octets Reestablished)
    (arrived_kind r x.octets Reestablished ∙ ham) (arrived_key r x.octets Reestablished ∙ key)
    (front_pass bits first sdus s handed whole k x os n c h)
    (head_receives bits first sdus s handed whole k x os n up r Reestablished st.width st.am (ham ∙ st.am) key st.near
    st.few c tt h g))

rest_read : (bits first : ℕ) (sdus : List (List ℕ)) (s : State) (whole : ℕ
    → Bool) (up : List (List ℕ)) (k : ℕ) (x : Next) (os : List Next) (b : Bool) → whole k ≡ b → Stops bits s
    → Rest bits first sdus s whole up (k + 1) os
    → (handed : ℕ → Bool) (r : Receiving) → r.kind ≡ s.kind → r.protection ≡ s.protection
    → Front bits first sdus s handed whole k (x ∷ os) → Receives first sdus handed up r
    → AreRead whole (k + 1) os (if b then with_count x.count handed else handed)
    (if b then arrived r x.octets Reestablished else r)
rest_read bits first sdus s whole up k x os true w st next handed r ham key h g =
    came_read bits first sdus s whole up k x os x.count refl st next handed r ham key h g
rest_read bits first sdus s whole up k x os false w st next handed r ham key h g =
    next handed r ham key
    (front_skip bits first sdus s handed whole k x os
    (λ n. ap (λ (b : Bool). if b then has x.count n else false) w) h) g

all_read : (bits first : ℕ) (sdus : List (List ℕ)) (s : State) (whole : ℕ
    → Bool) (up : List (List ℕ)) (os : List Next) (k : ℕ) → Stops bits s → Rest bits first sdus s whole up k os
all_read bits first sdus s whole up [] k st handed r ham key h g = tt
all_read bits first sdus s whole up (x ∷ os) k st handed r ham key h g = (
  λ w. one_read bits first sdus s handed whole k x os up r Reestablished x.count refl st ham key h g,
  rest_read bits first sdus s whole up k x os (whole k) refl st
      (λ handed' r'. all_read bits first sdus s whole up os (k + 1) st handed' r') handed r ham key h g,
)

-- ---- the law

next_read : (bits : ℕ) (f : Flow) (o : Option Next) → slice_get f.stream f.passed ≡ o → Stops bits f.sender
    → IsSound bits f → IsNextRead o f
next_read bits f None e st h = tt
next_read bits f (Some x) e st h =
    let os = drop (f.passed + 1) f.stream in
    let front = front_of bits f.first f.sdus f.sender f.handed f.whole f.passed (drop f.passed f.stream) h.links in
    one_read bits f.first f.sdus f.sender f.handed f.whole f.passed x os f.up f.receiver Arrived x.count refl st
    (h.hears_am ∙ sym h.sends.am) h.key
    (subst (Front bits f.first f.sdus f.sender f.handed f.whole f.passed) (drop_at f.stream f.passed x e) front)
    h.receives

sound_reads : (bits : ℕ) (f : Flow) → IsSound bits f → ReadsEach f
sound_reads bits f h =
    let st : Stops bits f.sender =
    record { width = h.width; am = h.sends.am; near = h.sends.near; few = omega (arith, h.sends.room) } in
    record {
      in_sequence = next_read bits f (slice_get f.stream f.passed) refl st h;
      at_the_end = all_read bits f.first f.sdus f.sender f.whole f.up (drop f.passed f.stream) f.passed st f.handed
          f.receiver (h.hears_am ∙ sym h.sends.am) h.key
          (front_of bits f.first f.sdus f.sender f.handed f.whole f.passed (drop f.passed f.stream) h.links) h.receives;
    }

pub reads_each : (bits : ℕ) (p : Protection) (first : ℕ) (events : List Event) → IsKind (Am bits) → first ≤ 2 ^ 32
    → AreGiven (am_pdcp_outset bits p first) events → ReadsEach (run_am_pdcp events (am_pdcp_outset bits p first))
reads_each bits p first events is le g =
    sound_reads bits (run_am_pdcp events (am_pdcp_outset bits p first))
    (run_sound bits events (am_pdcp_outset bits p first) g (outset_sound bits p first is le))
