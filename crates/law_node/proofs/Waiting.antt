-- Why a bearer with data writes no data PDU.
use Rattle.std.proofs.Common.{◌≡◌, ◌≤◌, ◌<◌, ℕ, ◌+◌, ◌-◌, ◌==◌, nat_lt, nat_le, Bool, true, false, not, ◌||◌, ◌&&◌}
use Rattle.std.proofs.Common.{if◌then◌else◌, Option, Some, None, is_some, is_none, Result, Ok, Err, List, [], ◌∷◌, ◌++◌}
use Rattle.std.proofs.Common.{length, length-append, append_assoc, refl, ap, sym, ◌∙◌, subst, arith}
use Rattle.std.proofs.lemmas.Bool.Decides.{nat_tests}
use Rattle.bearer.specs.declared.flow.Flow.{Flow}
use Rattle.bearer.specs.declared.flow.Flow.TheVariants.{Tm, Um, Am}
use Rattle.bearer.specs.Taking.{told}
use Rattle.bearer.specs.Transparent.{data_told as tm_data_told}
use Rattle.bearer.specs.Acknowledged.State.{State as AmState, has_more, Work, work}
use Rattle.bearer.specs.Acknowledged.Taking.{answer as am_answer, data_size, data_told as am_data_told, fed as am_fed}
use Rattle.bearer.specs.Acknowledged.Taking.{feeds as am_feeds, feeding as am_feeding, given_to as am_given_to}
use Rattle.bearer.specs.Acknowledged.Taking.{poll_told, prohibit_told, status_told, has_prohibit, taking as am_taking}
use Rattle.bearer.specs.Acknowledged.Taking.{writes_status}
use Rattle.bearer_pdcp.specs.Ends.{Ends}
use Rattle.bearer_pdcp.specs.Taking.{report_told, own_report_told, taken_told, next_told, taken, taking_told}
use Rattle.bearer_pdcp.specs.Telling.{pdus_of}
use Rattle.bearer_types.specs.declared.event.Event.{Event}
use Rattle.bearer.specs.Unacknowledged.State.{State as UmState}
use Rattle.bearer.specs.Unacknowledged.Taking.{Feeding, answer as um_answer, data_told as um_data_told, fed as um_fed}
use Rattle.bearer.specs.Unacknowledged.Taking.{feeds as um_feeds, feeding as um_feeding, given_to as um_given_to}
use Rattle.bearer.specs.Unacknowledged.Taking.{why_idle, size_in, taking as um_taking, has_more as um_has_more}
use Rattle.l2_types.specs.declared.event.Waits.{Waits}
use Rattle.l2_types.specs.declared.event.Waits.TheVariants.{Stopped, Shut, Held, Small}
use Rattle.pdcp_pdu.specs.declared.PdcpKind.{PdcpKind}
use Rattle.pdcp_pdu.specs.declared.PdcpKind.TheVariants as pdcp
use Rattle.pdcp_pdu.specs.declared.PdcpRefusal.{PdcpRefusal}
use Rattle.pdcp_pdu.specs.Pdus.{UserPdu, Sdu, Report}
use Rattle.pdcp_pdu.specs.Reading.{user_at}
use Rattle.pdcp_tx.specs.declared.Next.{Next}
use Rattle.pdcp_tx.specs.State.{Offer, offers, taking}
use Rattle.rlc_am_tx.specs.declared.turn.Turn.{Turn}
use Rattle.rlc_am_tx.specs.declared.turn.Turn.TheVariants as turns
use Rattle.rlc_am_tx.specs.Machine.{State as AmSender, waits, is_empty, is_shut, is_held as am_is_held, again}
use Rattle.rlc_am_tx.specs.Machine.{turn as am_turn, answer_of as am_answer_of, answer as rlc_answer}
use Rattle.rlc_am_tx.specs.Need.{hungry}
use Rattle.rlc_am_tx_window.specs.Sent.{all_wait, whole_size}
use Rattle.rlc_am_tx_window.specs.Window.{next}
use Rattle.rlc_queue.specs.NewPdu.{fits_more}
use Rattle.rlc_queue.specs.Waiting.{first}
use Rattle.rlc_um.specs.Sender.{Sender as UmSender, taken as um_taken, head_of, is_held as um_is_held, is_hungry}
use Rattle.rlc_um.specs.Transparent.{Transparent, taken as tm_taken, first_of}
use Rattle.law_node.specs.Waiting.{reasons_in, reasons, data_pdus, has_some, has_data, tm_reason, um_reason, am_reason}
use Rattle.law_node.specs.Waiting.{reason, if_some, Tells}

-- ---- what PDCP tells names no reason

reasons-append : (es fs : List Event) → reasons (es ++ fs) ≡ reasons es ++ reasons fs
reasons-append [] fs = refl
reasons-append (e ∷ es) fs = ap (λ (rs : List Waits). reasons_in e ++ rs) (reasons-append es fs)
    ∙ sym (append_assoc (reasons_in e) (reasons es) (reasons fs))

report_quiet : (lcid : ℕ) (r : Result UserPdu PdcpRefusal) → reasons (report_told lcid r) ≡ []
report_quiet lcid (Err refusal) = refl
report_quiet lcid (Ok (Sdu sn octets)) = refl
report_quiet lcid (Ok (Report fms bitmap)) = refl

own_quiet : (lcid : ℕ) (k : PdcpKind) (pdu : List ℕ) → reasons (own_report_told lcid k pdu) ≡ []
own_quiet lcid pdcp.Srb pdu = refl
own_quiet lcid (pdcp.Um bits) pdu = report_quiet lcid (user_at bits pdu)
own_quiet lcid (pdcp.Am bits) pdu = report_quiet lcid (user_at bits pdu)

count_quiet : (lcid : ℕ) (k : PdcpKind) (count : Option ℕ) (len : ℕ) (pdu : List ℕ)
    → reasons (taken_told lcid k count len pdu) ≡ []
count_quiet lcid k None len pdu = own_quiet lcid k pdu
count_quiet lcid k (Some count) len pdu = refl

next_quiet : (lcid : ℕ) (k : PdcpKind) (n : Option Next) → reasons (next_told lcid k n) ≡ []
next_quiet lcid k None = refl
next_quiet lcid k (Some n) = count_quiet lcid k n.count n.len n.octets

taking_quiet : (e : Ends) → reasons (taking_told e) ≡ []
unfolding taking_told
taking_quiet e = next_quiet e.lcid e.kind (taking e.tx)

more_quiet : (es : List Event) (e : Ends) → reasons es ≡ [] → reasons (es ++ taking_told e) ≡ []
more_quiet es e q = reasons-append es (taking_told e) ∙ ap (λ (rs : List Waits). rs ++ reasons (taking_told e)) q
    ∙ taking_quiet e

-- behind that only RLC's answer counts
quiet_then : (es fs : List Event) → reasons es ≡ [] → reasons (es ++ fs) ≡ reasons fs
quiet_then es fs q = reasons-append es fs ∙ ap (λ (rs : List Waits). rs ++ reasons fs) q

-- ---- tests

none_empty : (xs : List (List ℕ)) → has_some xs ≡ not (length xs == 0)
none_empty [] = refl
none_empty (x ∷ xs) = grind (arith, nat_tests)

nothing_there : (xs : List (List ℕ)) → (length xs == 0) ≡ true → xs ≡ []
nothing_there [] e = refl
nothing_there (x ∷ xs) e = absurd (grind (arith, nat_tests))

some_there : (xs : List (List ℕ)) → 0 < length xs → (length xs == 0) ≡ false
some_there xs lt = grind (arith, nat_tests)

has_one : (x : List ℕ) (xs : List (List ℕ)) → has_some (x ∷ xs) ≡ true
has_one x xs = grind (arith, nat_tests)

idle_not : (a e m : Bool) → e ≡ false → (a && e && m) ≡ false
idle_not true e m q = rw q refl
idle_not false e m q = refl

no_more : (a : Bool) → (a && not true) ≡ false
no_more true = refl
no_more false = refl

or_true : (a : Bool) → (a || true) ≡ true
or_true true = refl
or_true false = refl

last_true : (a b : Bool) → (a || (b || true)) ≡ true
last_true true b = refl
last_true false b = or_true b

idle_is : (a e : Bool) → (not a && e && not false) ≡ not (a || (not e || false))
idle_is true e = refl
idle_is false true = refl
idle_is false false = refl

then_some : (a e : Bool) → (a || (not e || false)) ≡ true → a ≡ false → e ≡ false
then_some true e h q = absurd cc
then_some false true h q = absurd cc
then_some false false h q = refl

not_both : (e : Bool) → (not e || false) ≡ true → e ≡ true → ⊥
not_both true h q = cc
not_both false h q = cc

empty_is : (e : Bool) → (e && not false) ≡ not (not e || false)
empty_is true = refl
empty_is false = refl

first_taken : (e : Ends) (o : Offer) (os : List Offer) → offers e.tx ≡ o ∷ os → is_some (taken e) ≡ true
unfolding taken taking
first_taken e o os q = rw q refl

-- ---- an acknowledged sender

-- what a call of `take` comes to, told
abbrev turn_why : Turn → List Waits
turn_why turns.Whole = []
turn_why turns.Part = []
turn_why turns.New = []
turn_why turns.Idle = []
turn_why turns.Stopped = Stopped ∷ []
turn_why turns.Small = Small ∷ []
turn_why turns.Shut = Shut ∷ []
turn_why turns.Held = Held ∷ []

abbrev turn_count : Turn → ℕ
turn_count turns.Whole = 1
turn_count turns.Part = 1
turn_count turns.New = 1
turn_count turns.Idle = 0
turn_count turns.Stopped = 0
turn_count turns.Small = 0
turn_count turns.Shut = 0
turn_count turns.Held = 0

poll_quiet : (lcid : ℕ) (polled : Bool) → reasons (poll_told lcid polled) ≡ []
poll_quiet lcid true = refl
poll_quiet lcid false = refl

am_why_is : (lcid : ℕ) (t : Turn) (s : AmSender) (size : ℕ) (more : Bool)
    → reasons (am_data_told lcid (am_answer_of t s size more)) ≡ turn_why t
unfolding am_answer_of
am_why_is lcid turns.Whole s size more = poll_quiet lcid _
am_why_is lcid turns.Part s size more = poll_quiet lcid _
am_why_is lcid turns.New s size more = poll_quiet lcid _
am_why_is lcid turns.Idle s size more = refl
am_why_is lcid turns.Stopped s size more = refl
am_why_is lcid turns.Small s size more = refl
am_why_is lcid turns.Shut s size more = refl
am_why_is lcid turns.Held s size more = refl

am_count_is : (t : Turn) (s : AmSender) (size : ℕ) (more : Bool)
    → length (pdus_of (am_answer_of t s size more)) ≡ turn_count t
unfolding am_answer_of
am_count_is turns.Whole s size more = refl
am_count_is turns.Part s size more = refl
am_count_is turns.New s size more = refl
am_count_is turns.Idle s size more = refl
am_count_is turns.Stopped s size more = refl
am_count_is turns.Small s size more = refl
am_count_is turns.Shut s size more = refl
am_count_is turns.Held s size more = refl

record Comes (h : Bool) (why : Option Waits) (t : Turn) : Type 0 where
  told_is : turn_why t ≡ (if h then if_some why else [])
  written_is : turn_count t ≡ (if h && is_none why then 1 else 0)

-- the tests of a turn, one after the other: the limit, what waits, whether it fits, the window, HARQ, the size, the
-- queue
abbrev pub turn_by : Bool → Bool → Bool → Bool → Bool → Bool → Bool → Bool → Turn
turn_by failed waiting whole part shut held small empty =
    if failed then turns.Stopped
    else if waiting then (if whole then turns.Whole else if part then turns.Part else turns.Small)
    else if shut then turns.Shut
    else if held then turns.Held
    else if small then turns.Small
    else if empty then turns.Idle
    else turns.New

abbrev why_by : Bool → Bool → Bool → Bool → Bool → Bool → Bool → Option Waits
why_by failed waiting whole part shut held small =
    if failed then Some Stopped
    else if waiting then (if whole || part then None else Some Small)
    else if shut then Some Shut
    else if held then Some Held
    else if small then Some Small
    else None

comes_by : (failed waiting whole part shut held small empty : Bool)
    → (waiting ≡ false → shut ≡ false → held ≡ false → small ≡ false → failed ≡ false → empty ≡ false)
    → Comes true (why_by failed waiting whole part shut held small)
    (turn_by failed waiting whole part shut held small empty)
comes_by true waiting whole part shut held small empty n = record { told_is = refl; written_is = refl }
comes_by false true true part shut held small empty n = record { told_is = refl; written_is = refl }
comes_by false true false true shut held small empty n = record { told_is = refl; written_is = refl }
comes_by false true false false shut held small empty n = record { told_is = refl; written_is = refl }
comes_by false false whole part true held small empty n = record { told_is = refl; written_is = refl }
comes_by false false whole part false true small empty n = record { told_is = refl; written_is = refl }
comes_by false false whole part false false true empty n = record { told_is = refl; written_is = refl }
comes_by false false whole part false false false false n = record { told_is = refl; written_is = refl }
comes_by false false whole part false false false true n = let no : true ≡ false = n refl refl refl refl refl in
    absurd cc

-- nothing is there, or the queue isn't empty where a new PDU may go
am_comes : (s : AmSender) (size : ℕ) (held : Option ℕ) (more h : Bool)
    → (not (waits s) && is_empty s && not more) ≡ not h
    → (h ≡ true → waits s ≡ false → is_shut s ≡ false → am_is_held held (next s.window) ≡ false
    → nat_lt size 3 ≡ false → s.failed ≡ false → is_empty s ≡ false)
    → Comes h (am_reason s size held) (am_turn s size held more)
unfolding am_turn
am_comes s size held more false e n = rw e (record { told_is = refl; written_is = refl })
am_comes s size held more true e n =
    rw e (comes_by s.failed (waits s) (all_wait (again s) && nat_le (whole_size (again s)) size) (nat_le 5 size)
    (is_shut s) (am_is_held held (next s.window)) (nat_lt size 3) (is_empty s) (n refl))

-- what feeding leaves of a sender
pub record Grown (s t : AmSender) : Type 0 where
  pub window : t.window ≡ s.window
  pub failed : t.failed ≡ s.failed
  pub queue : length s.queue.sdus ≤ length t.queue.sdus

given_grown : (o : Option (List ℕ)) (s : AmSender) → Grown s (am_given_to o s)
given_grown None s = record { window = refl; failed = refl; queue = omega arith }
given_grown (Some pdu) s = let l = length-append s.queue.sdus (pdu ∷ []) in
    record { window = refl; failed = refl; queue = omega arith }

grown_by : (b : Bool) (s t : AmSender) (w v : Work) → w.tx ≡ s → Grown s v.tx → Grown s (if b then v else w).tx
grown_by true s t w v e g = g
grown_by false s t w v e g = rw e (record { window = refl; failed = refl; queue = omega arith })

grown_then : (s t u : AmSender) → Grown s t → Grown t u → Grown s u
grown_then s t u g h = record {
  window = h.window ∙ g.window;
  failed = h.failed ∙ g.failed;
  queue = omega (arith, g.queue, h.queue);
}

pub all_grown : (os : List Offer) (size : ℕ) (held : Option ℕ) (w : Work) → Grown w.tx (am_feeds os size held w).tx
all_grown [] size held w = record { window = refl; failed = refl; queue = omega arith }
all_grown (o ∷ os) size held w =
    grown_by (hungry w.tx size held) w.tx w.tx w (am_feeds os size held (am_fed w)) refl
    (grown_then w.tx (am_fed w).tx (am_feeds os size held (am_fed w)).tx (given_grown (taken w.pdcp) w.tx)
    (all_grown os size held (am_fed w)))

quiet_by : (b : Bool) (w v : Work) → reasons w.events ≡ [] → reasons v.events ≡ []
    → reasons (if b then v else w).events ≡ []
quiet_by true w v p q = q
quiet_by false w v p q = p

am_quiet : (os : List Offer) (size : ℕ) (held : Option ℕ) (w : Work) → reasons w.events ≡ []
    → reasons (am_feeds os size held w).events ≡ []
am_quiet [] size held w q = q
am_quiet (o ∷ os) size held w q =
    quiet_by (hungry w.tx size held) w (am_feeds os size held (am_fed w)) q
    (am_quiet os size held (am_fed w) (more_quiet w.events w.pdcp q))

-- the queue has an SDU once one was fed
given_some : (o : Option (List ℕ)) (s : AmSender) → is_some o ≡ true → 0 < length (am_given_to o s).queue.sdus
given_some None s e = absurd cc
given_some (Some pdu) s e = let l = length-append s.queue.sdus (pdu ∷ []) in omega arith

reason_same : (s t : AmSender) (size : ℕ) (held : Option ℕ) → Grown s t → am_reason t size held ≡ am_reason s size held
reason_same s t size held g = rw (g.window, g.failed) refl

-- where only room may be wanting, room is wanting
refused : (s : AmSender) (size : ℕ) (held : Option ℕ) → hungry s size held ≡ false
    → waits s ≡ false → is_shut s ≡ false → am_is_held held (next s.window) ≡ false → s.failed ≡ false
    → fits_more 2 size 0 0 s.queue.sdus ≡ false
unfolding hungry
refused s size held e a b c f = subst (λ (t : Bool). t ≡ false) (rw (f, a, b, c) refl) e

not_empty : (sdus : List (List ℕ)) (t : Bool) → (length sdus == 0) ≡ t → (size : ℕ) → 3 ≤ size
    → fits_more 2 size 0 0 sdus ≡ false → t ≡ false
not_empty sdus false e size le n = refl
not_empty [] true e size le n = absurd (grind (arith, nat_tests))
not_empty (x ∷ xs) true e size le n = absurd (grind (arith, nat_tests))

-- an empty queue that isn't fed
not_fed : (s : AmSender) (size : ℕ) (held : Option ℕ) → hungry s size held ≡ false
    → waits s ≡ false → is_shut s ≡ false → am_is_held held (next s.window) ≡ false → nat_lt size 3 ≡ false
    → s.failed ≡ false → is_empty s ≡ false
unfolding hungry
not_fed s size held e a b c d f =
    not_empty s.queue.sdus (length s.queue.sdus == 0) refl size (grind (arith, nat_tests))
    (refused s size held e a b c f)

am_fed_comes : (o : Offer) (os : List Offer) (size : ℕ) (held : Option ℕ) (w : Work) (b : Bool)
    → hungry w.tx size held ≡ b → offers w.pdcp.tx ≡ o ∷ os
    → Comes true (am_reason w.tx size held)
    (am_turn (if b then am_feeds os size held (am_fed w) else w).tx size held
    (has_more (if b then am_feeds os size held (am_fed w) else w).pdcp))
am_fed_comes o os size held w true e q =
    let v = am_feeds os size held (am_fed w) in
    let g = all_grown os size held (am_fed w) in
    let some : is_empty v.tx ≡ false =
    some_there v.tx.queue.sdus
    (omega (arith, given_some (taken w.pdcp) w.tx (first_taken w.pdcp o os q), g.queue)) in
    let all = grown_then w.tx (am_fed w).tx v.tx (given_grown (taken w.pdcp) w.tx) g in
    subst (λ (r : Option Waits). Comes true r (am_turn v.tx size held (has_more v.pdcp)))
    (reason_same w.tx v.tx size held all)
    (am_comes v.tx size held (has_more v.pdcp) true
    (idle_not (not (waits v.tx)) (is_empty v.tx) (not (has_more v.pdcp)) some) (λ h a b c d f. some))
am_fed_comes o os size held w false e q =
    let more : has_more w.pdcp ≡ true = rw q refl in
    am_comes w.tx size held (has_more w.pdcp) true (rw more (no_more (not (waits w.tx) && is_empty w.tx)))
    (λ h a b c d f. not_fed w.tx size held e a b c d f)

am_none_comes : (size : ℕ) (held : Option ℕ) (w : Work) → offers w.pdcp.tx ≡ []
    → Comes (waits w.tx || (has_some w.tx.queue.sdus || has_more w.pdcp)) (am_reason w.tx size held)
    (am_turn w.tx size held (has_more w.pdcp))
am_none_comes size held w q =
    let none : has_more w.pdcp ≡ false = rw q refl in
    rw (none, none_empty w.tx.queue.sdus)
    (am_comes w.tx size held false (waits w.tx || (not (is_empty w.tx) || false))
    (idle_is (waits w.tx) (is_empty w.tx)) (λ h a b c d f. then_some (waits w.tx) (is_empty w.tx) h a))

am_feeding_comes : (os : List Offer) (size : ℕ) (held : Option ℕ) (w : Work) → offers w.pdcp.tx ≡ os
    → Comes (waits w.tx || (has_some w.tx.queue.sdus || has_more w.pdcp)) (am_reason w.tx size held)
    (am_turn (am_feeds os size held w).tx size held (has_more (am_feeds os size held w).pdcp))
am_feeding_comes [] size held w q = am_none_comes size held w q
am_feeding_comes (o ∷ os) size held w q =
    let more : has_more w.pdcp ≡ true = rw q refl in
    subst (λ (h : Bool). Comes h (am_reason w.tx size held)
    (am_turn (am_feeds (o ∷ os) size held w).tx size held (has_more (am_feeds (o ∷ os) size held w).pdcp)))
    (sym (ap (λ (m : Bool). waits w.tx || (has_some w.tx.queue.sdus || m)) more
    ∙ last_true (waits w.tx) (has_some w.tx.queue.sdus)))
    (am_fed_comes o os size held w (hungry w.tx size held) refl q)

status_quiet : (b has : Bool) (e : Event) (lcid : ℕ) → reasons_in e ≡ []
    → reasons (if b then e ∷ prohibit_told lcid has else []) ≡ []
status_quiet false has e lcid q = refl
status_quiet true true e lcid q = rw q refl
status_quiet true false e lcid q = rw q refl

am_tells : (lcid : ℕ) (b : AmState) (share : ℕ) (held : Option ℕ)
    → Tells (has_data (Am b)) (reason (Am b) share held) (reasons (told lcid (Am b) share held))
    (data_pdus (Am b) share held)
unfolding told am_taking am_answer
am_tells lcid b share held =
    let size = data_size b share in
    let begin = work b.pdcp b.tx (status_told b.pdcp.lcid (has_prohibit b) b.rx share) in
    let w = am_feeding b share held in
    let t = am_turn w.tx size held (has_more w.pdcp) in
    let c = am_feeding_comes (offers b.pdcp.tx) size held begin refl in
    let quiet =
    am_quiet (offers b.pdcp.tx) size held begin
    (status_quiet (writes_status b.rx share) (has_prohibit b) _ b.pdcp.lcid refl) in
    record {
      told_is = quiet_then w.events (am_data_told w.pdcp.lcid (rlc_answer w.tx size held (has_more w.pdcp))) quiet
          ∙ am_why_is w.pdcp.lcid t w.tx size (has_more w.pdcp) ∙ c.told_is;
      written_is = am_count_is t w.tx size (has_more w.pdcp) ∙ c.written_is;
    }

-- ---- an unacknowledged sender

um_told : (lcid bits : ℕ) (s : UmSender) (size : ℕ) (held : Option ℕ) (more empty h held_by small : Bool)
    → (length s.waiting.sdus == 0) ≡ empty → um_is_held held s ≡ held_by → nat_lt size (head_of s.bits + 1) ≡ small
    → (empty && not more) ≡ not h → (h ≡ true → empty ≡ true → held_by ≡ false → small ≡ true)
    → Tells h (um_reason s size held) (reasons (um_data_told lcid bits more (why_idle s held) (um_taken s size held)))
    (pdus_of (um_taken s size held))
unfolding um_taken
um_told lcid bits s size held false true true held_by small e f g q n = let no : true ≡ false = q in absurd cc
um_told lcid bits s size held false true false held_by small e f g q n =
    rw e (record { told_is = refl; written_is = refl })
um_told lcid bits s size held true true false held_by small e f g q n = let no : false ≡ true = q in absurd cc
um_told lcid bits s size held true true true true small e f g q n =
    rw (e, f) (record { told_is = refl; written_is = refl })
um_told lcid bits s size held true true true false true e f g q n =
    rw (e, f, g) (record { told_is = refl; written_is = refl })
um_told lcid bits s size held true true true false false e f g q n = let no : false ≡ true = n refl refl refl in
    absurd cc
um_told lcid bits s size held more false false held_by small e f g q n = let no : false ≡ true = q in absurd cc
um_told lcid bits s size held more false true true small e f g q n =
    rw (e, f) (record { told_is = refl; written_is = refl })
um_told lcid bits s size held more false true false true e f g q n =
    rw (e, f, g) (record { told_is = refl; written_is = refl })
um_told lcid bits s size held more false true false false e f g q n =
    rw (e, f, g) (record { told_is = refl; written_is = refl })

pub record UmGrown (s t : UmSender) : Type 0 where
  pub bits : t.bits ≡ s.bits
  pub next' : t.next ≡ s.next
  pub queue : length s.waiting.sdus ≤ length t.waiting.sdus

um_given : (o : Option (List ℕ)) (s : UmSender) → UmGrown s (um_given_to o s)
um_given None s = record { bits = refl; next' = refl; queue = omega arith }
um_given (Some pdu) s = let l = length-append s.waiting.sdus (pdu ∷ []) in
    record { bits = refl; next' = refl; queue = omega arith }

um_given_some : (o : Option (List ℕ)) (s : UmSender) → is_some o ≡ true → 0 < length (um_given_to o s).waiting.sdus
um_given_some None s e = absurd cc
um_given_some (Some pdu) s e = let l = length-append s.waiting.sdus (pdu ∷ []) in omega arith

um_then : (s t u : UmSender) → UmGrown s t → UmGrown t u → UmGrown s u
um_then s t u g h = record {
  bits = h.bits ∙ g.bits;
  next' = h.next' ∙ g.next';
  queue = omega (arith, g.queue, h.queue);
}

um_by : (b : Bool) (w v : Feeding) → UmGrown w.tx v.tx → UmGrown w.tx (if b then v else w).tx
um_by true w v g = g
um_by false w v g = record { bits = refl; next' = refl; queue = omega arith }

pub um_grown : (os : List Offer) (size : ℕ) (held : Option ℕ) (w : Feeding) → UmGrown w.tx (um_feeds os size held w).tx
um_grown [] size held w = record { bits = refl; next' = refl; queue = omega arith }
um_grown (o ∷ os) size held w =
    um_by (is_hungry w.tx size held) w (um_feeds os size held (um_fed w))
    (um_then w.tx (um_fed w).tx (um_feeds os size held (um_fed w)).tx (um_given (taken w.pdcp) w.tx)
    (um_grown os size held (um_fed w)))

um_quiet_by : (b : Bool) (w v : Feeding) → reasons w.events ≡ [] → reasons v.events ≡ []
    → reasons (if b then v else w).events ≡ []
um_quiet_by true w v p q = q
um_quiet_by false w v p q = p

um_quiet : (os : List Offer) (size : ℕ) (held : Option ℕ) (w : Feeding) → reasons w.events ≡ []
    → reasons (um_feeds os size held w).events ≡ []
um_quiet [] size held w q = q
um_quiet (o ∷ os) size held w q =
    um_quiet_by (is_hungry w.tx size held) w (um_feeds os size held (um_fed w)) q
    (um_quiet os size held (um_fed w) (more_quiet w.events w.pdcp q))

held_same : (held : Option ℕ) (s t : UmSender) → UmGrown s t → um_is_held held t ≡ um_is_held held s
held_same None s t g = refl
held_same (Some n) s t g = rw (g.bits, g.next') refl

um_reason_same : (s t : UmSender) (size : ℕ) (held : Option ℕ) → UmGrown s t
    → um_reason t size held ≡ um_reason s size held
um_reason_same s t size held g = rw (held_same held s t g, g.bits) refl

-- an empty queue wasn't fed for want of room
um_small : (s : UmSender) (size : ℕ) (held : Option ℕ) → is_hungry s size held ≡ false
    → (length s.waiting.sdus == 0) ≡ true → um_is_held held s ≡ false → nat_lt size (head_of s.bits + 1) ≡ true
um_small s size held e n h =
    let none = nothing_there s.waiting.sdus n in
    let room : fits_more (head_of s.bits) size 0 0 [] ≡ false =
    subst (λ (sdus : List (List ℕ)). fits_more (head_of s.bits) size 0 0 sdus ≡ false) none
    (subst (λ (t : Bool). t ≡ false) (rw h refl) e) in
    grind (arith, nat_tests, room)

-- what RLC answers behind the feeding, told, by what there was before
abbrev UmTells : Feeding → Feeding → ℕ → Option ℕ → ℕ → Bool → Type 0
UmTells w v size held bits h =
    Tells h (um_reason w.tx size held)
    (reasons (um_data_told v.pdcp.lcid bits (um_has_more v.pdcp) (why_idle v.tx held) (um_taken v.tx size held)))
    (pdus_of (um_taken v.tx size held))

um_fed_tells : (o : Offer) (os : List Offer) (size : ℕ) (held : Option ℕ) (bits : ℕ) (w : Feeding) (b : Bool)
    → is_hungry w.tx size held ≡ b → offers w.pdcp.tx ≡ o ∷ os
    → UmTells w (if b then um_feeds os size held (um_fed w) else w) size held bits true
um_fed_tells o os size held bits w true e q =
    let v = um_feeds os size held (um_fed w) in
    let g = um_grown os size held (um_fed w) in
    let all = um_then w.tx (um_fed w).tx v.tx (um_given (taken w.pdcp) w.tx) g in
    let some : (length v.tx.waiting.sdus == 0) ≡ false =
    some_there v.tx.waiting.sdus
    (omega (arith, um_given_some (taken w.pdcp) w.tx (first_taken w.pdcp o os q), g.queue)) in
    subst
    (λ (r : Option Waits). Tells true r
    (reasons (um_data_told v.pdcp.lcid bits (um_has_more v.pdcp) (why_idle v.tx held) (um_taken v.tx size held)))
    (pdus_of (um_taken v.tx size held)))
    (um_reason_same w.tx v.tx size held all)
    (um_told v.pdcp.lcid bits v.tx size held (um_has_more v.pdcp) false true (um_is_held held v.tx)
    (nat_lt size (head_of v.tx.bits + 1)) some refl refl refl (λ h n f. absurd cc))
um_fed_tells o os size held bits w false e q =
    let more : um_has_more w.pdcp ≡ true = rw q refl in
    um_told w.pdcp.lcid bits w.tx size held (um_has_more w.pdcp) (length w.tx.waiting.sdus == 0) true
    (um_is_held held w.tx) (nat_lt size (head_of w.tx.bits + 1)) refl refl refl
    (rw more (no_more (length w.tx.waiting.sdus == 0))) (λ h n f. um_small w.tx size held e n f)

um_none_tells : (size : ℕ) (held : Option ℕ) (bits : ℕ) (w : Feeding) → offers w.pdcp.tx ≡ []
    → UmTells w w size held bits (has_some w.tx.waiting.sdus || um_has_more w.pdcp)
um_none_tells size held bits w q =
    let none : um_has_more w.pdcp ≡ false = rw q refl in
    let empty = length w.tx.waiting.sdus == 0 in
    rw (none, none_empty w.tx.waiting.sdus)
    (um_told w.pdcp.lcid bits w.tx size held false empty (not empty || false) (um_is_held held w.tx)
    (nat_lt size (head_of w.tx.bits + 1)) refl refl refl (empty_is empty) (λ h n f. absurd (not_both empty h n)))

um_feeding_tells : (os : List Offer) (size : ℕ) (held : Option ℕ) (bits : ℕ) (w : Feeding) → offers w.pdcp.tx ≡ os
    → UmTells w (um_feeds os size held w) size held bits (has_some w.tx.waiting.sdus || um_has_more w.pdcp)
um_feeding_tells [] size held bits w q = um_none_tells size held bits w q
um_feeding_tells (o ∷ os) size held bits w q =
    let more : um_has_more w.pdcp ≡ true = rw q refl in
    subst (λ (h : Bool). UmTells w (um_feeds (o ∷ os) size held w) size held bits h)
    (sym (ap (λ (m : Bool). has_some w.tx.waiting.sdus || m) more ∙ or_true (has_some w.tx.waiting.sdus)))
    (um_fed_tells o os size held bits w (is_hungry w.tx size held) refl q)

um_tells : (lcid : ℕ) (b : UmState) (share : ℕ) (held : Option ℕ)
    → Tells (has_data (Um b)) (reason (Um b) share held) (reasons (told lcid (Um b) share held))
    (data_pdus (Um b) share held)
unfolding told um_taking um_answer
um_tells lcid b share held =
    let size = size_in share in
    let begin : Feeding = record { pdcp = b.pdcp; tx = b.tx; events = [] } in
    let f = um_feeding b share held in
    let t = um_feeding_tells (offers b.pdcp.tx) size held b.bits begin refl in
    record {
      told_is =
          quiet_then f.events
          (um_data_told f.pdcp.lcid b.bits (um_has_more f.pdcp) (why_idle f.tx held) (um_taken f.tx size held))
          (um_quiet (offers b.pdcp.tx) size held begin refl) ∙ t.told_is;
      written_is = t.written_is;
    }

-- ---- a transparent sender

tm_by : (lcid next size : ℕ) (sdus : List (List ℕ)) (b : Bool) → nat_lt size (length (first sdus)) ≡ b
    → Tells (has_some sdus) (tm_reason sdus size) (reasons (tm_data_told lcid (first_of next size sdus)))
    (pdus_of (first_of next size sdus))
tm_by lcid next size [] b e = record { told_is = refl; written_is = refl }
tm_by lcid next size (x ∷ xs) true e = rw (e, has_one x xs) (record { told_is = refl; written_is = refl })
tm_by lcid next size (x ∷ xs) false e = rw (e, has_one x xs) (record { told_is = refl; written_is = refl })

tm_tells : (lcid : ℕ) (b : Transparent) (share : ℕ) (held : Option ℕ)
    → Tells (has_data (Tm b)) (reason (Tm b) share held) (reasons (told lcid (Tm b) share held))
    (data_pdus (Tm b) share held)
unfolding told tm_taken
tm_tells lcid b share held =
    tm_by lcid b.next (share - 3) b.waiting (nat_lt (share - 3) (length (first b.waiting))) refl

pub tells_why : (lcid : ℕ) (f : Flow) (share : ℕ) (held : Option ℕ)
    → Tells (has_data f) (reason f share held) (reasons (told lcid f share held)) (data_pdus f share held)
tells_why lcid (Tm b) share held = tm_tells lcid b share held
tells_why lcid (Um b) share held = um_tells lcid b share held
tells_why lcid (Am b) share held = am_tells lcid b share held
