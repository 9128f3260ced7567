-- A data PDU that a sender writes is logged as the event of its call.
use Rattle.std.proofs.Common.{◌≡◌, ◌<◌, ◌≤◌, ℕ, ◌+◌, ◌-◌, ◌%◌, Bool, true, false, ◌==◌, if◌then◌else◌, List, [], ◌∷◌}
use Rattle.std.proofs.Common.{map, length, take, slice_range, Option, Some, None, Ok, refl, ap, sym, subst}
use Rattle.std.proofs.Common.{◌∙◌, arith}
use Rattle.std.specs.List.{AllByRecursion, sum}
use Rattle.std.proofs.lemmas.Bool.Decides.{nat_tests}
use Rattle.std.proofs.lemmas.List.{length-map}
use Rattle.std.proofs.lemmas.List.Sums.{sum_by-cons}
use Rattle.l2_types.specs.declared.config.AmTxConfig.{AmTxConfig}
use Rattle.rlc_pdu.specs.declared.outcome.Taken.{Taken}
use Rattle.rlc_pdu.specs.declared.outcome.Taken.TheVariants as taken
use Rattle.rlc_pdu.specs.declared.pdu.Segment.{Segment}
use Rattle.rlc_pdu.specs.Laws.{AreCutAgain}
use Rattle.rlc_pdu.specs.Pdus.{AmdPdu, Payload, AreLens}
use Rattle.rlc_pdu.specs.Reading.{am_at}
use Rattle.rlc_pdu.proofs.Again.{cut_again}
use Rattle.rlc_queue.proofs.Lens.{within as fits-size}
use Rattle.rlc_am_rx_window.specs.Piece.{octets_in, so_of}
use Rattle.rlc_am_tx_window.specs.Cut.{clip}
use Rattle.rlc_am_tx_window.specs.Sent.{Sent}
use Rattle.rlc_am_tx_window.specs.Window.{next}
use Rattle.rlc_am_tx_window.proofs.CutSteps.{clip-lens, clip-sum}
use Rattle.rlc_am_tx.specs.declared.turn.Turn.{Turn}
use Rattle.rlc_am_tx.specs.declared.turn.Turn.TheVariants as turns
use Rattle.rlc_am_tx.specs.Machine.{State, turn, answer, waits, again, first_place, number_again, new_slot}
use Rattle.bearer_pdcp.specs.Telling.{pdus_of}
use Rattle.pdcp_pdu.specs.declared.pdu.PdcpKind.{PdcpKind}
use Rattle.law_words.specs.Passing.{last_with}
use Rattle.journal_account.specs.FlowEvents.{FlowEvent, NumberWritten, OctetsResent, next_of}
use Rattle.law_rlc.specs.AmSender.Run.{Call, begun}
use Rattle.law_rlc.specs.AmSender.Acked.{acked_after}
use Rattle.law_rlc.specs.AmSender.Octets.{Place, Octets, nothing_sent, octets_after, written, segment_of, sent_with}
use Rattle.law_rlc.specs.AmSender.Octets.{lengths, again_octets, new_count, IsNew, IsAgain, IsNone, IsWritten}
use Rattle.law_rlc.specs.AmSender.Octets.{HasOctets}
use Rattle.law_rlc.specs.AmSender.Polled.{poll_of}
use Rattle.law_rlc.proofs.AmSender.Keys.{key}
use Rattle.law_rlc.proofs.AmSender.Least.{least}
use Rattle.law_rlc.proofs.AmSender.Pdus.{IsFace, face-length, face-some}
use Rattle.law_rlc.proofs.AmSender.Resends.{is-below}
use Rattle.law_rlc.proofs.AmSender.Stretches.{clip-range, range-all, range-length}
use Rattle.law_rlc.proofs.AmSender.Writes.{Keeps, new-face, new-able, run-keeps, start-keeps, writes}
use Rattle.law_rlc.proofs.AmPair.Cells.{octets_of}
use Rattle.law_rlc.proofs.AmPair.Reading.{IsAired, read_as, stretch-read}
use Rattle.law_rlc.proofs.AmPair.Runs.{same-state}
use Rattle.law_rlc.proofs.AmPair.Sound.{AllAired}
use Rattle.law_account.specs.History.{turn_told, with_told}
use Rattle.law_account.proofs.Taken.{is_whole}
use Rattle.law_run.specs.TwoEnds.SenderLog.{writing}
use Rattle.law_run.proofs.OwnPdus.Sender.{ran}
use Rattle.law_sound.specs.LogLaws.{data_told, written_told, with_log}
use Rattle.law_sound.proofs.Numbering.{own_last}

-- ---- a stretch of a data field, as it is read

pub record IsStretch (number from to : ℕ) (octets : List ℕ) : Type 0 where
  pub pdu : AmdPdu
  pub read : am_at octets ≡ Ok (Payload pdu)
  pub sn : pdu.sn ≡ number % 1024
  pub so : so_of pdu.segment ≡ from
  pub size : octets_in pdu.elements ≡ to - from

begins_at : (from to size : ℕ) → from < to → to ≤ size → so_of (segment_of from to size) ≡ from
begins_at from to size lt le = by (to - from == size) refl
  where
    by : (b : Bool) → (to - from == size) ≡ b
        → so_of (if b then None else Some (record { last = to == size; so = from })) ≡ from
    by true e = let n : to - from ≡ size = grind (arith, nat_tests) in omega (arith, n, lt, le)
    by false e = refl

octets_sum : (xss : List (List ℕ)) → octets_in xss ≡ sum (map length xss)
octets_sum [] = refl
octets_sum (xs ∷ xss) =
    ap (λ (n : ℕ). length xs + n) (octets_sum xss)
    ∙ sym (sum_by-cons (λ (n : ℕ). n) (length xs) (map length xss))

pub reads_stretch : (number : ℕ) (poll : Bool) (ps : List Place) (from to : ℕ) → IsAired ps → from < to → to ≤ length ps
    → IsStretch number from to (written number poll (segment_of from to (length ps)) (slice_range ps from to))
reads_stretch number poll ps from to a lt le = record {
  pdu = read_as number poll (segment_of from to (length ps)) qs;
  read = stretch-read number poll ps from to a lt le;
  sn = refl;
  so = begins_at from to (length ps) lt le;
  size =
      octets_sum (read_as number poll (segment_of from to (length ps)) qs).elements
      ∙ (ap (λ (ls : List ℕ). sum ls) again.lens_are ∙ (total ∙ long));
}
  where
    qs : List Place
    qs = slice_range ps from to

    long : length (slice_range ps from to) ≡ to - from
    long = range-length ps from to le

    same : clip from to (lengths 0 ps) ≡ lengths 0 (slice_range ps from to)
    same = clip-range from to ps le

    total : sum (lengths 0 (slice_range ps from to)) ≡ length (slice_range ps from to)
    total =
        let c = clip-sum from to (lengths 0 ps) in
        ap (λ (ls : List ℕ). sum ls) (sym same) ∙ omega (arith, c, a.whole, long, le)

    lens : AreLens (lengths 0 (slice_range ps from to))
    lens = subst (λ (ls : List ℕ). AreLens ls) same
        (clip-lens from to (lengths 0 ps) a.lens lt (omega (arith, le, a.whole)))

    again : AreCutAgain (lengths 0 (slice_range ps from to)) (octets_of (slice_range ps from to))
    again = cut_again (lengths 0 qs) (octets_of qs) lens (total ∙ sym (length-map qs (λ (p : Place). p.octet)))

segment_all : (n : ℕ) → segment_of 0 n n ≡ None
segment_all n = ap (λ (b : Bool). if b then None else Some (record { last = n == n; so = 0 })) (same n)
  where
    same : (n : ℕ) → (n - 0 == n) ≡ true
    same n = grind (arith, nat_tests)

reads_all : (number : ℕ) (poll : Bool) (ps : List Place) → IsAired ps
    → IsStretch number 0 (length ps) (written number poll None ps)
reads_all number poll ps a =
    subst (λ (octets : List ℕ). IsStretch number 0 (length ps) octets)
    (ap (λ (s : Option Segment). written number poll s (slice_range ps 0 (length ps))) (segment_all (length ps))
    ∙ ap (λ (qs : List Place). written number poll None qs) (range-all ps (length ps) refl))
    (reads_stretch number poll ps 0 (length ps) a a.some (omega arith))

face_aired : (h : Sent) (ps : List Place) → IsFace (key h) ps → length ps ≤ 32767 → IsAired ps
face_aired h ps f few = record {
  some = face-some (key h) ps f;
  few = few;
  joined = f.joined;
  lens = subst (λ (ls : List ℕ). AreLens ls) f.lens f.written;
  whole = ap (λ (ls : List ℕ). sum ls) (sym f.lens) ∙ (f.whole ∙ face-length (key h) ps f);
}

-- ---- what is told of it

told_new : (next number : ℕ) (octets : List ℕ) (size : ℕ) → next ≡ number → (r : IsStretch number 0 size octets)
    → data_told next r.pdu ≡ NumberWritten size
told_new next number octets size e r = by (r.pdu.sn == next % 1024) is
  where
    is : (r.pdu.sn == next % 1024) ≡ true
    is = let sn = r.sn in grind (arith, nat_tests, sn, e)

    by : (b : Bool) → b ≡ true
        → (if b then NumberWritten (octets_in r.pdu.elements) else OctetsResent (last_with r.pdu.sn next)
        (so_of r.pdu.segment) (so_of r.pdu.segment + octets_in r.pdu.elements)) ≡ NumberWritten size
    by true q = ap (λ (n : ℕ). NumberWritten n) (let s = r.size in omega (arith, s))
    by false q = cc

told_again : (next number from to : ℕ) (octets : List ℕ) → number < next → next ≤ number + 512 → from < to
    → (r : IsStretch number from to octets) → data_told next r.pdu ≡ OctetsResent number from to
told_again next number from to octets lt young some r = by (r.pdu.sn == next % 1024) is
  where
    sn : r.pdu.sn ≡ number % 1024
    sn = r.sn

    is : (r.pdu.sn == next % 1024) ≡ false
    is = let no : (r.pdu.sn ≡ next % 1024) → ⊥ = λ same. omega (arith, sn, lt, young, same) in
        grind (arith, nat_tests, no)

    end : so_of r.pdu.segment + octets_in r.pdu.elements ≡ to
    end = let a = r.so in let b = r.size in omega (arith, a, b, some)

    by : (b : Bool) → b ≡ false
        → (if b then NumberWritten (octets_in r.pdu.elements) else OctetsResent (last_with r.pdu.sn next)
        (so_of r.pdu.segment) (so_of r.pdu.segment + octets_in r.pdu.elements)) ≡ OctetsResent number from to
    by true q = cc
    by false q =
        ap (λ (n : ℕ). OctetsResent n (so_of r.pdu.segment) (so_of r.pdu.segment + octets_in r.pdu.elements))
        (ap (λ (m : ℕ). last_with m next) sn ∙ own_last number next lt (omega (arith, young)))
        ∙ (ap (λ (n : ℕ). OctetsResent number n (so_of r.pdu.segment + octets_in r.pdu.elements)) r.so
        ∙ ap (λ (n : ℕ). OctetsResent number from n) end)

-- ---- what `take` answers is read so

module _ (config : AmTxConfig) (calls : List Call) (offered : AllByRecursion HasOctets calls)
    (aired : AllAired (ran config calls).past.sent) (size : ℕ) (few : size ≤ 32767) (held : Option ℕ) (more : Bool)
  where
    pub keeps : Keeps (ran config calls).state (ran config calls).past
    keeps = run-keeps calls (begun config nothing_sent) offered (start-keeps config)

    pub young : length (ran config calls).past.sent ≤ number_again (ran config calls).state + 512
    young =
        let n = keeps.faces.number in
        let w : next (ran config calls).state.window ≤ (ran config calls).state.window.base + 512 =
        subst (λ (x : State). next x.window ≤ x.window.base + 512)
        (same-state acked_after octets_after calls (begun config (λ n. false)) (begun config nothing_sent) refl)
        (least config calls).window in
        omega (arith, w, n)

    abbrev pub new_places : List Place
    new_places = take (new_count (ran config calls).state size) (ran config calls).past.unsent

    pub new_face : turn (ran config calls).state size held more ≡ turns.New
        → IsFace (key (new_slot (ran config calls).state size)) new_places
    new_face e =
        let w = ran config calls in
        new-face w.state size w.past.unsent w.past.sent keeps.faces (new-able w.state size held more e)

    pub new_aired : turn (ran config calls).state size held more ≡ turns.New → IsAired new_places
    new_aired e =
        let w = ran config calls in
        let able = new-able w.state size held more e in
        let l = face-length (key (new_slot w.state size)) new_places (new_face e) in
        let u = fits-size 2 size w.state.queue.sdus able.0 (let three = able.1 in omega (arith, three)) in
        face_aired (new_slot w.state size) new_places (new_face e) (omega (arith, l, u, few))

    pub new_read : (number : ℕ) (poll : Bool) → turn (ran config calls).state size held more ≡ turns.New
        → IsStretch number 0 (length new_places) (written number poll None new_places)
    new_read number poll e = reads_all number poll new_places (new_aired e)

    pub again_read : (from to : ℕ) (t : Taken) → IsAgain (ran config calls).state size from to (ran config calls).past t
        → IsStretch (number_again (ran config calls).state) from to
        (again_octets (ran config calls).past (number_again (ran config calls).state) from to (poll_of t))
    again_read from to t w =
        let number = number_again (ran config calls).state in
        reads_stretch number (poll_of t) (sent_with (ran config calls).past number) from to (aired number w.sent) w.some
        w.within

-- ---- and logged so

module _ (kind : PdcpKind) (config : AmTxConfig) (calls : List Call) (offered : AllByRecursion HasOctets calls)
    (aired : AllAired (ran config calls).past.sent) (es : List FlowEvent)
    (written_is : next_of es ≡ next (ran config calls).state.window) (size : ℕ) (few : size ≤ 32767)
    (held : Option ℕ) (more : Bool) where
  abbrev s : State
  s = (ran config calls).state

  abbrev o : Octets
  o = (ran config calls).past

  count : next_of es ≡ length o.sent
  count = written_is ∙ sym (keeps config calls offered aired size few held more).faces.number

  abbrev Logs : Taken → Turn → Type 0
  Logs t u = with_log kind false (writing (pdus_of t)) es ≡ with_told (turn_told u s size) es

  -- one data PDU
  one : (number : ℕ) (first poll : Bool) (octets : List ℕ) (e : FlowEvent) (pdu : AmdPdu)
      → am_at octets ≡ Ok (Payload pdu) → data_told (next_of es) pdu ≡ e
      → with_log kind false (writing (pdus_of (taken.Piece number first poll octets))) es ≡ e ∷ es
  one number first poll octets e pdu read is =
      ap (λ r. with_told (written_told (next_of es) r) es) read ∙ ap (λ (x : FlowEvent). x ∷ es) is

  new_logs : (t : Taken) → turn s size held more ≡ turns.New → IsNew s size o t → Logs t turns.New
  new_logs t e w =
      let ps = new_places config calls offered aired size few held more in
      let l = face-length (key (new_slot s size)) ps (new_face config calls offered aired size few held more e) in
      let r = new_read config calls offered aired size few held more (length o.sent) (poll_of t) e in
      subst (λ (x : Taken). Logs x turns.New) (sym w.is)
      (one (length o.sent) true (poll_of t) (written (length o.sent) (poll_of t) None ps)
      (NumberWritten (length (new_slot s size).field)) r.pdu r.read
      (told_new (next_of es) (length o.sent) (written (length o.sent) (poll_of t) None ps) (length ps) count r
      ∙ ap (λ (n : ℕ). NumberWritten n) (sym l)))

  again_logs : (from to : ℕ) (t : Taken) (u : Turn) → turn_told u s size ≡ Some (OctetsResent (number_again s) from to)
      → IsAgain s size from to o t → Logs t u
  again_logs from to t u told w =
      let number = number_again s in
      let r = again_read config calls offered aired size few held more from to t w in
      subst (λ (x : Taken). Logs x u) (sym w.is)
      (one number false (poll_of t) (written number (poll_of t) (segment_of from to (length (sent_with o number)))
      (slice_range (sent_with o number) from to)) (OctetsResent number from to) r.pdu r.read
      (told_again (next_of es) number from to _ (let n = count in let k = w.sent in omega (arith, n, k))
      (let n = count in let y = young config calls offered aired size few held more in omega (arith, n, y)) w.some r)
      ∙ ap (λ (x : Option FlowEvent). with_told x es) (sym told))

  whole_field : waits s ≡ true → length (again s).field ≡ length (sent_with o (number_again s))
  whole_field w =
      face-length (key (again s)) (sent_with o (number_again s))
      ((keeps config calls offered aired size few held more).faces.slots (first_place s) (is-below s w))

  none_logs : (t : Taken) → IsNone t → with_log kind false (writing (pdus_of t)) es ≡ es
  none_logs (taken.Piece number fresh polled octets) n = absurd n
  none_logs taken.Idle n = refl
  none_logs taken.Small n = refl
  none_logs taken.Shut n = refl
  none_logs taken.Held n = refl
  none_logs taken.Stopped n = refl

  turn_logs : (u : Turn) (t : Taken) → turn s size held more ≡ u → IsWritten u s size o t → Logs t u
  turn_logs turns.New t e w = new_logs t e w
  turn_logs turns.Whole t e w =
      again_logs 0 (length (sent_with o (number_again s))) t turns.Whole
      (ap (λ (n : ℕ). Some (OctetsResent (number_again s) 0 n)) (whole_field (is_whole s size held more e))) w
  turn_logs turns.Part t e w = again_logs _ _ t turns.Part refl w
  turn_logs turns.Idle t e w = none_logs t w
  turn_logs turns.Stopped t e w = none_logs t w
  turn_logs turns.Small t e w = none_logs t w
  turn_logs turns.Shut t e w = none_logs t w
  turn_logs turns.Held t e w = none_logs t w

  pub data_logged : with_log kind false (writing (pdus_of (answer s size held more))) es
      ≡ with_told (turn_told (turn s size held more) s size) es
  data_logged =
      turn_logs (turn s size held more) (answer s size held more) refl (writes config calls size held more offered)
