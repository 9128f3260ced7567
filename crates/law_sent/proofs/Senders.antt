-- What an acknowledged sender writes is right as a checker of journals asks it.
use Rattle.std.proofs.Common.{◌≡◌, ◌<◌, ◌≤◌, inl, inr, ℕ, ◌+◌, ◌-◌, ◌%◌, Bool, true, false, ◌==◌, List, [], ◌∷◌, ◌++◌}
use Rattle.std.proofs.Common.{length, take, drop, slice_range, if◌then◌else◌, Option, Some, None}
use Rattle.std.proofs.Common.{Result, Ok, refl, ap, sym, subst, ◌∙◌, arith, length-append}
use Rattle.std.specs.List.{AllByRecursion, concat, sum}
use Rattle.std.proofs.lemmas.Bool.Decides.{nat_tests}
use Rattle.std.proofs.lemmas.Bool.{cases_lt}
use Rattle.std.proofs.lemmas.List.{get_or_append_left, get_or_push, length-map}
use Rattle.l2_types.specs.declared.config.AmTxConfig.{AmTxConfig}
use Rattle.pdcp_pdu.specs.declared.PdcpKind.{PdcpKind}
use Rattle.pdu_show.specs.declared.kinds.Layout.{Layout}
use Rattle.pdu_show.specs.declared.kinds.Layout.TheVariants as layouts
use Rattle.rlc_pdu.specs.declared.fault.RlcRefusal.{RlcRefusal}
use Rattle.rlc_pdu.specs.declared.outcome.Taken.{Taken}
use Rattle.rlc_pdu.specs.declared.outcome.Taken.TheVariants as taken
use Rattle.rlc_pdu.specs.declared.pdu.Segment.{Segment}
use Rattle.rlc_pdu.specs.Pdus.{AmdPdu, AcknowledgedPdu, Payload, AreLens}
use Rattle.rlc_pdu.specs.Reading.{am_at}
use Rattle.rlc_queue.proofs.Lens.{within as fits-size}
use Rattle.rlc_am_tx_window.specs.Window.{next}
use Rattle.rlc_am_rx_window.specs.Piece.{so_of}
use Rattle.rlc_am_tx.specs.declared.turn.Turn.{Turn}
use Rattle.rlc_am_tx.specs.declared.turn.Turn.TheVariants as turns
use Rattle.rlc_am_tx.specs.Machine.{State, turn, answer, number_again, new_slot}
use Rattle.law_words.specs.Passing.{last_with}
use Rattle.journal_stream.specs.OctetEvents.{fields, AreNext, AreOf}
use Rattle.journal_sent.specs.Marks.{mark, sdu_marks}
use Rattle.journal_sent.specs.SentPdus.{histories, written_in}
use Rattle.journal_sent.specs.SentFlows.{flow_judges, judges_by, judges_amd, marks_in, is_open_in}
use Rattle.journal_sent.specs.RightSent.{Flow, Sent, NewIsSent, NewIsShaped, IsWhole, NumberIsSent, IsLastBy}
use Rattle.journal_sent.specs.RightSent.{NumberIsShaped, last_of, AmdIsSent, AmdIsShaped, SentAs, ShapedAs, field_of}
use Rattle.law_rlc.specs.AmSender.Run.{Call, Offer, Take, Status, Tick, Expire, Settle, Confirm, World, after}
use Rattle.law_rlc.specs.AmSender.Run.{run_am_sender, begun}
use Rattle.law_rlc.specs.AmSender.Acked.{acked_after}
use Rattle.law_rlc.specs.AmSender.Octets.{Place, Octets, nothing_sent, written, segment_of, sent_with, new_count}
use Rattle.law_rlc.specs.AmSender.Octets.{octets_by, octets_after, IsNew, again_octets, IsAgain, IsNone, IsWritten}
use Rattle.law_rlc.specs.AmSender.Octets.{HasOctets}
use Rattle.law_rlc.specs.AmSender.Polled.{poll_of}
use Rattle.law_rlc.proofs.AmSender.Keys.{key}
use Rattle.law_rlc.proofs.AmSender.Least.{least}
use Rattle.law_rlc.proofs.AmSender.Pdus.{IsFace, face-length, face-some}
use Rattle.law_rlc.proofs.AmSender.Stretches.{range-all, range-length}
use Rattle.law_rlc.proofs.AmSender.Writes.{Keeps, new-face, new-able, after-keeps, run-keeps, start-keeps, writes}
use Rattle.law_rlc.proofs.AmPair.Reading.{IsAired, read_as, stretch-read}
use Rattle.law_rlc.proofs.AmPair.Runs.{same-state}
use Rattle.law_rlc.proofs.AmPair.Sound.{AllAired}
use Rattle.law_sent.specs.Senders.{octets_of, marks_of, IsStreamOf, AreStreamsOf, ran, IsAsked, OffersGoOn}
use Rattle.law_sent.specs.Senders.{how_of, AnswerIsRight, behind_answer, IsOpen, SendersWriteRightly}
use Rattle.law_sent.proofs.SenderMarks.{sdu_octets, sdu_places, octets_read, marks_read, joined_range}
use Rattle.law_sent.proofs.SenderStreams.{offer_goes, comes_next, written_goes, stays, field_is, stands_there}

pub offers_go_on : OffersGoOn
offers_go_on s sdu o x some h = record {
  octets = offer_goes (λ p. p.octet) s sdu o x.octets sdu (sdu_octets true sdu) h.octets;
  marks = offer_goes (λ p. mark p.begins p.ends) s sdu o x.marks (sdu_marks (length sdu)) (sdu_places true sdu) h.marks;
}

-- ---- what each new PDU carried can be written

has_octets : (c : Call) → IsAsked c → HasOctets c
has_octets (Offer sdu) h = h
has_octets (Take size held more) h = tt
has_octets (Status status) h = tt
has_octets Tick h = tt
has_octets (Expire more) h = tt
has_octets (Settle more) h = tt
has_octets Confirm h = tt

have_octets : (cs : List Call) → AllByRecursion IsAsked cs → AllByRecursion HasOctets cs
have_octets [] h = tt
have_octets (c ∷ cs) h = (has_octets c h.0, have_octets cs h.1)

new_aired : (s : State) (o : Octets) (size : ℕ) (held : Option ℕ) (more : Bool) → size ≤ 32767 → Keeps s o
    → turn s size held more ≡ turns.New → IsAired (take (new_count s size) o.unsent)
new_aired s o size held more few keeps e =
    let able = new-able s size held more e in
    let ps = take (new_count s size) o.unsent in
    let f : IsFace (key (new_slot s size)) ps = new-face s size o.unsent o.sent keeps.faces able in
    let l = face-length (key (new_slot s size)) ps f in
    let w = f.whole in
    let three = able.1 in
    let u = fits-size 2 size s.queue.sdus able.0 (omega (arith, three)) in
    record {
      some = face-some (key (new_slot s size)) ps f;
      few = omega (arith, l, u, few);
      joined = f.joined;
      lens = subst (λ (ls : List ℕ). AreLens ls) f.lens f.written;
      whole = ap (λ (ls : List ℕ). sum ls) (sym f.lens) ∙ omega (arith, w, l);
    }

aired_more : (sent : List (List Place)) (ps : List Place) → AllAired sent → IsAired ps → AllAired (sent ++ ps ∷ [])
aired_more sent ps a b n lt = let l = length-append sent (ps ∷ []) in elim (cases_lt n (length sent)) [
  | inl old ↦ subst (λ (qs : List Place). IsAired qs) (sym (get_or_append_left sent (ps ∷ []) [] n old)) (a n old)
  | inr new ↦ subst (λ (qs : List Place). IsAired qs) (sym (get_or_push sent ps [] n (omega (arith, l, lt, new)))) b
]

aired_by : (u : Turn) (s : State) (o : Octets) (size : ℕ)
    → (u ≡ turns.New → IsAired (take (new_count s size) o.unsent)) → AllAired o.sent
    → AllAired (octets_by u s size o).sent
aired_by turns.New s o size new a = aired_more o.sent (take (new_count s size) o.unsent) a (new refl)
aired_by turns.Whole s o size new a = a
aired_by turns.Part s o size new a = a
aired_by turns.Idle s o size new a = a
aired_by turns.Stopped s o size new a = a
aired_by turns.Small s o size new a = a
aired_by turns.Shut s o size new a = a
aired_by turns.Held s o size new a = a

aired_after : (c : Call) (s : State) (o : Octets) → IsAsked c → Keeps s o → AllAired o.sent
    → AllAired (octets_after s c o).sent
aired_after (Offer sdu) s o h k a = a
aired_after (Take size held more) s o h k a =
    aired_by (turn s size held more) s o size (new_aired s o size held more h k) a
aired_after (Status status) s o h k a = a
aired_after Tick s o h k a = a
aired_after (Expire more) s o h k a = a
aired_after (Settle more) s o h k a = a
aired_after Confirm s o h k a = a

aired_run : (cs : List Call) (w : World Octets) → AllByRecursion IsAsked cs → Keeps w.state w.past
    → AllAired w.past.sent → AllAired (run_am_sender octets_after cs w).past.sent
aired_run [] w h k a = a
aired_run (c ∷ cs) w h k a =
    aired_run cs (record { state = after w.state c; past = octets_after w.state c w.past }) h.1
    (after-keeps w.state c w.past (has_octets c h.0) k) (aired_after c w.state w.past h.0 k a)

-- ---- a PDU and what is read of it

segment_all : (n : ℕ) → segment_of 0 n n ≡ None
segment_all n = ap (λ (b : Bool). if b then None else Some (record { last = n == n; so = 0 })) (same n)
  where
    same : (n : ℕ) → (n - 0 == n) ≡ true
    same n = grind (arith, nat_tests)

reads_all : (number : ℕ) (poll : Bool) (ps : List Place) → IsAired ps
    → am_at (written number poll None ps) ≡ Ok (Payload (read_as number poll None ps))
reads_all number poll ps aired =
    let size = length ps in
    subst (λ (s : Option Segment). am_at (written number poll s ps) ≡ Ok (Payload (read_as number poll s ps)))
    (segment_all size)
    (subst
    (λ (qs : List Place). am_at (written number poll (segment_of 0 size size) qs)
    ≡ Ok (Payload (read_as number poll (segment_of 0 size size) qs))) (range-all ps size refl)
    (stretch-read number poll ps 0 size aired aired.some (omega arith)))

so_is : (from to size : ℕ) → from < to → to ≤ size → so_of (segment_of from to size) ≡ from
so_is from to size lt le = by (to - from == size) refl
  where
    by : (b : Bool) → (to - from == size) ≡ b
        → so_of (if b then None else Some (record { last = to == size; so = from })) ≡ from
    by true e = let n : to - from ≡ size = grind (arith, nat_tests) in omega (arith, n, lt, le)
    by false e = refl

is_whole : (from to : ℕ) (own field : List ℕ) → length field ≡ to - from
    → IsWhole (segment_of from to (length own)) own field
is_whole from to own field few = by (to - from == length own) refl
  where
    by : (b : Bool) → (to - from == length own) ≡ b
        → IsWhole (if b then None else Some (record { last = to == length own; so = from })) own field
    by true e = let n : to - from ≡ length own = grind (arith, nat_tests) in omega (arith, few, n)
    by false e = tt

is_last_by : (from to size end' : ℕ) → end' ≡ to → IsLastBy (segment_of from to size) end' size
is_last_by from to size end' same = by (to - from == size)
  where
    by : (b : Bool) → IsLastBy (if b then None else Some (record { last = to == size; so = from })) end' size
    by true = tt
    by false = (
      λ e. let n : to ≡ size = grind (arith, nat_tests, e) in omega (arith, n, same),
      λ e. let n : to ≡ size = omega (arith, e, same) in grind (arith, nat_tests, n),
    )

last_is : (number count sn : ℕ) → sn ≡ number % 1024 → number < count → count ≤ number + 512
    → last_with sn count ≡ number
last_is number count sn e lt young = omega (arith, e, lt, young)

-- ---- an answer that is right, and the streams behind it

record GoesRightly (acked : ℕ → Bool) (passed : Option (List ℕ)) (o : Octets) (f : Flow) (t : Taken) : Type 0 where
  right : AnswerIsRight acked passed t f
  streams : AreStreamsOf o (behind_answer acked passed t f).stream

module _ (acked : ℕ → Bool) (passed : Option (List ℕ)) (kind : PdcpKind) (now : Octets) (f : Flow)
    (layout : f.layout ≡ layouts.Am kind) (number : ℕ) (poll : Bool) (octets : List ℕ) (pdu : AmdPdu)
    (read : am_at octets ≡ Ok (Payload pdu)) where
  -- new, or sent again
  piece_goes : (fresh : Bool) → AmdIsSent acked (how_of fresh) (Ok (Payload pdu)) f
      → AmdIsShaped acked (how_of fresh) (Ok (Payload pdu)) f
      → AreStreamsOf now (judges_amd histories acked (how_of fresh) (Ok (Payload pdu)) f).flow.stream
      → GoesRightly acked passed now f (taken.Piece number fresh poll octets)
  piece_goes fresh sent shaped streams = record {
    right = (
      subst (λ (l : Layout). SentAs l acked (how_of fresh) passed octets f) (sym layout)
          (subst (λ (r : Result AcknowledgedPdu RlcRefusal). AmdIsSent acked (how_of fresh) r f) (sym read) sent),
      subst (λ (l : Layout). ShapedAs l acked (how_of fresh) octets f) (sym layout)
          (subst (λ (r : Result AcknowledgedPdu RlcRefusal). AmdIsShaped acked (how_of fresh) r f) (sym read) shaped),
    );
    streams = subst (λ (x : Sent). AreStreamsOf now x) (sym behind) streams;
  }
    where
      behind : (flow_judges histories acked (how_of fresh) passed octets f).flow.stream
          ≡ (judges_amd histories acked (how_of fresh) (Ok (Payload pdu)) f).flow.stream
      behind =
          ap (λ (l : Layout). (judges_by histories l acked (how_of fresh) passed octets f).flow.stream) layout
          ∙ ap
          (λ (r : Result AcknowledgedPdu RlcRefusal). (judges_amd histories acked (how_of fresh) r f).flow.stream) read

-- ---- `take`

module _ (config : AmTxConfig) (calls : List Call) (size : ℕ) (held : Option ℕ) (more : Bool) (kind : PdcpKind)
    (acked : ℕ → Bool) (passed : Option (List ℕ)) (f : Flow) (asked : AllByRecursion IsAsked calls)
    (few : size ≤ 32767) (layout : f.layout ≡ layouts.Am kind)
    (streams : AreStreamsOf (ran config calls).past f.stream) where
  abbrev s : State
  s = (ran config calls).state

  abbrev o : Octets
  o = (ran config calls).past

  abbrev now : Octets
  now = octets_after s (Take size held more) o

  abbrev Goes : Taken → Type 0
  Goes t = GoesRightly acked passed now f t

  offered : AllByRecursion HasOctets calls
  offered = have_octets calls asked

  keeps : Keeps s o
  keeps = run-keeps calls (begun config nothing_sent) offered (start-keeps config)

  aired : AllAired o.sent
  aired = aired_run calls (begun config nothing_sent) asked (start-keeps config) (λ n lt. absurd (omega (arith, lt)))

  count : length (fields f.stream.octets) ≡ length o.sent
  count = ap (λ (l : List (List ℕ)). length l) streams.octets.fields_are ∙ length-map o.sent octets_of

  -- a number that is sent again is near
  young : length o.sent ≤ number_again s + 512
  young =
      let same = same-state acked_after octets_after calls (begun config (λ n. false)) (begun config nothing_sent) refl
      in
      let w : next s.window ≤ s.window.base + 512 =
      subst (λ (x : State). next x.window ≤ x.window.base + 512) same (least config calls).window in
      let n = keeps.faces.number in
      omega (arith, w, n)

  -- ---- a new PDU

  abbrev ps : List Place
  ps = take (new_count s size) o.unsent

  new_pdu : (t : Taken) → turn s size held more ≡ turns.New → IsNew s size o t → Goes t
  new_pdu t e w =
      let is : IsAired ps = new_aired s o size held more few keeps e in
      let pdu = read_as (length o.sent) (poll_of t) None ps in
      let read = reads_all (length o.sent) (poll_of t) ps is in
      let octets : octets_of ps ≡ concat pdu.elements = sym (octets_read (length o.sent) (poll_of t) None ps) in
      let marks : marks_of ps ≡ marks_in pdu.fi pdu.elements =
      sym (marks_read (length o.sent) (poll_of t) None ps is.some is.joined) in
      let sent : now.sent ≡ o.sent ++ ps ∷ [] = ap (λ (u : Turn). (octets_by u s size o).sent) e in
      let unsent : now.unsent ≡ drop (new_count s size) o.unsent =
      ap (λ (u : Turn). (octets_by u s size o).unsent) e in
      let carried : NewIsSent true (concat pdu.elements) f.stream = record {
        whole = refl;
        next = subst (λ (xs : List ℕ). AreNext f.stream.octets xs) octets
            (comes_next (λ p. p.octet) o f.stream.octets (new_count s size) streams.octets);
      } in
      let framed : NewIsShaped 1024 pdu.sn (marks_in pdu.fi pdu.elements) f.stream = record {
        number = ap (λ (k : ℕ). k % 1024) (sym count);
        next = subst (λ (xs : List ℕ). AreNext f.stream.marks xs) marks
            (comes_next (λ p. mark p.begins p.ends) o f.stream.marks (new_count s size) streams.marks);
      } in
      subst (λ (x : Taken). Goes x) (sym w.is)
      (piece_goes acked passed kind now f layout (length o.sent) (poll_of t)
      (written (length o.sent) (poll_of t) None ps) pdu read true carried framed
      (record {
        octets = subst (λ (xs : List ℕ). IsStreamOf octets_of now (written_in histories xs f.stream.octets)) octets
            (written_goes (λ p. p.octet) o now f.stream.octets (new_count s size) sent unsent streams.octets);
        marks = subst (λ (xs : List ℕ). IsStreamOf marks_of now (written_in histories xs f.stream.marks)) marks
            (written_goes (λ p. mark p.begins p.ends) o now f.stream.marks (new_count s size) sent unsent
            streams.marks);
      }))

  -- ---- nothing new

  stays_so : now.sent ≡ o.sent → now.unsent ≡ o.unsent → AreStreamsOf now f.stream
  stays_so sent unsent = record {
    octets = stays (λ p. p.octet) o now f.stream.octets sent unsent streams.octets;
    marks = stays (λ p. mark p.begins p.ends) o now f.stream.marks sent unsent streams.marks;
  }

  -- ---- a stretch of a number's field is sent again

  module _ (from to : ℕ) (t : Taken) (opened : is_open_in f.floor acked (number_again s) ≡ true)
      (w : IsAgain s size from to o t) where
    abbrev number : ℕ
    number = number_again s

    abbrev field : List Place
    field = sent_with o number

    abbrev qs : List Place
    qs = slice_range field from to

    abbrev segment : Option Segment
    segment = segment_of from to (length field)

    abbrev pdu : AmdPdu
    pdu = read_as number (poll_of t) segment qs

    one : IsAired field
    one = aired number w.sent

    long : length qs ≡ to - from
    long = range-length field from to w.within

    octets_are : octets_of qs ≡ concat pdu.elements
    octets_are = sym (octets_read number (poll_of t) segment qs)

    marks_are : marks_of qs ≡ marks_in pdu.fi pdu.elements
    marks_are =
        let lt = w.some in
        let l = long in
        sym (marks_read number (poll_of t) segment qs (omega (arith, l, lt)) (joined_range field from to one.joined))

    so_from : so_of segment ≡ from
    so_from = so_is from to (length field) w.some w.within

    below : from ≤ length field
    below = let lt = w.some in let le = w.within in omega (arith, lt, le)

    own_size : length (field_of number f.stream.octets) ≡ length field
    own_size =
        ap (λ (l : List ℕ). length l) (field_is (λ p. p.octet) o f.stream.octets number streams.octets)
        ∙ length-map field (λ (p : Place). p.octet)

    size_is : length (concat pdu.elements) ≡ to - from
    size_is =
        ap (λ (l : List ℕ). length l) (sym octets_are) ∙ (length-map qs (λ (p : Place). p.octet) ∙ long)

    is_last_one : number ≡ last_of pdu f
    is_last_one =
        let known = w.sent in
        let y = young in
        let c = count in
        sym (last_is number (length (fields f.stream.octets)) pdu.sn refl (omega (arith, known, c))
        (omega (arith, y, c)))

    again_sent : NumberIsSent (is_open_in f.floor acked) number pdu.sn segment (concat pdu.elements) f.stream
    again_sent = record {
      written = let known = w.sent in let c = count in omega (arith, known, c);
      number = refl;
      unacked = opened;
      stand = subst (λ (xs : List ℕ). AreOf f.stream.octets number (so_of segment) xs) octets_are
          (stands_there (λ p. p.octet) o f.stream.octets number from to (so_of segment) below so_from streams.octets);
      whole = subst
          (λ (n : ℕ). IsWhole (segment_of from to n) (field_of number f.stream.octets) (concat pdu.elements)) own_size
          (is_whole from to (field_of number f.stream.octets) (concat pdu.elements) size_is);
    }

    again_shaped : NumberIsShaped (is_open_in f.floor acked) number segment (concat pdu.elements)
        (marks_in pdu.fi pdu.elements) f.stream
    again_shaped = record {
      unacked = opened;
      stand = subst (λ (xs : List ℕ). AreOf f.stream.marks number (so_of segment) xs) marks_are
          (stands_there (λ p. mark p.begins p.ends) o f.stream.marks number from to (so_of segment) below so_from
          streams.marks);
      last = subst (λ (n : ℕ). IsLastBy segment (so_of segment + length (concat pdu.elements)) n) (sym own_size)
          (is_last_by from to (length field) (so_of segment + length (concat pdu.elements))
          (let so = so_from in let l = size_is in let lt = w.some in omega (arith, so, l, lt)));
    }

    again_pdu : AreStreamsOf now f.stream → Goes t
    again_pdu same =
        subst (λ (x : Taken). Goes x) (sym w.is)
        (piece_goes acked passed kind now f layout number (poll_of t) (again_octets o number from to (poll_of t)) pdu
        (stretch-read number (poll_of t) field from to one w.some w.within) false
        (subst (λ (n : ℕ). NumberIsSent (is_open_in f.floor acked) n pdu.sn segment (concat pdu.elements) f.stream)
        is_last_one again_sent)
        (subst
        (λ (n : ℕ). NumberIsShaped (is_open_in f.floor acked) n segment (concat pdu.elements)
        (marks_in pdu.fi pdu.elements) f.stream) is_last_one again_shaped) same)

  none_goes : (t : Taken) → IsNone t → AreStreamsOf now f.stream → Goes t
  none_goes (taken.Piece k fresh polled octets) n same = absurd n
  none_goes taken.Idle n same = record { right = tt; streams = same }
  none_goes taken.Small n same = record { right = tt; streams = same }
  none_goes taken.Shut n same = record { right = tt; streams = same }
  none_goes taken.Held n same = record { right = tt; streams = same }
  none_goes taken.Stopped n same = record { right = tt; streams = same }

  kept : (u : Turn) → turn s size held more ≡ u → (octets_by u s size o).sent ≡ o.sent
      → (octets_by u s size o).unsent ≡ o.unsent → AreStreamsOf now f.stream
  kept u e sent unsent = stays_so (ap (λ (x : Turn). (octets_by x s size o).sent) e ∙ sent)
      (ap (λ (x : Turn). (octets_by x s size o).unsent) e ∙ unsent)

  turn_goes : (u : Turn) (t : Taken) → turn s size held more ≡ u → IsOpen acked f s u → IsWritten u s size o t → Goes t
  turn_goes turns.New t e opened w = new_pdu t e w
  turn_goes turns.Whole t e opened w = again_pdu _ _ t opened w (kept turns.Whole e refl refl)
  turn_goes turns.Part t e opened w = again_pdu _ _ t opened w (kept turns.Part e refl refl)
  turn_goes turns.Idle t e opened w = none_goes t w (kept turns.Idle e refl refl)
  turn_goes turns.Stopped t e opened w = none_goes t w (kept turns.Stopped e refl refl)
  turn_goes turns.Small t e opened w = none_goes t w (kept turns.Small e refl refl)
  turn_goes turns.Shut t e opened w = none_goes t w (kept turns.Shut e refl refl)
  turn_goes turns.Held t e opened w = none_goes t w (kept turns.Held e refl refl)

  ran_goes : IsOpen acked f s (turn s size held more) → Goes (answer s size held more)
  ran_goes opened =
      turn_goes (turn s size held more) (answer s size held more) refl opened
      (writes config calls size held more offered)

pub writes_rightly : SendersWriteRightly
writes_rightly config calls size held more kind acked passed f asked few layout opened streams =
    let g = ran_goes config calls size held more kind acked passed f asked few layout streams opened in
    record { right = g.right; streams = g.streams }
