-- A new block has the PDUs that its bearers tell of: each is the one that its `send` names.
use Rattle.std.proofs.Common.{◌≡◌, ◌<◌, ℕ, ◌-◌, ◌%◌, ◌^◌, nat_lt, Bool, true, false, if◌then◌else◌, Option, Some, None}
use Rattle.std.proofs.Common.{Result, Ok, Err, List, [], ◌∷◌, ◌++◌, length, map, append-nil, refl, ap, sym, subst, ◌∙◌}
use Rattle.std.proofs.Common.{arith}
use Rattle.std.proofs.lemmas.Bool.Decides.{nat_tests}
use Rattle.bearer.specs.declared.flow.Flow.{Flow}
use Rattle.bearer.specs.declared.flow.Flow.TheVariants.{Tm, Um, Am}
use Rattle.bearer.specs.Taking.{pdus, told}
use Rattle.bearer.specs.Transparent.{data_told as tm_data_told}
use Rattle.bearer.specs.Acknowledged.State.{State as AmBearer, Work, work, has_more}
use Rattle.bearer.specs.Acknowledged.Taking.{writes_status, status_pdu, status_pdus, status_told, prohibit_told}
use Rattle.bearer.specs.Acknowledged.Taking.{has_prohibit, poll_told, fed as am_fed, feeds as am_feeds}
use Rattle.bearer.specs.Acknowledged.Taking.{data_told as am_data_told, data_size, feeding as am_feeding}
use Rattle.bearer.specs.Acknowledged.Taking.{answer as am_answer, pdus as am_pdus, taking as am_taking}
use Rattle.bearer_pdcp.specs.Ends.{Ends}
use Rattle.bearer_pdcp.specs.Taking.{after_taking, report_told, own_report_told, next_told, taken_told, taking_told}
use Rattle.bearer_pdcp.specs.Telling.{pdus_of}
use Rattle.bearer_types.specs.declared.event.Event.{Event}
use Rattle.bearer_types.specs.declared.event.Event.TheVariants as events
use Rattle.bearer.specs.Unacknowledged.State.{State as UmBearer}
use Rattle.bearer.specs.Unacknowledged.Taking.{Feeding, fed as um_fed, feeds as um_feeds, why_idle}
use Rattle.bearer.specs.Unacknowledged.Taking.{data_told as um_data_told, size_in, feeding as um_feeding}
use Rattle.bearer.specs.Unacknowledged.Taking.{has_more as um_has_more, answer as um_answer, taking as um_taking}
use Rattle.harq.specs.declared.sender.Order.{Order}
use Rattle.harq.specs.declared.sender.Visit.TheVariants.{New}
use Rattle.l2_node.specs.Building.{visited, visit, building}
use Rattle.l2_node.specs.End.{End}
use Rattle.l2_node.specs.Finding.{find, has}
use Rattle.l2_node.specs.Writing.{sdus_of}
use Rattle.l2_types.specs.declared.channel.Channel.{Channel}
use Rattle.l2_types.specs.declared.event.Clock.TheVariants.{Poll, Prohibit}
use Rattle.l2_types.specs.declared.event.How.TheVariants as how
use Rattle.l2_types.specs.declared.event.Waits.{Waits}
use Rattle.l2_types.specs.declared.side.Side.{Side}
use Rattle.mac_pdu.specs.declared.builder.Sdu.{Sdu}
use Rattle.pdcp_pdu.specs.declared.PdcpKind.{PdcpKind}
use Rattle.pdcp_pdu.specs.declared.PdcpKind.TheVariants as pdcp
use Rattle.pdcp_pdu.specs.declared.PdcpRefusal.{PdcpRefusal}
use Rattle.pdcp_pdu.specs.Pdus.{UserPdu, Sdu as DataSdu, Report}
use Rattle.pdcp_pdu.specs.Kinds.{IsKind}
use Rattle.pdcp_pdu.specs.Reading.{user_at}
use Rattle.pdcp_tx.specs.State.{Offer, offers, taking}
use Rattle.pdcp_tx.specs.declared.sender.Next.{Next}
use Rattle.rlc_am_rx.specs.Status.{ack}
use Rattle.rlc_am_tx.proofs.SendSteps.{first-waits}
use Rattle.rlc_am_tx.specs.declared.turn.Turn.{Turn}
use Rattle.rlc_am_tx.specs.declared.turn.Turn.TheVariants as turns
use Rattle.rlc_am_tx.specs.Machine.{State as AmSender, waits, IsAble, turn as am_turn, answer_of as am_answer_of, again}
use Rattle.rlc_am_tx.specs.Machine.{first_place, number_again, is_wanted, sent_whole, sent_segment, sent_new, new_slot}
use Rattle.rlc_am_tx.specs.Machine.{new_elements}
use Rattle.rlc_am_tx.specs.Need.{hungry}
use Rattle.rlc_am_tx_window.specs.Sent.{next_stretch}
use Rattle.rlc_am_tx_window.specs.Written.{whole_octets, part_octets}
use Rattle.rlc_am_tx_window.specs.Window.{next, leading_idle}
use Rattle.rlc_pdu.specs.declared.outcome.Taken.TheVariants.{Piece, Small}
use Rattle.rlc_pdu.specs.Pdus.{IsUmBits}
use Rattle.rlc_queue.proofs.Lens.{whole, written as new-lens}
use Rattle.rlc_queue.specs.Waiting.{HaveOctets}
use Rattle.rlc_um.specs.Sender.{Sender as UmSender, Turn as UmTurn, Gives, IsIdle, IsHeld, IsSmall, turn as um_turn}
use Rattle.rlc_um.specs.Sender.{pdu_of, answer as um_answer_of, is_hungry, head_of, taken as um_taken}
use Rattle.rlc_um.specs.Transparent.{first_of, taken as tm_taken}
use Rattle.rlc_pdu.specs.Writing.{umd_canonical}
use Rattle.law_node.specs.Blocks.{pdus_by, sdus_by, all_sdus}
use Rattle.law_node.specs.Calls.{Call, AreGiven, reached}
use Rattle.law_node.specs.Holding.{flow}
use Rattle.law_node.specs.Names.{mode, modes_of}
use Rattle.promises.specs.Names.{SentPdu, sent_pdus, IsPdcp, IsUmd, Mode, IsNamed, AreNamed, sent_lcids}
use Rattle.law_node.specs.Sharing.{share, held}
use Rattle.law_node.specs.Waiting.{told_on_channel, all_told}
use Rattle.law_node.proofs.AmWithin.{able}
use Rattle.law_node.proofs.Keeping.{AllAre, at_is, visiting_are}
use Rattle.law_node.proofs.Offers.{Offers}
use Rattle.law_node.proofs.Owning.{IsOwn, own_kept}
use Rattle.law_node.proofs.Pieces.{AreWhole}
use Rattle.law_node.proofs.Places.{found}
use Rattle.law_node.proofs.Reading.{um_reads, whole_reads, part_reads, report_reads, at_spelled}
use Rattle.law_node.proofs.Ready.{AmReady, WritesWell, ready_kept}
use Rattle.law_node.proofs.Senders.{UmReady, CanSend, um_fed_ready, am_fed_can, new_sdus}
use Rattle.law_node.proofs.Receiving.{AreShort}
use Rattle.law_node.proofs.Telling.{tells_in_order}
use Rattle.law_node.proofs.Within.{IsAbleUm, able as able_um}

-- ---- lists

sends_then : (xs ys : List Event) → sent_pdus (xs ++ ys) ≡ sent_pdus xs ++ sent_pdus ys
sends_then [] ys = refl
sends_then (events.Send lcid how sn ∷ xs) ys =
    ap (λ (l : List SentPdu). record { lcid = lcid; how = how; sn = sn } ∷ l) (sends_then xs ys)
sends_then (events.Take lcid count len ∷ xs) ys = sends_then xs ys
sends_then (events.Report lcid fms bitmap ∷ xs) ys = sends_then xs ys
sends_then (events.Wait lcid why ∷ xs) ys = sends_then xs ys
sends_then (events.Start lcid clock ∷ xs) ys = sends_then xs ys
sends_then (events.Stop lcid clock ∷ xs) ys = sends_then xs ys
sends_then (events.Expired lcid clock ∷ xs) ys = sends_then xs ys
sends_then (events.Up lcid octets ∷ xs) ys = sends_then xs ys
sends_then (events.Fail lcid sn ∷ xs) ys = sends_then xs ys
sends_then (events.Drop lcid why ∷ xs) ys = sends_then xs ys
sends_then (events.Integrity lcid found' wanted ∷ xs) ys = sends_then xs ys
sends_then (events.BadMac fault ∷ xs) ys = sends_then xs ys
sends_then (events.BadRlc lcid fault ∷ xs) ys = sends_then xs ys
sends_then (events.BadPdcp lcid fault ∷ xs) ys = sends_then xs ys
sends_then (events.Discard lcid len ∷ xs) ys = sends_then xs ys

none_if : (t : Bool) (e : Event) → sent_pdus (e ∷ []) ≡ [] → sent_pdus (if t then e ∷ [] else []) ≡ []
none_if true e p = p
none_if false e p = refl

-- PDUs of a bearer and what is told of them, each of its place
abbrev AreOf : ℕ → Flow → List SentPdu → List (List ℕ) → Type 0
AreOf lcid f [] [] = Unit {0}
AreOf lcid f (s ∷ ss) (p ∷ ps) = (s.lcid ≡ lcid) × IsNamed (Some (mode f)) s.how s.sn p × AreOf lcid f ss ps
AreOf lcid f ss ps = ⊥

of_then : (lcid : ℕ) (f : Flow) (ss ts : List SentPdu) (ps qs : List (List ℕ)) → AreOf lcid f ss ps → AreOf lcid f ts qs
    → AreOf lcid f (ss ++ ts) (ps ++ qs)
of_then lcid f [] ts [] qs a b = b
of_then lcid f [] ts (p ∷ ps) qs a b = absurd a
of_then lcid f (s ∷ ss) ts [] qs a b = absurd a
of_then lcid f (s ∷ ss) ts (p ∷ ps) qs a b = (a.0, a.1, of_then lcid f ss ts ps qs a.2 b)

of_none : (lcid : ℕ) (f : Flow) (ss : List SentPdu) → ss ≡ [] → AreOf lcid f ss []
of_none lcid f ss e = rw e tt

of_one : (lcid : ℕ) (f : Flow) (s : SentPdu) (ss : List SentPdu) (p : List ℕ) → ss ≡ [] → s.lcid ≡ lcid
    → IsNamed (Some (mode f)) s.how s.sn p → AreOf lcid f (s ∷ ss) (p ∷ [])
of_one lcid f s ss p e l n = (l, n, of_none lcid f ss e)

-- ---- what RLC takes

report_none : (lcid : ℕ) (r : Result UserPdu PdcpRefusal) → sent_pdus (report_told lcid r) ≡ []
report_none lcid (Err refusal) = refl
report_none lcid (Ok (DataSdu sn octets)) = refl
report_none lcid (Ok (Report fms bitmap)) = refl

own_report_none : (lcid : ℕ) (kind : PdcpKind) (pdu : List ℕ) → sent_pdus (own_report_told lcid kind pdu) ≡ []
own_report_none lcid pdcp.Srb pdu = refl
own_report_none lcid (pdcp.Um bits) pdu = report_none lcid (user_at bits pdu)
own_report_none lcid (pdcp.Am bits) pdu = report_none lcid (user_at bits pdu)

count_none : (lcid : ℕ) (kind : PdcpKind) (count : Option ℕ) (len : ℕ) (pdu : List ℕ)
    → sent_pdus (taken_told lcid kind count len pdu) ≡ []
count_none lcid kind (Some count) len pdu = refl
count_none lcid kind None len pdu = own_report_none lcid kind pdu

next_none : (lcid : ℕ) (kind : PdcpKind) (n : Option Next) → sent_pdus (next_told lcid kind n) ≡ []
next_none lcid kind None = refl
next_none lcid kind (Some n) = count_none lcid kind n.count n.len n.octets

taking_none : (e : Ends) → sent_pdus (taking_told e) ≡ []
unfolding taking_told
taking_none e = next_none e.lcid e.kind (taking e.tx)

-- as RLC takes PDUs, its bearer tells of the same channel, and of none that is sent
record Feeds (e d : Ends) (before behind : List Event) : Type 0 where
  lcid_is : d.lcid ≡ e.lcid
  sent_is : sent_pdus behind ≡ sent_pdus before

none_fed : (e : Ends) (xs : List Event) → Feeds e e xs xs
none_fed e xs = record { lcid_is = refl; sent_is = refl }

one_fed : (e d : Ends) (xs ys : List Event) → Feeds (after_taking e) d (xs ++ taking_told e) ys → Feeds e d xs ys
unfolding after_taking
one_fed e d xs ys more = record {
  lcid_is = more.lcid_is;
  sent_is = more.sent_is ∙ sends_then xs (taking_told e)
      ∙ ap (λ (l : List SentPdu). sent_pdus xs ++ l) (taking_none e) ∙ append-nil (sent_pdus xs);
}

-- ---- an unacknowledged bearer

um_feeds_if : (t : Bool) (f g : Feeding) → Feeds f.pdcp g.pdcp f.events g.events
    → Feeds f.pdcp (if t then g else f).pdcp f.events (if t then g else f).events
um_feeds_if true f g k = k
um_feeds_if false f g k = none_fed f.pdcp f.events

um_all_feed : (os : List Offer) (size : ℕ) (held' : Option ℕ) (f : Feeding)
    → Feeds f.pdcp (um_feeds os size held' f).pdcp f.events (um_feeds os size held' f).events
um_all_feed [] size held' f = none_fed f.pdcp f.events
um_all_feed (o ∷ os) size held' f =
    um_feeds_if (is_hungry f.tx size held') f (um_feeds os size held' (um_fed f))
    (one_fed f.pdcp _ f.events _ (um_all_feed os size held' (um_fed f)))

head_fits : (s : UmSender) (size : ℕ) → IsAbleUm s size → head_of s.bits < size
head_fits s size a = omega (arith, a.fits)

um_data_named : (t : UmTurn) (s : UmSender) (size lcid : ℕ) (b : UmBearer) (more : Bool) (why : Waits)
    → (t ≡ Gives → IsAbleUm s size) → s.bits ≡ b.bits → IsUmBits b.bits → HaveOctets s.waiting.sdus
    → AreWhole (IsPdcp b.pdcp.kind) s.waiting.begun s.waiting.sdus
    → AreOf lcid (Um b) (sent_pdus (um_data_told lcid b.bits more why (um_answer_of t s size)))
    (pdus_of (um_answer_of t s size))
um_data_named Gives s size lcid b more why a e i h q =
    let able' = a refl in (
      refl,
      subst (λ (n : ℕ). IsUmd b.pdcp.kind n (s.next % 2 ^ n) (umd_canonical s.bits (pdu_of s size))) e
          (um_reads b.pdcp.kind s size (subst (λ (n : ℕ). IsUmBits n) (sym e) i) h q able'.some
          (head_fits s size able')),
      tt,
    )
um_data_named IsIdle s size lcid b more why a e i h q = of_none lcid (Um b) _ (none_if more (events.Wait lcid why) refl)
um_data_named IsHeld s size lcid b more why a e i h q = tt
um_data_named IsSmall s size lcid b more why a e i h q = tt

um_named : (b : UmBearer) (size : ℕ) (held' : Option ℕ) → IsKind b.pdcp.kind → Offers b.pdcp.kind b.pdcp
    → UmReady b.pdcp.kind b
    → AreOf b.pdcp.lcid (Um b) (sent_pdus (um_taking b size held')) (pdus_of (um_answer b size held'))
unfolding um_taking um_answer um_taken
um_named b size held' known o r =
    let begin : Feeding = record { pdcp = b.pdcp; tx = b.tx; events = [] } in
    let f = um_feeding b size held' in
    let k = um_all_feed (offers b.pdcp.tx) (size_in size) held' begin in
    let fed = um_fed_ready b.pdcp.kind b size held' known o in
    let t = um_turn f.tx (size_in size) held' in
    let more = um_has_more f.pdcp in
    let why = why_idle f.tx held' in
    let given = um_answer_of t f.tx (size_in size) in
    let is : sent_pdus (f.events ++ um_data_told f.pdcp.lcid b.bits more why given)
    ≡ sent_pdus (um_data_told b.pdcp.lcid b.bits more why given) =
    sends_then f.events (um_data_told f.pdcp.lcid b.bits more why given)
    ∙ ap (λ (l : List SentPdu). l ++ sent_pdus (um_data_told f.pdcp.lcid b.bits more why given)) k.sent_is
    ∙ ap (λ (l : ℕ). sent_pdus (um_data_told l b.bits more why given)) k.lcid_is in
    subst (λ (ss : List SentPdu). AreOf b.pdcp.lcid (Um b) ss (pdus_of given)) (sym is)
    (um_data_named t f.tx (size_in size) b.pdcp.lcid b more why (able_um f.tx (size_in size) held')
    (fed.bits ∙ r.same) r.bits (fed.octets r.octets) (fed.queue r.queue))

-- ---- an acknowledged bearer

am_feeds_if : (t : Bool) (w v : Work) → Feeds w.pdcp v.pdcp w.events v.events
    → Feeds w.pdcp (if t then v else w).pdcp w.events (if t then v else w).events
am_feeds_if true w v k = k
am_feeds_if false w v k = none_fed w.pdcp w.events

am_all_feed : (os : List Offer) (size : ℕ) (held' : Option ℕ) (w : Work)
    → Feeds w.pdcp (am_feeds os size held' w).pdcp w.events (am_feeds os size held' w).events
am_all_feed [] size held' w = none_fed w.pdcp w.events
am_all_feed (o ∷ os) size held' w =
    am_feeds_if (hungry w.tx size held') w (am_feeds os size held' (am_fed w))
    (one_fed w.pdcp _ w.events _ (am_all_feed os size held' (am_fed w)))

there : (s : AmSender) → waits s ≡ true → leading_idle s.window.slots < length s.window.slots
there s e = grind (arith, nat_tests)

am_data_named : (t : Turn) (s : AmSender) (size lcid : ℕ) (more : Bool) (b : AmBearer) → IsAble s size t
    → CanSend b.pdcp.kind s
    → AreOf lcid (Am b) (sent_pdus (am_data_told lcid (am_answer_of t s size more)))
    (pdus_of (am_answer_of t s size more))
unfolding am_answer_of
am_data_named turns.Whole s size lcid more b a c =
    let poll = is_wanted (sent_whole s) more in
    let spelled = at_spelled b.pdcp.kind s.window.slots (first_place s) (there s a.0) c.slots in
    of_one lcid (Am b) (record { lcid = lcid; how = how.Re; sn = number_again s % 1024 })
    (sent_pdus (poll_told lcid poll)) (whole_octets (again s) (number_again s) poll)
    (none_if poll (events.Start lcid Poll) refl) refl
    (whole_reads b.pdcp.kind true (again s) (number_again s) poll spelled.lens spelled.whole spelled.sdus)
am_data_named turns.Part s size lcid more b a c =
    let poll = is_wanted (sent_segment s size) more in
    of_one lcid (Am b) (record { lcid = lcid; how = how.Re; sn = number_again s % 1024 })
    (sent_pdus (poll_told lcid poll)) (part_octets (again s) (number_again s) poll (next_stretch (again s) size))
    (none_if poll (events.Start lcid Poll) refl) refl
    (part_reads b.pdcp.kind (again s) (number_again s) size poll (first-waits s.window.slots (there s a.0))
    (at_spelled b.pdcp.kind s.window.slots (first_place s) (there s a.0) c.slots) a.1)
am_data_named turns.New s size lcid more b a c =
    let poll = is_wanted (sent_new s size) more in
    of_one lcid (Am b) (record { lcid = lcid; how = how.New; sn = next s.window % 1024 })
    (sent_pdus (poll_told lcid poll)) (whole_octets (new_slot s size) (next s.window) poll)
    (none_if poll (events.Start lcid Poll) refl) refl
    (whole_reads b.pdcp.kind false (new_slot s size) (next s.window) poll
    (new-lens 2 size s.queue.sdus c.octets a.0 (omega (arith, a.1))) (whole (new_elements s size))
    (new_sdus b.pdcp.kind s size a.0 a.1 c))
am_data_named turns.Idle s size lcid more b a c = tt
am_data_named turns.Stopped s size lcid more b a c = tt
am_data_named turns.Small s size lcid more b a c = tt
am_data_named turns.Shut s size lcid more b a c = tt
am_data_named turns.Held s size lcid more b a c = tt

status_by : (t : Bool) (b : AmBearer) (size : ℕ) → AreShort b.rx.window.slots
    → AreOf b.pdcp.lcid (Am b)
    (sent_pdus (if t then events.Send b.pdcp.lcid how.Status (ack b.rx (size - 3) % 1024)
    ∷ prohibit_told b.pdcp.lcid (has_prohibit b) else [])) (if t then status_pdu b.rx size ∷ [] else [])
status_by true b size a =
    of_one b.pdcp.lcid (Am b) (record { lcid = b.pdcp.lcid; how = how.Status; sn = ack b.rx (size - 3) % 1024 })
    (sent_pdus (prohibit_told b.pdcp.lcid (has_prohibit b))) (status_pdu b.rx size)
    (none_if (has_prohibit b) (events.Start b.pdcp.lcid Prohibit) refl) refl
    (report_reads b.rx (size - 3) (ack b.rx (size - 3)) a)
status_by false b size a = tt

am_named : (b : AmBearer) (size : ℕ) (held' : Option ℕ) → IsKind b.pdcp.kind → Offers b.pdcp.kind b.pdcp
    → AmReady b.pdcp.kind b → AreOf b.pdcp.lcid (Am b) (sent_pdus (am_taking b size held')) (am_pdus b size held')
unfolding am_taking am_pdus am_answer
am_named b size held' known o r =
    let lcid = b.pdcp.lcid in
    let status = status_told lcid (has_prohibit b) b.rx size in
    let room = data_size b size in
    let w = am_feeding b size held' in
    let k = am_all_feed (offers b.pdcp.tx) room held' (work b.pdcp b.tx status) in
    let more = has_more w.pdcp in
    let t = am_turn w.tx room held' more in
    let given = am_answer_of t w.tx room more in
    let is : sent_pdus (w.events ++ am_data_told w.pdcp.lcid given)
    ≡ sent_pdus status ++ sent_pdus (am_data_told lcid given) =
    sends_then w.events (am_data_told w.pdcp.lcid given)
    ∙ ap (λ (l : List SentPdu). l ++ sent_pdus (am_data_told w.pdcp.lcid given)) k.sent_is
    ∙ ap (λ (l : ℕ). sent_pdus status ++ sent_pdus (am_data_told l given)) k.lcid_is in
    subst (λ (ss : List SentPdu). AreOf lcid (Am b) ss (status_pdus b.rx size ++ pdus_of given)) (sym is)
    (of_then lcid (Am b) (sent_pdus status) (sent_pdus (am_data_told lcid given)) (status_pdus b.rx size)
    (pdus_of given)
    (status_by (writes_status b.rx size) b size r.cells)
    (am_data_named t w.tx room lcid more b (able w.tx room held' more)
    (am_fed_can b.pdcp.kind b size held' known o r.can)))

-- ---- a bearer of any kind

tm_by : (t : Bool) (lcid : ℕ) (b : _) (n : ℕ) (sdu : List ℕ) → 0 < length sdu
    → AreOf lcid (Tm b) (sent_pdus (tm_data_told lcid (if t then Small else Piece n true false sdu)))
    (pdus_of (if t then Small else Piece n true false sdu))
tm_by true lcid b n sdu some = tt
tm_by false lcid b n sdu some = (refl, (refl, some), tt)

tm_named : (lcid : ℕ) (b : _) (n size : ℕ) (sdus : List (List ℕ)) → HaveOctets sdus
    → AreOf lcid (Tm b) (sent_pdus (tm_data_told lcid (first_of n size sdus))) (pdus_of (first_of n size sdus))
tm_named lcid b n size [] h = tt
tm_named lcid b n size (sdu ∷ more) h = tm_by (nat_lt size (length sdu)) lcid b n sdu h.0

flow_named : (lcid : ℕ) (f : Flow) (size : ℕ) (held' : Option ℕ) → IsOwn lcid f → WritesWell lcid f
    → AreOf lcid f (sent_pdus (told lcid f size held')) (pdus f size held')
unfolding told pdus tm_taken
flow_named lcid (Tm b) size held' own w = tm_named lcid b b.next (size - 3) b.waiting w.ready
flow_named lcid (Um b) size held' own w =
    let r = subst (λ (k : PdcpKind). IsKind k × Offers k b.pdcp × UmReady k b) (sym w.offers'.kind_is) (
      w.known,
      w.offers',
      w.ready,
    ) in
    subst (λ (l : ℕ). AreOf l (Um b) (sent_pdus (um_taking b size held')) (pdus_of (um_answer b size held'))) own
    (um_named b size held' r.0 r.1 r.2)
flow_named lcid (Am b) size held' own w =
    let r = subst (λ (k : PdcpKind). IsKind k × Offers k b.pdcp × AmReady k b) (sym w.offers'.kind_is) (
      w.known,
      w.offers',
      w.ready,
    ) in
    subst (λ (l : ℕ). AreOf l (Am b) (sent_pdus (am_taking b size held')) (am_pdus b size held')) own
    (am_named b size held' r.0 r.1 r.2)

-- ---- a block

named_of : (e : End) (lcid : ℕ) (f : Flow) (ss : List SentPdu) (ps : List (List ℕ)) → modes_of e lcid ≡ Some (mode f)
    → AreOf lcid f ss ps → AreNamed (modes_of e) ss (sdus_of lcid ps)
named_of e lcid f [] [] q a = tt
named_of e lcid f [] (p ∷ ps) q a = a
named_of e lcid f (s ∷ ss) [] q a = a
named_of e lcid f (s ∷ ss) (p ∷ ps) q a = (
  sym a.0,
  subst (λ (m : Option Mode). IsNamed m s.how s.sn p) (sym (ap (λ (l : ℕ). modes_of e l) a.0 ∙ q)) a.1,
  named_of e lcid f ss ps q a.2,
)

mode_is : (e : End) (lcid : ℕ) → has lcid e.bearers ≡ true → modes_of e lcid ≡ Some (mode (flow lcid e))
mode_is e lcid h = rw h refl

named_then : (modes : ℕ → Option Mode) (ss ts : List SentPdu) (ds fs : List Sdu) → AreNamed modes ss ds
    → AreNamed modes ts fs → AreNamed modes (ss ++ ts) (ds ++ fs)
named_then modes [] ts [] fs a b = b
named_then modes [] ts (d ∷ ds) fs a b = absurd a
named_then modes (s ∷ ss) ts [] fs a b = absurd a
named_then modes (s ∷ ss) ts (d ∷ ds) fs a b = (a.0, a.1, named_then modes ss ts ds fs a.2 b)

one_named : (t : Bool) (e : End) (grant : ℕ) (c : Channel) → has c.lcid e.bearers ≡ t → AllAre IsOwn e.bearers
    → AllAre WritesWell e.bearers → AreNamed (modes_of e) (sent_pdus (told_on_channel e grant c)) (sdus_by e grant c)
one_named true e grant c h own well =
    let f = flow c.lcid e in
    let at = find c.lcid e.bearers in
    let l = found c.lcid e.bearers h in
    let o : IsOwn c.lcid f = subst (λ (n : ℕ). IsOwn n f) l (at_is IsOwn e.bearers at own_kept own) in
    let w : WritesWell c.lcid f = subst (λ (n : ℕ). WritesWell n f) l (at_is WritesWell e.bearers at ready_kept well) in
    rw h (named_of e c.lcid f (sent_pdus (told c.lcid f (share e grant c) (held e c))) (pdus_by e grant c)
    (mode_is e c.lcid h) (flow_named c.lcid f (share e grant c) (held e c) o w))
one_named false e grant c h own well = rw h tt

all_named : (e : End) (grant : ℕ) (cs : List Channel) → AllAre IsOwn e.bearers → AllAre WritesWell e.bearers
    → AreNamed (modes_of e) (sent_pdus (all_told e grant cs)) (all_sdus e grant cs)
all_named e grant [] own well = tt
all_named e grant (c ∷ cs) own well =
    subst (λ (ss : List SentPdu). AreNamed (modes_of e) ss (sdus_by e grant c ++ all_sdus e grant cs))
    (sym (sends_then (told_on_channel e grant c) (all_told e grant cs)))
    (named_then (modes_of e) (sent_pdus (told_on_channel e grant c)) (sent_pdus (all_told e grant cs))
    (sdus_by e grant c)
    (all_sdus e grant cs)
    (one_named (has c.lcid e.bearers) e grant c refl own well) (all_named e grant cs own well))

pub names_what_it_sends : (side : Side) (maximum : ℕ) (reports : Bool) (calls : List Call) → AreGiven calls
    → (tti grant : ℕ) (order : Order)
    → visit tti order (reached side maximum reports calls) ≡ New
    → AreNamed (modes_of (visited tti order (reached side maximum reports calls)))
    (sent_pdus (building tti grant order (reached side maximum reports calls)))
    (all_sdus (visited tti order (reached side maximum reports calls)) grant
    (visited tti order (reached side maximum reports calls)).buckets.channels)
names_what_it_sends side maximum reports calls g tti grant order new =
    let v = visited tti order (reached side maximum reports calls) in
    subst (λ (es : List Event). AreNamed (modes_of v) (sent_pdus es) (all_sdus v grant v.buckets.channels))
    (sym (tells_in_order side maximum reports calls g tti grant order new))
    (all_named v grant v.buckets.channels (visiting_are IsOwn own_kept side maximum reports calls tti order g)
    (visiting_are WritesWell ready_kept side maximum reports calls tti order g))

-- ---- so are their channels

channels_are : (modes : ℕ → Option Mode) (ss : List SentPdu) (ds : List Sdu) → AreNamed modes ss ds
    → map (λ (s : SentPdu). s.lcid) ss ≡ map (λ (d : Sdu). d.lcid) ds
channels_are modes [] [] a = refl
channels_are modes [] (d ∷ ds) a = absurd a
channels_are modes (s ∷ ss) [] a = absurd a
channels_are modes (s ∷ ss) (d ∷ ds) a = ap (λ (l : ℕ). l ∷ map (λ (s : SentPdu). s.lcid) ss) (sym a.0)
    ∙ ap (λ (ls : List ℕ). d.lcid ∷ ls) (channels_are modes ss ds a.2)

pub tells_what_it_sends : (side : Side) (maximum : ℕ) (reports : Bool) (calls : List Call) → AreGiven calls
    → (tti grant : ℕ) (order : Order)
    → visit tti order (reached side maximum reports calls) ≡ New
    → sent_lcids (building tti grant order (reached side maximum reports calls))
    ≡ map (λ (s : Sdu). s.lcid)
    (all_sdus (visited tti order (reached side maximum reports calls)) grant
    (visited tti order (reached side maximum reports calls)).buckets.channels)
tells_what_it_sends side maximum reports calls g tti grant order new =
    let v = visited tti order (reached side maximum reports calls) in
    channels_are (modes_of v) (sent_pdus (building tti grant order (reached side maximum reports calls)))
    (all_sdus v grant v.buckets.channels) (names_what_it_sends side maximum reports calls g tti grant order new)
