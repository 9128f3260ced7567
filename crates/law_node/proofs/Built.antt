-- As it builds a block an end tells what RLC takes and writes, why it writes nothing, and which timers start: what
-- holds of each such event holds of all that is told.
use Rattle.std.proofs.Common.{ℕ, ◌-◌, ◌%◌, ◌^◌, length, Bool, true, false, if◌then◌else◌, Option, Some, None, Result}
use Rattle.std.proofs.Common.{Ok, Err, List}
use Rattle.std.proofs.Common.{[], ◌∷◌, ◌++◌}
use Rattle.std.specs.List.{AllByRecursion}
use Rattle.std.specs.Prelude.{slice_index}
use Rattle.bearer.specs.Bearer.{Of, Life}
use Rattle.bearer.specs.declared.flow.Flow.{Flow}
use Rattle.bearer.specs.declared.flow.Flow.TheVariants.{Tm, Um, Am}
use Rattle.bearer.specs.Taking.{told}
use Rattle.bearer.specs.Transparent.{data_told as tm_data_told}
use Rattle.bearer.specs.Acknowledged.State.{State as AmBearer, Work, work}
use Rattle.bearer.specs.Acknowledged.Taking.{writes_status, status_told, has_prohibit, fed as am_fed, feeds as am_feeds}
use Rattle.bearer.specs.Acknowledged.Taking.{data_told as am_data_told, data_size, feeding as am_feeding, answer_of}
use Rattle.bearer.specs.Acknowledged.Taking.{taking as am_taking}
use Rattle.bearer_pdcp.specs.Ends.{Ends}
use Rattle.bearer_pdcp.specs.Taking.{report_told, own_report_told, next_told, taken_told, taking_told}
use Rattle.bearer_types.specs.declared.event.Event.{Event}
use Rattle.bearer_types.specs.declared.event.Event.TheVariants as events
use Rattle.bearer.specs.Unacknowledged.State.{State as UmBearer}
use Rattle.bearer.specs.Unacknowledged.Taking.{Feeding, fed as um_fed, feeds as um_feeds, why_idle}
use Rattle.bearer.specs.Unacknowledged.Taking.{data_told as um_data_told, size_in, feeding as um_feeding}
use Rattle.bearer.specs.Unacknowledged.Taking.{has_more as um_has_more, taking as um_taking}
use Rattle.harq.specs.declared.sender.Order.{Order}
use Rattle.harq.specs.declared.sender.Visit.{Visit}
use Rattle.harq.specs.declared.sender.Visit.TheVariants.{New, Resend, Silent}
use Rattle.harq.specs.Sending.{Sending}
use Rattle.l2_node.specs.Building.{visited, visit, visit_events, building}
use Rattle.l2_node.specs.End.{End}
use Rattle.l2_node.specs.Finding.{Numbers, find, has, bearer_at, lowest}
use Rattle.l2_node.specs.Writing.{shares, Work as Writing, work as writing, nothing_written, wrote, writes, all_write}
use Rattle.l2_node.specs.Writing.{written}
use Rattle.l2_types.specs.declared.channel.Channel.{Channel}
use Rattle.l2_types.specs.declared.event.Clock.TheVariants.{Poll, Prohibit}
use Rattle.l2_types.specs.declared.event.Waits.{Waits}
use Rattle.pdcp_pdu.specs.declared.pdu.PdcpKind.{PdcpKind}
use Rattle.pdcp_pdu.specs.declared.pdu.PdcpKind.TheVariants as pdcp
use Rattle.pdcp_pdu.specs.declared.pdu.PdcpRefusal.{PdcpRefusal}
use Rattle.pdcp_pdu.specs.Pdus.{UserPdu, Sdu, Report}
use Rattle.pdcp_pdu.specs.Reading.{user_at}
use Rattle.pdcp_tx.specs.State.{Offer, offers, taking}
use Rattle.pdcp_tx.specs.declared.sender.Next.{Next}
use Rattle.rlc_am_tx.specs.Need.{hungry}
use Rattle.rlc_pdu.specs.declared.outcome.Taken.{Taken}
use Rattle.rlc_pdu.specs.declared.outcome.Taken.TheVariants.{Piece, Idle, Small, Shut, Held, Stopped}
use Rattle.rlc_um.specs.Sender.{is_hungry, taken as um_taken}
use Rattle.rlc_um.specs.Transparent.{taken as tm_taken}
use Rattle.bearer.specs.Acknowledged.Taking.{how_of}
use Rattle.l2_types.specs.declared.event.Clock.{Clock}
use Rattle.l2_types.specs.declared.event.How.{How}
use Rattle.l2_types.specs.declared.event.How.TheVariants as how
use Rattle.l2_types.specs.declared.event.How.TheVariants.{New as NewPdu}
use Rattle.l2_types.specs.declared.event.Waits.TheVariants as waits
use Rattle.rlc_am_rx.specs.Status.{ack}

module _ (P : Event → Type 0)
    (takes : (lcid : ℕ) (count : Option ℕ) (len : ℕ) → P (events.Take lcid count len))
    (reports : (lcid fms : ℕ) (bitmap : List ℕ) → P (events.Report lcid fms bitmap))
    (sends : (lcid : ℕ) (how' : How) (sn : ℕ) → P (events.Send lcid how' sn))
    (waits_for : (lcid : ℕ) (why : Waits) → P (events.Wait lcid why))
    (starts : (lcid : ℕ) (clock : Clock) → P (events.Start lcid clock)) where
  abbrev AreAll : List Event → Type 0
  AreAll told' = AllByRecursion P told'

  all_both : (a b : List Event) → AreAll a → AreAll b → AreAll (a ++ b)
  all_both [] b p q = q
  all_both (event ∷ a) b p q = (p.0, all_both a b p.1 q)

  all_if : (b : Bool) (a : List Event) → AreAll a → AreAll (if b then a else [])
  all_if true a p = p
  all_if false a p = tt

  -- ---- what RLC takes

  report_all : (lcid : ℕ) (r : Result UserPdu PdcpRefusal) → AreAll (report_told lcid r)
  report_all lcid (Err refusal) = tt
  report_all lcid (Ok (Sdu sn octets)) = tt
  report_all lcid (Ok (Report fms bitmap)) = (reports lcid fms bitmap, tt)

  own_report_all : (lcid : ℕ) (kind : PdcpKind) (pdu : List ℕ) → AreAll (own_report_told lcid kind pdu)
  own_report_all lcid pdcp.Srb pdu = tt
  own_report_all lcid (pdcp.Um bits) pdu = report_all lcid (user_at bits pdu)
  own_report_all lcid (pdcp.Am bits) pdu = report_all lcid (user_at bits pdu)

  count_all : (lcid : ℕ) (kind : PdcpKind) (count : Option ℕ) (len : ℕ) (pdu : List ℕ)
      → AreAll (taken_told lcid kind count len pdu)
  count_all lcid kind (Some count) len pdu = (takes lcid (Some count) len, tt)
  count_all lcid kind None len pdu = own_report_all lcid kind pdu

  next_all : (lcid : ℕ) (kind : PdcpKind) (n : Option Next) → AreAll (next_told lcid kind n)
  next_all lcid kind None = tt
  next_all lcid kind (Some n) = count_all lcid kind n.count n.len n.octets

  taking_all : (e : Ends) → AreAll (taking_told e)
  unfolding taking_told
  taking_all e = next_all e.lcid e.kind (taking e.tx)

  -- ---- an unacknowledged bearer

  um_if : (t : Bool) (f g : Feeding) → AreAll f.events → AreAll g.events → AreAll (if t then g else f).events
  um_if true f g p q = q
  um_if false f g p q = p

  um_feeds_all : (os : List Offer) (size : ℕ) (held : Option ℕ) (f : Feeding) → AreAll f.events
      → AreAll (um_feeds os size held f).events
  um_feeds_all [] size held f p = p
  um_feeds_all (o ∷ os) size held f p =
      um_if (is_hungry f.tx size held) f (um_feeds os size held (um_fed f)) p
      (um_feeds_all os size held (um_fed f) (all_both f.events (taking_told f.pdcp) p (taking_all f.pdcp)))

  um_data_all : (lcid bits : ℕ) (more : Bool) (why : Waits) (t : Taken) → AreAll (um_data_told lcid bits more why t)
  um_data_all lcid bits more why (Piece number first polled octets) = (sends lcid NewPdu (number % 2 ^ bits), tt)
  um_data_all lcid bits more why Idle = all_if more (events.Wait lcid why ∷ []) (waits_for lcid why, tt)
  um_data_all lcid bits more why Small = (waits_for lcid waits.Small, tt)
  um_data_all lcid bits more why Shut = (waits_for lcid waits.Shut, tt)
  um_data_all lcid bits more why Held = (waits_for lcid waits.Held, tt)
  um_data_all lcid bits more why Stopped = (waits_for lcid waits.Stopped, tt)

  um_all : (b : UmBearer) (size : ℕ) (held : Option ℕ) → AreAll (um_taking b size held)
  unfolding um_taking
  um_all b size held =
      let f = um_feeding b size held in
      let t = um_taken f.tx (size_in size) held in
      all_both f.events (um_data_told f.pdcp.lcid b.bits (um_has_more f.pdcp) (why_idle f.tx held) t)
      (um_feeds_all (offers b.pdcp.tx) (size_in size) held (record { pdcp = b.pdcp; tx = b.tx; events = [] }) tt)
      (um_data_all f.pdcp.lcid b.bits (um_has_more f.pdcp) (why_idle f.tx held) t)

  -- ---- an acknowledged bearer

  am_if : (t : Bool) (f g : Work) → AreAll f.events → AreAll g.events → AreAll (if t then g else f).events
  am_if true f g p q = q
  am_if false f g p q = p

  am_feeds_all : (os : List Offer) (size : ℕ) (held : Option ℕ) (w : Work) → AreAll w.events
      → AreAll (am_feeds os size held w).events
  am_feeds_all [] size held w p = p
  am_feeds_all (o ∷ os) size held w p =
      am_if (hungry w.tx size held) w (am_feeds os size held (am_fed w)) p
      (am_feeds_all os size held (am_fed w) (all_both w.events (taking_told w.pdcp) p (taking_all w.pdcp)))

  am_data_all : (lcid : ℕ) (t : Taken) → AreAll (am_data_told lcid t)
  am_data_all lcid (Piece number first polled octets) =
      (sends lcid (how_of first) (number % 1024), all_if polled (events.Start lcid Poll ∷ []) (starts lcid Poll, tt))
  am_data_all lcid Idle = tt
  am_data_all lcid Small = (waits_for lcid waits.Small, tt)
  am_data_all lcid Shut = (waits_for lcid waits.Shut, tt)
  am_data_all lcid Held = (waits_for lcid waits.Held, tt)
  am_data_all lcid Stopped = (waits_for lcid waits.Stopped, tt)

  status_all : (b : AmBearer) (size : ℕ) → AreAll (status_told b.pdcp.lcid (has_prohibit b) b.rx size)
  status_all b size =
      all_if (writes_status b.rx size) _ (
        sends b.pdcp.lcid how.Status (ack b.rx (size - 3) % 1024),
        all_if (has_prohibit b) (events.Start b.pdcp.lcid Prohibit ∷ []) (starts b.pdcp.lcid Prohibit, tt),
      )

  am_all : (b : AmBearer) (size : ℕ) (held : Option ℕ) → AreAll (am_taking b size held)
  unfolding am_taking
  am_all b size held =
      let room = data_size b size in
      let w = am_feeding b size held in
      let t = answer_of w room held in
      all_both w.events (am_data_told w.pdcp.lcid t)
      (am_feeds_all (offers b.pdcp.tx) room held
      (work b.pdcp b.tx (status_told b.pdcp.lcid (has_prohibit b) b.rx size)) (status_all b size))
      (am_data_all w.pdcp.lcid t)

  -- ---- a block

  tm_all : (lcid : ℕ) (t : Taken) → AreAll (tm_data_told lcid t)
  tm_all lcid (Piece number first polled octets) = (takes lcid None (length octets), (sends lcid how.Tm 0, tt))
  tm_all lcid Idle = tt
  tm_all lcid Small = (waits_for lcid waits.Small, tt)
  tm_all lcid Shut = (waits_for lcid waits.Shut, tt)
  tm_all lcid Held = (waits_for lcid waits.Held, tt)
  tm_all lcid Stopped = (waits_for lcid waits.Stopped, tt)

  flow_all : (lcid : ℕ) (f : Flow) (size : ℕ) (held : Option ℕ) → AreAll (told lcid f size held)
  unfolding told
  flow_all lcid (Tm b) size held = tm_all lcid (tm_taken b (size - 3))
  flow_all lcid (Um b) size held = um_all b size held
  flow_all lcid (Am b) size held = am_all b size held

  writes_if : (t : Bool) (b : Of Life) (at lcid share : ℕ) (held : Option ℕ) (w : Writing) → AreAll w.block.events
      → AreAll (if t then wrote at b lcid share held w else w).block.events
  writes_if true b at lcid share held w p =
      all_both w.block.events (told b.channel.lcid b.state.flow share held) p
      (flow_all b.channel.lcid b.state.flow share held)
  writes_if false b at lcid share held w p = p

  channels_all : (sender : Sending) (numbers : Numbers) (amounts : List ℕ) (cs : List Channel) (w : Writing)
      → AreAll w.block.events → AreAll (all_write sender numbers amounts cs w).block.events
  channels_all sender numbers amounts [] w p = p
  channels_all sender numbers amounts (c ∷ cs) w p =
      let share = slice_index amounts c.lcid in
      let held = lowest sender numbers c.lcid in
      channels_all sender numbers amounts cs (writes c.lcid share held w)
      (writes_if (has c.lcid w.bearers) (bearer_at w.bearers (find c.lcid w.bearers)) (find c.lcid w.bearers) c.lcid
      share held w p)

  pub told_all : (v : Visit) (grant : ℕ) (e : End) → AreAll (visit_events v grant e)
  unfolding written
  told_all New grant e =
      channels_all e.sender e.numbers (shares e grant) e.buckets.channels
      (writing e.bearers (nothing_written e.side)) tt
  told_all (Resend rv) grant e = tt
  told_all Silent grant e = tt

  pub building_all : (tti grant : ℕ) (order : Order) (e : End) → AreAll (building tti grant order e)
  unfolding building
  building_all tti grant order e = told_all (visit tti order e) grant (visited tti order e)
