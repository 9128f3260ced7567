-- What waits at an unacknowledged bearer and at an acknowledged sender, and what it has sent, can be written as PDUs.
use Rattle.std.proofs.Common.{◌≡◌, ◌<◌, ◌≤◌, ℕ, zero, suc, ◌+◌, ◌-◌, ◌^◌, ◌==◌, Bool, true, false}
use Rattle.std.proofs.Common.{if◌then◌else◌, Option, Some, None, Result, Ok, Err, List, [], ◌∷◌, ◌++◌, length, drop}
use Rattle.std.proofs.Common.{refl, sym, ap, ◌∙◌, subst, arith, not}
use Rattle.std.specs.Prelude.{IfSome}
use Rattle.std.specs.List.{sum}
use Rattle.law_rlc.proofs.AmSender.Keys.{Key, key, keys, set-keys, heard-keys, append-keys}
use Rattle.law_rlc.proofs.AmSender.Least.{ended-window, settled-window, polled-window}
use Rattle.rlc_am_tx_window.specs.Sent.{Sent, rested, sent_part, recalled, next_stretch}
use Rattle.rlc_am_tx_window.specs.Window.{TxWindow, slot_at, offset_of, leading_acked}
use Rattle.bearer.specs.Acknowledged.State.{State as AmBearer, Work, work}
use Rattle.bearer.specs.Acknowledged.Taking.{status_told, has_prohibit, data_size, writes_status, status_pdu}
use Rattle.bearer.specs.Acknowledged.Taking.{feeds as am_feeds, fed as am_fed, feeding as am_feeding}
use Rattle.bearer.specs.Acknowledged.Taking.{given_to as am_given}
use Rattle.bearer_pdcp.specs.Taking.{taken}
use Rattle.bearer.specs.Unacknowledged.Hearing.{arrived_left as um_arrived_left}
use Rattle.bearer.specs.Unacknowledged.Hearing.{expiry_left, clock_left as um_clock_left}
use Rattle.bearer.specs.Unacknowledged.Hearing.{after_expiry as um_after_expiry, timed_left}
use Rattle.bearer.specs.Unacknowledged.State.{State as UmBearer}
use Rattle.bearer.specs.Unacknowledged.Taking.{Feeding, feeds as um_feeds, fed as um_fed, feeding as um_feeding}
use Rattle.bearer.specs.Unacknowledged.Taking.{given_to as um_given, size_in, after_taking as um_after_taking}
use Rattle.l2_num.specs.Timers.{runs}
use Rattle.l2_types.specs.declared.event.Clock.{Clock}
use Rattle.l2_types.specs.declared.event.Clock.TheVariants.{Poll, Reorder, Prohibit}
use Rattle.pdcp_pdu.specs.declared.pdu.PdcpKind.{PdcpKind}
use Rattle.pdcp_pdu.specs.Kinds.{IsKind}
use Rattle.pdcp_tx.specs.State.{Offer, offers}
use Rattle.rlc_am_tx.specs.declared.turn.Turn.{Turn}
use Rattle.rlc_am_tx.specs.declared.turn.Turn.TheVariants as turns
use Rattle.rlc_am_tx.specs.Machine.{State as AmSender, after_status, after_expiry}
use Rattle.rlc_am_tx.specs.Machine.{settled, settled_by, settles, is_ignored, applied, ended, limit_of, stops, read}
use Rattle.rlc_am_tx.specs.Machine.{read_window, expired as poll_expired, expiry_limit, with_recalled, with_owed}
use Rattle.rlc_am_tx.specs.Machine.{recalled_place, IsAble, after_turn, with_poll, is_wanted, again}
use Rattle.rlc_am_tx.specs.Machine.{first_place, sent_whole, sent_segment, sent_new, new_slot, new_partial}
use Rattle.rlc_am_tx.specs.Need.{hungry}
use Rattle.rlc_pdu.specs.declared.Expired.{Expired}
use Rattle.rlc_pdu.specs.declared.Expired.TheVariants.{Done, NotRunning}
use Rattle.rlc_pdu.specs.declared.RlcRefusal.{RlcRefusal}
use Rattle.rlc_pdu.specs.Pdus.{StatusPdu, UmdPdu, IsUmBits, AreLens, but_last}
use Rattle.rlc_pdu.specs.Units.{cut}
use Rattle.rlc_queue.proofs.Lens.{whole, written as new-lens, within as new-within}
use Rattle.rlc_queue.proofs.Steps.{some-behind}
use Rattle.rlc_queue.specs.NewPdu.{room, may_follow, elements, rest}
use Rattle.rlc_queue.specs.Waiting.{HaveOctets, behind}
use Rattle.rlc_um.specs.Receiver.{expiring}
use Rattle.rlc_um.specs.Sender.{Sender as UmSender, Turn as UmTurn, Gives, IsIdle, IsHeld, IsSmall, turn as um_turn}
use Rattle.rlc_um.specs.Sender.{after_turn as um_after_turn, after_take as um_after_take, is_hungry, head_of}
use Rattle.law_node.proofs.Ages.{more_octets}
use Rattle.promises.specs.Names.{IsPdcp}
use Rattle.law_node.proofs.Offers.{Offers, taken_is, taken_offers, pdu_some}
use Rattle.law_node.proofs.Pieces.{Whole, AreWhole, more_whole, new_whole}
use Rattle.law_node.proofs.Segments.{cut_elements}

-- ---- what is left behind a new PDU

rest_by : (n : ℕ) (x : List ℕ) (xs rs : List (List ℕ)) (z f : Bool) → HaveOctets (x ∷ xs) → HaveOctets rs
    → HaveOctets (if z then x ∷ xs else if f then rs else behind n (x ∷ xs))
rest_by n x xs rs true f h r = h
rest_by n x xs rs false true h r = r
rest_by n x xs rs false false h r = some-behind n (x ∷ xs) h

rest_octets : (head size count used : ℕ) (sdus : List (List ℕ)) → HaveOctets sdus
    → HaveOctets (rest head size count used sdus)
rest_octets head size count used [] h = tt
rest_octets head size count used (x ∷ xs) h =
    rest_by (room head size count used) x xs (rest head size (count + 1) (used + length x) xs)
    (room head size count used == 0) (may_follow (room head size count used) x) h
    (rest_octets head size (count + 1) (used + length x) xs h.1)

-- ---- an unacknowledged bearer

-- its numbers have 5 or 10 bits, as its sender has them, no SDU that waits is empty, and each is a PDU of PDCP
pub record UmReady (kind : PdcpKind) (b : UmBearer) : Type 0 where
  pub bits : IsUmBits b.bits
  pub same : b.tx.bits ≡ b.bits
  pub octets : HaveOctets b.tx.waiting.sdus
  pub queue : AreWhole (IsPdcp kind) b.tx.waiting.begun b.tx.waiting.sdus

pub record UmSame (b d : UmBearer) : Type 0 where
  pub tx_is : d.tx ≡ b.tx
  pub bits_is : d.bits ≡ b.bits

pub um_still : (kind : PdcpKind) (b d : UmBearer) → UmSame b d → UmReady kind b → UmReady kind d
um_still kind b d e r = record {
  bits = subst (λ (n : ℕ). IsUmBits n) (sym e.bits_is) r.bits;
  same = ap (λ (s : UmSender). s.bits) e.tx_is ∙ r.same ∙ sym e.bits_is;
  octets = subst (λ (s : UmSender). HaveOctets s.waiting.sdus) (sym e.tx_is) r.octets;
  queue = subst (λ (s : UmSender). AreWhole (IsPdcp kind) s.waiting.begun s.waiting.sdus) (sym e.tx_is) r.queue;
}

pub um_arrives : (r : Result UmdPdu RlcRefusal) (b : UmBearer) → UmSame b (um_arrived_left r b)
um_arrives (Err fault) b = record { tx_is = refl; bits_is = refl }
um_arrives (Ok pdu) b = record { tx_is = refl; bits_is = refl }

um_expiry : (x : Expired) (b : UmBearer) → UmSame b (expiry_left x b)
um_expiry NotRunning b = record { tx_is = refl; bits_is = refl }
um_expiry (Done again') b = record { tx_is = refl; bits_is = refl }

um_clock : (clock : Clock) (b : UmBearer) → UmSame b (um_clock_left clock b)
um_clock Poll b = record { tx_is = refl; bits_is = refl }
um_clock Reorder b = um_expiry (expiring b.rx) b
um_clock Prohibit b = record { tx_is = refl; bits_is = refl }

pub um_expires : (clock : Clock) (b : UmBearer) → UmSame b (um_after_expiry b clock)
unfolding um_after_expiry
um_expires clock b = um_clock clock b

pub um_timed : (t : Bool) (b : UmBearer) → UmSame b (timed_left t b)
um_timed true b = um_expires Reorder b
um_timed false b = record { tx_is = refl; bits_is = refl }

-- RLC takes what PDCP has
pub record UmFed (kind : PdcpKind) (s t : UmSender) : Type 0 where
  pub bits : t.bits ≡ s.bits
  pub octets : HaveOctets s.waiting.sdus → HaveOctets t.waiting.sdus
  pub queue : AreWhole (IsPdcp kind) s.waiting.begun s.waiting.sdus
      → AreWhole (IsPdcp kind) t.waiting.begun t.waiting.sdus

um_given_octets : (kind : PdcpKind) (o : Option (List ℕ)) (s : UmSender) → IfSome o (IsPdcp kind)
    → UmFed kind s (um_given o s)
um_given_octets kind None s is = record { bits = refl; octets = λ h. h; queue = λ q. q }
um_given_octets kind (Some pdu) s is = record {
  bits = refl;
  octets = λ h. more_octets s.waiting.sdus pdu (pdu_some kind pdu is) h;
  queue = λ q. more_whole (IsPdcp kind) s.waiting.begun s.waiting.sdus pdu q is;
}

um_if : (kind : PdcpKind) (t : Bool) (f g : Feeding) → UmFed kind f.tx g.tx → UmFed kind f.tx (if t then g else f).tx
um_if kind true f g k = k
um_if kind false f g k = record { bits = refl; octets = λ h. h; queue = λ q. q }

um_feeds_octets : (kind : PdcpKind) (os : List Offer) (size : ℕ) (held : Option ℕ) (f : Feeding) → IsKind kind
    → Offers kind f.pdcp → UmFed kind f.tx (um_feeds os size held f).tx
um_feeds_octets kind [] size held f known o = record { bits = refl; octets = λ h. h; queue = λ q. q }
um_feeds_octets kind (x ∷ xs) size held f known o =
    let one = um_given_octets kind (taken f.pdcp) f.tx (taken_is kind f.pdcp known o) in
    let more = um_feeds_octets kind xs size held (um_fed f) known (taken_offers kind f.pdcp o) in
    um_if kind (is_hungry f.tx size held) f (um_feeds xs size held (um_fed f))
    (record {
      bits = more.bits ∙ one.bits;
      octets = λ h. more.octets (one.octets h);
      queue = λ q. more.queue (one.queue q);
    })

um_turned : (kind : PdcpKind) (t : UmTurn) (s : UmSender) (size : ℕ) → UmFed kind s (um_after_turn t s size)
um_turned kind Gives s size = record {
  bits = refl;
  octets = λ h. rest_octets (head_of s.bits) size 0 0 s.waiting.sdus h;
  queue = λ q. (new_whole (IsPdcp kind) (head_of s.bits) size 0 0 s.waiting.begun s.waiting.sdus q).left';
}
um_turned kind IsIdle s size = record { bits = refl; octets = λ h. h; queue = λ q. q }
um_turned kind IsHeld s size = record { bits = refl; octets = λ h. h; queue = λ q. q }
um_turned kind IsSmall s size = record { bits = refl; octets = λ h. h; queue = λ q. q }

pub um_fed_ready : (kind : PdcpKind) (b : UmBearer) (share : ℕ) (held : Option ℕ) → IsKind kind → Offers kind b.pdcp
    → UmFed kind b.tx (um_feeding b share held).tx
um_fed_ready kind b share held known o =
    um_feeds_octets kind (offers b.pdcp.tx) (size_in share) held (record { pdcp = b.pdcp; tx = b.tx; events = [] })
    known o

pub um_takes : (kind : PdcpKind) (b : UmBearer) (share : ℕ) (held : Option ℕ) → IsKind kind → Offers kind b.pdcp
    → UmReady kind b → UmReady kind (um_after_taking b share held)
unfolding um_after_taking um_after_take
um_takes kind b share held known o r =
    let s = (um_feeding b share held).tx in
    let one = um_fed_ready kind b share held known o in
    let two = um_turned kind (um_turn s (size_in share) held) s (size_in share) in
    record {
      bits = r.bits;
      same = two.bits ∙ one.bits ∙ r.same;
      octets = two.octets (one.octets r.octets);
      queue = two.queue (one.queue r.queue);
    }

-- ---- an acknowledged sender

-- the lengths of what was sent can be written, add up to its field, a segment's place has 15 bits, and the SDUs that
-- are whole in it are PDUs of PDCP
pub record IsSpelled (kind : PdcpKind) (k : Key) : Type 0 where
  pub lens : AreLens k.lens
  pub whole : sum k.lens ≡ length k.field
  pub short : length k.field < 2 ^ 15
  pub sdus : Whole (IsPdcp kind) k.begins k.ends (cut (but_last k.lens) k.field)

abbrev pub AreSpelled : PdcpKind → List Key → Type 0
AreSpelled kind [] = Unit {0}
AreSpelled kind (k ∷ ks) = IsSpelled kind k × AreSpelled kind ks

pub record CanSend (kind : PdcpKind) (s : AmSender) : Type 0 where
  pub octets : HaveOctets s.queue.sdus
  pub queue : AreWhole (IsPdcp kind) s.queue.begun s.queue.sdus
  pub slots : AreSpelled kind (keys s.window.slots)

pub same_can : (kind : PdcpKind) (s t : AmSender) → t.queue ≡ s.queue → keys t.window.slots ≡ keys s.window.slots
    → CanSend kind s → CanSend kind t
same_can kind s t q k c = record {
  octets = subst (λ (w : _). HaveOctets w.sdus) (sym q) c.octets;
  queue = subst (λ (w : _). AreWhole (IsPdcp kind) w.begun w.sdus) (sym q) c.queue;
  slots = subst (λ (ks : List Key). AreSpelled kind ks) (sym k) c.slots;
}

spelled_drop : (kind : PdcpKind) (n : ℕ) (slots : List Sent) → AreSpelled kind (keys slots)
    → AreSpelled kind (keys (drop n slots))
spelled_drop kind zero [] a = tt
spelled_drop kind zero (h ∷ hs) a = a
spelled_drop kind (suc n) [] a = tt
spelled_drop kind (suc n) (h ∷ hs) a = spelled_drop kind n hs a.1

spelled_end : (kind : PdcpKind) (ks : List Key) (k : Key) → AreSpelled kind ks → IsSpelled kind k
    → AreSpelled kind (ks ++ k ∷ [])
spelled_end kind [] k a i = (i, tt)
spelled_end kind (x ∷ xs) k a i = (a.0, spelled_end kind xs k a.1 i)

ended_queue : (l : Option ℕ) (b : Bool) (s : AmSender) → (ended l b s).queue ≡ s.queue
ended_queue (Some n) b s = refl
ended_queue None true s = refl
ended_queue None false s = refl

settled_queue : (b : Bool) (s : AmSender) → (settled_by b s).queue ≡ s.queue
settled_queue true s = refl
settled_queue false s = refl

polled_queue : (b : Bool) (s : AmSender) → (with_poll b s).queue ≡ s.queue
polled_queue true s = refl
polled_queue false s = refl

pub settled_can : (kind : PdcpKind) (s : AmSender) (more : Bool) → CanSend kind s → CanSend kind (settled s more)
settled_can kind s more c =
    same_can kind s (settled s more) (settled_queue (settles s more) s)
    (ap (λ (w : TxWindow). keys w.slots) (settled-window (settles s more) s)) c

read_can : (kind : PdcpKind) (s : AmSender) (below : ℕ) (p : StatusPdu) → CanSend kind s
    → CanSend kind (read s below p.nacks)
read_can kind s below p c = record {
  octets = c.octets;
  queue = c.queue;
  slots = spelled_drop kind (leading_acked (read_window s below p.nacks).slots) (read_window s below p.nacks).slots
      (subst (λ (ks : List Key). AreSpelled kind ks) (sym (heard-keys s.window below s.config.max_retx p.nacks))
      c.slots);
}

status_by : (kind : PdcpKind) (b : Bool) (s : AmSender) (p : StatusPdu) → CanSend kind s
    → CanSend kind (if b then s else applied s (offset_of s.window.base p.ack) p.nacks)
status_by kind true s p c = c
status_by kind false s p c =
    let below = offset_of s.window.base p.ack in
    let r = read s below p.nacks in
    let limit = limit_of s below p.nacks in
    let stop = stops s below p.nacks in
    same_can kind r (ended limit stop r) (ended_queue limit stop r)
    (ap (λ (w : TxWindow). keys w.slots) (ended-window limit stop r)) (read_can kind s below p c)

pub status_can : (kind : PdcpKind) (s : AmSender) (p : StatusPdu) → CanSend kind s → CanSend kind (after_status s p)
unfolding after_status
status_can kind s p c = status_by kind (is_ignored s p.ack) s p c

recalled_keys : (o : Option ℕ) (s : AmSender) → keys (with_recalled o s).window.slots ≡ keys s.window.slots
recalled_keys None s = refl
recalled_keys (Some at) s = set-keys s.window.slots at (recalled s.config.max_retx (slot_at s.window.slots at)) refl

recalled_queue : (o : Option ℕ) (s : AmSender) → (with_recalled o s).queue ≡ s.queue
recalled_queue None s = refl
recalled_queue (Some at) s = refl

poll_by : (kind : PdcpKind) (b : Bool) (s : AmSender) (more : Bool) → CanSend kind s
    → CanSend kind (if b then ended (expiry_limit s more) false (poll_expired s more) else s)
poll_by kind false s more c = c
poll_by kind true s more c =
    let x = poll_expired s more in
    let limit = expiry_limit s more in
    let place = recalled_place s more in
    same_can kind s (ended limit false x) (ended_queue limit false x ∙ recalled_queue place (with_owed s))
    (ap (λ (w : TxWindow). keys w.slots) (ended-window limit false x) ∙ recalled_keys place (with_owed s)) c

pub poll_can : (kind : PdcpKind) (s : AmSender) (more : Bool) → CanSend kind s → CanSend kind (after_expiry s more)
unfolding after_expiry
poll_can kind s more c = poll_by kind (runs s.polls.timer) s more c

-- ---- a take of it

am_given_can : (kind : PdcpKind) (o : Option (List ℕ)) (s : AmSender) → IfSome o (IsPdcp kind) → CanSend kind s
    → CanSend kind (am_given o s)
am_given_can kind None s is c = c
am_given_can kind (Some pdu) s is c = record {
  octets = more_octets s.queue.sdus pdu (pdu_some kind pdu is) c.octets;
  queue = more_whole (IsPdcp kind) s.queue.begun s.queue.sdus pdu c.queue is;
  slots = c.slots;
}

am_if : (kind : PdcpKind) (t : Bool) (w v : Work) → CanSend kind w.tx → CanSend kind v.tx
    → CanSend kind (if t then v else w).tx
am_if kind true w v c d = d
am_if kind false w v c d = c

am_feeds_can : (kind : PdcpKind) (os : List Offer) (size : ℕ) (held : Option ℕ) (w : Work) → IsKind kind
    → Offers kind w.pdcp → CanSend kind w.tx → CanSend kind (am_feeds os size held w).tx
am_feeds_can kind [] size held w known o c = c
am_feeds_can kind (x ∷ xs) size held w known o c =
    am_if kind (hungry w.tx size held) w (am_feeds xs size held (am_fed w)) c
    (am_feeds_can kind xs size held (am_fed w) known (taken_offers kind w.pdcp o)
    (am_given_can kind (taken w.pdcp) w.tx (taken_is kind w.pdcp known o) c))

pub am_fed_can : (kind : PdcpKind) (b : AmBearer) (share : ℕ) (held : Option ℕ) → IsKind kind → Offers kind b.pdcp
    → CanSend kind b.tx → CanSend kind (am_feeding b share held).tx
am_fed_can kind b share held known o c =
    am_feeds_can kind (offers b.pdcp.tx) (data_size b share) held
    (work b.pdcp b.tx (status_told b.pdcp.lcid (has_prohibit b) b.rx share)) known o c

-- a new PDU
pub new_sdus : (kind : PdcpKind) (s : AmSender) (size : ℕ) → 0 < length s.queue.sdus → 3 ≤ size → CanSend kind s
    → Whole (IsPdcp kind) (new_slot s size).begins (new_slot s size).ends
    (cut (but_last (new_slot s size).lens) (new_slot s size).field)
new_sdus kind s size some fits c =
    let es = elements 2 size 0 0 s.queue.sdus in
    subst (λ (ds : List (List ℕ)). Whole (IsPdcp kind) (not s.queue.begun) (not (new_partial s size)) ds)
    (sym (cut_elements es (new-lens 2 size s.queue.sdus c.octets some (omega (arith, fits)))))
    (new_whole (IsPdcp kind) 2 size 0 0 s.queue.begun s.queue.sdus c.queue).wholes

pub new_spelled : (kind : PdcpKind) (s : AmSender) (size : ℕ) → 0 < length s.queue.sdus → 3 ≤ size → size ≤ 9424
    → CanSend kind s → IsSpelled kind (key (new_slot s size))
new_spelled kind s size some fits most c =
    let within = new-within 2 size s.queue.sdus some (omega (arith, fits)) in
    record {
      lens = new-lens 2 size s.queue.sdus c.octets some (omega (arith, fits));
      whole = whole (elements 2 size 0 0 s.queue.sdus);
      short = omega (arith, within, most);
      sdus = new_sdus kind s size some fits c;
    }

polled_can : (kind : PdcpKind) (b : Bool) (s : AmSender) → CanSend kind s → CanSend kind (with_poll b s)
polled_can kind b s c =
    same_can kind s (with_poll b s) (polled_queue b s) (ap (λ (w : TxWindow). keys w.slots) (polled-window b s)) c

pub turned_can : (kind : PdcpKind) (t : Turn) (s : AmSender) (size : ℕ) (more : Bool) → IsAble s size t → size ≤ 9424
    → CanSend kind s → CanSend kind (after_turn t s size more)
unfolding after_turn
turned_can kind turns.Whole s size more a most c =
    polled_can kind (is_wanted (sent_whole s) more) (sent_whole s)
    (same_can kind s (sent_whole s) refl (set-keys s.window.slots (first_place s) (rested (again s)) refl) c)
turned_can kind turns.Part s size more a most c =
    polled_can kind (is_wanted (sent_segment s size) more) (sent_segment s size)
    (same_can kind s (sent_segment s size) refl
    (set-keys s.window.slots (first_place s)
    (sent_part (again s) (next_stretch (again s) size).from (next_stretch (again s) size).to) refl) c)
turned_can kind turns.New s size more a most c =
    polled_can kind (is_wanted (sent_new s size) more) (sent_new s size) (record {
      octets = rest_octets 2 size 0 0 s.queue.sdus c.octets;
      queue = (new_whole (IsPdcp kind) 2 size 0 0 s.queue.begun s.queue.sdus c.queue).left';
      slots = subst (λ (ks : List Key). AreSpelled kind ks) (sym (append-keys s.window.slots (new_slot s size)))
          (spelled_end kind (keys s.window.slots) (key (new_slot s size)) c.slots
          (new_spelled kind s size a.0 a.1 most c));
    })
turned_can kind turns.Idle s size more a most c = c
turned_can kind turns.Stopped s size more a most c = c
turned_can kind turns.Small s size more a most c = c
turned_can kind turns.Shut s size more a most c = c
turned_can kind turns.Held s size more a most c = c

left_by : (share n : ℕ) (t : Bool) → (if t then share - n else share) ≤ share
left_by share n true = omega arith
left_by share n false = omega arith

pub size_most : (b : AmBearer) (share : ℕ) → share ≤ 9424 → data_size b share ≤ 9424
size_most b share most =
    omega (arith, left_by share (3 + length (status_pdu b.rx share)) (writes_status b.rx share), most)
