-- What a receiver makes of what RLC hands up, while losses are short.
use Rattle.std.proofs.Common.{◌≡◌, ◌<◌, ◌≤◌, ℕ, ◌+◌, ◌-◌, ◌%◌, ◌^◌, Bool, false, List, [], ◌∷◌, ◌++◌, length, take}
use Rattle.std.proofs.Common.{drop, Option, Some, None, slice_index_or, append_assoc, subst, refl, ap, sym, ◌∙◌, arith}
use Rattle.std.specs.Prelude.{if◌then◌else◌}
use Rattle.std.proofs.lemmas.List.{take-append-drop}
use Rattle.l2_num.specs.Ascending.{AreBetween}
use Rattle.eps_sec.specs.declared.Keys.{Keys}
use Rattle.pdcp_pdu.specs.declared.PdcpKind.TheVariants.{Um}
use Rattle.pdcp_pdu.specs.Kinds.{IsKind, bits_of, is_am}
use Rattle.pdcp_sec.specs.Protection.{Protection, protection_of}
use Rattle.pdcp_tx_store.specs.declared.given.Sent.{Sent}
use Rattle.pdcp_tx_store.specs.Waiting.{Waits}
use Rattle.pdcp_tx.specs.declared.sender.Next.{Next}
use Rattle.pdcp_tx.specs.Pdus.{pdu}
use Rattle.pdcp_tx.specs.State.{State, submitted, took, took_owed, took_again, took_new, after_late}
use Rattle.pdcp_tx.specs.State.{restarted as restarted_sending}
use Rattle.pdcp_tx.specs.Runs.{Call, Submit, Take, Confirm, Report, Owe, Tick, Late, after}
use Rattle.pdcp_rx.specs.declared.got.Cause.{Cause}
use Rattle.pdcp_rx.specs.State.{State as Receiving, above, restarted}
use Rattle.law_pdcp.specs.OneEnd.Lives.{takes_new}
use Rattle.law_pdcp.specs.OneEnd.Receiving.{body_of}
use Rattle.law_words.specs.Lists.{those}
use Rattle.law_pdcp.specs.UmPair.Flow.{Flow, Sends as Sending, SetDiscard, HandUp, Raise, Restart, comes, happens}
use Rattle.law_pdcp.specs.UmPair.Flow.{CanCall, IsLater, left_out, IsShort}
use Rattle.law_pdcp.specs.UmPair.Reading.{IsWritten, IsReadAt, IsMisread}
use Rattle.law_pdcp.proofs.UmPair.Choice.{get_at, index_of, those_more, those_push, between_more, between_push}
use Rattle.law_pdcp.proofs.UmPair.Receives.{above_below, hears, reads}
use Rattle.law_pdcp.proofs.UmPair.Sound.{Writes, Hears}

-- ---- calls of the sender

new_key : (s : State) (ws : List Waits) → (took_new ws s).protection ≡ s.protection
new_key s [] = refl
new_key s (w ∷ ws) = refl

again_key : (s : State) (ss : List Sent) → (took_again ss s).protection ≡ s.protection
again_key s [] = new_key s (take (s.bound - s.next) s.waiting)
again_key s (x ∷ xs) = refl

owed_key : (s : State) (o : Option (List ℕ)) → (took_owed o s).protection ≡ s.protection
owed_key s None = again_key s s.again
owed_key s (Some report) = refl

key_stays : (s : State) (c : Call) → CanCall s c → (after s c).protection ≡ s.protection
unfolding submitted took after_late
key_stays s (Submit sdu) g = refl
key_stays s Take g = owed_key s s.owed
key_stays s (Confirm place) g = absurd g
key_stays s (Report fms bitmap) g = absurd g
key_stays s (Owe report) g = absurd g
key_stays s Tick g = refl
key_stays s Late g = refl

pub within : (bits : ℕ) (f : Flow) → Writes bits f → AreBetween 0 f.handed (length f.sdus)
within bits f w = between_more 0 f.handed (f.earlier + f.passed) (length f.sdus) w.order (omega (arith, w.taken, w.few))

pub call_hears : (bits : ℕ) (f : Flow) (c : Call) → CanCall f.sender c → Writes bits f → Hears bits f
    → Hears bits (happens f (Sending c))
call_hears bits f c g w h = record {
  um = h.um;
  key = h.key ∙ sym (key_stays f.sender c g);
  none_held = h.none_held;
  next = h.next;
  delivered = h.delivered ∙ sym (those_more 0 f.handed f.sdus (takes_new f.sender c) (within bits f w));
}

pub discard_hears : (bits : ℕ) (f : Flow) (ttis : ℕ) → Hears bits f → Hears bits (happens f (SetDiscard ttis))
discard_hears bits f ttis h = record {
  um = h.um;
  key = h.key;
  none_held = h.none_held;
  next = h.next;
  delivered = h.delivered;
}

-- ---- RLC hands up a PDU

hand_up_writes_at : (bits : ℕ) (f : Flow) (cause : Cause) (place : ℕ) (x : Next) → IsLater f place → Writes bits f
    → Writes bits (comes (Some x) cause place f)
hand_up_writes_at bits f cause place x g h = record {
  sends = h.sends;
  count = h.count;
  taken = h.taken;
  written = h.written;
  few = omega (arith, g.given);
  order =
      between_more 0 (f.handed ++ (f.earlier + place) ∷ []) (f.earlier + place + 1) (f.earlier + (place + 1))
      (between_push 0 f.handed (f.earlier + f.passed) (f.earlier + place) h.order (omega (arith, g.later)))
      (omega arith);
}

pub hand_up_writes : (bits : ℕ) (f : Flow) (cause : Cause) (place : ℕ) → IsLater f place → Writes bits f
    → Writes bits (happens f (HandUp cause place))
hand_up_writes bits f cause place g h =
    let x = get_at f.stream place g.given in
    subst (λ o. Writes bits (comes o cause place f)) (sym x.1) (hand_up_writes_at bits f cause place x.0 g h)

octets_of : (bits : ℕ) (f : Flow) (place : ℕ) (x : Next)
    (told : IsWritten f.first f.earlier f.sdus f.sender.kind f.sender.protection place x)
    → Writes bits f → Hears bits f → x.octets ≡ pdu (Um bits) f.receiver.protection (f.first + place) told.sdu
octets_of bits f place x told w h =
    told.octets ∙ ap (λ k. pdu k f.sender.protection (f.first + place) told.sdu) w.sends.um
    ∙ ap (λ p. pdu (Um bits) p (f.first + place) told.sdu) (sym h.key)

-- it is read as its COUNT
pub reads_at : (bits : ℕ) (f : Flow) (cause : Cause) (place : ℕ) → IsKind (Um bits) → IsLater f place
    → IsShort f (HandUp cause place) → Writes bits f
    → Hears bits f → IsReadAt f cause place
reads_at bits f cause place is g short w h =
    let x = get_at f.stream place g.given in
    let told = w.written place x.0 x.1 in
    let wide : 2 ^ bits_of f.receiver.kind ≡ 2 ^ bits = ap (λ k. 2 ^ bits_of k) h.um in
    let near : place - f.passed < 2 ^ bits = omega (arith, wide, short) in
    record {
      x = x.0;
      at = x.1;
      written = told;
      read =
          reads f.receiver bits (f.first + place) x.0.octets told.sdu cause h.um is h.none_held told.some
          (omega (arith, h.next, g.later)) (omega (arith, h.next, near))
          (omega (arith, w.count, w.sends.room, g.given)) (octets_of bits f place x.0 told w h);
    }

-- or as a lower one
pub misreads_at : (bits : ℕ) (f : Flow) (place : ℕ) → IsKind (Um bits) → IsLater f place → 2 ^ bits ≤ left_out f place
    → Writes bits f → Hears bits f
    → IsMisread f place
misreads_at bits f place is g long w h =
    let x = get_at f.stream place g.given in
    let told = w.written place x.0 x.1 in
    let sn : ℕ = (f.first + place) % 2 ^ bits in
    let near : above f.receiver sn < 2 ^ bits = above_below f.receiver bits sn h.um is in
    record {
      x = x.0;
      at = x.1;
      sn = sn;
      body = body_of (Um bits) f.receiver.protection (f.first + place) told.sdu;
      heard_as = hears f.receiver bits (f.first + place) x.0.octets told.sdu h.um is told.some
          (octets_of bits f place x.0 told w h);
      found = omega (arith, h.next, near, long, g.later);
    }

hand_up_hears_at : (bits : ℕ) (f : Flow) (cause : Cause) (place : ℕ) (r : IsReadAt f cause place) → Hears bits f
    → Hears bits (comes (Some r.x) cause place f)
hand_up_hears_at bits f cause place r h =
    let sdu = r.written.sdu in
    let left : Receiving = record f.receiver { next = f.first + place + 1; ready = f.receiver.ready ++ sdu ∷ [] } in
    let said : slice_index_or f.sdus (f.earlier + place) [] ≡ sdu =
    index_of f.sdus (f.earlier + place) sdu r.written.taken in
    let new : Hears bits (record f {
      receiver = left;
      passed = place + 1;
      handed = f.handed ++ (f.earlier + place) ∷ [];
    }) = record {
      um = h.um;
      key = h.key;
      none_held = h.none_held;
      next = omega arith;
      delivered =
          sym (append_assoc f.up f.receiver.ready (sdu ∷ [])) ∙ ap (λ l. l ++ sdu ∷ []) h.delivered
          ∙ ap (λ y. those f.handed f.sdus ++ y ∷ []) (sym said)
          ∙ sym (those_push f.handed (f.earlier + place) f.sdus);
    } in
    subst
    (λ s. Hears bits (record f {
      receiver = s;
      passed = place + 1;
      handed = f.handed ++ (f.earlier + place) ∷ [];
    })) (sym r.read.left) new

pub hand_up_hears : (bits : ℕ) (f : Flow) (cause : Cause) (place : ℕ) → IsReadAt f cause place → Hears bits f
    → Hears bits (happens f (HandUp cause place))
hand_up_hears bits f cause place r h =
    subst (λ o. Hears bits (comes o cause place f)) (sym r.at) (hand_up_hears_at bits f cause place r h)

-- ---- an SDU goes up

pub raise_writes : (bits : ℕ) (f : Flow) → Writes bits f → Writes bits (happens f Raise)
raise_writes bits f h = record {
  sends = h.sends;
  count = h.count;
  taken = h.taken;
  written = h.written;
  few = h.few;
  order = h.order;
}

pub raise_hears : (bits : ℕ) (f : Flow) → Hears bits f → Hears bits (happens f Raise)
raise_hears bits f h = record {
  um = h.um;
  key = h.key;
  none_held = h.none_held;
  next = h.next;
  delivered = append_assoc f.up (take 1 f.receiver.ready) (drop 1 f.receiver.ready)
      ∙ ap (λ l. f.up ++ l) (take-append-drop 1 f.receiver.ready) ∙ h.delivered;
}

-- ---- the next life

pub restart_hears : (bits : ℕ) (f : Flow) (keys : Keys) → Writes bits f → Hears bits f
    → Hears bits (happens f (Restart keys))
unfolding restarted restarted_sending
restart_hears bits f keys w h =
    let other : is_am f.receiver.kind ≡ false = ap is_am h.um in
    record {
      um = h.um;
      key = ap (λ k. protection_of k keys f.receiver.protection.bearer f.receiver.protection.direction)
          (h.um ∙ sym w.sends.um)
          ∙ ap (λ (p : Protection). protection_of f.sender.kind keys p.bearer p.direction) h.key;
      none_held = ap (λ (b : Bool). if b then f.receiver.held else []) other;
      next = ap (λ (b : Bool). if b then f.receiver.next else 0) other;
      delivered = h.delivered;
    }
