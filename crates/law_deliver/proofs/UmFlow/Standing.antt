-- A run of RLC's sender and one of RLC's receiver that have come to what stands at both ends, and what leads them on.
use Rattle.std.proofs.Common.{◌≡◌, ◌<◌, ◌≤◌, inl, inr, ℕ, zero, suc, ◌+◌, ◌*◌, ◌^◌, Bool, true, false, not}
use Rattle.std.proofs.Common.{if◌then◌else◌, List, [], ◌∷◌, ◌++◌, length, take, drop, max, Option, Some, None, Ok}
use Rattle.std.proofs.Common.{slice_get, append_assoc, append-nil, nat_lt, ◌==◌, refl, ap, sym, subst, ◌∙◌, arith}
use Rattle.std.proofs.lemmas.Bool.Decides.{nat_tests}
use Rattle.std.proofs.Math.Nat.{mod-lt}
use Rattle.std.specs.List.{AllByRecursion}
use Rattle.rlc_pdu.specs.declared.outcome.Landed.{Landed}
use Rattle.rlc_pdu.specs.declared.outcome.Landed.TheVariants.{Kept, Repeat, Outside, Clash}
use Rattle.rlc_pdu.specs.Pdus.{UmdPdu, IsUmBits}
use Rattle.rlc_pdu.specs.Laws.{IsUmdInRange}
use Rattle.rlc_pdu.specs.Reading.{umd_at}
use Rattle.rlc_pdu.specs.Writing.{umd_canonical}
use Rattle.rlc_pdu.proofs.Again.{umd_again}
use Rattle.rlc_queue.specs.NewPdu.{framing}
use Rattle.rlc_queue.specs.Waiting.{HaveOctets}
use Rattle.rlc_queue.proofs.Lens.{written}
use Rattle.rlc_um.specs.Sender.{Sender, Turn, Gives, IsIdle, IsHeld as TurnsHeld, IsSmall, width_of, head_of, is_held}
use Rattle.rlc_um.specs.Sender.{ends_partly, turn, pdu_of, sent, answer, after_turn, taken, after_take, offered}
use Rattle.rlc_um.specs.Sender.{idle_sender}
use Rattle.rlc_um.specs.Joined.{Parts, parts_of}
use Rattle.rlc_um.specs.Window.{top_of, number_of}
use Rattle.rlc_um.specs.Receiver.{State as Receiver, start, landed, arrival, after_landing, after_expiry, expired}
use Rattle.rlc_um.specs.Receiver.{counted, handed}
use Rattle.bearer.specs.Unacknowledged.Hearing.{all_handed}
use Rattle.law_rlc.specs.AmPair.Flow.{Copy, copies_with, except}
use Rattle.law_rlc.specs.AmPair.Given.{IsHeld}
use Rattle.law_rlc.specs.UmPair.Run.{Call, Arrive, Expire, Tick, Up, World, fresh, happens, run_um_receiver}
use Rattle.law_rlc.specs.UmPair.Run.{read_number}
use Rattle.law_rlc.specs.UmPair.Send.{Step, Offer, Take, Flow, made_by, goes, flow, at_first}
use Rattle.law_rlc.specs.UmPair.Air.{IsSent, AreSent, IsReadTruly}
use Rattle.law_rlc.proofs.UmPair.Air.{read_truly}
use Rattle.law_rlc.proofs.UmPair.Edge.{edge}
use Rattle.law_deliver.specs.UmFlow.Runs.{ups}
use Rattle.law_deliver.proofs.UmFlow.Numbers.{at_left, at_last, is_below, flow_more, run_more, sent_grows, sent_more}
use Rattle.law_deliver.proofs.UmFlow.Numbers.{octets_push, octets_left}

-- a PDU under way is that of its number, is read as that, and has no number below the next less a window
pub record IsCopyOf (bits : ℕ) (made : List UmdPdu) (c : Copy) : Type 0 where
  pub pdu : UmdPdu
  pub is : slice_get made c.number ≡ Some pdu
  pub read : umd_at bits c.octets ≡ Ok pdu
  pub recent : length made ≤ c.number + width_of bits

pub record Stands (bits reorder : ℕ) (steps : List Step) (calls : List Call) (tx : Sender) (rx : Receiver)
    (copies : List Copy) (given heard : List (List ℕ)) : Type 0 where
  pub f : Flow
  pub w : World
  pub f_is : flow steps (at_first bits) ≡ f
  pub w_is : run_um_receiver calls (fresh (width_of bits) reorder) ≡ w
  pub sent' : AreSent f.made (width_of bits) calls (fresh (width_of bits) reorder)
  pub sender_is : f.sender ≡ tx
  pub given_is : f.offered ≡ given
  pub receiver_is : w.state ≡ rx
  pub heard_is : w.gone ≡ heard
  pub bits_are : tx.bits ≡ bits
  pub some : HaveOctets tx.waiting.sdus
  pub next_is : tx.next ≡ length f.made
  pub width_is : rx.window.width ≡ width_of bits
  pub top_is : w.top ≤ 2 * width_of bits + length f.made
  pub copies_are : AllByRecursion (IsCopyOf bits f.made) copies

-- ---- where a life begins

pub begun : (bits reorder : ℕ) → Stands bits reorder [] [] (idle_sender bits) (start (width_of bits) reorder) [] [] []
begun bits reorder = record {
  f = at_first bits;
  w = fresh (width_of bits) reorder;
  f_is = refl;
  w_is = refl;
  sent' = tt;
  sender_is = refl;
  given_is = refl;
  receiver_is = refl;
  heard_is = refl;
  bits_are = refl;
  some = tt;
  next_is = refl;
  width_is = refl;
  top_is = omega arith;
  copies_are = tt;
}

-- ---- an SDU is offered

pub offers_one : (bits reorder : ℕ) (steps : List Step) (calls : List Call) (tx : Sender) (rx : Receiver)
    (cs : List Copy) (given heard : List (List ℕ)) (sdu : List ℕ)
    → 0 < length sdu → Stands bits reorder steps calls tx rx cs given heard
    → Stands bits reorder (steps ++ Offer sdu ∷ []) calls (offered sdu tx) rx cs (given ++ sdu ∷ []) heard
offers_one bits reorder steps calls tx rx cs given heard sdu octet h = record {
  f = goes h.f (Offer sdu);
  w = h.w;
  f_is = flow_more steps (Offer sdu ∷ []) (at_first bits) ∙ ap (λ (g : Flow). goes g (Offer sdu)) h.f_is;
  w_is = h.w_is;
  sent' = h.sent';
  sender_is = ap (offered sdu) h.sender_is;
  given_is = ap (λ (l : List (List ℕ)). l ++ sdu ∷ []) h.given_is;
  receiver_is = h.receiver_is;
  heard_is = h.heard_is;
  bits_are = h.bits_are;
  some = octets_push tx.waiting.sdus sdu octet h.some;
  next_is = h.next_is;
  width_is = h.width_is;
  top_is = h.top_is;
  copies_are = h.copies_are;
}

-- ---- a PDU is taken

pub record Given (tx : Sender) (size : ℕ) (held : Option ℕ) : Type 0 where
  pub wait : 0 < length tx.waiting.sdus
  pub free : is_held held tx ≡ false
  pub room' : head_of tx.bits < size

given_by : (a b c : Bool) → (if a then IsIdle else if b then TurnsHeld else if c then IsSmall else Gives) ≡ Gives
    → (a ≡ false) × (b ≡ false) × (c ≡ false)
given_by true b c e = absurd cc
given_by false true c e = absurd cc
given_by false false true e = absurd cc
given_by false false false e = (refl, refl, refl)

pub turn_given : (tx : Sender) (size : ℕ) (held : Option ℕ) → turn tx size held ≡ Gives → Given tx size held
turn_given tx size held e =
    let g = given_by (length tx.waiting.sdus == 0) (is_held held tx) (nat_lt size (head_of tx.bits + 1)) e in
    record { wait = grind (arith, nat_tests, g.0); free = g.1; room' = grind (arith, nat_tests, g.2) }

framed : (a b : Bool) → framing a b < 2 ^ 2
framed true true = omega arith
framed true false = omega arith
framed false true = omega arith
framed false false = omega arith

positive : (bits : ℕ) → IsUmBits bits → 0 < 2 ^ bits
positive bits (inl e) = subst (λ (b : ℕ). 0 < 2 ^ b) (sym e) (omega arith)
positive bits (inr e) = subst (λ (b : ℕ). 0 < 2 ^ b) (sym e) (omega arith)

pub in_range : (tx : Sender) (size : ℕ) (held : Option ℕ) → IsUmBits tx.bits → HaveOctets tx.waiting.sdus
    → Given tx size held → IsUmdInRange tx.bits (pdu_of tx size)
in_range tx size held u some g = record {
  number = mod-lt tx.next (positive tx.bits u);
  framing = framed (not tx.waiting.begun) (not (ends_partly tx size));
  lens = written (head_of tx.bits) size tx.waiting.sdus some g.wait g.room';
}

-- no PDU under way lies a window below the next number
pub still_recent : (tx : Sender) (held : Option ℕ) (n : ℕ) (c : Copy) → is_held held tx ≡ false → IsHeld held c
    → tx.next ≡ n → n + 1 ≤ c.number + width_of tx.bits
still_recent tx None n c free low e = absurd low
still_recent tx (Some number) n c free low e = let above : tx.next < number + width_of tx.bits =
    grind (arith, nat_tests, free) in omega arith

grows_by_one : (made : List UmdPdu) (p : UmdPdu) → length (made ++ p ∷ []) ≡ length made + 1
grows_by_one [] p = refl
grows_by_one (x ∷ made) p = let ih = grows_by_one made p in omega arith

copies_grow : (bits : ℕ) (tx : Sender) (held : Option ℕ) (made : List UmdPdu) (p : UmdPdu) (cs : List Copy)
    → tx.bits ≡ bits → is_held held tx ≡ false → tx.next ≡ length made
    → AllByRecursion (IsHeld held) cs → AllByRecursion (IsCopyOf bits made) cs
    → AllByRecursion (IsCopyOf bits (made ++ p ∷ [])) cs
copies_grow bits tx held made p [] b free e low h = tt
copies_grow bits tx held made p (c ∷ cs) b free e low h =
    let still : length made + 1 ≤ c.number + width_of bits =
    subst (λ (n : ℕ). length made + 1 ≤ c.number + width_of n) b
    (still_recent tx held (length made) c free low.0 e) in
    let more = grows_by_one made p in (
      record {
        pdu = h.0.pdu;
        is = at_left made (p ∷ []) c.number h.0.pdu h.0.is;
        read = h.0.read;
        recent = omega (arith, still, more);
      },
      copies_grow bits tx held made p cs b free e low.1 h.1,
    )

pub some_numbers : (bits : ℕ) → IsUmBits bits → 0 < width_of bits
some_numbers bits (inl e) = subst (λ (b : ℕ). 0 < width_of b) (sym e) (omega arith)
some_numbers bits (inr e) = subst (λ (b : ℕ). 0 < width_of b) (sym e) (omega arith)

new_copy : (bits : ℕ) (tx : Sender) (size : ℕ) (held : Option ℕ) (made : List UmdPdu) → IsUmBits bits → tx.bits ≡ bits
    → HaveOctets tx.waiting.sdus → Given tx size held → tx.next ≡ length made
    → IsCopyOf bits (made ++ pdu_of tx size ∷ [])
    (record { number = tx.next; octets = umd_canonical tx.bits (pdu_of tx size) })
new_copy bits tx size held made u b some g e =
    let p = pdu_of tx size in
    let v : IsUmBits tx.bits = subst IsUmBits (sym b) u in
    let wide = some_numbers bits u in
    let more = grows_by_one made p in
    record {
      pdu = p;
      is = subst (λ (n : ℕ). slice_get (made ++ p ∷ []) n ≡ Some p) (sym e) (at_last made p);
      read = subst (λ (n : ℕ). umd_at n (umd_canonical tx.bits p) ≡ Ok p) b
          (umd_again tx.bits p v (in_range tx size held v some g)).read;
      recent = omega (arith, wide, more, e);
    }

-- what the sender and what was made then are
abbrev pub taken_by : Turn → Flow → Sender → ℕ → Flow
taken_by t f tx size = record f { sender = after_turn t tx size; made = f.made ++ made_by t tx size }

pub goes_take : (f : Flow) (tx : Sender) (size : ℕ) (held : Option ℕ) (t : Turn) → f.sender ≡ tx
    → turn tx size held ≡ t → goes f (Take size held) ≡ taken_by t f tx size
unfolding after_take
goes_take f tx size held t e q =
    ap (λ (s : Sender). record f {
      sender = after_turn (turn s size held) s size;
      made = f.made ++ made_by (turn s size held) s size;
    }) e
    ∙ ap (λ (x : Turn). taken_by x f tx size) q

takes_none : (t : Turn) (bits reorder : ℕ) (steps : List Step) (calls : List Call) (tx : Sender) (rx : Receiver)
    (cs : List Copy) (given heard : List (List ℕ)) (size : ℕ) (held : Option ℕ)
    → turn tx size held ≡ t → (h : Stands bits reorder steps calls tx rx cs given heard)
    → taken_by t h.f tx size ≡ record h.f { sender = tx; made = h.f.made ++ [] }
    → Stands bits reorder (steps ++ Take size held ∷ []) calls tx rx cs given heard
takes_none t bits reorder steps calls tx rx cs given heard size held q h none = record {
  f = record h.f { sender = tx };
  w = h.w;
  f_is =
      flow_more steps (Take size held ∷ []) (at_first bits) ∙ ap (λ (x : Flow). goes x (Take size held)) h.f_is
      ∙ goes_take h.f tx size held t h.sender_is q ∙ none
      ∙ ap (λ (l : List UmdPdu). record h.f { sender = tx; made = l }) (append-nil h.f.made);
  w_is = h.w_is;
  sent' = h.sent';
  sender_is = refl;
  given_is = h.given_is;
  receiver_is = h.receiver_is;
  heard_is = h.heard_is;
  bits_are = h.bits_are;
  some = h.some;
  next_is = h.next_is;
  width_is = h.width_is;
  top_is = h.top_is;
  copies_are = h.copies_are;
}

taken_turn : (t : Turn) (bits reorder : ℕ) (steps : List Step) (calls : List Call) (tx : Sender) (rx : Receiver)
    (cs : List Copy) (given heard : List (List ℕ)) (size : ℕ) (held : Option ℕ)
    → turn tx size held ≡ t → IsUmBits bits → AllByRecursion (IsHeld held) cs
    → Stands bits reorder steps calls tx rx cs given heard
    → Stands bits reorder (steps ++ Take size held ∷ []) calls (after_turn t tx size) rx
    (copies_with (answer t tx size) cs) given heard
taken_turn IsIdle bits reorder steps calls tx rx cs given heard size held q u low h =
    takes_none IsIdle bits reorder steps calls tx rx cs given heard size held q h refl
taken_turn TurnsHeld bits reorder steps calls tx rx cs given heard size held q u low h =
    takes_none TurnsHeld bits reorder steps calls tx rx cs given heard size held q h refl
taken_turn IsSmall bits reorder steps calls tx rx cs given heard size held q u low h =
    takes_none IsSmall bits reorder steps calls tx rx cs given heard size held q h refl
taken_turn Gives bits reorder steps calls tx rx cs given heard size held q u low h =
    let g = turn_given tx size held q in
    let p = pdu_of tx size in
    let more = grows_by_one h.f.made p in
    let before = h.next_is in
    let top = h.top_is in
    record {
      f = taken_by Gives h.f tx size;
      w = h.w;
      f_is = flow_more steps (Take size held ∷ []) (at_first bits) ∙ ap (λ (x : Flow). goes x (Take size held)) h.f_is
          ∙ goes_take h.f tx size held Gives h.sender_is q;
      w_is = h.w_is;
      sent' = sent_grows h.f.made (p ∷ []) (width_of bits) calls (fresh (width_of bits) reorder) h.sent';
      sender_is = refl;
      given_is = h.given_is;
      receiver_is = h.receiver_is;
      heard_is = h.heard_is;
      bits_are = h.bits_are;
      some = octets_left (head_of tx.bits) size 0 0 tx.waiting.sdus h.some;
      next_is = omega (arith, before, more);
      width_is = h.width_is;
      top_is = omega (arith, top, more);
      copies_are = (
        new_copy bits tx size held h.f.made u h.bits_are h.some g h.next_is,
        copies_grow bits tx held h.f.made p cs h.bits_are g.free h.next_is low h.copies_are,
      );
    }

pub takes_one : (bits reorder : ℕ) (steps : List Step) (calls : List Call) (tx : Sender) (rx : Receiver)
    (cs : List Copy) (given heard : List (List ℕ)) (size : ℕ) (held : Option ℕ)
    → IsUmBits bits → AllByRecursion (IsHeld held) cs → Stands bits reorder steps calls tx rx cs given heard
    → Stands bits reorder (steps ++ Take size held ∷ []) calls (after_take tx size held) rx
    (copies_with (taken tx size held) cs) given heard
unfolding after_take taken
takes_one bits reorder steps calls tx rx cs given heard size held u low h =
    taken_turn (turn tx size held) bits reorder steps calls tx rx cs given heard size held refl u low h

-- ---- what is under way is let go

pub each_except : {A : Type 0} (P : A → Type 0) (k : ℕ) (xs : List A) → AllByRecursion P xs
    → AllByRecursion P (except k xs)
each_except P k [] h = h
each_except P zero (x ∷ xs) h = h.1
each_except P (suc k) (x ∷ xs) h = (h.0, each_except P k xs h.1)

pub lets_go : (bits reorder : ℕ) (steps : List Step) (calls : List Call) (tx : Sender) (rx : Receiver)
    (cs : List Copy) (given heard : List (List ℕ)) (k : ℕ) → Stands bits reorder steps calls tx rx cs given heard
    → Stands bits reorder steps calls tx rx (except k cs) given heard
lets_go bits reorder steps calls tx rx cs given heard k h = record {
  f = h.f;
  w = h.w;
  f_is = h.f_is;
  w_is = h.w_is;
  sent' = h.sent';
  sender_is = h.sender_is;
  given_is = h.given_is;
  receiver_is = h.receiver_is;
  heard_is = h.heard_is;
  bits_are = h.bits_are;
  some = h.some;
  next_is = h.next_is;
  width_is = h.width_is;
  top_is = h.top_is;
  copies_are = each_except (IsCopyOf bits h.f.made) k cs h.copies_are;
}

-- ---- calls of the receiver

width_landed : (l : Landed) (x : ℕ) (p : Parts) (r : Receiver) → (after_landing l x p r).window.width ≡ r.window.width
width_landed Kept x p r = refl
width_landed Repeat x p r = refl
width_landed Outside x p r = refl
width_landed Clash x p r = refl

width_arrival : (pdu : UmdPdu) (r : Receiver) → (arrival pdu r).window.width ≡ r.window.width
unfolding arrival
width_arrival pdu r = width_landed (landed r (number_of r.window pdu.sn)) (number_of r.window pdu.sn) (parts_of pdu) r

width_marked : (m : Option ℕ) (r : Receiver) → (after_expiry m r).window.width ≡ r.window.width
width_marked None r = refl
width_marked (Some x) r = refl

width_expired : (r : Receiver) → (expired r).window.width ≡ r.window.width
unfolding expired
width_expired r = width_marked r.mark r

-- VR(UH)
pub tops : (bits reorder : ℕ) (steps : List Step) (calls : List Call) (tx : Sender) (rx : Receiver) (cs : List Copy)
    (given heard : List (List ℕ)) → IsUmBits bits → (h : Stands bits reorder steps calls tx rx cs given heard)
    → top_of rx.window ≡ h.w.top
tops bits reorder steps calls tx rx cs given heard u h =
    let here : top_of h.w.state.window ≡ h.w.top =
    subst (λ (x : World). top_of x.state.window ≡ x.top) h.w_is
    (edge (width_of bits) reorder (some_numbers bits u) calls).top in
    ap (λ (r : Receiver). top_of r.window) (sym h.receiver_is) ∙ here

pub reads_so : (bits reorder : ℕ) (steps : List Step) (calls : List Call) (f : Flow) (w : World) (pdu : UmdPdu)
    → IsUmBits bits → flow steps (at_first bits) ≡ f → run_um_receiver calls (fresh (width_of bits) reorder) ≡ w
    → AreSent f.made (width_of bits) calls (fresh (width_of bits) reorder) → IsReadTruly f.made (width_of bits) w pdu
reads_so bits reorder steps calls f w pdu u p q sent =
    subst (λ (x : World). IsReadTruly f.made (width_of bits) x pdu) q
    (subst (λ (g : Flow). IsReadTruly g.made (width_of bits)
    (run_um_receiver calls (fresh (width_of bits) reorder)) pdu) p
    (read_truly bits reorder steps calls u
    (subst (λ (g : Flow). AreSent g.made (width_of bits) calls (fresh (width_of bits) reorder)) (sym p) sent)
    pdu))

highest : (top n low made : ℕ) → top ≤ low + made → n < made → max top (low + n + 1) ≤ low + made
highest top n low made a b = grind (arith, nat_tests)

-- one call of the receiver
hears_one : (bits reorder : ℕ) (steps : List Step) (calls : List Call) (tx : Sender) (rx left : Receiver)
    (cs : List Copy) (given heard gone : List (List ℕ)) (c : Call)
    → (h : Stands bits reorder steps calls tx rx cs given heard)
    → AreSent h.f.made (width_of bits) (c ∷ []) (run_um_receiver calls (fresh (width_of bits) reorder))
    → (happens h.w c).state ≡ left → (happens h.w c).gone ≡ gone → left.window.width ≡ width_of bits
    → (happens h.w c).top ≤ 2 * width_of bits + length h.f.made
    → Stands bits reorder steps (calls ++ c ∷ []) tx left cs given gone
hears_one bits reorder steps calls tx rx left cs given heard gone c h sent left_is gone_is wide top = record {
  f = h.f;
  w = happens h.w c;
  f_is = h.f_is;
  w_is = run_more calls (c ∷ []) (fresh (width_of bits) reorder) ∙ ap (λ (x : World). happens x c) h.w_is;
  sent' = sent_more h.f.made (width_of bits) calls (c ∷ []) (fresh (width_of bits) reorder) h.sent' sent;
  sender_is = h.sender_is;
  given_is = h.given_is;
  receiver_is = left_is;
  heard_is = gone_is;
  bits_are = h.bits_are;
  some = h.some;
  next_is = h.next_is;
  width_is = wide;
  top_is = top;
  copies_are = h.copies_are;
}

-- one that is under way arrives
pub arrives_one : (bits reorder : ℕ) (steps : List Step) (calls : List Call) (tx : Sender) (rx : Receiver)
    (cs : List Copy) (given heard : List (List ℕ)) (c : Copy) → IsUmBits bits
    → (h : Stands bits reorder steps calls tx rx cs given heard) → (k : IsCopyOf bits h.f.made c)
    → 2 * rx.window.width + c.number < top_of rx.window + rx.window.width
    → Stands bits reorder steps (calls ++ Arrive k.pdu ∷ []) tx (arrival k.pdu rx) cs given heard
arrives_one bits reorder steps calls tx rx cs given heard c u h k short =
    let width : ℕ = width_of bits in
    let wide : rx.window.width ≡ width = h.width_is in
    let at : top_of rx.window ≡ h.w.top = tops bits reorder steps calls tx rx cs given heard u h in
    let top = h.top_is in
    let recent = k.recent in
    let s : IsSent h.f.made width h.w k.pdu = record {
      number = c.number;
      is = k.is;
      low = omega (arith, top, recent);
      below = subst (λ (n : ℕ). 2 * width + c.number < n + width) at
          (subst (λ (n : ℕ). 2 * n + c.number < top_of rx.window + n) wide short);
    } in
    let read : read_number k.pdu h.w ≡ 2 * width + c.number =
    reads_so bits reorder steps calls h.f h.w k.pdu u h.f_is h.w_is h.sent' s in
    hears_one bits reorder steps calls tx rx (arrival k.pdu rx) cs given heard heard (Arrive k.pdu) h
    (subst (λ (x : World). IsSent h.f.made width x k.pdu) (sym h.w_is) s, tt)
    (ap (arrival k.pdu) h.receiver_is) h.heard_is (width_arrival k.pdu rx ∙ wide)
    (subst (λ (n : ℕ). max h.w.top (n + 1) ≤ 2 * width + length h.f.made) (sym read)
    (highest h.w.top c.number (2 * width) (length h.f.made) top (is_below h.f.made c.number k.pdu k.is)))

-- the reordering timer expires, or counts
pub expires_one : (bits reorder : ℕ) (steps : List Step) (calls : List Call) (tx : Sender) (rx : Receiver)
    (cs : List Copy) (given heard : List (List ℕ)) → Stands bits reorder steps calls tx rx cs given heard
    → Stands bits reorder steps (calls ++ Expire ∷ []) tx (expired rx) cs given heard
expires_one bits reorder steps calls tx rx cs given heard h =
    hears_one bits reorder steps calls tx rx (expired rx) cs given heard heard Expire h tt (ap expired h.receiver_is)
    h.heard_is (width_expired rx ∙ h.width_is) h.top_is

pub counts_one : (bits reorder : ℕ) (steps : List Step) (calls : List Call) (tx : Sender) (rx : Receiver)
    (cs : List Copy) (given heard : List (List ℕ)) → Stands bits reorder steps calls tx rx cs given heard
    → Stands bits reorder steps (calls ++ Tick ∷ []) tx (counted rx) cs given heard
counts_one bits reorder steps calls tx rx cs given heard h =
    hears_one bits reorder steps calls tx rx (counted rx) cs given heard heard Tick h tt (ap counted h.receiver_is)
    h.heard_is h.width_is h.top_is

-- the first that is ready goes up
hands_one : (bits reorder : ℕ) (steps : List Step) (calls : List Call) (tx : Sender) (rx : Receiver) (cs : List Copy)
    (given heard : List (List ℕ)) (x : List ℕ) (more : List (List ℕ)) → rx.joined.ready ≡ x ∷ more
    → Stands bits reorder steps calls tx rx cs given heard
    → Stands bits reorder steps (calls ++ Up ∷ []) tx (handed rx) cs given (heard ++ x ∷ [])
hands_one bits reorder steps calls tx rx cs given heard x more q h =
    hears_one bits reorder steps calls tx rx (handed rx) cs given heard (heard ++ x ∷ []) Up h tt
    (ap handed h.receiver_is)
    (ap (λ (l : List (List ℕ)). l ++ take 1 h.w.state.joined.ready) h.heard_is
    ∙ ap (λ (r : Receiver). heard ++ take 1 r.joined.ready) h.receiver_is
    ∙ ap (λ (l : List (List ℕ)). heard ++ take 1 l) q) h.width_is h.top_is

none_ready : (r : Receiver) → r.joined.ready ≡ [] → all_handed r ≡ r
none_ready r q = ap (λ (l : List (List ℕ)). record r { joined = record r.joined { ready = l } }) (sym q)

-- all that is ready goes up
pub hands_all : (bits reorder : ℕ) (steps : List Step) (calls : List Call) (tx : Sender) (rx : Receiver)
    (cs : List Copy) (given heard : List (List ℕ)) (ready : List (List ℕ)) → rx.joined.ready ≡ ready
    → Stands bits reorder steps calls tx rx cs given heard
    → Stands bits reorder steps (calls ++ ups ready) tx (all_handed rx) cs given (heard ++ ready)
hands_all bits reorder steps calls tx rx cs given heard [] q h =
    subst (λ (r : Receiver). Stands bits reorder steps (calls ++ []) tx r cs given (heard ++ []))
    (sym (none_ready rx q))
    (subst (λ (l : List (List ℕ)). Stands bits reorder steps (calls ++ []) tx rx cs given l) (sym (append-nil heard))
    (subst (λ (l : List Call). Stands bits reorder steps l tx rx cs given heard) (sym (append-nil calls)) h))
hands_all bits reorder steps calls tx rx cs given heard (x ∷ more) q h =
    subst (λ (l : List (List ℕ)). Stands bits reorder steps (calls ++ ups (x ∷ more)) tx (all_handed rx) cs given l)
    (append_assoc heard (x ∷ []) more)
    (subst (λ (l : List Call). Stands bits reorder steps l tx (all_handed rx) cs given ((heard ++ x ∷ []) ++ more))
    (append_assoc calls (Up ∷ []) (ups more))
    (hands_all bits reorder steps (calls ++ Up ∷ []) tx (handed rx) cs given (heard ++ x ∷ []) more (ap (drop 1) q)
    (hands_one bits reorder steps calls tx rx cs given heard x more q h)))
