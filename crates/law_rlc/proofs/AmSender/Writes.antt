-- What data PDUs carry, along every run.
use Rattle.std.proofs.Common.{◌≡◌, ◌<◌, ◌≤◌, inl, inr, ℕ, ◌+◌, ◌-◌, Bool, true, false, ◌&&◌, ◌==◌, if◌then◌else◌}
use Rattle.std.proofs.Common.{List, [], ◌∷◌, ◌++◌, length, take, drop, slice_range, slice_index_or, Option, Some}
use Rattle.std.proofs.Common.{None, refl, ap, sym, subst, ◌∙◌, arith, nat_le, length-append}
use Rattle.std.proofs.Common.{length-drop}
use Rattle.std.specs.List.{AllByRecursion, sum}
use Rattle.std.proofs.lemmas.Grind.{common_steps}
use Rattle.std.proofs.lemmas.Bool.Decides.{nat_tests}
use Rattle.std.proofs.lemmas.Bool.{cases_lt}
use Rattle.std.proofs.lemmas.List.{length-map, take_at, drop_at, get_or_append_left, get_or_push}
use Rattle.l2_num.specs.Timers.{runs}
use Rattle.l2_types.specs.declared.config.AmTxConfig.{AmTxConfig}
use Rattle.rlc_pdu.specs.declared.outcome.Taken.TheVariants as taken
use Rattle.rlc_pdu.specs.declared.pdu.Nack.{Nack}
use Rattle.rlc_pdu.specs.Pdus.{StatusPdu, AreLens}
use Rattle.rlc_pdu.specs.Runs.{has}
use Rattle.rlc_pdu.specs.Writing.{header_len}
use Rattle.rlc_queue.specs.NewPdu.{rest}
use Rattle.rlc_queue.specs.Waiting.{HaveOctets}
use Rattle.rlc_queue.proofs.Lens.{whole, written as new-lens}
use Rattle.rlc_am_tx_window.specs.Sent.{Sent, Stretch, all_wait, whole_size}
use Rattle.rlc_am_tx_window.specs.Sent.{next_stretch, rested, sent_part, recalled}
use Rattle.rlc_am_tx_window.specs.Window.{next, slot_at, offset_of, leading_acked}
use Rattle.rlc_am_tx_window.specs.Written.{whole_octets, part_octets}
use Rattle.rlc_am_tx_window.proofs.CutSteps.{lens-some, clip-sum}
use Rattle.rlc_am_tx.specs.declared.turn.Turn.{Turn}
use Rattle.rlc_am_tx.specs.declared.turn.Turn.TheVariants as turns
use Rattle.rlc_am_tx.specs.Machine.{State, turn, waits, answer_of, after_turn, after_status, after_expiry, is_ignored}
use Rattle.rlc_am_tx.specs.Machine.{with_poll, is_wanted, again, number_again, first_place, sent_whole, sent_segment}
use Rattle.rlc_am_tx.specs.Machine.{sent_new, new_slot, new_elements, new_partial, ended, limit_of, stops, read}
use Rattle.rlc_am_tx.specs.Machine.{applied, with_recalled, with_owed, expired, recalled_place, expiry_limit}
use Rattle.rlc_am_tx.specs.Machine.{settled_by, settles}
use Rattle.rlc_am_tx.proofs.SendSteps.{first-waits}
use Rattle.law_rlc.specs.AmSender.Run.{Call, Offer, Take, Status, Tick, Expire, Settle, Confirm, World, after}
use Rattle.law_rlc.specs.AmSender.Run.{run_am_sender, begun}
use Rattle.law_rlc.specs.AmSender.Resent.{IsResent, IsSegment, IsWhole}
use Rattle.law_rlc.specs.AmSender.Octets.{Place, places, written, segment_of}
use Rattle.law_rlc.specs.AmSender.Octets.{again_octets, Octets, nothing_sent, sent_with, new_count, octets_by, moved}
use Rattle.law_rlc.specs.AmSender.Octets.{octets_after, IsAgain, IsWritten, HasOctets, WritesTheStream}
use Rattle.law_rlc.proofs.AmSender.Slots.{leading-length, slot-drop}
use Rattle.law_rlc.proofs.AmSender.Least.{heard_slots, heard-length, at-old, at-new}
use Rattle.law_rlc.proofs.AmSender.Keys.{Key, key, keys, set-keys, heard-keys, keys-length, same-keys}
use Rattle.law_rlc.proofs.AmSender.Marked.{Stands, after-stands, start-stands, is-part}
use Rattle.law_rlc.proofs.AmSender.Resends.{whole-waits, resent-of, is-below}
use Rattle.law_rlc.proofs.AmSender.Stretches.{Joined, joined-front}
use Rattle.law_rlc.proofs.AmSender.Stretches.{range-all}
use Rattle.law_rlc.proofs.AmSender.Dealing.{IsTaken, stream, stream-end, stream-joined, taken as dealt}
use Rattle.law_rlc.proofs.AmSender.Pdus.{IsFace, face-length, face-some, whole-is, part-is, whole-len, part-len}
use Rattle.law_rlc.proofs.AmSender.Pdus.{IsShare, share, part-case, whole-fits, clash, less}

-- ---- any call

-- what isn't sent is what waits, and what was sent with each number is what its PDU in the window has
pub record Faces (s : State) (unsent : List Place) (sent : List (List Place)) : Type 0 where
  pub unsent' : unsent ≡ stream s.queue.begun s.queue.sdus
  pub octets : HaveOctets s.queue.sdus
  pub idle : length s.queue.sdus ≡ 0 → s.queue.begun ≡ false
  pub number : length sent ≡ next s.window
  pub slots : (k : ℕ) → k < length s.window.slots
      → IsFace (key (slot_at s.window.slots k)) (slice_index_or sent (s.window.base + k) [])

-- a step that leaves what waits and what PDUs carry alone
same-faces : (s t : State) (u : List Place) (p : List (List Place)) → t.queue ≡ s.queue
    → t.window.base ≡ s.window.base → keys t.window.slots ≡ keys s.window.slots → Faces s u p → Faces t u p
same-faces s t u p a b e f = record {
  unsent' = f.unsent' ∙ sym (ap (λ (q : _). stream q.begun q.sdus) a);
  octets = subst (λ (q : _). HaveOctets q.sdus) (sym a) f.octets;
  idle = subst (λ (q : _). length q.sdus ≡ 0 → q.begun ≡ false) (sym a) f.idle;
  number = f.number ∙ omega (arith, long, b);
  slots = λ k lt.
      subst (λ (x : Key). IsFace x (slice_index_or p (t.window.base + k) []))
      (sym (same-keys t.window.slots s.window.slots e k))
      (subst (λ (n : ℕ). IsFace (key (slot_at s.window.slots k)) (slice_index_or p (n + k) [])) (sym b)
      (f.slots k (omega (arith, long, lt))));
}
  where
    long : length t.window.slots ≡ length s.window.slots
    long = sym (keys-length t.window.slots) ∙ (ap (λ (ks : List Key). length ks) e ∙ keys-length s.window.slots)

polled-faces : (c : Bool) (s : State) (u : List Place) (p : List (List Place)) → Faces s u p → Faces (with_poll c s) u p
polled-faces true s u p f = same-faces s (with_poll true s) u p refl refl refl f
polled-faces false s u p f = f

-- what a new PDU takes
new-front : (s : State) (size : ℕ) (u : List Place) (p : List (List Place)) (f : Faces s u p)
    → (take (new_count s size) u ≡ (dealt size 0 0 s.queue.begun s.queue.sdus f.octets f.idle).front)
    × (drop (new_count s size) u ≡ stream (new_partial s size) (sent_new s size).queue.sdus)
new-front s size u p f = (
  ap (λ (ps : List Place). take (new_count s size) ps) split ∙ take_at d.front behind (new_count s size) long,
  ap (λ (ps : List Place). drop (new_count s size) ps) split ∙ drop_at d.front behind (new_count s size) long,
)
  where
    d : IsTaken (new_elements s size) (rest 2 size 0 0 s.queue.sdus) s.queue.sdus s.queue.begun (new_partial s size)
    d = dealt size 0 0 s.queue.begun s.queue.sdus f.octets f.idle

    behind : List Place
    behind = stream (new_partial s size) (rest 2 size 0 0 s.queue.sdus)

    split : u ≡ d.front ++ behind
    split = f.unsent' ∙ d.split

    long : length d.front ≡ new_count s size
    long = sym (length-map d.front (λ (q : Place). q.octet)) ∙ ap (λ (xs : List ℕ). length xs) d.octets

new-lens-are : (s : State) (size : ℕ) (u : List Place) (p : List (List Place)) → Faces s u p
    → (0 < length s.queue.sdus) × (3 ≤ size) → AreLens (new_slot s size).lens
new-lens-are s size u p f able = new-lens 2 size s.queue.sdus f.octets able.0 (let a = able.1 in omega (arith, a))

pub new-some : (s : State) (size : ℕ) (u : List Place) (p : List (List Place)) → Faces s u p
    → (0 < length s.queue.sdus) × (3 ≤ size) → 0 < new_count s size
new-some s size u p f able = let a = lens-some (new_slot s size).lens (new-lens-are s size u p f able) in
    let b = whole (new_elements s size) in omega (arith, a, b)

pub new-there : (s : State) (size : ℕ) (u : List Place) (p : List (List Place)) → Faces s u p
    → new_count s size ≤ length u
new-there s size u p f =
    let d = dealt size 0 0 s.queue.begun s.queue.sdus f.octets f.idle in
    let a = ap (λ (ps : List Place). length ps) (f.unsent' ∙ d.split) in
    let b = length-append d.front (stream (new_partial s size) (rest 2 size 0 0 s.queue.sdus)) in
    let c = length-map d.front (λ (q : Place). q.octet) in
    let e = ap (λ (xs : List ℕ). length xs) d.octets in
    omega (arith, a, b, c, e)

pub new-face : (s : State) (size : ℕ) (u : List Place) (p : List (List Place)) → Faces s u p
    → (0 < length s.queue.sdus) × (3 ≤ size) → IsFace (key (new_slot s size)) (take (new_count s size) u)
new-face s size u p f able =
    subst (λ (ps : List Place). IsFace (key (new_slot s size)) ps) (sym (new-front s size u p f).0) (record {
      field = sym d.octets;
      lens = sym d.lens;
      begins = sym (d.begins some);
      ends = sym (d.ends some);
      joined = joined-front d.front (stream (new_partial s size) (rest 2 size 0 0 s.queue.sdus))
          (subst (λ (ps : List Place). Joined ps) d.split (stream-joined s.queue.begun s.queue.sdus f.octets));
      written = new-lens-are s size u p f able;
      whole = whole (new_elements s size);
    })
  where
    d : IsTaken (new_elements s size) (rest 2 size 0 0 s.queue.sdus) s.queue.sdus s.queue.begun (new_partial s size)
    d = dealt size 0 0 s.queue.begun s.queue.sdus f.octets f.idle

    some : 0 < length d.front
    some = let a = new-some s size u p f able in let b = length-map d.front (λ (q : Place). q.octet) in
        let c = ap (λ (xs : List ℕ). length xs) d.octets in omega (arith, a, b, c)

new-faces : (s : State) (size : ℕ) (u : List Place) (p : List (List Place)) → Faces s u p
    → (0 < length s.queue.sdus) × (3 ≤ size)
    → Faces (sent_new s size) (drop (new_count s size) u) (p ++ take (new_count s size) u ∷ [])
new-faces s size u p f able = record {
  unsent' = (new-front s size u p f).1;
  octets = (dealt size 0 0 s.queue.begun s.queue.sdus f.octets f.idle).rest;
  idle = (dealt size 0 0 s.queue.begun s.queue.sdus f.octets f.idle).idle;
  number = let n = f.number in let a = length-append p (take (new_count s size) u ∷ []) in
      let b = length-append s.window.slots (new_slot s size ∷ []) in omega (arith, n, a, b);
  slots = λ k lt. let b = length-append s.window.slots (new_slot s size ∷ []) in let n = f.number in
      elim (cases_lt k (length s.window.slots)) [
        | inl old ↦
            subst
            (λ (x : Sent). IsFace (key x)
            (slice_index_or (p ++ take (new_count s size) u ∷ []) (s.window.base + k) []))
            (sym (at-old s.window.slots (new_slot s size) k old))
            (subst (λ (ps : List Place). IsFace (key (slot_at s.window.slots k)) ps)
            (sym (get_or_append_left p (take (new_count s size) u ∷ []) [] (s.window.base + k)
            (omega (arith, n, old)))) (f.slots k old))
        | inr new ↦
            let e : k ≡ length s.window.slots = omega (arith, b, lt, new) in
            subst
            (λ (x : Sent). IsFace (key x)
            (slice_index_or (p ++ take (new_count s size) u ∷ []) (s.window.base + k) []))
            (sym (at-new s.window.slots (new_slot s size) k e))
            (subst (λ (ps : List Place). IsFace (key (new_slot s size)) ps)
            (sym (get_or_push p (take (new_count s size) u) [] (s.window.base + k) (omega (arith, n, e))))
            (new-face s size u p f able))
      ];
}

pub new-able : (s : State) (size : ℕ) (held : Option ℕ) (more : Bool) → turn s size held more ≡ turns.New
    → (0 < length s.queue.sdus) × (3 ≤ size)
unfolding turn
new-able s size held more e = (grind (arith, common_steps, nat_tests), grind (arith, common_steps, nat_tests))

turn-faces : (t : Turn) (s : State) (size : ℕ) (more : Bool) (o : Octets)
    → (t ≡ turns.New → (0 < length s.queue.sdus) × (3 ≤ size)) → Faces s o.unsent o.sent
    → Faces (after_turn t s size more) (octets_by t s size o).unsent (octets_by t s size o).sent
unfolding after_turn
turn-faces turns.Whole s size more o able f =
    polled-faces (is_wanted (sent_whole s) more) (sent_whole s) o.unsent o.sent
    (same-faces s (sent_whole s) o.unsent o.sent refl refl
    (set-keys s.window.slots (first_place s) (rested (again s)) refl) f)
turn-faces turns.Part s size more o able f =
    polled-faces (is_wanted (sent_segment s size) more) (sent_segment s size) o.unsent o.sent
    (same-faces s (sent_segment s size) o.unsent o.sent refl refl
    (set-keys s.window.slots (first_place s)
    (sent_part (again s) (next_stretch (again s) size).from (next_stretch (again s) size).to) refl) f)
turn-faces turns.New s size more o able f =
    polled-faces (is_wanted (sent_new s size) more) (sent_new s size) (drop (new_count s size) o.unsent)
    (o.sent ++ take (new_count s size) o.unsent ∷ [])
    (new-faces s size o.unsent o.sent f (able refl))
turn-faces turns.Idle s size more o able f = f
turn-faces turns.Stopped s size more o able f = f
turn-faces turns.Small s size more o able f = f
turn-faces turns.Shut s size more o able f = f
turn-faces turns.Held s size more o able f = f

ended-faces : (l : Option ℕ) (c : Bool) (s : State) (u : List Place) (p : List (List Place)) → Faces s u p
    → Faces (ended l c s) u p
ended-faces (Some n) c s u p f = same-faces s (ended (Some n) c s) u p refl refl refl f
ended-faces None true s u p f = same-faces s (ended None true s) u p refl refl refl f
ended-faces None false s u p f = f

read-faces : (s : State) (below : ℕ) (ns : List Nack) (u : List Place) (p : List (List Place)) → Faces s u p
    → Faces (read s below ns) u p
read-faces s below ns u p f = record {
  unsent' = f.unsent';
  octets = f.octets;
  idle = f.idle;
  number = let n = f.number in omega (arith, n, lead-few, dropped, long);
  slots = λ k lt.
      let e : s.window.base + (lead + k) ≡ s.window.base + lead + k = omega arith in
      subst (λ (x : Sent). IsFace (key x) (slice_index_or p (s.window.base + lead + k) [])) (sym (slot-drop all lead k))
      (subst (λ (x : Key). IsFace x (slice_index_or p (s.window.base + lead + k) []))
      (sym (same-keys all s.window.slots (heard-keys s.window below s.config.max_retx ns) (lead + k)))
      (subst (λ (n : ℕ). IsFace (key (slot_at s.window.slots (lead + k))) (slice_index_or p n [])) e
      (f.slots (lead + k) (omega (arith, lt, dropped, long)))));
}
  where
    all : List Sent
    all = heard_slots s.window below s.config.max_retx ns

    lead : ℕ
    lead = leading_acked all

    lead-few : lead ≤ length all
    lead-few = leading-length all

    dropped : length (drop lead all) ≡ length all - lead
    dropped = length-drop lead all

    long : length all ≡ length s.window.slots
    long = heard-length s.window below s.config.max_retx ns

status-faces : (c : Bool) (s : State) (status : StatusPdu) (u : List Place) (p : List (List Place)) → Faces s u p
    → Faces (if c then s else applied s (offset_of s.window.base status.ack) status.nacks) u p
status-faces true s status u p f = f
status-faces false s status u p f =
    ended-faces (limit_of s (offset_of s.window.base status.ack) status.nacks)
    (stops s (offset_of s.window.base status.ack) status.nacks)
    (read s (offset_of s.window.base status.ack) status.nacks) u p
    (read-faces s (offset_of s.window.base status.ack) status.nacks u p f)

recalled-faces : (l : Option ℕ) (s : State) (u : List Place) (p : List (List Place)) → Faces s u p
    → Faces (with_recalled l s) u p
recalled-faces None s u p f = f
recalled-faces (Some at) s u p f =
    same-faces s (with_recalled (Some at) s) u p refl refl
    (set-keys s.window.slots at (recalled s.config.max_retx (slot_at s.window.slots at)) refl) f

expiry-faces : (c : Bool) (s : State) (more : Bool) (u : List Place) (p : List (List Place)) → Faces s u p
    → Faces (if c then ended (expiry_limit s more) false (expired s more) else s) u p
expiry-faces false s more u p f = f
expiry-faces true s more u p f = ended-faces (expiry_limit s more) false (expired s more) u p
    (recalled-faces (recalled_place s more) (with_owed s) u p (same-faces s (with_owed s) u p refl refl refl f))

settled-faces : (c : Bool) (s : State) (u : List Place) (p : List (List Place)) → Faces s u p
    → Faces (settled_by c s) u p
settled-faces true s u p f = same-faces s (settled_by true s) u p refl refl refl f
settled-faces false s u p f = f

some-append : (xs : List (List ℕ)) (x : List ℕ) → HaveOctets xs → 0 < length x → HaveOctets (xs ++ x ∷ [])
some-append [] x h one = (one, tt)
some-append (y ∷ ys) x h one = (h.0, some-append ys x h.1 one)

after-faces : (s : State) (c : Call) (o : Octets) → HasOctets c → Faces s o.unsent o.sent
    → Faces (after s c) (moved s c o).unsent (moved s c o).sent
unfolding after_status after_expiry
after-faces s (Offer sdu) o has f = record {
  unsent' = ap (λ (ps : List Place). ps ++ places true sdu) f.unsent'
      ∙ sym (stream-end s.queue.begun s.queue.sdus sdu f.idle);
  octets = some-append s.queue.sdus sdu f.octets has;
  idle = λ e. absurd (let l = length-append s.queue.sdus (sdu ∷ []) in omega (arith, e, l));
  number = f.number;
  slots = f.slots;
}
after-faces s (Take size held more) o has f =
    turn-faces (turn s size held more) s size more o (new-able s size held more) f
after-faces s (Status status) o has f = status-faces (is_ignored s status.ack) s status o.unsent o.sent f
after-faces s Tick o has f = same-faces s (after s Tick) o.unsent o.sent refl refl refl f
after-faces s (Expire more) o has f = expiry-faces (runs s.polls.timer) s more o.unsent o.sent f
after-faces s (Settle more) o has f = settled-faces (settles s more) s o.unsent o.sent f
after-faces s Confirm o has f = same-faces s (after s Confirm) o.unsent o.sent refl refl refl f

pub record Keeps (s : State) (o : Octets) : Type 0 where
  pub faces : Faces s o.unsent o.sent
  pub stands : Stands s o.marks

pub after-keeps : (s : State) (c : Call) (o : Octets) → HasOctets c → Keeps s o → Keeps (after s c) (octets_after s c o)
after-keeps s c o has k = record { faces = after-faces s c o has k.faces; stands = after-stands s c o.marks k.stands }

-- ---- what `take` answers

again-known : (s : State) (o : Octets) → Keeps s o → waits s ≡ true → number_again s < length o.sent
again-known s o k w = let n = k.faces.number in let b = is-below s w in omega (arith, n, b)

all-of : (n : ℕ) → (n - 0 == n) ≡ true
all-of n = grind (arith, nat_tests)

-- all octets of a PDU
pub again-whole : (o : Octets) (number : ℕ) (poll : Bool)
    → again_octets o number 0 (length (sent_with o number)) poll ≡ written number poll None (sent_with o number)
again-whole o number poll =
    ap (λ (qs : List Place). written number poll
    (segment_of 0 (length (sent_with o number)) (length (sent_with o number))) qs)
    (range-all (sent_with o number) (length (sent_with o number)) refl)
    ∙ ap
    (λ (c : Bool). written number poll (if c then None
    else Some (record { last = length (sent_with o number) == length (sent_with o number); so = 0 }))
    (sent_with o number)) (all-of (length (sent_with o number)))

-- those of a segment
again-part : (o : Octets) (number from to : ℕ) (poll : Bool) → (to - from == length (sent_with o number)) ≡ false
    → again_octets o number from to poll
    ≡ written number poll (Some (record { last = to == length (sent_with o number); so = from }))
    (slice_range (sent_with o number) from to)
again-part o number from to poll e =
    ap (λ (c : Bool). written number poll (if c then None
    else Some (record { last = to == length (sent_with o number); so = from }))
    (slice_range (sent_with o number) from to)) e

whole-again : (s : State) (size : ℕ) (o : Octets) (poll : Bool) → Keeps s o → waits s ≡ true
    → whole_size (again s) ≤ size → IsWhole s o.marks
    → IsAgain s size 0 (length (sent_with o (number_again s))) o
    (taken.Piece (number_again s) false poll (whole_octets (again s) (number_again s) poll))
whole-again s size o poll k w small r = record {
  sent = again-known s o k w;
  some = face-some (key (again s)) (sent_with o (number_again s)) f;
  within = omega arith;
  waits = λ i lo lt. r.waits i (omega (arith, lt, l));
  is = ap (λ (xs : List ℕ). taken.Piece (number_again s) false poll xs)
      (whole-is (again s) (sent_with o (number_again s)) (number_again s) poll f
      ∙ sym (again-whole o (number_again s) poll));
  fits = let e = ap (λ (xs : List ℕ). length xs) (again-whole o (number_again s) poll) in
      let n = whole-len (again s) (sent_with o (number_again s)) (number_again s) poll f in
      omega (arith, e, n, small);
  most = λ j lt le all fit. le;
}
  where
    f : IsFace (key (again s)) (sent_with o (number_again s))
    f = k.faces.slots (first_place s) (is-below s w)

    l : length (again s).field ≡ length (sent_with o (number_again s))
    l = face-length (key (again s)) (sent_with o (number_again s)) f

part-again : (s : State) (size : ℕ) (o : Octets) (poll : Bool) → Keeps s o → (waits s ≡ true) × (5 ≤ size)
    → (all_wait (again s) && nat_le (whole_size (again s)) size) ≡ false → IsSegment s size o.marks
    → IsAgain s size (next_stretch (again s) size).from (next_stretch (again s) size).to o
    (taken.Piece (number_again s) false poll
    (part_octets (again s) (number_again s) poll (next_stretch (again s) size)))
part-again s size o poll k w part r = record {
  sent = again-known s o k w.0;
  some = r.some;
  within = within;
  waits = r.waits;
  is = ap (λ (xs : List ℕ). taken.Piece (number_again s) false poll xs)
      (part-is (again s) ps (number_again s) poll t f r.some within sh.lens
      ∙ sym (again-part o (number_again s) t.from t.to poll short));
  fits =
      let e = ap (λ (xs : List ℕ). length xs) (again-part o (number_again s) t.from t.to poll short) in
      let n = part-len (again s) ps (number_again s) poll (record { last = t.to == length ps; so = t.from }) t.from
      t.to f r.some within in
      let c = ap (λ (ls : List ℕ). header_len 4 (length ls) + sum ls) sh.lens in
      let d = clip-sum t.from t.to (again s).lens in
      let x = sh.fits in let v = f.whole in let lt = r.some in
      omega (arith, e, n, c, d, x, v, l, lt, within);
  most = λ j lt le all fit. by j lt le all fit (j - t.from == length ps) refl;
}
  where
    t : Stretch
    t = next_stretch (again s) size

    ps : List Place
    ps = sent_with o (number_again s)

    f : IsFace (key (again s)) ps
    f = k.faces.slots (first_place s) (is-below s w.0)

    l : length (again s).field ≡ length ps
    l = face-length (key (again s)) ps f

    within : t.to ≤ length ps
    within = let i = r.within in omega (arith, l, i)

    sh : IsShare (again s) size t (all_wait (again s)) (o.marks.waits (number_again s))
    sh = share (again s) size (o.marks.waits (number_again s)) (o.marks.namings (number_again s)) s.config.max_retx
        (k.stands.slots (first_place s) (is-below s w.0)) f.written (first-waits s.window.slots (is-below s w.0)) w.1

    short : (t.to - t.from == length ps) ≡ false
    short = less (again s) ps size t (o.marks.waits (number_again s)) f sh r.some within r.waits part

    by : (j : ℕ) → t.from < j → j ≤ length ps
        → ((i : ℕ) → t.from ≤ i → i < j → o.marks.waits (number_again s) i ≡ true)
        → length (again_octets o (number_again s) t.from j poll) ≤ size → (b : Bool) → (j - t.from == length ps) ≡ b
        → j ≤ t.to
    by j lt le all fit false e =
        let p = ap (λ (xs : List ℕ). length xs) (again-part o (number_again s) t.from j poll e) in
        let n = part-len (again s) ps (number_again s) poll (record { last = j == length ps; so = t.from }) t.from j f
        lt le in
        sh.most j lt (omega (arith, le, l)) all (omega (arith, p, n, fit))
    by j lt le all fit true e =
        let m : j - t.from ≡ length ps = grind (arith, nat_tests) in
        let z : t.from ≡ 0 = omega arith in
        let y : j ≡ length ps = omega arith in
        let p = ap (λ (i : ℕ). length (again_octets o (number_again s) i j poll)) z in
        let q = ap (λ (i : ℕ). length (again_octets o (number_again s) 0 i poll)) y in
        let v = ap (λ (xs : List ℕ). length xs) (again-whole o (number_again s) poll) in
        let n = whole-len (again s) ps (number_again s) poll f in
        absurd (clash (again s) size (sh.all' z (λ i i_in. all i (omega (arith, z)) (omega (arith, i_in, y, l))))
        (omega (arith, p, q, v, n, fit)) part)

written-of : (t : Turn) (s : State) (size : ℕ) (more : Bool) (o : Octets) → Keeps s o
    → (t ≡ turns.New → (0 < length s.queue.sdus) × (3 ≤ size))
    → (t ≡ turns.Whole → (waits s ≡ true) × (whole_size (again s) ≤ size))
    → (t ≡ turns.Part → (waits s ≡ true) × (5 ≤ size))
    → (t ≡ turns.Part → (all_wait (again s) && nat_le (whole_size (again s)) size) ≡ false)
    → IsResent t s size o.marks → IsWritten t s size o (answer_of t s size more)
unfolding answer_of
written-of turns.New s size more o k new whole' part' short r =
    let f = k.faces in
    record {
      some = new-some s size o.unsent o.sent f (new refl);
      there = new-there s size o.unsent o.sent f;
      is =
          ap (λ (n : ℕ). taken.Piece n true (is_wanted (sent_new s size) more)
          (whole_octets (new_slot s size) n (is_wanted (sent_new s size) more))) (sym f.number)
          ∙ ap (λ (xs : List ℕ). taken.Piece (length o.sent) true (is_wanted (sent_new s size) more) xs)
          (whole-is (new_slot s size) (take (new_count s size) o.unsent) (length o.sent)
          (is_wanted (sent_new s size) more) (new-face s size o.unsent o.sent f (new refl)));
    }
written-of turns.Whole s size more o k new whole' part' short r =
    whole-again s size o (is_wanted (sent_whole s) more) k (whole' refl).0 (whole' refl).1 r
written-of turns.Part s size more o k new whole' part' short r =
    part-again s size o (is_wanted (sent_segment s size) more) k (part' refl) (short refl) r
written-of turns.Idle s size more o k new whole' part' short r = tt
written-of turns.Stopped s size more o k new whole' part' short r = tt
written-of turns.Small s size more o k new whole' part' short r = tt
written-of turns.Shut s size more o k new whole' part' short r = tt
written-of turns.Held s size more o k new whole' part' short r = tt

pub run-keeps : (calls : List Call) (w : World Octets) → AllByRecursion HasOctets calls → Keeps w.state w.past
    → Keeps (run_am_sender octets_after calls w).state (run_am_sender octets_after calls w).past
run-keeps [] w h k = k
run-keeps (c ∷ cs) w h k =
    run-keeps cs (record { state = after w.state c; past = octets_after w.state c w.past }) h.1
    (after-keeps w.state c w.past h.0 k)

taking : (s : State) (size : ℕ) (held : Option ℕ) (more : Bool) (o : Octets) → Keeps s o
    → IsWritten (turn s size held more) s size o (answer_of (turn s size held more) s size more)
taking s size held more o k =
    written-of (turn s size held more) s size more o k (new-able s size held more)
    (λ e. ((whole-waits s size held more e).0, whole-fits s size held more e)) (is-part s size held more)
    (part-case s size held more)
    (resent-of (turn s size held more) s size o.marks k.stands (whole-waits s size held more)
    (is-part s size held more))

pub start-keeps : (config : AmTxConfig) → Keeps (begun config nothing_sent).state (begun config nothing_sent).past
start-keeps config = record {
  faces = record { unsent' = refl; octets = tt; idle = λ e. refl; number = refl; slots = λ k lt. absurd (omega arith) };
  stands = start-stands config;
}

pub writes : WritesTheStream
writes config calls size held more h =
    taking (run_am_sender octets_after calls (begun config nothing_sent)).state size held more
    (run_am_sender octets_after calls (begun config nothing_sent)).past
    (run-keeps calls (begun config nothing_sent) h (start-keeps config))
